-- Each connection made all entries of its jobs.
use Rattle.std.proofs.Common.{ℕ, zero, suc, ◌≡◌, ◌∙◌, ◌+◌, ◌*◌, ◌≤◌, ◌<◌, ◌++◌, ◌⊎◌, inl, inr, List, [], ◌∷◌, Bool, true, false, cond, eqb, length, refl, sym, ap, subst, arith, append_assoc, append-nil, length-append, eq-eqb, eqb-true, ⊎_elim}
use mathlib.Core.List.{IsPrefix}
use Rattle.cluster.specs.declared.entry.Entry.{Entry}
use Rattle.turn_lock.specs.Known.{Known}
use Rattle.turn_lock.specs.Places.{OwnsAll, times}
use Rattle.histories.specs.Histories.{Each}
use Rattle.api_server.specs.Ledgers.{AllIn}
use Rattle.api_server.specs.Connections.{job_of}
use Rattle.api_server.specs.Entries.{AreEntries, IsEntry}
use Rattle.api_server.specs.Talks.{Talk, Terms}
use Rattle.api_server.specs.Parts.{AllDid, IsOfJob, Part, PartDid, added_of, talks_of}
use Rattle.api_server.specs.Whole.{AllStandIn, IsOfTalk, StandsIn, numbers_of}

-- ---- lists

pub times_append : (k : ℕ) (xs ys : List ℕ) → times k (xs ++ ys) ≡ times k xs + times k ys
times_append k [] ys = omega arith
times_append k (x ∷ xs) ys = let r = times_append k xs ys in omega arith

pub pos_split : (a b : ℕ) → 0 < a + b → (0 < a) ⊎ (0 < b)
pos_split zero b lt = inr (omega arith)
pos_split (suc a) b lt = inl (omega arith)

count_same : (n x : ℕ) (xs : List ℕ) → n ≡ x → times n (x ∷ xs) ≡ 1 + times n xs
count_same n x xs e = ap (λ (b : Bool). cond {A = ℕ} b 1 0 + times n xs) (eq-eqb n x e)

same_entry : (a b : List Entry) (x y : Entry) (xs ys : List Entry) → a ++ x ∷ xs ≡ b ++ y ∷ ys → length a ≡ length b → x ≡ y
same_entry [] [] x y xs ys e n = cc
same_entry [] (d ∷ b) x y xs ys e n = absurd (omega arith)
same_entry (c ∷ a) [] x y xs ys e n = absurd (omega arith)
same_entry (c ∷ a) (d ∷ b) x y xs ys e n = same_entry a b x y xs ys (cc) (omega arith)

-- what is said of each entry at its place
pub from_places : (P : List Entry → Entry → Type 0) (before es : List Entry) → ((b : List Entry) (e : Entry) (rest : List Entry) → before ++ es ≡ b ++ e ∷ rest → P b e) → Each P before es
unfolding Each
from_places P before [] f = tt
from_places P before (e ∷ es) f = (f before e es refl, from_places P (before ++ e ∷ []) es (λ b d rest is. f b d rest (sym (append_assoc before (e ∷ []) es) ∙ is)))

-- ---- parts

-- what holds of the entry at one of these indices
pub fact_at : (P : Entry → Type 0) (from : ℕ) (h : List Entry) (ps : List ℕ) (b : List Entry) (e : Entry) (rest : List Entry) → AreEntries P from h ps → h ≡ b ++ e ∷ rest → 0 < times (length b + 1) ps → P e
fact_at P from h [] b e rest are is lt = absurd (omega arith)
fact_at P from h (p ∷ ps) b e rest are is lt = pick (eqb (length b + 1) p) refl (λ more. fact_at P from h ps b e rest are.1 is more)
  where
    pick : (x : Bool) → eqb (length b + 1) p ≡ x → (0 < times (length b + 1) ps → P e) → P e
    pick true t more =
        let m = are.0 in
        let here : length b + 1 ≡ p = eqb-true (length b + 1) p t in
        let i = m.place_is in
        subst P (same_entry m.before b m.entry e m.rest rest (sym m.is ∙ is) (omega (arith, here, i))) m.fact
    pick false t more =
        let first : cond {A = ℕ} (eqb (length b + 1) p) 1 0 + times (length b + 1) ps ≡ 0 + times (length b + 1) ps = ap (λ (x : Bool). cond {A = ℕ} x 1 0 + times (length b + 1) ps) t in
        more (omega arith)

-- ---- whose an index is

abbrev pub HasPart : Part → List Part → Type 0
HasPart d [] = ⊥
HasPart d (x ∷ xs) = (d ≡ x) ⊎ HasPart d xs

-- jobs of two connections differ
same_number : (n m i j job : ℕ) → i ≤ 65535 → j ≤ 65535 → job ≡ job_of n i → job ≡ job_of m j → n ≡ m
same_number n m i j job le lf a b = omega (arith, le, lf, a, b)

number_there : (d : Part) (ps : List Part) → HasPart d ps → 0 < times d.talk.number (numbers_of (talks_of ps))
number_there d [] in_ = absurd in_
number_there d (x ∷ xs) (inl e) = let c = count_same d.talk.number x.talk.number (numbers_of (talks_of xs)) (ap (λ (p : Part). p.talk.number) e) in omega arith
number_there d (x ∷ xs) (inr i) = let r = number_there d xs i in omega arith

-- no two have one number
abbrev pub Apart : List Part → Type 0
Apart ps = (n : ℕ) → times n (numbers_of (talks_of ps)) ≤ 1

-- an index of the parts is one of an entry of a connection's job
pub some_owner : (t : Terms) (number : ℕ) (h : List Entry) (ps : List Part) (b : List Entry) (e : Entry) (rest : List Entry) → AllDid t number h ps → h ≡ b ++ e ∷ rest → 0 < times (length b + 1) (added_of ps) → IsOfTalk (talks_of ps) e
some_owner t number h [] b e rest did is lt = absurd (omega arith)
some_owner t number h (x ∷ xs) b e rest did is lt =
    let s = times_append (length b + 1) x.added (added_of xs) in
    ⊎_elim {C = IsOfTalk (talks_of (x ∷ xs)) e}
    (λ a. inl (fact_at (IsOfJob x.talk) 0 h x.added b e rest did.0.made is a))
    (λ c. inr (some_owner t number h xs b e rest did.1 is c))
    (pos_split (times (length b + 1) x.added) (times (length b + 1) (added_of xs)) (omega (arith, s, lt)))

owner_number : (n i : ℕ) (ks : List Talk) (e : Entry) → i ≤ 65535 → e.job ≡ job_of n i → IsOfTalk ks e → 0 < times n (numbers_of ks)
owner_number n i [] e le mine is = absurd is
owner_number n i (k ∷ ks) e le mine (inl (j, lf, is)) = let c = count_same n k.number (numbers_of ks) (same_number n k.number i j e.job le lf mine is) in omega (arith, c)
owner_number n i (k ∷ ks) e le mine (inr is) = let r = owner_number n i ks e le mine is in omega (arith, r)

pub owner : (t : Terms) (number : ℕ) (h : List Entry) (ps : List Part) (d : Part) (i : ℕ) (b : List Entry) (e : Entry) (rest : List Entry) → AllDid t number h ps → Apart ps → h ≡ b ++ e ∷ rest → HasPart d ps → i ≤ 65535 → e.job ≡ job_of d.talk.number i → 0 < times (length b + 1) (added_of ps) → 0 < times (length b + 1) d.added
owner t number h [] d i b e rest did apart is there le mine lt = absurd there
owner t number h (x ∷ xs) d i b e rest did apart is there le mine lt =
    let s = times_append (length b + 1) x.added (added_of xs) in
    let apart' : Apart xs = λ n. let a = apart n in omega (arith, a) in
    ⊎_elim {C = 0 < times (length b + 1) d.added}
    (λ a.
    let o : IsOfJob x.talk e = fact_at (IsOfJob x.talk) 0 h x.added b e rest did.0.made is a in
    let same : d.talk.number ≡ x.talk.number = same_number d.talk.number x.talk.number i o.0 e.job le o.1 mine o.2 in
    ⊎_elim {C = 0 < times (length b + 1) d.added}
    (λ here. subst (λ (p : Part). 0 < times (length b + 1) p.added) (sym here) a)
    (λ later.
    let c = count_same d.talk.number x.talk.number (numbers_of (talks_of xs)) same in
    let more = number_there d xs later in
    let most = apart d.talk.number in
    absurd (omega (arith, c, more, most)))
    there)
    (λ o.
    ⊎_elim {C = 0 < times (length b + 1) d.added}
    (λ here.
    let c = count_same d.talk.number x.talk.number (numbers_of (talks_of xs)) (ap (λ (p : Part). p.talk.number) here) in
    let more = owner_number d.talk.number i (talks_of xs) e le mine (some_owner t number h xs b e rest did.1 is o) in
    let most = apart d.talk.number in
    absurd (omega (arith, c, more, most)))
    (λ later. owner t number h xs d i b e rest did.1 apart' is later le mine o)
    there)
    (pos_split (times (length b + 1) x.added) (times (length b + 1) (added_of xs)) (omega (arith, s, lt)))

-- ---- each connection made all entries of its jobs

within : (h b : List Entry) (e : Entry) (rest : List Entry) → h ≡ b ++ e ∷ rest → length b + 1 ≤ length h
within h b e rest is = let n : length h ≡ length (b ++ e ∷ rest) = ap length is in omega (arith, n, length-append b (e ∷ rest))

alone : (t : Terms) (number : ℕ) (h : List Entry) (ps : List Part) (d : Part) (i : ℕ) → AllDid t number h ps → Apart ps → OwnsAll [] h (added_of ps) → HasPart d ps → i ≤ 65535 → AllIn (job_of d.talk.number i) d.added h
alone t number h ps d i did apart owns there le =
    from_places (λ b e. e.job ≡ job_of d.talk.number i → 0 < times (length b + 1) d.added) [] h
    (λ b e rest is mine. let one = owns.each (length b + 1) (omega arith) (within h b e rest is) in owner t number h ps d i b e rest did apart is there le mine (omega (arith, one)))

stands_in : (t : Terms) (number : ℕ) (h : List Entry) (ps : List Part) (d : Part) → AllDid t number h ps → PartDid t number h d → Apart ps → OwnsAll [] h (added_of ps) → HasPart d ps → StandsIn t number h d.talk
stands_in t number h ps d did one apart owns there = record {
  old = d.old;
  new = d.new;
  free = one.free;
  is = one.is;
  begins = one.begins;
  number_is = one.number_is;
  added = d.added;
  made = ap (λ (k : Known Entry). k.own) one.added_is;
  alone = λ i le. alone t number h ps d i did apart owns there le;
}

all_stand : (t : Terms) (number : ℕ) (h : List Entry) (ps some : List Part) → AllDid t number h ps → AllDid t number h some → Apart ps → OwnsAll [] h (added_of ps) → ((d : Part) → HasPart d some → HasPart d ps) → AllStandIn t number h (talks_of some)
all_stand t number h ps [] did these apart owns there = tt
all_stand t number h ps (d ∷ some) did these apart owns there = (
  stands_in t number h ps d did these.0 apart owns (there d (inl refl)),
  all_stand t number h ps some did these.1 apart owns (λ x in_. there x (inr in_)),
)

pub stand_all : (t : Terms) (number : ℕ) (h : List Entry) (ps : List Part) → AllDid t number h ps → Apart ps → OwnsAll [] h (added_of ps) → AllStandIn t number h (talks_of ps)
stand_all t number h ps did apart owns = all_stand t number h ps ps did did apart owns (λ d in_. in_)

pub no_other : (t : Terms) (number : ℕ) (h : List Entry) (ps : List Part) → AllDid t number h ps → OwnsAll [] h (added_of ps) → Each (λ before e. IsOfTalk (talks_of ps) e) [] h
no_other t number h ps did owns =
    from_places (λ b e. IsOfTalk (talks_of ps) e) [] h
    (λ b e rest is. let one = owns.each (length b + 1) (omega arith) (within h b e rest is) in some_owner t number h ps b e rest did is (omega (arith, one)))
