-- What connections that were served one after another made of a pass.
use Rattle.std.proofs.Common.{ℕ, ◌≡◌, ◌≤◌, ◌<◌, ◌∙◌, ◌⊎◌, ◌+◌, ◌++◌, inl, inr, List, [], ◌∷◌, Option, None, Some, length, refl, sym, ap, subst, append-nil, append_assoc, arith, length-append}
use mathlib.Core.List.{IsPrefix}
use Rattle.cluster.specs.declared.entry.Entry.{Entry}
use Rattle.turn_lock.specs.Known.{IsFree, Known}
use Rattle.api_server.specs.Ledgers.{with_added}
use Rattle.http_wire.specs.Requests.{Message}
use Rattle.api_server.specs.Connections.{Connected, job_of}
use Rattle.api_server.specs.Entries.{AreEntries, Grew, HasMade, IsEntry, IsOfOne}
use Rattle.api_server.specs.declared.end.ConnEnd.{ConnEnd}
use Rattle.api_server.specs.declared.service.Service.{Service}
use Rattle.api_server.specs.Talks.{AreTalks, IsTalk, Talk, Terms}
use Rattle.api_server.specs.Whole.{IsOfTalk}

-- the law of what a connection makes
abbrev pub Makes : Type 0
Makes = (s : Service) (began now : Known Entry) (l l' w w' : Option (List ℕ)) (e : ConnEnd) → IsFree began → Connected s began now l l' w w' e → HasMade s began now l l'

-- ---- fronts and indices

pub prefix_trans : (a b c : List Entry) → IsPrefix a b → IsPrefix b c → IsPrefix a c
prefix_trans a b c p q = (p.0 ++ q.0, sym (append_assoc a p.0 q.0) ∙ ap (λ (xs : List Entry). xs ++ q.0) p.1 ∙ q.1)

pub prefix_long : (a b : List Entry) → IsPrefix a b → length a ≤ length b
prefix_long a b p = let e : length (a ++ p.0) ≡ length b = ap length p.1 in omega (arith, length-append a p.0)

pub weaker : (P Q : Entry → Type 0) (from low : ℕ) (h h' : List Entry) (ps : List ℕ) → ((e : Entry) → P e → Q e) → low ≤ from → IsPrefix h h' → AreEntries P from h ps → AreEntries Q low h' ps
weaker P Q from low h h' [] f le p es = tt
weaker P Q from low h h' (x ∷ ps) f le p es =
    let e = es.0 in (
      record {
        before = e.before;
        entry = e.entry;
        rest = e.rest ++ p.0;
        is = sym p.1 ∙ ap (λ (xs : List Entry). xs ++ p.0) e.is ∙ append_assoc e.before (e.entry ∷ e.rest) p.0;
        place_is = e.place_is;
        past = (let past = e.past in omega (arith, past, le));
        fact = f e.entry e.fact;
      },
      weaker P Q from low h h' ps f le p es.1,
    )

pub entries_join : (P : Entry → Type 0) (from : ℕ) (h : List Entry) (ps qs : List ℕ) → AreEntries P from h ps → AreEntries P from h qs → AreEntries P from h (ps ++ qs)
entries_join P from h [] qs a b = b
entries_join P from h (p ∷ ps) qs a b = (a.0, entries_join P from h ps qs a.1 b)

abbrev with_own : Known Entry → List Entry → List ℕ → Known Entry
with_own old front own = record { table = old.table; front = front; own = own; share = old.share; number = old.number; turn = None }

pub added_none : (old : Known Entry) → IsFree old → old ≡ with_added old old.front []
added_none old free = ap (λ (t : Option (List Entry)). record { table = old.table; front = old.front; own = old.own; share = old.share; number = old.number; turn = t }) free ∙ ap (λ (xs : List ℕ). with_own old old.front xs) (sym (append-nil old.own))

pub added_join : (old mid new : Known Entry) (a b : List ℕ) → mid ≡ with_added old mid.front a → new ≡ with_added mid new.front b → new ≡ with_added old new.front (a ++ b)
added_join old mid new a b first then = subst (λ (d : Known Entry). new ≡ with_added d new.front b) first then ∙ ap (λ (xs : List ℕ). with_own old new.front xs) (append_assoc old.own a b)

pub free_then : (old new : Known Entry) (a : List ℕ) → new ≡ with_added old new.front a → IsFree new
free_then old new a is = ap (λ (k : Known Entry). k.turn) is

-- ---- connections

-- the entries of one connection are of one of its jobs
of_job : (s : Service) (index : ℕ) (ms : List Message) (e : Entry) → index + length ms ≤ 65536 → IsOfOne s index ms e → (i : ℕ) × (i ≤ 65535) × (e.job ≡ job_of s.number i)
of_job s index [] e le is = absurd is
of_job s index (m ∷ ms) e le (inl is) = (index, omega (arith, le), is.job_is)
of_job s index (m ∷ ms) e le (inr is) = of_job s (index + 1) ms e (omega (arith, le)) is

-- what connections made of a pass
pub record Made (ks : List Talk) (old new : Known Entry) : Type 0 where
  pub added : List ℕ
  pub is : new ≡ with_added old new.front added
  pub extends : IsPrefix old.front new.front
  pub made : AreEntries (IsOfTalk ks) (length old.front) new.front added

pub made_one : Makes → (t : Terms) (k : Talk) (ks : List Talk) (old new : Known Entry) → IsFree old → IsTalk t old new k → Made (k ∷ ks) old new
made_one makes t k ks old new free is =
    let s : Service = record { number = k.number; budget = t.budget; attempts = t.attempts } in
    let m = makes s old new k.left_before k.left_after k.written_before k.written_after k.end free is.connected in record {
      added = m.grew.added;
      is = m.grew.is;
      extends = m.grew.extends;
      made = weaker (IsOfOne s 1 m.ms) (IsOfTalk (k ∷ ks)) (length old.front) (length old.front) new.front new.front m.grew.added
          (λ e i. inl (of_job s 1 m.ms e (let few = m.few in omega (arith, few)) i)) (omega arith) ([], append-nil new.front) m.grew.made;
    }

pub made_all : Makes → (t : Terms) (ks : List Talk) (old new : Known Entry) → IsFree old → AreTalks t old new ks → Made ks old new
made_all makes t [] old new free are = subst (λ (k : Known Entry). Made [] old k) (sym are) (record { added = []; is = added_none old free; extends = ([], append-nil old.front); made = tt })
made_all makes t (k ∷ ks) old new free (mid, is, more) =
    let one : Made (k ∷ ks) old mid = made_one makes t k ks old mid free is in
    let rest : Made ks mid new = made_all makes t ks mid new (free_then old mid one.added one.is) more in record {
      added = one.added ++ rest.added;
      is = added_join old mid new one.added rest.added one.is rest.is;
      extends = prefix_trans old.front mid.front new.front one.extends rest.extends;
      made = entries_join (IsOfTalk (k ∷ ks)) (length old.front) new.front one.added rest.added
          (weaker (IsOfTalk (k ∷ ks)) (IsOfTalk (k ∷ ks)) (length old.front) (length old.front) mid.front new.front one.added (λ e i. i) (omega arith) rest.extends one.made)
          (weaker (IsOfTalk ks) (IsOfTalk (k ∷ ks)) (length mid.front) (length old.front) new.front new.front rest.added (λ e i. inr i) (prefix_long old.front mid.front one.extends) ([], append-nil new.front) rest.made);
    }
