-- A line is cut into the index, the job, the kind and the rest.
use Rattle.std.proofs.Common.{ℕ, ◌≡◌, ◌∙◌, ◌++◌, ◌<◌, ◌^◌, ◌==◌, List, [], ◌∷◌, Bool, true, false, not, nat_lt, Option, None, Some, map, refl, sym, ap, append_assoc, arith}
use Rattle.std.specs.Prelude.{codes, decimal, is_some, IfSome}
use Rattle.std.specs.List.{list_all}
use Rattle.std.proofs.lemmas.Bool.{and_from, and_parts, ltb-false, ne_eqb}
use Rattle.std.proofs.lemmas.Fmt.{decimal_injective}
use Rattle.std.proofs.lemmas.List.{append_cancel_right, map-append}
use Rattle.cluster.specs.declared.entry.Entry.{Entry}
use Rattle.histories.specs.Determined.{decided_at, kind_word}
use Rattle.journal_text.specs.Journal.{clean, event_text, line_of}
use Rattle.journal_laws.specs.Told.{HasClearIndex, is_unbroken, names_before_index}
use Rattle.journal_laws.proofs.Cuts.{cut, lacks, lacks_append, tail_same}
use Rattle.journal_laws.proofs.Digits.{clean_digits, decimal_digits, digits_lack}
use Rattle.journal_laws.proofs.Events.{HasIndex, TellsIndex, both_decide, kind_clear, spelled}

-- ---- control characters

off_blank : (t u : Bool) (b : ℕ) → nat_lt b 32 ≡ t → (b == 127) ≡ u → not (b == 32) ≡ true → not (clean b == 32) ≡ true
off_blank true u b p q h = rw p refl
off_blank false true b p q h = rw (p, q) refl
off_blank false false b p q h = rw (p, q) h

clean_lacks : (bs : List ℕ) → lacks 32 bs ≡ true → lacks 32 (map clean bs) ≡ true
clean_lacks [] h = refl
clean_lacks (b ∷ bs) h = let p = and_parts _ _ h in and_from _ _ (off_blank (nat_lt b 32) (b == 127) b refl refl p.0) (clean_lacks bs p.1)

off_end : (t u : Bool) (b : ℕ) → nat_lt b 32 ≡ t → (b == 127) ≡ u → not (clean b == 10) ≡ true
off_end true u b p q = rw p refl
off_end false true b p q = rw (p, q) refl
off_end false false b p q = rw (p, q) (ap not (ne_eqb b 10 (λ e. omega (arith, e, ltb-false b 32 p))))

pub clean_ends : (bs : List ℕ) → lacks 10 (map clean bs) ≡ true
clean_ends [] = refl
clean_ends (b ∷ bs) = and_from _ _ (off_end (nat_lt b 32) (b == 127) b refl refl) (clean_ends bs)

clean_cut : (a r : List ℕ) → map clean (a ++ 32 ∷ r) ≡ map clean a ++ 32 ∷ map clean r
clean_cut a r = map-append clean a (32 ∷ r)

clean_word : (a r b : List ℕ) → map clean a ≡ b → map clean (a ++ 32 ∷ r) ≡ b ++ 32 ∷ map clean r
clean_word a r b same = clean_cut a r ∙ ap (λ (l : List ℕ). l ++ 32 ∷ map clean r) same

-- ---- the parts of a line

abbrev pub parts : ℕ → ℕ → List ℕ → List ℕ → List ℕ
parts p j w r = decimal p ++ 32 ∷ (decimal j ++ 32 ∷ (w ++ 32 ∷ r))

in_row : (a b w r text : List ℕ) → text ≡ w ++ 32 ∷ r → a ++ codes " " ++ b ++ codes " " ++ text ≡ a ++ 32 ∷ (b ++ 32 ∷ (w ++ 32 ∷ r))
in_row a b w r text is =
    let row : a ++ codes " " ++ b ++ codes " " ++ text ≡ a ++ 32 ∷ (b ++ 32 ∷ text) = simp append_assoc in
    row ∙ ap (λ (l : List ℕ). a ++ 32 ∷ (b ++ 32 ∷ l)) is

spread : (a b w r : List ℕ) → map clean a ≡ a → map clean b ≡ b → map clean w ≡ w → map clean (a ++ 32 ∷ (b ++ 32 ∷ (w ++ 32 ∷ r))) ≡ a ++ 32 ∷ (b ++ 32 ∷ (w ++ 32 ∷ map clean r))
spread a b w r p q s =
    clean_word a (b ++ 32 ∷ (w ++ 32 ∷ r)) a p
    ∙ ap (λ (l : List ℕ). a ++ 32 ∷ l) (clean_word b (w ++ 32 ∷ r) b q ∙ ap (λ (l : List ℕ). b ++ 32 ∷ l) (clean_word w r w s))

pub line_parts : (p : ℕ) (e : Entry) → line_of p e ≡ parts p e.job (kind_word e.event) (map clean (spelled e.event).rest) ++ codes "\n"
unfolding line_of
line_parts p e =
    let s = spelled e.event in
    ap (λ (l : List ℕ). map clean l ++ codes "\n") (in_row (decimal p) (decimal e.job) (kind_word e.event) s.rest (event_text e.event) s.is)
    ∙ ap (λ (l : List ℕ). l ++ codes "\n")
    (spread (decimal p) (decimal e.job) (kind_word e.event) s.rest (clean_digits (decimal p) (decimal_digits p)) (clean_digits (decimal e.job) (decimal_digits e.job)) (kind_clear e.event).1)

pub line_ends : (p : ℕ) (e : Entry) → (text : List ℕ) × (lacks 10 text ≡ true) × (line_of p e ≡ text ++ codes "\n")
unfolding line_of
line_ends p e =
    let text : List ℕ = decimal p ++ codes " " ++ decimal e.job ++ codes " " ++ event_text e.event in
    (map clean text, clean_ends text, refl)

pub record AreSame (p q : ℕ) (d e : Entry) : Type 0 where
  pub indexes : decimal p ≡ decimal q
  pub jobs : decimal d.job ≡ decimal e.job
  pub kinds : kind_word d.event ≡ kind_word e.event
  pub rests : map clean (spelled d.event).rest ≡ map clean (spelled e.event).rest

digits_clear : (n : ℕ) → lacks 32 (decimal n) ≡ true
digits_clear n = digits_lack 32 (decimal n) (omega arith) (decimal_digits n)

pub same_parts : (p q : ℕ) (d e : Entry) → line_of p d ≡ line_of q e → AreSame p q d e
same_parts p q d e same =
    let r = map clean (spelled d.event).rest in
    let s = map clean (spelled e.event).rest in
    let v = kind_word d.event in
    let w = kind_word e.event in
    let bodies : parts p d.job v r ≡ parts q e.job w s = append_cancel_right (parts p d.job v r) (parts q e.job w s) (codes "\n") (sym (line_parts p d) ∙ same ∙ line_parts q e) in
    let one = cut 32 (decimal p) (decimal q) (decimal d.job ++ 32 ∷ (v ++ 32 ∷ r)) (decimal e.job ++ 32 ∷ (w ++ 32 ∷ s)) (digits_clear p) (digits_clear q) bodies in
    let two = cut 32 (decimal d.job) (decimal e.job) (v ++ 32 ∷ r) (w ++ 32 ∷ s) (digits_clear d.job) (digits_clear e.job) one.1 in
    let three = cut 32 v w r s (kind_clear d.event).0 (kind_clear e.event).0 two.1 in
    record { indexes = one.0; jobs = two.0; kinds = three.0; rests = three.1 }

-- ---- the index of a plan or a verdict

at_clear : (n : ℕ) → lacks 32 (codes "at=" ++ decimal n) ≡ true
at_clear n = lacks_append 32 (codes "at=") (decimal n) refl (digits_clear n)

at_clean : (n : ℕ) → map clean (codes "at=" ++ decimal n) ≡ codes "at=" ++ decimal n
at_clean n = ap (λ (l : List ℕ). codes "at=" ++ l) (clean_digits (decimal n) (decimal_digits n))

index_clean : (a b c r : List ℕ) (n : ℕ) → r ≡ a ++ 32 ∷ (b ++ 32 ∷ ((codes "at=" ++ decimal n) ++ 32 ∷ c)) → map clean r ≡ map clean a ++ 32 ∷ (map clean b ++ 32 ∷ ((codes "at=" ++ decimal n) ++ 32 ∷ map clean c))
index_clean a b c r n is =
    ap (λ (l : List ℕ). map clean l) is ∙ clean_cut a (b ++ 32 ∷ ((codes "at=" ++ decimal n) ++ 32 ∷ c))
    ∙ ap (λ (l : List ℕ). map clean a ++ 32 ∷ l)
    (clean_cut b ((codes "at=" ++ decimal n) ++ 32 ∷ c) ∙ ap (λ (l : List ℕ). map clean b ++ 32 ∷ l) (clean_word (codes "at=" ++ decimal n) c (codes "at=" ++ decimal n) (at_clean n)))

behind_at : (m n : ℕ) → codes "at=" ++ decimal m ≡ codes "at=" ++ decimal n → decimal m ≡ decimal n
behind_at m n e =
    tail_same 61 61 (decimal m) (decimal n) (tail_same 116 116 (61 ∷ decimal m) (61 ∷ decimal n) (tail_same 97 97 (116 ∷ 61 ∷ decimal m) (116 ∷ 61 ∷ decimal n) e))

index_by : (a b c f g h : List ℕ) (m n : ℕ) → lacks 32 a ≡ true → lacks 32 b ≡ true → lacks 32 f ≡ true → lacks 32 g ≡ true
    → a ++ 32 ∷ (b ++ 32 ∷ ((codes "at=" ++ decimal m) ++ 32 ∷ c)) ≡ f ++ 32 ∷ (g ++ 32 ∷ ((codes "at=" ++ decimal n) ++ 32 ∷ h)) → decimal m ≡ decimal n
index_by a b c f g h m n i j k l same =
    let one = cut 32 a f (b ++ 32 ∷ ((codes "at=" ++ decimal m) ++ 32 ∷ c)) (g ++ 32 ∷ ((codes "at=" ++ decimal n) ++ 32 ∷ h)) i k same in
    let two = cut 32 b g ((codes "at=" ++ decimal m) ++ 32 ∷ c) ((codes "at=" ++ decimal n) ++ 32 ∷ h) j l one.1 in
    behind_at m n (cut 32 (codes "at=" ++ decimal m) (codes "at=" ++ decimal n) c h (at_clear m) (at_clear n) two.1).0

index_same : (names others : List (List ℕ)) (m n : ℕ) (r s : List ℕ) → HasIndex names m r → HasIndex others n s → list_all is_unbroken names ≡ true → list_all is_unbroken others ≡ true → map clean r ≡ map clean s → decimal m ≡ decimal n
index_same names others m n r s x y f g same =
    let p = x.clear f in
    let q = y.clear g in
    index_by (map clean x.first) (map clean x.second) (map clean x.behind) (map clean y.first) (map clean y.second) (map clean y.behind) m n
    (clean_lacks x.first p.0) (clean_lacks x.second p.1) (clean_lacks y.first q.0) (clean_lacks y.second q.1)
    (sym (index_clean x.first x.second x.behind r m x.is) ∙ same ∙ index_clean y.first y.second y.behind s n y.is)

some_by : (m n : ℕ) → m ≡ n → Some m ≡ Some n
some_by m n e = cc

indexes_same : (names others : List (List ℕ)) (o p : Option ℕ) (r s : List ℕ) → is_some o ≡ is_some p → TellsIndex names o r → TellsIndex others p s → list_all is_unbroken names ≡ true → list_all is_unbroken others ≡ true
    → IfSome o (λ n. n < 2 ^ 64) → IfSome p (λ n. n < 2 ^ 64) → map clean r ≡ map clean s → o ≡ p
indexes_same names others None None r s both x y f g i j same = refl
indexes_same names others None (Some n) r s both x y f g i j same = absurd (cc)
indexes_same names others (Some m) None r s both x y f g i j same = absurd (cc)
indexes_same names others (Some m) (Some n) r s both x y f g i j same = some_by m n (decimal_injective m n i j (index_same names others m n r s x y f g same))

-- ---- what equal lines tell

pub line_kind : (p q : ℕ) (d e : Entry) → line_of p d ≡ line_of q e → kind_word d.event ≡ kind_word e.event
line_kind p q d e same = (same_parts p q d e same).kinds

pub line_index : (p q : ℕ) (d e : Entry) → p < 2 ^ 64 → q < 2 ^ 64 → line_of p d ≡ line_of q e → p ≡ q
line_index p q d e f g same = decimal_injective p q f g (same_parts p q d e same).indexes

pub line_job : (p q : ℕ) (d e : Entry) → d.job < 2 ^ 64 → e.job < 2 ^ 64 → line_of p d ≡ line_of q e → d.job ≡ e.job
line_job p q d e f g same = decimal_injective d.job e.job f g (same_parts p q d e same).jobs

pub line_decided : (p q : ℕ) (d e : Entry) → HasClearIndex d.event → HasClearIndex e.event → line_of p d ≡ line_of q e → decided_at d.event ≡ decided_at e.event
line_decided p q d e f g same =
    let parts = same_parts p q d e same in
    indexes_same (names_before_index d.event) (names_before_index e.event) (decided_at d.event) (decided_at e.event) (spelled d.event).rest (spelled e.event).rest
    (both_decide d.event e.event parts.kinds) (spelled d.event).told (spelled e.event).told f.names g.names f.index g.index parts.rests
