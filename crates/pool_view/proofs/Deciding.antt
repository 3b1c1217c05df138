-- The first selector that isn't true of the device decides.
use Rattle.std.proofs.Common.{◌≡◌, ◌≢◌, ◌+◌, ◌<◌, ◌∷◌, [], ℕ, zero, suc, List, Some, slice_get, refl, sym, ap, ◌∙◌, arith}
use Rattle.cel_value.specs.Device.{Device}
use Rattle.pool_view.specs.declared.matching.Match.{Match}
use Rattle.pool_view.specs.declared.matching.Match.TheVariants.{Yes, No, Fault}
use Rattle.pool_view.specs.declared.verdict.Cause.{Cause}
use Rattle.pool_view.specs.declared.verdict.Verdict.{Verdict}
use Rattle.pool_view.specs.declared.verdict.Verdict.TheVariants as verdict
use Rattle.pool_view.specs.Match.{AreTrue, SaysBehindTrue, match_from, match_next, text_verdict}

same_some : (x y : List ℕ) → Some x ≡ Some y → x ≡ y
same_some x y h = cc

-- Yes

yes_parts : (v : Verdict) (n : ℕ) (m : Match) → match_next v n m ≡ Yes → (v ≡ verdict.Yes) × (m ≡ Yes)
yes_parts verdict.Yes n m h = (refl, h)
yes_parts verdict.No n m h = absurd (cc)
yes_parts (verdict.Fault cause) n m h = absurd (cc)

true_more : (d : Device) (x : List ℕ) (xs : List (List ℕ)) → text_verdict d x ≡ verdict.Yes → AreTrue d xs → (n : ℕ) (text : List ℕ) → slice_get (x ∷ xs) n ≡ Some text → text_verdict d text ≡ verdict.Yes
true_more d x xs h rest zero text is = ap (text_verdict d) (sym (same_some x text is)) ∙ h
true_more d x xs h rest (suc n) text is = rest.each n text is

pub all_true : (d : Device) (n : ℕ) (texts : List (List ℕ)) → match_from d n texts ≡ Yes → AreTrue d texts
all_true d n [] h = record { each = λ k text is. absurd (cc) }
all_true d n (x ∷ xs) h =
    let parts = yes_parts (text_verdict d x) n (match_from d (n + 1) xs) h in
    record { each = true_more d x xs parts.0 (all_true d (n + 1) xs parts.1) }

pub true_all : (d : Device) (n : ℕ) (texts : List (List ℕ)) → AreTrue d texts → match_from d n texts ≡ Yes
true_all d n [] h = refl
true_all d n (x ∷ xs) h = rw (h.each 0 x refl) (true_all d (n + 1) xs (record { each = λ k text is. h.each (suc k) text is }))

-- a selector that isn't true, after selectors that are

stops : (v : Verdict) (n : ℕ) (m : Match) → v ≢ verdict.Yes → match_next v n m ≡ match_next v n Yes
stops verdict.Yes n m other = absurd (other refl)
stops verdict.No n m other = refl
stops (verdict.Fault cause) n m other = refl

stops_from : (d : Device) (n : ℕ) (texts : List (List ℕ)) (place : ℕ) (v : Verdict) → v ≢ verdict.Yes → SaysBehindTrue d texts place v → match_from d n texts ≡ match_next v (n + place) Yes
stops_from d n [] place v other h = absurd (let at = h.at in cc)
stops_from d n (x ∷ xs) zero v other h =
    let says : text_verdict d x ≡ v = ap (text_verdict d) (same_some x h.text h.at) ∙ h.says in
    ap (λ said. match_next said n (match_from d (n + 1) xs)) says
    ∙ stops v n (match_from d (n + 1) xs) other
    ∙ ap (λ k. match_next v k Yes) (omega arith)
stops_from d n (x ∷ xs) (suc place) v other h =
    let later : SaysBehindTrue d xs place v = record { text = h.text; at = h.at; says = h.says; before = λ k text below is. h.before (suc k) text (omega (arith, below)) is } in
    ap (λ said. match_next said n (match_from d (n + 1) xs)) (h.before 0 x (omega arith) refl)
    ∙ stops_from d (n + 1) xs place v other later
    ∙ ap (λ k. match_next v k Yes) (omega arith)

pub no_stops : (d : Device) (texts : List (List ℕ)) → (place : ℕ) × SaysBehindTrue d texts place verdict.No → match_from d 0 texts ≡ No
no_stops d texts (place, h) = stops_from d 0 texts place verdict.No (λ e. absurd (cc)) h

pub fault_stops : (d : Device) (texts : List (List ℕ)) (place : ℕ) (cause : Cause) → SaysBehindTrue d texts place (verdict.Fault cause) → match_from d 0 texts ≡ Fault place cause
fault_stops d texts place cause h = stops_from d 0 texts place (verdict.Fault cause) (λ e. absurd (cc)) h ∙ ap (λ k. Fault k cause) (omega arith)

-- if the result isn't Yes, there is one

record Found (d : Device) (n : ℕ) (texts : List (List ℕ)) (m : Match) : Type 0 where
  pub place : ℕ
  pub said : Verdict
  pub other : said ≢ verdict.Yes
  pub says : SaysBehindTrue d texts place said
  pub is : m ≡ match_next said (n + place) Yes

found_here : (d : Device) (n : ℕ) (x : List ℕ) (xs : List (List ℕ)) (v : Verdict) (m : Match) → text_verdict d x ≡ v → v ≢ verdict.Yes → Found d n (x ∷ xs) (match_next v n m)
found_here d n x xs v m says other = record {
  place = 0;
  said = v;
  other = other;
  says = record { text = x; at = refl; says = says; before = λ k text below is. absurd (omega (arith, below)) };
  is = stops v n m other ∙ ap (λ k. match_next v k Yes) (omega arith);
}

before_more : (d : Device) (x : List ℕ) (xs : List (List ℕ)) (place : ℕ) (v : Verdict) → text_verdict d x ≡ verdict.Yes → SaysBehindTrue d xs place v → (k : ℕ) (text : List ℕ) → k < suc place → slice_get (x ∷ xs) k ≡ Some text → text_verdict d text ≡ verdict.Yes
before_more d x xs place v h g zero text below is = ap (text_verdict d) (sym (same_some x text is)) ∙ h
before_more d x xs place v h g (suc k) text below is = g.before k text (omega (arith, below)) is

found_later : (d : Device) (n : ℕ) (x : List ℕ) (xs : List (List ℕ)) (m : Match) → text_verdict d x ≡ verdict.Yes → Found d (n + 1) xs m → Found d n (x ∷ xs) m
found_later d n x xs m h f = record {
  place = suc f.place;
  said = f.said;
  other = f.other;
  says = record { text = f.says.text; at = f.says.at; says = f.says.says; before = before_more d x xs f.place f.said h f.says };
  is = f.is ∙ ap (λ k. match_next f.said k Yes) (omega arith);
}

found_by : (d : Device) (n : ℕ) (x : List ℕ) (xs : List (List ℕ)) (v : Verdict) (m : Match) → text_verdict d x ≡ v → (m ≢ Yes → Found d (n + 1) xs m) → match_next v n m ≢ Yes → Found d n (x ∷ xs) (match_next v n m)
found_by d n x xs verdict.Yes m says rest other = found_later d n x xs m says (rest other)
found_by d n x xs verdict.No m says rest other = found_here d n x xs verdict.No m says (λ e. absurd (cc))
found_by d n x xs (verdict.Fault cause) m says rest other = found_here d n x xs (verdict.Fault cause) m says (λ e. absurd (cc))

found : (d : Device) (n : ℕ) (texts : List (List ℕ)) → match_from d n texts ≢ Yes → Found d n texts (match_from d n texts)
found d n [] other = absurd (other refl)
found d n (x ∷ xs) other = found_by d n x xs (text_verdict d x) (match_from d (n + 1) xs) refl (found d (n + 1) xs) other

no_said : (v : Verdict) (n : ℕ) → No ≡ match_next v n Yes → v ≡ verdict.No
no_said verdict.Yes n h = absurd (cc)
no_said verdict.No n h = refl
no_said (verdict.Fault cause) n h = absurd (cc)

pub no_found : (d : Device) (texts : List (List ℕ)) → match_from d 0 texts ≡ No → (place : ℕ) × SaysBehindTrue d texts place verdict.No
no_found d texts h =
    let f = found d 0 texts (λ yes. absurd (cc)) in
    let says = no_said f.said (0 + f.place) (sym h ∙ f.is) in
    (f.place, rw says at f.says)

fault_said : (v : Verdict) (n place : ℕ) (cause : Cause) → Fault place cause ≡ match_next v n Yes → (v ≡ verdict.Fault cause) × (n ≡ place)
fault_said verdict.Yes n place cause h = absurd (cc)
fault_said verdict.No n place cause h = absurd (cc)
fault_said (verdict.Fault why) n place cause h = (cc, cc)

pub fault_found : (d : Device) (texts : List (List ℕ)) (place : ℕ) (cause : Cause) → match_from d 0 texts ≡ Fault place cause → SaysBehindTrue d texts place (verdict.Fault cause)
fault_found d texts place cause h =
    let f = found d 0 texts (λ yes. absurd (cc)) in
    let both = fault_said f.said (0 + f.place) place cause (sym h ∙ f.is) in
    let same : f.place ≡ place = omega (arith, both.1) in
    rw same at (rw both.0 at f.says)
