-- What the end of a walk implies for a board, and what is returned.
use Rattle.std.proofs.Common.{ℕ, zero, suc, ◌<◌, ◌≡◌, ◌⊎◌, List, [], ◌∷◌, length, take, get_or, Option, Some, refl, sym, ap, ◌∙◌, subst, inl, inr, arith}
use Rattle.std.specs.List.{Contains}
use Rattle.walk.specs.Walk.{Faulty, Fault, Full, Hopeless, IsAllocation, IsItem, Item, MayBe, Open, Part, Problem, Shape, walk}
use Rattle.walk.specs.Outcome.{Ended, outcome}
use Rattle.deep_search.specs.Progress.{told}
use Rattle.deep_search.specs.declared.answer.Answer.{Answer}
use Rattle.deep_search.specs.declared.answer.Answer.TheVariants as ended
use Rattle.object_fields.specs.declared.key.DeviceId.{DeviceId}
use Rattle.object_fields.specs.declared.key.Key.{Key}
use Rattle.api_claim.specs.declared.types.ResourceClaim.{ResourceClaim}
use Rattle.pool_view.specs.Pools.{Offered}
use Rattle.request_rules.specs.Draws.{CounterId}
use Rattle.counter_sets.specs.Holding as holding
use Rattle.counter_sets.specs.Holding.{AreHeld}
use Rattle.request_rules.specs.Input.{SearchInput}
use Rattle.request_rules.specs.Asked.{rules_from, rules_of}
use Rattle.request_rules.specs.Problem.{problem_of, shape_of}
use Rattle.request_rows.specs.Wanted.{WantsFields}
use Rattle.request_rules.specs.Match.{ClassTable}
use Rattle.allocator.specs.declared.agreements.ClaimAgreement.{ClaimAgreement}
use Rattle.allocator.specs.declared.outcome.Outcome as outcomes
use Rattle.allocator.specs.Agreeing.{AreAgreed}
use Rattle.allocator.specs.Answered.{answer_by, answer_of}
use Rattle.allocator.specs.Holding.{Holders, held_among}
use Rattle.allocator.specs.Input.{with_counters}
use Rattle.allocator.proofs.Alike.{same_answer}

-- ---- where a search ends

in_prefix : {X : Type 0} (b : ℕ) (xs : List X) (x : X) (k : ℕ) → k < length (take b xs) → get_or (take b xs) k x ≡ x → Contains xs x
in_prefix zero xs x k h e = absurd (omega arith)
in_prefix (suc b) [] x k h e = absurd (omega arith)
in_prefix (suc b) (y ∷ ys) x zero h e = (0, omega arith, e)
in_prefix (suc b) (y ∷ ys) x (suc k) h e = let r = in_prefix b ys x k (omega (arith, h)) e in (suc r.0, omega (arith, r.1), r.2)

not_filled : (A B : Type 0) → (A × (Fault ≡ Part)) ⊎ (B × (Fault ≡ Full)) → ⊥
not_filled A B (inl h) = let e = h.1 in absurd (cc)
not_filled A B (inr h) = let e = h.1 in absurd (cc)

faulty_by : (p : Problem) (c : List ℕ) (s : Shape) → MayBe p (record { choice = c; positions = []; mark = Fault }) s → s ≡ Faulty
faulty_by p c Faulty h = refl
faulty_by p c Hopeless h = let e = h.1 in absurd (cc)
faulty_by p c (Open n) h = absurd (not_filled _ _ h.filled)

abbrev pub FoundLaw : Type 0
FoundLaw = (p : Problem) (b : ℕ) (x : Item) → outcome b (walk p) ≡ Ended x → x.mark ≡ Full → IsAllocation p x.choice x.positions

abbrev pub WithinLaw : Type 0
WithinLaw = (p : Problem) (b : ℕ) (x : Item) → outcome b (walk p) ≡ Ended x → Contains (take b (walk p)) x

abbrev pub OnlyLaw : Type 0
OnlyLaw = (p : Problem) (x : Item) → Contains (walk p) x → IsItem p x

pub full_shape : (old new : SearchInput) (b : ℕ) (a : Answer) (c l : List ℕ) → FoundLaw → new ≡ old → outcome b (walk (problem_of old)) ≡ told a c l → a ≡ ended.Full → shape_of new c ≡ Open (length l)
full_shape old new b a c l law e f g =
    ap (λ (s : SearchInput). shape_of s c) e
    ∙ (law (problem_of old) b (record { choice = c; positions = l; mark = Full }) (f ∙ ap (λ (z : Answer). told z c l) g) refl).whole

pub fault_shape : (old new : SearchInput) (b : ℕ) (a : Answer) (c l : List ℕ) → WithinLaw → OnlyLaw → new ≡ old → outcome b (walk (problem_of old)) ≡ told a c l → a ≡ ended.Fault → shape_of new c ≡ Faulty
fault_shape old new b a c l within only e f g =
    let p : Problem = problem_of old in
    let x : Item = record { choice = c; positions = []; mark = Fault } in
    let i = within p b x (f ∙ ap (λ (z : Answer). told z c l) g) in
    ap (λ (s : SearchInput). shape_of s c) e
    ∙ faulty_by p c (shape_of old c) (only p x (in_prefix b (walk p) x i.0 i.1 i.2)).kind

pub answered : (old new : SearchInput) (b : ℕ) (a : Answer) (c l : List ℕ) (found : outcomes.Outcome) → new ≡ old → outcome b (walk (problem_of old)) ≡ told a c l → answer_by new (told a c l) ≡ Some found → answer_of old b ≡ Some found
unfolding answer_of
answered old new b a c l found e f g =
    ap (answer_by old) f ∙ sym (ap (λ (s : SearchInput). answer_by s (told a c l)) e) ∙ g

-- ---- the held devices

pub held_answer : (v : SearchInput) (h : holding.Holders) (held : Holders) (devices : List Offered) (value : CounterId → Option ℕ) (drawn : CounterId → ℕ) (b : ℕ) (found : outcomes.Outcome) → held ≡ record { devices = devices; held = held_among h devices } → devices ≡ v.devices
    → answer_of (with_counters v held.held value drawn) b ≡ Some found → (pairs : List (DeviceId × Key)) → AreHeld h pairs → answer_of (with_counters v pairs value drawn) b ≡ Some found
held_answer v h held devices value drawn b found e f g pairs a =
    same_answer v h pairs value drawn b a
    ∙ sym (ap (λ (l : List (DeviceId × Key)). answer_of (with_counters v l value drawn) b) (ap (λ (z : Holders). z.held) e ∙ ap (held_among h) f))
    ∙ g

-- ---- the constraints of what is wanted

pub agreed_for : (v : SearchInput) (claims inside : List ResourceClaim) (classes : ClassTable) (w : WantsFields) (gs : List ClaimAgreement) → claims ≡ inside → ◌≡◌ {A = WantsFields} (record { claims = inside; classes = classes }) w → w.claims ≡ v.claims
    → AreAgreed v [] (rules_from 0 claims) gs → AreAgreed v [] (rules_of v) gs
unfolding rules_of
agreed_for v claims inside classes w gs e f g a = subst (λ (cs : List ResourceClaim). AreAgreed v [] (rules_from 0 cs) gs) (e ∙ ap (λ (z : WantsFields). z.claims) f ∙ g) a
