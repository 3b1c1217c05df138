-- Constraints over the devices that are placed.
use Rattle.std.specs.Prelude.{ℕ, ◌+◌, ◌^◌, ◌<◌, ◌≡◌, List, [], ◌∷◌, ◌++◌, true, length, slice_get}
use Rattle.request_rules.specs.Agreeing as constraints
use Rattle.constraints.specs.Keeping.{IsOf}
use Rattle.request_rules.specs.Input.{SearchInput}
use Rattle.request_rules.specs.Lists.{Each}
use Rattle.request_rules.specs.Asked.{Rule}
use Rattle.request_rules.specs.Rules.{Pick, agrees}
use Rattle.request_rules.specs.Joining.{seen_all, seen_some}
use Rattle.allocator.specs.declared.agreements.ClaimAgreement.{ClaimAgreement}

-- the device, if there is one, as constraints see it
abbrev pub result_at : SearchInput → Pick → List constraints.Pick
result_at v p = seen_some p.label (slice_get v.devices p.position)

-- it is the constraint's, over the placed devices of its claim
pub record Agreed (v : SearchInput) (ps : List Pick) (r : Rule) (g : ClaimAgreement) : Type 0 where
  pub claim : g.claim ≡ r.claim
  pub taken : IsOf r.constraint (seen_all v r ps) g.agreement

abbrev pub AreAgreed : SearchInput → List Pick → List Rule → List ClaimAgreement → Type 0
AreAgreed v ps [] [] = Unit {0}
AreAgreed v ps [] (g ∷ gs) = ⊥
AreAgreed v ps (r ∷ rs) [] = ⊥
AreAgreed v ps (r ∷ rs) (g ∷ gs) = Agreed v ps r g × AreAgreed v ps rs gs

-- what one result more makes of an agreement
pub record Took (claim : ℕ) (picked : constraints.Pick) (old new : ClaimAgreement) : Type 0 where
  pub more : (v : SearchInput) (ps : List Pick) (r : Rule) (p : Pick) → Agreed v ps r old → p.label.claim ≡ claim → result_at v p ≡ picked ∷ [] → Each (λ q. q.position < length v.devices) ps → agrees v r ps p ≡ true → Agreed v (ps ++ p ∷ []) r new

-- and one result less
pub record Left (claim : ℕ) (picked : constraints.Pick) (old new : ClaimAgreement) : Type 0 where
  pub less : (v : SearchInput) (ps : List Pick) (r : Rule) (p : Pick) → Agreed v (ps ++ p ∷ []) r old → p.label.claim ≡ claim → result_at v p ≡ picked ∷ [] → Agreed v ps r new

abbrev pub EachTook : ℕ → constraints.Pick → List ClaimAgreement → List ClaimAgreement → Type 0
EachTook i p [] [] = Unit {0}
EachTook i p [] (h ∷ hs) = ⊥
EachTook i p (g ∷ gs) [] = ⊥
EachTook i p (g ∷ gs) (h ∷ hs) = Took i p g h × EachTook i p gs hs

abbrev pub EachLeft : ℕ → constraints.Pick → List ClaimAgreement → List ClaimAgreement → Type 0
EachLeft i p [] [] = Unit {0}
EachLeft i p [] (h ∷ hs) = ⊥
EachLeft i p (g ∷ gs) [] = ⊥
EachLeft i p (g ∷ gs) (h ∷ hs) = Left i p g h × EachLeft i p gs hs

-- there is room for one more in each count
abbrev pub HaveRoom : List ClaimAgreement → Type 0
HaveRoom gs = Each (λ g. g.agreement.count + 1 < 2 ^ 64) gs
