-- What is the same is equal, and the other way round.
use Rattle.std.proofs.Common.{ℕ, ◌≡◌, ◌∙◌, List, [], ◌∷◌, Bool, true, false, ◌&&◌, Option, None, Some, eqb, refl, sym, ap}
use Rattle.std.specs.Cmp.Lexicographic.{pointwise}
use Rattle.std.proofs.lemmas.Bool.{and_from, and_parts, eq-eqb, eqb-true}
use Rattle.api_claim.specs.declared.types.AllocationMode.{AllocationMode}
use Rattle.api_claim.specs.declared.types.AllocationMode.TheVariants.{ExactCount, All}
use Rattle.api_claim.specs.declared.types.DeviceAsk.{DeviceAsk}
use Rattle.api_claim.specs.declared.types.DeviceConstraint.{DeviceConstraint}
use Rattle.api_claim.specs.declared.types.DeviceRequest.{DeviceRequest}
use Rattle.api_claim.specs.declared.types.DeviceSubRequest.{DeviceSubRequest}
use Rattle.api_claim.specs.declared.types.ExactDeviceRequest.{ExactDeviceRequest}
use Rattle.api_claim.specs.declared.types.RequestKind.{RequestKind}
use Rattle.api_claim.specs.declared.types.RequestKind.TheVariants.{Exactly, FirstAvailable}
use Rattle.api_claim.specs.declared.types.ResourceClaim.{ResourceClaim}
use Rattle.api_cluster.specs.declared.types.Pod.{Pod}
use Rattle.api_cluster.specs.declared.types.PodResourceClaim.{PodResourceClaim}
use Rattle.device_taints.specs.Tolerating.{effect_eq}
use Rattle.device_taints.specs.declared.types.TaintEffect.{TaintEffect}
use Rattle.device_taints.specs.declared.types.TaintEffect.TheVariants.{NoSchedule, NoExecute}
use Rattle.device_taints.specs.declared.types.Toleration.{Toleration}
use Rattle.device_taints.specs.declared.types.TolerationOperator.{TolerationOperator}
use Rattle.device_taints.specs.declared.types.TolerationOperator.TheVariants.{Equal, Exists}
use Rattle.object_fields.specs.declared.qualified.QualName.{QualName}
use Rattle.pool_view.specs.Names.{text_eq}
use Rattle.cluster.specs.Same.{same_ask, same_attribute, same_constraint, same_effects, same_exactly, same_kind, same_mode, same_operator, same_pod_claim, same_pod_claims, same_request, same_spec, same_subrequest, same_toleration, same_truth}

-- a test that decides equality
pub record Exact {A : Type 0} (same : A → A → Bool) : Type 0 where
  pub sound : (x y : A) → same x y ≡ true → x ≡ y
  pub whole : (x : A) → same x x ≡ true

list_sound : {A : Type 0} (same : A → A → Bool) → Exact same → (xs ys : List A) → pointwise same xs ys ≡ true → xs ≡ ys
list_sound same e [] [] is = refl
list_sound same e [] (y ∷ ys) is = absurd (cc)
list_sound same e (x ∷ xs) [] is = absurd (cc)
list_sound same e (x ∷ xs) (y ∷ ys) is =
    let parts = and_parts (same x y) (pointwise same xs ys) is in
    ap (λ z. z ∷ xs) (e.sound x y parts.0) ∙ ap (λ zs. y ∷ zs) (list_sound same e xs ys parts.1)

list_whole : {A : Type 0} (same : A → A → Bool) → Exact same → (xs : List A) → pointwise same xs xs ≡ true
list_whole same e [] = refl
list_whole same e (x ∷ xs) = and_from (same x x) (pointwise same xs xs) (e.whole x) (list_whole same e xs)

list_exact : {A : Type 0} (same : A → A → Bool) → Exact same → Exact (pointwise same)
list_exact same e = record { sound = list_sound same e; whole = list_whole same e }

nat_whole : (n : ℕ) → eqb n n ≡ true
nat_whole n = eq-eqb n n refl

nat_exact : Exact eqb
nat_exact = record { sound = λ n m e. eqb-true n m e; whole = nat_whole }

pub text_exact : Exact text_eq
text_exact = list_exact eqb nat_exact

texts_exact : Exact (pointwise text_eq)
texts_exact = list_exact text_eq text_exact

mode_sound : (a b : AllocationMode) → same_mode a b ≡ true → a ≡ b
mode_sound (ExactCount n) (ExactCount m) e = ap ExactCount (eqb-true n m e)
mode_sound (ExactCount n) All e = absurd (cc)
mode_sound All (ExactCount m) e = absurd (cc)
mode_sound All All e = refl

mode_whole : (a : AllocationMode) → same_mode a a ≡ true
mode_whole (ExactCount n) = nat_whole n
mode_whole All = refl

truth_sound : (a b : Bool) → same_truth a b ≡ true → a ≡ b
truth_sound true true e = refl
truth_sound true false e = absurd (cc)
truth_sound false true e = absurd (cc)
truth_sound false false e = refl

truth_whole : (a : Bool) → same_truth a a ≡ true
truth_whole true = refl
truth_whole false = refl

effect_sound : (a b : TaintEffect) → effect_eq a b ≡ true → a ≡ b
effect_sound NoSchedule NoSchedule e = refl
effect_sound NoSchedule NoExecute e = absurd (cc)
effect_sound NoExecute NoSchedule e = absurd (cc)
effect_sound NoExecute NoExecute e = refl

effect_whole : (a : TaintEffect) → effect_eq a a ≡ true
effect_whole NoSchedule = refl
effect_whole NoExecute = refl

effects_sound : (a b : Option TaintEffect) → same_effects a b ≡ true → a ≡ b
effects_sound None None e = refl
effects_sound None (Some f) e = absurd (cc)
effects_sound (Some x) None e = absurd (cc)
effects_sound (Some x) (Some y) e = ap (λ (z : TaintEffect). Some z) (effect_sound x y e)

effects_whole : (a : Option TaintEffect) → same_effects a a ≡ true
effects_whole None = refl
effects_whole (Some x) = effect_whole x

operator_sound : (a b : TolerationOperator) → same_operator a b ≡ true → a ≡ b
operator_sound (Equal x) (Equal y) e = ap Equal (text_exact.sound x y e)
operator_sound (Equal x) Exists e = absurd (cc)
operator_sound Exists (Equal y) e = absurd (cc)
operator_sound Exists Exists e = refl

operator_whole : (a : TolerationOperator) → same_operator a a ≡ true
operator_whole (Equal x) = text_exact.whole x
operator_whole Exists = refl

toleration_of : (k l : List ℕ) (o p : TolerationOperator) (e f : Option TaintEffect) → k ≡ l → o ≡ p → e ≡ f
    → ◌≡◌ {A = Toleration} (record { key = k; operator = o; effect = e }) (record { key = l; operator = p; effect = f })
toleration_of k l o p e f is same alike = cc

toleration_exact : Exact same_toleration
toleration_exact = record {
  sound = λ a b is.
      let outer = and_parts (text_eq a.key b.key) (same_operator a.operator b.operator && same_effects a.effect b.effect) is in
      let inner = and_parts (same_operator a.operator b.operator) (same_effects a.effect b.effect) outer.1 in
      toleration_of a.key b.key a.operator b.operator a.effect b.effect (text_exact.sound a.key b.key outer.0) (operator_sound a.operator b.operator inner.0) (effects_sound a.effect b.effect inner.1);
  whole = λ a.
      and_from (text_eq a.key a.key) (same_operator a.operator a.operator && same_effects a.effect a.effect) (text_exact.whole a.key)
      (and_from (same_operator a.operator a.operator) (same_effects a.effect a.effect) (operator_whole a.operator) (effects_whole a.effect));
}

tolerations_exact : Exact (pointwise same_toleration)
tolerations_exact = list_exact same_toleration toleration_exact

ask_of : (c d : List ℕ) (s t : List (List ℕ)) (m n : AllocationMode) (k l : List Toleration) → c ≡ d → s ≡ t → m ≡ n → k ≡ l
    → ◌≡◌ {A = DeviceAsk} (record { class = c; selectors = s; mode = m; tolerations = k }) (record { class = d; selectors = t; mode = n; tolerations = l })
ask_of c d s t m n k l e f g h = cc

ask_sound : (a b : DeviceAsk) → same_ask a b ≡ true → a ≡ b
ask_sound a b is =
    let outer = and_parts (text_eq a.class b.class) (pointwise text_eq a.selectors b.selectors && (same_mode a.mode b.mode && pointwise same_toleration a.tolerations b.tolerations)) is in
    let inner = and_parts (pointwise text_eq a.selectors b.selectors) (same_mode a.mode b.mode && pointwise same_toleration a.tolerations b.tolerations) outer.1 in
    let last = and_parts (same_mode a.mode b.mode) (pointwise same_toleration a.tolerations b.tolerations) inner.1 in
    ask_of a.class b.class a.selectors b.selectors a.mode b.mode a.tolerations b.tolerations
    (text_exact.sound a.class b.class outer.0) (texts_exact.sound a.selectors b.selectors inner.0) (mode_sound a.mode b.mode last.0) (tolerations_exact.sound a.tolerations b.tolerations last.1)

ask_whole : (a : DeviceAsk) → same_ask a a ≡ true
ask_whole a =
    and_from (text_eq a.class a.class) (pointwise text_eq a.selectors a.selectors && (same_mode a.mode a.mode && pointwise same_toleration a.tolerations a.tolerations)) (text_exact.whole a.class)
    (and_from (pointwise text_eq a.selectors a.selectors) (same_mode a.mode a.mode && pointwise same_toleration a.tolerations a.tolerations) (texts_exact.whole a.selectors)
    (and_from (same_mode a.mode a.mode) (pointwise same_toleration a.tolerations a.tolerations) (mode_whole a.mode) (tolerations_exact.whole a.tolerations)))

exactly_of : (x y : DeviceAsk) (a b : Bool) → x ≡ y → a ≡ b → ◌≡◌ {A = ExactDeviceRequest} (record { ask = x; admin = a }) (record { ask = y; admin = b })
exactly_of x y a b e f = cc

exactly_sound : (a b : ExactDeviceRequest) → same_exactly a b ≡ true → a ≡ b
exactly_sound a b is =
    let parts = and_parts (same_ask a.ask b.ask) (same_truth a.admin b.admin) is in
    exactly_of a.ask b.ask a.admin b.admin (ask_sound a.ask b.ask parts.0) (truth_sound a.admin b.admin parts.1)

exactly_whole : (a : ExactDeviceRequest) → same_exactly a a ≡ true
exactly_whole a = and_from (same_ask a.ask a.ask) (same_truth a.admin a.admin) (ask_whole a.ask) (truth_whole a.admin)

subrequest_of : (m n : List ℕ) (x y : DeviceAsk) → m ≡ n → x ≡ y → ◌≡◌ {A = DeviceSubRequest} (record { name = m; ask = x }) (record { name = n; ask = y })
subrequest_of m n x y e f = cc

subrequest_exact : Exact same_subrequest
subrequest_exact = record {
  sound = λ a b is.
      let parts = and_parts (text_eq a.name b.name) (same_ask a.ask b.ask) is in
      subrequest_of a.name b.name a.ask b.ask (text_exact.sound a.name b.name parts.0) (ask_sound a.ask b.ask parts.1);
  whole = λ a. and_from (text_eq a.name a.name) (same_ask a.ask a.ask) (text_exact.whole a.name) (ask_whole a.ask);
}

kind_sound : (a b : RequestKind) → same_kind a b ≡ true → a ≡ b
kind_sound (Exactly a) (Exactly b) is = ap Exactly (exactly_sound a b is)
kind_sound (Exactly a) (FirstAvailable bs) is = absurd (cc)
kind_sound (FirstAvailable xs) (Exactly b) is = absurd (cc)
kind_sound (FirstAvailable xs) (FirstAvailable bs) is = ap FirstAvailable (list_sound same_subrequest subrequest_exact xs bs is)

kind_whole : (a : RequestKind) → same_kind a a ≡ true
kind_whole (Exactly a) = exactly_whole a
kind_whole (FirstAvailable xs) = list_whole same_subrequest subrequest_exact xs

request_of : (m n : List ℕ) (x y : RequestKind) → m ≡ n → x ≡ y → ◌≡◌ {A = DeviceRequest} (record { name = m; kind = x }) (record { name = n; kind = y })
request_of m n x y e f = cc

request_exact : Exact same_request
request_exact = record {
  sound = λ a b is.
      let parts = and_parts (text_eq a.name b.name) (same_kind a.kind b.kind) is in
      request_of a.name b.name a.kind b.kind (text_exact.sound a.name b.name parts.0) (kind_sound a.kind b.kind parts.1);
  whole = λ a. and_from (text_eq a.name a.name) (same_kind a.kind a.kind) (text_exact.whole a.name) (kind_whole a.kind);
}

attribute_of : (m n p q : List ℕ) → m ≡ n → p ≡ q → ◌≡◌ {A = QualName} (record { domain = m; id = p }) (record { domain = n; id = q })
attribute_of m n p q e f = cc

attribute_sound : (a b : QualName) → same_attribute a b ≡ true → a ≡ b
attribute_sound a b is =
    let parts = and_parts (text_eq a.domain b.domain) (text_eq a.id b.id) is in
    attribute_of a.domain b.domain a.id b.id (text_exact.sound a.domain b.domain parts.0) (text_exact.sound a.id b.id parts.1)

attribute_whole : (a : QualName) → same_attribute a a ≡ true
attribute_whole a = and_from (text_eq a.domain a.domain) (text_eq a.id a.id) (text_exact.whole a.domain) (text_exact.whole a.id)

constraint_of : (s t : List (List ℕ)) (x y : QualName) → s ≡ t → x ≡ y → ◌≡◌ {A = DeviceConstraint} (record { requests = s; attribute = x }) (record { requests = t; attribute = y })
constraint_of s t x y e f = cc

constraint_exact : Exact same_constraint
constraint_exact = record {
  sound = λ a b is.
      let parts = and_parts (pointwise text_eq a.requests b.requests) (same_attribute a.attribute b.attribute) is in
      constraint_of a.requests b.requests a.attribute b.attribute (texts_exact.sound a.requests b.requests parts.0) (attribute_sound a.attribute b.attribute parts.1);
  whole = λ a. and_from (pointwise text_eq a.requests a.requests) (same_attribute a.attribute a.attribute) (texts_exact.whole a.requests) (attribute_whole a.attribute);
}

pub spec_sound : (a b : ResourceClaim) → same_spec a b ≡ true → (a.requests ≡ b.requests) × (a.constraints ≡ b.constraints)
unfolding same_spec
spec_sound a b is =
    let parts = and_parts (pointwise same_request a.requests b.requests) (pointwise same_constraint a.constraints b.constraints) is in
    (list_sound same_request request_exact a.requests b.requests parts.0, list_sound same_constraint constraint_exact a.constraints b.constraints parts.1)

pub spec_whole : (a b : ResourceClaim) → (a.requests ≡ b.requests) × (a.constraints ≡ b.constraints) → same_spec a b ≡ true
unfolding same_spec
spec_whole a b is =
    and_from (pointwise same_request a.requests b.requests) (pointwise same_constraint a.constraints b.constraints)
    (ap (λ xs. pointwise same_request a.requests xs) (sym is.0) ∙ list_whole same_request request_exact a.requests)
    (ap (λ xs. pointwise same_constraint a.constraints xs) (sym is.1) ∙ list_whole same_constraint constraint_exact a.constraints)

pod_claim_of : (m n p q : List ℕ) → m ≡ n → p ≡ q → ◌≡◌ {A = PodResourceClaim} (record { name = m; claim = p }) (record { name = n; claim = q })
pod_claim_of m n p q e f = cc

pod_claim_exact : Exact same_pod_claim
pod_claim_exact = record {
  sound = λ a b is.
      let parts = and_parts (text_eq a.name b.name) (text_eq a.claim b.claim) is in
      pod_claim_of a.name b.name a.claim b.claim (text_exact.sound a.name b.name parts.0) (text_exact.sound a.claim b.claim parts.1);
  whole = λ a. and_from (text_eq a.name a.name) (text_eq a.claim a.claim) (text_exact.whole a.name) (text_exact.whole a.claim);
}

pub pods_sound : (a b : Pod) → same_pod_claims a b ≡ true → a.claims ≡ b.claims
unfolding same_pod_claims
pods_sound a b is = list_sound same_pod_claim pod_claim_exact a.claims b.claims is

pub pods_whole : (a b : Pod) → a.claims ≡ b.claims → same_pod_claims a b ≡ true
unfolding same_pod_claims
pods_whole a b is = ap (λ xs. pointwise same_pod_claim a.claims xs) (sym is) ∙ list_whole same_pod_claim pod_claim_exact a.claims
