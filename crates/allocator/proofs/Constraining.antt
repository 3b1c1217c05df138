-- Agreements of constraints, with one result more and one less.
use Rattle.std.proofs.Common.{ℕ, zero, suc, ◌+◌, ◌<◌, ◌≤◌, ◌≡◌, List, [], ◌∷◌, ◌++◌, Bool, true, false, ◌&&◌, cond, eqb, map, length, take, drop, get_or, Option, None, Some, refl, sym, ap, ◌∙◌, subst, arith, append-nil, append_assoc}
use Rattle.std.specs.List.{list_all, slice_get}
use Rattle.std.proofs.lemmas.List.{length-append, length-take-le, map-append}
use Rattle.api_claim.specs.declared.types.DeviceConstraint.{DeviceConstraint}
use Rattle.api_claim.specs.declared.types.ResourceClaim.{ResourceClaim}
use Rattle.pool_view.specs.Pools.{Offered}
use Rattle.request_rules.specs.Agreeing as constraints
use Rattle.constraints.specs.Keeping.{IsOf, named_count}
use Rattle.request_rules.specs.Lists.{Each}
use Rattle.request_rules.specs.Names.{Label}
use Rattle.request_rules.specs.Input.{SearchInput}
use Rattle.request_rules.specs.Asked.{Rule, rules_from}
use Rattle.request_rules.specs.Rules.{Pick, agrees}
use Rattle.request_rules.specs.Joining.{seen_all, seen_for, seen_some}
use Rattle.allocator.specs.declared.agreements.ClaimAgreement.{ClaimAgreement}
use Rattle.allocator.specs.Agreeing.{Agreed, AreAgreed, EachLeft, EachTook, HaveRoom, Left, Took, result_at}
use Rattle.allocator.proofs.Tests.{left_of, right_of}
use Rattle.std.proofs.Math.ListN.{set}
use Rattle.allocator.proofs.Places.{drop_next, got}
use Rattle.allocator.proofs.Changed.{prefix_new, prefix_old, was_there}

-- ---- one constraint

abbrev pub FitsIn : Bool → ℕ → constraints.Pick → ClaimAgreement → Type 0
FitsIn res claim picked g = (v : SearchInput) (ps : List Pick) (r : Rule) (p : Pick) → Agreed v ps r g → p.label.claim ≡ claim → result_at v p ≡ picked ∷ [] → Each (λ q. q.position < length v.devices) ps → res ≡ agrees v r ps p

-- ---- all constraints

pub agreed_more : (v : SearchInput) (ps : List Pick) (rs : List Rule) (gs hs : List ClaimAgreement) (p : Pick) (claim : ℕ) (picked : constraints.Pick) → AreAgreed v ps rs gs → EachTook claim picked gs hs
    → p.label.claim ≡ claim → result_at v p ≡ picked ∷ [] → Each (λ q. q.position < length v.devices) ps → list_all (λ r. agrees v r ps p) rs ≡ true → AreAgreed v (ps ++ p ∷ []) rs hs
agreed_more v ps [] [] [] p claim picked a t e f known ok = tt
agreed_more v ps [] [] (h ∷ hs) p claim picked a t e f known ok = absurd t
agreed_more v ps [] (g ∷ gs) hs p claim picked a t e f known ok = absurd a
agreed_more v ps (r ∷ rs) [] hs p claim picked a t e f known ok = absurd a
agreed_more v ps (r ∷ rs) (g ∷ gs) [] p claim picked a t e f known ok = absurd t
agreed_more v ps (r ∷ rs) (g ∷ gs) (h ∷ hs) p claim picked a t e f known ok = (
  t.0.more v ps r p a.0 e f known (left_of (agrees v r ps p) (list_all (λ r. agrees v r ps p) rs) ok),
  agreed_more v ps rs gs hs p claim picked a.1 t.1 e f known (right_of (agrees v r ps p) (list_all (λ r. agrees v r ps p) rs) ok),
)

pub agreed_less : (v : SearchInput) (ps : List Pick) (rs : List Rule) (gs hs : List ClaimAgreement) (p : Pick) (claim : ℕ) (picked : constraints.Pick) → AreAgreed v (ps ++ p ∷ []) rs gs → EachLeft claim picked gs hs
    → p.label.claim ≡ claim → result_at v p ≡ picked ∷ [] → AreAgreed v ps rs hs
agreed_less v ps [] [] [] p claim picked a t e f = tt
agreed_less v ps [] [] (h ∷ hs) p claim picked a t e f = absurd t
agreed_less v ps [] (g ∷ gs) hs p claim picked a t e f = absurd a
agreed_less v ps (r ∷ rs) [] hs p claim picked a t e f = absurd a
agreed_less v ps (r ∷ rs) (g ∷ gs) [] p claim picked a t e f = absurd t
agreed_less v ps (r ∷ rs) (g ∷ gs) (h ∷ hs) p claim picked a t e f =
    (t.0.less v ps r p a.0 e f, agreed_less v ps rs gs hs p claim picked a.1 t.1 e f)

-- ---- room

few_by : (b : Bool) (m n : ℕ) → m ≤ n → cond {A = ℕ} b (1 + m) m ≤ suc n
few_by true m n h = omega (arith, h)
few_by false m n h = omega (arith, h)

named_few : (c : DeviceConstraint) (ps : List constraints.Pick) → named_count c ps ≤ length ps
named_few c [] = omega arith
named_few c (p ∷ ps) = few_by (constraints.is_named c p) (named_count c ps) (length ps) (named_few c ps)

some_few : (l : Label) (z : Option Offered) → length (seen_some l z) ≤ 1
some_few l None = omega arith
some_few l (Some o) = omega arith

for_few : (v : SearchInput) (r : Rule) (p : Pick) (b : Bool) → length (cond {A = List constraints.Pick} b (result_at v p) []) ≤ 1
for_few v r p true = some_few p.label (slice_get v.devices p.position)
for_few v r p false = omega arith

seen_few : (v : SearchInput) (r : Rule) (ps : List Pick) → length (seen_all v r ps) ≤ length ps
seen_few v r [] = omega arith
seen_few v r (p ∷ ps) =
    let a = length-append (seen_for v r p) (seen_all v r ps) in
    let b = for_few v r p (eqb r.claim p.label.claim) in
    let c = seen_few v r ps in
    omega (arith, a, b, c)

pub room_in : (m : ℕ) (v : SearchInput) (ps : List Pick) (rs : List Rule) (gs : List ClaimAgreement) → AreAgreed v ps rs gs → length ps + 1 < m → Each (λ g. g.agreement.count + 1 < m) gs
room_in m v ps [] [] a h i g e = absurd (cc)
room_in m v ps [] (g ∷ gs) a h i k e = absurd a
room_in m v ps (r ∷ rs) [] a h i k e = absurd a
room_in m v ps (r ∷ rs) (g ∷ gs) a h zero k e =
    let f : g ≡ k = cc in
    let c = a.0.taken.count in
    let n = named_few r.constraint (seen_all v r ps) in
    let s = seen_few v r ps in
    subst (λ (z : ClaimAgreement). z.agreement.count + 1 < m) f (omega (arith, c, n, s, h))
room_in m v ps (r ∷ rs) (g ∷ gs) a h (suc i) k e = room_in m v ps rs gs a.1 h i k e

-- ---- loops

pub took_next : (claim : ℕ) (picked : constraints.Pick) (gs hs : List ClaimAgreement) (a b : ClaimAgreement) → EachTook claim picked gs hs → Took claim picked a b → EachTook claim picked (gs ++ a ∷ []) (hs ++ b ∷ [])
took_next claim picked [] [] a b t u = (u, tt)
took_next claim picked [] (d ∷ hs) a b t u = absurd t
took_next claim picked (c ∷ gs) [] a b t u = absurd t
took_next claim picked (c ∷ gs) (d ∷ hs) a b t u = (t.0, took_next claim picked gs hs a b t.1 u)

pub left_next : (claim : ℕ) (picked : constraints.Pick) (gs hs : List ClaimAgreement) (a b : ClaimAgreement) → EachLeft claim picked gs hs → Left claim picked a b → EachLeft claim picked (gs ++ a ∷ []) (hs ++ b ∷ [])
left_next claim picked [] [] a b t u = (u, tt)
left_next claim picked [] (d ∷ hs) a b t u = absurd t
left_next claim picked (c ∷ gs) [] a b t u = absurd t
left_next claim picked (c ∷ gs) (d ∷ hs) a b t u = (t.0, left_next claim picked gs hs a b t.1 u)

took_more : (claim : ℕ) (picked : constraints.Pick) (old now : List ClaimAgreement) (i : ℕ) (a b : ClaimAgreement) → take (i + 1) old ≡ take i old ++ a ∷ [] → take (i + 1) (set now i b) ≡ take i now ++ b ∷ []
    → EachTook claim picked (take i old) (take i now) → Took claim picked a b → EachTook claim picked (take (i + 1) old) (take (i + 1) (set now i b))
took_more claim picked old now i a b e f t u =
    subst (λ (z : List ClaimAgreement). EachTook claim picked z (take (i + 1) (set now i b))) (sym e)
    (subst (EachTook claim picked (take i old ++ a ∷ [])) (sym f) (took_next claim picked (take i old) (take i now) a b t u))

-- one agreement more that took the result
pub took_step : (claim : ℕ) (picked : constraints.Pick) (old now : List ClaimAgreement) (i : ℕ) (a b : ClaimAgreement) → i < length old → length now ≡ length old → drop i now ≡ drop i old → a ≡ get_or now i a
    → EachTook claim picked (take i old) (take i now) → Took claim picked a b → EachTook claim picked (take (i + 1) old) (take (i + 1) (set now i b))
took_step claim picked old now i a b h n e f t u = took_more claim picked old now i a b (prefix_old old i a h (was_there old now i a h n e f)) (prefix_new now i b (omega (arith, h, n))) t u

left_more : (claim : ℕ) (picked : constraints.Pick) (old now : List ClaimAgreement) (i : ℕ) (a b : ClaimAgreement) → take (i + 1) old ≡ take i old ++ a ∷ [] → take (i + 1) (set now i b) ≡ take i now ++ b ∷ []
    → EachLeft claim picked (take i old) (take i now) → Left claim picked a b → EachLeft claim picked (take (i + 1) old) (take (i + 1) (set now i b))
left_more claim picked old now i a b e f t u =
    subst (λ (z : List ClaimAgreement). EachLeft claim picked z (take (i + 1) (set now i b))) (sym e)
    (subst (EachLeft claim picked (take i old ++ a ∷ [])) (sym f) (left_next claim picked (take i old) (take i now) a b t u))

-- one agreement more from which the result was removed
pub left_step : (claim : ℕ) (picked : constraints.Pick) (old now : List ClaimAgreement) (i : ℕ) (a b : ClaimAgreement) → i < length old → length now ≡ length old → drop i now ≡ drop i old → a ≡ get_or now i a
    → EachLeft claim picked (take i old) (take i now) → Left claim picked a b → EachLeft claim picked (take (i + 1) old) (take (i + 1) (set now i b))
left_step claim picked old now i a b h n e f t u = left_more claim picked old now i a b (prefix_old old i a h (was_there old now i a h n e f)) (prefix_new now i b (omega (arith, h, n))) t u

pub room_there : (old now : List ClaimAgreement) (i : ℕ) (a : ClaimAgreement) → HaveRoom old → i < length old → length now ≡ length old → drop i now ≡ drop i old → a ≡ get_or now i a → a.agreement.count + 1 < 18446744073709551616
room_there old now i a r h n e f = r i a (got old i a h (was_there old now i a h n e f))

-- what is left of agreements that all fit
pub record FitsSo (claim : ℕ) (picked : constraints.Pick) (gs rest : List ClaimAgreement) : Type 0 where
  pub so : (v : SearchInput) (ps : List Pick) (rs : List Rule) (p : Pick) → AreAgreed v ps rs gs → p.label.claim ≡ claim → result_at v p ≡ picked ∷ [] → Each (λ q. q.position < length v.devices) ps
      → (left : List Rule) × AreAgreed v ps left rest × (list_all (λ r. agrees v r ps p) left ≡ list_all (λ r. agrees v r ps p) rs)

pub none_added : (v : SearchInput) (i : ℕ) (rs : List Rule) (gs : List ClaimAgreement) (c : DeviceConstraint) (g : ClaimAgreement) → AreAgreed v [] rs gs → g.claim ≡ i → IsOf c [] g.agreement → AreAgreed v [] (rs ++ record { claim = i; constraint = c } ∷ []) (gs ++ g ∷ [])
none_added v i [] [] c g a e f = (record { claim = e; taken = f }, tt)
none_added v i [] (h ∷ gs) c g a e f = absurd a
none_added v i (r ∷ rs) [] c g a e f = absurd a
none_added v i (r ∷ rs) (h ∷ gs) c g a e f = (a.0, none_added v i rs gs c g a.1 e f)

-- ---- constraints that all fit

abbrev pub AllFitIn : Bool → ℕ → constraints.Pick → List ClaimAgreement → Type 0
AllFitIn res claim picked gs = (v : SearchInput) (ps : List Pick) (rs : List Rule) (p : Pick) → AreAgreed v ps rs gs → p.label.claim ≡ claim → result_at v p ≡ picked ∷ [] → Each (λ q. q.position < length v.devices) ps
    → res ≡ list_all (λ r. agrees v r ps p) rs

pub fits_first : (claim : ℕ) (picked : constraints.Pick) (gs : List ClaimAgreement) → FitsSo claim picked gs gs
fits_first claim picked gs = record { so = λ v ps rs p a e f known. (rs, a, refl) }

step_by : (claim : ℕ) (picked : constraints.Pick) (v : SearchInput) (ps : List Pick) (p : Pick) (g : ClaimAgreement) (gs : List ClaimAgreement) (whole : Bool) (left : List Rule) → AreAgreed v ps left (g ∷ gs) → list_all (λ r. agrees v r ps p) left ≡ whole
    → (r : Rule) × (rest : List Rule) × Agreed v ps r g × AreAgreed v ps rest gs × ((agrees v r ps p && list_all (λ r. agrees v r ps p) rest) ≡ whole)
step_by claim picked v ps p g gs whole [] a e = absurd a
step_by claim picked v ps p g gs whole (r ∷ rest) a e = (r, rest, a.0, a.1, e)

next_left : (claim : ℕ) (picked : constraints.Pick) (gs rest : List ClaimAgreement) (g : ClaimAgreement) → FitsIn true claim picked g → FitsSo claim picked gs (g ∷ rest) → FitsSo claim picked gs rest
next_left claim picked gs rest g fit h = record {
  so = λ v ps rs p a e f known.
      let was = h.so v ps rs p a e f known in
      let now = step_by claim picked v ps p g rest (list_all (λ r. agrees v r ps p) rs) was.0 was.1 was.2 in
      (now.1, now.3, sym (ap (λ (t : Bool). t && list_all (λ r. agrees v r ps p) now.1) (sym (fit v ps now.0 p now.2 e f known))) ∙ now.4);
}

fits_so : (b res : Bool) (claim : ℕ) (picked : constraints.Pick) (g : ClaimAgreement) → b ≡ res → FitsIn b claim picked g → FitsIn res claim picked g
fits_so b res claim picked g e fit = λ v ps r p a f k known. sym e ∙ fit v ps r p a f k known

pub fits_next : (claim : ℕ) (picked : constraints.Pick) (gs : List ClaimAgreement) (i : ℕ) (g : ClaimAgreement) (b : Bool) → i < length gs → g ≡ get_or gs i g → FitsIn b claim picked g → b ≡ true → FitsSo claim picked gs (drop i gs) → FitsSo claim picked gs (drop (i + 1) gs)
fits_next claim picked gs i g b n e fit k h = next_left claim picked gs (drop (i + 1) gs) g (fits_so b true claim picked g k fit) (subst (FitsSo claim picked gs) (drop_next gs i g n e) h)

stops_left : (claim : ℕ) (picked : constraints.Pick) (gs rest : List ClaimAgreement) (g : ClaimAgreement) → FitsIn false claim picked g → FitsSo claim picked gs (g ∷ rest) → AllFitIn false claim picked gs
stops_left claim picked gs rest g fit h = λ v ps rs p a e f known.
    let was = h.so v ps rs p a e f known in
    let now = step_by claim picked v ps p g rest (list_all (λ r. agrees v r ps p) rs) was.0 was.1 was.2 in
    ap (λ (t : Bool). t && list_all (λ r. agrees v r ps p) now.1) (fit v ps now.0 p now.2 e f known) ∙ now.4

pub fits_stops : (claim : ℕ) (picked : constraints.Pick) (gs : List ClaimAgreement) (i : ℕ) (g : ClaimAgreement) (b : Bool) → i < length gs → g ≡ get_or gs i g → FitsIn b claim picked g → b ≡ false → FitsSo claim picked gs (drop i gs) → AllFitIn false claim picked gs
fits_stops claim picked gs i g b n e fit k h = stops_left claim picked gs (drop (i + 1) gs) g (fits_so b false claim picked g k fit) (subst (FitsSo claim picked gs) (drop_next gs i g n e) h)

none_left : (v : SearchInput) (ps : List Pick) (p : Pick) (left : List Rule) → AreAgreed v ps left [] → true ≡ list_all (λ r. agrees v r ps p) left
none_left v ps p [] a = refl
none_left v ps p (r ∷ rs) a = absurd a

pub fits_all : (claim : ℕ) (picked : constraints.Pick) (gs rest : List ClaimAgreement) → rest ≡ [] → FitsSo claim picked gs rest → AllFitIn true claim picked gs
fits_all claim picked gs rest z h = λ v ps rs p a e f known.
    let was = h.so v ps rs p a e f known in
    none_left v ps p was.0 (subst (AreAgreed v ps was.0) z was.1) ∙ was.2

-- ---- constraints that are added

abbrev pub rule_at : ℕ → DeviceConstraint → Rule
rule_at i c = record { claim = i; constraint = c }

rules_push : (i : ℕ) (rs : List Rule) (cs : List DeviceConstraint) (c : DeviceConstraint) → rs ++ map (rule_at i) (cs ++ c ∷ []) ≡ (rs ++ map (rule_at i) cs) ++ rule_at i c ∷ []
rules_push i rs cs c = ap (λ (l : List Rule). rs ++ l) (map-append (rule_at i) cs (c ∷ [])) ∙ sym (append_assoc rs (map (rule_at i) cs) (rule_at i c ∷ []))

pub added_step : (v : SearchInput) (claim : ℕ) (rs : List Rule) (cs : List DeviceConstraint) (i : ℕ) (c : DeviceConstraint) (gs hs : List ClaimAgreement) (g : ClaimAgreement) → i < length cs → c ≡ get_or cs i c → hs ≡ gs ++ g ∷ []
    → AreAgreed v [] (rs ++ map (rule_at claim) (take i cs)) gs → g.claim ≡ claim → IsOf c [] g.agreement → AreAgreed v [] (rs ++ map (rule_at claim) (take (i + 1) cs)) hs
added_step v claim rs cs i c gs hs g h e k a f t =
    subst (AreAgreed v [] (rs ++ map (rule_at claim) (take (i + 1) cs))) (sym k)
    (subst (λ (l : List Rule). AreAgreed v [] l (gs ++ g ∷ []))
    (sym (ap (λ (l : List DeviceConstraint). rs ++ map (rule_at claim) l) (prefix_old cs i c h e) ∙ rules_push claim rs (take i cs) c))
    (none_added v claim (rs ++ map (rule_at claim) (take i cs)) gs c g a f t))

rules_more : (k : ℕ) (cs : List ResourceClaim) (c : ResourceClaim) → rules_from k (cs ++ c ∷ []) ≡ rules_from k cs ++ map (rule_at (k + length cs)) c.constraints
rules_more k [] c =
    let e : k ≡ k + 0 = omega arith in
    append-nil (map (rule_at k) c.constraints) ∙ ap (λ (i : ℕ). map (rule_at i) c.constraints) e
rules_more k (d ∷ cs) c =
    let e : k + 1 + length cs ≡ k + length (d ∷ cs) = omega arith in
    ap (λ (l : List Rule). map (rule_at k) d.constraints ++ l) (rules_more (k + 1) cs c ∙ ap (λ (i : ℕ). rules_from (k + 1) cs ++ map (rule_at i) c.constraints) e)
    ∙ sym (append_assoc (map (rule_at k) d.constraints) (rules_from (k + 1) cs) (map (rule_at (k + length (d ∷ cs))) c.constraints))

-- the constraints of one claim more
pub rules_next : (cs : List ResourceClaim) (i : ℕ) (c : ResourceClaim) → i < length cs → c ≡ get_or cs i c → rules_from 0 (take (i + 1) cs) ≡ rules_from 0 (take i cs) ++ map (rule_at i) c.constraints
rules_next cs i c h e =
    let n : 0 + length (take i cs) ≡ i = let f = length-take-le i cs (omega (arith, h)) in omega (arith, f) in
    ap (rules_from 0) (prefix_old cs i c h e) ∙ rules_more 0 (take i cs) c ∙ ap (λ (k : ℕ). rules_from 0 (take i cs) ++ map (rule_at k) c.constraints) n

pub claims_step : (v : SearchInput) (cs : List ResourceClaim) (i : ℕ) (c : ResourceClaim) (ds : List DeviceConstraint) (gs hs : List ClaimAgreement) → i < length cs → c ≡ get_or cs i c → ds ≡ c.constraints
    → ((w : SearchInput) (rs : List Rule) → AreAgreed w [] rs gs → AreAgreed w [] (rs ++ map (rule_at i) ds) hs) → AreAgreed v [] (rules_from 0 (take i cs)) gs → AreAgreed v [] (rules_from 0 (take (i + 1) cs)) hs
claims_step v cs i c ds gs hs h e f add a =
    subst (λ (l : List Rule). AreAgreed v [] l hs) (ap (λ (z : List DeviceConstraint). rules_from 0 (take i cs) ++ map (rule_at i) z) f ∙ sym (rules_next cs i c h e))
    (add v (rules_from 0 (take i cs)) a)
