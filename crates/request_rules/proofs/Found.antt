-- When there is an evaluation error, and when there is none.
use Rattle.std.proofs.Common.{◌≡◌, ℕ, zero, suc, List, [], ◌∷◌, ◌++◌, Bool, true, false, ◌||◌, length, Option, None, Some, cond, refl, sym, ap, ◌∙◌, arith}
use Rattle.std.specs.List.{Contains, list_any}
use Rattle.std.specs.Option.{IsSome}
use Rattle.walk.specs.Walk.{Faulty, Hopeless, Open}
use Rattle.pool_view.specs.declared.matching.Match.{Match}
use Rattle.pool_view.specs.declared.matching.Match.TheVariants.{Yes, No, Fault}
use Rattle.pool_view.specs.declared.verdict.Cause.{Cause}
use Rattle.pool_view.specs.Pools.{Offered, id_in}
use Rattle.request_rules.specs.Lists.{first_some, or_else}
use Rattle.request_rules.specs.Names.{result_name}
use Rattle.request_rules.specs.Input.{SearchInput}
use Rattle.request_rules.specs.Asked.{Asked, asked, is_fault, slots}
use Rattle.request_rules.specs.Problem.{all_fails, is_crowded, is_faulty, shape_of}
use Rattle.request_rules.specs.Faults.{FaultPlace, IsFirstFault, fault_by, fault_for, fault_of, fault_on}
use Rattle.request_rules.proofs.Tests.{neither}

both_none : {X : Type 0} (o p : Option X) → or_else o p ≡ None → (o ≡ None) × (p ≡ None)
both_none None p e = (refl, e)
both_none (Some x) p e = absurd (cc)

-- by indexes of the list, as `Contains` has them: k, k < length xs, get_or xs k x ≡ x
first_some_none : {X Y : Type 0} (f : X → Option Y) (xs : List X) (x : X) → first_some f xs ≡ None → Contains xs x → f x ≡ None
first_some_none f [] x e h = absurd (omega (arith, h.1))
first_some_none f (y ∷ ys) x e (zero, under, same) = sym (ap f same) ∙ (both_none (f y) (first_some f ys) e).0
first_some_none f (y ∷ ys) x e (suc k, under, same) = first_some_none f ys x (both_none (f y) (first_some f ys) e).1 (k, omega (arith, under), same)

no_fault : (a : Asked) (o : Offered) (m : Match) (n : ℕ) (why : Cause) → fault_by a o m ≡ None → m ≡ Fault n why → ⊥
no_fault a o Yes n why e f = absurd (cc)
no_fault a o No n why e f = absurd (cc)
no_fault a o (Fault i c) n why e f = absurd (cc)

-- the first of a list for which there is something, with the elements before it
record GivesFirst {X Y : Type 0} (f : X → Option Y) (xs : List X) (y : Y) : Type 0 where
  before : List X
  it : X
  after : List X
  are : xs ≡ before ++ it ∷ after
  none : (x : X) → Contains before x → f x ≡ None
  gives : f it ≡ Some y

none_with : {X Y : Type 0} (f : X → Option Y) (x : X) (xs : List X) → f x ≡ None → ((b : X) → Contains xs b → f b ≡ None) → (b : X) → Contains (x ∷ xs) b → f b ≡ None
none_with f x xs e h b (zero, under, same) = sym (ap f same) ∙ e
none_with f x xs e h b (suc k, under, same) = h b (k, omega (arith, under), same)

gives_by : {X Y : Type 0} (f : X → Option Y) (x : X) (xs : List X) (y : Y) (o : Option Y) → f x ≡ o → or_else o (first_some f xs) ≡ Some y
    → (first_some f xs ≡ Some y → GivesFirst f xs y) → GivesFirst f (x ∷ xs) y
gives_by f x xs y (Some z) is e rest = record { before = []; it = x; after = xs; are = refl; none = λ b c. absurd (omega (arith, c.1)); gives = is ∙ e }
gives_by f x xs y None is e rest =
    let g = rest e in
    record { before = x ∷ g.before; it = g.it; after = g.after; are = ap (λ l. x ∷ l) g.are; none = none_with f x g.before is g.none; gives = g.gives }

gives_first : {X Y : Type 0} (f : X → Option Y) (xs : List X) (y : Y) → first_some f xs ≡ Some y → GivesFirst f xs y
gives_first f [] y e = absurd (cc)
gives_first f (x ∷ xs) y e = gives_by f x xs y (f x) refl e (gives_first f xs y)

record Tells (a : Asked) (o : Offered) (m : Match) (fault : FaultPlace) : Type 0 where
  says : m ≡ Fault fault.selector fault.cause
  claim_is : fault.claim ≡ a.key
  request_is : fault.request ≡ result_name a.label
  device_is : fault.device ≡ id_in o

fault_tells : (a : Asked) (o : Offered) (m : Match) (fault : FaultPlace) → fault_by a o m ≡ Some fault → Tells a o m fault
fault_tells a o Yes fault e = absurd (cc)
fault_tells a o No fault e = absurd (cc)
fault_tells a o (Fault n why) fault e =
    let same : ◌≡◌ {A = FaultPlace} (record { claim = a.key; request = result_name a.label; selector = n; device = id_in o; cause = why }) fault = cc in
    record {
      says = ap (λ (x : FaultPlace). Fault x.selector x.cause) same;
      claim_is = sym (ap (λ (x : FaultPlace). x.claim) same);
      request_is = sym (ap (λ (x : FaultPlace). x.request) same);
      device_is = sym (ap (λ (x : FaultPlace). x.device) same);
    }

first_in : (w : SearchInput) (c : List ℕ) (fault : FaultPlace) → first_some (fault_for w) (asked w c) ≡ Some fault → IsFirstFault w c fault
first_in w c fault e =
    let g = gives_first (fault_for w) (asked w c) fault e in
    let h = gives_first (fault_on w g.it) w.devices fault g.gives in
    let t = fault_tells g.it h.it (w.matched g.it.ask h.it) fault h.gives in
    record {
      before = g.before;
      request = g.it;
      after = g.after;
      requests_are = g.are;
      none_before = λ other k. record { none = λ d n why here says. no_fault other d (w.matched other.ask d) n why (first_some_none (fault_on w other) w.devices d (g.none other k) here) says };
      prefix = h.before;
      device = h.it;
      back = h.after;
      devices_are = h.are;
      none_in_prefix = record { none = λ d n why here says. no_fault g.it d (w.matched g.it.ask d) n why (h.none d here) says };
      says = t.says;
      claim_is = t.claim_is;
      request_is = t.request_is;
      device_is = t.device_is;
    }

pub first_fault : (w : SearchInput) (c : List ℕ) (fault : FaultPlace) → fault_of w c ≡ Some fault → IsFirstFault w c fault
unfolding fault_of
first_fault w c fault e = first_in w c fault e

-- ---- the shape

some_isnt_none : {X : Type 0} (o : Option X) → o ≡ None → IsSome o → ⊥
some_isnt_none None e s = absurd (cc)
some_isnt_none (Some x) e s = absurd (cc)

some_at : {Y : Type 0} (o p : Option Y) (a b : Bool) → (a ≡ true → IsSome o) → (b ≡ true → IsSome p) → (a || b) ≡ true → IsSome (or_else o p)
some_at (Some y) p a b f g e = refl
some_at None p true b f g e = let h = f refl in absurd (cc)
some_at None p false b f g e = g e

-- there is a first if and only if the test that there is one holds
some_by : {X Y : Type 0} (f : X → Option Y) (test : X → Bool) (xs : List X) → ((x : X) → test x ≡ true → IsSome (f x)) → list_any test xs ≡ true → IsSome (first_some f xs)
some_by f test [] h e = absurd (cc)
some_by f test (x ∷ xs) h e = some_at (f x) (first_some f xs) (test x) (list_any test xs) (h x) (some_by f test xs h) e

none_of : {X Y : Type 0} (f : X → Option Y) (test : X → Bool) (xs : List X) → ((x : X) → test x ≡ false → f x ≡ None) → list_any test xs ≡ false → first_some f xs ≡ None
none_of f test [] h e = refl
none_of f test (x ∷ xs) h e =
    let parts = neither (test x) (list_any test xs) e in
    ap (λ o. or_else o (first_some f xs)) (h x parts.0) ∙ none_of f test xs h parts.1

fault_some : (a : Asked) (o : Offered) (m : Match) → is_fault m ≡ true → IsSome (fault_by a o m)
fault_some a o Yes e = absurd (cc)
fault_some a o No e = absurd (cc)
fault_some a o (Fault n why) e = refl

fault_none : (a : Asked) (o : Offered) (m : Match) → is_fault m ≡ false → fault_by a o m ≡ None
fault_none a o Yes e = refl
fault_none a o No e = refl
fault_none a o (Fault n why) e = absurd (cc)

shape_faulty : (a b c : Bool) (n : ℕ) → cond a Faulty (cond b Hopeless (cond c Hopeless (Open n))) ≡ Faulty → a ≡ true
shape_faulty true b c n e = refl
shape_faulty false true c n e = absurd (cc)
shape_faulty false false true n e = absurd (cc)
shape_faulty false false false n e = absurd (cc)

pub found : (w : SearchInput) (c : List ℕ) → shape_of w c ≡ Faulty → IsSome (fault_of w c)
unfolding fault_of shape_of
found w c e =
    some_by (fault_for w) (is_faulty w) (asked w c)
    (λ a f. some_by (fault_on w a) (λ o. is_fault (w.matched a.ask o)) w.devices (λ o t. fault_some a o (w.matched a.ask o) t) f)
    (shape_faulty (list_any (is_faulty w) (asked w c)) (list_any (all_fails w) (asked w c)) (is_crowded w (slots w c)) (length (slots w c)) e)

faulty_by : (w : SearchInput) (c : List ℕ) (b : Bool) → list_any (is_faulty w) (asked w c) ≡ b → IsSome (first_some (fault_for w) (asked w c)) → b ≡ true
faulty_by w c true e s = refl
faulty_by w c false e s =
    let none = none_of (fault_for w) (is_faulty w) (asked w c)
    (λ a f. none_of (fault_on w a) (λ o. is_fault (w.matched a.ask o)) w.devices (λ o t. fault_none a o (w.matched a.ask o) t) f) e in
    absurd (some_isnt_none (first_some (fault_for w) (asked w c)) none s)

pub faulty : (w : SearchInput) (c : List ℕ) → IsSome (fault_of w c) → shape_of w c ≡ Faulty
unfolding fault_of shape_of
faulty w c s =
    ap (λ (t : Bool). cond t Faulty (cond (list_any (all_fails w) (asked w c)) Hopeless (cond (is_crowded w (slots w c)) Hopeless (Open (length (slots w c))))))
    (faulty_by w c (list_any (is_faulty w) (asked w c)) refl s)
