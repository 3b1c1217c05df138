-- A table of claims, cut at one of them, and the devices that its claims hold.
use Rattle.std.proofs.Common.{◌≡◌, ◌∙◌, List, [], ◌∷◌, ◌++◌, Bool, true, false, cond, Option, None, Some, refl, sym, ap, append_assoc}
use Rattle.std.specs.BTreeMap.{insert_entry, is_at}
use Rattle.std.specs.List.{flat_map}
use Rattle.std.specs.Map.{remove_entry, set_value}
use Rattle.std.specs.Ordering.{is_eq, match_ordering}
use Rattle.std.specs.declared.cmp.Ordering.{Ordering}
use Rattle.std.specs.declared.cmp.Ordering.TheVariants.{Less, Equal, Greater}
use Rattle.object_fields.specs.declared.key.Key.{Key}
use Rattle.pool_view.specs.Names.{at_key, key_cmp}
use Rattle.cluster.specs.declared.state.ClaimState.{ClaimState}
use Rattle.cluster.specs.declared.state.State.{State}
use Rattle.cluster.specs.Held.{held, held_by}
use Rattle.cluster.specs.Tables.{changed_at}
use Rattle.ledger_core.proofs.Once.{Pairs, with_key}
use Rattle.ledger_core.proofs.SameNames.{key_found}

abbrev pub Claims : Type 0
Claims = List (Key × ClaimState)

abbrev pub pairs_in : Claims → Pairs
pairs_in claims = flat_map (λ e. with_key e.0 (held_by e.1.grant)) claims

-- what a state's claims hold
pub held_is : (s : State) → held s ≡ pairs_in s.claims
unfolding held
held_is s = refl

some_claim : (c d : ClaimState) → Some c ≡ Some d → c ≡ d
some_claim c d h = cc

-- the devices of the claim at a key, between those of the claims before it and behind it
pub record Split (es : Claims) (k : Key) (v : ClaimState) : Type 0 where
  pub prefix : Pairs
  pub back : Pairs
  pub whole : pairs_in es ≡ prefix ++ (with_key k (held_by v.grant) ++ back)
  pub set : (w : ClaimState) → pairs_in (set_value (is_at (key_cmp k)) es w) ≡ prefix ++ (with_key k (held_by w.grant) ++ back)
  pub gone : pairs_in (remove_entry (is_at (key_cmp k)) es) ≡ prefix ++ back

split_by : (e : Key × ClaimState) (es : Claims) (k : Key) (v : ClaimState) (b : Bool) → is_eq (key_cmp k e.0) ≡ b → cond b (Some e.1) (at_key es k) ≡ Some v → (at_key es k ≡ Some v → Split es k v)
    → Split (e ∷ es) k v
split_by e es k v true same is later =
    let key : k ≡ e.0 = key_found k e.0 same in
    let value : e.1 ≡ v = some_claim e.1 v is in
    record {
      prefix = [];
      back = pairs_in es;
      whole = ap (λ (x : Key). with_key x (held_by e.1.grant) ++ pairs_in es) (sym key) ∙ ap (λ (x : ClaimState). with_key k (held_by x.grant) ++ pairs_in es) value;
      set = λ w. ap (λ b. pairs_in (cond b ((e.0, w) ∷ es) (e ∷ set_value (is_at (key_cmp k)) es w))) same ∙ ap (λ (x : Key). with_key x (held_by w.grant) ++ pairs_in es) (sym key);
      gone = ap (λ b. pairs_in (cond b es (e ∷ remove_entry (is_at (key_cmp k)) es))) same;
    }
split_by e es k v false same is later =
    let s = later is in
    let mine = with_key e.0 (held_by e.1.grant) in
    record {
      prefix = mine ++ s.prefix;
      back = s.back;
      whole = ap (λ ps. mine ++ ps) s.whole ∙ sym (append_assoc mine s.prefix (with_key k (held_by v.grant) ++ s.back));
      set = λ w.
          ap (λ b. pairs_in (cond b ((e.0, w) ∷ es) (e ∷ set_value (is_at (key_cmp k)) es w))) same
          ∙ ap (λ ps. mine ++ ps) (s.set w)
          ∙ sym (append_assoc mine s.prefix (with_key k (held_by w.grant) ++ s.back));
      gone = ap (λ b. pairs_in (cond b es (e ∷ remove_entry (is_at (key_cmp k)) es))) same ∙ ap (λ ps. mine ++ ps) s.gone ∙ sym (append_assoc mine s.prefix s.back);
    }

pub split : (es : Claims) (k : Key) (v : ClaimState) → at_key es k ≡ Some v → Split es k v
split [] k v is = absurd (cc)
split (e ∷ es) k v is = split_by e es k v (is_eq (key_cmp k e.0)) refl is (λ later. split es k v later)

-- ---- changes that leave all devices with their claims

-- a claim with the devices that it had
pub set_same : (es : Claims) (k : Key) (v w : ClaimState) → at_key es k ≡ Some v → held_by w.grant ≡ held_by v.grant → pairs_in (set_value (is_at (key_cmp k)) es w) ≡ pairs_in es
set_same es k v w is same =
    let s = split es k v is in
    s.set w ∙ ap (λ ds. s.prefix ++ (with_key k ds ++ s.back)) same ∙ sym s.whole

changed_by : (es : Claims) (k : Key) (f : ClaimState → ClaimState) (o : Option ClaimState) → at_key es k ≡ o → ((c : ClaimState) → held_by (f c).grant ≡ held_by c.grant)
    → pairs_in (changed_at k f es) ≡ pairs_in es
changed_by es k f None is same = rw (is) refl
changed_by es k f (Some c) is same = rw (is) (set_same es k c (f c) is (same c))

pub changed_same : (es : Claims) (k : Key) (f : ClaimState → ClaimState) → ((c : ClaimState) → held_by (f c).grant ≡ held_by c.grant) → pairs_in (changed_at k f es) ≡ pairs_in es
changed_same es k f same = changed_by es k f (at_key es k) refl same

inserted_by : (o : Ordering) (e : Key × ClaimState) (es : Claims) (k : Key) (w : ClaimState) → key_cmp k e.0 ≡ o → at_key (e ∷ es) k ≡ None → w.grant ≡ None
    → (at_key es k ≡ None → pairs_in (insert_entry key_cmp es k w) ≡ pairs_in es) → pairs_in (insert_entry key_cmp (e ∷ es) k w) ≡ pairs_in (e ∷ es)
inserted_by Less e es k w is h none later =
    ap (λ o. pairs_in (match_ordering o ((k, w) ∷ e ∷ es) ((e.0, w) ∷ es) (e ∷ insert_entry key_cmp es k w))) is ∙ ap (λ g. with_key k (held_by g) ++ pairs_in (e ∷ es)) none
inserted_by Equal e es k w is h none later =
    let f : Some e.1 ≡ None = sym (ap (λ o. cond (is_eq o) (Some e.1) (at_key es k)) is) ∙ h in
    absurd (cc)
inserted_by Greater e es k w is h none later =
    let g : at_key es k ≡ None = sym (ap (λ o. cond (is_eq o) (Some e.1) (at_key es k)) is) ∙ h in
    ap (λ o. pairs_in (match_ordering o ((k, w) ∷ e ∷ es) ((e.0, w) ∷ es) (e ∷ insert_entry key_cmp es k w))) is ∙ ap (λ ps. with_key e.0 (held_by e.1.grant) ++ ps) (later g)

-- a new claim without a grant
pub inserted_same : (es : Claims) (k : Key) (w : ClaimState) → at_key es k ≡ None → w.grant ≡ None → pairs_in (insert_entry key_cmp es k w) ≡ pairs_in es
inserted_same [] k w h none = ap (λ g. with_key k (held_by g) ++ []) none
inserted_same (e ∷ es) k w h none = inserted_by (key_cmp k e.0) e es k w refl h none (λ g. inserted_same es k w g none)

-- ---- what is at other keys

skip_by : (e : Key × ClaimState) (es : Claims) (k l : Key) (w : ClaimState) (b c : Bool) → (k ≡ l → ⊥) → is_eq (key_cmp k e.0) ≡ b → is_eq (key_cmp l e.0) ≡ c
    → at_key (set_value (is_at (key_cmp k)) es w) l ≡ at_key es l → at_key (set_value (is_at (key_cmp k)) (e ∷ es) w) l ≡ at_key (e ∷ es) l
skip_by e es k l w true true n is at later = absurd (n (key_found k e.0 is ∙ sym (key_found l e.0 at)))
skip_by e es k l w true false n is at later = rw (is) (rw (at) refl)
skip_by e es k l w false c n is at later = rw (is) (ap (λ o. cond (is_eq (key_cmp l e.0)) (Some e.1) o) later)

-- what is written at a key leaves the others
pub set_elsewhere : (es : Claims) (k l : Key) (w : ClaimState) → (k ≡ l → ⊥) → at_key (set_value (is_at (key_cmp k)) es w) l ≡ at_key es l
set_elsewhere [] k l w n = refl
set_elsewhere (e ∷ es) k l w n = skip_by e es k l w (is_eq (key_cmp k e.0)) (is_eq (key_cmp l e.0)) n refl refl (set_elsewhere es k l w n)

elsewhere_by : (es : Claims) (k l : Key) (f : ClaimState → ClaimState) (o : Option ClaimState) → (k ≡ l → ⊥) → at_key es k ≡ o → at_key (changed_at k f es) l ≡ at_key es l
elsewhere_by es k l f None n is = rw (is) refl
elsewhere_by es k l f (Some c) n is = rw (is) (set_elsewhere es k l (f c) n)

pub changed_elsewhere : (es : Claims) (k l : Key) (f : ClaimState → ClaimState) → (k ≡ l → ⊥) → at_key (changed_at k f es) l ≡ at_key es l
changed_elsewhere es k l f n = elsewhere_by es k l f (at_key es k) n refl
