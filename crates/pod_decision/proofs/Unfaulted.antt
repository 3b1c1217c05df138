-- Selectors that are known to have no evaluation error on slices, and the requests that have these selectors.
use Rattle.std.proofs.Common.{ℕ, zero, suc, ◌≡◌, List, [], ◌∷◌, ◌++◌, Bool, true, not, Option, None, Some, refl, sym, ap, ◌∙◌}
use Rattle.std.specs.Prelude.{Contains, IfSome, slice_get}
use Rattle.std.specs.List.{list_all}
use Rattle.std.proofs.lemmas.Bool.{and_from, and_parts}
use Rattle.std.proofs.lemmas.List.Folds.{list_all-append}
use Rattle.api_claim.specs.declared.types.DeviceRequest.{DeviceRequest}
use Rattle.api_claim.specs.declared.types.RequestKind.{RequestKind}
use Rattle.api_claim.specs.declared.types.RequestKind.TheVariants.{Exactly, FirstAvailable}
use Rattle.api_claim.specs.declared.types.ResourceClaim.{ResourceClaim}
use Rattle.api_cluster.specs.declared.types.DeviceClass.{DeviceClass}
use Rattle.api_slice.specs.declared.types.Device.{Device}
use Rattle.api_slice.specs.declared.types.ResourceSlice.{ResourceSlice}
use Rattle.pool_view.specs.declared.matching.Match.{Match}
use Rattle.pool_view.specs.declared.matching.Match.TheVariants.{Fault, No, Yes}
use Rattle.pool_view.specs.Match.{match_from}
use Rattle.pool_view.specs.declared.stored.Stored.{Stored}
use Rattle.pool_view.specs.Differing.{IsAtItsName}
use Rattle.pool_view.specs.Inventory.{Named}
use Rattle.pool_view.specs.Known.{has_error, is_sure, is_sure_of}
use Rattle.pool_view.specs.Names.{at_name}
use Rattle.pool_view.specs.Pools.{Offered}
use Rattle.request_rules.specs.Asked.{is_fault}
use Rattle.request_rules.specs.Match.{ClassTable, match_class, matched_by, seen}
use Rattle.node_inputs.specs.Apart.{AreListed, AreNamed}
use Rattle.full_nodes.specs.Full.{are_unfaulted, is_unfaulted}
use Rattle.full_nodes.specs.Sure.{all_sure_at, are_sure, ask_texts, is_sure_by, kind_texts, known_of, requests_texts, some_texts, texts_of}
use Rattle.pod_decision.proofs.Places.{at_place}

-- ---- tests of lists, by indices

pub passes_at : {X : Type 0} (test : X → Bool) (xs : List X) (i : ℕ) (x : X) → list_all test xs ≡ true → slice_get xs i ≡ Some x → test x ≡ true
passes_at test [] i x e at = absurd (cc)
passes_at test (y ∷ ys) zero x e at =
    let same : y ≡ x = cc in ap test (sym same) ∙ (and_parts (test y) (list_all test ys) e).0
passes_at test (y ∷ ys) (suc i) x e at = passes_at test ys i x (and_parts (test y) (list_all test ys) e).1 at

passes_all : {X : Type 0} (test : X → Bool) (xs : List X) → ((i : ℕ) (x : X) → slice_get xs i ≡ Some x → test x ≡ true) → list_all test xs ≡ true
passes_all test [] h = refl
passes_all test (x ∷ xs) h = and_from (test x) (list_all test xs) (h 0 x refl) (passes_all test xs (λ i y e. h (suc i) y e))

-- ---- a device and lists of selectors

-- the selectors have no evaluation error on the device
abbrev pub is_clean : Offered → List (List ℕ) → Bool
is_clean o texts = not (has_error (match_from (seen o) 0 texts))

same_error : (m : Match) → not (is_fault m) ≡ not (has_error m)
same_error Yes = refl
same_error No = refl
same_error (Fault n why) = refl

clean_texts : (o : Offered) (class own : List (List ℕ)) → list_all (is_clean o) (some_texts class own) ≡ true → not (is_fault (match_from (seen o) 0 (class ++ own))) ≡ true
clean_texts o [] [] e = refl
clean_texts o [] (t ∷ ts) e = same_error (match_from (seen o) 0 (t ∷ ts)) ∙ (and_parts (is_clean o (t ∷ ts)) true e).0
clean_texts o (t ∷ ts) own e = same_error (match_from (seen o) 0 ((t ∷ ts) ++ own)) ∙ (and_parts (is_clean o ((t ∷ ts) ++ own)) true e).0

clean_ask : (o : Offered) (c : Option (Stored DeviceClass)) (own : List (List ℕ)) → list_all (is_clean o) (ask_texts c own) ≡ true → not (is_fault (match_class c own (seen o))) ≡ true
clean_ask o None own e = refl
clean_ask o (Some c) own e = clean_texts o c.object.selectors own e

-- ---- devices and lists of selectors

pub record AreClean (devices : List Offered) (lists : List (List (List ℕ))) : Type 0 where
  pub each : (i : ℕ) (o : Offered) → slice_get devices i ≡ Some o → list_all (is_clean o) lists ≡ true

clean_first : (devices : List Offered) (a b : List (List (List ℕ))) → AreClean devices (a ++ b) → AreClean devices a
clean_first devices a b c = record { each = λ i o e. (and_parts (list_all (is_clean o) a) (list_all (is_clean o) b) (sym (list_all-append (is_clean o) a b) ∙ c.each i o e)).0 }

clean_later : (devices : List Offered) (a b : List (List (List ℕ))) → AreClean devices (a ++ b) → AreClean devices b
clean_later devices a b c = record { each = λ i o e. (and_parts (list_all (is_clean o) a) (list_all (is_clean o) b) (sym (list_all-append (is_clean o) a b) ∙ c.each i o e)).1 }

clean_kind : (classes : ClassTable) (devices : List Offered) (k : RequestKind) → AreClean devices (kind_texts classes k) → is_unfaulted classes devices k ≡ true
clean_kind classes devices (Exactly r) c =
    passes_all (λ o. not (is_fault (matched_by classes r.ask o))) devices (λ i o e. clean_ask o (at_name classes r.ask.class) r.ask.selectors (c.each i o e))
clean_kind classes devices (FirstAvailable rs) c = refl

clean_requests : (classes : ClassTable) (devices : List Offered) (rs : List DeviceRequest) → AreClean devices (requests_texts classes rs) → list_all (λ r. is_unfaulted classes devices r.kind) rs ≡ true
clean_requests classes devices [] c = refl
clean_requests classes devices (r ∷ rs) c =
    and_from (is_unfaulted classes devices r.kind) (list_all (λ q. is_unfaulted classes devices q.kind) rs)
    (clean_kind classes devices r.kind (clean_first devices (kind_texts classes r.kind) (requests_texts classes rs) c))
    (clean_requests classes devices rs (clean_later devices (kind_texts classes r.kind) (requests_texts classes rs) c))

pub clean_claims : (classes : ClassTable) (devices : List Offered) (claims : List ResourceClaim) → AreClean devices (texts_of classes claims) → are_unfaulted classes devices claims ≡ true
unfolding are_unfaulted
clean_claims classes devices [] c = refl
clean_claims classes devices (d ∷ ds) c =
    and_from (list_all (λ r. is_unfaulted classes devices r.kind) d.requests) (list_all (λ e. list_all (λ r. is_unfaulted classes devices r.kind) e.requests) ds)
    (clean_requests classes devices d.requests (clean_first devices (requests_texts classes d.requests) (texts_of classes ds) c))
    (clean_claims classes devices ds (clean_later devices (requests_texts classes d.requests) (texts_of classes ds) c))

-- ---- what is known

sure_stored : (texts : List (List ℕ)) (slices : Named ResourceSlice) (x : ResourceSlice) → IsAtItsName slices x → is_sure_by texts (at_name slices x.name) ≡ true → is_sure texts x ≡ true
sure_stored texts slices x at e = ap (is_sure texts) (sym at.is) ∙ ap (is_sure_by texts) (sym at.there) ∙ e

sure_device : (texts : List (List ℕ)) (x : ResourceSlice) (d : Device) → Contains x.devices d → is_sure texts x ≡ true → is_sure_of texts x.driver d ≡ true
unfolding is_sure
sure_device texts x d has e = passes_at (is_sure_of texts x.driver) x.devices has.0 d e (at_place x.devices d has)

sure_lists : (slices : Named ResourceSlice) (lists : List (List (List ℕ))) (o : Offered) → IsAtItsName slices o.slice → Contains o.slice.devices o.device → all_sure_at (known_of slices lists) o.slice.name ≡ true → list_all (is_clean o) lists ≡ true
sure_lists slices [] o at has e = refl
sure_lists slices (l ∷ ls) o at has e =
    let parts = and_parts (is_sure_by l (at_name slices o.slice.name)) (all_sure_at (known_of slices ls) o.slice.name) e in
    and_from (is_clean o l) (list_all (is_clean o) ls) (sure_device l o.slice o.device has (sure_stored l slices o.slice at parts.0)) (sure_lists slices ls o at has parts.1)

-- what is known to have no evaluation error on the devices' slices has none on the devices
pub sure_devices : (slices : Named ResourceSlice) (listed : List ResourceSlice) (lists : List (List (List ℕ))) (devices : List Offered) → AreNamed slices devices → AreListed devices listed → are_sure (known_of slices lists) devices ≡ true → AreClean devices lists
unfolding are_sure
sure_devices slices listed lists devices named all e = record {
  each = λ i o at. sure_lists slices lists o (named.at_names i o at) (all.in_slice i o at) (passes_at (λ p. all_sure_at (known_of slices lists) p.slice.name) devices i o e at);
}

-- what is known of a slice of a name
pub sure_by : (texts : List (List ℕ)) (o : Option (Stored ResourceSlice)) (sure : Bool) → IfSome o (λ stored. is_sure texts stored.object ≡ sure) → sure ≡ true → is_sure_by texts o ≡ true
sure_by texts None sure h e = refl
sure_by texts (Some s) sure h e = h ∙ e
