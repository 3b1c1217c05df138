-- Names of requests have no slash, so that the name of a result determines its request and its subrequest.
use Rattle.std.proofs.Common.{ℕ, zero, suc, ◌≡◌, ◌≢◌, List, [], ◌∷◌, ◌++◌, true, None, Some, map, refl, sym, ap, ◌∙◌, subst, append_assoc}
use Rattle.std.proofs.lemmas.List.Elements.{All-head, All-tail}
use Rattle.std.specs.List.{All, slice_get, list_all}
use Rattle.object_fields.specs.Names.{is_dns_byte, is_dns_label}
use Rattle.object_fields.specs.NewNames.{AreDifferent}
use Rattle.object_fields.specs.declared.key.Key.{Key}
use Rattle.api_claim.specs.Limits.{EachOf, KindKept, RequestsKept}
use Rattle.api_claim.specs.declared.types.DeviceRequest.{DeviceRequest}
use Rattle.api_claim.specs.declared.types.DeviceSubRequest.{DeviceSubRequest}
use Rattle.api_claim.specs.declared.types.RequestKind.{RequestKind}
use Rattle.api_claim.specs.declared.types.RequestKind.TheVariants.{Exactly, FirstAvailable}
use Rattle.request_rules.specs.Asked.{Wish}
use Rattle.request_rules.specs.Lists.{Each}
use Rattle.request_rules.specs.Names.{name_by}
use Rattle.request_rules.specs.Ways.{wishes_in}
use Rattle.plan_rules.proofs.Elements.{get-map, map-at}
use Rattle.plan_rules.proofs.Tests.{left_of, right_of}

-- ---- slashes

-- without a slash
abbrev pub Plain : List ℕ → Type 0
Plain [] = Unit {0}
Plain (b ∷ bs) = (b ≢ 47) × Plain bs

dns_byte : (b : ℕ) → is_dns_byte b ≡ true → b ≢ 47
dns_byte b e f = let g : is_dns_byte 47 ≡ true = ap is_dns_byte (sym f) ∙ e in absurd (cc)

plain_bytes : (s : List ℕ) → list_all is_dns_byte s ≡ true → Plain s
plain_bytes [] e = tt
plain_bytes (b ∷ s) e = (dns_byte b (left_of (is_dns_byte b) (list_all is_dns_byte s) e), plain_bytes s (right_of (is_dns_byte b) (list_all is_dns_byte s) e))

plain_label : (s : List ℕ) → is_dns_label s ≡ true → Plain s
plain_label s e = plain_bytes s (left_of _ _ (left_of _ _ (right_of _ _ e)))

pub split_plain : (xs ys us vs : List ℕ) → Plain xs → Plain ys → xs ++ 47 ∷ us ≡ ys ++ 47 ∷ vs → (xs ≡ ys) × (us ≡ vs)
split_plain [] [] us vs p q e = (refl, cc)
split_plain [] (y ∷ ys) us vs p q e = absurd (q.0 (let f : 47 ≡ y = cc in sym f))
split_plain (x ∷ xs) [] us vs p q e = absurd (p.0 (let f : x ≡ 47 = cc in f))
split_plain (x ∷ xs) (y ∷ ys) us vs p q e =
    let f : x ≡ y = cc in
    let g : xs ++ 47 ∷ us ≡ ys ++ 47 ∷ vs = cc in
    let r = split_plain xs ys us vs p.1 q.1 g in
    (ap (λ (z : ℕ). z ∷ xs) f ∙ ap (λ (l : List ℕ). y ∷ l) r.0, r.1)

unslashed : (xs ys vs : List ℕ) → Plain xs → xs ≡ ys ++ 47 ∷ vs → ⊥
unslashed [] [] vs p e = absurd (cc)
unslashed [] (y ∷ ys) vs p e = absurd (cc)
unslashed (x ∷ xs) [] vs p e = p.0 (let f : x ≡ 47 = cc in f)
unslashed (x ∷ xs) (y ∷ ys) vs p e = unslashed xs ys vs p.1 (let g : xs ≡ ys ++ 47 ∷ vs = cc in g)

slashed : (name sub : List ℕ) → name_by name (Some sub) ≡ name ++ 47 ∷ sub
slashed name sub = append_assoc name (47 ∷ []) sub

-- a subrequest's name is no request's
pub sub_isnt_main : (name sub other : List ℕ) → Plain other → name_by name (Some sub) ≡ name_by other None → ⊥
sub_isnt_main name sub other p e = unslashed other name sub p (sym e ∙ slashed name sub)

-- it determines the request and the subrequest
pub sub_tells : (name sub other last : List ℕ) → Plain name → Plain other → name_by name (Some sub) ≡ name_by other (Some last) → (name ≡ other) × (sub ≡ last)
sub_tells name sub other last p q e = split_plain name other sub last p q (sym (slashed name sub) ∙ e ∙ slashed other last)

-- ---- names that differ

pub each_of_at : {X : Type 0} (P : X → Type 0) (xs : List X) → EachOf P xs → Each P xs
each_of_at P [] h i x e = absurd (cc)
each_of_at P (y ∷ ys) h zero x e = let f : y ≡ x = cc in subst P f h.0
each_of_at P (y ∷ ys) h (suc i) x e = each_of_at P ys h.1 i x e

prefix_differs : (u t : List ℕ) (ts : List (List ℕ)) (n : ℕ) → All (λ other. other ≢ u) ts → slice_get ts n ≡ Some t → u ≡ t → ⊥
prefix_differs u t [] n h e f = absurd (cc)
prefix_differs u t (v ∷ ts) zero h e f = All-head (λ other. other ≢ u) v ts h (let g : v ≡ t = cc in g ∙ sym f)
prefix_differs u t (v ∷ ts) (suc n) h e f = prefix_differs u t ts n (All-tail (λ other. other ≢ u) v ts h) e f

pub place_tells : (ts : List (List ℕ)) → AreDifferent ts → (m n : ℕ) (t u : List ℕ) → slice_get ts m ≡ Some t → slice_get ts n ≡ Some u → t ≡ u → m ≡ n
place_tells [] d m n t u e f s = absurd (cc)
place_tells (v ∷ ts) d zero zero t u e f s = refl
place_tells (v ∷ ts) d zero (suc n) t u e f s = let g : v ≡ t = cc in absurd (prefix_differs v u ts n d.0 f (g ∙ s))
place_tells (v ∷ ts) d (suc m) zero t u e f s = let g : v ≡ u = cc in absurd (prefix_differs v t ts m d.0 e (g ∙ sym s))
place_tells (v ∷ ts) d (suc m) (suc n) t u e f s = ap suc (place_tells ts d.1 m n t u e f s)

-- ---- the requests of a claim

pub record Apart (ss : List DeviceSubRequest) : Type 0 where
  pub tells : (j k : ℕ) (s t : DeviceSubRequest) → slice_get ss j ≡ Some s → slice_get ss k ≡ Some t → s.name ≡ t.name → j ≡ k

-- names without slashes, each of one request, whose subrequests have names of their own
pub record WellNamed (qs : List Wish) : Type 0 where
  pub plain : Each (λ q. Plain q.request.name) qs
  pub tells : (m n : ℕ) (q r : Wish) → slice_get qs m ≡ Some q → slice_get qs n ≡ Some r → q.request.name ≡ r.request.name → m ≡ n
  pub subs : Each (λ q. (ss : List DeviceSubRequest) → q.request.kind ≡ FirstAvailable ss → Apart ss) qs

apart_of : (ss : List DeviceSubRequest) → AreDifferent (map (λ s. s.name) ss) → Apart ss
apart_of ss d = record {
  tells = λ j k s t e f same. place_tells (map (λ (s : DeviceSubRequest). s.name) ss) d j k s.name t.name (map-at (λ (s : DeviceSubRequest). s.name) ss j s e) (map-at (λ (s : DeviceSubRequest). s.name) ss k t f) same;
}

apart_by : (kind : RequestKind) → KindKept kind → (ss : List DeviceSubRequest) → kind ≡ FirstAvailable ss → Apart ss
apart_by (Exactly r) h ss e = absurd (cc)
apart_by (FirstAvailable ts) h ss e = let f : ts ≡ ss = cc in subst Apart f (apart_of ts h.names.distinct)

pub well_named : (i : ℕ) (key : Key) (requests : List DeviceRequest) → RequestsKept requests → WellNamed (wishes_in i key requests)
well_named i key requests h =
    let wish : DeviceRequest → Wish = λ r. record { claim = i; key = key; request = r } in
    let name : DeviceRequest → List ℕ = λ r. r.name in
    record {
      plain = λ n q e.
          let r = get-map wish requests n q e in
          subst (λ (z : Wish). Plain z.request.name) r.2 (plain_label r.0.name (each_of_at (λ t. is_dns_label t ≡ true) (map name requests) h.names.labels n r.0.name (map-at name requests n r.0 r.1)));
      tells = λ m n q s e f same.
          let r = get-map wish requests m q e in
          let t = get-map wish requests n s f in
          place_tells (map name requests) h.names.distinct m n r.0.name t.0.name (map-at name requests m r.0 r.1) (map-at name requests n t.0 t.1)
          (ap (λ (z : Wish). z.request.name) r.2 ∙ same ∙ sym (ap (λ (z : Wish). z.request.name) t.2));
      subs = λ n q e ss f.
          let r = get-map wish requests n q e in
          apart_by r.0.kind (each_of_at (λ (z : DeviceRequest). KindKept z.kind) requests h.kinds n r.0 r.1) ss (ap (λ (z : Wish). z.request.kind) r.2 ∙ f);
    }
