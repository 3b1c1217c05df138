-- What is gathered of selectors that compile are their texts.
use Rattle.std.proofs.Common.{◌≡◌, ◌∙◌, ℕ, ◌+◌, List, [], ◌∷◌, ◌++◌, map, Result, Ok, Err, codes, ap, append_assoc, refl, subst, sym}
use Rattle.std.proofs.lemmas.List.{append-nil}
use Rattle.object_fields.specs.Fields.{◌>>=◌}
use Rattle.object_fields.specs.declared.error.FieldError.{FieldError}
use Rattle.object_fields.specs.declared.kind.Stage.{Stage}
use Rattle.object_fields.specs.declared.path.Step.{Step}
use Rattle.object_fields.specs.declared.path.Step.TheVariants.{Member, Place}
use Rattle.api_claim.specs.declared.types.DeviceRequest.{DeviceRequest}
use Rattle.api_claim.specs.declared.types.DeviceSubRequest.{DeviceSubRequest}
use Rattle.api_claim.specs.declared.types.RequestKind.{RequestKind}
use Rattle.api_claim.specs.declared.types.RequestKind.TheVariants.{Exactly, FirstAvailable}
use Rattle.api_claim.specs.declared.types.ResourceClaim.{ResourceClaim}
use Rattle.api_cluster.specs.declared.types.DeviceClass.{DeviceClass}
use Rattle.device_selector.specs.Selectors.{selector_of}
use Rattle.ready_objects.specs.Ready.{IsReadyClaim, IsReadyClass, class_path, kind_selectors, kind_texts, options_from, requests_from, requests_path, selectors_path, text_at, text_by, texts_at, texts_from}

-- a result of a reading
abbrev pub given : {A : Type 0} → A → Result A FieldError
given x = Ok x

-- both readings returned a value
pub then_ok : {A B : Type 0} (x : Result A FieldError) (f : A → Result B FieldError) (b : B) → x >>= f ≡ Ok b → (a : A) × ((x ≡ Ok a) × (f a ≡ Ok b))
then_ok (Ok a) f b h = (a, (refl, h))
then_ok (Err e) f b h = cc

-- the text is a selector, and is what is returned
pub text_ok : {A : Type 0} (path : List Step) (text s : List ℕ) (r : Result A Stage) → text_by path text r ≡ Ok s → (a : A) × ((r ≡ Ok a) × (text ≡ s))
text_ok path text s (Ok a) h = let k : given text ≡ Ok s = h in (a, (refl, cc))
text_ok path text s (Err e) h = cc

-- ---- from the result back

pub texts_gathered : (path : List Step) (n : ℕ) (before ts all : List (List ℕ)) → texts_from path n before ts ≡ Ok all → all ≡ before ++ ts
texts_gathered path n before [] all h =
    let k : given before ≡ Ok all = h in
    let e : before ≡ all = cc in
    sym e ∙ sym (append-nil before)
texts_gathered path n before (t ∷ ts) all h =
    let s = then_ok (text_at (path ++ Place n ∷ []) t) (λ s. texts_from path (n + 1) (before ++ s ∷ []) ts) all h in
    let u = text_ok (path ++ Place n ∷ []) t s.0 (selector_of t) s.1.0 in
    let k = texts_gathered path (n + 1) (before ++ s.0 ∷ []) ts all s.1.1 in
    subst (λ (x : List ℕ). all ≡ before ++ x ∷ ts) (sym u.1.1) (k ∙ append_assoc before (s.0 ∷ []) ts)

pub options_gathered : (path : List Step) (n : ℕ) (before : List (List (List ℕ))) (rs : List DeviceSubRequest) (all : List (List (List ℕ))) → options_from path n before rs ≡ Ok all → all ≡ before ++ map (λ r. r.ask.selectors) rs
options_gathered path n before [] all h =
    let k : given before ≡ Ok all = h in
    let e : before ≡ all = cc in
    sym e ∙ sym (append-nil before)
options_gathered path n before (r ∷ rs) all h =
    let at : List Step = selectors_path (path ++ Place n ∷ []) in
    let rest : List (List (List ℕ)) = map (λ (r : DeviceSubRequest). r.ask.selectors) rs in
    let s = then_ok (texts_at at r.ask.selectors) (λ ts. options_from path (n + 1) (before ++ ts ∷ []) rs) all h in
    let t = texts_gathered at 0 [] r.ask.selectors s.0 s.1.0 in
    let k = options_gathered path (n + 1) (before ++ s.0 ∷ []) rs all s.1.1 in
    subst (λ (x : List (List ℕ)). all ≡ before ++ x ∷ rest) t (k ∙ append_assoc before (s.0 ∷ []) rest)

pub kind_gathered : (path : List Step) (k : RequestKind) (all : List (List (List ℕ))) → kind_texts path k ≡ Ok all → all ≡ kind_selectors k
kind_gathered path (Exactly r) all h =
    let at : List Step = selectors_path (path ++ Member (codes "exactly") ∷ []) in
    let s = then_ok (texts_at at r.ask.selectors) (λ ts. given (ts ∷ [])) all h in
    let t = texts_gathered at 0 [] r.ask.selectors s.0 s.1.0 in
    let g : given (s.0 ∷ []) ≡ Ok all = s.1.1 in
    let e : s.0 ∷ [] ≡ all = cc in
    sym e ∙ ap (λ (x : List (List ℕ)). x ∷ []) t
kind_gathered path (FirstAvailable rs) all h = options_gathered (path ++ Member (codes "firstAvailable") ∷ []) 0 [] rs all h

pub requests_gathered : (n : ℕ) (before : List (List (List (List ℕ)))) (rs : List DeviceRequest) (all : List (List (List (List ℕ)))) → requests_from n before rs ≡ Ok all → all ≡ before ++ map (λ r. kind_selectors r.kind) rs
requests_gathered n before [] all h =
    let k : given before ≡ Ok all = h in
    let e : before ≡ all = cc in
    sym e ∙ sym (append-nil before)
requests_gathered n before (r ∷ rs) all h =
    let at : List Step = requests_path ++ Place n ∷ [] in
    let rest : List (List (List (List ℕ))) = map (λ (r : DeviceRequest). kind_selectors r.kind) rs in
    let s = then_ok (kind_texts at r.kind) (λ ts. requests_from (n + 1) (before ++ ts ∷ []) rs) all h in
    let t = kind_gathered at r.kind s.0 s.1.0 in
    let k = requests_gathered (n + 1) (before ++ s.0 ∷ []) rs all s.1.1 in
    subst (λ (x : List (List (List ℕ))). all ≡ before ++ x ∷ rest) t (k ∙ append_assoc before (s.0 ∷ []) rest)

-- ---- what is kept

pub class_made : (c : DeviceClass) (texts : List (List ℕ)) → texts_at class_path c.selectors ≡ Ok texts → IsReadyClass c texts
class_made c texts h = record {
  texts = texts_gathered class_path 0 [] c.selectors texts h;
  ready = ap (λ (r : Result (List (List ℕ)) FieldError). r >>= λ ts. given c) h;
}

pub claim_made : (c : ResourceClaim) (texts : List (List (List (List ℕ)))) → requests_from 0 [] c.requests ≡ Ok texts → IsReadyClaim c texts
claim_made c texts h = record {
  texts = requests_gathered 0 [] c.requests texts h;
  ready = ap (λ (r : Result (List (List (List (List ℕ)))) FieldError). r >>= λ ts. given c) h;
}
