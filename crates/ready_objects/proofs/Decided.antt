-- What the selectors decide, one after another.
use Rattle.std.proofs.Common.{◌≡◌, ◌∙◌, ℕ, ◌+◌, List, [], ◌∷◌, ◌++◌, map, Result, Ok, Err, codes, ap, append_assoc, refl, sym}
use Rattle.std.proofs.lemmas.List.{append-nil}
use Rattle.object_fields.specs.Fields.{◌>>=◌}
use Rattle.object_fields.specs.declared.error.FieldError.{FieldError}
use Rattle.object_fields.specs.declared.kind.Stage.{Stage}
use Rattle.object_fields.specs.declared.path.Step.{Step}
use Rattle.object_fields.specs.declared.path.Step.TheVariants.{Member, Place}
use Rattle.api_claim.specs.declared.types.DeviceRequest.{DeviceRequest}
use Rattle.api_claim.specs.declared.types.DeviceSubRequest.{DeviceSubRequest}
use Rattle.api_claim.specs.declared.types.RequestKind.{RequestKind}
use Rattle.api_claim.specs.declared.types.RequestKind.TheVariants.{Exactly, FirstAvailable}
use Rattle.api_claim.specs.declared.types.ResourceClaim.{ResourceClaim}
use Rattle.api_cluster.specs.declared.types.DeviceClass.{DeviceClass}
use Rattle.device_selector.specs.Selectors.{selector_of}
use Rattle.ready_objects.specs.InOrder.{AreDecisive, EachCompiles, SelectorAt, claim_listed, class_listed, kind_listed, listed, requests_listed, subrequests_listed}
use Rattle.ready_objects.specs.Ready.{claim_ready, class_path, class_ready, kind_selectors, kind_texts, options_from, requests_from, requests_path, selector_error, selectors_path, text_at, text_by, texts_at, texts_from}
use Rattle.ready_objects.proofs.Gathered.{given, text_ok, then_ok}

-- an error of a reading
abbrev refusal : {A : Type 0} → FieldError → Result A FieldError
refusal e = Err e

-- the result, if each text is a selector
abbrev decided : {B : Type 0} → List SelectorAt → Result B FieldError → Result B FieldError
decided [] r = r
decided (s ∷ ss) r = text_at s.path s.text >>= λ text. decided ss r

bind_bind : {A B C : Type 0} (x : Result A FieldError) (g : A → Result B FieldError) (f : B → Result C FieldError) → (x >>= g) >>= f ≡ x >>= (λ a. g a >>= f)
bind_bind (Ok a) g f = refl
bind_bind (Err e) g f = refl

text_step : {A B : Type 0} (path : List Step) (text : List ℕ) (r : Result A Stage) (g : List ℕ → Result B FieldError) (y : Result B FieldError) → g text ≡ y → text_by path text r >>= g ≡ text_by path text r >>= (λ s. y)
text_step path text (Ok a) g y h = h
text_step path text (Err e) g y h = refl

decided_append : {B : Type 0} (ss more : List SelectorAt) (r : Result B FieldError) → decided (ss ++ more) r ≡ decided ss (decided more r)
decided_append [] more r = refl
decided_append {B = B} (s ∷ ss) more r =
    ap (λ (y : Result B FieldError). text_at s.path s.text >>= λ text. y) (decided_append ss more r)

-- ---- what is read is what the selectors decide

texts_decided : {B : Type 0} (path : List Step) (n : ℕ) (before ts : List (List ℕ)) (f : List (List ℕ) → Result B FieldError) → texts_from path n before ts >>= f ≡ decided (listed path n ts) (f (before ++ ts))
texts_decided path n before [] f = ap f (sym (append-nil before))
texts_decided {B = B} path n before (t ∷ ts) f =
    let at : List Step = path ++ Place n ∷ [] in
    let rest : List SelectorAt = listed path (n + 1) ts in
    let k = texts_decided path (n + 1) (before ++ t ∷ []) ts f in
    let e = ap (λ (x : List (List ℕ)). decided rest (f x)) (append_assoc before (t ∷ []) ts) in
    bind_bind (text_at at t) (λ s. texts_from path (n + 1) (before ++ s ∷ []) ts) f
    ∙ text_step at t (selector_of t) (λ s. texts_from path (n + 1) (before ++ s ∷ []) ts >>= f) (decided rest (f (before ++ t ∷ ts))) (k ∙ e)

subrequests_decided : {B : Type 0} (path : List Step) (n : ℕ) (before : List (List (List ℕ))) (rs : List DeviceSubRequest) (f : List (List (List ℕ)) → Result B FieldError) → options_from path n before rs >>= f ≡ decided (subrequests_listed path n rs) (f (before ++ map (λ r. r.ask.selectors) rs))
subrequests_decided path n before [] f = ap f (sym (append-nil before))
subrequests_decided {B = B} path n before (r ∷ rs) f =
    let at : List Step = selectors_path (path ++ Place n ∷ []) in
    let mine : List SelectorAt = listed at 0 r.ask.selectors in
    let rest : List SelectorAt = subrequests_listed path (n + 1) rs in
    let behind : List (List (List ℕ)) = map (λ (r : DeviceSubRequest). r.ask.selectors) rs in
    let k = subrequests_decided path (n + 1) (before ++ r.ask.selectors ∷ []) rs f in
    let e = ap (λ (x : List (List (List ℕ))). decided rest (f x)) (append_assoc before (r.ask.selectors ∷ []) behind) in
    bind_bind (texts_at at r.ask.selectors) (λ ts. options_from path (n + 1) (before ++ ts ∷ []) rs) f
    ∙ texts_decided at 0 [] r.ask.selectors (λ ts. options_from path (n + 1) (before ++ ts ∷ []) rs >>= f)
    ∙ ap (λ (y : Result B FieldError). decided mine y) (k ∙ e)
    ∙ sym (decided_append mine rest (f (before ++ r.ask.selectors ∷ behind)))

kind_decided : {B : Type 0} (path : List Step) (k : RequestKind) (f : List (List (List ℕ)) → Result B FieldError) → kind_texts path k >>= f ≡ decided (kind_listed path k) (f (kind_selectors k))
kind_decided path (Exactly r) f =
    let at : List Step = selectors_path (path ++ Member (codes "exactly") ∷ []) in
    bind_bind (texts_at at r.ask.selectors) (λ ts. given (ts ∷ [])) f ∙ texts_decided at 0 [] r.ask.selectors (λ ts. f (ts ∷ []))
kind_decided path (FirstAvailable rs) f = subrequests_decided (path ++ Member (codes "firstAvailable") ∷ []) 0 [] rs f

requests_decided : {B : Type 0} (n : ℕ) (before : List (List (List (List ℕ)))) (rs : List DeviceRequest) (f : List (List (List (List ℕ))) → Result B FieldError) → requests_from n before rs >>= f ≡ decided (requests_listed n rs) (f (before ++ map (λ r. kind_selectors r.kind) rs))
requests_decided n before [] f = ap f (sym (append-nil before))
requests_decided {B = B} n before (r ∷ rs) f =
    let at : List Step = requests_path ++ Place n ∷ [] in
    let mine : List SelectorAt = kind_listed at r.kind in
    let rest : List SelectorAt = requests_listed (n + 1) rs in
    let behind : List (List (List (List ℕ))) = map (λ (r : DeviceRequest). kind_selectors r.kind) rs in
    let k = requests_decided (n + 1) (before ++ kind_selectors r.kind ∷ []) rs f in
    let e = ap (λ (x : List (List (List (List ℕ)))). decided rest (f x)) (append_assoc before (kind_selectors r.kind ∷ []) behind) in
    bind_bind (kind_texts at r.kind) (λ ts. requests_from (n + 1) (before ++ ts ∷ []) rs) f
    ∙ kind_decided at r.kind (λ ts. requests_from (n + 1) (before ++ ts ∷ []) rs >>= f)
    ∙ ap (λ (y : Result B FieldError). decided mine y) (k ∙ e)
    ∙ sym (decided_append mine rest (f (before ++ kind_selectors r.kind ∷ behind)))

-- ---- what that is

each_compiles : {B : Type 0} (ss : List SelectorAt) (b : B) → decided ss (given b) ≡ Ok b → EachCompiles ss
each_compiles [] b h = tt
each_compiles (s ∷ ss) b h =
    let p = then_ok (text_at s.path s.text) (λ text. decided ss (given b)) b h in
    let u = text_ok s.path s.text p.0 (selector_of s.text) p.1.0 in
    (record { compiled = u.0; is = u.1.0 }, each_compiles ss b p.1.1)

-- selectors before it change nothing
behind_selectors : {B : Type 0} (ss : List SelectorAt) (r : Result B FieldError) → EachCompiles ss → decided ss r ≡ r
behind_selectors [] r h = refl
behind_selectors (s ∷ ss) r h =
    ap (λ (x : Result (List ℕ) FieldError). x >>= λ text. decided ss r) (ap (text_by s.path s.text) h.0.is) ∙ behind_selectors ss r h.1

first_refused : {B : Type 0} (before after : List SelectorAt) (s : SelectorAt) (stage : Stage) (r : Result B FieldError) → EachCompiles before → selector_of s.text ≡ Err stage → decided (before ++ s ∷ after) r ≡ Err (selector_error s.path stage)
first_refused before after s stage r h refused =
    decided_append before (s ∷ after) r
    ∙ behind_selectors before (decided (s ∷ after) r) h
    ∙ ap (λ (x : Result (List ℕ) FieldError). x >>= λ text. decided after r) (ap (text_by s.path s.text) refused)

are_decisive : {B : Type 0} (ss : List SelectorAt) (b : B) (answer : Result B FieldError) → answer ≡ decided ss (given b) → AreDecisive ss b answer
are_decisive {B = B} ss b answer is = record {
  ready = λ h. is ∙ behind_selectors ss (given b) h;
  each = λ h. each_compiles ss b (sym is ∙ h);
  first = λ before after s stage e h refused.
      is ∙ ap (λ (l : List SelectorAt). decided l (given b)) e ∙ first_refused before after s stage (given b) h refused;
}

pub class_decided : (c : DeviceClass) → AreDecisive (class_listed c) c (class_ready c)
class_decided c =
    are_decisive (class_listed c) c (class_ready c) (texts_decided class_path 0 [] c.selectors (λ texts. given c))

pub claim_decided : (c : ResourceClaim) → AreDecisive (claim_listed c) c (claim_ready c)
claim_decided c =
    are_decisive (claim_listed c) c (claim_ready c) (requests_decided 0 [] c.requests (λ texts. given c))
