-- What holds at each moment of steps of which each is safe.
use Rattle.std.proofs.Common.{◌≡◌, inl, inr, ℕ, zero, suc, ◌+◌, ◌-◌, ◌≤◌, min, Bool, true, false, IsTrue, List, [], ◌∷◌, ◌++◌, length, map, take, drop, replicate, Option, Some, None, refl, sym, ◌∙◌, ap, subst, arith, append_assoc, append-nil, length-append, length-take, length-drop, take-append-drop, if◌then◌else◌}
use Rattle.std.proofs.lemmas.List.{length-map, length-replicate, map-append, drop_all}
use Rattle.std.specs.List.{AllByRecursion}
use Rattle.std.specs.Option.{option_map}
use Rattle.dra_ports.specs.DiskContent.{Agrees, Content, IsImage, Sure, blurred, exactly, moved, spliced, synced}
use Rattle.dra_ports.specs.DiskImages.{AtEachMoment, Leaves, Throughout, Where}
use Rattle.ckpt_journal.specs.Steps.{IsExact, Safe, Step, StepFailed, StoppedIn, all_bytes, all_done, begun, done, step_bytes, step_sure}

if_true : {X : Type 0} (b : Bool) (x y : X) → IsTrue b → (if b then x else y) ≡ x
if_true true x y is = refl
if_true false x y is = cc

same_bytes : (b image : List ℕ) → Agrees (map Some b) image → length image ≡ length b → image ≡ b
same_bytes [] [] p len = refl
same_bytes [] (y ∷ image) p len = absurd (omega arith)
same_bytes (x ∷ b) [] p len = absurd p
same_bytes (x ∷ b) (y ∷ image) p len = λ i. p.0 i ∷ same_bytes b image p.1 (omega arith) i

pub exactly_this : (b image : List ℕ) → IsImage (exactly b) image → image ≡ b
exactly_this b image p = same_bytes b image p.agrees (p.end refl ∙ length-map b Some)

module _ (P : List ℕ → Type 0) where
  leaves_exact : (c : Content) → IsExact c → IsTrue c.honest → P c.bytes → Leaves P c.sure
  leaves_exact c exact honest holds = subst (Leaves P) (sym (exact honest)) (λ image is. subst P (sym (exactly_this c.bytes image is)) holds)

  leaves_torn : (step : Step) (c : Content) → IsExact c → IsTrue c.honest → ((image : List ℕ) → IsImage (step_sure step (exactly c.bytes)) image → P image) → Leaves P (step_sure step c.sure)
  leaves_torn step c exact honest torn = subst (λ (s : Sure). Leaves P (step_sure step s)) (sym (exact honest)) torn

  exact_done : (step : Step) (c : Content) → IsExact (done step c)
  exact_done step c honest = if_true c.honest _ _ honest

  pub exact_all : (steps : List Step) (c : Content) → IsExact c → IsExact (all_done steps c)
  exact_all [] c exact = exact
  exact_all (step ∷ steps) c exact = exact_all steps (done step c) (exact_done step c)

  pub safe_done : (steps : List Step) (c : Content) → IsExact c → Safe P steps c.bytes → IsTrue c.honest → Throughout P c (all_done steps c)
  safe_done [] c exact safe honest = record { moments = []; passed = sym (append-nil c.earlier); each = tt; now = leaves_exact c exact honest safe; honest = refl }
  safe_done (step ∷ steps) c exact safe honest =
      let rest = safe_done steps (done step c) (exact_done step c) safe.2 honest in
      record {
        moments = c.sure ∷ step_sure step c.sure ∷ rest.moments;
        passed = rest.passed ∙ ap (λ (l : List Sure). l ++ rest.moments) (append_assoc c.earlier (c.sure ∷ []) (step_sure step c.sure ∷ [])) ∙ append_assoc c.earlier (c.sure ∷ step_sure step c.sure ∷ []) rest.moments;
        each = (leaves_exact c exact honest safe.0, (leaves_torn step c exact honest safe.1, rest.each));
        now = rest.now;
        honest = rest.honest;
      }

  -- no step is done
  pub at_rest : (c : Content) → IsExact c → IsTrue c.honest → P c.bytes → Throughout P c c
  at_rest c exact honest holds = record { moments = []; passed = sym (append-nil c.earlier); each = tt; now = leaves_exact c exact honest holds; honest = refl }

  one_moment : (step : Step) (c : Content) (bytes : List ℕ) → IsExact c → IsTrue c.honest → P c.bytes → ((image : List ℕ) → IsImage (step_sure step (exactly c.bytes)) image → P image) → Throughout P c (moved bytes (step_sure step c.sure) c)
  one_moment step c bytes exact honest holds torn = record {
    moments = c.sure ∷ [];
    passed = refl;
    each = (leaves_exact c exact honest holds, tt);
    now = leaves_torn step c exact honest torn;
    honest = refl;
  }

  two_more : (step : Step) (c : Content) (new : Option Content) → IsExact c → P c.bytes → ((image : List ℕ) → IsImage (step_sure step (exactly c.bytes)) image → P image) → AtEachMoment P (Some (done step c)) new → AtEachMoment P (Some c) new
  two_more step c None exact holds torn all = absurd all
  two_more step c (Some d) exact holds torn all = λ honest.
      let rest = all honest in
      record {
        moments = c.sure ∷ step_sure step c.sure ∷ rest.moments;
        passed = rest.passed ∙ ap (λ (l : List Sure). l ++ rest.moments) (append_assoc c.earlier (c.sure ∷ []) (step_sure step c.sure ∷ [])) ∙ append_assoc c.earlier (c.sure ∷ step_sure step c.sure ∷ []) rest.moments;
        each = (leaves_exact c exact honest holds, (leaves_torn step c exact honest torn, rest.each));
        now = rest.now;
        honest = rest.honest;
      }

  safe_failed : (step : Step) (c : Content) (new : Option Content) → IsExact c → P c.bytes → ((image : List ℕ) → IsImage (step_sure step (exactly c.bytes)) image → P image) → StepFailed step (Some c) new → AtEachMoment P (Some c) new
  safe_failed step c new exact holds torn (inl (inl same)) = subst (AtEachMoment P (Some c)) (sym same) (λ honest. at_rest c exact honest holds)
  safe_failed step c new exact holds torn (inl (inr part)) = subst (AtEachMoment P (Some c)) (sym part.1) (λ honest. one_moment step c part.0 exact honest holds torn)
  safe_failed step c new exact holds torn (inr whole) = subst (AtEachMoment P (Some c)) (sym whole) (λ honest. one_moment step c (step_bytes step c.bytes) exact honest holds torn)

  pub safe_stopped : (steps : List Step) (c : Content) (new : Option Content) → IsExact c → Safe P steps c.bytes → StoppedIn steps (Some c) new → AtEachMoment P (Some c) new
  safe_stopped [] c new exact safe stop = absurd stop
  safe_stopped (step ∷ steps) c new exact safe (inl failed) = safe_failed step c new exact safe.0 safe.1 failed
  safe_stopped (step ∷ steps) c new exact safe (inr later) = two_more step c new exact safe.0 safe.1 (safe_stopped steps (done step c) new (exact_done step c) safe.2 later)

  -- steps, and steps after them
  pub safe_both : (steps more : List Step) (bytes : List ℕ) → Safe P steps bytes → Safe P more (all_bytes steps bytes) → Safe P (steps ++ more) bytes
  safe_both [] more bytes first second = second
  safe_both (step ∷ steps) more bytes first second = (first.0, first.1, safe_both steps more (step_bytes step bytes) first.2 second)

pub safe_under : (P Q : List ℕ → Type 0) → ((image : List ℕ) → P image → Q image) → (steps : List Step) (bytes : List ℕ) → Safe P steps bytes → Safe Q steps bytes
safe_under P Q implied [] bytes safe = implied bytes safe
safe_under P Q implied (step ∷ steps) bytes safe = (implied bytes safe.0, (λ image is. implied image (safe.1 image is)), safe_under P Q implied steps (step_bytes step bytes) safe.2)

-- ---- the images of a step that isn't synced

sure_part : (xs : List ℕ) (sure : List (Option ℕ)) (image : List ℕ) → Agrees (map Some xs ++ sure) image → (rest : List ℕ) × (image ≡ xs ++ rest) × Agrees sure rest
sure_part [] sure image is = (image, refl, is)
sure_part (x ∷ xs) sure [] is = absurd is
sure_part (x ∷ xs) sure (b ∷ image) is =
    let more = sure_part xs sure image is.1 in
    (more.0, (λ i. is.0 i ∷ more.1 i), more.2)

loose_part : (n : ℕ) (sure : List (Option ℕ)) (image : List ℕ) → Agrees (replicate n None ++ sure) image → (mid : List ℕ) × (rest : List ℕ) × (length mid ≡ n) × (image ≡ mid ++ rest) × Agrees sure rest
loose_part zero sure image is = ([], image, refl, refl, is)
loose_part (suc n) sure [] is = absurd is
loose_part (suc n) sure (b ∷ image) is =
    let more = loose_part n sure image is in
    (b ∷ more.0, more.1, omega (arith, more.2), ap (λ (l : List ℕ). b ∷ l) more.3, more.4)

map_take : (n : ℕ) (xs : List ℕ) → take n (map Some xs) ≡ map Some (take n xs)
map_take zero xs = refl
map_take (suc n) [] = refl
map_take (suc n) (x ∷ xs) = ap (λ (l : List (Option ℕ)). Some x ∷ l) (map_take n xs)

map_drop : (n : ℕ) (xs : List ℕ) → drop n (map Some xs) ≡ map Some (drop n xs)
map_drop zero xs = refl
map_drop (suc n) [] = refl
map_drop (suc n) (x ∷ xs) = map_drop n xs

-- what a write that isn't synced leaves of bytes: those before it, any as many, those behind it, and any more
pub record Torn (at n : ℕ) (bytes image : List ℕ) : Type 0 where
  pub mid : List ℕ
  pub more : List ℕ
  pub len : length mid ≡ min n (length bytes - at)
  pub parts : image ≡ take at bytes ++ (mid ++ (drop (at + n) bytes ++ more))

pub torn : (at n : ℕ) (bytes image : List ℕ) → at ≤ length bytes → IsImage (blurred at n (exactly bytes)) image → Torn at n bytes image
torn at n bytes image le is =
    let places = map Some bytes in
    let k = min (at + n) (length places) - min at (length places) in
    let prefix_is : take at places ≡ map Some (take at bytes) = map_take at bytes in
    let rest_is : drop (at + n) places ≡ map Some (drop (at + n) bytes) ++ [] = map_drop (at + n) bytes ∙ sym (append-nil _) in
    let whole : take at places ++ replicate k None ++ drop (at + n) places ≡ map Some (take at bytes) ++ (replicate k None ++ (map Some (drop (at + n) bytes) ++ [])) = (λ i. prefix_is i ++ replicate k None ++ rest_is i) ∙ append_assoc (map Some (take at bytes)) (replicate k None) (map Some (drop (at + n) bytes) ++ []) in
    let first = sure_part (take at bytes) (replicate k None ++ (map Some (drop (at + n) bytes) ++ [])) image (subst (λ (l : List (Option ℕ)). Agrees l image) whole is.agrees) in
    let second = loose_part k (map Some (drop (at + n) bytes) ++ []) first.0 first.2 in
    let third = sure_part (drop (at + n) bytes) [] second.1 second.4 in
    record {
      mid = second.0;
      more = third.0;
      len = omega (arith, second.2, length-map bytes Some);
      parts = first.1 ∙ ap (λ (l : List ℕ). take at bytes ++ l) (second.3 ∙ ap (λ (l : List ℕ). second.0 ++ l) third.1);
    }

-- what a cut that isn't synced leaves of bytes: those before the cut, and any more
pub cut_short : (len : ℕ) (bytes image : List ℕ) → IsImage (record { places = take len (map Some bytes); longer = true }) image → (more : List ℕ) × (image ≡ take len bytes ++ more)
cut_short len bytes image is =
    let places_are : take len (map Some bytes) ≡ map Some (take len bytes) ++ [] = map_take len bytes ∙ sym (append-nil _) in
    let found = sure_part (take len bytes) [] image (subst (λ (l : List (Option ℕ)). Agrees l image) places_are is.agrees) in
    (found.0, found.1)
