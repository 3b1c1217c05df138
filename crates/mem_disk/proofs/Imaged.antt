-- What a crash may leave after changes, of which those since the last sync are told apart.
use Rattle.std.proofs.Common.{◌≡◌, ◌∙◌, ◌+◌, ◌<◌, ℕ, List, [], ◌∷◌, ◌++◌, get_or, length, take, arith, ap, subst, sym, refl}
use Rattle.std.specs.List.{AllByRecursion}
use Rattle.dra_ports.specs.DiskContent.{IsImage, shorter}
use Rattle.mem_disk.specs.Stages.{IsUnsynced, Stage, StartsWith, after, begun, bytes_from, stage_after}
use Rattle.mem_disk.specs.declared.change.Change.{Change}
use Rattle.mem_disk.specs.declared.change.Change.TheVariants.{Cut}
use Rattle.mem_disk.proofs.Past.{longer_once, no_change, stage_join, stage_step}
use Rattle.mem_disk.proofs.Pushed.{image_cut, image_longer}

pub cut_image : (c : Change) (len : ℕ) (s : Stage) (old new : List ℕ) → c ≡ Cut len → new ≡ take len old → IsImage s.sure old → IsImage (after c s).sure new
cut_image c len s old new is items p =
    subst (λ b. IsImage (after b s).sure new) (sym is) (subst (IsImage (shorter len s.sure)) (sym items) (image_cut len s.sure old p.agrees))

pub no_image_more : (s : Stage) (image : List ℕ) → IsImage s.sure image → IsImage (stage_after s []).sure image
no_image_more s image p = subst (λ (t : Stage). IsImage t.sure image) (sym (no_change s)) p

pub image_more : (s : Stage) (cs : List Change) (at : ℕ) (c : Change) (image : List ℕ) → at < length cs → c ≡ get_or cs at c → IsImage (after c (stage_after s (take at cs))).sure image → IsImage (stage_after s (take (at + 1) cs)).sure image
image_more s cs at c image within is p = subst (λ (t : Stage). IsImage t.sure image) (sym (stage_step s cs at c within is)) p

lengthened : (s : Stage) (since : List Change) (old new : List ℕ) → AllByRecursion IsUnsynced since → IsImage (stage_after s since).sure old → StartsWith new old → (since ≡ [] → new ≡ old) → IsImage (stage_after s since).sure new
lengthened s [] old new all p starts same = subst (IsImage (stage_after s []).sure) (sym (same refl)) p
lengthened s (c ∷ cs) old new all p starts same = image_longer _ old new p (longer_once s (c ∷ cs) all (omega arith)) starts

pub whole_image : (first synced old new : List ℕ) (cs before since : List Change) → cs ≡ before ++ since → stage_after (begun first) before ≡ begun (bytes_from first before) → synced ≡ bytes_from first before
    → AllByRecursion IsUnsynced since → IsImage (stage_after (begun synced) since).sure old → StartsWith new old → (since ≡ [] → new ≡ old) → IsImage (stage_after (begun first) cs).sure new
whole_image first synced old new cs before since parts is bytes all p starts same =
    let whole : stage_after (begun first) cs ≡ stage_after (begun synced) since =
    ap (stage_after (begun first)) parts ∙ stage_join (begun first) before since ∙ ap (λ (s : Stage). stage_after s since) (is ∙ ap begun (sym bytes)) in
    subst (λ (t : Stage). IsImage t.sure new) (sym whole) (lengthened (begun synced) since old new all p starts same)
