-- A work that was set in a list of works.
use Rattle.std.proofs.Common.{ℕ, ◌<◌, ◌≡◌, ◌∙◌, List, Some, length, length-set, ap, arith}
use Rattle.std.specs.List.{slice_get, slice_set}
use Rattle.std.proofs.lemmas.List.{get_or-set_same}
use Rattle.std.proofs.lemmas.Option.{slice_get-get_or}
use Rattle.sched_job.specs.declared.work.Work.{Work}

pub set_there : (ws : List Work) (i : ℕ) (w : Work) → i < length ws → slice_get (slice_set ws i w) i ≡ Some w
set_there ws i w lt =
    slice_get-get_or (slice_set ws i w) i w (omega (arith, lt, length-set ws i w)) ∙ ap Some (get_or-set_same ws i w w lt)
