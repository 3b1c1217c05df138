-- How far a command over the claims of a pod has come.
use Rattle.std.specs.Prelude.{ℕ, ◌≡◌, Bool, List, ◌++◌, Option}
use Rattle.std.specs.Option.{option_map}
use Rattle.object_fields.specs.declared.key.Key.{Key}
use Rattle.ckpt_journal.specs.declared.record.Row.{Row}
use Rattle.prepare_core.specs.declared.driver.DriverCall.{DriverCall}
use Rattle.pod_prepare.specs.Commands.{Does, Done, RoseBy, Turn, failed}

-- what was done, and the rest
abbrev pub joined : Done → Done → Done
joined done rest = record { text = done.text ++ rest.text; rows = rest.rows; calls = done.calls ++ rest.calls }

-- this was done of the claims, and whatever the ones that are left come to, all of them come to both
pub record IsSoFar (turn : List Row → Key → Bool → Turn) (claims left : List Key) (old now : List Row) (text : List ℕ) (calls_old calls_now : Option (List DriverCall)) (faults_old faults_now : ℕ) : Type 0 where
  pub done : Done
  pub on : (rest : Done) → Does turn left now rest → Does turn claims old (joined done rest)
  pub printed : text ≡ done.text
  pub asked : calls_now ≡ option_map (λ calls. calls ++ done.calls) calls_old
  pub counted : RoseBy (failed done.calls) faults_old faults_now
