-- When a command may be refused.
use Rattle.std.specs.Prelude.{◌≡◌, Option, None, Some, option_map}
use Rattle.object_fields.specs.declared.kind.FieldErrorKind.TheVariants.{Memory}
use Rattle.cluster.specs.declared.entry.Command.{Command}
use Rattle.cluster.specs.declared.entry.Command.TheVariants as command
use Rattle.cluster.specs.declared.entry.Refusal.{Refusal}
use Rattle.cluster.specs.declared.entry.Refusal.TheVariants as refusal
use Rattle.cluster.specs.declared.state.State.{State}
use Rattle.cluster.specs.Denied.{first_refusal, or_else}
use Rattle.cluster.specs.Ready.{IsReady}
use Rattle.plan_rules.specs.Failing.{failing_status}

-- the failure of the grant of a status write, as a refusal
abbrev pub grant_refusal : State → Command → Option Refusal
grant_refusal s (command.Invalid error) = None
grant_refusal s (command.Apply object mode) = None
grant_refusal s (command.Delete target) = None
grant_refusal s (command.Schedule pod) = None
grant_refusal s (command.Release pod) = None
grant_refusal s (command.Adopt claim status) = option_map refusal.Failure (failing_status s claim status)

-- the first refusal of a command that holds, with the failures of the grant of a status write behind the others
abbrev pub refusal_of : State → Command → Option Refusal
refusal_of s c = or_else (first_refusal s c) (grant_refusal s c)

-- Which document has an error is for the reading to say, and not for the state; that memory ran out
-- is no error of a document. An object that is to be applied has none.
abbrev pub IsAsked : Command → Type 0
IsAsked (command.Invalid error) = error.kind ≡ Memory → ⊥
IsAsked (command.Apply object mode) = IsReady object
IsAsked (command.Delete target) = Unit {0}
IsAsked (command.Schedule pod) = Unit {0}
IsAsked (command.Release pod) = Unit {0}
IsAsked (command.Adopt claim status) = Unit {0}

-- the refusal is the first that holds
pub record MayDeny (s : State) (command : Command) (refusal : Refusal) : Type 0 where
  pub asked : IsAsked command
  pub due : refusal_of s command ≡ Some refusal
