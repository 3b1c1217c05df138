-- Pods that have one claim at most, and how many entries a job may have then.
use Rattle.std.specs.Prelude.{ℕ, ◌≡◌, ◌≤◌, List, [], ◌∷◌, length}
use Rattle.api_claim.specs.Limits.{EachOf}
use Rattle.cluster.specs.declared.entry.Entry.{Entry}
use Rattle.cluster.specs.declared.object.Object.{Object}
use Rattle.cluster.specs.declared.object.Object.TheVariants as object
use Rattle.cluster.specs.declared.state.State.{State}
use Rattle.commands.specs.declared.command.Command.{Command}
use Rattle.commands.specs.declared.command.Command.TheVariants.{Adopt, Apply, Delete, Invalid, Release, Schedule}

-- an object that is a pod has one claim at most
abbrev pub IsSmall : Object → Type 0
IsSmall (object.Node x) = Unit {0}
IsSmall (object.Slice x) = Unit {0}
IsSmall (object.Class x) = Unit {0}
IsSmall (object.Claim x) = Unit {0}
IsSmall (object.Pod x) = length x.claims ≤ 1

-- a pod that the command applies has one claim at most
abbrev pub HasFewClaims : Command → Type 0
HasFewClaims (Apply x mode) = IsSmall x
HasFewClaims (Invalid error) = Unit {0}
HasFewClaims (Delete target) = Unit {0}
HasFewClaims (Schedule pod attempts) = Unit {0}
HasFewClaims (Release pod) = Unit {0}
HasFewClaims (Adopt claim status) = Unit {0}

-- each pod of the state has one claim at most
abbrev pub PodsHaveFewClaims : State → Type 0
PodsHaveFewClaims s = EachOf (λ e. length e.1.pod.object.claims ≤ 1) s.pods

-- how many entries a job of the command has at most: one to schedule a pod reserves, writes the use of the one claim, and
-- binds
abbrev pub entries_most : Command → ℕ
entries_most (Apply x mode) = 1
entries_most (Invalid error) = 1
entries_most (Delete target) = 1
entries_most (Schedule pod attempts) = 3
entries_most (Release pod) = 1
entries_most (Adopt claim status) = 1

-- all of the entries are the job's
abbrev pub AllOf : ℕ → List Entry → Type 0
AllOf job [] = Unit {0}
AllOf job (e ∷ es) = (e.job ≡ job) × AllOf job es
