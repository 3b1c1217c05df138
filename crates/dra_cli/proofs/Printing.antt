-- What a replay has written of a generated script, and what is printed of it.
use Rattle.std.proofs.Common.{ℕ, ◌≡◌, ◌≤◌, ◌++◌, inl, List, [], sym, subst, Option, Some, None}
use Rattle.std.specs.Io.KnownBytes.{Appends}
use Rattle.dra_ports.specs.Causes.{Rose}
use Rattle.dra_ports.specs.DiskContent.{Content}
use Rattle.dra_ports.specs.Prefixes.{AppendsPrefix}
use Rattle.dra_ports.specs.declared.error.PortError.{PortError}
use Rattle.dra_ports.specs.declared.error.PortError.TheVariants as port
use Rattle.prepare_core.specs.declared.driver.DriverCall.{DriverCall}
use Rattle.script_commands.specs.Commands.{commands_of as asked_of}
use Rattle.script_gen.specs.Script.{script_of as generated}
use Rattle.replay_core.specs.Kubelet.{node_with}
use Rattle.replay_core.specs.Lines.{output_status}
use Rattle.replay_core.specs.Replay.{Ends, EndsSo}
use Rattle.replay_core.specs.Script.{Clean, script_of}
use Rattle.replay_core.specs.declared.options.ReplayOptions.{ReplayOptions}
use Rattle.replay_core.specs.declared.status.Status.{Status}
use Rattle.replay_core.specs.declared.status.Status.TheVariants as status
use Rattle.dra_cli.specs.Exercise.{IsSummary, IsText, Prints, PrintsAll, PrintsPrefix, exercise_options}
use Rattle.dra_cli.specs.Lines.{EndsLine, IsLine}
use Rattle.dra_cli.proofs.Counting.{Laws}
use Rattle.dra_cli.proofs.Ended.{Came, came}
use Rattle.dra_cli.proofs.Lines.{OneLine, summary_is_line}
use Rattle.dra_cli.proofs.Script.{IsScript}

-- the same for what is known of the objects that a replay was given
pub came_so : Laws → OneLine → (from pods : ℕ) (o : ReplayOptions) (left left_now before after : Option (List ℕ)) (bytes : List ℕ) (disk disk_now : Option Content) (calls calls_now : Option (List DriverCall)) (faults faults_now : ℕ) (s : Status)
    → pods ≤ 100000 → IsScript (script_of 32 (generated from pods)) (asked_of 32 from pods) Clean → o ≡ exercise_options → left ≡ Some (generated from pods) → before ≡ Some [] → after ≡ Some bytes
    → EndsSo o left left_now before after disk disk_now calls calls_now faults faults_now s → (s ≡ status.Read → Rose 0 0) → (s ≡ status.Write → Rose 0 0) → (s ≡ status.Disk → Rose 0 0) → Came from pods bytes s
came_so laws law from pods o left left_now before after bytes disk disk_now calls calls_now faults faults_now s few script options input output now e read write fault =
    came laws law from pods bytes left_now (node_with None disk calls faults) (node_with e.table disk_now calls_now faults_now) s few script
    (subst (λ x. Ends x (Some (generated from pods)) left_now (Some []) (Some bytes) (node_with None disk calls faults) (node_with e.table disk_now calls_now faults_now) s) options
    (subst (λ x. Ends o x left_now (Some []) (Some bytes) (node_with None disk calls faults) (node_with e.table disk_now calls_now faults_now) s) input
    (subst (λ x. Ends o left left_now x (Some bytes) (node_with None disk calls faults) (node_with e.table disk_now calls_now faults_now) s) output
    (subst (λ x. Ends o left left_now before x (node_with None disk calls faults) (node_with e.table disk_now calls_now faults_now) s) now e.ends))))
    read write fault

-- ---- the summary

summary_line : (from pods : ℕ) (text : List ℕ) → IsSummary from pods text → IsLine text
summary_line from pods text s = subst IsLine (sym s.is) (summary_is_line s.history _)

-- the last line is the summary
abbrev pub CutsLast : List ℕ → List ℕ → Type 0
CutsLast text last = (front line : List ℕ) → text ≡ front ++ line → EndsLine front → IsLine line → last ≡ line

last_summary : (from pods : ℕ) (text last : List ℕ) (t : IsText from pods text) → CutsLast text last → last ≡ t.summary
last_summary from pods text last t cuts = cuts t.lines t.summary t.is t.ended (summary_line from pods t.summary t.of_run)

pub all_printed : (from pods : ℕ) (text seen last : List ℕ) (old new : Option (List ℕ)) → IsText from pods text → seen ≡ text → CutsLast seen last → Appends old new last → PrintsAll from pods old new
all_printed from pods text seen last old new t same cuts h =
    record { text = t.summary; summary = t.of_run; appended = subst (Appends old new) (last_summary from pods text last t (subst (λ x. CutsLast x last) same cuts)) h }

prefix_printed : (from pods : ℕ) (text seen last : List ℕ) (old new : Option (List ℕ)) → IsText from pods text → seen ≡ text → CutsLast seen last → AppendsPrefix old new last → PrintsPrefix from pods old new
prefix_printed from pods text seen last old new t same cuts h =
    record { text = t.summary; summary = t.of_run; appended = subst (AppendsPrefix old new) (last_summary from pods text last t (subst (λ x. CutsLast x last) same cuts)) h }

by_error : (from pods : ℕ) (old new : Option (List ℕ)) (e : PortError) → PrintsPrefix from pods old new → Prints from pods old new (output_status e)
by_error from pods old new port.Failed h = h
by_error from pods old new port.Memory h = inl h

pub short_printed : (from pods : ℕ) (text seen last : List ℕ) (old new : Option (List ℕ)) (e : PortError) (s : Status) → IsText from pods text → seen ≡ text → CutsLast seen last → AppendsPrefix old new last → s ≡ output_status e → Prints from pods old new s
short_printed from pods text seen last old new e s t same cuts h is =
    subst (Prints from pods old new) (sym is) (by_error from pods old new e (prefix_printed from pods text seen last old new t same cuts h))
