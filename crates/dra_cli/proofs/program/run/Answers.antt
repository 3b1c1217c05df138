use Rattle.std.proofs.Common.{inr, map, refl, rules}
use Rattle.std.specs.Prelude.{string_bytes}
use Rattle.dra_cli.specs.Task.{asked_of}
use Rattle.dra_cli.proofs.Causing.{checkpoint_so, complete_so, limit_so}
use Rattle.dra_cli.proofs.Nothing.{nothing_done}
use Rattle.dra_cli.proofs.Serves.{unserved_so}
use Rattle.dra_cli.proofs.Tasks.{of_options, of_words}
use Rattle.dra_cli.proofs.Truths.{replays_so}
use Rattle.dra_cli.proofs.program.run.Goals as goal

pub returns-in-Replay-clause-replays : goal.returns-in-Replay-clause-replays
returns-in-Replay-clause-replays g c =
    of_options (asked_of (map string_bytes c.args.words.now.items)) c.in-Ok.asked c.in-Some.task c.in-Replay.options _ (search rules) c.in-Some.is c.in-Replay.is
    (replays_so c.runs_are_true.ensures.run c.runs_are_true.ensures.part c.in-Replay.options _ _ _ _ _ _ _ _ _ _ _ c.replay.ensures.ends)

pub returns-in-Err-clause-replays : goal.returns-in-Err-clause-replays
returns-in-Err-clause-replays g c = λ options asked. nothing_done c.runs_are_true.ensures.run options _ _ _ _ _ _

pub returns-in-Replay-clause-complete : goal.returns-in-Replay-clause-complete
returns-in-Replay-clause-complete g c =
    complete_so (asked_of (map string_bytes c.args.words.now.items)) c.in-Ok.asked c.in-Some.task c.in-Replay.options (search rules) c.in-Some.is c.in-Replay.is _ _ _ _ _ _ _ _ _ _ _ _ _ _ _ _ _
    (record { ends = c.replay.ensures.ends; of_read = c.replay.ensures.read; of_write = c.replay.ensures.write; of_disk = c.replay.ensures.disk }) c.endings_have_causes.ensures.complete

pub returns-in-Err-clause-complete : goal.returns-in-Err-clause-complete
returns-in-Err-clause-complete g c = λ o bytes asks quiet room may. inr refl

pub returns-in-Replay-clause-limit : goal.returns-in-Replay-clause-limit
returns-in-Replay-clause-limit g c =
    limit_so (asked_of (map string_bytes c.args.words.now.items)) c.in-Ok.asked c.in-Some.task c.in-Replay.options (search rules) c.in-Some.is c.in-Replay.is _ _ _ _ _ _ _ _ _ _ _ _ _ _ _ _ _
    (record { ends = c.replay.ensures.ends; of_read = c.replay.ensures.read; of_write = c.replay.ensures.write; of_disk = c.replay.ensures.disk }) c.endings_have_causes.ensures.limit

pub returns-in-Err-clause-limit : goal.returns-in-Err-clause-limit
returns-in-Err-clause-limit g c = λ o bytes asks quiet room may. inr refl

pub returns-in-Replay-clause-checkpoint : goal.returns-in-Replay-clause-checkpoint
returns-in-Replay-clause-checkpoint g c =
    checkpoint_so (asked_of (map string_bytes c.args.words.now.items)) c.in-Ok.asked c.in-Some.task c.in-Replay.options (search rules) c.in-Some.is c.in-Replay.is _ _ _ _ _ _ _ _ _ _ _ _ _ _ _ _ _
    (record { ends = c.replay.ensures.ends; of_read = c.replay.ensures.read; of_write = c.replay.ensures.write; of_disk = c.replay.ensures.disk }) c.endings_have_causes.ensures.checkpoint

pub returns-in-Err-clause-checkpoint : goal.returns-in-Err-clause-checkpoint
returns-in-Err-clause-checkpoint g c = λ o bytes at asks quiet none first. inr refl

pub returns-in-Serve-clause-serves : goal.returns-in-Serve-clause-serves
returns-in-Serve-clause-serves g c =
    of_words (asked_of (map string_bytes c.args.words.now.items)) c.in-Ok.asked c.in-Some.task c.in-Serve.words _ (search rules) c.in-Some.is c.in-Serve.is c.serve_words-status.ensures.serves

pub returns-in-Err-clause-serves : goal.returns-in-Err-clause-serves
returns-in-Err-clause-serves g c = λ words asked. unserved_so _ _ _ _

pub returns-in-Serve-clause-serve_complete : goal.returns-in-Serve-clause-serve_complete
returns-in-Serve-clause-serve_complete g c =
    of_words (asked_of (map string_bytes c.args.words.now.items)) c.in-Ok.asked c.in-Some.task c.in-Serve.words _ (search rules) c.in-Some.is c.in-Serve.is c.serve_words-status.ensures.complete

pub returns-in-Err-clause-serve_complete : goal.returns-in-Err-clause-serve_complete
returns-in-Err-clause-serve_complete g c = λ words asked quiet still. inr refl
