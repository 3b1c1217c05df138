-- Memory ran out before anything was done.
use Rattle.std.proofs.Common.{ℕ, ◌≡◌, inl, List, [], ◌++◌, Option, None, Some, append-nil, ap, refl, sym, arith}
use Rattle.std.specs.Option.{option_map}
use Rattle.std.specs.Io.KnownBytes.{Appends}
use Rattle.dra_ports.specs.DiskContent.{Content}
use Rattle.histories.specs.Legal.{Legal, LegalAfter}
use Rattle.prepare_core.specs.declared.driver.DriverCall.{DriverCall}
use Rattle.replay_core.specs.Jobs.{RunFrom, RunOf}
use Rattle.replay_core.specs.Kubelet.{IsShown, ShowFrom, node_with}
use Rattle.replay_core.specs.Replay.{EndsShort, IsRun}
use Rattle.replay_core.specs.Script.{script_of}
use Rattle.replay_core.specs.declared.options.ReplayOptions.{ReplayOptions}
use Rattle.replay_core.specs.declared.status.Status.TheVariants as status
use Rattle.dra_cli.specs.Headline.{ReplaysSo}
use Rattle.dra_cli.proofs.Truths.{RunTruth}

empty_run : (options : ReplayOptions) → IsRun options [] []
unfolding Legal LegalAfter RunOf RunFrom
empty_run options = record { within = omega arith; legal = tt; run = refl }

appends_none : (a : Option (List ℕ)) → Appends a a []
appends_none None = tt
appends_none (Some xs) = sym (append-nil xs)

unasked : (calls : Option (List DriverCall)) → calls ≡ option_map (λ before. before ++ []) calls
unasked None = refl
unasked (Some calls) = ap Some (sym (append-nil calls))

none_shown : (name : List ℕ) (disk : Option Content) (calls : Option (List DriverCall)) (faults : ℕ) → IsShown name (node_with None disk calls faults) (node_with None disk calls faults) [] [] []
unfolding ShowFrom
none_shown name disk calls faults = record {
  start = record { half = 0; rows = [] };
  calls = [];
  shows = (refl, refl);
  opened = tt;
  asked = unasked calls;
  counted = omega arith;
  kept = tt;
}

-- nothing was done, and nothing written
none_done : (options : ReplayOptions) (left before : Option (List ℕ)) (disk : Option Content) (calls : Option (List DriverCall)) (faults : ℕ)
    → EndsShort options left before before (node_with None disk calls faults) (node_with None disk calls faults)
none_done options left before disk calls faults =
    let shown = none_shown options.node disk calls faults in
    record {
      text = [];
      between = node_with None disk calls faults;
      due = inl (record {
        done = [];
        script = λ bytes e. (script_of options.attempts bytes, refl);
        history = [];
        so = record { run = empty_run options; shown = shown };
      });
      asked = record { more = []; are = unasked calls; counted = omega arith };
      counted = shown.counted;
      written = (0, appends_none before);
    }

pub nothing_done : RunTruth → (options : ReplayOptions) (left left_now before : Option (List ℕ)) (disk : Option Content) (calls : Option (List DriverCall)) (faults : ℕ)
    → ReplaysSo options left left_now before before disk disk calls calls faults faults status.Memory
unfolding none_done
nothing_done truth options left left_now before disk calls faults = record {
  table = None;
  so = record { ends = none_done options left before disk calls faults; due = truth options [] [] (empty_run options) };
}
