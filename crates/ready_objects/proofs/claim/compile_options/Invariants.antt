use Rattle.std.proofs.Common.{◌≡◌, [], drop}
use Rattle.ready_objects.specs.Ready.{options_from}
use Rattle.ready_objects.proofs.claim.compile_options.Given as goal

-- the subrequests that are left, after those done, are all subrequests
abbrev pub invariant-loop-place : goal.invariant-loop-place
invariant-loop-place l = options_from l.path l.place l.options (drop l.place l.requests) ≡ options_from l.path 0 [] l.requests
