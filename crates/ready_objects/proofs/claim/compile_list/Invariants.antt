use Rattle.std.proofs.Common.{◌≡◌, [], drop}
use Rattle.ready_objects.specs.Ready.{requests_from}
use Rattle.ready_objects.proofs.claim.compile_list.Given as goal

-- the requests that are left, after those done, are all requests
abbrev pub invariant-loop-place : goal.invariant-loop-place
invariant-loop-place l = requests_from l.place l.selectors (drop l.place l.requests) ≡ requests_from 0 [] l.requests
