use Rattle.std.proofs.Common.{◌≡◌, drop, map}
use Rattle.api_server.specs.Together.{worst}
use Rattle.api_server.specs.declared.serve_end.ServeEnd.TheVariants.{Served}
use Rattle.api_server.proofs.serve_end.worst.Given as goal

abbrev pub invariant-loop-visited : goal.invariant-loop-visited
invariant-loop-visited g l = worst l.worst (map (λ v. v.end) (drop l.visited-index l.ends)) ≡ worst Served (map (λ v. v.end) l.ends)
