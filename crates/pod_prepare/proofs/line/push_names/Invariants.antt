use Rattle.std.proofs.Common.{◌≡◌, ◌++◌, drop}
use Rattle.std.specs.List.{flat_map}
use Rattle.std.specs.Prelude.{codes, string_bytes}
use Rattle.pod_prepare.specs.Texts.{name_text}
use Rattle.pod_prepare.proofs.line.push_names.Given as goal

-- what is written so far, and the names that are left
abbrev pub invariant-loop-name : goal.invariant-loop-name
invariant-loop-name l = string_bytes l.out ++ flat_map (λ x. codes "," ++ name_text x) (drop l.name-index l.names) ≡ string_bytes l.fn.out ++ flat_map (λ x. codes "," ++ name_text x) l.names
