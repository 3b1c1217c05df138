use Rattle.std.proofs.Common.{◌≡◌, drop}
use Rattle.ready_objects.specs.Ready.{texts_at, texts_from}
use Rattle.ready_objects.proofs.compile.compile_each.Given as goal

-- the texts that are left, after those compiled, are all texts
abbrev pub invariant-loop-place : goal.invariant-loop-place
invariant-loop-place l = texts_from l.path l.place l.selectors (drop l.place l.texts) ≡ texts_at l.path l.texts
