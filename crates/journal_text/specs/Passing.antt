-- How nodes without an allocation print.
use Rattle.std.specs.Prelude.{ℕ, List, ◌++◌, codes}

-- a node behind another
abbrev pub unsat_next : List ℕ → List ℕ
unsat_next name = codes "," ++ name ++ codes ":unsat"
