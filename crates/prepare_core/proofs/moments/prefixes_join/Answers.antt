use Rattle.std.proofs.Common.{[], ◌∷◌}
use Rattle.ckpt_journal.specs.Table.{row_after}
use Rattle.prepare_core.proofs.Prefixes.{none_yet, none_or_one, one_or_two}
use Rattle.prepare_core.proofs.moments.prefixes_join.Goals as goal

pub returns-clause-none : goal.returns-clause-none
returns-clause-none c = λ rows own x keeps. c.moments_join.ensures.rest (rows, own) x (none_yet rows own x keeps)

pub returns-clause-one : goal.returns-clause-one
returns-clause-one c = λ rows a more x y all. c.moments_imply.ensures (rows, a) (rows, a ∷ more) x y (none_or_one rows a more) all

pub returns-clause-two : goal.returns-clause-two
returns-clause-two c = λ rows a b x y z first second.
    c.moments_join.ensures.joined (rows, a ∷ b ∷ []) x y z
    (c.moments_imply.ensures (rows, a) (rows, a ∷ b ∷ []) x y (none_or_one rows a (b ∷ [])) first)
    (c.moments_imply.ensures (row_after rows a, b) (rows, a ∷ b ∷ []) y z (one_or_two rows a b) second)
