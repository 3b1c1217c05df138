use Rattle.std.proofs.Common.{◌∙◌, arith, refl}
use Rattle.std.proofs.lemmas.List.{length-set}
use Rattle.mem_disk.proofs.Pushed.{gapped_fewer, gapped_within}
use Rattle.mem_disk.proofs.image.choose.Goals as goal

pub loop-index-init : goal.loop-index-init
loop-index-init c = record { len = refl; agrees = λ places p. gapped_fewer c.args.at c.args.count places _ p }

pub loop-index-preserved : goal.loop-index-preserved
loop-index-preserved c = record {
  len = length-set c.loop-index.image _ _ ∙ c.loop-index.invariant.len;
  agrees = λ places p. gapped_within c.args.at c.args.count _ _ places _ (omega (arith, c.loop-index-test.true, c.min-start.ensures, c.min-reached.ensures)) (omega (arith, c.loop-index-test.true, c.min-start.ensures, c.min-reached.ensures)) (c.loop-index.invariant.agrees places p);
}
