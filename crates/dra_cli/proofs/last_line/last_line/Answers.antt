use Rattle.std.proofs.Common.{arith}
use Rattle.dra_cli.proofs.Lines.{behind_none, last_cut, one_less}
use Rattle.dra_cli.proofs.last_line.last_line.Goals as goal
use Rattle.dra_cli.proofs.last_line.last_line.Goals.{then-bytes-test+else-text-start-ne10, else-bytes-test}

pub bytes-init : goal.bytes-init
bytes-init c = (omega (arith, c.saturating_sub-start.ensures), λ i low high is. absurd (omega (arith, c.saturating_sub-start.ensures, low, high)))

pub bytes-preserved : goal.bytes-preserved
bytes-preserved c = (
  omega (arith, c.bytes.invariant.0),
  one_less c.args.text.now c.bytes.start c.bytes-test.true c.if-text-start-ne10.true c.bytes.invariant.1,
)

pub returns : goal.returns
returns c = λ front line is ended l.
    last_cut c.args.text.now front line c.bytes.start is ended l c.bytes.invariant.0 c.bytes.invariant.1
    (elim c.bytes-test.branch [
      | then-bytes-test+else-text-start-ne10 w ↦ λ some. w.if-text-start-ne10.false
      | else-bytes-test w ↦ behind_none c.args.text.now c.bytes.start w.bytes-test.false
    ])
