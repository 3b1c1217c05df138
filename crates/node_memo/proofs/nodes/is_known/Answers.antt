use Rattle.std.proofs.Common.{ap, length, refl, sym, Some, ◌∙◌}
use Rattle.std.specs.Cmp.Lexicographic.{same_text}
use Rattle.std.proofs.lemmas.Option.{slice_get_read}
use Rattle.node_memo.proofs.nodes.is_known.Goals as goal

pub returns-then-eq : goal.returns-then-eq
returns-then-eq c = λ e. record {
  row = c.in-Some-Some.row;
  there = slice_get_read c.args.rows.now (length c.args.rows.now) c.args.position c.in-Some-Some.field-0.now refl c.in-Some-Some.ensures.lookup.3.0 c.in-Some-Some.ensures.lookup.1 ∙ ap Some c.in-Some-Some.field-0-is;
  names = same_text c.in-Some-Some.row.node c.args.node.now (sym c.if-eq.true ∙ c.eq.ensures);
  since = c.is_row_since.ensures e;
}
