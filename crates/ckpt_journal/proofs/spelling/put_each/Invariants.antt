use Rattle.std.proofs.Common.{◌≡◌, ◌++◌, false, drop}
use Rattle.std.specs.List.{flat_map, list_all, list_any}
use Rattle.ckpt_journal.specs.Format.{is_long_text, text_bytes}
use Rattle.ckpt_journal.proofs.spelling.put_each.Given as goal

abbrev pub invariant-loop-name : goal.invariant-loop-name
invariant-loop-name g l = record {
  short : list_any (λ a. is_long_text (g.T.Named.text a)) (drop l.name-index l.names) ≡ false;
  put : l.into.items ++ flat_map (λ a. text_bytes (g.T.Named.text a)) (drop l.name-index l.names) ≡ l.fn.into.items ++ flat_map (λ a. text_bytes (g.T.Named.text a)) l.names;
  texts : list_all g.T.Named.is_text (drop l.name-index l.names) ≡ list_all g.T.Named.is_text l.names;
}
