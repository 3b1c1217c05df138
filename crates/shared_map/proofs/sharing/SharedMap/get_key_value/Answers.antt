use Rattle.std.proofs.Common.{◌∙◌, rules}
use Rattle.std.specs.BTreeMap.{is_at}
use Rattle.std.specs.Map.{lookup_entry}
use Rattle.shared_map.proofs.Looking.{key_of_entry, value_of_entry, found_equal, seen_key, seen_value, seen_equal}
use Rattle.shared_map.proofs.sharing.SharedMap.get_key_value.Goals as goal

pub returns-clause-key : goal.returns-clause-key
returns-clause-key g c =
    let test = is_at (g.K.Ord.cmp c.args.key.now) in
    seen_key (λ e. e.0.now) (λ e. e.1.now) c.get_key_value.result (lookup_entry test c.args.self.now) (search rules) ∙ key_of_entry test c.args.self.now

pub returns-clause-same_key : goal.returns-clause-same_key
returns-clause-same_key g c =
    let test = is_at (g.K.Ord.cmp c.args.key.now) in
    seen_equal g.K.Ord.cmp c.args.key.now (λ e. e.0.now) (λ e. e.1.now) c.get_key_value.result (lookup_entry test c.args.self.now) (search rules) (found_equal g.K.Ord.cmp c.args.key.now c.args.self.now)

pub returns-clause-value : goal.returns-clause-value
returns-clause-value g c =
    let test = is_at (g.K.Ord.cmp c.args.key.now) in
    seen_value (λ e. e.0.now) (λ e. e.1.now) c.get_key_value.result (lookup_entry test c.args.self.now) (search rules) ∙ value_of_entry test c.args.self.now
