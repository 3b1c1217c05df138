-- The command of the options of a list, with one more.
use Rattle.std.proofs.Common.{◌≡◌, ◌∙◌, ◌+◌, ◌<◌, [], ℕ, Bor, List, ap, get_or, length, map, sym, take, true}
use Rattle.std.specs.Prelude.{codes}
use Rattle.std.proofs.lemmas.List.{map_push, take_more}
use Rattle.clap.specs.Simple.{App, new_shape, with_rule}
use Rattle.clap.specs.Walk.{Rule}
use Rattle.cli_words.specs.Clap.{option_app, option_rule}
use Rattle.cli_words.specs.Given.{Bytes}

abbrev with_rules : List Rule → App
with_rules rules = record {
  top = record (new_shape (codes "dra")) { rules = rules; no_binary_name = true; disable_help_flag = true };
  subs = [];
}

pub one_more : (names : List (Bor Bytes)) (i : ℕ) (d : Bor Bytes) → i < length names
    → with_rule (option_app (map (λ (n : Bor Bytes). n.now) (take i names))) (option_rule (get_or names i d).now) ≡ option_app (map (λ (n : Bor Bytes). n.now) (take (i + 1) names))
one_more names i d lt =
    let front = map (λ (n : Bor Bytes). n.now) (take i names) in
    ap with_rules (sym (map_push option_rule front (get_or names i d).now)
    ∙ ap (map option_rule) (sym (ap (map (λ (n : Bor Bytes). n.now)) (take_more names i d lt) ∙ map_push (λ (n : Bor Bytes). n.now) (take i names) (get_or names i d))))
