use Rattle.std.proofs.Common.{◌≡◌, ◌∙◌, map, rules, subst}
use Rattle.std.specs.Prelude.{string_bytes}
use Rattle.std.proofs.lemmas.Result.{IfOk-weaker}
use Rattle.cli_words.specs.Given.{HasRead, options_in}
use Rattle.cli_words.specs.Words.{replay_names, replay_of}
use Rattle.cli_words.proofs.Values.{by_values}
use Rattle.cli_words.proofs.asked.replay_words.Goals as goal

pub returns-in-Some : goal.returns-in-Some
returns-in-Some c =
    let words = map string_bytes c.args.args.now in
    let names_are : map (λ n. n.now) c.as_slice.result.now ≡ replay_names = search rules in
    let read = subst (λ names. HasRead (options_in names words) c.in_ok-matches.field-0) names_are c.in_ok-matches.ensures in
    let has = subst (λ r. HasRead (options_in replay_names words) r) c.in-Some.is read in
    IfOk-weaker c.replay.result _ _ (λ found h. h ∙ by_values replay_of (options_in replay_names words) c.in-Some.matches has) c.replay.ensures
