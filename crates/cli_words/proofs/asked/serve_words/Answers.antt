use Rattle.std.proofs.Common.{◌≡◌, ◌∙◌, map, rules, subst}
use Rattle.std.specs.Prelude.{string_bytes}
use Rattle.std.proofs.lemmas.Result.{IfOk-weaker}
use Rattle.cli_words.specs.Given.{HasRead, options_in}
use Rattle.cli_words.specs.Words.{serve_names, serve_of}
use Rattle.cli_words.proofs.Values.{by_values}
use Rattle.cli_words.proofs.asked.serve_words.Goals as goal

pub returns-in-Some : goal.returns-in-Some
returns-in-Some c =
    let words = map string_bytes c.args.args.now in
    let names_are : map (λ n. n.now) c.as_slice.result.now ≡ serve_names = search rules in
    let read = subst (λ names. HasRead (options_in names words) c.in_ok-matches.field-0) names_are c.in_ok-matches.ensures in
    let has = subst (λ r. HasRead (options_in serve_names words) r) c.in-Some.is read in
    IfOk-weaker c.serve.result _ _ (λ found h. h ∙ by_values serve_of (options_in serve_names words) c.in-Some.matches has) c.serve.ensures
