-- Commands whose options have the same values.
use Rattle.std.proofs.Common.{◌≡◌, None, Option, Some, ap}
use Rattle.std.specs.Option.{option_and_then}
use Rattle.clap.specs.Matches.{first_value, found_of}
use Rattle.clap.specs.declared.parser.matches.ArgMatches.{ArgMatches}
use Rattle.cli_words.specs.Given.{Given, HasRead, value_of}
use Rattle.cli_words.specs.Words.{Values}

pub by_values : {X : Type 0} (command : Values → Option X) (read : Option Given) (m : ArgMatches) → HasRead read (Some m)
    → command (first_value (found_of m)) ≡ option_and_then (λ (given : Given). command (λ name. value_of name given)) read
by_values command None m has = absurd (cc)
by_values command (Some given) m has = ap command (λ i name. has name i)
