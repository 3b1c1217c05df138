-- How a string begins and where it ends.
use Rattle.std.proofs.Common.{◌≡◌, ℕ, ◌<◌, true, arith}
use Rattle.std.proofs.lemmas.Bool.Decides.{nat_tests}
use Rattle.cel_lex.specs.Bytes.{is_quote}

pub quote_ascii : (c : ℕ) → is_quote c ≡ true → c < 128
unfolding is_quote
quote_ascii c e = grind (arith, nat_tests)
