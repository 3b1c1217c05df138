-- Numbers with leading zeros.
use Rattle.std.proofs.Common.{◌≡◌, ℕ, ◌-◌, List, [], ◌++◌, false, length, replicate, ap, arith}
use Rattle.std.proofs.lemmas.List.{append-nil}
use Rattle.std.specs.Fmt.{format_spec, padded_integral, char_count}
use Rattle.api_print.specs.Metadata.{twelve}

-- what a placeholder with a width of twelve and leading zeros writes
pub padded_twelve : (numeral : List ℕ) → padded_integral (format_spec 32 0 4 12 18446744073709551615) false [] numeral ≡ twelve numeral
unfolding padded_integral char_count
padded_twelve numeral =
    let same : 12 - length numeral - 0 - 0 ≡ 12 - length numeral = omega arith in
    rw (append-nil numeral) (ap (λ n. replicate n 48 ++ numeral) same)
