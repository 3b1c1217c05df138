-- Parts joined by cuts, byte by byte: which byte may follow which.
use Rattle.std.specs.Prelude.{ℕ, ◌==◌, ◌&&◌, ◌||◌, Bool, false, List, [], ◌∷◌}
use Rattle.object_fields.specs.Names.{is_dns_byte, is_lower_or_digit}
use Rattle.object_fields.specs.declared.names.Cuts.{Cuts}
use Rattle.object_fields.specs.declared.names.Cuts.TheVariants.{Nowhere, Points, PointsAndSlashes}

-- the bytes at which a text is cut
abbrev pub is_cut : Cuts → ℕ → Bool
is_cut Nowhere = λ b. false
is_cut Points = λ b. b == 46
is_cut PointsAndSlashes = λ b. (b == 46) || (b == 47)

-- whether b may follow a byte
abbrev pub may_follow : (ℕ → Bool) → ℕ → ℕ → Bool
may_follow cuts before b =
    is_lower_or_digit b || ((b == 45) && is_dns_byte before) || (cuts b && is_lower_or_digit before)

-- each byte may follow, and the end too
abbrev pub goes_on : (ℕ → Bool) → ℕ → List ℕ → Bool
goes_on cuts before [] = is_lower_or_digit before
goes_on cuts before (b ∷ bs) = may_follow cuts before b && goes_on cuts b bs
