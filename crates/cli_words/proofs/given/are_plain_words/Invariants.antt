use Rattle.std.proofs.Common.{◌≡◌, drop, map}
use Rattle.std.specs.Prelude.{string_bytes}
use Rattle.std.specs.List.{list_all}
use Rattle.cli_words.specs.Clap.{is_plain_word}
use Rattle.cli_words.proofs.given.are_plain_words.Given as goal

abbrev pub invariant-loop-word : goal.invariant-loop-word
invariant-loop-word l = list_all is_plain_word (map string_bytes (drop l.word-index l.words)) ≡ list_all is_plain_word (map string_bytes l.words)
