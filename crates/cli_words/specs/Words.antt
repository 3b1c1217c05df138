-- What the arguments of a call ask for.
use Rattle.std.specs.Prelude.{ℕ, ◌-◌, ◌^◌, ◌&&◌, Bool, List, [], ◌∷◌, Option, None, Some, bytes_eq, codes, if◌then◌else◌, length, nat_le, option_map}
use Rattle.std.specs.List.{list_all}
use Rattle.std.specs.Option.{option_and_then}
use Rattle.std.specs.Char.{is_ascii_digit}
use Rattle.std.specs.Str.Parse.{digits_value}
use Rattle.object_fields.specs.Names.{is_dns_subdomain}
use Rattle.cli_words.specs.Given.{Bytes, options_in, value_of}
use Rattle.cli_words.specs.declared.command.RunOptions.{RunOptions}
use Rattle.cli_words.specs.declared.command.ReplayWords.{ReplayWords}
use Rattle.cli_words.specs.declared.command.ServeWords.{ServeWords}
use Rattle.cli_words.specs.declared.command.ExerciseWords.{ExerciseWords}
use Rattle.cli_words.specs.declared.command.Command.{Command}
use Rattle.cli_words.specs.declared.command.Command.TheVariants.{Replay, Serve, Exercise}

-- ---- values

-- one decimal digit or more, and at most so many
abbrev pub is_number : ℕ → Bytes → Bool
is_number digits word = nat_le 1 (length word) && (nat_le (length word) digits && list_all is_ascii_digit word)

abbrev pub in_range : ℕ → ℕ → ℕ → Option ℕ
in_range least most n = if nat_le least n && nat_le n most then Some n else None

-- the number from least to most that at most so many decimal digits write
abbrev pub number_in : ℕ → ℕ → ℕ → Bytes → Option ℕ
number_in digits least most word = if is_number digits word then in_range least most (digits_value 10 word) else None

-- that of an option, or the default of one that isn't given
abbrev pub number_or : ℕ → ℕ → ℕ → Option Bytes → Option ℕ
number_or default least most None = Some default
number_or default least most (Some word) = number_in 8 least most word

abbrev pub node_of : Option Bytes → Option Bytes
node_of None = Some []
node_of (Some word) = if is_dns_subdomain 253 word then Some word else None

abbrev pub address_of : Bytes → Option Bytes
address_of word = if nat_le 1 (length word) && nat_le (length word) 255 then Some word else None

-- ---- commands, from the values of options by their names

abbrev pub Values : Type 0
Values = Bytes → Option Bytes

abbrev pub run_options_of : Values → Option RunOptions
run_options_of values =
    option_and_then (λ workers. option_and_then (λ budget. option_and_then (λ attempts. option_map (λ entries.
    record { workers = workers; budget = budget; attempts = attempts; entries = entries })
    (number_or 1000000 1 1000000 (values (codes "entries"))))
    (number_or 32 1 64 (values (codes "attempts"))))
    (number_or 100000 1 10000000 (values (codes "budget"))))
    (number_or 1 1 64 (values (codes "workers")))

abbrev pub replay_of : Values → Option ReplayWords
replay_of values =
    option_and_then (λ options. option_map (λ node. record { options = options; node = node })
    (node_of (values (codes "node"))))
    (run_options_of values)

abbrev pub serve_of : Values → Option ServeWords
serve_of values =
    option_and_then (λ options. option_and_then (λ address. option_map (λ connections.
    record { options = options; address = address; connections = connections })
    (option_and_then (number_in 8 1 65535) (values (codes "connections"))))
    (option_and_then address_of (values (codes "address"))))
    (run_options_of values)

abbrev pub exercise_of : Values → Option ExerciseWords
exercise_of values =
    option_and_then (λ from. option_map (λ pods. record { from = from; pods = pods })
    (option_and_then (number_in 8 0 100000) (values (codes "pods"))))
    (option_and_then (number_in 19 0 (2 ^ 63 - 1)) (values (codes "from")))

-- ---- commands, from the arguments after their names

abbrev pub replay_names : List Bytes
replay_names = codes "workers" ∷ codes "budget" ∷ codes "attempts" ∷ codes "entries" ∷ codes "node" ∷ []

abbrev pub replay_words : List Bytes → Option ReplayWords
replay_words words = option_and_then (λ given. replay_of (λ name. value_of name given))
    (options_in replay_names words)

abbrev pub serve_names : List Bytes
serve_names = codes "workers" ∷ codes "budget" ∷ codes "attempts" ∷ codes "entries" ∷ codes "address" ∷ codes "connections" ∷ []

abbrev pub serve_words : List Bytes → Option ServeWords
serve_words words = option_and_then (λ given. serve_of (λ name. value_of name given))
    (options_in serve_names words)

abbrev pub exercise_names : List Bytes
exercise_names = codes "from" ∷ codes "pods" ∷ []

abbrev pub exercise_words : List Bytes → Option ExerciseWords
exercise_words words = option_and_then (λ given. exercise_of (λ name. value_of name given))
    (options_in exercise_names words)

-- the command that arguments are
abbrev pub command_of : List Bytes → Option Command
command_of [] = None
command_of (word ∷ words) =
    if bytes_eq word (codes "replay") then option_map Replay (replay_words words)
    else if bytes_eq word (codes "serve") then option_map Serve (serve_words words)
    else if bytes_eq word (codes "exercise") then option_map Exercise (exercise_words words)
    else None
