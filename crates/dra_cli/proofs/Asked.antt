-- What is known of the options of a command.
use Rattle.std.proofs.Common.{ℕ, ◌≡◌, ◌≤◌, ◌-◌, ◌^◌, List, [], ◌∷◌, Bool, true, false, Option, None, Some, cond, refl, sym, subst, ◌∙◌, arith}
use Rattle.std.specs.Prelude.{◌&&◌, IfSome, bytes_eq, codes, nat_le, option_map}
use Rattle.std.specs.Option.{option_and_then}
use Rattle.std.specs.Str.Parse.{digits_value}
use Rattle.cli_words.specs.Given.{Bytes, options_in, value_of}
use Rattle.cli_words.specs.Words.{Values, address_of, command_of, exercise_names, exercise_of, exercise_words, in_range, is_number, node_of, number_in, number_or, replay_names, replay_of, replay_words, run_options_of, serve_names, serve_of, serve_words}
use Rattle.cli_words.specs.declared.command.Command.{Command}
use Rattle.cli_words.specs.declared.command.Command.TheVariants.{Replay, Serve, Exercise}
use Rattle.cli_words.specs.declared.command.ExerciseWords.{ExerciseWords}
use Rattle.cli_words.specs.declared.command.ReplayWords.{ReplayWords}
use Rattle.cli_words.specs.declared.command.RunOptions.{RunOptions}
use Rattle.cli_words.specs.declared.command.ServeWords.{ServeWords}
use Rattle.dra_cli.specs.Task.{Fits, task_of}
use Rattle.dra_cli.specs.declared.task.Task.{Task}

-- ---- what holds of a value, if there is one

and_then_each : {X Y : Type 0} (f : X → Option Y) (r : Option X) (P : X → Type 0) (Q : Y → Type 0) → IfSome r P → ((x : X) → P x → IfSome (f x) Q) → IfSome (option_and_then f r) Q
and_then_each f None P Q h each = tt
and_then_each f (Some x) P Q h each = each x h

map_each : {X Y : Type 0} (f : X → Y) (r : Option X) (P : X → Type 0) (Q : Y → Type 0) → IfSome r P → ((x : X) → P x → Q (f x)) → IfSome (option_map f r) Q
map_each f None P Q h each = tt
map_each f (Some x) P Q h each = each x h

trivially : {X : Type 0} (r : Option X) → IfSome r (λ x. Unit {0})
trivially None = tt
trivially (Some x) = tt

if_each : {X : Type 0} (b : Bool) (x y : Option X) (P : X → Type 0) → (b ≡ true → IfSome x P) → IfSome y P → IfSome (cond b x y) P
if_each true x y P first second = first refl
if_each false x y P first second = second

-- ---- numbers

abbrev pub Within : ℕ → ℕ → ℕ → Type 0
Within least most n = (least ≤ n) × (n ≤ most)

in_within : (least most n : ℕ) → IfSome (in_range least most n) (Within least most)
in_within least most n = if_each (nat_le least n && nat_le n most) (Some n) None (Within least most) (λ test. (grind (arith, test), grind (arith, test))) tt

number_within : (digits least most : ℕ) (word : Bytes) → IfSome (number_in digits least most word) (Within least most)
number_within digits least most word = if_each (is_number digits word) (in_range least most (digits_value 10 word)) None (Within least most) (λ test. in_within least most (digits_value 10 word)) tt

or_within : (default least most : ℕ) (value : Option Bytes) → Within least most default → IfSome (number_or default least most value) (Within least most)
or_within default least most None h = h
or_within default least most (Some word) h = number_within 8 least most word

-- ---- the options of each command

pub record AreWithin (o : RunOptions) : Type 0 where
  pub workers : Within 1 64 o.workers
  pub budget : Within 1 10000000 o.budget
  pub attempts : Within 1 64 o.attempts
  pub entries : Within 1 1000000 o.entries

run_fits : (values : Values) → IfSome (run_options_of values) AreWithin
run_fits values =
    and_then_each _ (number_or 1 1 64 (values (codes "workers"))) (Within 1 64) AreWithin (or_within 1 1 64 (values (codes "workers")) (omega arith, omega arith)) (λ workers w.
    and_then_each _ (number_or 100000 1 10000000 (values (codes "budget"))) (Within 1 10000000) AreWithin (or_within 100000 1 10000000 (values (codes "budget")) (omega arith, omega arith)) (λ budget b.
    and_then_each _ (number_or 32 1 64 (values (codes "attempts"))) (Within 1 64) AreWithin (or_within 32 1 64 (values (codes "attempts")) (omega arith, omega arith)) (λ attempts a.
    map_each _ (number_or 1000000 1 1000000 (values (codes "entries"))) (Within 1 1000000) AreWithin (or_within 1000000 1 1000000 (values (codes "entries")) (omega arith, omega arith)) (λ entries e.
    record { workers = w; budget = b; attempts = a; entries = e }))))

abbrev FitsSo : Command → Type 0
FitsSo (Replay words) = AreWithin words.options
FitsSo (Serve words) = AreWithin words.options × Within 1 65535 words.connections
FitsSo (Exercise words) = words.pods ≤ 100000

replay_fits : (values : Values) → IfSome (replay_of values) (λ (w : ReplayWords). AreWithin w.options)
replay_fits values =
    and_then_each _ (run_options_of values) AreWithin (λ (w : ReplayWords). AreWithin w.options) (run_fits values) (λ options o.
    map_each _ (node_of (values (codes "node"))) (λ node. Unit {0}) (λ (w : ReplayWords). AreWithin w.options) (trivially _) (λ node t. o))

serve_fits : (values : Values) → IfSome (serve_of values) (λ (w : ServeWords). AreWithin w.options × Within 1 65535 w.connections)
serve_fits values =
    and_then_each _ (run_options_of values) AreWithin (λ (w : ServeWords). AreWithin w.options × Within 1 65535 w.connections) (run_fits values) (λ options o.
    and_then_each _ (option_and_then address_of (values (codes "address"))) (λ address. Unit {0}) (λ (w : ServeWords). AreWithin w.options × Within 1 65535 w.connections) (trivially _) (λ address t.
    map_each _ (option_and_then (number_in 8 1 65535) (values (codes "connections"))) (Within 1 65535) (λ (w : ServeWords). AreWithin w.options × Within 1 65535 w.connections)
    (and_then_each (number_in 8 1 65535) (values (codes "connections")) (λ word. Unit {0}) (Within 1 65535) (trivially _) (λ word u. number_within 8 1 65535 word))
    (λ connections c. (o, c))))

exercise_fits : (values : Values) → IfSome (exercise_of values) (λ (w : ExerciseWords). w.pods ≤ 100000)
exercise_fits values =
    and_then_each _ (option_and_then (number_in 19 0 (2 ^ 63 - 1)) (values (codes "from"))) (λ from. Unit {0}) (λ (w : ExerciseWords). w.pods ≤ 100000) (trivially _) (λ from t.
    map_each _ (option_and_then (number_in 8 0 100000) (values (codes "pods"))) (Within 0 100000) (λ (w : ExerciseWords). w.pods ≤ 100000)
    (and_then_each (number_in 8 0 100000) (values (codes "pods")) (λ word. Unit {0}) (Within 0 100000) (trivially _) (λ word u. number_within 8 0 100000 word))
    (λ pods p. p.1))

commands_fit : (words : List Bytes) → IfSome (command_of words) FitsSo
commands_fit [] = tt
commands_fit (word ∷ words) =
    if_each (bytes_eq word (codes "replay")) _ _ FitsSo
    (λ test. map_each Replay (replay_words words) (λ (w : ReplayWords). AreWithin w.options) FitsSo
    (and_then_each _ (options_in replay_names words) (λ given. Unit {0}) (λ (w : ReplayWords). AreWithin w.options) (trivially _) (λ given t. replay_fits (λ name. value_of name given)))
    (λ w h. h))
    (if_each (bytes_eq word (codes "serve")) _ _ FitsSo
    (λ test. map_each Serve (serve_words words) (λ (w : ServeWords). AreWithin w.options × Within 1 65535 w.connections) FitsSo
    (and_then_each _ (options_in serve_names words) (λ given. Unit {0}) (λ (w : ServeWords). AreWithin w.options × Within 1 65535 w.connections) (trivially _) (λ given t. serve_fits (λ name. value_of name given)))
    (λ w h. h))
    (if_each (bytes_eq word (codes "exercise")) _ _ FitsSo
    (λ test. map_each Exercise (exercise_words words) (λ (w : ExerciseWords). w.pods ≤ 100000) FitsSo
    (and_then_each _ (options_in exercise_names words) (λ given. Unit {0}) (λ (w : ExerciseWords). w.pods ≤ 100000) (trivially _) (λ given t. exercise_fits (λ name. value_of name given)))
    (λ w h. h))
    tt))

task_fits : (c : Command) → FitsSo c → Fits (task_of c)
task_fits (Replay words) fit = record {
  least_workers = fit.workers.0;
  most_workers = fit.workers.1;
  least_budget = fit.budget.0;
  most_budget = fit.budget.1;
  least_attempts = fit.attempts.0;
  most_attempts = fit.attempts.1;
  least_entries = fit.entries.0;
  most_entries = fit.entries.1;
}
task_fits (Serve words) fit = record {
  least_workers = fit.0.workers.0;
  most_workers = fit.0.workers.1;
  least_budget = fit.0.budget.0;
  most_budget = fit.0.budget.1;
  least_attempts = fit.0.attempts.0;
  most_attempts = fit.0.attempts.1;
  least_entries = fit.0.entries.0;
  most_entries = fit.0.entries.1;
  least_connections = fit.1.0;
  most_connections = fit.1.1;
}
task_fits (Exercise words) fit = fit

some_of : {X : Type 0} (r : Option X) (P : X → Type 0) (x : X) → IfSome r P → r ≡ Some x → P x
some_of {X} r P x h is = subst (λ (o : Option X). IfSome o P) is h

-- the options of the task that arguments ask for are in their ranges
pub fits_by : (words : List Bytes) (r : Option Command) (c : Command) (t : Task) → r ≡ command_of words → r ≡ Some c → t ≡ task_of c → Fits t
fits_by words r c t is some task = subst Fits (sym task) (task_fits c (some_of (command_of words) FitsSo c (commands_fit words) (sym is ∙ some)))
