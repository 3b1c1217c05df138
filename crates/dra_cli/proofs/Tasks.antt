-- Which task the arguments ask for.
use Rattle.std.proofs.Common.{◌≡◌, ◌∙◌, Option, None, Some, ap, sym, subst}
use Rattle.cli_words.specs.declared.command.ServeWords.{ServeWords}
use Rattle.replay_core.specs.declared.options.ReplayOptions.{ReplayOptions}
use Rattle.dra_cli.specs.declared.task.Task.{Task}
use Rattle.dra_cli.specs.declared.task.Task.TheVariants.{Replay, Serve, Exercise}

options_or : ReplayOptions → Option Task → ReplayOptions
options_or other None = other
options_or other (Some (Replay options)) = options
options_or other (Some (Serve words)) = other
options_or other (Some (Exercise words)) = other

words_or : ServeWords → Option Task → ServeWords
words_or other None = other
words_or other (Some (Replay options)) = other
words_or other (Some (Serve words)) = words
words_or other (Some (Exercise words)) = other

-- the options of a replay that was read are those that are asked for
pub same_options : (asked read : Option Task) (task : Task) (options : ReplayOptions) → read ≡ asked → read ≡ Some task → task ≡ Replay options → (o : ReplayOptions) → asked ≡ Some (Replay o) → options ≡ o
unfolding options_or
same_options asked read task options is some replay o other = ap (options_or options) (sym (ap (λ t. Some t) replay) ∙ sym some ∙ is ∙ other)

-- so what holds of them holds of all options that are asked for
pub of_options : (asked read : Option Task) (task : Task) (options : ReplayOptions) (P : ReplayOptions → Type 0) → read ≡ asked → read ≡ Some task → task ≡ Replay options → P options
    → (o : ReplayOptions) → asked ≡ Some (Replay o) → P o
of_options asked read task options P is some replay so o other = subst P (same_options asked read task options is some replay o other) so

-- the same of the words of a server
pub of_words : (asked read : Option Task) (task : Task) (words : ServeWords) (P : ServeWords → Type 0) → read ≡ asked → read ≡ Some task → task ≡ Serve words → P words
    → (w : ServeWords) → asked ≡ Some (Serve w) → P w
unfolding words_or
of_words asked read task words P is some serve so w other = subst P (ap (words_or words) (sym (ap (λ t. Some t) serve) ∙ sym some ∙ is ∙ other)) so
