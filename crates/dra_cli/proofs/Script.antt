-- The script that is generated is its commands, one by one.
use Rattle.std.proofs.Common.{ℕ, ◌≡◌, ◌<◌, ◌≤◌, ◌+◌, ◌^◌, List, [], ◌∷◌, map, length, refl, ap, arith}
use Rattle.commands.specs.Readings.{Reading, reading}
use Rattle.commands.specs.declared.command.Command.{Command}
use Rattle.commands.specs.declared.given.Given.TheVariants.{One}
use Rattle.doc_split.specs.Limits.{documents_at, the_limits}
use Rattle.script_gen.specs.Laid.{laid_from, laid_out}
use Rattle.script_gen.specs.Script.{documents_of, script_of as generated}
use Rattle.script_commands.specs.Commands.{asked_alone, commands_of as asked_of}
use Rattle.replay_core.specs.Script.{Clean, Ending, Script, add_commands, commands_in, commands_of, script_of}

-- the script has these commands, and ends so
pub record IsScript (script : Script) (cs : List Command) (ending : Ending) : Type 0 where
  pub commands : commands_of script.commands ≡ map One cs
  pub ends : script.ending ≡ ending

first_of : (x y : Reading) (xs ys : List Reading) → x ∷ xs ≡ y ∷ ys → x ≡ y
first_of x y xs ys h = cc

rest_of : (x y : Reading) (xs ys : List Reading) → x ∷ xs ≡ y ∷ ys → xs ≡ ys
rest_of x y xs ys h = cc

added : (at : ℕ) (r : Reading) (c : Command) (rest : Script) (cs : List Command) (ending : Ending) → r ≡ asked_alone c → IsScript rest cs ending → IsScript (add_commands at r rest) (c ∷ cs) ending
added at r c rest cs ending is h = rw is (record { commands = ap (λ gs. One c ∷ gs) h.commands; ends = h.ends })

in_order : (attempts at : ℕ) (texts : List (List ℕ)) (cs : List Command) (ending : Ending) → map (reading attempts) texts ≡ map asked_alone cs → IsScript (commands_in attempts (laid_from at texts) ending) cs ending
in_order attempts at [] [] ending h = record { commands = refl; ends = refl }
in_order attempts at [] (c ∷ cs) ending h = absurd (cc)
in_order attempts at (t ∷ ts) [] ending h = absurd (cc)
in_order attempts at (t ∷ ts) (c ∷ cs) ending h =
    added at (reading attempts t) c _ cs ending (first_of _ _ _ _ h) (in_order attempts (at + (length t + 1)) ts cs ending (rest_of _ _ _ _ h))

abbrev pub Reads : Type 0
Reads = (attempts from pods : ℕ) → pods < 2 ^ 64 → map (reading attempts) (documents_of from pods) ≡ map asked_alone (asked_of attempts from pods)

abbrev pub Splits : Type 0
Splits = (from pods : ℕ) → pods ≤ 100000 → documents_at the_limits 0 (generated from pods) ≡ laid_out 0 (documents_of from pods)

pub script_is : Reads → Splits → (attempts from pods : ℕ) → pods ≤ 100000 → IsScript (script_of attempts (generated from pods)) (asked_of attempts from pods) Clean
script_is reads splits attempts from pods few =
    rw (splits from pods few) (in_order attempts 0 (documents_of from pods) (asked_of attempts from pods) Clean (reads attempts from pods (omega (arith, few))))
