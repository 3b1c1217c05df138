-- One turn under the lock that appends at most one entry.
use Rattle.std.proofs.Common.{ℕ, ◌≡◌, ◌∙◌, ◌≤◌, ◌++◌, ◌⊎◌, inl, inr, List, [], ◌∷◌, Option, None, Some, length, refl, sym, ap, subst}
use mathlib.Core.List.{IsPrefix}
use Rattle.cluster.specs.declared.entry.Entry.{Entry}
use Rattle.sched_job.specs.Ledgers.{History}
use Rattle.commands.specs.declared.command.Command.{Command}
use Rattle.turn_lock.specs.Known.{Known, entered, left}
use Rattle.turn_lock.specs.Places.{Grown}
use Rattle.api_server.specs.declared.once.Acted.{Acted}
use Rattle.api_server.specs.declared.once.Acted.TheVariants as acted
use Rattle.api_server.specs.Once.{Acts, Did, TookOnce, entry_of}

grown_by : (limit : ℕ) (old new : List Entry) (job : ℕ) (command : Command) (a : Acted) → Did limit old new job command a → Grown old new
grown_by limit old new job command (acted.Ended x) did = inr (entry_of old job command, did.0.is)
grown_by limit old new job command acted.Made did = inr (entry_of old job command, did.is)
grown_by limit old new job command (acted.Failed error) did = inl did.same

pub turn_grows : (H0 H H' : History) (job : ℕ) (command : Command) (a : Acted) → H ≡ H0 → Acts H H' job command a → Grown H0.entries H'.entries
turn_grows H0 H H' job command a is did = subst (λ (x : History). Grown x.entries H'.entries) is (grown_by H.limit H.entries H'.entries job command a did.0)

took_at : (number : ℕ) (old new : Known Entry) (H H' : History) (job : ℕ) (command : Command) (a : Acted) → IsPrefix old.front H.entries → H.limit ≡ number
    → new ≡ left (entered old H.entries) H'.entries → Acts H H' job command a → TookOnce number old new job command a
took_at number old new H H' job command a begins limit pass did =
    let front : new.front ≡ H'.entries = ap (λ (k : Known Entry). k.front) pass in
    record {
      found = H.entries;
      begins = begins;
      pass = pass ∙ ap (λ (xs : List Entry). left (entered old H.entries) xs) (sym front);
      did = subst (λ (n : ℕ). Did n H.entries new.front job command a) limit (subst (λ (xs : List Entry). Did H.limit H.entries xs job command a) (sym front) did.0);
    }

pub took : (number : ℕ) (old mid new : Known Entry) (H0 H H' : History) (job : ℕ) (command : Command) (a : Acted) → H ≡ H0 → mid ≡ entered old H0.entries → IsPrefix old.front H0.entries → H0.limit ≡ number
    → new ≡ left mid H'.entries → Acts H H' job command a → TookOnce number old new job command a
took number old mid new H0 H H' job command a is entered_is begins limit pass did =
    took_at number old new H H' job command a (subst (λ (x : History). IsPrefix old.front x.entries) (sym is) begins) (ap (λ (x : History). x.limit) is ∙ limit)
    (pass ∙ ap (λ (k : Known Entry). left k H'.entries) (entered_is ∙ ap (λ (x : History). entered old x.entries) (sym is))) did
