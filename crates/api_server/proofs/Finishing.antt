-- What was printed, of what the workers made.
use Rattle.std.proofs.Common.{ℕ, ◌≡◌, ◌∙◌, ◌⊎◌, inl, inr, ◌+◌, ◌-◌, ◌^◌, ◌≤◌, ◌++◌, List, [], ◌∷◌, Option, length, min, refl, sym, ap, subst, arith}
use Rattle.std.specs.Io.KnownBytes.{Appends}
use Rattle.dra_ports.specs.Causes.{Rose}
use Rattle.dra_ports.specs.Prefixes.{AppendsPrefix}
use Rattle.cluster.specs.declared.entry.Entry.{Entry}
use Rattle.histories.specs.Histories.{Each}
use Rattle.api_server.specs.Ledgers.{History}
use Rattle.journal_text.specs.Journal.{lines_from, text_of}
use Rattle.door_ports.specs.Visits.{Ended}
use Rattle.api_server.specs.Talks.{AllGoOn, Talk, Terms}
use Rattle.api_server.specs.Printing.{PrintsEnd, PrintsText}
use Rattle.api_server.specs.Serving.{IsFull, IsFullText, IsServed, IsText, Prints, PrintsPart, PrintsSo, jobs_ended, terms_of}
use Rattle.api_server.specs.Visits.{OfMet, OfSome, OfVisit, visited}
use Rattle.api_server.specs.Whole.{AreAll, EndsSo, IsOfTalk, Serves, Tells}
use Rattle.api_server.specs.declared.options.ServeOptions.{ServeOptions}
use Rattle.api_server.specs.declared.options.ServeStatus.{ServeStatus}
use Rattle.api_server.specs.declared.options.ServeStatus.TheVariants as status
use Rattle.api_server.specs.declared.serve_end.ServeEnd.{ServeEnd}
use Rattle.api_server.specs.declared.serve_end.ServeEnd.TheVariants as end
use Rattle.api_server.proofs.Owning.{from_places}
use Rattle.api_server.proofs.Shifts.{all_kept}
use Rattle.api_server.proofs.Visiting.{AllTold, Laws, all_told, at_place}

-- ---- the history

-- what is said of each entry, of each of them
each_of : (P Q : Entry → Type 0) (h : List Entry) → ((b : List Entry) (e : Entry) (rest : List Entry) → h ≡ b ++ e ∷ rest → P e → Q e) → Each (λ before e. P e) [] h → Each (λ before e. Q e) [] h
each_of P Q h f each = from_places (λ b e. Q e) [] h (λ b e rest is. f b e rest is (at_place (λ before x. P x) [] h b e rest each is))

served_text : Laws → (o : ServeOptions) (h : History) (served served' before after : ℕ) (old new : Option (List Ended)) → Serves (terms_of o) o.connections o.entries h served served' old new before after end.Served
    → IsText o old new (text_of h.entries (jobs_ended h.entries)) × (served' ≡ min (served + o.connections) (2 ^ 64 - 1))
served_text l o h served served' before after old new s =
    let on : AllGoOn s.ks = s.ends.0 in
    let all : AllTold (terms_of o) o.entries h.entries s.ks = all_told l (terms_of o) o.entries h.entries s.ks s.made.stand s.made.within (all_kept s.ks on) in
    let are : AreAll o.connections s.ks = s.ends.1 in (
      record {
        history = h.entries;
        visits = all.visits;
        served = record {
          legal = s.made.legal;
          within = s.made.within;
          are = all.are;
          go_on = subst AllGoOn (sym all.talks_are) on;
          all = subst (AreAll o.connections) (sym all.talks_are) are;
          jobs = each_of (IsOfTalk s.ks) (OfSome (OfVisit (terms_of o) h.entries) all.visits) h.entries (all.of_runs on) s.made.no_other;
        };
        tells = subst (Tells old new) (sym all.talks_are) s.tells;
        is = refl;
      },
      s.count refl ∙ ap (λ (m : ℕ). min (served + m) (2 ^ 64 - 1)) are.count,
    )

full_text : Laws → (o : ServeOptions) (h : History) (n served served' before after : ℕ) (old new : Option (List Ended)) → Serves (terms_of o) o.connections o.entries h served served' old new before after (end.Limit n)
    → IsFullText o old new (lines_from 0 h.entries) × (n ≡ o.entries)
full_text l o h n served served' before after old new s =
    let all : AllTold (terms_of o) o.entries h.entries s.ks = all_told l (terms_of o) o.entries h.entries s.ks s.made.stand s.made.within s.ends.1 in
    let met = all.met n s.ends.0 in (
      record {
        history = h.entries;
        visits = all.visits;
        full = record {
          legal = s.made.legal;
          count = met.1 ∙ met.2;
          are = all.are;
          met = met.0;
          jobs = each_of (IsOfTalk s.ks) (OfSome (OfMet (terms_of o) h.entries) all.visits) h.entries all.of s.made.no_other;
        };
        tells = subst (Tells old new) (sym all.talks_are) s.tells;
        is = refl;
      },
      met.2,
    )

-- ---- the text

-- what a call of `serve` owes of the counts of errors
pub record Causes (before after doors doors' : ℕ) (s : ServeStatus) : Type 0 where
  pub write : s ≡ status.Write → Rose before after
  pub faultless_output : (s ≡ status.Write → ⊥) → after ≡ before
  pub door : s ≡ status.Door → Rose doors doors'
  pub later_doors : doors ≤ doors'
  pub faultless_doors : (s ≡ status.Door → ⊥) → (s ≡ status.Memory → ⊥) → doors' ≡ doors

abbrev pub Both : ServeOptions → ℕ → ℕ → Option (List Ended) → Option (List Ended) → Option (List ℕ) → Option (List ℕ) → ℕ → ℕ → ℕ → ℕ → ServeStatus → Type 0
Both o served served' ended ended' old new before after doors doors' s = PrintsSo o served served' ended ended' old new s × Causes before after doors doors' s

module _ (o : ServeOptions) (served served' : ℕ) (ended ended' : Option (List Ended)) (old new : Option (List ℕ)) (before after doors doors' : ℕ) where
  -- the output failed in a text
  at_write : PrintsPart o ended ended' old new → Rose before after → doors' ≡ doors → (s : ServeStatus) → s ≡ status.Write → Both o served served' ended ended' old new before after doors doors' s
  at_write part rose same s is = subst (Both o served served' ended ended' old new before after doors doors') (sym is) (
    part,
    record { write = λ e. rose; faultless_output = λ not_. absurd (not_ refl); door = λ e. absurd (cc); later_doors = subst (λ (m : ℕ). doors ≤ m) (sym same) (omega arith); faultless_doors = λ a b. same },
  )

  -- memory ran out in a text
  at_memory : PrintsPart o ended ended' old new → after ≡ before → doors' ≡ doors → (s : ServeStatus) → s ≡ status.Memory → Both o served served' ended ended' old new before after doors doors' s
  at_memory part quiet same s is = subst (Both o served served' ended ended' old new before after doors doors') (sym is) (
    inl part,
    record { write = λ e. absurd (cc); faultless_output = λ not_. quiet; door = λ e. absurd (cc); later_doors = subst (λ (m : ℕ). doors ≤ m) (sym same) (omega arith); faultless_doors = λ a b. same },
  )

  at_done : (text : List ℕ) → IsText o ended ended' text × (served' ≡ min (served + o.connections) (2 ^ 64 - 1)) → doors' ≡ doors → (s : ServeStatus) → PrintsText text status.Done old new before after s → Both o served served' ended ended' old new before after doors doors' s
  at_done text is same s (inl (all, wrote, quiet)) = subst (Both o served served' ended ended' old new before after doors doors') (sym all) (
    (record { text = text; fact = is.0; printed = wrote }, is.1),
    record { write = λ e. absurd (cc); faultless_output = λ not_. quiet; door = λ e. absurd (cc); later_doors = subst (λ (m : ℕ). doors ≤ m) (sym same) (omega arith); faultless_doors = λ a b. same },
  )
  at_done text is same s (inr (inl (cut, wrote, rose))) = at_write (record { text = text; of_one = inl is.0; printed = wrote }) rose same s cut
  at_done text is same s (inr (inr (late, wrote, quiet))) = at_memory (record { text = text; of_one = inl is.0; printed = wrote }) quiet same s late

  at_limit : (n : ℕ) (text : List ℕ) → IsFullText o ended ended' text × (n ≡ o.entries) → doors' ≡ doors → (s : ServeStatus) → PrintsText text (status.Limit n) old new before after s → Both o served served' ended ended' old new before after doors doors' s
  at_limit n text is same s (inl (all, wrote, quiet)) = subst (Both o served served' ended ended' old new before after doors doors') (sym all) (
    (record { text = text; fact = is.0; printed = wrote }, is.1),
    record { write = λ e. absurd (cc); faultless_output = λ not_. quiet; door = λ e. absurd (cc); later_doors = subst (λ (m : ℕ). doors ≤ m) (sym same) (omega arith); faultless_doors = λ a b. same },
  )
  at_limit n text is same s (inr (inl (cut, wrote, rose))) = at_write (record { text = text; of_one = inr is.0; printed = wrote }) rose same s cut
  at_limit n text is same s (inr (inr (late, wrote, quiet))) = at_memory (record { text = text; of_one = inr is.0; printed = wrote }) quiet same s late

  -- what was printed, however the workers ended
  pub finish : Laws → (h : History) (e : ServeEnd) (s : ServeStatus) → Serves (terms_of o) o.connections o.entries h served served' ended ended' doors doors' e → PrintsEnd h.entries old new before after e s → Both o served served' ended ended' old new before after doors doors' s
  finish l h end.Served s did printed = at_done (text_of h.entries (jobs_ended h.entries)) (served_text l o h served served' doors doors' ended ended' did) did.ends.2 s printed
  finish l h end.Memory s did (is, same, quiet) = subst (Both o served served' ended ended' old new before after doors doors') (sym is) (
    inr same,
    record { write = λ e. absurd (cc); faultless_output = λ not_. quiet; door = λ e. absurd (cc); later_doors = did.ends; faultless_doors = λ a b. absurd (b refl) },
  )
  finish l h end.Door s did (is, same, quiet) = subst (Both o served served' ended ended' old new before after doors doors') (sym is) (
    same,
    record { write = λ e. absurd (cc); faultless_output = λ not_. quiet; door = λ e. did.ends.0; later_doors = did.ends.1; faultless_doors = λ a b. absurd (a refl) },
  )
  finish l h (end.Limit n) s did printed = at_limit n (lines_from 0 h.entries) (full_text l o h n served served' doors doors' ended ended' did) did.ends.2 s printed

  pub finish_at : Laws → (limit : ℕ) → limit ≡ o.entries → (h : History) (e : ServeEnd) (s : ServeStatus) → Serves (terms_of o) o.connections limit h served served' ended ended' doors doors' e → PrintsEnd h.entries old new before after e s → Both o served served' ended ended' old new before after doors doors' s
  finish_at l limit is h e s did printed = finish l h e s (subst (λ (m : ℕ). Serves (terms_of o) o.connections m h served served' ended ended' doors doors' e) is did) printed
