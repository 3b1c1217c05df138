-- What a server serves and prints, by status.
use Rattle.std.proofs.Common.{ℕ, ◌≡◌, ◌∙◌, ◌⊎◌, inl, inr, List, ap, refl, sym, subst}
use Rattle.std.specs.Prelude.{Option}
use Rattle.cluster.specs.declared.entry.Entry.{Entry}
use Rattle.dra_ports.specs.Causes.{Rose}
use Rattle.api_server.specs.Serving.{IsFull, IsFullText, IsServed, IsText, Prints, PrintsPart, PrintsSo}
use Rattle.api_server.specs.Visits.{Visit}
use Rattle.api_server.specs.declared.options.ServeOptions.{ServeOptions}
use Rattle.api_server.specs.declared.options.ServeStatus.{ServeStatus}
use Rattle.api_server.specs.declared.options.ServeStatus.TheVariants as serve
use Rattle.replay_core.specs.declared.status.Status.{Status}
use Rattle.replay_core.specs.declared.status.Status.TheVariants as status
use Rattle.dra_cli.specs.Headline.{IsTrueHistory}
use Rattle.dra_cli.specs.Serving.{IsTrueLines, IsTrueText, PrintsSome, Seen, ServesSo, serve_status}

abbrev ServedTruth : Type 0
ServedTruth = (o : ServeOptions) (h : List Entry) (vs : List Visit) → IsServed o h vs → IsTrueHistory o.budget h

abbrev FullTruth : Type 0
FullTruth = (o : ServeOptions) (h : List Entry) (vs : List Visit) → IsFull o h vs → IsTrueHistory o.budget h

module _ (served : ServedTruth) (full : FullTruth) (o : ServeOptions) (x y : Seen) (before after : Option (List ℕ)) where
  text : (bytes : List ℕ) → IsText o x.ended y.ended bytes → IsTrueText o x y bytes
  text bytes t = record { of_served = t; history = served o t.history t.visits t.served }

  lines : (bytes : List ℕ) → IsFullText o x.ended y.ended bytes → IsTrueLines o x y bytes
  lines bytes t = record { of_full = t; history = full o t.history t.visits t.full }

  one : (bytes : List ℕ) → IsText o x.ended y.ended bytes ⊎ IsFullText o x.ended y.ended bytes → IsTrueText o x y bytes ⊎ IsTrueLines o x y bytes
  one bytes (inl t) = inl (text bytes t)
  one bytes (inr t) = inr (lines bytes t)

  part : PrintsPart o x.ended y.ended before after → PrintsSome o x y before after
  part p = record { text = p.text; of_one = one p.text p.of_one; printed = p.printed }

  memory : PrintsPart o x.ended y.ended before after ⊎ (after ≡ before) → PrintsSome o x y before after ⊎ (after ≡ before)
  memory (inl p) = inl (part p)
  memory (inr same) = inr same

  serves : (s : ServeStatus) → PrintsSo o x.served y.served x.ended y.ended before after s → ServesSo o x y before after (serve_status s)
  serves serve.Done p = (record { text = p.0.text; fact = text p.0.text p.0.fact; printed = p.0.printed }, p.1)
  serves serve.Memory p = memory p
  serves serve.Write p = part p
  serves serve.Door p = p
  serves (serve.Limit count) p = (record { text = p.0.text; fact = lines p.0.text p.0.fact; printed = p.0.printed }, p.1)

pub serves_so : ServedTruth → FullTruth → (o made : ServeOptions) (x y : Seen) (before after : Option (List ℕ)) (e : ServeStatus) (s : Status) → made ≡ o → s ≡ serve_status e → PrintsSo made x.served y.served x.ended y.ended before after e → ServesSo o x y before after s
serves_so served full o made x y before after e s same is p =
    subst (λ t. ServesSo o x y before after t) (sym is)
    (serves served full o x y before after e (subst (λ (m : ServeOptions). PrintsSo m x.served y.served x.ended y.ended before after e) same p))

-- no door was opened, and nothing written
pub unserved_so : (o : ServeOptions) (x y : Seen) (before : Option (List ℕ)) → ServesSo o x y before before status.Memory
unserved_so o x y before = inr refl

-- ---- errors

pub write_is : (e : ServeStatus) → serve_status e ≡ status.Write → e ≡ serve.Write
write_is serve.Done is = absurd (cc)
write_is serve.Memory is = absurd (cc)
write_is serve.Write is = refl
write_is serve.Door is = absurd (cc)
write_is (serve.Limit count) is = absurd (cc)

pub door_is : (e : ServeStatus) → serve_status e ≡ status.Door → e ≡ serve.Door
door_is serve.Done is = absurd (cc)
door_is serve.Memory is = absurd (cc)
door_is serve.Write is = absurd (cc)
door_is serve.Door is = refl
door_is (serve.Limit count) is = absurd (cc)

-- ---- completeness

pub complete_so : (o : ServeOptions) (x y : Seen) (before after : Option (List ℕ)) (writes writes_now doors doors_now : ℕ) (s : Status) → ServesSo o x y before after s → (s ≡ status.Write → Rose writes writes_now) → (s ≡ status.Door → Rose doors doors_now)
    → (Rose writes writes_now → ⊥) → (Rose doors doors_now → ⊥) → ((s ≡ status.Done) ⊎ (s ≡ status.Limit o.entries)) ⊎ (s ≡ status.Memory)
complete_so o x y before after writes writes_now doors doors_now status.Done so write door quiet still = inl (inl refl)
complete_so o x y before after writes writes_now doors doors_now status.Usage so write door quiet still = absurd so
complete_so o x y before after writes writes_now doors doors_now (status.Document at why) so write door quiet still = absurd so
complete_so o x y before after writes writes_now doors doors_now status.Memory so write door quiet still = inr refl
complete_so o x y before after writes writes_now doors doors_now status.Read so write door quiet still = absurd so
complete_so o x y before after writes writes_now doors doors_now status.Write so write door quiet still = absurd (quiet (write refl))
complete_so o x y before after writes writes_now doors doors_now status.Disk so write door quiet still = absurd so
complete_so o x y before after writes writes_now doors doors_now (status.Limit count) so write door quiet still = inl (inr (ap status.Limit so.1))
complete_so o x y before after writes writes_now doors doors_now (status.Checkpoint at) so write door quiet still = absurd so
complete_so o x y before after writes writes_now doors doors_now status.Door so write door quiet still = absurd (still (door refl))
