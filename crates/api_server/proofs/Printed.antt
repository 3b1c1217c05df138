-- What printing leaves, by its result.
use Rattle.std.proofs.Common.{ℕ, ◌≡◌, ◌∙◌, inl, inr, ◌++◌, List, Option, Result, Ok, Err, length, drop, refl, sym, ap, subst}
use Rattle.std.specs.Prelude.{OnErr, OnOk}
use Rattle.std.specs.Io.KnownBytes.{Appends}
use Rattle.dra_ports.specs.Causes.{HasCause}
use Rattle.dra_ports.specs.Prefixes.{AppendsPrefix}
use Rattle.dra_ports.specs.declared.error.PortError.{PortError}
use Rattle.dra_ports.specs.declared.error.PortError.TheVariants as port
use Rattle.cluster.specs.History.{state_of}
use Rattle.cluster.specs.declared.entry.Entry.{Entry}
use Rattle.cluster.specs.declared.state.State.{State}
use Rattle.journal_text.specs.Journal.{lines_from, summary_by, text_of}
use Rattle.api_server.specs.Printing.{PrintsText, after_printing}
use Rattle.api_server.specs.Serving.{jobs_ended}
use Rattle.api_server.specs.declared.options.ServeStatus.{ServeStatus}

pub prints_text : {T : Type 0} (text : List ℕ) (whole : ServeStatus) (old new : Option (List ℕ)) (before after : ℕ) (r : Result T PortError) (s : ServeStatus) → s ≡ after_printing r whole → OnOk r (Appends old new text) → OnErr r (AppendsPrefix old new text) → HasCause before after r → PrintsText text whole old new before after s
prints_text text whole old new before after (Ok x) s is all part cause = inl (is, all, cause.ok)
prints_text text whole old new before after (Err port.Failed) s is all part cause = inr (inl (is, part, cause.failed refl))
prints_text text whole old new before after (Err port.Memory) s is all part cause = inr (inr (is, part, cause.memory refl))

-- the lines and the summary are the whole text
pub text_is : (h es : List Entry) (n jobs : ℕ) (s : State) (text last all : List ℕ) → es ≡ h → text ≡ lines_from 0 (drop 0 es) → n ≡ length h → s ≡ state_of h → jobs ≡ jobs_ended h → last ≡ summary_by n s jobs → all ≡ text ++ last → all ≡ text_of h (jobs_ended h)
unfolding text_of
text_is h es n jobs s text last all same lines count state ended summary is =
    is
    ∙ ap (λ (xs : List ℕ). xs ++ last) (lines ∙ ap (lines_from 0) same)
    ∙ ap (λ (xs : List ℕ). lines_from 0 h ++ xs) (summary ∙ ap (λ (m : ℕ). summary_by m s jobs) count ∙ ap (λ (x : State). summary_by (length h) x jobs) state ∙ ap (λ (m : ℕ). summary_by (length h) (state_of h) m) ended)
