-- An input without bytes asks for nothing.
use mathlib.Core.Logic.{inl}
use Rattle.std.proofs.Common.{ℕ, ◌≡◌, ◌∙◌, List, [], ◌∷◌, ◌++◌, Option, true, refl, sym, ap, subst}
use Rattle.dra_ports.specs.DiskContent.{Content}
use Rattle.doc_split.specs.Documents.{documents_from}
use Rattle.doc_split.specs.Documents as documents
use Rattle.doc_split.specs.Limits.{documents_at, the_limits}
use Rattle.commands.specs.declared.given.Given.{Given}
use Rattle.replay_core.specs.declared.options.ReplayOptions.{ReplayOptions}
use Rattle.replay_core.specs.declared.status.Status.{Status}
use Rattle.replay_core.specs.declared.status.Status.TheVariants as status
use Rattle.replay_core.specs.Causes.{EndsBy, MayOpen, ReachesLimit}
use Rattle.replay_core.specs.Forms.{kubelet_count}
use Rattle.replay_core.specs.Script.{Clean, Ending, Script, commands_of, nothing, script_by, script_of}

no_documents : documents_at the_limits 0 [] ≡ documents.nothing documents.Clean
unfolding documents_at documents_from
no_documents = refl

empty_script : (attempts : ℕ) → script_of attempts [] ≡ nothing Clean
empty_script attempts = ap (λ d. script_by attempts true d) no_documents

none_more : (done : List (ℕ × Given)) (c : ℕ × Given) (rest : List (ℕ × Given)) → [] ≡ (done ++ c ∷ []) ++ rest → ⊥
none_more [] c rest e = absurd (cc)
none_more (d ∷ ds) c rest e = absurd (cc)

pub never_full : (o : ReplayOptions) → ReachesLimit o [] → ⊥
never_full o r = none_more r.done (r.at, r.command) r.rest.commands (ap (λ (s : Script). s.commands) (sym (empty_script o.attempts) ∙ r.script))

pub needs_no_disk : (o : ReplayOptions) (disk : Option Content) → MayOpen o [] disk
needs_no_disk o disk = inl (ap (λ (s : Script). kubelet_count (commands_of s.commands)) (empty_script o.attempts))

pub is_done : (attempts : ℕ) (s : Status) → EndsBy (script_of attempts []).ending s → s ≡ status.Done
is_done attempts s ends = subst (λ (x : Ending). EndsBy x s) (ap (λ (x : Script). x.ending) (empty_script attempts)) ends
