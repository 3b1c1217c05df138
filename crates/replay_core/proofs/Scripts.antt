-- How a script goes on from a document.
use Rattle.std.proofs.Common.{ℕ, ◌≡◌, ◌∙◌, List, [], ◌∷◌, ◌++◌, Bool, true, refl, sym, ap, append_assoc, append-nil}
use Rattle.std.specs.Prelude.{Option, Some}
use Rattle.std.specs.Io.KnownBytes.{Consumes}
use Rattle.doc_split.specs.Answers.{IsNext}
use Rattle.doc_split.specs.Documents.{Document}
use Rattle.doc_split.specs.Limits.{the_limits}
use Rattle.doc_split.specs.Split.{Split}
use Rattle.commands.specs.declared.given.Given.{Given}
use Rattle.commands.specs.Readings.{Reading, reading}
use Rattle.commands.specs.Readings as readings
use Rattle.replay_core.specs.declared.status.Rejection.{Rejection}
use Rattle.replay_core.specs.declared.status.Rejection.TheVariants as rejection
use Rattle.replay_core.specs.Script.{Ending, Bad, Script, add_commands, at_each, nothing, prepend, rejection_of, script_by, script_from, script_of}
use Rattle.replay_core.proofs.Known.{rest_of}

pub prepend_nothing : (done : List (ℕ × Given)) (ending : Ending) → prepend done (nothing ending) ≡ record { commands = done; ending = ending }
prepend_nothing done ending = let P : List (ℕ × Given) → Script = λ cs. record { commands = cs; ending = ending } in ap P (append-nil done)

pub prepend_more : (done more : List (ℕ × Given)) (rest : Script) → prepend done (prepend more rest) ≡ prepend (done ++ more) rest
prepend_more done more rest =
    let P : List (ℕ × Given) → Script = λ cs. record { commands = cs; ending = rest.ending } in ap P (sym (append_assoc done more rest.commands))

pub at_each_joined : (at : ℕ) (prefix back : List Given) → at_each at (prefix ++ back) ≡ at_each at prefix ++ at_each at back
at_each_joined at [] back = refl
at_each_joined at (c ∷ cs) back = ap (λ (l : List (ℕ × Given)). (at, c) ∷ l) (at_each_joined at cs back)

-- a document that is commands
pub document_is : (done : List (ℕ × Given)) (at : ℕ) (r : Reading) (cs : List Given) (rest : Script) → r ≡ readings.Asks cs
    → prepend done (add_commands at r rest) ≡ prepend (done ++ at_each at cs) rest
document_is done at r cs rest is = ap (λ (x : Reading). prepend done (add_commands at x rest)) is ∙ prepend_more done (at_each at cs) rest

-- a document that is none
refused_is : (at : ℕ) (r : Reading) (why : Rejection) (rest : Script) → rejection_of r ≡ Some why → add_commands at r rest ≡ nothing (Bad at why)
refused_is at (readings.Asks given) why rest is = absurd (cc)
refused_is at readings.NotJson why rest is = let same : rejection.NotJson ≡ why = cc in ap (λ (w : Rejection). nothing (Bad at w)) same
refused_is at readings.NotACommand why rest is = let same : rejection.NotACommand ≡ why = cc in ap (λ (w : Rejection). nothing (Bad at w)) same

pub document_is_none : (done : List (ℕ × Given)) (at : ℕ) (r : Reading) (why : Rejection) (rest : Script) → rejection_of r ≡ Some why
    → prepend done (add_commands at r rest) ≡ record { commands = done; ending = Bad at why }
document_is_none done at r why rest is = ap (prepend done) (refused_is at r why rest is) ∙ prepend_nothing done (Bad at why)

-- what goes before commands of which one is looked at
pub prepend_up_to : (done : List (ℕ × Given)) (at : ℕ) (prefix : List Given) (c : Given) (back : List Given) (rest : Script)
    → prepend (done ++ at_each at (prefix ++ c ∷ back)) rest ≡ prepend ((done ++ at_each at prefix) ++ (at, c) ∷ []) (prepend (at_each at back) rest)
prepend_up_to done at prefix c back rest =
    ap (λ (l : List (ℕ × Given)). prepend (done ++ l) rest) (at_each_joined at prefix (c ∷ back))
    ∙ ap (λ (l : List (ℕ × Given)). prepend l rest) (sym (append_assoc done (at_each at prefix) ((at, c) ∷ at_each at back)))
    ∙ ap (λ (l : List (ℕ × Given)). prepend l rest) (sym (append_assoc (done ++ at_each at prefix) ((at, c) ∷ []) (at_each at back)))
    ∙ sym (prepend_more ((done ++ at_each at prefix) ++ (at, c) ∷ []) (at_each at back) rest)

-- one document on
pub next_script : (attempts : ℕ) (a b : Split) (left_a left_b : Option (List ℕ)) (doc : Document) → (n : IsNext the_limits a b left_a left_b doc) → (ended : Bool) (more : List ℕ)
    → script_from attempts ended a.at (n.taken ++ more) ≡ add_commands doc.at (reading attempts doc.bytes) (script_from attempts ended b.at more)
next_script attempts a b left_a left_b doc n ended more = ap (script_by attempts ended) (n.first more)

-- what the script is, where the input's bytes are known
pub tells_by : (attempts : ℕ) (left now : Option (List ℕ)) (taken : List ℕ) (done : List (ℕ × Given)) (tail : List ℕ → Script) → Consumes left now taken → ((more : List ℕ) → script_from attempts true 0 (taken ++ more) ≡ prepend done (tail more))
    → (bytes : List ℕ) → left ≡ Some bytes → (more : List ℕ) × (script_of attempts bytes ≡ prepend done (tail more)) × (now ≡ Some more)
tells_by attempts left now taken done tail consumed script bytes e =
    let r = rest_of left now taken bytes consumed e in
    (r.0, ap (script_from attempts true 0) r.1 ∙ script r.0, r.2)
