use Rattle.std.proofs.Common.{◌≡◌, ◌+◌, ◌/◌, ◌^◌, [], ◌∷◌, ◌++◌, refl, sym, ap, ◌∙◌, rules, arith, append_assoc}
use Rattle.std.proofs.Output.{has_written_append, has_written_of_eq}
use Rattle.quantity.specs.Printed.{places_text}
use Rattle.quantity.proofs.PlaceLemmas.{places_text-last, places_text-more}
use Rattle.quantity.proofs.print.write_places.Goals as goal

pub places-init : goal.places-init
places-init g c = (8, refl, omega arith, omega arith, omega arith, [], refl, search rules)

pub returns-then-left-eq0 : goal.returns-then-left-eq0
returns-then-left-eq0 g c plain ok =
    let (k, place, _, _, some, done, whole, wrote) = c.places.invariant in
    let last = places_text-last k c.places.left c.places.place place (omega arith) c.if-left-eq0.true in
    let text : done ++ (48 + c.places.left / c.places.place) ∷ [] ≡ places_text 9 c.args.nanos = ap (λ t. done ++ t) (sym last) ∙ whole in
    has_written_of_eq _ _ _ _ _ text (has_written_append _ _ _ _ _ _ (wrote plain) (search rules))

pub places-preserved : goal.places-preserved
places-preserved g c =
    let (k, place, _, _, some, done, whole, wrote) = c.places.invariant in
    let (j, tenfold, more) = places_text-more k c.places.left c.places.place place (omega arith) c.if-left-eq0.false in
    let power = 10 ^ j in (
      j,
      omega arith,
      omega arith,
      omega arith,
      omega arith,
      done ++ (48 + c.places.left / c.places.place) ∷ [],
      append_assoc done _ _ ∙ ap (λ t. done ++ t) (sym more) ∙ whole,
      λ plain. has_written_append _ _ _ _ _ _ (wrote plain) (search rules),
    )
