use Rattle.std.proofs.Common.{◌-◌, ◌+◌, ◌∙◌, ◌++◌, ◌∷◌, [], ℕ, List, length, vec_len, arith, ap, subst}
use Rattle.std.proofs.lemmas.List.{get_or_read}
use Rattle.deep_search.specs.Choices.{Turns, zeros}
use Rattle.deep_search.proofs.Turning.{length-of, next-is}
use Rattle.deep_search.proofs.choosing.next_choice.Goals as goal

pub index-requires : goal.index-requires
index-requires c =
    let known = c.in-Some.ensures.some.known in
    omega (arith, length-of c.args.options.now c.args.choice.now.items c.requires, c.args.choice.now.ok.0)

pub overflow_add-next : goal.overflow_add-next
overflow_add-next c =
    let before = c.args.choice.now in
    let t = subst (λ (w : List ℕ). Turns c.args.options.now w c.in-Some.place) c.deref.ensures.value c.in-Some.ensures.some in
    let known = t.known in
    let further = t.further in
    let size = length-of c.args.options.now before.items c.requires in
    let read = get_or_read before.items _ _ (omega (arith, before.ok.0)) c.index.ensures 0 in
    omega (arith, read, c.type_inv.options c.in-Some.place)

pub returns-clause-next : goal.returns-clause-next
returns-clause-next c is =
    let before = c.args.choice.now in
    let t = subst (λ (w : List ℕ). Turns c.args.options.now w c.in-Some.place) c.deref.ensures.value c.in-Some.ensures.some in
    let known = t.known in
    let size = length-of c.args.options.now before.items c.requires in
    let read = get_or_read before.items _ _ (omega (arith, before.ok.0)) c.index.ensures 0 in
    let cut = c.truncate.ensures.len in
    let more = c.in_ok-push.ensures.len in
    let n = length c.args.options.now - vec_len c.push.new.self in
    next-is c.args.options.now before.items c.fill_up.new.choice.items c.in-Some.place n (c.index.result.now + 1) c.requires t (ap (λ m. m + 1) read) (omega (arith, before.ok.0))
    (c.in_ok-fill_up.ensures ∙ ap (λ (w : List ℕ). w ++ zeros n) (c.in_ok-push.ensures.items ∙ ap (λ (w : List ℕ). w ++ (c.index.result.now + 1) ∷ []) c.truncate.ensures.items))
