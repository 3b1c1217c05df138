-- Where a text is looked for in another, from one byte to the next.
use Rattle.std.proofs.Common.{◌≡◌, ℕ, suc, ◌+◌, ◌-◌, ◌<◌, List, ◌∷◌, length, take, drop, get_or, drop-cons, false, ap, sym, ◌∙◌, add-one}
use Rattle.std.proofs.lemmas.List.{take_rest}
use Rattle.cel_value.specs.Functions.{begins, contains}

pub next_byte : (text part : List ℕ) (i : ℕ) → i < length text → begins (take (length text - i) (drop i text)) part ≡ false
    → contains (drop i text) part ≡ contains text part → contains (drop (i + 1) text) part ≡ contains text part
next_byte text part i below absent h =
    let d : drop i text ≡ get_or text i 0 ∷ drop (suc i) text = drop-cons text i 0 below in
    let b : begins (get_or text i 0 ∷ drop (suc i) text) part ≡ false = ap (λ s. begins s part) (sym d ∙ sym (take_rest text i)) ∙ absent in
    let g : contains (get_or text i 0 ∷ drop (suc i) text) part ≡ contains text part = rw d at h in
    rw (add-one i) (rw b at g)
