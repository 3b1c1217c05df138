-- A list that one more was put to, if there was room.
use Rattle.std.proofs.Common.{◌≡◌, List, [], ◌∷◌, ◌++◌, Bool, true, false, cond, subst, sym}
use Rattle.request_rules.specs.Lists.{Each}
use Rattle.ledger_core.proofs.Remembering.{each_with}

pub each_put : {X : Type 0} (P : X → Type 0) (xs ys : List X) (y : X) (put : Bool) → ys ≡ cond put (xs ++ y ∷ []) xs → Each P xs → P y → Each P ys
each_put P xs ys y true is h p = subst (Each P) (sym is) (each_with P xs y h p)
each_put P xs ys y false is h p = subst (Each P) (sym is) h
