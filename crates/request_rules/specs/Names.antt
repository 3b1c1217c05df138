-- What results and labels are called.
use Rattle.std.specs.Prelude.{ℕ, List, ◌++◌, Bool, codes, Option, None, Some}

-- what a result is for: a claim by its index, one of its requests, the subrequest that is chosen
-- if it has `firstAvailable`, and whether it has admin access
pub record Label : Type 0 where
  pub claim : ℕ
  pub request : List ℕ
  pub sub : Option (List ℕ)
  pub admin : Bool

abbrev pub name_by : List ℕ → Option (List ℕ) → List ℕ
name_by request None = request
name_by request (Some sub) = request ++ codes "/" ++ sub

-- `request`, or `request/subrequest`
abbrev pub result_name : Label → List ℕ
result_name l = name_by l.request l.sub
