-- Readings inside what was read.
use Rattle.std.proofs.Common.{◌≡◌, List, Result, Ok, subst, sym}
use Rattle.serde_json.specs.Data.{Data}
use Rattle.object_fields.specs.Fields.{Reads, ◌>>=◌}
use Rattle.object_fields.specs.declared.error.FieldError.{FieldError}
use Rattle.object_fields.specs.declared.path.Step.{Step}

-- what a reading returns for a value is what it returns after the reading of that value
pub behind : {A B : Type 0} (r : Result A FieldError) (x : Result B FieldError) (v : B) (path inside : List Step) (f : List Step → B → Result A FieldError) → x ≡ Ok v → path ≡ inside → Reads r (f inside v) → Reads r (x >>= f path)
behind {A = A} {B = B} r x v path inside f is at h =
    let P : List Step → Type 0 = λ q. Reads r (f q v) in
    let Q : Result B FieldError → Type 0 = λ y. Reads r (y >>= f path) in
    subst Q (sym is) (subst P (sym at) h)
