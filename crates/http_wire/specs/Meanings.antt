-- What reading the lines of a head returns.
use Rattle.std.specs.Prelude.{ℕ, ◌≡◌, ◌⊎◌, ◌==◌, Bool, false, List, Some, Result, Ok, Err, option_copied}
use Rattle.httparse.specs.Borrowed.{AreFields}
use Rattle.httparse.specs.Grammar.{RequestHead}
use Rattle.httparse.specs.declared.Error.{Error}
use Rattle.httparse.specs.declared.Status.{Status}
use Rattle.httparse.specs.declared.Status.TheVariants.{Complete, Partial}
use Rattle.httparse.specs.declared.borrowed.Request.{Request}
use Rattle.http_wire.specs.declared.error.WireError.{WireError}
use Rattle.http_wire.specs.declared.error.WireError.TheVariants as error
use Rattle.http_wire.specs.declared.head.Head.{Head}
use Rattle.http_wire.specs.Requests.{HasManyLines, HasMeaning, IsBadHead, IsNoHead, Says}

abbrev pub Reads : List ℕ → Result Head WireError → Type 0
Reads lines (Ok head) = HasMeaning lines (Ok head)
Reads lines (Err error.BadHead) = IsNoHead lines ⊎ HasMeaning lines (Err error.BadHead)
Reads lines (Err error.NoLength) = HasMeaning lines (Err error.NoLength)
Reads lines (Err error.TooLong) = HasMeaning lines (Err error.TooLong)
Reads lines (Err error.EndedEarly) = ⊥
Reads lines (Err error.ReadFault) = ⊥
Reads lines (Err error.WriteFault) = ⊥
Reads lines (Err error.Memory) = Unit {0}

-- the result is what the head says, unless memory runs out
abbrev pub Gives : Result Head WireError → Result Head WireError → Type 0
Gives (Ok head) meaning = meaning ≡ Ok head
Gives (Err error.BadHead) meaning = meaning ≡ Err error.BadHead
Gives (Err error.NoLength) meaning = meaning ≡ Err error.NoLength
Gives (Err error.TooLong) meaning = meaning ≡ Err error.TooLong
Gives (Err error.EndedEarly) meaning = ⊥
Gives (Err error.ReadFault) meaning = ⊥
Gives (Err error.WriteFault) meaning = ⊥
Gives (Err error.Memory) meaning = Unit {0}

-- the parts of a head that `httparse` read
pub record HoldsParts (r : Request) (h : RequestHead) : Type 0 where
  pub method : option_copied r.method ≡ Some h.method
  pub path : option_copied r.path ≡ Some h.target
  pub version : r.version ≡ Some h.minor
  pub fields : AreFields r.headers.now h.fields

-- a parse that is complete, of so many bytes
abbrev pub is_whole : Result (Status ℕ) Error → ℕ → Bool
is_whole (Ok (Complete n)) len = n == len
is_whole (Ok Partial) len = false
is_whole (Err e) len = false

-- what a head that was found says
abbrev pub SaysOf : List ℕ → Result Head WireError → Type 0
SaysOf prefix (Ok head) = Says prefix (Ok head)
SaysOf prefix (Err error.BadHead) = IsBadHead prefix
SaysOf prefix (Err error.NoLength) = Says prefix (Err error.NoLength)
SaysOf prefix (Err error.TooLong) = HasManyLines prefix ⊎ Says prefix (Err error.TooLong)
SaysOf prefix (Err error.EndedEarly) = ⊥
SaysOf prefix (Err error.ReadFault) = ⊥
SaysOf prefix (Err error.WriteFault) = ⊥
SaysOf prefix (Err error.Memory) = Unit {0}
