-- The requests in bytes, one after another.
use Rattle.std.specs.Prelude.{ℕ, ◌+◌, ◌≡◌, ◌≤◌, ◌<◌, ◌||◌, ◌⊎◌, Bool, false, List, [], ◌∷◌, ◌++◌, Result, Ok, Err, MatchBool, length, min, nat_le}
use Rattle.httparse.specs.Grammar.{RequestHead, ReadsRequest}
use Rattle.http_wire.specs.declared.error.WireError.{WireError}
use Rattle.http_wire.specs.declared.error.WireError.TheVariants as error
use Rattle.http_wire.specs.declared.head.Head.{Head}
use Rattle.http_wire.specs.Heads.{IsHead, IsBlank, IsOpenHead, IsLongHead, line_count, lines_most}
use Rattle.http_wire.specs.Fields.{meaning_of}

-- the lines are a head by `httparse`'s grammar, and this is what it says
pub record HasMeaning (lines : List ℕ) (meaning : Result Head WireError) : Type 0 where
  pub head : RequestHead
  pub reads : ReadsRequest lines head []
  pub meaning_is : meaning_of head ≡ meaning

-- the lines are no head by that grammar
abbrev pub IsNoHead : List ℕ → Type 0
IsNoHead lines = (h : RequestHead) → ReadsRequest lines h [] → ⊥

-- the bytes are a head that isn't too long
pub record IsShortHead (prefix lines : List ℕ) : Type 0 where
  pub head : IsHead prefix lines
  pub few : line_count lines ≤ lines_most

-- the bytes are a head that isn't too long, with this meaning
pub record Says (prefix : List ℕ) (meaning : Result Head WireError) : Type 0 where
  pub lines : List ℕ
  pub short : IsShortHead prefix lines
  pub means : HasMeaning lines meaning

-- a request
pub record Message : Type 0 where
  pub method : List ℕ
  pub target : List ℕ
  pub body : List ℕ
  pub last : Bool

abbrev pub message_of : Head → List ℕ → Message
message_of head body = record { method = head.method; target = head.target; body = body; last = head.last }

-- the bytes are this request, with the empty lines before it: its head and as many bytes as that says; it is the last if its
-- head says so
pub record IsSaid (text : List ℕ) (message : Message) : Type 0 where
  pub prefix : List ℕ
  pub body : List ℕ
  pub is : text ≡ prefix ++ body
  pub head : Head
  pub says : Says prefix (Ok head)
  pub long : length body ≡ head.length
  pub message_is : message ≡ message_of head body

-- the most requests of a connection
abbrev pub requests_most : ℕ
requests_most = 65535

-- the count of requests with one more, as far as they are counted
abbrev pub next_count : ℕ → ℕ
next_count before = min (before + 1) requests_most

-- a request behind so many others: it is the last if its head says so, or if a connection has no more
abbrev pub numbered : ℕ → Message → Message
numbered before m = record { method = m.method; target = m.target; body = m.body; last = m.last || nat_le requests_most (before + 1) }

-- the bytes are this request, behind so many others
pub record IsRequest (before : ℕ) (text : List ℕ) (message : Message) : Type 0 where
  pub said : Message
  pub is : IsSaid text said
  pub message_is : message ≡ numbered before said

-- a head that isn't one by `httparse`'s grammar, or whose lengths are no number or different
pub record IsStray (prefix : List ℕ) : Type 0 where
  pub lines : List ℕ
  pub short : IsShortHead prefix lines
  pub none : IsNoHead lines

abbrev pub IsBadHead : List ℕ → Type 0
IsBadHead prefix = IsStray prefix ⊎ Says prefix (Err error.BadHead)

-- more lines than a head may have
pub record HasManyLines (prefix : List ℕ) : Type 0 where
  pub lines : List ℕ
  pub head : IsHead prefix lines
  pub many : lines_most < line_count lines

-- a head of too many bytes or lines, or a body of too many bytes
abbrev pub IsTooLong : List ℕ → Type 0
IsTooLong prefix = IsLongHead prefix ⊎ (HasManyLines prefix ⊎ Says prefix (Err error.TooLong))

-- a body that has fewer bytes than its head says
pub record IsOpenBody (text : List ℕ) : Type 0 where
  pub prefix : List ℕ
  pub body : List ℕ
  pub is : text ≡ prefix ++ body
  pub head : Head
  pub says : Says prefix (Ok head)
  pub short : length body < head.length

-- a request is begun, is not refused so far, and doesn't end
abbrev pub IsOpen : List ℕ → Type 0
IsOpen text = IsOpenHead text ⊎ IsOpenBody text

-- how the requests of a connection end
pub data Ending : Type 0 where
  -- the input ends between two requests, or the last request ends the connection
  Closed : Ending
  -- the next request is refused, and what follows it isn't looked at
  BadHead NoLength TooLong : Ending
  -- the input ends inside a request
  EndedEarly : Ending

-- why the bytes begin with no request
abbrev pub Stops : List ℕ → Ending → Type 0
Stops bytes Closed = IsBlank bytes
Stops bytes BadHead = (prefix rest : List ℕ) × (bytes ≡ prefix ++ rest) × IsBadHead prefix
Stops bytes NoLength = (prefix rest : List ℕ) × (bytes ≡ prefix ++ rest) × Says prefix (Err error.NoLength)
Stops bytes TooLong = (prefix rest : List ℕ) × (bytes ≡ prefix ++ rest) × IsTooLong prefix
Stops bytes EndedEarly = IsOpen bytes

-- the requests of bytes behind so many others: these are the requests in them in order, one after another, and then this
-- ending; what follows a request that ends the connection isn't looked at
abbrev pub LieAfter : ℕ → List ℕ → List Message → Ending → Type 0
LieAfter before bytes [] ending = Stops bytes ending
LieAfter before bytes (m ∷ ms) ending = (text rest : List ℕ) × (bytes ≡ text ++ rest) × IsRequest before text m × MatchBool m.last ((ms ≡ []) × (ending ≡ Closed)) (LieAfter (before + 1) rest ms ending)

-- the requests of all bytes of a connection
abbrev pub Lie : List ℕ → List Message → Ending → Type 0
Lie = LieAfter 0

-- a request behind so many others is followed by these requests and this ending
abbrev pub Follow : ℕ → Message → List ℕ → List Message → Ending → Type 0
Follow before m rest ms ending = MatchBool m.last ((ms ≡ []) × (ending ≡ Closed)) (LieAfter (before + 1) rest ms ending)

-- a request behind so many others, and after it these
pub record IsFirst (before : ℕ) (m : Message) (rest : List ℕ) (ms : List Message) (ending : Ending) : Type 0 where
  pub others : List Message
  pub first : ms ≡ m ∷ others
  pub follow : Follow before m rest others ending

-- the bytes are these requests in order, one after another, behind so many others, and none of them ends the connection
abbrev pub AreRequests : ℕ → List ℕ → List Message → Type 0
AreRequests before bytes [] = bytes ≡ []
AreRequests before bytes (m ∷ ms) = (text rest : List ℕ) × (bytes ≡ text ++ rest) × IsRequest before text m × (m.last ≡ false) × AreRequests (before + 1) rest ms
