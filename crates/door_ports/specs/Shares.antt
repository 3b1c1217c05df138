-- Which connections a door accepts, and what holds of a door that was just opened.
use Rattle.std.specs.Prelude.{◌≡◌, ℕ, ◌+◌, ◌≤◌, Bool, not, nat_eq, List, [], Option, IfSome}
use Rattle.std.specs.List.{list_any}
use Rattle.door_ports.specs.Visits.{Ended}

-- the connections next, next + step, next + 2 * step and so on, up to last
pub record Share : Type 0 where
  pub next : ℕ
  pub step : ℕ
  pub last : ℕ

-- the share of door i of n, from 0: i + 1, i + 1 + n and so on
abbrev pub share_of : ℕ → ℕ → ℕ → Share
share_of i n connections = record { next = i + 1; step = n; last = connections }

-- a connection is left
abbrev pub IsLeft : Share → Type 0
IsLeft s = s.next ≤ s.last

-- without the first connection
abbrev pub advanced : Share → Share
advanced s = record { next = s.next + s.step; step = s.step; last = s.last }

-- A door that was just opened, with this share: s is its share, and given, taken and failed are its numbers of connections in service and served and of errors.
pub record IsNew (opened s : Share) (given taken failed : ℕ) (es : Option (List Ended)) : Type 0 where
  pub share : s ≡ opened
  pub in_service : given ≡ 0
  pub served : taken ≡ 0
  pub faults : failed ≡ 0
  pub ended : IfSome es (λ l. l ≡ [])

-- the count of one of these doors isn't 0
abbrev pub any_failed : {D : Type 0} → (D → ℕ) → List D → Bool
any_failed faults doors = list_any (λ d. not (nat_eq (faults d) 0)) doors
