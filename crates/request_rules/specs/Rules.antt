-- Which devices may be allocated together.
use Rattle.std.specs.Prelude.{ℕ, ◌+◌, ◌==◌, List, [], ◌∷◌, Bool, true, false, not, ◌&&◌, ◌||◌, Option, None, Some, is_some, slice_get, nat_le, if◌then◌else◌}
use Rattle.std.specs.List.{list_any, list_all, sum_by}
use Rattle.object_fields.specs.declared.key.DeviceId.{DeviceId}
use Rattle.object_fields.specs.declared.qualified.QualName.{QualName}
use Rattle.api_slice.specs.declared.types.Attribute.{Attribute}
use Rattle.pool_view.specs.Names.{device_eq}
use Rattle.pool_view.specs.Pools.{Offered, id_in}
use Rattle.request_rules.specs.Lists.{each_after}
use Rattle.request_rules.specs.Names.{Label, result_name}
use Rattle.request_rules.specs.Draws.{CounterId, Draw, draws_of, drawn_at, is_within}
use Rattle.request_rules.specs.Agreeing.{attribute_of, names, same_by}
use Rattle.request_rules.specs.Input.{SearchInput}
use Rattle.request_rules.specs.Asked.{First, Next, Due, Seat, Slot, Rule, meets, rules_of, tolerated_at}

-- ---- one slot

-- `least` is one above the position before
abbrev pub seated : Seat → (least x : ℕ) → Bool
seated First least x = true
seated Next least x = nat_le least x
seated (Due y) least x = y == x

abbrev pub fills : SearchInput → Slot → (least x : ℕ) → Bool
fills w s least x = meets w s.asked.ask x && (tolerated_at w s.asked.ask x && seated s.seat least x)

-- each device meets the request of its slot, which tolerates its taints, and sits as its seat requires
abbrev pub each_fills : SearchInput → ℕ → List Slot → List ℕ → Bool
each_fills w least slots [] = true
each_fills w least [] (x ∷ xs) = false
each_fills w least (s ∷ ss) (x ∷ xs) = fills w s least x && each_fills w (x + 1) ss xs

-- one above the last position
abbrev pub least_after : ℕ → List ℕ → ℕ
least_after least [] = least
least_after least (x ∷ xs) = least_after (x + 1) xs

-- a device, by its position, for a result
pub record Pick : Type 0 where
  pub label : Label
  pub position : ℕ

-- the devices for the first slots
abbrev pub picks : List Slot → List ℕ → List Pick
picks [] l = []
picks (s ∷ ss) [] = []
picks (s ∷ ss) (x ∷ xs) = record { label = s.asked.label; position = x } ∷ picks ss xs

-- ---- devices

-- a position that no device has has no name
abbrev pub id_by : Option Offered → DeviceId
id_by None = record { driver = []; pool = []; device = [] }
id_by (Some o) = id_in o

abbrev pub id_of : SearchInput → Pick → DeviceId
id_of w p = id_by (slice_get w.devices p.position)

-- the devices of one claim differ, and a device is without admin access in one claim only
abbrev pub excludes : Pick → Pick → Bool
excludes p q = (p.label.claim == q.label.claim) || (not p.label.admin && not q.label.admin)

abbrev pub apart : SearchInput → Pick → Pick → Bool
apart w p q = not (excludes p q && device_eq (id_of w p) (id_of w q))

abbrev pub is_held : SearchInput → Pick → Bool
is_held w p = list_any (λ h. device_eq h.0 (id_of w p)) w.held

-- ---- counters

abbrev pub draws_by : Option Offered → List Draw
draws_by None = []
draws_by (Some o) = draws_of o

abbrev pub device_draws : SearchInput → Pick → List Draw
device_draws w p = draws_by (slice_get w.devices p.position)

-- admin access draws nothing
abbrev pub draws : SearchInput → Pick → List Draw
draws w p = if p.label.admin then [] else device_draws w p

-- what these draw from a counter
abbrev pub amount : CounterId → List Draw → ℕ
amount k ds = sum_by (drawn_at k) ds

-- what the held devices and these draw from a counter
unfoldable pub total : SearchInput → CounterId → List Pick → ℕ
total w k l = w.drawn k + sum_by (λ p. amount k (draws w p)) l

-- the counter exists, and has at least this much
abbrev pub within : SearchInput → CounterId → ℕ → Bool
within w k t = is_within (w.value k) t

-- each counter on which the device draws has enough, with those before it
unfoldable pub covers : SearchInput → List Pick → Pick → Bool
covers w before p = list_all (λ d. within w d.counter (total w d.counter before + amount d.counter (draws w p))) (draws w p)

-- ---- constraints

-- the constraint names the result
unfoldable pub is_for : Rule → Label → Bool
is_for r l = (r.claim == l.claim) && names r.constraint.requests (result_name l)

abbrev pub attribute_by : Option Offered → QualName → Option Attribute
attribute_by None name = None
attribute_by (Some o) name = attribute_of o name

-- the device's value of the constraint's attribute
abbrev pub value_of : SearchInput → Rule → Pick → Option Attribute
value_of w r p = attribute_by (slice_get w.devices p.position) r.constraint.attribute

-- both have the attribute, with one type and one value
abbrev pub same_values : Option Attribute → Option Attribute → Bool
same_values a None = false
same_values a (Some b) = same_by a b

-- a device that the constraint names has the attribute, with the value of those before it
unfoldable pub agrees : SearchInput → Rule → List Pick → Pick → Bool
agrees w r before p = not (is_for r p.label) || (is_some (value_of w r p) && list_all (λ q. not (is_for r q.label) || same_values (value_of w r q) (value_of w r p)) before)

-- ---- all of them

-- one device more, after those before it
unfoldable pub may_join : SearchInput → List Pick → Pick → Bool
may_join w before p =
    list_all (λ q. apart w q p) before
    && ((p.label.admin || not (is_held w p))
    && (covers w before p
    && list_all (λ r. agrees w r before p) (rules_of w)))

-- the devices at the positions may fill the first slots
unfoldable pub is_good : SearchInput → List Slot → List ℕ → Bool
is_good w ss l = each_fills w 0 ss l && each_after (may_join w) [] (picks ss l)
