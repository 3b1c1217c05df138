-- What is drawn and what counters have, as the input of a search.
use Rattle.std.proofs.Common.{ℕ, ◌+◌, ◌-◌, ◌<◌, ◌≤◌, ◌≡◌, List, [], ◌∷◌, ◌++◌, Bool, true, false, ◌||◌, cond, length, get_or, Option, Some, refl, sym, ap, ◌∙◌, arith}
use Rattle.std.specs.List.{slice_get}
use Rattle.std.proofs.Math.Path.{fun_ext}
use Rattle.std.proofs.lemmas.List.Sums.{sum_by-append}
use Rattle.object_fields.specs.declared.key.DeviceId.{DeviceId}
use Rattle.object_fields.specs.declared.key.Key.{Key}
use Rattle.pool_view.specs.Pools.{Offered}
use Rattle.request_rules.specs.Draws.{CounterId, Draw, drawn_from, is_covered}
use Rattle.counter_sets.specs.Totals.{KeptCounters, drawn_in, value_of}
use Rattle.request_rules.specs.Input.{SearchInput}
use Rattle.request_rules.specs.Rules.{Pick, amount, covers, device_draws, draws, draws_by, total}
use Rattle.allocator.specs.Input.{with_counters}
use Rattle.allocator.specs.Placing.{covered_at, covered_by, input_at, placed_draws}
use Rattle.allocator.proofs.Places.{got, there}

-- ---- totals

pub total_is : (v : SearchInput) (held : List (DeviceId × Key)) (value : CounterId → Option ℕ) (drawn : CounterId → ℕ) (ps : List Pick) (k : CounterId) → total (with_counters v held value drawn) k ps ≡ drawn k + placed_draws v ps k
unfolding total
total_is v held value drawn ps k = refl

pub drawn_now : (v : SearchInput) (held : List (DeviceId × Key)) (kept : KeptCounters) (ps : List Pick) → ((k : CounterId) → placed_draws v ps k ≤ drawn_in kept k) → (λ k. total (input_at v held kept ps) k ps) ≡ drawn_in kept
drawn_now v held kept ps h = fun_ext (λ k. let e = total_is v held (value_of kept) (λ k. drawn_in kept k - placed_draws v ps k) ps k in let n = h k in omega (arith, e, n))

pub placed_push : (v : SearchInput) (ps : List Pick) (p : Pick) (k : CounterId) → placed_draws v (ps ++ p ∷ []) k ≡ placed_draws v ps k + amount k (draws v p)
placed_push v ps p k = omega (arith, sum_by-append (λ q. amount k (draws v q)) ps (p ∷ []))

-- the input stays the same as the device draws, or as its draw is undone
pub same_input : (v : SearchInput) (held : List (DeviceId × Key)) (value other : CounterId → Option ℕ) (old new : CounterId → ℕ) → ((k : CounterId) → other k ≡ value k) → ((k : CounterId) → new k ≡ old k)
    → with_counters v held other new ≡ with_counters v held value old
same_input v held value other old new g h =
    ap (λ (f : CounterId → Option ℕ). with_counters v held f new) (fun_ext g) ∙ ap (λ (f : CounterId → ℕ). with_counters v held value f) (fun_ext h)

-- ---- covered

admin_covers : (v : SearchInput) (value : CounterId → Option ℕ) (before : CounterId → ℕ) (p : Pick) → p.label.admin ≡ true → covered_by v value before p ≡ true
admin_covers v value before p e = ap (λ (t : Bool). t || covered_at value before (slice_get v.devices p.position)) e

pub plain_covers : (v : SearchInput) (value : CounterId → Option ℕ) (before : CounterId → ℕ) (p : Pick) (o : Offered) → slice_get v.devices p.position ≡ Some o → p.label.admin ≡ false
    → covered_by v value before p ≡ is_covered value before o
plain_covers v value before p o f e = ap (λ (t : Bool). t || covered_at value before (slice_get v.devices p.position)) e ∙ ap (covered_at value before) f

abbrev pub CoversLaw : Type 0
CoversLaw = (w : SearchInput) (before : List Pick) (p : Pick) (o : Offered) → slice_get w.devices p.position ≡ Some o → p.label.admin ≡ false → covers w before p ≡ is_covered w.value (λ k. total w k before) o

abbrev pub AdminLaw : Type 0
AdminLaw = (w : SearchInput) (before : List Pick) (p : Pick) → p.label.admin ≡ true → covers w before p ≡ true

covers_by : (v : SearchInput) (held : List (DeviceId × Key)) (kept : KeptCounters) (ps : List Pick) (p : Pick) (b : Bool) → CoversLaw → AdminLaw → p.position < length v.devices
    → ((k : CounterId) → placed_draws v ps k ≤ drawn_in kept k) → p.label.admin ≡ b → covers (input_at v held kept ps) ps p ≡ covered_by v (value_of kept) (drawn_in kept) p
covers_by v held kept ps p true law admin known h e = admin (input_at v held kept ps) ps p e ∙ sym (admin_covers v (value_of kept) (drawn_in kept) p e)
covers_by v held kept ps p false law admin known h e =
    let o = there v.devices p.position known in
    law (input_at v held kept ps) ps p o.0 o.1 e
    ∙ ap (λ (f : CounterId → ℕ). is_covered (value_of kept) f o.0) (drawn_now v held kept ps h)
    ∙ sym (plain_covers v (value_of kept) (drawn_in kept) p o.0 o.1 e)

pub covers_is : (v : SearchInput) (held : List (DeviceId × Key)) (kept : KeptCounters) (ps : List Pick) (p : Pick) → CoversLaw → AdminLaw → p.position < length v.devices
    → ((k : CounterId) → placed_draws v ps k ≤ drawn_in kept k) → covers (input_at v held kept ps) ps p ≡ covered_by v (value_of kept) (drawn_in kept) p
covers_is v held kept ps p law admin known h = covers_by v held kept ps p p.label.admin law admin known h refl

-- ---- what the device draws

-- the device at a position, in a list that is the node's
pub device_at : (ds es : List Offered) (i : ℕ) (o : Offered) → es ≡ ds → i < length ds → o ≡ get_or es i o → slice_get ds i ≡ Some o
device_at ds es i o e h f = got ds i o h (f ∙ ap (λ (l : List Offered). get_or l i o) e)

pub amount_plain : (v : SearchInput) (p : Pick) (k : CounterId) (o : Offered) → slice_get v.devices p.position ≡ Some o → p.label.admin ≡ false → amount k (draws v p) ≡ drawn_from k o
unfolding drawn_from
amount_plain v p k o f e = ap (λ (t : Bool). amount k (cond {A = List Draw} t [] (device_draws v p))) e ∙ ap (λ (z : Option Offered). amount k (draws_by z)) f

pub drawn_plain : (v : SearchInput) (p : Pick) (old new : CounterId → ℕ) (k : CounterId) (o : Offered) → slice_get v.devices p.position ≡ Some o → p.label.admin ≡ false → new k ≡ old k + drawn_from k o → new k ≡ old k + amount k (draws v p)
drawn_plain v p old new k o e a f = f ∙ ap (λ (n : ℕ). old k + n) (sym (amount_plain v p k o e a))

pub back_plain : (v : SearchInput) (p : Pick) (old new : CounterId → ℕ) (k : CounterId) (o : Offered) → slice_get v.devices p.position ≡ Some o → p.label.admin ≡ false → new k ≡ old k - drawn_from k o → new k ≡ old k - amount k (draws v p)
back_plain v p old new k o e a f = f ∙ ap (λ (n : ℕ). old k - n) (sym (amount_plain v p k o e a))
