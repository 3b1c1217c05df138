-- Which devices are tolerated, by their flags.
use Rattle.std.proofs.Common.{ℕ, zero, suc, ◌≡◌, List, [], ◌∷◌, Bool, true, false, ◌||◌, cond, Option, None, Some, map, refl, sym, ap, ◌∙◌}
use Rattle.std.specs.List.{slice_get, list_any}
use Rattle.std.specs.Prelude.{option_map}
use Rattle.std.proofs.lemmas.Option.{slice_get-map}
use Rattle.api_claim.specs.declared.types.DeviceAsk.{DeviceAsk}
use Rattle.device_taints.specs.Tolerating.{are_tolerated}
use Rattle.device_taints.specs.declared.types.Taint.{Taint}
use Rattle.device_taints.specs.declared.types.Toleration.{Toleration}
use Rattle.pool_view.specs.Pools.{Offered}
use Rattle.request_rules.specs.Asked.{tolerated_at, tolerated_by}
use Rattle.request_rules.specs.Input.{SearchInput}
use Rattle.request_rows.specs.Taints.{flag_got, has_any, if_tainted, is_tainted, tolerates_device}

nor : (a b : Bool) → (a || b) ≡ false → (a ≡ false) × (b ≡ false)
nor true b e = absurd (cc)
nor false b e = (refl, e)

no_taints : (ks : List Toleration) (ts : List Taint) → has_any ts ≡ false → are_tolerated ks ts ≡ true
no_taints ks [] e = refl
no_taints ks (t ∷ ts) e = absurd (cc)

-- if no device has a taint, each is tolerated
untainted : (a : DeviceAsk) (os : List Offered) (x : ℕ) → list_any is_tainted os ≡ false → tolerated_by a (slice_get os x) ≡ true
untainted a [] x e = refl
untainted a (o ∷ os) zero e = no_taints a.tolerations o.device.taints (nor (is_tainted o) (list_any is_tainted os) e).0
untainted a (o ∷ os) (suc x) e = untainted a os x (nor (is_tainted o) (list_any is_tainted os) e).1

flag_by : (a : DeviceAsk) (o : Option Offered) → flag_got (option_map (tolerates_device a) o) ≡ tolerated_by a o
flag_by a None = refl
flag_by a (Some o) = refl

flag_cases : (a : DeviceAsk) (os : List Offered) (x : ℕ) (b : Bool) → list_any is_tainted os ≡ b → flag_got (slice_get (map (tolerates_device a) (cond b os [])) x) ≡ tolerated_by a (slice_get os x)
flag_cases a os x true e = ap flag_got (slice_get-map (tolerates_device a) os x) ∙ flag_by a (slice_get os x)
flag_cases a os x false e = sym (untainted a os x e)

pub flag_is : (w : SearchInput) (a : DeviceAsk) (x : ℕ) → flag_got (slice_get (map (tolerates_device a) (if_tainted w.devices)) x) ≡ tolerated_at w a x
unfolding tolerated_at
flag_is w a x = flag_cases a w.devices x (list_any is_tainted w.devices) refl
