-- What a plan to add a record, once it is carried out, leaves of a journal.
use Rattle.std.proofs.Common.{◌≡◌, ◌≢◌, ◌⊎◌, inl, inr, ℕ, ◌+◌, ◌-◌, ◌*◌, ◌<◌, ◌≤◌, ◌^◌, Bool, true, false, IfSome, List, [], ◌∷◌, ◌++◌, length, Option, Some, None, refl, sym, ◌∙◌, ap, subst, arith, length-append, if◌then◌else◌}
use Rattle.std.specs.Prelude.{Vec}
use Rattle.std.specs.Option.{option_map}
use Rattle.std.specs.declared.alloc.Global.{Global}
use Rattle.dra_ports.specs.DiskContent.{Content}
use Rattle.dra_ports.specs.DiskImages.{AtEachMoment}
use Rattle.ckpt_journal.specs.Format.{Fits, block, blocks}
use Rattle.ckpt_journal.specs.Layout.{IsSized, is_half, other_half, start_of}
use Rattle.ckpt_journal.specs.Planned.{IsPlaced, IsPlan, IsReached, bytes_in, reaches, steps_of}
use Rattle.ckpt_journal.specs.Standing.{IsBeforeOrAfter, IsSettled, recorded}
use Rattle.ckpt_journal.specs.Steps.{StoppedIn, all_done}
use Rattle.ckpt_journal.specs.Table.{IsTable, compact, row_after}
use Rattle.ckpt_journal.specs.declared.layout.Halves.{Halves}
use Rattle.ckpt_journal.specs.declared.plan.Plan.{Plan}
use Rattle.ckpt_journal.specs.declared.record.Record.{Record}
use Rattle.ckpt_journal.specs.declared.record.Row.{Row}
use Rattle.ckpt_journal.proofs.Keeping.{carry_moments, carry_settled, carry_stopped, plan_carried}
use Rattle.ckpt_journal.proofs.LaidOut.{fronted}
use Rattle.ckpt_journal.proofs.Tables.{size_after}

start_least : (h : Halves) → start_of h ≤ h.base + 5 + h.half
start_least h = go h.second h.half
  where
    go : (b : Bool) (n : ℕ) → h.base + 5 + (if b then n else 0) ≤ h.base + 5 + n
    go true n = omega arith
    go false n = omega arith

-- the halves of a plan have the same base and size
same_sizes : (h new : Halves) (end gate : ℕ) (rows : List Row) (o : Option (List ℕ)) → IsPlaced h end rows new gate o → (new.base ≡ h.base) × (new.half ≡ h.half)
same_sizes h new end gate rows None p = (ap (λ (x : Halves). x.base) p.0, ap (λ (x : Halves). x.half) p.0)
same_sizes h new end gate rows (Some t) p = (ap (λ (x : Halves). x.base) p.1, ap (λ (x : Halves). x.half) p.1)

gate_after_table : (h new : Halves) (end gate : ℕ) (rows : List Row) (o : Option (List ℕ)) → IsPlaced h end rows new gate o → start_of h + length (blocks (compact rows)) ≤ end → start_of new + length (blocks (compact rows)) ≤ gate
gate_after_table h new end gate rows None p used = omega (arith, ap start_of p.0, p.1, used)
gate_after_table h new end gate rows (Some t) p used = omega (arith, ap start_of p.1, p.2)

reached : (h new : Halves) (end gate len : ℕ) (rows : List Row) (o : Option (List ℕ)) → IsPlaced h end rows new gate o → end < len → reaches h gate len o
reached h new end gate len rows None p lt = omega (arith, p.1, lt)
reached h new end gate len rows (Some t) p lt = omega (arith, p.2, ap length p.0, length-append (blocks (compact rows)) (0 ∷ []))

module _ (h : Halves) (end : ℕ) (rows : List Row) (item : Record) (p : Plan) (plan : IsPlan h end rows item p) (sized : IsSized h) where
  pub plan_sized : IsSized p.halves
  plan_sized =
      let same = same_sizes h p.halves end p.gate rows (bytes_in p.table) plan.placed in
      record {
        base = omega (arith, same.0, sized.base);
        small = omega (arith, same.0, sized.small);
        half = ap is_half same.1 ∙ sized.half;
        most = omega (arith, same.1, sized.most);
      }

  pub plan_half : p.halves.half ≡ h.half
  plan_half = (same_sizes h p.halves end p.gate rows (bytes_in p.table) plan.placed).1

  pub plan_used : start_of h + length (blocks (compact rows)) ≤ end → start_of p.halves + length (blocks (compact (row_after rows item))) ≤ p.gate + length p.bytes.items
  plan_used used =
      omega (arith, gate_after_table h p.halves end p.gate rows (bytes_in p.table) plan.placed used, size_after rows item, ap length plan.bytes, length-append (block item) (0 ∷ []))

  pub plan_within : p.gate + length p.bytes.items < start_of p.halves + p.halves.half
  plan_within = omega (arith, plan.room, plan_half)

  -- the next gate and what is written are within what a disk may have
  pub plan_small : p.gate + length p.bytes.items < 2 ^ 63
  plan_small = omega (arith, plan.room, start_least p.halves, same_sizes h p.halves end p.gate rows (bytes_in p.table) plan.placed, sized.small, sized.most)

  pub plan_reached : (x : Option Content) → IfSome x (IsSettled (recorded x) rows h end) → IfSome x (λ c. IsReached h p (length c.bytes))
  plan_reached None kept = tt
  plan_reached (Some c) kept = reached h p.halves end p.gate (length c.bytes) rows (bytes_in p.table) plan.placed kept.1

  pub plan_room : p.gate + 1 < 2 ^ 64
  plan_room = omega (arith, plan_small, ap length plan.bytes, length-append (block item) (0 ∷ []))

pub settled_long : (rows : List Row) (h : Halves) (end : ℕ) (x : Option Content) → IfSome x (IsSettled (recorded x) rows h end) → IfSome x (λ c. h.base + h.half + 6 ≤ length c.bytes)
settled_long rows h end None kept = tt
settled_long rows h end (Some c) kept = (fronted h c.bytes kept.0).long

module _ (rows : List Row) (h : Halves) (end : ℕ) (item : Record) (p : Plan) (x : Option Content) (kept : IfSome x (IsSettled (recorded x) rows h end)) (plan : IsPlan h end rows item p) (fits : Fits item) (is_table : IsTable rows)
    (used : start_of h + length (blocks (compact rows)) ≤ end) (within : end < start_of h + h.half) where
  pub append_settled : (z : Option Content) → z ≡ option_map (all_done (steps_of h p)) x → IfSome z (IsSettled (recorded z) (row_after rows item) p.halves (p.gate + length p.bytes.items))
  append_settled z is =
      carry_settled (IsBeforeOrAfter rows item) (row_after rows item) p.halves (p.gate + length p.bytes.items) (steps_of h p) x z
      (plan_carried rows h p.halves end p.gate item p.bytes.items (bytes_in p.table) x kept fits is_table (omega (arith, used, within)) plan.bytes plan.placed plan.room) is

  pub append_moments : (z : Option Content) → z ≡ option_map (all_done (steps_of h p)) x → AtEachMoment (IsBeforeOrAfter rows item) x z
  append_moments z is =
      carry_moments (IsBeforeOrAfter rows item) (row_after rows item) p.halves (p.gate + length p.bytes.items) (steps_of h p) x z
      (plan_carried rows h p.halves end p.gate item p.bytes.items (bytes_in p.table) x kept fits is_table (omega (arith, used, within)) plan.bytes plan.placed plan.room) is

  pub append_stopped : (z : Option Content) → StoppedIn (steps_of h p) x z → AtEachMoment (IsBeforeOrAfter rows item) x z
  append_stopped z stop =
      carry_stopped (IsBeforeOrAfter rows item) (row_after rows item) p.halves (p.gate + length p.bytes.items) (steps_of h p) x z
      (plan_carried rows h p.halves end p.gate item p.bytes.items (bytes_in p.table) x kept fits is_table (omega (arith, used, within)) plan.bytes plan.placed plan.room) stop

pub settled_as : (h : Halves) (rows now : List Row) (end place : ℕ) (z : Option Content) → rows ≡ now → end ≡ place → IfSome z (IsSettled (recorded z) rows h end) → IfSome z (IsSettled (recorded z) now h place)
settled_as h rows now end place z is same s = subst (λ (n : ℕ). IfSome z (IsSettled (recorded z) now h n)) same (subst (λ (t : List Row). IfSome z (IsSettled (recorded z) t h end)) is s)
