use Rattle.std.proofs.Common.{◌≡◌, ◌*◌, ◌+◌, ◌-◌, ◌≤◌, length, ap, sym, ◌∙◌, arith, refl, ℕ, List}
use Rattle.ckpt_journal.specs.Format.{blocks}
use Rattle.ckpt_journal.specs.Layout.{start_of}
use Rattle.ckpt_journal.specs.Plan.{table_bytes}
use Rattle.ckpt_journal.specs.Standing.{HasTable}
use Rattle.ckpt_journal.specs.Table.{compact}
use Rattle.ckpt_journal.proofs.Halved.{first}
use Rattle.ckpt_journal.proofs.Keeping.{carry_moments, carry_settled, carry_stopped, old_rest}
use Rattle.ckpt_journal.proofs.Opens.{length-table, moved_carried, size_fits, size_is_half, size_small, table_short}
use Rattle.ckpt_journal.proofs.opening.move_over.Goals as goal

pub returns-in_err-table-clause-any_moment : goal.returns-in_err-table-clause-any_moment
returns-in_err-table-clause-any_moment g c = old_rest c.args.rows.items c.args.base _ c.requires.told c.requires.base.1

pub overflow_cast-half : goal.overflow_cast-half
overflow_cast-half g c = let small : c.half_for-half.result ≤ 134217728 = size_small c.half_for-half.result c.from.result c.len.result c.half_for-half.ensures in omega (arith, small)

pub halves_of-requires : goal.halves_of-requires
halves_of-requires g c =
    let t = c.in_ok-table.table.items in
    let t_is : t ≡ table_bytes c.args.rows.items = c.in_ok-table.ensures ∙ ap table_bytes c.deref.ensures.value in
    let fit : 2 * length t ≤ c.half_for-half.result = size_fits c.half_for-half.result c.from.result c.len.result (length t) c.half_for-half.ensures (omega (arith, c.len.ensures)) (table_short c.args.rows.items t c.args.base t_is c.requires.used c.requires.base.1) in
    omega (arith, fit, ap length c.deref-2.ensures.value)

pub returns-in_err-bytes-clause-any_moment : goal.returns-in_err-bytes-clause-any_moment
returns-in_err-bytes-clause-any_moment g c = old_rest c.args.rows.items c.args.base _ c.requires.told c.requires.base.1

pub returns-in_err-move_to-clause-any_moment : goal.returns-in_err-move_to-clause-any_moment
returns-in_err-move_to-clause-any_moment g c =
    let rows = c.args.rows.items in
    let half = c.half_for-half.result in
    let end = start_of (first c.args.base half) + length (blocks (compact rows)) in
    let t = c.in_ok-table.table.items in
    let t_is : t ≡ table_bytes rows = c.in_ok-table.ensures ∙ ap table_bytes c.deref.ensures.value in
    let fit : 2 * length t ≤ half = size_fits c.half_for-half.result c.from.result c.len.result (length t) c.half_for-half.ensures (omega (arith, c.len.ensures)) (table_short rows t c.args.base t_is c.requires.used c.requires.base.1) in
    let fit_now : 2 * length c.deref-2.result.now ≤ half = omega (arith, fit, ap length c.deref-2.ensures.value) in
    let k = moved_carried rows c.args.base half end c.deref-2.result.now c.deref-3.result.now (g.D.Disk.content c.args.disk.now) c.requires.told c.requires.rows (c.deref-2.ensures.value ∙ t_is) (c.deref-3.ensures.value ∙ c.in_ok-bytes.ensures) c.requires.base
    (size_is_half c.half_for-half.result c.from.result c.len.result c.half_for-half.ensures) (size_small c.half_for-half.result c.from.result c.len.result c.half_for-half.ensures) fit_now refl in
    carry_stopped (HasTable rows) rows (first c.args.base half) end _ _ _ k c.in_err-move_to.ensures.err

pub returns-clause-any_moment : goal.returns-clause-any_moment
returns-clause-any_moment g c =
    let rows = c.args.rows.items in
    let half = c.half_for-half.result in
    let end = start_of (first c.args.base half) + length (blocks (compact rows)) in
    let t = c.in_ok-table.table.items in
    let t_is : t ≡ table_bytes rows = c.in_ok-table.ensures ∙ ap table_bytes c.deref.ensures.value in
    let fit : 2 * length t ≤ half = size_fits c.half_for-half.result c.from.result c.len.result (length t) c.half_for-half.ensures (omega (arith, c.len.ensures)) (table_short rows t c.args.base t_is c.requires.used c.requires.base.1) in
    let fit_now : 2 * length c.deref-2.result.now ≤ half = omega (arith, fit, ap length c.deref-2.ensures.value) in
    let k = moved_carried rows c.args.base half end c.deref-2.result.now c.deref-3.result.now (g.D.Disk.content c.args.disk.now) c.requires.told c.requires.rows (c.deref-2.ensures.value ∙ t_is) (c.deref-3.ensures.value ∙ c.in_ok-bytes.ensures) c.requires.base
    (size_is_half c.half_for-half.result c.from.result c.len.result c.half_for-half.ensures) (size_small c.half_for-half.result c.from.result c.len.result c.half_for-half.ensures) fit_now refl in
    carry_moments (HasTable rows) rows (first c.args.base half) end _ _ _ k c.in_ok-move_to.ensures.ok

pub returns-clause-settled : goal.returns-clause-settled
returns-clause-settled g c =
    let rows = c.args.rows.items in
    let half = c.half_for-half.result in
    let t = c.in_ok-table.table.items in
    let t_is : t ≡ table_bytes rows = c.in_ok-table.ensures ∙ ap table_bytes c.deref.ensures.value in
    let fit : 2 * length t ≤ half = size_fits c.half_for-half.result c.from.result c.len.result (length t) c.half_for-half.ensures (omega (arith, c.len.ensures)) (table_short rows t c.args.base t_is c.requires.used c.requires.base.1) in
    let fit_now : 2 * length c.deref-2.result.now ≤ half = omega (arith, fit, ap length c.deref-2.ensures.value) in
    let place : c.args.base + 5 + (c.len-2.result - 1) ≡ start_of (first c.args.base half) + length (blocks (compact rows)) = omega (arith, c.len-2.ensures, length-table rows t t_is) in
    let k = moved_carried rows c.args.base half _ c.deref-2.result.now c.deref-3.result.now (g.D.Disk.content c.args.disk.now) c.requires.told c.requires.rows (c.deref-2.ensures.value ∙ t_is) (c.deref-3.ensures.value ∙ c.in_ok-bytes.ensures) c.requires.base
    (size_is_half c.half_for-half.result c.from.result c.len.result c.half_for-half.ensures) (size_small c.half_for-half.result c.from.result c.len.result c.half_for-half.ensures) fit_now place in
    carry_settled (HasTable rows) rows (first c.args.base half) _ _ _ _ k c.in_ok-move_to.ensures.ok

pub returns-clause-opened : goal.returns-clause-opened
returns-clause-opened g c =
    let rows = c.args.rows.items in
    let half = c.half_for-half.result in
    let t = c.in_ok-table.table.items in
    let t_is : t ≡ table_bytes rows = c.in_ok-table.ensures ∙ ap table_bytes c.deref.ensures.value in
    let fit : 2 * length t ≤ half = size_fits c.half_for-half.result c.from.result c.len.result (length t) c.half_for-half.ensures (omega (arith, c.len.ensures)) (table_short rows t c.args.base t_is c.requires.used c.requires.base.1) in
    let len : length t ≡ length (blocks (compact rows)) + 1 = length-table rows t t_is in
    let small : half ≤ 134217728 = size_small c.half_for-half.result c.from.result c.len.result c.half_for-half.ensures in
    record {
      kept = refl;
      sized = record { base = omega (arith, c.requires.base.0); small = omega (arith, c.requires.base.1); half = size_is_half c.half_for-half.result c.from.result c.len.result c.half_for-half.ensures; most = small };
      tabled = c.requires.rows;
      used = omega (arith, c.len-2.ensures, len);
      within = omega (arith, c.len-2.ensures, len, fit);
    }
