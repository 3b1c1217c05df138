use Rattle.std.proofs.Common.{◌≡◌, ◌+◌, length, ap, sym, subst, ◌∙◌, arith, ℕ, List}
use Rattle.ckpt_journal.specs.Format.{blocks}
use Rattle.ckpt_journal.specs.Table.{IsTable, compact, row_after}
use Rattle.ckpt_journal.specs.declared.record.Row.{Row}
use Rattle.ckpt_journal.proofs.Keeping.{keeps}
use Rattle.ckpt_journal.proofs.Planning.{append_moments, append_settled, append_stopped, plan_reached, plan_sized, plan_used, plan_within, settled_as, settled_long}
use Rattle.ckpt_journal.proofs.Tables.{table_after}
use Rattle.ckpt_journal.proofs.state.Journal.add.Goals as goal

pub carry_out-requires-clause-within : goal.carry_out-requires-clause-within
carry_out-requires-clause-within g c = settled_long c.args.self.now.rows.items c.args.self.now.halves c.args.self.now.end _ (c.args.self.now.kept c.requires.going)

pub carry_out-requires-clause-gate : goal.carry_out-requires-clause-gate
carry_out-requires-clause-gate g c =
    plan_reached c.args.self.now.halves c.args.self.now.end c.args.self.now.rows.items c.args.item.now c.args.plan.now c.requires.plan c.args.self.now.sized (g.D.Disk.content c.args.self.now.disk) (c.args.self.now.kept c.requires.going)

pub invariant_of-self : goal.invariant_of-self
invariant_of-self g c =
    let rows = c.args.self.now.rows.items in
    let h = c.args.self.now.halves in
    let end = c.args.self.now.end in
    let item = c.args.item.now in
    let p = c.args.plan.now in
    let plan = c.requires.plan in
    let x = g.D.Disk.content c.args.self.now.disk in
    let z = g.D.Disk.content c.carry_out.new.disk in
    let fits = c.requires.fits in
    let sized = c.args.self.now.sized in
    let now : row_after rows item ≡ c.take_in.new.rows.items = sym (c.take_in.ensures ∙ ap (row_after rows) c.requires.kept) in
    let len : length p.bytes.items ≡ c.len.result = omega (arith, c.len.ensures) in
    let size : length (blocks (compact (row_after rows item))) ≡ length (blocks (compact c.take_in.new.rows.items)) = ap (λ (t : List Row). length (blocks (compact t))) now in
    record {
      kept = λ going.
          settled_as p.halves (row_after rows item) c.take_in.new.rows.items (p.gate + length p.bytes.items) (p.gate + c.len.result) z now (ap (λ (n : ℕ). p.gate + n) len)
          (append_settled rows h end item p x (c.args.self.now.kept c.requires.going) plan fits c.args.self.now.tabled c.args.self.now.used c.args.self.now.within z c.in-Ok.ensures.ok);
      sized = plan_sized h end rows item p plan sized;
      tabled = subst IsTable now (table_after rows item fits c.args.self.now.tabled);
      used = omega (arith, plan_used h end rows item p plan sized c.args.self.now.used, size, len);
      within = omega (arith, plan_within h end rows item p plan sized, len);
    }

pub returns-in-Ok-clause-any_moment : goal.returns-in-Ok-clause-any_moment
returns-in-Ok-clause-any_moment g c =
    append_moments c.args.self.now.rows.items c.args.self.now.halves c.args.self.now.end c.args.item.now c.args.plan.now (g.D.Disk.content c.args.self.now.disk) (c.args.self.now.kept c.requires.going) c.requires.plan c.requires.fits c.args.self.now.tabled c.args.self.now.used
    c.args.self.now.within _ c.in-Ok.ensures.ok

pub returns-in-Ok-clause-acknowledged : goal.returns-in-Ok-clause-acknowledged
returns-in-Ok-clause-acknowledged g c =
    let rows = c.args.self.now.rows.items in
    let p = c.args.plan.now in
    let z = g.D.Disk.content c.carry_out.new.disk in
    keeps (row_after rows c.args.item.now) p.halves (p.gate + length p.bytes.items) z
    (append_settled rows c.args.self.now.halves c.args.self.now.end c.args.item.now p (g.D.Disk.content c.args.self.now.disk) (c.args.self.now.kept c.requires.going) c.requires.plan c.requires.fits c.args.self.now.tabled c.args.self.now.used c.args.self.now.within z c.in-Ok.ensures.ok)

pub returns-in-Err-clause-any_moment : goal.returns-in-Err-clause-any_moment
returns-in-Err-clause-any_moment g c =
    append_stopped c.args.self.now.rows.items c.args.self.now.halves c.args.self.now.end c.args.item.now c.args.plan.now (g.D.Disk.content c.args.self.now.disk) (c.args.self.now.kept c.requires.going) c.requires.plan c.requires.fits c.args.self.now.tabled c.args.self.now.used
    c.args.self.now.within _ c.in-Err.ensures.err
