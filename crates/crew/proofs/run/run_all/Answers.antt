use Rattle.std.proofs.Common.{ap, sym, ◌∙◌, length, map, sum}
use Rattle.std.specs.Vec.Iter.{into_iter_items}
use Rattle.std.proofs.lemmas.List.{length-map}
use Rattle.crew.proofs.Laned.{as_many, ready_lanes, ran_lanes, count_lanes, whole_again, enough}
use Rattle.crew.proofs.run.run_all.Goals as goal

pub fill_lanes-lanes-requires-clause-passes : goal.fill_lanes-lanes-requires-clause-passes
fill_lanes-lanes-requires-clause-passes g c κs within = as_many _ _ _ _ c.requires.ready ∙ length-map _ _

pub run_lanes-requires-clause-ready : goal.run_lanes-requires-clause-ready
run_lanes-requires-clause-ready g c κs within =
    let f = c.fill_lanes-lanes.ensures in
    ready_lanes g.J.Job.needs g.J.Job.gives (λ l. l.pass) (λ l. into_iter_items l.jobs) (λ l. l.ends.items) _ _ _ _ f.jobs f.passes c.as_mut_slice.ensures.value f.fresh c.requires.ready

pub gather-passes-requires-clause-all : goal.gather-passes-requires-clause-all
gather-passes-requires-clause-all g c κs within =
    let f = c.fill_lanes-lanes.ensures in
    let s = c.as_mut_slice.ensures in
    let r = c.run_lanes.ensures in
    let back = whole_again _ _ _ (r.len ∙ ap length s.value) (sym (ap length s.value) ∙ s.len) in
    let count = count_lanes g.J.Job.needs g.J.Job.gives (λ l. l.pass) (λ l. into_iter_items l.jobs) (λ l. l.ends.items) (λ v. v.items) _ _ _ _ _ f.jobs s.value back r.len r.ran in
    (c.in-Ok.ensures.all.0, enough _ _ _ count (c.in-Ok.ensures.all.1 ∙ ap (λ z. sum (map (λ l. length l.items) z)) c.deref.ensures.value))

pub returns-clause-ran : goal.returns-clause-ran
returns-clause-ran g c =
    let f = c.fill_lanes-lanes.ensures in
    let s = c.as_mut_slice.ensures in
    let r = c.run_lanes.ensures in
    let back = whole_again _ _ _ (r.len ∙ ap length s.value) (sym (ap length s.value) ∙ s.len) in
    ran_lanes g.J.Job.needs g.J.Job.gives (λ l. l.pass) (λ l. into_iter_items l.jobs) (λ l. l.ends.items) _ _ _ _ _ _ _ _ f.jobs f.passes s.value back c.gather-passes.ensures.passes c.gather-passes.ensures.all r.len r.ran
