use Rattle.std.proofs.Common.{◌++◌, List, subst}
use Rattle.std.proofs.lemmas.Result.{IfOk-weaker}
use Rattle.pool_view.specs.declared.known.KnownList.{KnownList}
use Rattle.pool_view.specs.Known.{AddsList, AddsOnly, IsListOf}
use Rattle.pool_view.proofs.Learned.{adds_new, adds_put}
use Rattle.pool_view.proofs.learning.with_found.Goals as goal

pub returns-in_ok-put_name-in-Some : goal.returns-in_ok-put_name-in-Some
returns-in_ok-put_name-in-Some c =
    adds_put (c.args.class.now ++ c.args.own.now) c.args.name c.args.sure c.args.known.items c.in-Some.at c.index_mut.result.now c.put_name.new.list
    (subst (λ (known : List KnownList). IsListOf known (c.args.class.now ++ c.args.own.now) c.in-Some.at) c.deref.ensures.value c.in-Some.ensures) c.index_mut.ensures.value c.in_ok-put_name-in-Some.ensures

pub returns-in_ok-list-in-None : goal.returns-in_ok-list-in-None
returns-in_ok-list-in-None c =
    IfOk-weaker c.with_list.result (λ kept. AddsList c.in_ok-list-in-None.list c.args.known.items kept.items) (λ kept. AddsOnly (c.args.class.now ++ c.args.own.now) c.args.name c.args.sure c.args.known.items kept.items)
    (λ kept adds. adds_new (c.args.class.now ++ c.args.own.now) c.args.name c.args.sure c.in_ok-list-in-None.list c.args.known.items kept.items c.in_ok-list-in-None.ensures adds) c.with_list.ensures
