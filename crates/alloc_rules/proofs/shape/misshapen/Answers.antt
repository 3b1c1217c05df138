use Rattle.std.proofs.Common.{rules, ◌∙◌, ap, length, option_copied, subst, sym}
use Rattle.request_rows.specs.Wanted.{input_of}
use Rattle.alloc_rules.proofs.Lists.{got_at}
use Rattle.alloc_rules.proofs.Granting.{GrantedSoFar, granted_none, until_dues, until_granted, until_on_node, until_ways}
use Rattle.alloc_rules.proofs.shape.misshapen.Goals as goal

pub loop-place-init : goal.loop-place-init
loop-place-init c =
    subst (λ claims. GrantedSoFar (input_of c.args.rows.now) c.args.view.now.devices c.args.grants.now c.args.named.now c.args.dues.now.items 0 claims c.args.grants.now) (sym c.requires.claims)
    (granted_none (input_of c.args.rows.now) c.args.view.now.devices c.args.grants.now c.args.named.now c.args.dues.now.items c.requires.choice c.requires.first c.requires.none c.requires.on_node)

pub is_granted-requires-clause-ways : goal.is_granted-requires-clause-ways
is_granted-requires-clause-ways c = until_ways (input_of c.args.rows.now) c.args.view.now.devices c.args.grants.now c.args.claims.now c.loop-place.named c.loop-place.dues.items c.loop-place.place c.index-claims-place.result c.loop-place-test.true c.index-claims-place.is c.loop-place.invariant

pub is_granted-requires-clause-on_node : goal.is_granted-requires-clause-on_node
is_granted-requires-clause-on_node c = until_on_node (input_of c.args.rows.now) c.args.view.now.devices c.args.grants.now c.args.claims.now c.loop-place.named c.loop-place.dues.items c.loop-place.place c.in-Some.grant.now (sym (got_at c.args.grants.now c.loop-place.place c.get.result c.get.ensures.lookup.3) ∙ ap option_copied c.in-Some.is) c.loop-place.invariant

pub loop-place-preserved : goal.loop-place-preserved
loop-place-preserved c =
    until_granted (input_of c.args.rows.now) c.args.view.now.devices c.args.grants.now c.args.claims.now c.loop-place.named c.is_granted.new.named c.loop-place.dues.items c.is_granted.new.dues.items c.loop-place.place c.index-claims-place.result c.in-Some.grant.now c.loop-place-test.true c.index-claims-place.is (sym (got_at c.args.grants.now c.loop-place.place c.get.result c.get.ensures.lookup.3) ∙ ap option_copied c.in-Some.is)
    (sym c.if-not-branch.false ∙ c.in_ok-is_granted-in-Some.ensures.granted) (c.in_ok-is_granted-in-Some.ensures.named c.if-not-branch.false) (c.in_ok-is_granted-in-Some.ensures.dues c.if-not-branch.false) c.loop-place.invariant

pub returns-in-None-get-clause-dues : goal.returns-in-None-get-clause-dues
returns-in-None-get-clause-dues c = λ t. until_dues (input_of c.args.rows.now) c.args.view.now.devices c.args.grants.now c.args.claims.now c.loop-place.named c.loop-place.dues.items c.loop-place.place (search rules) (sym (got_at c.args.grants.now (length c.args.claims.now) c.get-2.result c.get-2.ensures.lookup.3) ∙ ap option_copied c.in-None-get.is) c.loop-place.invariant
