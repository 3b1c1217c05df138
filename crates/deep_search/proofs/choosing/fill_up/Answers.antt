use Rattle.std.proofs.Common.{◌++◌, ◌-◌, ◌∙◌, vec_len, rules, ap}
use Rattle.deep_search.specs.Choices.{zeros}
use Rattle.deep_search.proofs.Turning.{zeros-more}
use Rattle.deep_search.proofs.choosing.fill_up.Goals as goal

pub loop-choice-preserved : goal.loop-choice-preserved
loop-choice-preserved c =
    ap (λ n. c.push.new.self.items ++ zeros (c.args.count - n)) c.in_ok-push.ensures.len
    ∙ zeros-more c.loop-choice.choice.items c.push.new.self.items (c.args.choice.now.items ++ zeros (c.args.count - vec_len c.args.choice.now)) c.args.count (vec_len c.loop-choice.choice)
    (search rules) c.in_ok-push.ensures.items c.loop-choice.invariant
