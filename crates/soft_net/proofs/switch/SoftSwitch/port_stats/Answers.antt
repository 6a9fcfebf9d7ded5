use Rattle.std.proofs.Common.{◌≡◌, ◌∙◌, ap, ap₂, sym, map, filter, rules, ◌++◌}
use Rattle.std.specs.Map.Iter.{deref}
use Rattle.std.specs.BTreeMap.{values}
use Rattle.std.proofs.lemmas.Map.Iter.{iter_end}
use Rattle.soft_net.specs.Answers.{is_asked}
use Rattle.soft_net.proofs.Selected.{filter_pushed}
use Rattle.soft_net.proofs.switch.SoftSwitch.port_stats.Goals as goal

pub loop-stat-preserved : goal.loop-stat-preserved
loop-stat-preserved c =
    c.in_ok-push_some.ensures.pushed ∙ (ap₂ (λ a b. a ++ b) c.loop-stat.invariant c.asked.ensures
    ∙ sym (filter_pushed (is_asked c.args.port_no) deref c.loop-stat.yielded c.in-Some.stat))

pub returns : goal.returns
returns c =
    let e : map deref c.loop-stat.yielded ≡ values c.args.self.now.ports = search (rules, iter_end) in
    c.loop-stat.invariant ∙ ap (filter (is_asked c.args.port_no)) e
