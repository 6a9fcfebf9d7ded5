use Rattle.std.proofs.Common.{◌≡◌, ◌++◌, ◌+◌, ◌≤◌, take}
use Rattle.std.specs.Prelude.{count_by, filter_map}
use Rattle.hop_rules.specs.Nodes.{arrival, hop_way, leads_over}
use Rattle.hop_rules.specs.Under.{under}
use Rattle.hop_rules.proofs.meeting.add_each_met.Given as goal

abbrev pub invariant-loop-id : goal.invariant-loop-id
invariant-loop-id g l = record {
  made : l.fresh.items ≡ l.fn.fresh.items ++ filter_map
      (λ h. (hop_way l.around.at l.around.size l.around.given.now.exits).pair h
      (arrival l.place (record { id = l.there.id; item = l.there.rule.now })))
      (under l.around.given.now.rules (take l.id-index l.ids));
  steps : l.steps ≤ l.fn.steps + count_by (leads_over l.around.at l.around.given.now.exits l.place)
      (under l.around.given.now.rules (take l.id-index l.ids));
}
