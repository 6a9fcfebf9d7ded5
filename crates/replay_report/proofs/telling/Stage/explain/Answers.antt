use Rattle.std.proofs.Common.{◌≡◌, ◌++◌, ℕ, Bool, true, false, List, Option, Some, None, refl, sym, ap, ◌∙◌}
use Rattle.std.specs.Prelude.{option_map}
use Rattle.machine_drafts.specs.Machines.{state_of}
use Rattle.packet_map.specs.Networks.{network_of}
use Rattle.replay_report.proofs.Asked.{not_asked, was_asked}
use Rattle.replay_report.proofs.telling.Stage.explain.Goals as goal

-- src/telling.rt:161:13
pub returns-in_default-clause-asks : goal.returns-in_default-clause-asks
returns-in_default-clause-asks c =
    let self = c.args.self.now in
    not_asked self.machine.plan (state_of self.machine) c.args.switch.now c.args.port c.args.bytes.now self.report
    c.topology.result.now c.topology.ensures (sym c.in_default.is ∙ c.find_entrance.ensures)

-- src/telling.rt:175:9
pub returns-clause-asks : goal.returns-clause-asks
returns-clause-asks c =
    let self = c.args.self.now in
    let w = c.world-world.result in
    was_asked self.machine.plan (state_of self.machine) c.args.switch.now c.args.port c.args.bytes.now self.report
    c.say_findings.new.report c.in-Some.at c.topology.result.now w.topology.now (network_of w) w.hops
    (option_map (λ entries. entries.now) c.rows_of.result) c.as_slice.result.now c.policy.result.now
    c.topology.ensures (sym c.in-Some.is ∙ c.find_entrance.ensures) c.world-world.ensures.topology
    c.world-world.ensures.network c.world-world.ensures.hops (c.rows_of.ensures ∙ c.in_ok-standing.ensures)
    (c.as_slice.ensures ∙ c.in_ok-found.ensures) c.policy.ensures.policy c.in_ok-say_findings.ensures
