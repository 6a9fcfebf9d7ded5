use Rattle.std.proofs.Common.{◌<◌, ◌≡◌, ◌↔◌, IfSome, IsSome, length, slice_get, subst, arith}
use Rattle.of10_actions.specs.declared.effects.PortView.{PortView}
use Rattle.policies.specs.Policies.{PolicyOf}
use Rattle.machine_drafts.proofs.Found.{as_many_ports, copied_each, copied_some, ports_found, some_copied, some_within}
use Rattle.machine_drafts.proofs.Found.{within_some}
use Rattle.machine_meaning.specs.Names.{all_ports}
use Rattle.machine_drafts.proofs.setup.Setup.all_ports.Goals as goal

pub returns-clause-ports : goal.returns-clause-ports
returns-clause-ports c =
    let p = c.self.inside.policy in
    let ports = c.self.inside.ports in
    let found = copied_each (λ (y : PortView). y ≡ all_ports p c.args.v) c.get.result (slice_get ports c.args.v)
    c.get.ensures.value (ports_found p ports c.args.v c.self.invariant.ports_are) in
    subst (λ (q : PolicyOf). IfSome c.get.result (λ y. y.now ≡ all_ports q c.args.v)) c.self.view_is found

pub returns-clause-there : goal.returns-clause-there
returns-clause-there c =
    let p = c.self.inside.policy in
    let ports = c.self.inside.ports in
    let v = c.args.v in
    let many : length ports ≡ length p.virtuals = as_many_ports p.virtuals ports c.self.invariant.ports_are in
    subst (λ (q : PolicyOf). IsSome c.get.result ↔ (v < length q.virtuals)) c.self.view_is (
      λ s. (let w = some_within ports v (some_copied c.get.result (slice_get ports v) c.get.ensures.value s) in
          omega arith),
      λ lt. copied_some c.get.result (slice_get ports v) c.get.ensures.value (within_some ports v (omega arith)),
    )
