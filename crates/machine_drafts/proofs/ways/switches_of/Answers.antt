use Rattle.std.proofs.Common.{◌∙◌}
use Rattle.machine_meaning.specs.Ways.{switches_by}
use Rattle.machine_drafts.proofs.ways.switches_of.Goals as goal

pub returns : goal.returns
returns c =
    let t = c.args.topology.now in
    c.in_ok-switches.ensures ∙ (λ i. switches_by t (c.requires i) ((c.as_slice.ensures ∙ c.in_ok-group.ensures) i)
    c.args.v)
