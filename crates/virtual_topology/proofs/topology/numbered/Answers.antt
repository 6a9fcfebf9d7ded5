use Rattle.std.proofs.Common.{◌∙◌, ap}
use Rattle.virtual_topology.specs.Made.{standings_of}
use Rattle.virtual_topology.specs.Wires.{both_ways, cable_joints, turned}
use Rattle.virtual_topology.proofs.topology.numbered.Goals as goal

pub invariant_of-result : goal.invariant_of-result
invariant_of-result c =
    rw c.in_ok-copy.ensures (record {
      sound = c.requires.sound;
      outside_is = c.in_ok-of.ensures ∙ c.requires.outside;
      entering_is = c.in_ok-turned_rows.ensures ∙ ap turned (c.deref-3.ensures.value ∙ c.requires.outside);
      peers_is = c.in_ok-rows_both_ways.ensures ∙ ap both_ways c.requires.links;
      far_ends_is = c.in_ok-of-2.ensures ∙ c.in_ok-ways.ensures;
      standings_is = c.from_vec.ensures
          ∙ (c.in_ok-standings.ensures (cable_joints c.args.plan.now) (c.deref.ensures.value ∙ c.in_ok-ways.ensures)
          ∙ (λ i. standings_of (c.requires.known i) (cable_joints c.args.plan.now)
          ((c.deref-2.ensures.value ∙ c.requires.outside) i) (c.as_slice.ensures i)));
    })
