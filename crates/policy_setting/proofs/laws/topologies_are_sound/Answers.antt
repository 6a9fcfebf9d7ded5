use Rattle.policy_setting.proofs.Apart.{faultless}
use Rattle.policy_setting.proofs.Lone.{sound_ports}
use Rattle.policy_setting.proofs.Mixed.{peers, together}
use Rattle.policy_setting.proofs.Numbers.{own_tags, tags, tags_small}
use Rattle.policy_setting.proofs.Placing.{once, one_cable, open_ends, same, wiring_sound}
use Rattle.policy_setting.proofs.Shortest.{ways}
use Rattle.policy_setting.proofs.laws.topologies_are_sound.Goals as goal

pub returns : goal.returns
returns c = λ plan none cut h exprs seen tables up hops.
    let f = faultless plan none in
    record {
      placing = record {
        wiring = wiring_sound plan h f;
        same = same plan exprs seen h;
        once = once plan f;
        tags = tags plan exprs seen;
        own_tags = own_tags plan;
        one_cable = one_cable plan h f;
        ways = ways plan h f cut exprs seen tables up hops;
        open_ends = open_ends plan h f;
        together = together plan h f exprs seen tables;
      };
      virtuals = sound_ports plan h f exprs seen tables up hops;
      peers = peers plan h f exprs seen;
      tags = tags_small plan none;
    }
