use Rattle.policy_setting.proofs.laws.settings_are_sound.Goals as goal

pub returns : goal.returns
returns c = λ s topology tables hops sizes. record {
  network = record { switches = tables.switches; peers = topology.peers };
  virtuals = λ v x e.
      let p = topology.virtuals v x e in
      record {
        distinct = p.distinct;
        within = tables.within v x e;
        unlinked = p.unlinked;
        whole = λ w.
            let l = p.whole w in
            record { links = l.links; lone = l.lone; bare = l.bare; alone = l.alone; names = tables.names v x e w };
      };
  placing = topology.placing;
  hops = hops;
  sizes = sizes;
}
