use Rattle.hop_rules.proofs.Shown.{hidden}
use Rattle.hop_rules.proofs.listing.hide_one.Goals as goal

pub returns-clause-items : goal.returns-clause-items
returns-clause-items c shown numbered rules h =
    hidden c.args.id c.args.index.now.items c.remove.new.self.items c.len-count.ensures.once c.remove.ensures.items
    shown numbered rules h
