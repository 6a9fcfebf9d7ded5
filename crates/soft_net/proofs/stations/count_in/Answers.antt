use Rattle.std.proofs.Common.{◌∙◌, sym, ap, ap₂, List, ℕ}
use Rattle.std.specs.BTreeMap.{is_at}
use Rattle.std.specs.Ordering.{nat_cmp}
use Rattle.of10_stats.specs.declared.reply.PortStat.{PortStat}
use Rattle.soft_net.specs.Nets.{SwitchOf, counted, numbered}
use Rattle.soft_net.specs.Tables.{TableOf}
use Rattle.soft_net.proofs.Netting.{numbered_none, numbered_set}
use Rattle.soft_net.proofs.stations.count_in.Goals as goal

pub returns-in-Some : goal.returns-in-Some
returns-in-Some c =
    let S : TableOf → List (ℕ × PortStat) → SwitchOf = λ t ps. record { table = t; ports = ps } in
    ap numbered (c.get_mut.follows.holds c.count_one.new.self).0
    ∙ numbered_set (is_at (nat_cmp c.args.hit.switch)) (counted c.args.hit.hit) c.args.switches.now.entries
    c.in-Some.at.now c.count_one.new.self (sym c.in-Some.ensures.value)
    (ap₂ S c.count_one.ensures.table c.count_one.ensures.ports)

pub returns-in-None : goal.returns-in-None
returns-in-None c =
    ap (λ m. numbered m.entries) c.get_mut.follows.holds-at-none
    ∙ sym (numbered_none (is_at (nat_cmp c.args.hit.switch)) (counted c.args.hit.hit) c.args.switches.now.entries
    (sym c.in-None.ensures.value))
