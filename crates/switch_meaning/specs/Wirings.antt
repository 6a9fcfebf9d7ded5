-- Looking up ports, cables and ways.
use Rattle.std.specs.Prelude.{ℕ, Bool, ◌==◌, ◌&&◌, Option, Some, None, List, [], ◌∷◌, if◌then◌else◌, find, option_map}
use Rattle.switch_meaning.specs.declared.wiring.SwitchPort.{SwitchPort}
use Rattle.switch_meaning.specs.declared.wiring.Outside.{Outside}
use Rattle.switch_meaning.specs.declared.wiring.Cable.{Cable}
use Rattle.switch_meaning.specs.declared.wiring.NextHop.{NextHop}
use Rattle.switch_meaning.specs.declared.wiring.Wiring.{Wiring}

-- the port of a physical switch is this one
abbrev pub same_spot : SwitchPort → SwitchPort → Bool
same_spot a b = (a.switch == b.switch) && (a.port == b.port)

-- an outside port of a virtual switch
abbrev pub outside_at : Wiring → ℕ → ℕ → Option Outside
outside_at w v port = find (λ (o : Outside). (o.v == v) && (o.port == port)) w.outside

-- the port by which packets from one switch to another leave the first
abbrev pub next_hop : Wiring → ℕ → ℕ → Option ℕ
next_hop w from to = option_map (λ (n : NextHop). n.port)
    (find (λ (n : NextHop). (n.from == from) && (n.to == to)) w.next_hops)

-- the other end of the first cable that ends here
abbrev pub other_end : List Cable → SwitchPort → Option SwitchPort
other_end [] s = None
other_end (c ∷ cs) s = if same_spot c.one s then Some c.other
    else (if same_spot c.other s then Some c.one else other_end cs s)

-- where a packet gets to that leaves by a port with a cable
abbrev pub far_end : Wiring → SwitchPort → Option SwitchPort
far_end w s = other_end w.cables s
