-- What is counted.
use Rattle.std.specs.Prelude.{ℕ, ◌+◌, Bool, cond, List, [], ◌∷◌}
use Rattle.std.specs.BTreeMap.{insert_entry, is_at}
use Rattle.std.specs.Ordering.{nat_cmp}
use Rattle.of10_stats.specs.declared.reply.PortStat.{PortStat}
use Rattle.switch_meaning.specs.Counts.{capped}
use Rattle.soft_net.specs.Tables.{TableOf, changed_at}
use Rattle.soft_net.specs.declared.entry.SoftEntry.{SoftEntry}
use Rattle.soft_net.specs.declared.passed.Hit.{Hit}
use Rattle.soft_net.specs.declared.passed.Hit.TheVariants.{Entry, Received, Sent}

-- an entry with one packet more
abbrev pub counted : ℕ → SoftEntry → SoftEntry
counted bytes e = record e { packets = capped (e.packets + 1); bytes = capped (e.bytes + bytes) }

-- a port by which one packet more came
abbrev pub received : ℕ → PortStat → PortStat
received bytes p = record p { rx_packets = capped (p.rx_packets + 1); rx_bytes = capped (p.rx_bytes + bytes) }

-- a port at which one packet more went out
abbrev pub sent : ℕ → PortStat → PortStat
sent bytes p = record p { tx_packets = capped (p.tx_packets + 1); tx_bytes = capped (p.tx_bytes + bytes) }

-- the first of the pairs whose key passes a test, changed
abbrev pub changed : {K V : Type 0} → (K → Bool) → (V → V) → List (K × V) → List (K × V)
changed test f [] = []
changed test f (p ∷ ps) = cond (test p.0) ((p.0, f p.1) ∷ ps) (p ∷ changed test f ps)

-- the ports, one of which is changed, if it is there
abbrev pub changed_port : ℕ → (PortStat → PortStat) → List (ℕ × PortStat) → List (ℕ × PortStat)
changed_port port f ps = changed (is_at (nat_cmp port)) f ps

-- the entries after a count: it is that of one packet
abbrev pub counted_by : Hit → TableOf → TableOf
counted_by (Entry serial bytes) t = changed_at serial (counted bytes) t
counted_by _ t = t

-- after several counts
abbrev pub counted_all : List Hit → TableOf → TableOf
counted_all [] t = t
counted_all (h ∷ hs) t = counted_all hs (counted_by h t)

-- the ports after it
abbrev pub port_counted : Hit → List (ℕ × PortStat) → List (ℕ × PortStat)
port_counted (Received port bytes) ps = changed_port port (received bytes) ps
port_counted (Sent port bytes) ps = changed_port port (sent bytes) ps
port_counted _ ps = ps

-- and after several
abbrev pub ports_counted : List Hit → List (ℕ × PortStat) → List (ℕ × PortStat)
ports_counted [] ps = ps
ports_counted (h ∷ hs) ps = ports_counted hs (port_counted h ps)

-- a port without counts
abbrev pub zero_port : ℕ → PortStat
zero_port port = record {
  port_no = port;
  rx_packets = 0;
  tx_packets = 0;
  rx_bytes = 0;
  tx_bytes = 0;
  rx_dropped = 0;
  tx_dropped = 0;
  rx_errors = 0;
  tx_errors = 0;
  rx_frame_err = 0;
  rx_over_err = 0;
  rx_crc_err = 0;
  collisions = 0;
}

-- with more ports without counts, by their numbers
abbrev pub put_zeros : List (ℕ × PortStat) → List ℕ → List (ℕ × PortStat)
put_zeros ps [] = ps
put_zeros ps (q ∷ qs) = put_zeros (insert_entry nat_cmp ps q (zero_port q)) qs

-- ports without counts
abbrev pub zero_ports : List ℕ → List (ℕ × PortStat)
zero_ports ports = put_zeros [] ports
