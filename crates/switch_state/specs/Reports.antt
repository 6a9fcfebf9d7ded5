-- What a switch reports.
use Rattle.std.specs.Prelude.{ℕ, Bool, ◌==◌, ◌||◌, ◌%◌, not, nat_lt, if◌then◌else◌, Option, find, is_some, option_map}
use Rattle.std.specs.BTreeMap.{is_at}
use Rattle.std.specs.BTreeSet.{insert_key}
use Rattle.std.specs.Ordering.{nat_cmp}
use Rattle.std.specs.Set.{remove_key}
use Rattle.of10_msgs.specs.declared.message.PhyPort.{PhyPort}
use Rattle.switch_state.specs.Known.{KnownOf, is_outstanding}
use Rattle.switch_state.specs.declared.barrier.Barrier.{Barrier}
use Rattle.switch_state.specs.declared.removal.Removal.{Removal}
use Rattle.switch_state.specs.declared.removal.Removal.TheVariants.{Ignored, Taken, Strange}

-- ---- barriers

-- the barrier has this xid
abbrev pub has_xid : ℕ → Barrier → Bool
has_xid xid b = b.xid == xid

-- the oldest barrier of an xid that waits for its answer
abbrev pub oldest : ℕ → KnownOf → Option Barrier
oldest xid x = find (has_xid xid) x.barriers

-- the number of the barrier that a BARRIER_REPLY answers; none is ignored
abbrev pub answered_number : ℕ → KnownOf → Option ℕ
answered_number xid x = option_map (λ (b : Barrier). b.number) (oldest xid x)

-- after a BARRIER_REPLY the oldest barrier of its xid is answered; where none waits, nothing changes
abbrev pub barrier_reply : ℕ → KnownOf → KnownOf
barrier_reply xid x = record x {
  answered = x.answered || is_some (oldest xid x);
  barriers = remove_key (has_xid xid) x.barriers;
}

-- ---- removals

-- A removal before the first answer to a barrier, or of a cookie from before the round, is of what was wiped as the
-- round began, and ignored. That of a cookie that is outstanding is taken. Any other is strange.
abbrev pub removal : KnownOf → ℕ → Removal
removal x cookie =
    if not x.answered || nat_lt cookie x.first then Ignored else (if is_outstanding x cookie then Taken else Strange)

abbrev pub after_removal : Removal → ℕ → KnownOf → KnownOf
after_removal Taken cookie x = record x { deleted = remove_key (is_at (nat_cmp cookie)) x.deleted }
after_removal Ignored cookie x = x
after_removal Strange cookie x = x

-- a cookie whose removal is taken isn't outstanding any more
abbrev pub flow_removed : ℕ → KnownOf → KnownOf
flow_removed cookie x = after_removal (removal x cookie) cookie x

-- ---- ports

-- the port was deleted, or its link is down
abbrev pub tells_down : ℕ → PhyPort → Bool
tells_down reason port = (reason == 1) || (port.state % 2 == 1)

-- after a PORT_STATUS; the last one of a port decides
abbrev pub port_status : ℕ → PhyPort → KnownOf → KnownOf
port_status reason port x =
    if tells_down reason port then record x { dark = insert_key nat_cmp x.dark port.port_no }
    else record x { dark = remove_key (is_at (nat_cmp port.port_no)) x.dark }
