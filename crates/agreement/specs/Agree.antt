-- Tables of switches that agree with a setting.
use Rattle.std.specs.Prelude.{◌≡◌, ℕ, suc, true, Some, List, length, Contains}
use Rattle.of10_match.specs.Fields.{HeaderOf}
use Rattle.policy_meaning.specs.Networks.{ground_of}
use Rattle.policy_meaning.specs.Walk.{walk}
use Rattle.switch_meaning.specs.Wirings.{outside_at}
use Rattle.switch_meaning.specs.declared.entry.FlowEntry.{FlowEntry}
use Rattle.switch_meaning.specs.declared.wiring.Outside.{Outside}
use Rattle.agreement.specs.declared.state.Setting.{Setting}
use Rattle.agreement.specs.Entries.{table_of}
use Rattle.agreement.specs.Reach.{AreUp, is_up}
use Rattle.agreement.specs.Seeing.{AlwaysShows, expected}

-- a packet of any header that comes in at any outside port of a virtual switch all of whose switches are up leaves as
-- its walk says, whichever of their entries the switches use
abbrev pub Agree : Setting → (ℕ → List FlowEntry) → Type 0
Agree s tables =
    (v p : ℕ) (o : Outside) → outside_at s.wiring v p ≡ Some o → AreUp s v → (h : HeaderOf) → h.in_port ≡ p
    → AlwaysShows s.wiring tables (suc (length s.switches)) o.at h
    (expected s.wiring o.at h (walk (ground_of s.network) s.hops v h))

-- two tables have the same entries, in whatever order
pub record SameEntries (a b : List FlowEntry) : Type 0 where
  pub there : (e : FlowEntry) → Contains a e → Contains b e
  pub back : (e : FlowEntry) → Contains b e → Contains a e

-- each switch that is up has the entries of the setting
abbrev pub AreInstalled : Setting → (ℕ → List FlowEntry) → Type 0
AreInstalled s tables = (switch : ℕ) → is_up s switch ≡ true → SameEntries (tables switch) (table_of s switch)
