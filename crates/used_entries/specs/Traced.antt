-- The entry that a switch uses for a packet is made of the leaves that the packet's trace uses.
use Rattle.std.specs.Prelude.{◌≡◌, ℕ, Option, Some, List, map}
use Rattle.agreement.specs.Entries.{entries_of, table_of}
use Rattle.agreement.specs.Premises.{IsSoundSetting}
use Rattle.agreement.specs.Seeing.{comes_by}
use Rattle.agreement.specs.declared.state.Setting.{Setting}
use Rattle.explain_path.specs.Traces.{trace}
use Rattle.explain_path.specs.Used.{used_of}
use Rattle.install_plan.specs.Best.{IsBest}
use Rattle.install_plan.specs.Tables.{entry_of}
use Rattle.install_plan.specs.declared.written.Written.{Written}
use Rattle.of10_match.specs.Fields.{HeaderOf}
use Rattle.switch_meaning.specs.BestLaw.{IsBestEntry}
use Rattle.switch_meaning.specs.Batches.{by_key}
use Rattle.switch_meaning.specs.Keys.{flow_of, installed}
use Rattle.switch_meaning.specs.MayUse.{MayUse}
use Rattle.switch_meaning.specs.Wirings.{outside_at}
use Rattle.switch_meaning.specs.declared.entry.FlowEntry.{FlowEntry}
use Rattle.switch_meaning.specs.declared.entry.PhysEntry.{PhysEntry}
use Rattle.switch_meaning.specs.declared.wiring.Outside.{Outside}

-- of the entries that are put on the switch of an outside port one is the best for the packets of a header that come
-- by it, and its leaves, in order, are those that the trace of the header at the virtual switch uses
pub record HasTracedEntry (s : Setting) (v : ℕ) (o : Outside) (h : HeaderOf) : Type 0 where
  pub entry : PhysEntry
  pub best : IsBestEntry (comes_by o.at.port h) (entries_of s o.at.switch) entry
  pub ancestry : entry.ancestry ≡ used_of (trace s.network s.hops v h)

abbrev pub BestEntriesAreTraced : Type 0
BestEntriesAreTraced =
    (s : Setting) → IsSoundSetting s → (v : ℕ) (o : Outside) (h : HeaderOf) → outside_at s.wiring v h.in_port ≡ Some o
    → HasTracedEntry s v o h

-- what stands on a switch are the entries that a setting gives
abbrev pub Stands : Setting → ℕ → List Written → Type 0
Stands s switch standing = map entry_of standing ≡ by_key (installed (entries_of s switch))

-- the first of the entries that stand there is the only one that the switch may use, and its leaves are those of the
-- trace
pub record IsTraced (s : Setting) (v : ℕ) (o : Outside) (h : HeaderOf) (used : Option Written) : Type 0 where
  pub written : Written
  pub is : used ≡ Some written
  pub ancestry : written.entry.ancestry ≡ used_of (trace s.network s.hops v h)
  pub only :
      (flow : Option FlowEntry) → MayUse (table_of s o.at.switch) (comes_by o.at.port h) flow
      → flow ≡ Some (flow_of written.entry)

abbrev pub UsedEntriesAreTraced : Type 0
UsedEntriesAreTraced =
    (s : Setting) → IsSoundSetting s → (v : ℕ) (o : Outside) (h : HeaderOf) → outside_at s.wiring v h.in_port ≡ Some o
    → (standing : List Written) → Stands s o.at.switch standing
    → (used : Option Written) → IsBest (comes_by o.at.port h) standing used → IsTraced s v o h used
