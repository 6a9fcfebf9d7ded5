-- The flow table of a switch in memory, and what a FLOW_MOD makes of it (sections 3.4, 4.6 and 5.3.3 of the OpenFlow
-- Switch Specification 1.0.0).
use Rattle.std.specs.Prelude.{ℕ, ◌+◌, ◌^◌, ◌&&◌, not, nat_lt, Bool, List, [], ◌∷◌, ◌++◌, Option, filter, map}
use Rattle.std.specs.Prelude.{if◌then◌else◌}
use Rattle.of10_match.specs.Fields.{HeaderOf}
use Rattle.of10_match.specs.Highest.{highest}
use Rattle.of10_match.specs.Matching.{holds}
use Rattle.switch_meaning.specs.MayUse.{rank_of}
use Rattle.switch_meaning.specs.Tables.{takes_out}
use Rattle.switch_meaning.specs.declared.entry.Change.TheVariants.{Delete, DeleteStrict}
use Rattle.soft_net.specs.Entries.{has_serial, is_at, outputs_to}
use Rattle.soft_net.specs.declared.entry.SoftEntry.{SoftEntry}
use Rattle.soft_net.specs.declared.selection.Selection.{Selection}
use Rattle.soft_net.specs.declared.selection.Selection.TheVariants.{Strict, Covered}

-- a table: its entries in the order in which they were added, and the number of the next
pub record TableOf : Type 0 where
  pub entries : List SoftEntry
  pub next : ℕ

-- the entry that handles the packets of a header: of those that hold it the first of the highest
abbrev pub best_entry : List SoftEntry → HeaderOf → Option SoftEntry
best_entry es h = highest (λ (e : SoftEntry). holds e.flow.m h) (λ (e : SoftEntry). rank_of e.flow) es

-- a strict message means the entry that DELETE_STRICT takes out, another each entry that DELETE does
abbrev pub is_meant : Selection → SoftEntry → Bool
is_meant (Strict k) e = takes_out (DeleteStrict k.m k.priority) e.flow
is_meant (Covered m) e = takes_out (Delete m) e.flow

-- and it has an OUTPUT to the port, where one is asked for
abbrev pub is_selected : Selection → ℕ → SoftEntry → Bool
is_selected s out_port e = is_meant s e && outputs_to out_port e

-- the numbers of entries
abbrev pub serials_of : List SoftEntry → List ℕ
serials_of es = map (λ (e : SoftEntry). e.serial) es

-- all numbers but the last are given
abbrev pub is_full : TableOf → Bool
is_full t = not (nat_lt (t.next + 1) (2 ^ 64))

-- a table with a new entry, last, in the place of one with its key
abbrev pub with_entry : TableOf → SoftEntry → TableOf
with_entry t new = record {
  entries = filter (λ e. not (is_at (record { m = new.flow.m; priority = new.flow.priority }) e)) t.entries
      ++ new ∷ [];
  next = t.next + 1;
}

-- a table without the entry of a number
abbrev pub without : ℕ → TableOf → TableOf
without serial t = record t { entries = filter (λ e. not (has_serial serial e)) t.entries }

-- without those of several numbers, one after the other
abbrev pub without_all : List ℕ → TableOf → TableOf
without_all [] t = t
without_all (s ∷ ss) t = without_all ss (without s t)

-- a table in which the entry of a number is changed
abbrev pub changed_at : ℕ → (SoftEntry → SoftEntry) → TableOf → TableOf
changed_at serial f t = record t { entries = map (λ e. if has_serial serial e then f e else e) t.entries }

-- in which those of several numbers are, one after the other
abbrev pub changed_all : List ℕ → (SoftEntry → SoftEntry) → TableOf → TableOf
changed_all [] f t = t
changed_all (s ∷ ss) f t = changed_all ss f (changed_at s f t)
