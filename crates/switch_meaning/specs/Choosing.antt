-- The entry that a switch of one reading of rank uses.
use Rattle.std.specs.Prelude.{ℕ, Option, List, [], slice_get, unwrap_or}
use Rattle.of10_match.specs.Fields.{HeaderOf}
use Rattle.of10_match.specs.Highest.{highest}
use Rattle.of10_match.specs.Matching.{holds}
use Rattle.switch_meaning.specs.Following.{Choice}
use Rattle.switch_meaning.specs.MayUse.{rank_of, priority_of}
use Rattle.switch_meaning.specs.declared.entry.FlowEntry.{FlowEntry}
use Rattle.switch_meaning.specs.declared.choosing.Reading.{Reading}
use Rattle.switch_meaning.specs.declared.choosing.Reading.TheVariants.{ExactFirst, PriorityAlone}

-- how high an entry is by a reading
abbrev pub height_of : Reading → FlowEntry → ℕ
height_of ExactFirst e = rank_of e
height_of PriorityAlone e = priority_of e

-- of the entries that hold the header the first of the highest
abbrev pub chosen_entry : Reading → List FlowEntry → HeaderOf → Option FlowEntry
chosen_entry reading table h = highest (λ (e : FlowEntry). holds e.m h) (height_of reading) table

-- the table of a switch
abbrev pub table_at : List (List FlowEntry) → ℕ → List FlowEntry
table_at tables switch = unwrap_or (slice_get tables switch) []

-- each switch uses the first of the highest
abbrev pub chosen : List (List FlowEntry) → Reading → Choice
chosen tables reading way switch h = chosen_entry reading (table_at tables switch) h
