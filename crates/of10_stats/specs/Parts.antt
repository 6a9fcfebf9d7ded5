-- How a long FLOW reply is cut into parts.
use Rattle.std.specs.Prelude.{◌≡◌, ◌<◌, ◌≤◌, ◌+◌, ◌-◌, ◌==◌, ◌||◌, ◌⊎◌, ℕ, zero, suc, true, false, Bool, List, [], ◌∷◌}
use Rattle.std.specs.Prelude.{length, nat_le, sum_by, take, if◌then◌else◌}
use Rattle.of10_stats.specs.Spelling.{entry_size}
use Rattle.of10_stats.specs.declared.reply.FlowStat.{FlowStat}
use Rattle.of10_stats.specs.declared.reply.ReplyBody.{ReplyBody}
use Rattle.of10_stats.specs.declared.reply.ReplyBody.TheVariants as bodies
use Rattle.of10_stats.specs.declared.reply.StatsReply.{StatsReply}

-- a part that has so many bytes of entries takes this one too: it has none yet, or stays within 2048 bytes
abbrev pub takes : ℕ → FlowStat → Bool
takes used e = (used == 0) || nat_le (12 + used + entry_size e) 2048

-- how many of the entries a part takes that has so many bytes of entries
unfoldable pub taken : ℕ → List FlowStat → ℕ
taken used [] = 0
taken used (e ∷ es) = if takes used e then suc (taken (used + entry_size e) es) else 0

-- the parts of entries of which the first `skipped` belong to the part before
unfoldable pub parts_at : ℕ → List FlowStat → List (List FlowStat)
parts_at skipped [] = []
parts_at (suc skipped) (e ∷ es) = parts_at skipped es
parts_at zero (e ∷ es) = take (taken 0 (e ∷ es)) (e ∷ es) ∷ parts_at (taken 0 (e ∷ es) - 1) es

-- the parts of a reply; one where there are no entries
abbrev pub parts : List FlowStat → List (List FlowStat)
parts [] = [] ∷ []
parts (e ∷ es) = parts_at 0 (e ∷ es)

-- the replies that parts make: all but the last say that more follow
unfoldable pub part_replies : List (List FlowStat) → List StatsReply
part_replies [] = []
part_replies (last ∷ []) = record { more = false; body = bodies.Flow last } ∷ []
part_replies (part ∷ next ∷ others) = record { more = true; body = bodies.Flow part } ∷ part_replies (next ∷ others)

-- the replies that what is told goes out as
abbrev pub replies_of : ReplyBody → List StatsReply
replies_of (bodies.Flow entries) = part_replies (parts entries)
replies_of body = record { more = false; body = body } ∷ []

-- ---- what is said of parts

-- how many bytes entries take
abbrev pub bytes_of : List FlowStat → ℕ
bytes_of es = sum_by entry_size es

-- a part has entries, and fits 2048 bytes or is one entry
pub record IsPart (part : List FlowStat) : Type 0 where
  pub some : 0 < length part
  pub fits : (12 + bytes_of part ≤ 2048) ⊎ (length part ≡ 1)

-- a part could not have taken the first entry of the next
abbrev pub IsFull : List FlowStat → List FlowStat → Type 0
IsFull part [] = ⊥
IsFull part (e ∷ es) = 2048 < 12 + bytes_of part + entry_size e

-- each is a part, and none could have taken more
abbrev pub AreGreedy : List (List FlowStat) → Type 0
AreGreedy [] = Unit {0}
AreGreedy (last ∷ []) = IsPart last
AreGreedy (part ∷ next ∷ others) = IsPart part × IsFull part next × AreGreedy (next ∷ others)
