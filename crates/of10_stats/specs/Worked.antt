-- The definitions, computed on examples.
use Rattle.std.specs.Prelude.{◌≡◌, ◌+◌, ℕ, List, [], ◌∷◌, ◌++◌, drop, map, replicate, Ok, Err}
use Rattle.of10_stats.specs.Parts.{bytes_of, parts}
use Rattle.of10_stats.specs.Reading.{reply_in, request_in}
use Rattle.of10_stats.specs.Spelling.{request_message}
use Rattle.of10_stats.specs.declared.fault.StatsFault.TheVariants.{BadStat, BadLen}
use Rattle.of10_stats.specs.declared.reply.FlowStat.{FlowStat}
use Rattle.of10_stats.specs.declared.request.StatsRequest.{StatsRequest}
use Rattle.of10_stats.specs.declared.request.StatsRequest.TheVariants.{Flow}

-- the match of every packet
abbrev pub everything : List ℕ
everything = 0 ∷ 56 ∷ 32 ∷ 255 ∷ replicate 36 0

-- what polls a switch for all entries
abbrev pub poll : StatsRequest
poll = Flow everything 255 65535

abbrev pub poll_bytes : List ℕ
poll_bytes = (1 ∷ 16 ∷ 0 ∷ 56 ∷ 0 ∷ 0 ∷ 0 ∷ 9 ∷ 0 ∷ 1 ∷ 0 ∷ 0 ∷ []) ++ (everything ++ 255 ∷ 0 ∷ 255 ∷ 255 ∷ [])

-- its bytes, both ways
abbrev pub PollIsSpelled : Type 0
PollIsSpelled = (request_message 9 poll ≡ poll_bytes) × (request_in (drop 8 poll_bytes) ≡ Ok poll)

-- type 5; a byte behind the type of a description; an entry that says 87 bytes
abbrev pub FaultsAreFirst : Type 0
FaultsAreFirst = (request_in (0 ∷ 5 ∷ 0 ∷ 0 ∷ []) ≡ Err (BadStat 5))
    × (request_in (0 ∷ 0 ∷ 0 ∷ 0 ∷ 7 ∷ []) ≡ Err (BadLen 0 1))
    × (reply_in (0 ∷ 1 ∷ 0 ∷ 0 ∷ 0 ∷ 87 ∷ replicate 86 0) ≡ Err (BadLen 1 88))

-- an entry with one action
abbrev pub entry : FlowStat
entry = record {
  table_id = 0;
  m = everything;
  duration_sec = 0;
  duration_nsec = 0;
  priority = 0;
  idle = 0;
  hard = 0;
  cookie = 0;
  packets = 0;
  bytes = 0;
  actions = replicate 8 0;
}

-- twenty-two entries of 96 bytes make parts of 2028 and 108 bytes
abbrev pub TwoAndTwenty : Type 0
TwoAndTwenty = map (λ part. 12 + bytes_of part) (parts (replicate 22 entry)) ≡ 2028 ∷ 108 ∷ []
