-- How the first of the entries that hold a header is found among their keys.
use Rattle.std.specs.Prelude.{◌≡◌, Bool, false, ◌==◌, ◌&&◌, ◌||◌, nat_lt, List, [], Option, Some, None, flat_map}
use Rattle.std.specs.Prelude.{if◌then◌else◌, option_to_list, MatchOption}
use Rattle.std.specs.List.{Contains, list_any}
use Rattle.std.specs.Option.{option_and_then}
use Rattle.of10_match.specs.Fields.{HeaderOf}
use Rattle.install_plan.specs.Best.{is_holding, rank_of}
use Rattle.install_plan.specs.InsideSlots.{Slots, slot_at, top}
use Rattle.install_plan.specs.declared.choosing.Candidate.{Candidate}
use Rattle.install_plan.specs.declared.key.Key.{Key}
use Rattle.install_plan.specs.declared.written.Written.{Written}

-- what stands of a key
abbrev pub standing_at : Slots → Key → Option Written
standing_at slots k = option_and_then top (slot_at k slots)

-- what is compared of an entry that stands
abbrev pub candidate_of : Key → Written → Candidate
candidate_of k w = record { key = k; rank = rank_of w.entry; cookie = w.cookie }

-- that, where the entry holds the header
abbrev pub candidate_if : HeaderOf → Key → Written → Option Candidate
candidate_if h k w = if is_holding h w then Some (candidate_of k w) else None

-- the candidate of a key, if it has one
abbrev pub candidate_at : Slots → HeaderOf → Key → Option Candidate
candidate_at slots h k = option_and_then (candidate_if h k) (standing_at slots k)

-- the candidates of keys
abbrev pub candidates : Slots → HeaderOf → List Key → List Candidate
candidates slots h keys = flat_map (λ k. option_to_list (candidate_at slots h k)) keys

-- the first has a higher rank, or the same one and a lesser cookie
abbrev pub is_before : Candidate → Candidate → Bool
is_before a b = nat_lt b.rank a.rank || ((b.rank == a.rank) && nat_lt a.cookie b.cookie)

-- the one of two that comes before the other, where both are there
abbrev pub before : Option Candidate → Option Candidate → Option Candidate
before None b = b
before (Some x) None = Some x
before (Some x) (Some y) = Some (if is_before y x then y else x)

-- it is there, and none comes before it
pub record IsLeading (cs : List Candidate) (c : Candidate) : Type 0 where
  pub stands : Contains cs c
  pub none_before : list_any (λ d. is_before d c) cs ≡ false

-- there is none; or it is the first
abbrev pub Leads : List Candidate → Option Candidate → Type 0
Leads cs best = MatchOption best (cs ≡ []) (IsLeading cs)
