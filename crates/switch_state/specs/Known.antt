-- What is known of a switch in its round.
use Rattle.std.specs.Prelude.{ℕ, Bool, false, List, [], map}
use Rattle.std.specs.BTreeMap.{is_at}
use Rattle.std.specs.List.{list_any}
use Rattle.std.specs.Ordering.{nat_cmp}
use Rattle.switch_state.specs.declared.barrier.Barrier.{Barrier}

-- The xid of the last message that took one, 0 before the first; the first cookie that the round can write; how many
-- barriers were sent, and those that wait for their answers, the oldest first; whether one was answered; the ports
-- that are down; and the cookies whose entries were deleted and whose removals weren't reported. Ports rise, and so do
-- cookies.
pub record KnownOf : Type 0 where
  pub xid : ℕ
  pub first : ℕ
  pub begun : ℕ
  pub barriers : List Barrier
  pub answered : Bool
  pub dark : List ℕ
  pub deleted : List ℕ

-- as a round begins, in which this cookie is the first that can be written
abbrev pub nothing_known : ℕ → KnownOf
nothing_known first = record {
  xid = 0;
  first = first;
  begun = 0;
  barriers = [];
  answered = false;
  dark = [];
  deleted = [];
}

-- the number is one of these
abbrev pub is_one_of : List ℕ → ℕ → Bool
is_one_of numbers n = list_any (is_at (nat_cmp n)) numbers

-- the last PORT_STATUS of the port said that it is down
abbrev pub is_dark : KnownOf → ℕ → Bool
is_dark x port = is_one_of x.dark port

-- the cookie's entry was deleted, and its removal wasn't reported
abbrev pub is_outstanding : KnownOf → ℕ → Bool
is_outstanding x cookie = is_one_of x.deleted cookie

-- the numbers of the barriers that wait for their answers, the oldest first
abbrev pub unanswered : KnownOf → List ℕ
unanswered x = map (λ (b : Barrier). b.number) x.barriers
