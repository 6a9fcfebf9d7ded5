-- All that happens to counts, one after the other; and all cookies that were ever written.
use Rattle.std.specs.Prelude.{◌≡◌, ℕ, Bool, true, false, Option, Some, None, List, [], ◌∷◌, ◌++◌, if◌then◌else◌}
use Rattle.std.specs.List.{list_any}
use Rattle.std.specs.Map.{values_of}
use Rattle.cv_io.specs.Leaves.{same_leaf}
use Rattle.cv_io.specs.declared.leaf.Leaf.{Leaf}
use Rattle.switch_meaning.specs.Counts.{Cookie, Numbers, a_leaf, count_of}
use Rattle.stats_map.specs.Counting.{CountsOf, Place, cookie_at, count, downed, forgot, installed, nothing, of_switch}
use Rattle.stats_map.specs.Counting.{reported, with_numbers}

-- a cookie is written, a switch reports on one, a switch goes down, or a leaf is to be forgotten
pub data Step : Type 0 where
  Wrote : Place → List Leaf → Step
  Told : Place → Numbers → Bool → Step
  WentDown : ℕ → Step
  Dropped : Leaf → Step

abbrev pub after : Step → CountsOf → CountsOf
after (Wrote place ancestry) s = installed place ancestry s
after (Told place numbers last) s = reported place numbers last s
after (WentDown switch) s = downed switch s
after (Dropped leaf) s = forgot leaf s

-- after some steps
abbrev pub run : List Step → CountsOf → CountsOf
run [] s = s
run (x ∷ xs) s = run xs (after x s)

-- a cookie of which a switch reports the last numbers
abbrev pub gone_at : Option Cookie → Numbers → Bool → List Cookie
gone_at None numbers last = []
gone_at (Some c) numbers last = if last then with_numbers numbers c ∷ [] else []

-- the cookies that a step was the last to tell of, with their last numbers
abbrev pub gone_by : Step → CountsOf → List Cookie
gone_by (Wrote place ancestry) s = []
gone_by (Told place numbers last) s = gone_at (cookie_at place s) numbers last
gone_by (WentDown switch) s = values_of (of_switch switch s.live)
gone_by (Dropped leaf) s = []

abbrev pub gone : List Step → CountsOf → List Cookie
gone [] s = []
gone (x ∷ xs) s = gone_by x s ++ gone xs (after x s)

-- all cookies that were ever written, each with its last numbers
abbrev pub ever : List Step → List Cookie
ever steps = gone steps nothing ++ values_of (run steps nothing).live

-- the leaf is to be forgotten
abbrev pub drops : Leaf → Step → Bool
drops leaf (Wrote place ancestry) = false
drops leaf (Told place numbers last) = false
drops leaf (WentDown switch) = false
drops leaf (Dropped q) = same_leaf q leaf

-- the count of a leaf that no step drops is that over all cookies that were ever written, each once
abbrev pub CountsAreOfAll : Type 0
CountsAreOfAll = (steps : List Step) (leaf : Leaf) → list_any (drops leaf) steps ≡ false
    → count (run steps nothing) leaf ≡ count_of leaf (ever steps)

-- an entry of one leaf twice, whose cookie was replaced: the old one reports its removal, and the new one is polled
abbrev pub replaced : List Step
replaced =
    Wrote (0, 5) (a_leaf 3 ∷ a_leaf 3 ∷ []) ∷ Wrote (0, 6) (a_leaf 4 ∷ a_leaf 3 ∷ [])
    ∷ Told (0, 5) (record { packets = 7; bytes = 700 }) true
    ∷ Told (0, 6) (record { packets = 3; bytes = 300 }) false ∷ []

-- both cookies are counted, each once; and the leaf is counted until its last cookie goes, if it is to be forgotten
abbrev pub TwoCookiesAreCounted : Type 0
TwoCookiesAreCounted =
    (count (run replaced nothing) (a_leaf 3) ≡ record { packets = 10; bytes = 1000 })
    × (count (run (replaced ++ Dropped (a_leaf 3) ∷ []) nothing) (a_leaf 3) ≡ record { packets = 10; bytes = 1000 })
    × (count (run (replaced ++ Dropped (a_leaf 3) ∷ WentDown 0 ∷ []) nothing) (a_leaf 3)
    ≡ record { packets = 0; bytes = 0 })
    × (count (run (replaced ++ Dropped (a_leaf 3) ∷ WentDown 0 ∷ []) nothing) (a_leaf 4)
    ≡ record { packets = 3; bytes = 300 })
