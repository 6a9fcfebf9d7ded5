-- What a seat has posted, as its entries in the history show.
use Rattle.std.specs.Prelude.{◌≡◌, ℕ, zero, suc, List, [], ◌∷◌, ◌++◌}
use mathlib.Core.List.{IsPrefix}
use Rattle.policy_lock.specs.declared.view.Pass.{Pass}
use Rattle.policy_lock.specs.History.{calls_by, events_of}

-- so many ones
abbrev pub ones : ℕ → List ℕ
ones zero = []
ones (suc k) = ones k ++ 1 ∷ []

-- the seat of the pass v has posted k ones, and nothing else, and has the pass w since
pub record HasPostedOnes (v w : Pass ℕ ℕ ℕ) (k : ℕ) : Type 0 where
  pub later : IsPrefix v.seen w.seen
  pub calls : events_of (calls_by v.number w.seen) ≡ events_of (calls_by v.number v.seen) ++ ones k
