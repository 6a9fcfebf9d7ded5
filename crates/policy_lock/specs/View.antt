-- The views of the lock's tokens: a seat's, a note's, and one that is spent.
use Rattle.std.specs.Prelude.{◌≡◌, true, false, List, [], ◌∷◌, ◌++◌, length, None}
use Rattle.atomic_table.specs.Table.{Me}
use Rattle.policy_lock.specs.declared.view.Entry.{Entry}
use Rattle.policy_lock.specs.declared.view.Pass.{Pass}
use Rattle.policy_lock.specs.declared.view.View.{View}
use Rattle.policy_lock.specs.History.{longer}
use Rattle.policy_lock.specs.Seat.{first_pass, child, parent}

module _ {E R S : Type 0} where
  -- a seat that neither holds the lock nor was told anything
  abbrev pub sits : Pass E R S → View E R S
  sits p = record { seated = true; pass = p; told = []; holds = false; gathered = [] }

  -- the view of a token that was joined to another
  abbrev pub spent : View E R S
  spent = record {
    seated = false;
    pass = record { start = None; number = []; children = 0; seen = [] };
    told = [];
    holds = false;
    gathered = [];
  }

  -- the first seat of a lock
  abbrev pub first_view : S → View E R S
  first_view s = sits (first_pass s)

  -- a seat that is split off
  abbrev pub born : View E R S → View E R S
  born v = sits (child v.pass)

  -- the seat that it was split off
  abbrev pub bearer : View E R S → View E R S
  bearer v = record v { pass = parent v.pass }

  -- a note of what the seat has seen
  abbrev pub note : View E R S → View E R S
  note v = record spent { told = v.pass.seen }

  -- the seat was handed the note w
  abbrev pub told : View E R S → View E R S → View E R S
  told v w = record v { told = w.told }

  -- the seat has taken in what it was told
  abbrev pub heard : View E R S → View E R S
  heard v = record v { pass = record v.pass { seen = longer v.pass.seen v.told }; told = [] }

  -- the seat w was gathered
  abbrev pub gathered : View E R S → View E R S → View E R S
  gathered v w = record v { gathered = v.gathered ++ w.pass ∷ [] }

  -- the seat has taken the lock, and seen the whole history
  abbrev pub took : List (Entry E R) → View E R S → View E R S
  took log v = record v { pass = record v.pass { seen = log }; holds = true }

  -- the seat has given the lock back
  abbrev pub let_go : View E R S → View E R S
  let_go v = record v { holds = false }

  -- a seat that neither holds the lock, nor a slot, nor another seat
  abbrev pub IsAtRest : {L : Type 0} → Me L (View E R S) → Type 0
  IsAtRest m = (m.0.seated ≡ true) × (m.0.holds ≡ false) × (length m.0.gathered ≡ 0) × (length m.1 ≡ 0)
