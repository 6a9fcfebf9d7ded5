-- The definitions, computed on examples.
use Rattle.std.specs.Prelude.{◌≡◌, false, List, [], ◌∷◌, ◌++◌, Some, None, replicate}
use Rattle.cv_io.specs.declared.leaf.Who.TheVariants.{Member, Switch, Audit}
use Rattle.events.specs.Reading.{reading}
use Rattle.events.specs.Spelling.{spelling}
use Rattle.events.specs.declared.event.Event.TheVariants.{Up, Msg, Gone, Tick, Take, Policy}

-- a frame of the third switch in its first round: kind 2, switch 2, round 1, and the frame
abbrev pub AFrameIsSpelled : Type 0
AFrameIsSpelled =
    spelling (Msg (record { who = Switch 2; round = 1 }) (0xaa ∷ 0xbb ∷ []))
    ≡ (2 ∷ 1 ∷ 0 ∷ 0 ∷ 0 ∷ 2 ∷ 0 ∷ 0 ∷ 0 ∷ 0 ∷ 0 ∷ 0 ∷ 0 ∷ 1 ∷ []) ++ 0xaa ∷ 0xbb ∷ []

-- a taking of the audit, a second, and an expression
abbrev pub OthersAreSpelled : Type 0
OthersAreSpelled =
    (spelling (Take (record { who = Audit; round = 0 })) ≡ 5 ∷ 2 ∷ replicate 12 0)
    × (spelling (Tick 258) ≡ (4 ∷ 0 ∷ 0 ∷ 0 ∷ 0 ∷ 0 ∷ 0 ∷ []) ++ 1 ∷ 2 ∷ [])
    × (spelling (Policy 3 (97 ∷ [])) ≡ 6 ∷ 0 ∷ 0 ∷ 0 ∷ 3 ∷ 97 ∷ [])

-- the last member comes up; there is no 33rd, no third kind of flag, and no byte behind the fields
abbrev pub BoundsAreKept : Type 0
BoundsAreKept =
    (reading (1 ∷ 0 ∷ 0 ∷ 0 ∷ 0 ∷ 31 ∷ 0 ∷ []) ≡ Some (Up (Member 31) false))
    × (reading (1 ∷ 0 ∷ 0 ∷ 0 ∷ 0 ∷ 32 ∷ 0 ∷ []) ≡ None)
    × (reading (1 ∷ 0 ∷ 0 ∷ 0 ∷ 0 ∷ 31 ∷ 2 ∷ []) ≡ None)
    × (reading (1 ∷ 0 ∷ 0 ∷ 0 ∷ 0 ∷ 31 ∷ 0 ∷ 0 ∷ []) ≡ None)
