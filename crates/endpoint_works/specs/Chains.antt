-- What a work posts of all connections of an endpoint.
use Rattle.std.specs.Prelude.{◌≡◌, ◌⊎◌, ℕ, Bool, true, List, [], ◌∷◌, Option}
use Rattle.outside.specs.Connections.{Connection, Gives}
use Rattle.cv_io.specs.declared.leaf.Session.{Session}
use Rattle.sessions.specs.declared.desk.Post.{Post}
use Rattle.endpoint_works.specs.Rounds.{RoundPosts, RoundWants}
use Rattle.endpoint_works.specs.declared.round.RoundEnd.{RoundEnd}
use Rattle.endpoint_works.specs.declared.side.Side.{Side}

-- of passes, by their posts, after how many entries they saw a session ended, and how they go on
module _ {P : Type 0} (posts : P → List Post) (ended : P → Session → ℕ → Type 0) (later : P → P → Type 0)
    (side : Side) (wanted : Bool) where
  -- the pass v, which is w later, posted what is to be posted of one connection, whose source had these bytes to give
  pub record IsRound (bytes : Option (List ℕ)) (reads : Bool) (held : Option (List ℕ)) (writes : Bool) (v w : P) : Type
      0 where
    pub since : later v w
    pub after : Option (List ℕ)
    pub faults : ℕ
    pub risen : ℕ
    pub posted :
        ((end : RoundEnd) × RoundPosts side bytes after held writes (posts v) (posts w) (ended w) faults risen reads
        end)
        ⊎ ((wanted ≡ true) × RoundWants side bytes after held writes (posts v) (posts w))

  -- the dial, which had the connections `links` to give, gave one and has `left` then; the pass v posted of it, and is
  -- w
  pub record IsGiven (links left : Option (List Connection)) (v w : P) : Type 0 where
    pub bytes : Option (List ℕ)
    pub reads : Bool
    pub held : Option (List ℕ)
    pub writes : Bool
    pub gives : Gives links left bytes reads held writes
    pub round : IsRound bytes reads held writes v w

  -- the pass as it was after each connection in turn
  abbrev pub AreRounds : (links left : Option (List Connection)) (v w : P) → List P → Type 0
  AreRounds links left v w [] = (left ≡ links) × (w ≡ v)
  AreRounds links left v w (u ∷ us) = (middle : Option (List Connection)) × IsGiven links middle v u
      × AreRounds middle left u w us
