-- Connections one after the other.
use Rattle.std.proofs.Common.{◌≡◌, ◌⊎◌, ℕ, Bool, true, List, [], ◌∷◌, ◌++◌, Option, refl, subst, inl, inr}
use Rattle.outside.specs.Connections.{Connection}
use Rattle.cv_io.specs.declared.leaf.Session.{Session}
use Rattle.sessions.specs.declared.desk.Post.{Post}
use Rattle.endpoint_works.specs.Chains.{AreRounds, IsGiven, IsRound}
use Rattle.endpoint_works.specs.Rounds.{RoundPosts, RoundWants}
use Rattle.endpoint_works.specs.declared.round.RoundEnd.{RoundEnd}
use Rattle.endpoint_works.specs.declared.side.Side.{Side}

module _ {P : Type 0} (posts : P → List Post) (ended : P → Session → ℕ → Type 0) (later : P → P
    → Type 0) (side : Side) where
  -- a round that wanted memory or not is one where memory is known to be wanted
  pub round-wanted : (wanted : Bool) (bytes : Option (List ℕ)) (reads : Bool) (held : Option (List ℕ)) (writes : Bool)
      (v w : P)
      → IsRound posts ended later side wanted bytes reads held writes v w
      → IsRound posts ended later side true bytes reads held writes v w
  round-wanted wanted bytes reads held writes v w r = record {
    since = r.since;
    after = r.after;
    faults = r.faults;
    risen = r.risen;
    posted = by r.posted;
  }
    where
      by : ((end : RoundEnd) × RoundPosts side bytes r.after held writes (posts v) (posts w) (ended w) r.faults r.risen
          reads end)
          ⊎ ((wanted ≡ true) × RoundWants side bytes r.after held writes (posts v) (posts w))
          → ((end : RoundEnd) × RoundPosts side bytes r.after held writes (posts v) (posts w) (ended w) r.faults r.risen
          reads end)
          ⊎ ((true ≡ true) × RoundWants side bytes r.after held writes (posts v) (posts w))
      by (inl p) = inl p
      by (inr q) = inr (refl, q.1)

  pub given-wanted : (wanted : Bool) (links left : Option (List Connection)) (v w : P)
      → IsGiven posts ended later side wanted links left v w → IsGiven posts ended later side true links left v w
  given-wanted wanted links left v w g = record {
    bytes = g.bytes;
    reads = g.reads;
    held = g.held;
    writes = g.writes;
    gives = g.gives;
    round = round-wanted wanted g.bytes g.reads g.held g.writes v w g.round;
  }

  pub rounds-wanted : (wanted : Bool) (links left : Option (List Connection)) (v w : P) (us : List P)
      → AreRounds posts ended later side wanted links left v w us
      → AreRounds posts ended later side true links left v w us
  rounds-wanted wanted links left v w [] h = h
  rounds-wanted wanted links left v w (u ∷ us) h =
      (h.0, given-wanted wanted links h.0 v u h.1, rounds-wanted wanted h.0 left u w us h.2)

  -- one connection more
  pub rounds-more : (wanted : Bool) (links middle left : Option (List Connection)) (v u w : P) (us : List P)
      → AreRounds posts ended later side wanted links middle v u us
      → IsGiven posts ended later side wanted middle left u w
      → AreRounds posts ended later side wanted links left v w (us ++ w ∷ [])
  rounds-more wanted links middle left v u w [] h g = (
    left,
    subst (λ a. IsGiven posts ended later side wanted links left a w) h.1
        (subst (λ a. IsGiven posts ended later side wanted a left u w) h.0 g),
    (refl, refl),
  )
  rounds-more wanted links middle left v u w (x ∷ us) h g =
      (h.0, h.1, rounds-more wanted h.0 middle left x u w us h.2 g)
