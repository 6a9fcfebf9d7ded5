-- What a work posts that writes to the connections of an endpoint.
use Rattle.std.specs.Prelude.{◌≡◌, ◌⊎◌, ℕ, Bool, true, false, List, ◌++◌, All}
use Rattle.cv_io.specs.declared.leaf.Session.{Session}
use Rattle.sessions.specs.Posts.{going, second_told, taking}
use Rattle.sessions.specs.declared.desk.Post.{Post}
use Rattle.endpoint_works.specs.Sides.{is_audit}

-- a taking of an endpoint's session
abbrev pub IsTaking : Post → Type 0
IsTaking post = (session : Session) × (is_audit session.who ≡ false)
    × ((message : List ℕ) × (post ≡ taking session message))

-- a second that a clock may answer
abbrev pub IsSecond : (may : ℕ → Type 0) → Post → Type 0
IsSecond may post = (second : ℕ) × may second × (post ≡ second_told second)

-- that an endpoint's session went
abbrev pub IsGoing : Post → Type 0
IsGoing post = (session : Session) × (is_audit session.who ≡ false) × (post ≡ going session)

-- a taking or a second; or, where a writing was cut off, a going
abbrev pub IsSenders : (may : ℕ → Type 0) → Bool → Post → Type 0
IsSenders may cut post = IsTaking post ⊎ (IsSecond may post ⊎ ((cut ≡ true) × IsGoing post))

-- such posts were made, and no others
pub record HasSent (may : ℕ → Type 0) (cut : Bool) (posts now : List Post) : Type 0 where
  pub more : List Post
  pub each : All (IsSenders may cut) more
  pub posted : now ≡ posts ++ more
