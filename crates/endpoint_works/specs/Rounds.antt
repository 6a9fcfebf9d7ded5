-- What is posted of one connection.
use Rattle.std.specs.Prelude.{◌≡◌, ◌≢◌, ◌⊎◌, ℕ, Bool, true, List, [], ◌∷◌, ◌++◌, Option}
use Rattle.cv_io.specs.declared.leaf.Session.{Session}
use Rattle.cv_io.specs.declared.leaf.Who.{Who}
use Rattle.sessions.specs.Posts.{coming_up}
use Rattle.sessions.specs.Reading.{HasPostedSome, IsReadEnd, ReaderPosts}
use Rattle.sessions.specs.declared.desk.Post.{Post}
use Rattle.sessions.specs.declared.ends.OpenEnd.{OpenEnd}
use Rattle.sessions.specs.declared.ends.OpenEnd.TheVariants as opens
use Rattle.sessions.specs.declared.ends.ReadEnd.{ReadEnd}
use Rattle.endpoint_works.specs.Sides.{IsOpenedFor, IsUnopened, SinkSeen}
use Rattle.endpoint_works.specs.declared.round.RoundEnd.{RoundEnd}
use Rattle.endpoint_works.specs.declared.round.RoundEnd.TheVariants as ends
use Rattle.endpoint_works.specs.declared.side.Side.{Side}

abbrev pub in_round : Who → ℕ → Session
in_round who round = record { who = who; round = round }

-- the sink is one that held these bytes, and fails as is told
abbrev pub IsSink : Option (List ℕ) → Bool → SinkSeen → Type 0
IsSink held writes sink = (sink.held ≡ held) × (sink.is_reliable ≡ writes)

-- of a source that had `before` to give, and then `after`, and a sink that held `held`
module _ (side : Side) (before after held : Option (List ℕ)) (writes : Bool) (posts now : List Post) where
  -- the connection was opened, and its session came up
  pub record CameUp : Type 0 where
    pub sink : SinkSeen
    pub began : IsSink held writes sink
    pub middle : Option (List ℕ)
    pub kept : List ℕ
    pub who : Who
    pub arp : Bool
    pub round : ℕ
    pub opened : IsOpenedFor before middle kept sink side who arp

  -- the posts as it came up
  abbrev pub up_posts : CameUp → List Post
  up_posts up = posts ++ coming_up up.who up.arp up.round ∷ []

  -- then the frames of what was read behind the opening were posted, and that the session went, or those up to the
  -- first that found it ended
  pub record WasRead (ended : Session → ℕ → Type 0) (risen : ℕ) (is_reliable : Bool) (end : ReadEnd) : Type 0 where
    pub up : CameUp
    pub faults : ℕ
    pub left : List ℕ
    pub posted :
        ReaderPosts up.middle after up.kept (in_round up.who up.round) (up_posts up) (ended (in_round up.who up.round))
        now left end
    pub why : IsReadEnd after left faults risen is_reliable end

  -- or nothing was posted, since it was not opened: for another cause than want of memory, of which a sink fails that
  -- never does but for that
  pub record WasUnopened (faults risen : ℕ) (is_reliable : Bool) (end : OpenEnd) : Type 0 where
    pub sink : SinkSeen
    pub began : IsSink held writes sink
    pub kept : List ℕ
    pub why : IsUnopened before after kept sink side faults risen is_reliable end
    pub found : end ≢ opens.Memory
    pub sound : writes ≡ true → end ≢ opens.WriteFault
    pub posted : now ≡ posts

  abbrev pub RoundPosts : (ended : Session → ℕ → Type 0) (faults risen : ℕ) → Bool → RoundEnd → Type 0
  RoundPosts ended faults risen is_reliable (ends.Unopened end) = WasUnopened faults risen is_reliable end
  RoundPosts ended faults risen is_reliable (ends.Read end) = WasRead ended risen is_reliable end

  -- for want of memory nothing was posted, or that it came up, some of the first frames, and perhaps that it went
  abbrev pub RoundWants : Type 0
  RoundWants =
      (now ≡ posts)
      ⊎ ((up : CameUp) × HasPostedSome up.middle after up.kept (in_round up.who up.round) (up_posts up) now)
