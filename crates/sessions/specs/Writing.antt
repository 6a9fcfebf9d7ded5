-- What a writer posts and writes.
use Rattle.std.specs.Prelude.{◌≡◌, ◌⊎◌, ◌≤◌, ℕ, List, [], ◌∷◌, ◌++◌, Option, All, take, Bool, ⊤}
use Rattle.std.specs.List.{flat_map}
use Rattle.cv_io.specs.declared.leaf.Session.{Session}
use Rattle.events.specs.declared.event.Event.{Event}
use Rattle.events.specs.declared.event.Event.TheVariants as events
use Rattle.events.specs.declared.event.Reply.{Reply}
use Rattle.events.specs.declared.event.Reply.TheVariants as replies
use Rattle.sessions.specs.declared.desk.Post.{Post}
use Rattle.sessions.specs.declared.ends.WriteEnd.{WriteEnd}
use Rattle.sessions.specs.declared.ends.WriteEnd.TheVariants as ends
use Rattle.sessions.specs.Posts.{Leaves, going, second_told, taking}
use Rattle.sessions.specs.Streams.{Appends, SinkBroke, joined}

-- a clock may answer this second, and has answered one as late
abbrev pub IsReached : (may : ℕ → Type 0) (most : ℕ) → ℕ → Type 0
IsReached may most second = (second ≤ most) × may second

-- a taking of the session, or one of these seconds
abbrev pub IsWriters : Session → (ℕ → Type 0) → Post → Type 0
IsWriters session seconds post =
    ((m : List ℕ) × (post ≡ taking session m)) ⊎ ((second : ℕ) × seconds second × (post ≡ second_told second))

-- the message of a taking
abbrev pub message_of : Event → Reply → List (List ℕ)
message_of (events.Take session) (replies.Taken message) = message ∷ []
message_of _ _ = []

-- the messages that were taken, in order
abbrev pub taken_in : List Post → List (List ℕ)
taken_in posts = flat_map (λ post. message_of post.event post.reply) posts

module _ (session : Session) (seconds : ℕ → Type 0) (posts : List Post) (held now_held : Option (List ℕ)) where
  -- takings of the session and seconds were posted, and what was taken is written
  pub record HasWritten (now : List Post) : Type 0 where
    pub more : List Post
    pub each : All (IsWriters session seconds) more
    pub posted : now ≡ posts ++ more
    pub written : Appends held now_held (joined (taken_in more))

  -- the same, but that the last message may be cut off
  pub record HasWrittenUpTo (now : List Post) : Type 0 where
    pub more : List Post
    pub each : All (IsWriters session seconds) more
    pub posted : now ≡ posts ++ more
    pub front : List (List ℕ)
    pub last : List ℕ
    pub messages : taken_in more ≡ front ++ last ∷ []
    pub count : ℕ
    pub written : Appends held now_held (joined front ++ take count last)

  -- where the sink failed: as it wrote the last message, or as it sent what it had collected
  abbrev pub HasWrittenPart : (now : List Post) → Type 0
  HasWrittenPart now = HasWrittenUpTo now ⊎ HasWritten now

  -- what is posted before the session is told to be gone, by how the writing ended
  abbrev pub HasSent : (ended : ℕ → Type 0) (now : List Post) → WriteEnd → Type 0
  HasSent ended now ends.WriteFault = HasWrittenPart now
  HasSent ended now (ends.Closed at) = HasWritten now × ended at

  -- what a writer posts and writes, by how it ended
  abbrev pub WriterPosts : (ended : ℕ → Type 0) (now : List Post) → WriteEnd → Type 0
  WriterPosts ended now ends.WriteFault = (sent : List Post) × HasWrittenPart sent × Leaves ended sent now session
  WriterPosts ended now (ends.Closed at) = HasWritten now × ended at

  -- all that was taken is written, and perhaps it is posted that the session went
  pub record HasWrittenSome (now : List Post) : Type 0 where
    pub sent : List Post
    pub written : HasWritten sent
    pub posted : (now ≡ sent) ⊎ (now ≡ sent ++ going session ∷ [])

  -- where the sink failed as far, and perhaps it is posted that the session went
  pub record HasFailed (now : List Post) : Type 0 where
    pub sent : List Post
    pub written : HasWrittenPart sent
    pub posted : (now ≡ sent) ⊎ (now ≡ sent ++ going session ∷ [])

  -- where memory was wanted: for a post, or by the sink, or once it had failed
  abbrev pub HasNoMemory : (failed : Type 0) (now : List Post) → Type 0
  HasNoMemory failed now = HasWrittenSome now ⊎ (failed × HasFailed now)

-- why a writer ended, of a sink whose faults and wants were so many
abbrev pub IsWriteEnd : (faults risen wants wanted : ℕ) (is_reliable : Bool) → WriteEnd → Type 0
IsWriteEnd faults risen wants wanted is_reliable ends.WriteFault = SinkBroke faults risen wants wanted is_reliable
IsWriteEnd faults risen wants wanted is_reliable (ends.Closed at) = ⊤

-- one of these seconds was posted, or nothing that was not idle
abbrev pub MayTell : (ℕ → Type 0) → List Post → List Post → Type 0
MayTell seconds old new = (new ≡ old) ⊎ ((second : ℕ) × seconds second × (new ≡ old ++ second_told second ∷ []))
