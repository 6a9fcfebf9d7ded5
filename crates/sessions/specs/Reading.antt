-- The next frame, and what a reader posts.
use Rattle.std.specs.Prelude.{◌≡◌, ◌⊎◌, ℕ, Bool, List, [], ◌∷◌, ◌++◌, Option, Result, Ok, Err, All, ⊤}
use Rattle.cv_io.specs.declared.leaf.Session.{Session}
use Rattle.cv_io.specs.declared.memory.Memory.{Memory}
use Rattle.of10_frames.specs.Frames.{IsCut, IsFrame}
use Rattle.sessions.specs.declared.desk.Post.{Post}
use Rattle.sessions.specs.declared.ends.ReadEnd.{ReadEnd}
use Rattle.sessions.specs.declared.ends.ReadEnd.TheVariants as ends
use Rattle.sessions.specs.declared.incoming.Stop.{Stop}
use Rattle.sessions.specs.declared.incoming.Stop.TheVariants as stops
use Rattle.sessions.specs.Posts.{Leaves, going, messages}
use Rattle.sessions.specs.Streams.{IsCutShort, Reads, SourceEnded, SourceFailed, joined}

-- how a reader ends where there is no next frame
abbrev pub read_end : Stop → Result ReadEnd Memory
read_end stops.Ended = Ok ends.Ended
read_end (stops.Short length) = Ok (ends.Short length)
read_end stops.ReadFault = Ok ends.ReadFault
read_end stops.Memory = Err (record {})

module _ (before after : Option (List ℕ)) (old new : List ℕ) where
  -- the frame is the next one of the bytes that were kept and those that were read
  pub record HasNext (frame : List ℕ) : Type 0 where
    pub read : List ℕ
    pub next : Reads before after read
    pub whole : IsFrame frame
    pub parts : old ++ read ≡ frame ++ new

  -- what was read is kept behind what was kept
  pub record HasKept : Type 0 where
    pub read : List ℕ
    pub next : Reads before after read
    pub parts : new ≡ old ++ read

  -- why no frame is given, of a source whose faults were so many
  abbrev pub HasStopped : (faults risen : ℕ) → Bool → Stop → Type 0
  HasStopped faults risen is_reliable stops.Ended = HasKept × SourceEnded after new
  HasStopped faults risen is_reliable (stops.Short length) = HasKept × IsCutShort new length
  HasStopped faults risen is_reliable stops.ReadFault = HasKept × SourceFailed new faults risen is_reliable
  HasStopped faults risen is_reliable stops.Memory = (read : List ℕ) × Reads before after read

module _ (before after : Option (List ℕ)) (old : List ℕ) (session : Session) (posts : List Post) where
  -- the first frames of the bytes that were kept and those that were read are posted, and these bytes are left of them
  pub record HasPosted (now : List Post) (left : List ℕ) : Type 0 where
    pub read : List ℕ
    pub next : Reads before after read
    pub frames : List (List ℕ)
    pub whole : All IsFrame frames
    pub parts : old ++ read ≡ joined frames ++ left
    pub posted : now ≡ posts ++ messages session frames

  -- the frames before the first one that found the session ended are posted
  pub record HasFoundEnded (now : List Post) (left : List ℕ) : Type 0 where
    pub refused : List ℕ
    pub whole : IsFrame refused
    pub front : HasPosted now (refused ++ left)

  -- what is posted where no further frame comes, and why none does
  abbrev pub HasHeard : (now : List Post) (left : List ℕ) (faults risen : ℕ) → Bool → Stop → Type 0
  HasHeard now left faults risen is_reliable stops.Ended = HasPosted now left × SourceEnded after left
  HasHeard now left faults risen is_reliable (stops.Short length) = HasPosted now left × IsCutShort left length
  HasHeard now left faults risen is_reliable stops.ReadFault = HasPosted now left
      × SourceFailed left faults risen is_reliable
  HasHeard now left faults risen is_reliable stops.Memory = (rest : List ℕ) × HasPosted now rest

  -- every frame is posted, and then that the session went
  pub record HasPostedAll (ended : ℕ → Type 0) (now : List Post) (left : List ℕ) : Type 0 where
    pub read : List ℕ
    pub next : Reads before after read
    pub frames : List (List ℕ)
    pub cut : IsCut (old ++ read) frames left
    pub posted : Leaves ended (posts ++ messages session frames) now session

  -- what a reader posts, by how it ended
  abbrev pub ReaderPosts : (ended : ℕ → Type 0) (now : List Post) (left : List ℕ) → ReadEnd → Type 0
  ReaderPosts ended now left (ends.Closed at) = HasFoundEnded now left × ended at
  ReaderPosts ended now left _ = HasPostedAll ended now left

  -- some of the first frames are posted, and perhaps that the session went
  pub record HasPostedSome (now : List Post) : Type 0 where
    pub heard : List Post
    pub left : List ℕ
    pub front : HasPosted heard left
    pub posted : (now ≡ heard) ⊎ (now ≡ heard ++ going session ∷ [])

-- why a reader ended, of a source whose faults were so many
abbrev pub IsReadEnd : (after : Option (List ℕ)) (left : List ℕ) (faults risen : ℕ) (is_reliable : Bool) → ReadEnd
    → Type 0
IsReadEnd after left faults risen is_reliable ends.Ended = SourceEnded after left
IsReadEnd after left faults risen is_reliable (ends.Short length) = IsCutShort left length
IsReadEnd after left faults risen is_reliable ends.ReadFault = SourceFailed left faults risen is_reliable
IsReadEnd after left faults risen is_reliable (ends.Closed at) = ⊤
