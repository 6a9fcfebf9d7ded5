-- What is posted and written for the audit.
use Rattle.std.specs.Prelude.{◌≡◌, ◌⊎◌, ℕ, List, [], ◌∷◌, ◌++◌, Option, All, take, ⊤}
use Rattle.std.specs.List.{flat_map}
use Rattle.outside.specs.Outside.{Rose}
use Rattle.cv_io.specs.declared.leaf.Session.{Session}
use Rattle.cv_io.specs.declared.leaf.Who.TheVariants as whos
use Rattle.sessions.specs.Posts.{taking}
use Rattle.sessions.specs.Streams.{Appends}
use Rattle.sessions.specs.Writing.{taken_in}
use Rattle.sessions.specs.declared.desk.Post.{Post}
use Rattle.endpoint_works.specs.declared.audit.AuditEnd.{AuditEnd}
use Rattle.endpoint_works.specs.declared.audit.AuditEnd.TheVariants as ends

-- the audit's session, which is up in round 0 for ever
abbrev pub audit : Session
audit = record { who = whos.Audit; round = 0 }

abbrev pub IsAudits : Post → Type 0
IsAudits post = (line : List ℕ) × (post ≡ taking audit line)

-- takings of the audit were posted
pub record TakesLines (posts now : List Post) : Type 0 where
  pub more : List Post
  pub each : All IsAudits more
  pub posted : now ≡ posts ++ more

-- lines, each with a line feed
abbrev pub lines : List (List ℕ) → List ℕ
lines taken = flat_map (λ line. line ++ 10 ∷ []) taken

module _ (posts : List Post) (held written : Option (List ℕ)) where
  -- takings of the audit were posted, and what was taken is written
  pub record HasAudited (now : List Post) : Type 0 where
    pub more : List Post
    pub each : All IsAudits more
    pub posted : now ≡ posts ++ more
    pub wrote : Appends held written (lines (taken_in more))

  -- the same, but that the end of what was taken may be cut off
  pub record HasAuditedUpTo (now : List Post) : Type 0 where
    pub more : List Post
    pub each : All IsAudits more
    pub posted : now ≡ posts ++ more
    pub count : ℕ
    pub wrote : Appends held written (take count (lines (taken_in more)))

  -- what is posted and written, by how the writing ended
  abbrev pub AuditPosts : (now : List Post) → AuditEnd → Type 0
  AuditPosts now ends.Ended = HasAudited now
  AuditPosts now ends.WriteFault = HasAuditedUpTo now

-- why the writing ended, of a sink whose faults were so many
abbrev pub IsAuditEnd : (faults risen : ℕ) → AuditEnd → Type 0
IsAuditEnd faults risen ends.Ended = risen ≡ faults
IsAuditEnd faults risen ends.WriteFault = Rose faults risen

-- the writing ends by itself only where the desk told that after so many entries no line waited, or that after so many
-- the audit's session had ended
abbrev pub IsDrained : (ended waits : ℕ → Type 0) → AuditEnd → Type 0
IsDrained ended waits ends.Ended = (at : ℕ) × (waits at ⊎ ended at)
IsDrained ended waits ends.WriteFault = ⊤
