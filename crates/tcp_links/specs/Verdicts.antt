-- What the bytes that a peer sent so far come to.
use Rattle.std.specs.Prelude.{◌≡◌, ◌⊎◌, ℕ, Bool, true, false, List, [], ◌++◌, Option, Some, Result, Ok, Err}
use Rattle.cv_io.specs.declared.memory.Memory.{Memory}
use Rattle.of10_frames.specs.Frames.{IsFrame, IsUnfinished}
use Rattle.sessions.specs.declared.ends.Greeted.{Greeted}
use Rattle.sessions.specs.declared.ends.OpenEnd.{OpenEnd}
use Rattle.sessions.specs.declared.ends.OpenEnd.TheVariants as ends
use Rattle.sessions.specs.Greetings.{is_hello, to_switch}
use Rattle.sessions.specs.Opening.{HasNoFeatures, IsBeginning, IsKnown, IsNoGreeting, IsUnknown, IsWaiting}
use Rattle.sessions.specs.Streams.{IsCutShort}
use Rattle.tcp_links.specs.declared.opening.Verdict.{Verdict}
use Rattle.tcp_links.specs.declared.opening.Verdict.TheVariants as verdicts

-- what the end of an opening over memory says: at the end of the bytes it asks for more, and a sink in memory fails
-- for want of memory alone
abbrev pub verdict_of : {T : Type 0} → Result T OpenEnd → Result (Verdict T) Memory
verdict_of (Ok peer) = Ok (verdicts.Open peer)
verdict_of (Err ends.Ended) = Ok verdicts.More
verdict_of (Err (ends.Short len)) = Ok (verdicts.Refused (ends.Short len))
verdict_of (Err ends.NoHello) = Ok (verdicts.Refused ends.NoHello)
verdict_of (Err ends.NoFeatures) = Ok (verdicts.Refused ends.NoFeatures)
verdict_of (Err (ends.Unknown dpid)) = Ok (verdicts.Refused (ends.Unknown dpid))
verdict_of (Err ends.ReadFault) = Ok (verdicts.Refused ends.ReadFault)
verdict_of (Err ends.WriteFault) = Err (record {})
verdict_of (Err ends.Memory) = Err (record {})

-- the bytes begin with a whole frame, which is a HELLO or is none
pub record BeginsWith (greets : Bool) (bytes : List ℕ) : Type 0 where
  pub first : List ℕ
  pub rest : List ℕ
  pub whole : IsFrame first
  pub hello : is_hello first ≡ greets
  pub parts : bytes ≡ first ++ rest

-- the bytes begin with a header that gives this length, which is below 8
pub record BeginsShort (len : ℕ) (bytes : List ℕ) : Type 0 where
  pub first : List ℕ
  pub rest : List ℕ
  pub short : IsCutShort first len
  pub parts : bytes ≡ first ++ rest

-- what the bytes of a controller come to: its first frame has to be a HELLO
abbrev pub IsJudgedMember : {T : Type 0} → List ℕ → Verdict T → Type 0
IsJudgedMember bytes verdicts.More = IsUnfinished bytes
IsJudgedMember bytes (verdicts.Open peer) = BeginsWith true bytes
IsJudgedMember bytes (verdicts.Refused ends.Ended) = ⊥
IsJudgedMember bytes (verdicts.Refused (ends.Short len)) = BeginsShort len bytes
IsJudgedMember bytes (verdicts.Refused ends.NoHello) = BeginsWith false bytes
IsJudgedMember bytes (verdicts.Refused ends.NoFeatures) = ⊥
IsJudgedMember bytes (verdicts.Refused (ends.Unknown dpid)) = ⊥
IsJudgedMember bytes (verdicts.Refused ends.ReadFault) = ⊥
IsJudgedMember bytes (verdicts.Refused ends.WriteFault) = ⊥
IsJudgedMember bytes (verdicts.Refused ends.Memory) = ⊥

module _ (dpids bytes answer : List ℕ) where
  module _ (left kept : List ℕ) where
    -- neither the HELLO nor, behind it, the features came yet; these bytes are left over
    abbrev pub IsOnTheWay : Type 0
    IsOnTheWay = IsBeginning (Some bytes) (Some left) [] kept (Some []) (Some answer)
        ⊎ IsWaiting (Some bytes) (Some left) [] kept (Some []) (Some answer)

    -- what the bytes of a switch come to, of which these are left: as its opening says it at a source that tells them,
    -- and a sink that holds what is sent
    abbrev pub SaysOfSwitch : Verdict Greeted → Type 0
    SaysOfSwitch verdicts.More = IsOnTheWay × IsUnfinished kept × (left ≡ [])
    SaysOfSwitch (verdicts.Open greeted) =
        IsKnown (Some bytes) (Some left) [] kept (Some []) (Some answer) dpids greeted
    SaysOfSwitch (verdicts.Refused ends.Ended) = ⊥
    SaysOfSwitch (verdicts.Refused (ends.Short len)) = IsOnTheWay × IsCutShort kept len
    SaysOfSwitch (verdicts.Refused ends.NoHello) =
        IsNoGreeting (Some bytes) (Some left) [] kept × (answer ≡ to_switch [])
    SaysOfSwitch (verdicts.Refused ends.NoFeatures) =
        HasNoFeatures (Some bytes) (Some left) [] kept (Some []) (Some answer)
    SaysOfSwitch (verdicts.Refused (ends.Unknown dpid)) =
        IsUnknown (Some bytes) (Some left) [] kept (Some []) (Some answer) dpids dpid
    SaysOfSwitch (verdicts.Refused ends.ReadFault) = ⊥
    SaysOfSwitch (verdicts.Refused ends.WriteFault) = ⊥
    SaysOfSwitch (verdicts.Refused ends.Memory) = ⊥

  -- what the bytes of a switch come to
  pub record IsJudgedSwitch (verdict : Verdict Greeted) : Type 0 where
    pub left : List ℕ
    pub kept : List ℕ
    pub says : SaysOfSwitch left kept verdict
