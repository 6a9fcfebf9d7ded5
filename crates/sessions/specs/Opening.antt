-- How connections are opened, by the bytes that are read.
use Rattle.std.specs.Prelude.{◌≡◌, ◌⊎◌, ◌<◌, ℕ, Bool, true, false, List, [], ◌++◌, Option, Some, None, All, length, ⊤}
use Rattle.of10_frames.specs.Frames.{IsFrame}
use Rattle.sessions.specs.declared.ends.Greeted.{Greeted}
use Rattle.sessions.specs.declared.ends.OpenEnd.{OpenEnd}
use Rattle.sessions.specs.declared.ends.OpenEnd.TheVariants as ends
use Rattle.sessions.specs.Greetings.{dpid_of, hello_message, is_features, is_hello, matches_arp, place_of, to_switch}
use Rattle.sessions.specs.Reading.{HasKept, HasNext}
use Rattle.sessions.specs.Streams.{Appends, AppendsSome, IsCutShort, Reads, SinkFailed, SourceEnded, SourceFailed}
use Rattle.sessions.specs.Streams.{joined}

module _ (before after : Option (List ℕ)) (old new : List ℕ) where
  -- the first frame is a HELLO, and the bytes behind it are kept
  pub record IsGreeted : Type 0 where
    pub hello : List ℕ
    pub first : HasNext before after old new hello
    pub greets : is_hello hello ≡ true

  -- the first frame is none, and the bytes behind it are kept
  pub record IsNoGreeting : Type 0 where
    pub other : List ℕ
    pub first : HasNext before after old new other
    pub greets : is_hello other ≡ false

  -- nothing was read
  pub record IsUnread : Type 0 where
    pub left : after ≡ before
    pub kept : new ≡ old

  -- why no HELLO came, of a source whose faults were so many
  abbrev pub IsNotOpened : (faults risen : ℕ) → Bool → OpenEnd → Type 0
  IsNotOpened faults risen is_reliable ends.Ended = HasKept before after old new × SourceEnded after new
  IsNotOpened faults risen is_reliable (ends.Short length) = HasKept before after old new × IsCutShort new length
  IsNotOpened faults risen is_reliable ends.NoHello = IsNoGreeting
  IsNotOpened faults risen is_reliable ends.NoFeatures = ⊥
  IsNotOpened faults risen is_reliable (ends.Unknown dpid) = ⊥
  IsNotOpened faults risen is_reliable ends.ReadFault = HasKept before after old new
      × SourceFailed new faults risen is_reliable
  IsNotOpened faults risen is_reliable ends.WriteFault = IsUnread
  IsNotOpened faults risen is_reliable ends.Memory = ⊤

-- a controller is written a HELLO, whatever it sends
abbrev pub IsNotGreeted : (held now : Option (List ℕ)) (faults risen wants wanted : ℕ) → Bool → OpenEnd → Type 0
IsNotGreeted held now faults risen wants wanted is_reliable ends.WriteFault = AppendsSome held now hello_message
    × SinkFailed faults risen wants wanted is_reliable
IsNotGreeted held now faults risen wants wanted is_reliable ends.Memory = AppendsSome held now hello_message
IsNotGreeted held now faults risen wants wanted is_reliable _ = Appends held now hello_message

module _ (before after : Option (List ℕ)) (old : List ℕ) where
  -- a HELLO came, then these frames, none of which tells a switch's features, and then these bytes
  pub record HasPassed (passed : List (List ℕ)) (left : List ℕ) : Type 0 where
    pub read : List ℕ
    pub next : Reads before after read
    pub hello : List ℕ
    pub first : IsFrame hello
    pub greets : is_hello hello ≡ true
    pub whole : All IsFrame passed
    pub others : All (λ frame. is_features frame ≡ false) passed
    pub parts : old ++ read ≡ hello ++ (joined passed ++ left)

module _ (before after : Option (List ℕ)) (old new : List ℕ) (held now : Option (List ℕ)) where
  -- the frame tells the switch's features, behind a HELLO and fewer than 64 others, of which the ECHO_REQUESTs are
  -- answered; the bytes behind it are kept
  pub record HasFeatures (reply : List ℕ) : Type 0 where
    pub passed : List (List ℕ)
    pub came : HasPassed before after old passed (reply ++ new)
    pub few : length passed < 64
    pub whole : IsFrame reply
    pub features : is_features reply ≡ true
    pub written : Appends held now (to_switch passed)

  -- the switch is the one that its features name
  pub record IsKnown (dpids : List ℕ) (greeted : Greeted) : Type 0 where
    pub reply : List ℕ
    pub came : HasFeatures reply
    pub switch : place_of (dpid_of reply) dpids ≡ Some greeted.switch
    pub arp : greeted.arp ≡ matches_arp reply

  -- its features name none of these
  pub record IsUnknown (dpids : List ℕ) (dpid : ℕ) : Type 0 where
    pub reply : List ℕ
    pub came : HasFeatures reply
    pub named : dpid ≡ dpid_of reply
    pub none : place_of dpid dpids ≡ None

  -- 64 frames came behind the HELLO, and told no features
  pub record HasNoFeatures : Type 0 where
    pub passed : List (List ℕ)
    pub came : HasPassed before after old passed new
    pub many : length passed ≡ 64
    pub written : Appends held now (to_switch passed)

  -- behind the HELLO fewer came
  pub record IsWaiting : Type 0 where
    pub passed : List (List ℕ)
    pub came : HasPassed before after old passed new
    pub few : length passed < 64
    pub written : Appends held now (to_switch passed)

  -- no frame came yet
  pub record IsBeginning : Type 0 where
    pub kept : HasKept before after old new
    pub written : Appends held now (to_switch [])

  -- an answer, or the first of what is written, was cut off
  abbrev pub IsCutOff : Type 0
  IsCutOff = (IsUnread before after old new × AppendsSome held now (to_switch []))
      ⊎ ((passed : List (List ℕ)) × HasPassed before after old passed new × AppendsSome held now (to_switch passed))

  -- why a switch is not opened: of a source and a sink whose faults were so many
  module _ (dpids : List ℕ) (faults risen : ℕ) (is_reliable : Bool) (sink_faults sink_risen wants wanted : ℕ)
      (is_sound : Bool) where
    abbrev pub IsNoSwitch : OpenEnd → Type 0
    IsNoSwitch ends.Ended = (IsBeginning ⊎ IsWaiting) × SourceEnded after new
    IsNoSwitch (ends.Short length) = (IsBeginning ⊎ IsWaiting) × IsCutShort new length
    IsNoSwitch ends.NoHello = IsNoGreeting before after old new × Appends held now (to_switch [])
    IsNoSwitch ends.NoFeatures = HasNoFeatures
    IsNoSwitch (ends.Unknown dpid) = IsUnknown dpids dpid
    IsNoSwitch ends.ReadFault = (IsBeginning ⊎ IsWaiting) × SourceFailed new faults risen is_reliable
    IsNoSwitch ends.WriteFault = IsCutOff × SinkFailed sink_faults sink_risen wants wanted is_sound
    IsNoSwitch ends.Memory = ⊤
