-- Steps of an opening.
use Rattle.std.specs.Prelude.{◌≡◌, ℕ, Bool, List, Option, Some, None, ⊤}
use Rattle.sessions.specs.declared.ends.Greeted.{Greeted}
use Rattle.sessions.specs.declared.ends.OpenEnd.{OpenEnd}
use Rattle.sessions.specs.declared.ends.OpenEnd.TheVariants as ends
use Rattle.sessions.specs.Greetings.{dpid_of, matches_arp, place_of}
use Rattle.sessions.specs.Opening.{IsNoGreeting}
use Rattle.sessions.specs.Reading.{HasKept}
use Rattle.sessions.specs.Streams.{IsCutShort, SourceEnded, SourceFailed}

-- the switch is the one that the features name
pub record IsNamed (dpids reply : List ℕ) (greeted : Greeted) : Type 0 where
  pub switch : place_of (dpid_of reply) dpids ≡ Some greeted.switch
  pub arp : greeted.arp ≡ matches_arp reply

-- they name none of these
abbrev pub IsNotNamed : (dpids reply : List ℕ) → OpenEnd → Type 0
IsNotNamed dpids reply (ends.Unknown dpid) = (dpid ≡ dpid_of reply) × (place_of dpid dpids ≡ None)
IsNotNamed dpids reply _ = ⊥

module _ (before after : Option (List ℕ)) (old new : List ℕ) where
  -- why the first frame is no HELLO
  abbrev pub IsNoFirst : (faults risen : ℕ) → Bool → OpenEnd → Type 0
  IsNoFirst faults risen is_reliable ends.Ended = HasKept before after old new × SourceEnded after new
  IsNoFirst faults risen is_reliable (ends.Short length) = HasKept before after old new × IsCutShort new length
  IsNoFirst faults risen is_reliable ends.NoHello = IsNoGreeting before after old new
  IsNoFirst faults risen is_reliable ends.ReadFault = HasKept before after old new
      × SourceFailed new faults risen is_reliable
  IsNoFirst faults risen is_reliable ends.Memory = ⊤
  IsNoFirst faults risen is_reliable _ = ⊥
