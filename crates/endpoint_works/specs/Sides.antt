-- Who is at the other end of an endpoint's connections, and how these are opened.
use Rattle.std.specs.Prelude.{◌≡◌, ◌<◌, ◌^◌, ℕ, Bool, true, false, List, [], Option, length, ⊤}
use Rattle.cv_io.specs.declared.leaf.Who.{Who}
use Rattle.cv_io.specs.declared.leaf.Who.TheVariants as whos
use Rattle.sessions.specs.Opening.{IsGreeted, IsKnown, IsNoSwitch, IsNotOpened}
use Rattle.sessions.specs.declared.ends.Greeted.{Greeted}
use Rattle.sessions.specs.declared.ends.OpenEnd.{OpenEnd}
use Rattle.endpoint_works.specs.declared.side.Side.{Side}
use Rattle.endpoint_works.specs.declared.side.Side.TheVariants as sides

-- who is the audit, which is at no endpoint
abbrev pub is_audit : Who → Bool
is_audit (whos.Member n) = false
is_audit (whos.Switch n) = false
is_audit whos.Audit = true

-- whoever can come up there is served
abbrev pub IsServedSide : (Who → Type 0) → Side → Type 0
IsServedSide serves (sides.Member index) = serves (whos.Member index)
IsServedSide serves (sides.Switch dpids) =
    (length dpids < 2 ^ 32) × ((n : ℕ) → n < length dpids → serves (whos.Switch n))

-- what a connection's sink held and counted as it was opened, and then
pub record SinkSeen : Type 0 where
  pub held : Option (List ℕ)
  pub now : Option (List ℕ)
  pub faults : ℕ
  pub risen : ℕ
  pub wants : ℕ
  pub wanted : ℕ
  pub is_reliable : Bool

abbrev pub seen : Option (List ℕ) → Option (List ℕ) → (faults risen wants wanted : ℕ) → Bool → SinkSeen
seen held now faults risen wants wanted is_reliable = record {
  held = held;
  now = now;
  faults = faults;
  risen = risen;
  wants = wants;
  wanted = wanted;
  is_reliable = is_reliable;
}

-- there are not too many
abbrev pub IsFew : Side → Type 0
IsFew (sides.Member index) = ⊤
IsFew (sides.Switch dpids) = length dpids < 2 ^ 32

module _ (before after : Option (List ℕ)) (kept : List ℕ) (sink : SinkSeen) where
  -- the connection was opened: who came up, and whether it matches ARP addresses; what was read behind is kept
  abbrev pub IsOpenedFor : Side → Who → Bool → Type 0
  IsOpenedFor (sides.Member index) who arp =
      (who ≡ whos.Member index) × (arp ≡ false) × IsGreeted before after [] kept
  IsOpenedFor (sides.Switch dpids) who arp =
      (greeted : Greeted) × (who ≡ whos.Switch greeted.switch) × (arp ≡ greeted.arp)
      × IsKnown before after [] kept sink.held sink.now dpids greeted

  -- why it was not, of a source whose faults were so many
  abbrev pub IsUnopened : Side → (faults risen : ℕ) → Bool → OpenEnd → Type 0
  IsUnopened (sides.Member index) faults risen is_reliable end =
      IsNotOpened before after [] kept faults risen is_reliable end
  IsUnopened (sides.Switch dpids) faults risen is_reliable end =
      IsNoSwitch before after [] kept sink.held sink.now dpids faults risen is_reliable sink.faults sink.risen
      sink.wants
      sink.wanted sink.is_reliable end
