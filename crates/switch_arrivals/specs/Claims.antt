-- The claims to a datapath id: when a connection is given, when one gives way, and which newcomer goes.
use Rattle.std.specs.Prelude.{ℕ, ◌==◌, ◌-◌, ◌&&◌, Bool, true, false, List, [], ◌∷◌, ◌++◌, Option, Some, None}
use Rattle.std.specs.Prelude.{if◌then◌else◌, is_some, map, nat_le, not}
use Rattle.std.specs.List.{IsDistinct, list_any}
use Rattle.switch_arrivals.specs.declared.claim.Claim.{Claim}
use Rattle.switch_arrivals.specs.declared.claim.Duel.{Duel}
use Rattle.switch_arrivals.specs.declared.claim.Duel.TheVariants.{Open, Up, Over}
use Rattle.switch_arrivals.specs.declared.claim.Holder.{Holder}
use Rattle.switch_arrivals.specs.declared.claim.Holder.TheVariants.{Nobody, Given, Asked, Replaced}
use Rattle.switch_arrivals.specs.declared.claim.Newcomer.{Newcomer}

-- a second has passed since the last connection was given, if one was
abbrev pub is_rested : (now : ℕ) → Option ℕ → Bool
is_rested now None = true
is_rested now (Some last) = nat_le 1000 (now - last)

module _ {L : Type 0} where
  -- no connection is given
  abbrev pub is_nobody : Holder L → Bool
  is_nobody Nobody = true
  is_nobody (Given life) = false
  is_nobody (Asked life since) = false
  is_nobody (Replaced life) = false

  -- a connection that is given was asked whether it is up
  abbrev pub is_asked : Holder L → Bool
  is_asked Nobody = false
  is_asked (Given life) = false
  is_asked (Asked life since) = true
  is_asked (Replaced life) = false

  -- what is kept of the connection that is given
  abbrev pub life_of : Holder L → Option L
  life_of Nobody = None
  life_of (Given life) = Some life
  life_of (Asked life since) = Some life
  life_of (Replaced life) = Some life

  -- a connection that is given is asked whether it is up; one that was asked isn't asked anew
  abbrev pub asked : (now : ℕ) → Holder L → Holder L
  asked now Nobody = Nobody
  asked now (Given life) = Asked life now
  asked now (Asked life since) = Asked life since
  asked now (Replaced life) = Replaced life

  -- it was asked, and is up
  abbrev pub stood : Holder L → Holder L
  stood Nobody = Nobody
  stood (Given life) = Given life
  stood (Asked life since) = Given life
  stood (Replaced life) = Replaced life

  -- it was asked, and is shut down
  abbrev pub shut : Holder L → Holder L
  shut Nobody = Nobody
  shut (Given life) = Given life
  shut (Asked life since) = Replaced life
  shut (Replaced life) = Replaced life

module _ {L C : Type 0} where
  -- nobody claims this datapath id
  abbrev pub unclaimed : ℕ → Claim L C
  unclaimed dpid = record { dpid = dpid; holder = Nobody; newcomer = None; last = None }

  -- who was heard from since it was asked is up; who wasn't in 3 seconds is not
  abbrev pub outcome : (since heard now : ℕ) → Option (Newcomer L C) → Duel L C
  outcome since heard now newcomer =
      if nat_le since heard then Up newcomer else (if nat_le 3000 (now - since) then Over else Open)

  -- how the duel stands, if there is one
  abbrev pub duel_by : Holder L → (heard now : ℕ) → Option (Newcomer L C) → Duel L C
  duel_by Nobody heard now newcomer = Open
  duel_by (Given life) heard now newcomer = Open
  duel_by (Asked life since) heard now newcomer = outcome since heard now newcomer
  duel_by (Replaced life) heard now newcomer = Open

  -- how the duel of these claims stands
  abbrev pub duel_of : Claim L C → (heard now : ℕ) → Duel L C
  duel_of c heard now = duel_by c.holder heard now c.newcomer

  -- what a duel leaves: the one that is given and no newcomer, or a newcomer and one that is shut down
  abbrev pub settled : Duel L C → Claim L C → Claim L C
  settled Open c = c
  settled (Up newcomer) c = record c { holder = stood c.holder; newcomer = None }
  settled Over c = record c { holder = shut c.holder }

  -- a newcomer waits, and no connection is given
  abbrev pub is_awaited : Claim L C → Bool
  is_awaited c = is_nobody c.holder && is_some c.newcomer

  -- the newcomer can be given: none is, and a second has passed since the last one was
  abbrev pub is_givable : (now : ℕ) → Claim L C → Bool
  is_givable now c = is_awaited c && is_rested now c.last

  -- what is given of a newcomer
  abbrev pub link_of : Option (Newcomer L C) → Option C
  link_of None = None
  link_of (Some newcomer) = Some newcomer.link

  -- what is given
  abbrev pub givable : (now : ℕ) → Claim L C → Option C
  givable now c = if is_givable now c then link_of c.newcomer else None

  -- the claims once a newcomer was given
  abbrev pub with_given : (now : ℕ) → Option (Newcomer L C) → Claim L C → Claim L C
  with_given now None c = c
  with_given now (Some newcomer) c = record c { holder = Given newcomer.life; newcomer = None; last = Some now }

  -- the claims once the newcomer was given, where it can be
  abbrev pub after_giving : (now : ℕ) → Claim L C → Claim L C
  after_giving now c = if is_givable now c then with_given now c.newcomer c else c

  -- each datapath id once
  abbrev pub AreApart : List (Claim L C) → Type 0
  AreApart claims = IsDistinct ◌==◌ (map (λ (c : Claim L C). c.dpid) claims)

  -- it is of this datapath id
  abbrev pub is_of : ℕ → Claim L C → Bool
  is_of dpid c = dpid == c.dpid

  -- a connection of this datapath id is given
  abbrev pub has_given : ℕ → Claim L C → Bool
  has_given dpid c = (dpid == c.dpid) && not (is_nobody c.holder)

  -- a datapath id is known from then on
  abbrev pub known : ℕ → List (Claim L C) → List (Claim L C)
  known dpid claims = if list_any (is_of dpid) claims then claims else claims ++ unclaimed dpid ∷ []
