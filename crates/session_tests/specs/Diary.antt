-- The rule of a machine that leaves the audit a line once a session said something.
use Rattle.std.specs.Prelude.{◌≡◌, ◌⊎◌, ◌&&◌, ◌||◌, not, ℕ, Bool, true, false, List, refl, if◌then◌else◌}
use Rattle.std.proofs.Common.{inl, inr}
use Rattle.cv_io.specs.declared.leaf.Session.{Session}
use Rattle.cv_io.specs.declared.leaf.Who.{Who}
use Rattle.endpoint_works.specs.Sides.{is_audit}
use Rattle.events.specs.declared.event.Event.{Event}
use Rattle.events.specs.declared.event.Event.TheVariants.{Up, Msg, Gone, Tick, Take, Policy}
use Rattle.events.specs.declared.event.Reply.{Reply}
use Rattle.events.specs.declared.event.Reply.TheVariants.{Opened, Done, Taken, Empty, Closed}
use Rattle.lock_desk.specs.Hosts.{IsDone, IsHeard, IsOpened, IsOver, IsTaken}

-- its line; whether that waits, and whether the session is up
abbrev pub DiaryOf : Type 0
DiaryOf = List ℕ × (Bool × Bool)

abbrev pub is_up : DiaryOf → Bool
is_up d = d.1.1

-- the line waits, and it is the audit that asks
abbrev pub gives : DiaryOf → Session → Bool
gives d session = d.1.0 && is_audit session.who

abbrev pub next : DiaryOf → Event → DiaryOf
next d (Up who arp) = (d.0, (d.1.0, true))
next d (Msg session frame) = if is_up d then (d.0, (true, true)) else d
next d (Gone session) = if is_up d then (d.0, (d.1.0, false)) else d
next d (Take session) = if gives d session then (d.0, (false, is_up d)) else d
next d _ = d

-- of what is taken: the line, nothing, or that the session has ended
abbrev pub taken : (is_given is_open : Bool) → List ℕ → Reply
taken is_given is_open line = if is_given then Taken line else if is_open then Empty else Closed

abbrev pub reply : DiaryOf → Event → Reply
reply d (Up who arp) = Opened 1
reply d (Msg session frame) = if is_up d then Done else Closed
reply d (Gone session) = if is_up d then Done else Closed
reply d (Take session) = taken (gives d session) (is_up d || is_audit session.who) d.0
reply d (Tick second) = Done
reply d (Policy v text) = Closed

abbrev pub idle : DiaryOf → Event → Bool
idle d (Up who arp) = false
idle d (Msg session frame) = not (is_up d)
idle d (Gone session) = not (is_up d)
idle d (Take session) = not (gives d session)
idle d _ = true

unless : {D : Type 0} (b : Bool) (changed d : D) → not b ≡ true → (if b then changed else d) ≡ d
unless true changed d e = absurd (cc)
unless false changed d e = refl

done : (b : Bool) → not b ≡ false → (if b then Done else Closed) ≡ Done
done true e = refl
done false e = absurd (cc)

pub stays : (d : DiaryOf) (e : Event) → idle d e ≡ true → next d e ≡ d
stays d (Up who arp) e = absurd (cc)
stays d (Msg session frame) e = unless (is_up d) (d.0, (true, true)) d e
stays d (Gone session) e = unless (is_up d) (d.0, (d.1.0, false)) d e
stays d (Take session) e = unless (gives d session) (d.0, (false, is_up d)) d e
stays d (Tick second) e = refl
stays d (Policy v text) e = refl

pub opens : (d : DiaryOf) (who : Who) (arp : Bool) → IsOpened idle reply d who arp
opens d who arp = (refl, (1, refl))

over : (d : DiaryOf) (session : Session) → not (is_up d) ≡ true → IsOver reply d session
over d session e = (λ frame. unless (is_up d) Done Closed e, unless (is_up d) Done Closed e)

pub hears : (d : DiaryOf) (session : Session) (frame : List ℕ) → IsHeard idle reply d session (Msg session frame)
hears d session frame = (done (is_up d), λ e. (unless (is_up d) Done Closed e, over d session e))

pub goes : (d : DiaryOf) (session : Session) → IsHeard idle reply d session (Gone session)
goes d session = (done (is_up d), λ e. (unless (is_up d) Done Closed e, over d session e))

pub ticks : (d : DiaryOf) (second : ℕ) → IsDone idle reply d (Tick second)
ticks d second = λ _. refl

pub takes : (d : DiaryOf) (session : Session) → IsTaken idle reply d session
takes d session = (
  found (gives d session) (is_up d || is_audit session.who),
  nothing (gives d session) (is_up d) (is_audit session.who) (over d session),
)
  where
    found : (g o : Bool) → not g ≡ false → (message : List ℕ) × (taken g o d.0 ≡ Taken message)
    found true o e = (d.0, refl)
    found false o e = absurd (cc)

    nothing : (g up audit : Bool) → (not up ≡ true → IsOver reply d session) → not g ≡ true
        → (taken g (up || audit) d.0 ≡ Empty) ⊎ ((taken g (up || audit) d.0 ≡ Closed) × IsOver reply d session)
    nothing true up audit ends e = absurd (cc)
    nothing false true audit ends e = inl refl
    nothing false false true ends e = inl refl
    nothing false false false ends e = inr (refl, ends refl)
