-- Numbers that are left after events and takings were left before them.
use Rattle.std.proofs.Common.{ℕ, zero, suc, ◌+◌, ◌<◌, ◌^◌, List, [], ◌∷◌}
use Rattle.std.specs.List.{AllByRecursion}
use Rattle.cv_io.specs.declared.leaf.Who.{Who}
use Rattle.cv_io.specs.declared.leaf.Who.TheVariants.{Audit, Member, Switch}
use Rattle.events.specs.declared.event.Event.{Event}
use Rattle.policies.specs.Policies.{PolicyOf}
use Rattle.machine_meaning.specs.Lists.{changed_at}
use Rattle.machine_meaning.specs.Runs.{after}
use Rattle.machine_meaning.specs.Sound.{HasNumbers}
use Rattle.machine_meaning.specs.States.{MemberOf, State}
use Rattle.machine_meaning.proofs.TypedSteps.{cookie_fits, numbers_left}
use Rattle.replay_report.specs.Sessions.{sessions_of}
use Rattle.replay_report.specs.Takings.{does, emptied, emptied_member, takes_of}
use Rattle.replay_report.specs.declared.sessions.Named.{Named}

-- a cookie fits 64 bits
abbrev pub Fits : State → Type 0
Fits s = s.next_cookie < 2 ^ 64

abbrev HasNext : MemberOf → Type 0
HasNext x = x.kept.table.next + 1 < 2 ^ 64

serials_before : (n : ℕ) (ms : List MemberOf) → AllByRecursion HasNext (changed_at n emptied_member ms)
    → AllByRecursion HasNext ms
serials_before n [] h = tt
serials_before zero (x ∷ ms) h = (h.0, h.1)
serials_before (suc n) (x ∷ ms) h = (h.0, serials_before n ms h.1)

emptied_before : (who : Who) (s : State) → HasNumbers (emptied who s) → HasNumbers s
emptied_before (Member n) s h = record { cookies = h.cookies; serials = serials_before n s.members h.serials }
emptied_before (Switch n) s h = record { cookies = h.cookies; serials = h.serials }
emptied_before Audit s h = record { cookies = h.cookies; serials = h.serials }

emptied_fits : (who : Who) (s : State) → Fits s → Fits (emptied who s)
emptied_fits (Member n) s h = h
emptied_fits (Switch n) s h = h
emptied_fits Audit s h = h

taken_before : (xs : List Named) (s : State) → HasNumbers (takes_of xs s).state → HasNumbers s
taken_before [] s h = h
taken_before (x ∷ xs) s h = emptied_before x.who s (taken_before xs (emptied x.who s) h)

taken_fits : (xs : List Named) (s : State) → Fits s → Fits (takes_of xs s).state
taken_fits [] s h = h
taken_fits (x ∷ xs) s h = taken_fits xs (emptied x.who s) (emptied_fits x.who s h)

-- an event of a replay
pub does_fits : (p : PolicyOf) (e : Event) (s : State) → Fits s → Fits (does p e s).state
unfolding does
does_fits p e s h =
    taken_fits (sessions_of p) (emptied Audit (after p s e)) (emptied_fits Audit (after p s e) (cookie_fits p s e h))

pub does_after : (p : PolicyOf) (e : Event) (s : State) → HasNumbers (does p e s).state → HasNumbers (after p s e)
unfolding does
does_after p e s h = emptied_before Audit (after p s e) (taken_before (sessions_of p) (emptied Audit (after p s e)) h)

pub does_before : (p : PolicyOf) (e : Event) (s : State) → Fits s → HasNumbers (does p e s).state → HasNumbers s
does_before p e s fits h = numbers_left p (e ∷ []) s fits (does_after p e s h)
