-- An event goes through its phases, from its moment on, and anew where sessions are slow.
use Rattle.std.proofs.Common.{◌≡◌, ℕ, zero, suc, ◌-◌, true, false, true≢false, List, [], ◌∷◌, arith, map, refl, sym, ap}
use Rattle.std.proofs.Common.{◌∙◌, ◌<◌, ◌^◌, length, subst}
use Rattle.std.specs.Prelude.{◌==◌, cond}
use Rattle.std.specs.List.{AllByRecursion}
use Rattle.std.proofs.lemmas.Bool.Decides.{nat_tests}
use Rattle.std.proofs.lemmas.List.{length-map}
use Rattle.policies.specs.Policies.{PolicyOf}
use Rattle.machine_meaning.specs.Acting.{act, act_on}
use Rattle.machine_meaning.specs.Composing.{compose}
use Rattle.machine_meaning.specs.Drafts.{Draft, untouched}
use Rattle.machine_drafts.specs.Machines.{at_moment, bases_of, state_in_held}
use Rattle.machine_drafts.specs.MemberDrafts.{MemberDraftOf}
use Rattle.machine_drafts.specs.Moments.{moment_of}
use Rattle.machine_drafts.specs.Outcomes.{AreTimely, Bases, IsBefore, bases}
use Rattle.machine_drafts.specs.Outcomes.{HaveNumbers}
use Rattle.machine_meaning.specs.Phases.{both, draft_of, is_empty, overfilled, slow_from, slow_with}
use Rattle.machine_meaning.specs.Rounds.{Closing, close}
use Rattle.machine_meaning.specs.Settling.{settle}
use Rattle.machine_meaning.specs.States.{State}
use Rattle.machine_meaning.specs.Telling.{tell}
use Rattle.machine_drafts.specs.Views.{member_of}
use Rattle.events.specs.declared.event.Event.{Event}
use Rattle.machine_drafts.specs.declared.held.Held.{Held}
use Rattle.machine_drafts.specs.declared.outcome.Outcome.{Outcome}
use Rattle.events.specs.declared.event.Event.TheVariants.{Up, Msg, Gone, Tick, Take, Policy}

-- what an event does from its moment on is what it does
pub act_at : (p : PolicyOf) (s : State) (e : Event) → act_on p e (untouched (at_moment (moment_of e s.moment) s))
    ≡ act p s e
act_at p s (Up who arp) = refl
act_at p s (Msg session frame) = refl
act_at p s (Gone session) = refl
act_at p s (Tick second) = refl
act_at p s (Take session) = refl
act_at p s (Policy v text) = refl

-- the moment of an event is the same once it is told
pub moment_again : (e : Event) (now : ℕ) → moment_of e (moment_of e now) ≡ moment_of e now
moment_again (Up who arp) now = refl
moment_again (Msg session frame) now = refl
moment_again (Gone session) now = refl
moment_again (Tick second) now = refl
moment_again (Take session) now = refl
moment_again (Policy v text) now = refl

-- where others are put more than they may be it is tried again
pub slow_again : (p : PolicyOf) (s : State) (e : Event) (c more : Closing) (n : ℕ)
    → overfilled s (draft_of p s e c) ≡ more
    → is_empty more ≡ false → slow_from (suc n) p s e c ≡ slow_from n p s e (both c more)
slow_again p s e c more n is some =
    ap (λ z. slow_with z (slow_from n p s e) c) is ∙ ap (λ b. cond b c (slow_from n p s e (both c more))) some

-- and where none are, or as often as there are sessions, it is done
pub slow_done : (p : PolicyOf) (s : State) (e : Event) (c : Closing) (n : ℕ)
    → is_empty (overfilled s (draft_of p s e c)) ≡ true
    → slow_from n p s e c ≡ c
slow_done p s e c zero none = refl
slow_done p s e c (suc n) none =
    ap (λ b. cond b c (slow_from n p s e (both c (overfilled s (draft_of p s e c))))) none

-- so where it is the last time, or none are
pub slow_settled : (p : PolicyOf) (s : State) (e : Event) (c : Closing) (n : ℕ)
    → ((n == 0) ≡ false → is_empty (overfilled s (draft_of p s e c)) ≡ true) → slow_from n p s e c ≡ c
slow_settled p s e c zero none = refl
slow_settled p s e c (suc n) none =
    let more : (suc n == 0) ≡ false = grind (arith, nat_tests) in slow_done p s e c (suc n) (none more)

-- and else it is tried once less
pub slow_more : (p : PolicyOf) (s : State) (e : Event) (c more : Closing) (n : ℕ) → (n == 0) ≡ false
    → overfilled s (draft_of p s e c) ≡ more → is_empty more ≡ false
    → slow_from (n - 1) p s e (both c more) ≡ slow_from n p s e c
slow_more p s e c more zero last is some = absurd (true≢false last)
slow_more p s e c more (suc n) last is some =
    let less : suc n - 1 ≡ n = omega arith in
    ap (λ k. slow_from k p s e (both c more)) less ∙ sym (slow_again p s e c more n is some)

-- the phases one after the other
pub all_phases : (p : PolicyOf) (s : State) (e : Event) (c : Closing) (begun acted closed settled composed told : Draft)
    → begun ≡ untouched (at_moment (moment_of e s.moment) s) → acted ≡ act_on p e begun → closed ≡ close c acted
    → settled ≡ settle p closed → composed ≡ compose p settled → told ≡ tell p s composed → told ≡ draft_of p s e c
all_phases p s e c begun acted closed settled composed told is_begun is_acted is_closed is_settled is_composed is_told =
    is_told ∙ ap (tell p s) (is_composed ∙ ap (compose p) (is_settled ∙ ap (settle p) (is_closed ∙ ap (close c)
    (is_acted ∙ (ap (act_on p e) is_begun ∙ act_at p s e)))))

-- what stands beside a draft is as the event began
pub stands_before : (now : ℕ) (h : Held) → IsBefore (bases_of now h) (state_in_held h)
stands_before now h = record { members = refl; switches = refl; standing = refl; counts = refl; owed = refl }

-- each member's draft knows the moment as the draft begins
knows_moment : {X : Type 0} (now : ℕ) (xs : List X) → AllByRecursion (λ moment. moment ≡ now) (map (λ x. now) xs)
knows_moment now [] = tt
knows_moment now (x ∷ xs) = (refl, knows_moment now xs)

pub timely_begun : (now : ℕ) (h : Held) → AreTimely (bases_of now h)
timely_begun now h = knows_moment now (map member_of h.members)

-- there are few members
pub few_of : (o : Outcome) (b : Bases) → bases o ≡ b → HaveNumbers b → length o.members < 2 ^ 32
few_of o b beside few =
    subst (λ (k : ℕ). k < 2 ^ 32)
    (sym (sym (length-map o.members (λ (x : MemberDraftOf). x.base)) ∙ ap (λ (z : Bases). length z.members) beside))
    few.members
