-- Rounds: takings, messages of other rounds, and a session that takes its messages too slowly.
use Rattle.std.specs.Prelude.{◌≡◌, refl, ℕ, [], ◌∷◌, ◌++◌, codes, map, replicate}
use Rattle.cv_io.specs.declared.leaf.Session.{Session}
use Rattle.cv_io.specs.declared.leaf.Who.TheVariants.{Member, Audit}
use Rattle.of10_msgs.specs.Spelling.{body_bytes}
use Rattle.of10_msgs.specs.declared.message.Body.TheVariants.{EchoReply, EchoRequest}
use Rattle.policy_setting.specs.OfPolicies.{seen, sees_its}
use Rattle.machine_meaning.specs.Drafts.{message}
use Rattle.machine_meaning.specs.Runs.{run_of}
use Rattle.machine_meaning.specs.States.{MemberOf, State, opening}
use Rattle.machine_meaning.specs.Steps.{step_of}
use Rattle.machine_meaning.specs.WorkedPolicies.{built_in}
use Rattle.machine_meaning.specs.WorkedSteps.{member_up, of_member, waiting_for}
use Rattle.events.specs.declared.event.Event.TheVariants.{Gone, Take}
use Rattle.events.specs.declared.event.Reply.TheVariants.{Closed, Done, Empty, Opened, Taken}

-- a round of the member
abbrev pub of_round : ℕ → Session
of_round round = record { who = Member 0; round = round }

-- it comes up twice
abbrev pub twice : State
twice = run_of built_in (member_up 0 ∷ member_up 0 ∷ [])

abbrev pub RoundsAreAnswered : Type 0
RoundsAreAnswered =
    ((step_of built_in (opening built_in) (member_up 0)).0 ≡ Opened 1)
    × ((step_of built_in (run_of built_in (member_up 0 ∷ [])) (member_up 0)).0 ≡ Opened 2)
    × (step_of built_in twice (of_member 0 9 (EchoRequest [])) ≡ (Closed, twice))
    × (step_of built_in twice (Take (of_round 1)) ≡ (Closed, twice))
    × (step_of built_in twice (Take (of_round 2)) ≡ (Empty, twice))
    × (step_of built_in twice (Take (of_round 3)) ≡ (Empty, twice))
    × (step_of built_in twice (Take (record { who = Audit; round = 0 })) ≡ (Empty, twice))
    × (step_of built_in twice (Take (record { who = Member 1; round = 1 })) ≡ (Closed, twice))

pub rounds_answered : RoundsAreAnswered
unfolding body_bytes seen sees_its
rounds_answered = (refl, refl, refl, refl, refl, refl, refl, refl)

-- an echo waits, and is taken
abbrev pub echoed : State
echoed = run_of built_in (member_up 0 ∷ of_member 0 9 (EchoRequest (1 ∷ 2 ∷ [])) ∷ [])

abbrev pub AnEchoIsTaken : Type 0
AnEchoIsTaken =
    (step_of built_in echoed (Take (of_round 1))
    ≡ (Taken (message 9 (EchoReply (1 ∷ 2 ∷ []))), run_of built_in (member_up 0 ∷ [])))

pub echo_taken : AnEchoIsTaken
unfolding body_bytes seen sees_its
echo_taken = refl

-- so many messages wait for the member
abbrev pub with_waiting : ℕ → State → State
with_waiting n s =
    record s {
      members = map (λ (x : MemberOf). record x { outbox = record x.outbox { waiting = replicate n [] } })
          s.members;
    }

-- it is put one more where fewer than 4,096 wait, and else closed
abbrev pub ASlowMemberIsClosed : Type 0
ASlowMemberIsClosed =
    (waiting_for (Member 0)
    (step_of built_in (with_waiting 4095 (run_of built_in (member_up 0 ∷ []))) (of_member 0 9 (EchoRequest []))).1
    ≡ replicate 4095 [] ++ message 9 (EchoReply []) ∷ [])
    × (step_of built_in (with_waiting 4096 (run_of built_in (member_up 0 ∷ []))) (of_member 0 9 (EchoRequest []))
    ≡ (Done, record (run_of built_in (member_up 0 ∷ Gone (of_round 1) ∷ [])) { audit = codes "slow app@v1" ∷ [] }))

pub slow_closed : ASlowMemberIsClosed
unfolding body_bytes seen sees_its
slow_closed = (refl, refl)
