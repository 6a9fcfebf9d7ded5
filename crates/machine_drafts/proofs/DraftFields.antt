-- Drafts of which a few fields change.
use Rattle.std.proofs.Common.{◌≡◌, ℕ, Bool, true, false, List, [], ◌∷◌, ◌++◌, length, map, ap, ap₂, ◌∙◌, arith}
use Rattle.std.specs.Prelude.{◌==◌}
use Rattle.std.proofs.lemmas.Bool.Decides.{nat_tests}
use Rattle.of10_frames.specs.Wire.{xid_field}
use Rattle.grants.specs.declared.denial.Denial.{Denial}
use Rattle.member_replies.specs.Refusals.{deny_line, refusal}
use Rattle.of10_msgs.specs.declared.message.Body.TheVariants.{BarrierReply}
use Rattle.policies.specs.Policies.{PolicyOf}
use Rattle.policies.specs.declared.policy.MemberItem.{MemberItem}
use Rattle.waitings.specs.Waitings.{is_of_ports, unwritten}
use Rattle.waitings.specs.declared.state.Part.{Part}
use Rattle.waitings.specs.declared.state.Purpose.{Purpose}
use Rattle.waitings.specs.declared.state.Purpose.TheVariants.{Barrier}
use Rattle.machine_meaning.specs.Barriers.{barrier_asked, barrier_for, unanswered_of}
use Rattle.machine_meaning.specs.Drafts.{Draft, answering, letter, message}
use Rattle.machine_meaning.specs.MemberMessages.{refuse}
use Rattle.machine_drafts.specs.Outcomes.{draft_in, state_in}
use Rattle.machine_meaning.specs.Polls.{begin_poll, begin_waiting, switches_up}
use Rattle.machine_meaning.specs.Statistics.{asker}
use Rattle.machine_drafts.specs.declared.outcome.Outcome.{Outcome}
use Rattle.machine_meaning.specs.declared.said.Asked.{Asked}
use Rattle.machine_meaning.specs.declared.said.Letter.{Letter}

-- a message is refused
pub refused : (o : Outcome) (n : ℕ) (m : MemberItem) (frame : List ℕ) (denied : Denial) (answers : List Letter)
    (denials : List (List ℕ)) (bytes line : List ℕ) → answers ≡ o.answers ++ letter n bytes ∷ []
    → bytes ≡ refusal denied frame → line ≡ deny_line m.controller m.vsw (xid_field frame) denied
    → denials ≡ o.denials ++ line ∷ []
    → draft_in (record o { answers = answers; denials = denials }) ≡ refuse n m frame denied (draft_in o)
refused o n m frame denied answers denials bytes line a b l d =
    ap₂ (λ (ls : List Letter) (ds : List (List ℕ)). draft_in (record o { answers = ls; denials = ds }))
    (a ∙ ap (λ (bs : List ℕ). o.answers ++ letter n bs ∷ []) b) (d ∙ ap (λ (one : List ℕ). o.denials ++ one ∷ []) l)

-- a poll begins
pub polled : (p : PolicyOf) (v : ℕ) (purpose : Purpose) (o o1 : Outcome) (parts : List Part) (asked : List Asked)
    (ports : Bool) → draft_in o1 ≡ begin_waiting v parts purpose (draft_in o)
    → parts ≡ map unwritten (switches_up p (state_in o) v) → ports ≡ is_of_ports purpose
    → asked ≡ o1.asked ++ record { v = v; ports = ports } ∷ []
    → draft_in (record o1 { asked = asked }) ≡ begin_poll p v purpose (draft_in o)
polled p v purpose o o1 parts asked ports w ps is a =
    ap (λ (xs : List Asked). record (draft_in o1) { asked = xs })
    (a ∙ ap (λ (b : Bool). o1.asked ++ record { v = v; ports = b } ∷ []) is)
    ∙ ap (λ (d : Draft). record d { asked = d.asked ++ record { v = v; ports = is_of_ports purpose } ∷ [] })
    (w ∙ ap (λ (qs : List Part). begin_waiting v qs purpose (draft_in o)) ps)

-- a member's barrier is answered at once, where it waits for none, and else waits
pub barrier_now : (p : PolicyOf) (n v xid : ℕ) (d : Draft) (parts : List Part) (bytes : List ℕ)
    → parts ≡ unanswered_of p d.state v → (length parts == 0) ≡ true → bytes ≡ message xid BarrierReply
    → answering n (bytes ∷ []) d ≡ barrier_asked p n v xid d
barrier_now p n v xid d [] bytes e none b =
    ap (λ (one : List ℕ). answering n (one ∷ []) d) b ∙ ap (λ (qs : List Part). barrier_for n v xid qs d) e
barrier_now p n v xid d (part ∷ parts) bytes e none b =
    let zero : length (part ∷ parts) ≡ 0 = grind (arith, nat_tests) in absurd (omega arith)

pub barrier_later : (p : PolicyOf) (n v xid : ℕ) (d : Draft) (parts : List Part)
    → parts ≡ unanswered_of p d.state v → (length parts == 0) ≡ false
    → begin_waiting v parts (Barrier (asker n xid)) d ≡ barrier_asked p n v xid d
barrier_later p n v xid d [] e some = absurd (cc)
barrier_later p n v xid d (part ∷ parts) e some = ap (λ (qs : List Part). barrier_for n v xid qs d) e
