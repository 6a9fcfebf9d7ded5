-- What a frame of a member comes to, once it is judged.
use Rattle.std.proofs.Common.{◌≡◌, ℕ, zero, suc, ◌<◌, Bool, true, false, List, [], ◌∷◌, Option, Some, None, Result}
use Rattle.std.proofs.Common.{Ok, length, refl, ap, ap₂, subst, ◌∙◌, arith}
use Rattle.std.specs.Prelude.{◌==◌, ◌&&◌, nat_le, option_map, slice_get}
use Rattle.std.proofs.lemmas.Bool.Decides.{nat_tests}
use Rattle.std.proofs.lemmas.Option.{slice_get-map}
use Rattle.grants.specs.declared.denial.Denial.{Denial}
use Rattle.grants.specs.declared.grant.Grant.{Grant}
use Rattle.of10_actions.specs.declared.effects.PortView.{PortView}
use Rattle.of10_frames.specs.Frames.{IsFrame}
use Rattle.of10_frames.specs.Wire.{length_field}
use Rattle.of10_msgs.specs.Senders.{reading_of_controller}
use Rattle.of10_msgs.specs.declared.fault.FormFault.{FormFault}
use Rattle.of10_msgs.specs.declared.message.Body.{Body}
use Rattle.of10_msgs.specs.declared.message.Message.{Message}
use Rattle.member_state.specs.States.{HeldState, MemberStateOf}
use Rattle.policies.specs.Policies.{PolicyOf}
use Rattle.policies.specs.declared.policy.MemberItem.{MemberItem}
use Rattle.machine_meaning.specs.Denials.{denial}
use Rattle.machine_meaning.specs.Drafts.{Draft}
use Rattle.machine_meaning.specs.Glances.{is_frame}
use Rattle.event_acts.specs.InsideJudging.{IsJudged, IsServed}
use Rattle.machine_drafts.specs.MemberDrafts.{MemberDraftOf}
use Rattle.machine_meaning.specs.MemberMessages.{denial_of, hears_from, hears_member, judged, refuse, serve, serve_read}
use Rattle.machine_meaning.specs.Names.{all_ports, virtual_of}
use Rattle.machine_drafts.specs.Outcomes.{members_in}
use Rattle.machine_meaning.specs.States.{MemberOf}
use Rattle.event_acts.specs.declared.judging.Judged.{Judged}
use Rattle.event_acts.specs.declared.judging.Judged.TheVariants.{Refused, Served}
use Rattle.event_acts.specs.declared.judging.Request.{Request}

-- a frame that is refused
pub heard_refused : (p : PolicyOf) (n : ℕ) (m : MemberItem) (x : MemberOf) (frame : List ℕ) (denied : Denial)
    (d : Draft) → slice_get p.members n ≡ Some m → slice_get d.state.members n ≡ Some x
    → denial_of p m x frame ≡ Some denied
    → hears_member p n frame d ≡ refuse n m frame denied d
heard_refused p n m x frame denied d item there e =
    ap₂ (λ (a : Option MemberItem) (b : Option MemberOf). hears_from p n a b frame d) item there
    ∙ ap (λ (o : Option Denial). judged p n m x frame o d) e

-- a frame that is served
pub heard_served : (p : PolicyOf) (n : ℕ) (m : MemberItem) (x : MemberOf) (frame : List ℕ) (xid : ℕ) (body : Body)
    (d : Draft) → slice_get p.members n ≡ Some m → slice_get d.state.members n ≡ Some x
    → denial_of p m x frame ≡ None → reading_of_controller frame ≡ Ok (record { xid = xid; body = body })
    → hears_member p n frame d ≡ serve p n m x xid body d
heard_served p n m x frame xid body d item there e read =
    ap₂ (λ (a : Option MemberItem) (b : Option MemberOf). hears_from p n a b frame d) item there
    ∙ (ap (λ (o : Option Denial). judged p n m x frame o d) e
    ∙ ap (λ (r : Result Message FormFault). serve_read p n m x r d) read)

-- a frame of nobody
pub heard_of_none : (p : PolicyOf) (n : ℕ) (frame : List ℕ) (d : Draft) → slice_get p.members n ≡ None
    → hears_member p n frame d ≡ d
heard_of_none p n frame d e =
    ap (λ (a : Option MemberItem). hears_from p n a (slice_get d.state.members n) frame d) e

without_draft : (p : PolicyOf) (n : ℕ) (frame : List ℕ) (d : Draft) (m : Option MemberItem)
    → hears_from p n m None frame d ≡ d
without_draft p n frame d None = refl
without_draft p n frame d (Some m) = refl

pub heard_past : (p : PolicyOf) (n : ℕ) (frame : List ℕ) (d : Draft) → slice_get d.state.members n ≡ None
    → hears_member p n frame d ≡ d
heard_past p n frame d e =
    ap (λ (b : Option MemberOf). hears_from p n (slice_get p.members n) b frame d) e
    ∙ without_draft p n frame d (slice_get p.members n)

-- the draft of a member, as the draft of all has it
pub member_in : (xs : List MemberDraftOf) (n : ℕ) (x : MemberDraftOf) → slice_get xs n ≡ Some x
    → slice_get (members_in xs) n ≡ Some x.now
member_in xs n x there =
    slice_get-map (λ (z : MemberDraftOf). z.now) xs n
    ∙ ap (λ (o : Option MemberDraftOf). option_map (λ (z : MemberDraftOf). z.now) o) there

-- what was judged by what stands is so of the draft, where nothing is drafted yet
pub denied_as : (p : PolicyOf) (m : MemberItem) (x : MemberDraftOf) (frame : List ℕ) (o : Option Denial)
    → x.now.kept ≡ x.base.kept.state → denial m.grant (all_ports p (virtual_of m)) x.base.kept.state frame ≡ o
    → denial_of p m x.now frame ≡ o
denied_as p m x frame o kept e =
    ap (λ (k : MemberStateOf). denial m.grant (all_ports p (virtual_of m)) k frame) kept ∙ e

-- what is known of a frame, by what came of it
pub refused_so : (g : Grant) (v : PortView) (h : HeldState) (now : ℕ) (frame : List ℕ) (q : Judged) (denied : Denial)
    → q ≡ Refused denied → IsJudged g v h now frame q → denial g v h.state frame ≡ Some denied
refused_so g v h now frame q denied e j = subst (λ (r : Judged). IsJudged g v h now frame r) e j

pub served_so : (g : Grant) (v : PortView) (h : HeldState) (now : ℕ) (frame : List ℕ) (q : Judged) (xid : ℕ)
    (request : Request) → q ≡ Served xid request → IsJudged g v h now frame q → IsServed g v h now frame xid request
served_so g v h now frame q xid request e j = subst (λ (r : Judged). IsJudged g v h now frame r) e j

-- something is found within a list
pub found_at : {A : Type 0} (xs : List A) (n : ℕ) → n < length xs → (x : A) × (slice_get xs n ≡ Some x)
found_at [] n lt = absurd (omega arith)
found_at (x ∷ xs) zero lt = (x, refl)
found_at (x ∷ xs) (suc n) lt = found_at xs n (omega arith)

-- bytes that are one whole frame
pub whole_frame : (frame : List ℕ) → is_frame frame ≡ true → IsFrame frame
whole_frame frame e = by (nat_le 8 (length frame)) (length_field frame == length frame) refl refl e
  where
    by : (a b : Bool) → nat_le 8 (length frame) ≡ a → (length_field frame == length frame) ≡ b → (a && b) ≡ true
        → IsFrame frame
    by true true x y e = record { header = grind (arith, nat_tests); whole = grind (arith, nat_tests) }
    by true false x y e = absurd (cc)
    by false b x y e = absurd (cc)
