-- What was judged before a draft begins was judged of the draft.
use Rattle.std.proofs.Common.{◌≡◌, ℕ, zero, suc, ◌<◌, List, [], ◌∷◌, Some, length, get_or, set, map, slice_get}
use Rattle.std.proofs.Common.{refl, sym, ap, ap₂, subst, ◌∙◌, arith}
use Rattle.std.proofs.Math.Seq.{map-set_same}
use Rattle.member_state.specs.States.{HeldState, MemberStateOf}
use Rattle.policies.specs.Policies.{PolicyOf}
use Rattle.policies.specs.declared.policy.MemberItem.{MemberItem}
use Rattle.event_acts.specs.InsideHearing.{IsJudgedAt, WasJudged}
use Rattle.event_acts.specs.InsideJudging.{IsJudged}
use Rattle.machine_drafts.specs.MemberDrafts.{MemberDraftOf, standing_member}
use Rattle.machine_meaning.specs.Names.{all_ports, virtual_of}
use Rattle.machine_drafts.specs.Outcomes.{member_bases, members_in, moments_of}
use Rattle.machine_meaning.specs.States.{MemberOf}
use Rattle.machine_drafts.specs.Views.{member_of}
use Rattle.event_acts.specs.declared.judging.Judged.{Judged}
use Rattle.machine_drafts.specs.declared.outcome.Outcome.{Outcome}
use Rattle.machine_drafts.specs.declared.session.Member.{Member}
use Rattle.event_acts.proofs.Changes.{one_there}

-- what is put at a place is found there
set_found : {A : Type 0} (xs : List A) (n : ℕ) (z : A) → n < length xs → slice_get (set xs n z) n ≡ Some z
set_found [] n z lt = absurd (omega arith)
set_found (x ∷ xs) zero z lt = refl
set_found (x ∷ xs) (suc n) z lt = set_found xs n z (omega arith)

-- a member whose table got room is as it was
pub state_kept : (xs : List Member) (n : ℕ) (d : Member) (k : HeldState) → k.state ≡ (get_or xs n d).kept.state
    → map member_of (set xs n (record (get_or xs n d) { kept = k })) ≡ map member_of xs
state_kept xs n d k e =
    map-set_same member_of xs n (record (get_or xs n d) { kept = k }) d
    (ap (λ (s : MemberStateOf). record (member_of (get_or xs n d)) { kept = s }) e)

-- what was judged of the one at a place was judged there
pub judged_there : (p : PolicyOf) (n now : ℕ) (frame : List ℕ) (judged : Judged) (xs : List Member) (a : MemberItem)
    (z : Member) → n < length xs → slice_get p.members n ≡ Some a
    → IsJudged a.grant (all_ports p (virtual_of a)) z.kept now frame judged
    → IsJudgedAt p (set xs n z) n now frame (Some judged)
judged_there p n now frame judged xs a z lt have j = λ m y item there.
    subst (λ (w : Member). IsJudged m.grant (all_ports p (virtual_of m)) w.kept now frame judged)
    (one_there (set xs n z) n z y (set_found xs n z lt) there)
    (subst (λ (b : MemberItem). IsJudged b.grant (all_ports p (virtual_of b)) z.kept now frame judged)
    (one_there p.members n a m have item) j)

-- a draft that stands as it was is that of a member
pub drafted_at : (now : ℕ) (members : List Member) (n : ℕ) (x : MemberDraftOf)
    → slice_get (map (standing_member now) members) n ≡ Some x
    → (y : Member) × (slice_get members n ≡ Some y) × (standing_member now y ≡ x)
drafted_at now [] n x e = absurd (cc)
drafted_at now (y ∷ members) zero x e = (y, refl, cc)
drafted_at now (y ∷ members) (suc n) x e = drafted_at now members n x e

-- drafts of which moments, bases and members are those of members that stay
as_standing : (now : ℕ) (xs : List MemberDraftOf)
    → moments_of xs ≡ map (λ (x : MemberOf). now) (map member_of (member_bases xs))
    → members_in xs ≡ map member_of (member_bases xs) → xs ≡ map (standing_member now) (member_bases xs)
as_standing now [] m e = refl
as_standing now (x ∷ xs) m e =
    let moment : x.moment ≡ now = cc in
    let same : x.now ≡ member_of x.base = cc in
    let moments : moments_of xs ≡ map (λ (x : MemberOf). now) (map member_of (member_bases xs)) = cc in
    let members : members_in xs ≡ map member_of (member_bases xs) = cc in
    ap₂ (λ (y : MemberDraftOf) (ys : List MemberDraftOf). y ∷ ys)
    (ap₂ (λ (t : ℕ) (z : MemberOf). record { base = x.base; moment = t; now = z }) moment same)
    (as_standing now xs moments members)

pub stand_as : (now : ℕ) (xs : List MemberDraftOf) (members : List Member) → member_bases xs ≡ members
    → moments_of xs ≡ map (λ (x : MemberOf). now) (map member_of members) → members_in xs ≡ map member_of members
    → xs ≡ map (standing_member now) members
stand_as now xs members b m e =
    as_standing now xs
    (m ∙ ap (λ (ys : List Member). map (λ (x : MemberOf). now) (map member_of ys)) (sym b))
    (e ∙ ap (λ (ys : List Member). map member_of ys) (sym b))
    ∙ ap (λ (ys : List Member). map (standing_member now) ys) b

-- where members stand as they were when the frame was judged
pub was_judged : (p : PolicyOf) (members : List Member) (o : Outcome) (n : ℕ) (frame : List ℕ) (judged : Judged)
    → o.members ≡ map (standing_member o.moment) members
    → IsJudgedAt p members n o.moment frame (Some judged) → WasJudged p o n frame judged
was_judged p members o n frame judged stand j = λ m x item there.
    let found = drafted_at o.moment members n x
    (ap (λ (xs : List MemberDraftOf). slice_get xs n) (sym stand) ∙ there) in
    let y = found.0 in
    let is : standing_member o.moment y ≡ x = found.2 in (
      record {
        there = there;
        moment = ap (λ (z : MemberDraftOf). z.moment) (sym is);
        kept = subst (λ (z : MemberDraftOf). z.now.kept ≡ z.base.kept.state) is refl;
      },
      subst (λ (z : MemberDraftOf). IsJudged m.grant (all_ports p (virtual_of m)) z.base.kept o.moment frame judged) is
          (j m y item found.1),
    )
