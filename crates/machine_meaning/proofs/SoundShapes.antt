-- What of a state is sound through all phases of a step: expressions, members, what is waited for, and how many
-- switches there are.
use Rattle.std.proofs.Common.{◌≡◌, ◌∙◌, ℕ, ◌<◌, ◌^◌, Bool, List, [], Some, length, map, filter, not, slice_get, refl}
use Rattle.std.proofs.Common.{sym, ap, subst}
use Rattle.std.specs.List.{AllByRecursion}
use Rattle.policy_expr.specs.Policy.{Policy}
use Rattle.policies.specs.Policies.{PolicyOf}
use Rattle.policies.specs.declared.policy.MemberItem.{MemberItem}
use Rattle.waitings.specs.Waitings.{is_asked_by, without_parts_of}
use Rattle.waitings.specs.declared.state.Waiting.{Waiting}
use Rattle.machine_meaning.specs.Lists.{changed_at}
use Rattle.machine_meaning.specs.Rounds.{begun_member, begun_switch, emptied_at, ended_member, ended_switch}
use Rattle.machine_meaning.specs.Rounds.{with_round, without_member, without_switch}
use Rattle.machine_meaning.specs.Sound.{AreExpressions, IsSoundMember}
use Rattle.machine_meaning.specs.States.{MemberOf, State, SwitchOf}
use Rattle.machine_meaning.proofs.KeptMembers.{EachAt, begun_kept, changed_each, ended_kept}
use Rattle.machine_meaning.proofs.KeptWaiting.{IsAwaited, member_come, member_gone, switch_come, switch_gone}
use Rattle.machine_meaning.proofs.Numbered.{changed_unseen}
use Rattle.machine_meaning.proofs.Readied.{long_changed, map_changed}
use Rattle.machine_meaning.proofs.WhoIsUp.{down, member_up, off, on, switch_up, up}

-- expressions, members, which switches are up, on how many something may stand, what is waited for, the next cookie
pub record Shape : Type 0 where
  pub exprs : List Policy
  pub members : List MemberOf
  pub ups : List Bool
  pub standing : ℕ
  pub waiting : List Waiting
  pub next : ℕ

abbrev pub shape_of : State → Shape
shape_of s = record {
  exprs = s.exprs;
  members = s.members;
  ups = map switch_up s.switches;
  standing = length s.standing;
  waiting = s.waiting;
  next = s.next_cookie;
}

-- what is waited for is of switches and members that are up
abbrev pub AreAwaited : List Bool → List MemberOf → List Waiting → Type 0
AreAwaited ups members waiting = AllByRecursion (IsAwaited ups (map member_up members)) waiting

pub record IsSoundShape (p : PolicyOf) (v : Shape) : Type 0 where
  pub exprs : AreExpressions p v.exprs
  pub all_members : length v.members ≡ length p.members
  pub members : EachAt (IsSoundMember p) p.members v.members
  pub all_switches : length v.ups ≡ length p.switches
  pub all_standing : v.standing ≡ length p.switches
  pub waiting : AreAwaited v.ups v.members v.waiting
  pub begun : 0 < v.next
  pub fits : v.next < 2 ^ 64

module _ (p : PolicyOf) (v : Shape) (h : IsSoundShape p v) where
  -- members change, but not which of them are up
  pub other_members : (members : List MemberOf) → length members ≡ length v.members
      → EachAt (IsSoundMember p) p.members members → map member_up members ≡ map member_up v.members
      → IsSoundShape p (record v { members = members })
  other_members members long each ups = record {
    exprs = h.exprs;
    all_members = long ∙ h.all_members;
    members = each;
    all_switches = h.all_switches;
    all_standing = h.all_standing;
    waiting = subst (λ (us : List Bool). AllByRecursion (IsAwaited v.ups us) v.waiting) (sym ups) h.waiting;
    begun = h.begun;
    fits = h.fits;
  }

  -- one of them does
  pub other_member : (n : ℕ) (f : MemberOf → MemberOf) → ((x : MemberOf) → member_up (f x) ≡ member_up x)
      → ((m : MemberItem) (x : MemberOf) → slice_get p.members n ≡ Some m → slice_get v.members n ≡ Some x
      → IsSoundMember p m x → IsSoundMember p m (f x))
      → IsSoundShape p (record v { members = changed_at n f v.members })
  other_member n f same keeps =
      other_members (changed_at n f v.members) (long_changed n f v.members)
      (changed_each (IsSoundMember p) p.members v.members h.members n f keeps)
      (changed_unseen member_up f same n v.members)

  -- other things are waited for
  pub other_waiting : (waiting : List Waiting) → AreAwaited v.ups v.members waiting
      → IsSoundShape p (record v { waiting = waiting })
  other_waiting waiting w = record {
    exprs = h.exprs;
    all_members = h.all_members;
    members = h.members;
    all_switches = h.all_switches;
    all_standing = h.all_standing;
    waiting = w;
    begun = h.begun;
    fits = h.fits;
  }

  pub other_exprs : (exprs : List Policy) → AreExpressions p exprs → IsSoundShape p (record v { exprs = exprs })
  other_exprs exprs e = record {
    exprs = e;
    all_members = h.all_members;
    members = h.members;
    all_switches = h.all_switches;
    all_standing = h.all_standing;
    waiting = h.waiting;
    begun = h.begun;
    fits = h.fits;
  }

  pub other_next : (next : ℕ) → 0 < next → next < 2 ^ 64 → IsSoundShape p (record v { next = next })
  other_next next begun fits = record {
    exprs = h.exprs;
    all_members = h.all_members;
    members = h.members;
    all_switches = h.all_switches;
    all_standing = h.all_standing;
    waiting = h.waiting;
    begun = begun;
    fits = fits;
  }

  pub other_standing : (standing : ℕ) → standing ≡ v.standing → IsSoundShape p (record v { standing = standing })
  other_standing standing same = subst (λ (k : ℕ). IsSoundShape p (record v { standing = k })) (sym same) h

  pub other_ups : (ups : List Bool) → ups ≡ v.ups → IsSoundShape p (record v { ups = ups })
  other_ups ups same = subst (λ (us : List Bool). IsSoundShape p (record v { ups = us })) (sym same) h

  -- a member goes, and one comes
  member_goes : (n : ℕ) → IsSoundShape p (record v {
    members = changed_at n ended_member v.members;
    waiting = filter (λ (w : Waiting). not (is_asked_by n w)) v.waiting;
  })
  member_goes n = record {
    exprs = h.exprs;
    all_members = long_changed n ended_member v.members ∙ h.all_members;
    members =
        changed_each (IsSoundMember p) p.members v.members h.members n ended_member
        (λ m x at got k. ended_kept p m x k);
    all_switches = h.all_switches;
    all_standing = h.all_standing;
    waiting =
        subst (λ (us : List Bool). AllByRecursion (IsAwaited v.ups us)
        (filter (λ (w : Waiting). not (is_asked_by n w)) v.waiting))
        (sym (map_changed member_up ended_member down (λ x. refl) n v.members))
        (member_gone v.ups (map member_up v.members) v.waiting h.waiting n);
    begun = h.begun;
    fits = h.fits;
  }

  member_comes : (n : ℕ) → IsSoundShape p (record v { members = changed_at n begun_member v.members })
  member_comes n = record {
    exprs = h.exprs;
    all_members = long_changed n begun_member v.members ∙ h.all_members;
    members =
        changed_each (IsSoundMember p) p.members v.members h.members n begun_member
        (λ m x at got k. begun_kept p m x k);
    all_switches = h.all_switches;
    all_standing = h.all_standing;
    waiting =
        subst (λ (us : List Bool). AllByRecursion (IsAwaited v.ups us) v.waiting)
        (sym (map_changed member_up begun_member up (λ x. refl) n v.members))
        (member_come v.ups (map member_up v.members) v.waiting h.waiting n);
    begun = h.begun;
    fits = h.fits;
  }

  -- a switch goes, and one comes
  switch_goes : (n : ℕ) (ups : List Bool) → ups ≡ off v.ups n → (standing : ℕ) → standing ≡ v.standing
      → IsSoundShape p (record v { ups = ups; standing = standing; waiting = map (without_parts_of n) v.waiting })
  switch_goes n ups gone standing same = record {
    exprs = h.exprs;
    all_members = h.all_members;
    members = h.members;
    all_switches = ap length gone ∙ (long_changed n down v.ups ∙ h.all_switches);
    all_standing = same ∙ h.all_standing;
    waiting =
        subst (λ (us : List Bool). AreAwaited us v.members (map (without_parts_of n) v.waiting)) (sym gone)
        (switch_gone v.ups (map member_up v.members) v.waiting h.waiting n);
    begun = h.begun;
    fits = h.fits;
  }

  switch_comes : (n : ℕ) (ups : List Bool) → ups ≡ on v.ups n → (standing : ℕ) → standing ≡ v.standing
      → IsSoundShape p (record v { ups = ups; standing = standing })
  switch_comes n ups come standing same = record {
    exprs = h.exprs;
    all_members = h.all_members;
    members = h.members;
    all_switches = ap length come ∙ (long_changed n up v.ups ∙ h.all_switches);
    all_standing = same ∙ h.all_standing;
    waiting =
        subst (λ (us : List Bool). AreAwaited us v.members v.waiting) (sym come)
        (switch_come v.ups (map member_up v.members) v.waiting h.waiting n);
    begun = h.begun;
    fits = h.fits;
  }

-- rounds ------------------------------------------------------------------------------------------------------------

-- a state of such a shape
abbrev pub IsShaped : PolicyOf → State → Type 0
IsShaped p s = IsSoundShape p (shape_of s)

module _ (p : PolicyOf) (s : State) (h : IsShaped p s) where
  pub member_ended : (n : ℕ) → IsShaped p (without_member n s)
  member_ended n = member_goes p (shape_of s) h n

  pub member_begun : (n : ℕ) → IsShaped p (record s { members = changed_at n begun_member s.members })
  member_begun n = member_comes p (shape_of s) h n

  pub switch_ended : (n : ℕ) → IsShaped p (without_switch n s)
  switch_ended n =
      switch_goes p (shape_of s) h n (map switch_up (changed_at n ended_switch s.switches))
      (map_changed switch_up ended_switch down (λ x. refl) n s.switches)
      (length (emptied_at n s.standing)) (long_changed n (λ old. []) s.standing)

  pub switch_begun : (n : ℕ) → IsShaped p (with_round n s)
  switch_begun n =
      switch_comes p (shape_of s) h n (map switch_up (changed_at n (begun_switch s.next_cookie) s.switches))
      (map_changed switch_up (begun_switch s.next_cookie) up (λ x. refl) n s.switches)
      (length (emptied_at n s.standing)) (long_changed n (λ old. []) s.standing)

  -- switches change, but not which of them are up
  pub other_switch : (n : ℕ) (f : SwitchOf → SwitchOf) → ((x : SwitchOf) → switch_up (f x) ≡ switch_up x)
      → IsSoundShape p (record (shape_of s) { ups = map switch_up (changed_at n f s.switches) })
  other_switch n f same =
      subst (λ (us : List Bool). IsSoundShape p (record (shape_of s) { ups = us }))
      (sym (changed_unseen switch_up f same n s.switches)) h
