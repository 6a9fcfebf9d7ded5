-- What of a draft sessions and the audit hang on, and how events change it.
use Rattle.std.proofs.Common.{◌≡◌, ℕ, zero, suc, Bool, List, [], ◌∷◌, ◌++◌, map, Option, Some, option_map, refl, ap}
use Rattle.std.specs.Prelude.{slice_get}
use Rattle.cv_io.specs.declared.leaf.Who.{Who}
use Rattle.cv_io.specs.declared.leaf.Who.TheVariants.{Member, Switch}
use Rattle.events.specs.declared.event.Event.{Event}
use Rattle.events.specs.declared.event.Event.TheVariants.{Up}
use Rattle.events.specs.declared.event.PolicyRefusal.{PolicyRefusal}
use Rattle.grants.specs.declared.denial.Denial.{Denial}
use Rattle.member_replies.specs.Audit.{note_line, policy_line}
use Rattle.member_replies.specs.Refusals.{deny_line}
use Rattle.outbox.specs.Outboxes.{OutboxOf, closed, opened}
use Rattle.policies.specs.Policies.{PolicyOf}
use Rattle.policies.specs.declared.policy.MemberItem.{MemberItem}
use Rattle.machine_meaning.specs.Drafts.{Draft}
use Rattle.machine_meaning.specs.Lists.{changed_at}
use Rattle.machine_meaning.specs.Names.{switch_name, virtual_name}
use Rattle.machine_meaning.specs.Replacing.{refusal_kind}
use Rattle.machine_meaning.specs.States.{MemberOf, SwitchOf}

pub record Boxes : Type 0 where
  pub members : List OutboxOf
  pub switches : List OutboxOf
  pub begun : Option Who
  pub audit : List (List ℕ)
  pub policies : List (List ℕ)
  pub denials : List (List ℕ)
  pub notes : List (List ℕ)

abbrev pub member_box : MemberOf → OutboxOf
member_box x = x.outbox

abbrev pub switch_box : SwitchOf → OutboxOf
switch_box x = x.outbox

abbrev pub boxes_of : Draft → Boxes
boxes_of d = record {
  members = map member_box d.state.members;
  switches = map switch_box d.state.switches;
  begun = d.begun;
  audit = d.state.audit;
  policies = d.policies;
  denials = d.denials;
  notes = d.notes;
}

-- what holds of boxes stays so where rounds end
pub record IsLasting (Q : Boxes → Type 0) : Type 0 where
  pub member : (n : ℕ) (v : Boxes) → Q v → Q (record v { members = changed_at n closed v.members })
  pub switch : (n : ℕ) (v : Boxes) → Q v → Q (record v { switches = changed_at n closed v.switches })

-- and whatever an event does
pub record IsStable (p : PolicyOf) (e : Event) (Q : Boxes → Type 0) : Type 0 where
  pub ends : IsLasting Q
  pub member_begun :
      (n : ℕ) (arp : Bool) → e ≡ Up (Member n) arp → (v : Boxes) → Q v
      → Q (record v { members = changed_at n opened v.members; begun = Some (Member n) })
  pub switch_begun :
      (n : ℕ) (arp : Bool) → e ≡ Up (Switch n) arp → (v : Boxes) → Q v
      → Q (record v { switches = changed_at n opened v.switches; begun = Some (Switch n) })
  pub denied :
      (n : ℕ) (m : MemberItem) → slice_get p.members n ≡ Some m → (xid : ℕ) (denial : Denial) (v : Boxes) → Q v
      → Q (record v { denials = v.denials ++ deny_line m.controller m.vsw xid denial ∷ [] })
  pub replaced :
      (k : ℕ) (refusal : Option PolicyRefusal) (v : Boxes) → Q v
      → Q (record v { policies = v.policies ++ policy_line (virtual_name p k) (option_map refusal_kind refusal) ∷ [] })
  pub noted :
      (n : ℕ) (v : Boxes) → Q v → Q (record v { notes = v.notes ++ note_line (switch_name p n) ∷ [] })

-- a list whose items change as a view of them does
pub seen_changed : {X Y : Type 0} (v : X → Y) (f : X → X) (g : Y → Y) → ((x : X) → v (f x) ≡ g (v x))
    → (n : ℕ) (xs : List X) → map v (changed_at n f xs) ≡ changed_at n g (map v xs)
seen_changed v f g h n [] = refl
seen_changed v f g h zero (x ∷ xs) = ap (λ y. y ∷ map v xs) (h x)
seen_changed v f g h (suc n) (x ∷ xs) = ap (λ ys. v x ∷ ys) (seen_changed v f g h n xs)
