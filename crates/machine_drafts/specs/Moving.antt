-- What an event leaves of members and switches, in parts that are moved in.
use Rattle.std.specs.Prelude.{ℕ, ◌+◌, ◌<◌, ◌^◌, List, [], ◌∷◌, length, unwrap_or}
use Rattle.install_plan.specs.declared.written.Written.{Written}
use Rattle.outbox.specs.Outboxes.{OutboxOf, turned}
use Rattle.machine_drafts.specs.MemberDrafts.{IsReadyPlan, kept_after}
use Rattle.machine_meaning.specs.Putting.{put_to}
use Rattle.machine_meaning.specs.States.{MemberOf, SwitchOf}
use Rattle.machine_drafts.specs.declared.member_draft.MemberPart.{MemberPart}
use Rattle.machine_drafts.specs.declared.session.Member.{Member}
use Rattle.machine_drafts.specs.declared.session.Switch.{Switch}
use Rattle.machine_drafts.specs.declared.switch_draft.SwitchPart.{SwitchPart}

-- each of the items after its part
abbrev pub after_parts : {A B : Type 0} → (A → B → A) → List A → List B → List A
after_parts f [] parts = []
after_parts f (x ∷ xs) [] = x ∷ xs
after_parts f (x ∷ xs) (part ∷ parts) = f x part ∷ after_parts f xs parts

-- each of the parts belongs to its item
abbrev pub EachPart : {A B : Type 0} → (A → B → Type 0) → List A → List B → Type 0
EachPart R [] parts = Unit {0}
EachPart R (x ∷ xs) [] = Unit {0}
EachPart R (x ∷ xs) (part ∷ parts) = R x part × EachPart R xs parts

-- members and switches that are put messages, where they are up
abbrev pub member_put : List (List ℕ) → MemberOf → MemberOf
member_put messages x = record x { outbox = put_to messages x.outbox }

abbrev pub switch_put : List (List ℕ) → SwitchOf → SwitchOf
switch_put messages x = record x { outbox = put_to messages x.outbox }

-- a member after its part of an event
abbrev pub member_moved : MemberOf → MemberPart → MemberOf
member_moved x part = record {
  outbox = put_to part.letters (turned part.turn x.outbox);
  config = part.config;
  kept = kept_after x.kept part.planned part.moment;
}

-- a switch after its part of an event, and what stands on it
abbrev pub switch_moved : SwitchOf → SwitchPart → SwitchOf
switch_moved x part = record {
  outbox = put_to part.letters (turned part.turn x.outbox);
  known = unwrap_or part.known x.known;
}

abbrev pub standing_moved : List Written → SwitchPart → List Written
standing_moved standing part = unwrap_or part.standing standing

-- messages have a place in an outbox, as they have on any machine
abbrev pub HasPlace : OutboxOf → List (List ℕ) → Type 0
HasPlace o messages = length o.waiting + length messages < 2 ^ 63

-- the part can be moved into the member: there is a place for what it is put, and what is planned can be made
pub record IsMemberPart (x : Member) (part : MemberPart) : Type 0 where
  pub place : HasPlace x.outbox part.letters
  pub ready : IsReadyPlan x.kept part.planned

-- and into the switch
abbrev pub IsSwitchPart : Switch → SwitchPart → Type 0
IsSwitchPart x part = HasPlace x.outbox part.letters
