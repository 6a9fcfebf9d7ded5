-- What follows where nothing that stands beside a draft changes.
use Rattle.std.proofs.Common.{◌≡◌, ◌∙◌, length, sym, ap}
use Rattle.std.proofs.lemmas.List.{length-map}
use Rattle.machine_drafts.specs.MemberDrafts.{MemberDraftOf}
use Rattle.machine_drafts.specs.Outcomes.{Bases, bases}
use Rattle.machine_drafts.specs.declared.outcome.Outcome.{Outcome}

-- there are as many members
pub same_many : (x y : Outcome) → bases x ≡ bases y → length x.members ≡ length y.members
same_many x y e =
    sym (length-map x.members (λ (m : MemberDraftOf). m.base))
    ∙ (ap (λ (b : Bases). length b.members) e ∙ length-map y.members (λ (m : MemberDraftOf). m.base))
