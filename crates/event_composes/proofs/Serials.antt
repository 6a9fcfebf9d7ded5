-- A serial number is left for an entry of each member.
use Rattle.std.proofs.Common.{List, [], ◌∷◌, map}
use Rattle.machine_drafts.specs.MemberDrafts.{MemberDraftOf}
use Rattle.machine_drafts.specs.Outcomes.{members_in}
use Rattle.machine_drafts.specs.Serials.{DraftsHaveSerials, StandingHaveSerials}
use Rattle.machine_drafts.specs.Views.{member_of}
use Rattle.machine_drafts.specs.declared.session.Member.{Member}
use Rattle.setting_laws.specs.Drafted.{HaveSerials}

-- what is so of each draft, and of each member that stands, is so of all members
pub drafts_have : (ms : List MemberDraftOf) → DraftsHaveSerials ms → HaveSerials (members_in ms)
drafts_have [] h = tt
drafts_have (m ∷ ms) h = (h.0, drafts_have ms h.1)

pub members_have : (ms : List Member) → StandingHaveSerials ms → HaveSerials (map member_of ms)
members_have [] h = tt
members_have (m ∷ ms) h = (h.0, members_have ms h.1)
