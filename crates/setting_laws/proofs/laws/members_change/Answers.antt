use Rattle.setting_laws.proofs.Members.{members_change as members-change}
use Rattle.setting_laws.proofs.laws.members_change.Goals as goal

pub returns : goal.returns
returns c = members-change
