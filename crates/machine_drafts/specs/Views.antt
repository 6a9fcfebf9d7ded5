-- Members and switches of the program as the state has them.
use Rattle.std.specs.Prelude.{List}
use Rattle.install_plan.specs.declared.written.Written.{Written}
use Rattle.machine_meaning.specs.States.{MemberOf, SwitchOf}
use Rattle.machine_drafts.specs.declared.session.Member.{Member}
use Rattle.machine_drafts.specs.declared.session.Switch.{Switch}

-- a member, without the memory that its table has in store
abbrev pub member_of : Member → MemberOf
member_of x = record { outbox = x.outbox; config = x.config; kept = x.kept.state }

-- the session of a switch, and what is known of it
abbrev pub switch_of : Switch → SwitchOf
switch_of x = record { outbox = x.outbox; known = x.known }

-- the entries that stand on it
abbrev pub standing_of : Switch → List Written
standing_of x = x.standing
