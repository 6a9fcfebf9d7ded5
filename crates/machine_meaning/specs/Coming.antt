-- A session comes up, or goes.
use Rattle.std.specs.Prelude.{ℕ, Bool, true, false, [], ◌∷◌, ◌++◌, if◌then◌else◌}
use Rattle.cv_io.specs.declared.leaf.Who.{Who}
use Rattle.cv_io.specs.declared.leaf.Who.TheVariants.{Member, Switch, Audit}
use Rattle.member_replies.specs.Audit.{note_line}
use Rattle.policies.specs.Policies.{PolicyOf}
use Rattle.script_text.specs.declared.audit.DownCause.TheVariants as causes
use Rattle.machine_meaning.specs.Drafts.{Draft}
use Rattle.machine_meaning.specs.Names.{switch_name}
use Rattle.machine_meaning.specs.Rounds.{begin_member, begin_switch, end_member, end_switch}
use Rattle.machine_meaning.specs.Sessions.{is_up}

-- a switch that doesn't match ARP addresses is noted
abbrev pub noting : PolicyOf → ℕ → Bool → Draft → Draft
noting p n true d = d
noting p n false d = record d { notes = d.notes ++ note_line (switch_name p n) ∷ [] }

-- a round that is up ends
abbrev pub end_first : Who → Draft → Draft
end_first (Member n) d = if is_up d.state (Member n) then end_member n d else d
end_first (Switch n) d = if is_up d.state (Switch n) then end_switch n causes.Again d else d
end_first Audit d = d

-- a session comes up: a round that is up ends before, and the next one begins
abbrev pub comes_up : PolicyOf → Who → Bool → Draft → Draft
comes_up p (Member n) arp d = begin_member n (end_first (Member n) d)
comes_up p (Switch n) arp d = noting p n arp (begin_switch n (end_first (Switch n) d))
comes_up p Audit arp d = d

-- a session goes: its round ends
abbrev pub goes : Who → Draft → Draft
goes (Member n) d = end_member n d
goes (Switch n) d = end_switch n causes.Gone d
goes Audit d = d
