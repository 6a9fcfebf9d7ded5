-- The audit's other lines.
use Rattle.std.specs.Prelude.{ℕ, List, ◌++◌, Option, codes}
use Rattle.script_text.specs.Lines.{audit_text}
use Rattle.script_text.specs.declared.audit.Audit.TheVariants.{Down, NoArp, Policy, Slow}
use Rattle.script_text.specs.declared.audit.DownCause.{DownCause}

-- the session of a member: its controller's name, `@`, and its virtual switch's
abbrev pub session_name : List ℕ → List ℕ → List ℕ
session_name controller vsw = controller ++ (codes "@" ++ vsw)

-- a switch went down
abbrev pub down_line : List ℕ → DownCause → List ℕ
down_line name cause = audit_text (Down name cause)

-- a member was closed, since it takes its messages too slowly
abbrev pub slow_line : List ℕ → List ℕ → List ℕ
slow_line controller vsw = audit_text (Slow (session_name controller vsw))

-- a switch came up that doesn't match ARP addresses
abbrev pub note_line : List ℕ → List ℕ
note_line name = audit_text (NoArp name)

-- a virtual switch got another expression, or was refused it for this kind of fault
abbrev pub policy_line : List ℕ → Option (List ℕ) → List ℕ
policy_line vsw refused = audit_text (Policy vsw refused)
