-- The lines of a report and of the audit.
use Rattle.std.specs.Prelude.{ℕ, Bool, nat_lt, List, ◌++◌, Option, Some, None, codes, decimal}
use Rattle.hex.specs.Hex.{encode_lower}
use Rattle.script_text.specs.declared.audit.Audit.{Audit}
use Rattle.script_text.specs.declared.audit.Audit.TheVariants.{Deny, Down, Slow, NoArp, Policy}
use Rattle.script_text.specs.declared.audit.DownCause.{DownCause}
use Rattle.script_text.specs.declared.audit.DownCause.TheVariants as causes

-- a byte of ASCII
abbrev pub is_ascii : ℕ → Bool
is_ascii c = nat_lt c 128

-- a message that is put to a session, in lower case digits
abbrev pub report_text : List ℕ → List ℕ → List ℕ
report_text name message = codes "to " ++ (name ++ (codes " " ++ encode_lower message))

-- why a session goes down
abbrev pub cause_text : DownCause → List ℕ
cause_text causes.Gone = codes "gone"
cause_text causes.Again = codes "again"
cause_text causes.Slow = codes "slow"
cause_text causes.Error = codes "error"
cause_text causes.Form = codes "form"
cause_text causes.Removal = codes "removal"

-- whether a new expression was taken
abbrev pub outcome_text : Option (List ℕ) → List ℕ
outcome_text None = codes " ok"
outcome_text (Some kind) = codes " refused=" ++ kind

abbrev pub audit_text : Audit → List ℕ
audit_text (Deny controller vsw xid rule detail) =
    codes "deny ctl="
    ++ (controller
    ++ (codes " vsw="
    ++ (vsw ++ (codes " xid=" ++ (decimal xid ++ (codes " rule=" ++ (rule ++ (codes " " ++ detail))))))))
audit_text (Down name cause) = codes "down " ++ (name ++ (codes " why=" ++ cause_text cause))
audit_text (Slow name) = codes "slow " ++ name
audit_text (NoArp name) = codes "note " ++ (name ++ codes " noarp")
audit_text (Policy vsw refused) = codes "policy vsw=" ++ (vsw ++ outcome_text refused)
