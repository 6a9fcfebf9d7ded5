-- What is said of a message that is refused.
use Rattle.std.specs.Prelude.{ℕ, List, ◌++◌, Option, Some, None, codes, decimal}
use Rattle.of10_frames.specs.Wire.{error_bytes}
use Rattle.script_text.specs.Lines.{audit_text}
use Rattle.script_text.specs.declared.audit.Audit.TheVariants.{Deny}
use Rattle.grants.specs.Denials.{error_of}
use Rattle.grants.specs.Names.{field_at, field_name}
use Rattle.grants.specs.declared.denial.Denial.{Denial}
use Rattle.grants.specs.declared.denial.Detail.{Detail}
use Rattle.grants.specs.declared.denial.Detail.TheVariants as details
use Rattle.grants.specs.declared.denial.Rule2.{Rule2}
use Rattle.grants.specs.declared.denial.Rule2.TheVariants as rules
use Rattle.grants.specs.declared.denial.Why.{Why}
use Rattle.grants.specs.declared.denial.Why.TheVariants as reasons
use Rattle.grants.specs.declared.field.Field.{Field}

-- the ERROR that tells of a denial: its type and code, and the first 64 bytes of the refused message, or all
abbrev pub refusal : Denial → List ℕ → List ℕ
refusal denial frame = error_bytes (error_of denial.detail).0 (error_of denial.detail).1 frame

-- the word of a rule
abbrev pub rule_text : Rule2 → List ℕ
rule_text rules.Form = codes "form"
rule_text rules.G1 = codes "G1"
rule_text rules.G2 = codes "G2"
rule_text rules.G3 = codes "G3"
rule_text rules.G4 = codes "G4"
rule_text rules.G5 = codes "G5"
rule_text rules.G6 = codes "G6"
rule_text rules.G7 = codes "G7"
rule_text rules.G8 = codes "G8"
rule_text rules.G9 = codes "G9"
rule_text rules.G10 = codes "G10"
rule_text rules.G11 = codes "G11"
rule_text rules.Overlap = codes "overlap"
rule_text rules.Entries = codes "entries"
rule_text rules.Budget = codes "budget"

-- the name of a field, if there is one of that bit
abbrev pub name_of : Option Field → List ℕ
name_of None = codes "none"
name_of (Some field) = field_name field

-- what of a PACKET_OUT isn't granted
abbrev pub reason_text : Why → List ℕ
reason_text reasons.Grant = codes "grant"
reason_text reasons.Port = codes "port"
reason_text reasons.Region = codes "region"

-- what a rule found
abbrev pub detail_text : Detail → List ℕ
detail_text (details.Form kind code) = codes "error=" ++ (decimal kind ++ (codes "," ++ decimal code))
detail_text (details.G1 command) = codes "command=" ++ decimal command
detail_text details.G2Emerg = codes "flag=emerg"
detail_text (details.G2Kind kind) = codes "type=" ++ decimal kind
detail_text (details.G3 buffer) = codes "buffer=" ++ decimal buffer
detail_text (details.G4 field) = codes "field=" ++ name_of (field_at field)
detail_text details.G5 = codes "region=out"
detail_text (details.G6 port) = codes "port=" ++ decimal port
detail_text (details.G7 action) = codes "action=" ++ decimal action
detail_text (details.G8 port) = codes "port=" ++ decimal port
detail_text (details.G9 at) = codes "at=" ++ decimal at
detail_text (details.G10 count) = codes "count=" ++ decimal count
detail_text (details.G11 why) = codes "why=" ++ reason_text why
detail_text (details.Overlap serial) = codes "with=" ++ decimal serial
detail_text (details.Entries limit) = codes "limit=" ++ decimal limit
detail_text (details.Budget ranks limit) = codes "ranks=" ++ (decimal ranks ++ (codes " limit=" ++ decimal limit))

-- the audit's line of a denial: the controller, its virtual switch, and the transaction id of the refused message
abbrev pub deny_line : List ℕ → List ℕ → ℕ → Denial → List ℕ
deny_line controller vsw xid denial =
    audit_text (Deny controller vsw xid (rule_text denial.rule) (detail_text denial.detail))
