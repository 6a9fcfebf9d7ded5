-- Denials: their rules, and their errors on the wire (section 5.4.4 of the standard).
use Rattle.std.specs.Prelude.{◌≡◌, ℕ, ◌==◌, Option, Some, None, Result, Ok, Err, if◌then◌else◌}
use Rattle.grants.specs.declared.denial.Denial.{Denial}
use Rattle.grants.specs.declared.denial.Detail.{Detail}
use Rattle.grants.specs.declared.denial.Detail.TheVariants as detail
use Rattle.grants.specs.declared.denial.Rule2.{Rule2}
use Rattle.grants.specs.declared.denial.Rule2.TheVariants as rule

-- the rule of a detail
abbrev pub rule_of : Detail → Rule2
rule_of (detail.Form kind code) = rule.Form
rule_of (detail.G1 command) = rule.G1
rule_of detail.G2Emerg = rule.G2
rule_of (detail.G2Kind kind) = rule.G2
rule_of (detail.G3 buffer) = rule.G3
rule_of (detail.G4 field) = rule.G4
rule_of detail.G5 = rule.G5
rule_of (detail.G6 port) = rule.G6
rule_of (detail.G7 action) = rule.G7
rule_of (detail.G8 port) = rule.G8
rule_of (detail.G9 at) = rule.G9
rule_of (detail.G10 count) = rule.G10
rule_of (detail.G11 why) = rule.G11
rule_of (detail.Overlap serial) = rule.Overlap
rule_of (detail.Entries limit) = rule.Entries
rule_of (detail.Budget ranks limit) = rule.Budget

-- the denial of a detail
abbrev pub denial_of : Detail → Denial
denial_of d = record { rule = rule_of d; detail = d }

-- the type and the code of the ERROR that tells of it
abbrev pub error_of : Detail → ℕ × ℕ
error_of (detail.Form kind code) = (kind, code)
error_of (detail.G1 command) = (3, 4)
error_of detail.G2Emerg = (3, 2)
error_of (detail.G2Kind kind) = if kind == 15 then (4, 0) else (1, 5)
error_of (detail.G3 buffer) = (1, 8)
error_of (detail.G4 field) = (3, 2)
error_of detail.G5 = (3, 2)
error_of (detail.G6 port) = (3, 2)
error_of (detail.G7 action) = (2, 6)
error_of (detail.G8 port) = (2, 4)
error_of (detail.G9 at) = (3, 5)
error_of (detail.G10 count) = (2, 7)
error_of (detail.G11 why) = (1, 5)
error_of (detail.Overlap serial) = (3, 1)
error_of (detail.Entries limit) = (3, 0)
error_of (detail.Budget ranks limit) = (3, 0)

-- a denial is answered where there is one, and else Ok
abbrev pub Answers : {A : Type 0} → Option Denial → Result A Denial → Type 0
Answers denied (Ok done) = denied ≡ None
Answers denied (Err denial) = denied ≡ Some denial
