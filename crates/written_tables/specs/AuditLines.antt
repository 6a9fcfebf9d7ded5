-- The lines that the audit has.
use Rattle.std.specs.Prelude.{◌≡◌, ℕ, List, Option, Some, option_map, slice_get}
use Rattle.grants.specs.declared.denial.Denial.{Denial}
use Rattle.member_replies.specs.Audit.{down_line, note_line, policy_line, slow_line}
use Rattle.member_replies.specs.Refusals.{deny_line}
use Rattle.policies.specs.Policies.{PolicyOf}
use Rattle.policies.specs.declared.policy.MemberItem.{MemberItem}
use Rattle.script_text.specs.declared.audit.DownCause.{DownCause}
use Rattle.events.specs.declared.event.PolicyRefusal.{PolicyRefusal}
use Rattle.machine_meaning.specs.Names.{switch_name, virtual_name}
use Rattle.machine_meaning.specs.Replacing.{refusal_kind}

-- a line of the audit of a policy: a denial, a new expression or its refusal, a switch that went, a member that is
-- closed as slow, a note on a switch
pub data IsAuditLine (p : PolicyOf) : List ℕ → Type 0 where
  is_denied :
      (n : ℕ) (m : MemberItem) → slice_get p.members n ≡ Some m → (xid : ℕ) (denial : Denial)
      → IsAuditLine p (deny_line m.controller m.vsw xid denial)
  is_replaced : (v : ℕ) (refusal : Option PolicyRefusal)
      → IsAuditLine p (policy_line (virtual_name p v) (option_map refusal_kind refusal))
  is_down : (n : ℕ) (cause : DownCause) → IsAuditLine p (down_line (switch_name p n) cause)
  is_slow : (n : ℕ) (m : MemberItem) → slice_get p.members n ≡ Some m → IsAuditLine p (slow_line m.controller m.vsw)
  is_noted : (n : ℕ) → IsAuditLine p (note_line (switch_name p n))
