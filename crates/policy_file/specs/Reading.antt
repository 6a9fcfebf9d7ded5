-- What a policy file says: its policy, or its first fault.
use Rattle.std.specs.Prelude.{ℕ, List, Option, Some, None, Result, Ok, Err, length, nat_le, if◌then◌else◌, option_map}
use Rattle.std.specs.Str.{is_utf8}
use Rattle.toml.specs.Data.{Members}
use Rattle.toml.specs.Parse.{parse_document}
use Rattle.virtual_topology.specs.declared.plan.TopologyPlan.{TopologyPlan}
use Rattle.virtual_topology.specs.Faults.{fault_of}
use Rattle.inner_paths.specs.Cuts.{cut_fault}
use Rattle.policy_expr.specs.Policy as expr
use Rattle.policies.specs.declared.fault.PolicyFault.{PolicyFault}
use Rattle.policies.specs.declared.fault.PolicyFault.TheVariants as faults
use Rattle.policy_file.specs.declared.head.Head.{Head}
use Rattle.policy_file.specs.declared.keys.Version.{Version}
use Rattle.policy_file.specs.declared.keys.Version.TheVariants.{One, Two}
use Rattle.policies.specs.declared.policy.MemberItem.{MemberItem}
use Rattle.policy_file.specs.declared.reading.Draft.{Draft}
use Rattle.policies.specs.Policies.{PolicyOf, plan}
use Rattle.policies.specs.Outcomes.{then_do, unless}
use Rattle.policy_file.specs.Listed.{unlisted_in, missing_in}
use Rattle.policy_file.specs.Heads.{head_of}
use Rattle.policy_file.specs.Plans.{plan_of}
use Rattle.policy_file.specs.Members.{members_of}
use Rattle.policies.specs.Exprs.{exprs_of}
use Rattle.policies.specs.Widths.{too_wide_in}

-- 4: what the keys of a file say, or the first value that can't be so
abbrev pub draft_of : Members → Result Draft PolicyFault
draft_of file =
    then_do (head_of file) (λ head.
    then_do (plan_of file) (λ plan.
    then_do (members_of head.version plan.virtuals file) (λ members.
    Ok (record { head = head; plan = plan; members = members }))))

-- 6: the fault of a topology; 7: of paths
abbrev pub topology_fault : TopologyPlan → Option PolicyFault
topology_fault plan = option_map faults.Topology (fault_of plan)

abbrev pub path_fault : TopologyPlan → Option PolicyFault
path_fault plan = option_map faults.Paths (cut_fault plan)

abbrev pub number_of : Version → ℕ
number_of One = 1
number_of Two = 2

abbrev pub policy_of : Draft → PolicyOf
policy_of d =
    record {
      version = number_of d.head.version;
      hops = d.head.hops;
      listen = d.head.listen;
      standby = d.head.standby;
      rounds = d.head.rounds;
      switches = d.plan.switches;
      cables = d.plan.cables;
      virtuals = d.plan.virtuals;
      links = d.plan.links;
      members = d.members;
    }

-- 5 to 8: what doesn't fit together
abbrev pub fits : PolicyOf → Result (Unit {0}) PolicyFault
fits p =
    then_do (exprs_of p.virtuals p.members) (λ exprs.
    unless (topology_fault (plan p)) (unless (path_fault (plan p))
    (unless (too_wide_in (plan p) p.members exprs p.hops) (Ok tt))))

-- 7 and 8, and 6 to 8, over expressions that were read
abbrev pub fits_over : TopologyPlan → List MemberItem → List expr.Policy → ℕ → Result (Unit {0}) PolicyFault
fits_over plan members exprs hops = unless (path_fault plan) (unless (too_wide_in plan members exprs hops) (Ok tt))

abbrev pub fits_made : TopologyPlan → List MemberItem → List expr.Policy → ℕ → Result (Unit {0}) PolicyFault
fits_made plan members exprs hops = unless (topology_fault plan) (fits_over plan members exprs hops)

-- the policy, if what the keys say fits together
abbrev pub whole : Draft → Result PolicyOf PolicyFault
whole d = then_do (fits (policy_of d)) (λ _. Ok (policy_of d))

-- what a document says
abbrev pub policy_in : Members → Result PolicyOf PolicyFault
policy_in file = unless (unlisted_in file) (unless (missing_in file) (then_do (draft_of file) whole))

-- the document that bytes write, if they are one in UTF-8
abbrev pub document_of : List ℕ → Option Members
document_of bytes = if is_utf8 bytes then parse_document bytes else None

-- 1: no document
abbrev pub policy_of_document : Option Members → Result PolicyOf PolicyFault
policy_of_document None = Err faults.Syntax
policy_of_document (Some file) = policy_in file

-- what the bytes of a file say; 0: it is too long
abbrev pub policy_in_bytes : List ℕ → Result PolicyOf PolicyFault
policy_in_bytes bytes = if nat_le (length bytes) 1048576 then policy_of_document (document_of bytes)
    else Err faults.Long
