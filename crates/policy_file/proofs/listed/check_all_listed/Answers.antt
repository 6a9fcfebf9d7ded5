use Rattle.std.proofs.Common.{◌≡◌, Option, Some, None, sym, subst}
use Rattle.std.specs.Option.{option_or}
use Rattle.toml.specs.View.{table_view}
use Rattle.virtual_topology.specs.Faults.{Answers, first_answer}
use Rattle.policies.specs.declared.fault.PolicyFault.{PolicyFault}
use Rattle.policies.specs.declared.fault.PolicyFault.TheVariants.{Memory}
use Rattle.policy_file.specs.declared.keys.Version.{Version}
use Rattle.policy_file.specs.declared.section.Section.TheVariants.{Top}
use Rattle.policy_file.specs.Keys.{item_kinds}
use Rattle.policy_file.specs.Listed.{in_items, unlisted, version_of}
use Rattle.policy_file.proofs.listed.check_all_listed.Goals as goal

pub returns : goal.returns
returns c =
    let file = table_view c.args.file.now in
    let r = c.check_kinds_listed.result in
    let top : unlisted (version_of file) Top file ≡ None =
    subst (λ (v : Option Version). unlisted v Top file ≡ None) c.version_of-version.ensures
    c.in_ok-check_listed.ensures in
    let rest = subst (λ (v : Option Version). Answers Memory r (first_answer (in_items (unlisted v) file) item_kinds))
    c.version_of-version.ensures c.check_kinds_listed.ensures in
    subst (λ (o : Option PolicyFault). Answers Memory r
    (option_or o (first_answer (in_items (unlisted (version_of file)) file) item_kinds))) (sym top) rest
