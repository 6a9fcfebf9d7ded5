use Rattle.std.proofs.Common.{◌∙◌, List, ap, subst, sym}
use Rattle.std.specs.Prelude.{Contains, IsPermutation}
use Rattle.std.proofs.lemmas.Result.{IfOk-weaker}
use Rattle.policy_meaning.specs.declared.network.Place.{Place}
use Rattle.hop_rules.specs.Kept.{IsKept}
use Rattle.hop_rules.specs.Tables.{TableOf, port_rules}
use Rattle.hop_rules.proofs.Through.{port-is, ports-count}
use Rattle.hop_rules.proofs.table.HopTable.rules.Goals as goal

pub rules_at-requires : goal.rules_at-requires
rules_at-requires c =
    let k = subst (λ (u : TableOf). IsKept u c.self.inside.parts) c.self.view_is
    (c.self.invariant (ap (λ (u : TableOf). u.lost) c.self.view_is ∙ c.requires.lost)) in
    ports-count c.args.self.now c.self.inside.parts k

pub returns : goal.returns
returns c there =
    let t = c.args.self.now in
    let at : Place = record { v = c.args.v; port = c.args.port } in
    let k = subst (λ (u : TableOf). IsKept u c.self.inside.parts) c.self.view_is
    (c.self.invariant (ap (λ (u : TableOf). u.lost) c.self.view_is ∙ c.requires.lost)) in
    IfOk-weaker c.rules_at.result _ (IsPermutation (port_rules t at))
    (λ rules o. port-is t c.self.inside.parts k at rules o)
    (c.rules_at.ensures (subst (λ (ps : List Place). Contains ps at) (sym k.ports) there))
