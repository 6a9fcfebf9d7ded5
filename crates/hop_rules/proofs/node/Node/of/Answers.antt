use Rattle.std.proofs.Common.{◌≡◌, ◌∙◌, ◌++◌, ◌∷◌, [], List, ap, map, sym, subst}
use Rattle.std.specs.Prelude.{IsPermutation, filter_map}
use Rattle.list_change.proofs.Permute.{by-equation}
use Rattle.made_rules.specs.Rules.{rules_in}
use Rattle.made_rules.specs.declared.made.Made.{Made}
use Rattle.match_index.specs.Items.{IndexOf}
use Rattle.rule_ancestry.specs.Holding.{Held, item_of}
use Rattle.hop_rules.specs.Items.{item_for}
use Rattle.hop_rules.specs.Nodes.{found}
use Rattle.hop_rules.proofs.Single.{single}
use Rattle.hop_rules.proofs.node.Node.of.Goals as goal

pub invariant_of-result : goal.invariant_of-result
invariant_of-result c e =
    let one : Held Made = record { id = c.in_ok-id.id; item = c.args.made } in
    let held : c.add.new.self ≡ one ∷ [] =
    single one c.add.new.self
    (subst (λ (z : List (Held Made)). IsPermutation (one ∷ z) c.add.new.self) c.new-store.ensures
    c.in_ok-id.ensures.added) in
    by-equation _ _ (
    c.in_ok-insert.ensures.items
    ∙ ap (λ (i : IndexOf). i.items ++ item_for c.in_ok-id.id c.match_of-m.result ∷ []) c.new-index.ensures
    ∙ ap (λ m. item_for c.in_ok-id.id m ∷ []) c.match_of-m.ensures
    ∙ ap (λ z. filter_map found (rules_in z)) (sym held))

pub returns-clause-held : goal.returns-clause-held
returns-clause-held c =
    let one : Held Made = record { id = c.in_ok-id.id; item = c.args.made } in
    ap (map item_of)
    (single one c.add.new.self
    (subst (λ (z : List (Held Made)). IsPermutation (one ∷ z) c.add.new.self) c.new-store.ensures
    c.in_ok-id.ensures.added))
