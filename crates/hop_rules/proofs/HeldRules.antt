-- What a node holds, as the nodes above see it.
use Rattle.std.proofs.Common.{◌≡◌, ℕ, ◌==◌, Bool, true, false, List, [], ◌∷◌, Option, Some, refl, ap, map}
use Rattle.std.specs.Prelude.{option_map, if◌then◌else◌}
use Rattle.rule_ancestry.specs.Holding.{Held, id_of, item_at}
use Rattle.made_rules.specs.Rules.{rule_of, rules_in}
use Rattle.made_rules.specs.declared.made.Made.{Made}
use Rattle.policy_meaning.specs.declared.rule.Rule.{Rule}

-- the ids are the same
pub same-ids : (held : List (Held Made)) → map id_of held ≡ map id_of (rules_in held)
same-ids [] = refl
same-ids (h ∷ held) = ap (λ z. h.id ∷ z) (same-ids held)

at-cond : (h : Held Made) (o : Option Made) (p : Option Rule) (t : Bool) → option_map rule_of o ≡ p
    → option_map rule_of (if t then Some h.item else o) ≡ (if t then Some h.item.rule else p)
at-cond h o p true e = refl
at-cond h o p false e = e

-- what an id holds is its rule
pub rule-at : (held : List (Held Made)) (id : ℕ) → option_map rule_of (item_at held id) ≡ item_at (rules_in held) id
rule-at [] id = refl
rule-at (h ∷ held) id = at-cond h (item_at held id) (item_at (rules_in held) id) (h.id == id) (rule-at held id)
