-- The rules of a whole virtual switch name its outside ports alone.
use Rattle.std.proofs.Common.{◌≡◌, ℕ, Bool, true, false, List, [], ◌∷◌, Option, Some, None, subst}
use Rattle.std.specs.Prelude.{IfSome, flat_map, if◌then◌else◌, map, slice_get}
use Rattle.std.specs.List.{AllByRecursion}
use Rattle.of10_match.specs.Fields.{MatchOf}
use Rattle.of10_match.specs.Matching.{at_port, either, meet}
use Rattle.of10_actions.specs.Fields.{RewriteOf}
use Rattle.of10_actions.specs.declared.effects.Tail.{Tail}
use Rattle.of10_actions.specs.declared.effects.Tail.TheVariants.{Nothing, Pass, Link}
use Rattle.alg_priority.specs.Levels.{shift_level}
use Rattle.policy_expr.specs.Policy.{Policy, member, parallel, sequential, override}
use Rattle.policy_expr.specs.Sizes.{size_of}
use Rattle.policy_meaning.specs.CentralFact.{EachMember}
use Rattle.policy_meaning.specs.Leaf.{has_port}
use Rattle.policy_meaning.specs.LeafRules.{cells, cut, entry_rule, has_outside, hides, in_cells, miss_rule}
use Rattle.policy_meaning.specs.LeafRules.{outside_rule, rule_met}
use Rattle.policy_meaning.specs.Networks.{ports_of, switch_rules, table_rules, table_size}
use Rattle.policy_meaning.specs.Rules.{chain_rule, chained, chains_by, chains_with, lifted, rules_of, shifts_with}
use Rattle.policy_meaning.specs.Rules.{sum_rule, summed, sums_with}
use Rattle.policy_meaning.specs.declared.leaf.LeafEntry.{LeafEntry}
use Rattle.policy_meaning.specs.declared.leaf.LeafTable.{LeafTable}
use Rattle.policy_meaning.specs.declared.network.VirtualSwitch.{VirtualSwitch}
use Rattle.policy_meaning.specs.declared.rule.Rule.{Rule}
use Rattle.policy_meaning.proofs.Cells.{narrowed}
use Rattle.policy_meaning.proofs.Lists.{all-append, all-filter_map, all-flat_map, all-mapped}
use Rattle.policy_meaning.proofs.Meeting.{some_meet, some_met, some_pulled}
use Rattle.agreement.specs.Premises.{KeepsTo, NamesOne, TableKeepsTo}

module _ (ports : List ℕ) where
  -- the rule names one of the ports, if it names one
  abbrev pub RuleKeeps : Rule → Type 0
  RuleKeeps r = NamesOne ports r.m

  abbrev IsOne : ℕ → Type 0
  IsOne p = has_port ports p ≡ true

  either-one : (a b : Option ℕ) → IfSome a IsOne → IfSome b IsOne → IfSome (either a b) IsOne
  either-one None b p q = q
  either-one (Some w) b p q = p

  meet-one : (m n y : MatchOf) → NamesOne ports m → NamesOne ports n → meet m n ≡ Some y → NamesOne ports y
  meet-one m n y p q e = subst (λ (z : MatchOf). NamesOne ports z) (some_meet m n y e).1
      (either-one m.in_port n.in_port p q)

  met-one : (a y : Rule) (n : MatchOf) → RuleKeeps a → NamesOne ports n → rule_met a n ≡ Some y → RuleKeeps y
  met-one a y n p q e = subst RuleKeeps (some_met (narrowed a) a.m n y e).1 (either-one a.m.in_port n.in_port p q)

  cut-one : (visible : List ℕ) (box : MatchOf) → AllByRecursion IsOne visible → NamesOne ports box
      → AllByRecursion (NamesOne ports) (cut visible box)
  cut-one visible box v b = all-filter_map IsOne (NamesOne ports) (λ p. meet box (at_port p)) visible
      (λ p y e q. meet-one box (at_port p) y b q e) v

  by_hiding : (t : LeafTable) (b : Bool) → KeepsTo ports t
      → AllByRecursion (NamesOne ports) (if b then flat_map (cut t.visible) t.region else t.region)
  by_hiding t true k = all-flat_map (NamesOne ports) (NamesOne ports) (cut t.visible) t.region
      (λ box p. cut-one t.visible box k.visible p) k.region
  by_hiding t false k = k.region

  in_cells-keep : (cs : List MatchOf) (a : Rule) → AllByRecursion (NamesOne ports) cs → RuleKeeps a
      → AllByRecursion RuleKeeps (in_cells cs a)
  in_cells-keep cs a c k = all-filter_map (NamesOne ports) RuleKeeps (rule_met a) cs (λ n y e q. met-one a y n k q e) c

  outside-keeps : (t : LeafTable) (b : Bool) → AllByRecursion RuleKeeps (if b then outside_rule t ∷ [] else [])
  outside-keeps t true = (tt, tt)
  outside-keeps t false = tt

  -- the rules of a member at a virtual switch of any ports
  table-keeps : (all : List ℕ) (o : Option LeafTable) → TableKeepsTo ports o
      → AllByRecursion RuleKeeps (table_rules all o)
  table-keeps all None k = tt
  table-keeps all (Some t) k =
      let made = miss_rule t ∷ map (entry_rule t) t.entries in
      all-append RuleKeeps (if has_outside all t then outside_rule t ∷ [] else [])
      (flat_map (in_cells (cells all t)) made) (outside-keeps t (has_outside all t))
      (all-flat_map RuleKeeps RuleKeeps (in_cells (cells all t)) made
      (λ a q. in_cells-keep (cells all t) a (by_hiding t (hides all t) k) q)
      (tt, all-mapped (λ (e : LeafEntry). NamesOne ports e.m) RuleKeeps (entry_rule t) t.entries (λ e q. q) k.entries))

  sum-keeps : (a b y : Rule) → RuleKeeps a → RuleKeeps b → sum_rule a b ≡ Some y → RuleKeeps y
  sum-keeps a b y p q e = subst RuleKeeps (some_met (summed a b) a.m b.m y e).1 (either-one a.m.in_port b.m.in_port p q)

  chain-keeps : (size : ℕ) (r : RewriteOf) (a b y : Rule) → RuleKeeps a → RuleKeeps b → chain_rule size r a b ≡ Some y
      → RuleKeeps y
  chain-keeps size r a b y p q e = subst RuleKeeps (some_pulled (chained size r a b) a.m b.m r y e).2
      (either-one a.m.in_port b.m.in_port p q)

  chains-keep : (t : Tail) (size : ℕ) (bs : List Rule) (a : Rule) → AllByRecursion RuleKeeps bs → RuleKeeps a
      → AllByRecursion RuleKeeps (chains_by t size bs a)
  chains-keep Nothing size bs a q p = (p, tt)
  chains-keep (Link r port) size bs a q p = (p, tt)
  chains-keep (Pass r) size bs a q p = all-filter_map RuleKeeps RuleKeeps (chain_rule size r a) bs
      (λ b y e k. chain-keeps size r a b y p k e) q

  shifts-keep : (b : Bool) (size : ℕ) (a : Rule) → RuleKeeps a
      → AllByRecursion RuleKeeps (if b then lifted (shift_level a.level size) a ∷ [] else [])
  shifts-keep true size a p = (p, tt)
  shifts-keep false size a p = tt

  module _ (sizes : ℕ → ℕ) (leaf : ℕ → List Rule) where
    rules-keep : (e : Policy) → EachMember (λ i. AllByRecursion RuleKeeps (leaf i)) e
        → AllByRecursion RuleKeeps (rules_of sizes leaf e)
    rules-keep (member i) p = p
    rules-keep (parallel a b) p =
        all-flat_map RuleKeeps RuleKeeps (sums_with (rules_of sizes leaf b)) (rules_of sizes leaf a)
        (λ x q. all-filter_map RuleKeeps RuleKeeps (sum_rule x) (rules_of sizes leaf b)
        (λ y z e k. sum-keeps x y z q k e) (rules-keep b p.1)) (rules-keep a p.0)
    rules-keep (sequential a b) p =
        all-flat_map RuleKeeps RuleKeeps (chains_with (size_of sizes b) (rules_of sizes leaf b)) (rules_of sizes leaf a)
        (λ x q. chains-keep x.tail (size_of sizes b) (rules_of sizes leaf b) x (rules-keep b p.1) q) (rules-keep a p.0)
    rules-keep (override a b) p =
        all-append RuleKeeps (flat_map (shifts_with (size_of sizes b)) (rules_of sizes leaf a)) (rules_of sizes leaf b)
        (all-flat_map RuleKeeps RuleKeeps (shifts_with (size_of sizes b)) (rules_of sizes leaf a)
        (λ x q. shifts-keep x.touched (size_of sizes b) x q) (rules-keep a p.0)) (rules-keep b p.1)

each : (P Q : ℕ → Type 0) → ((i : ℕ) → P i → Q i) → (e : Policy) → EachMember P e → EachMember Q e
each P Q f (member i) p = f i p
each P Q f (parallel a b) p = (each P Q f a p.0, each P Q f b p.1)
each P Q f (sequential a b) p = (each P Q f a p.0, each P Q f b p.1)
each P Q f (override a b) p = (each P Q f a p.0, each P Q f b p.1)

-- the rules of a virtual switch whose members keep to some ports
pub switch-keeps : (ports : List ℕ) (tables : List LeafTable) (x : VirtualSwitch)
    → EachMember (λ i. TableKeepsTo ports (slice_get tables i)) x.expr
    → AllByRecursion (RuleKeeps ports) (switch_rules tables (Some x))
switch-keeps ports tables x k =
    rules-keep ports (λ i. table_size (slice_get tables i)) (λ i. table_rules (ports_of x) (slice_get tables i)) x.expr
    (each (λ i. TableKeepsTo ports (slice_get tables i))
    (λ i. AllByRecursion (RuleKeeps ports) (table_rules (ports_of x) (slice_get tables i)))
    (λ i t. table-keeps ports (ports_of x) (slice_get tables i) t) x.expr k)
