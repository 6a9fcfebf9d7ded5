-- What a table tells once a change went through its parts, and the rules of its ports.
use Rattle.std.proofs.Common.{◌≡◌, ℕ, suc, ◌+◌, ◌<◌, false, List, sym, ap, ◌∙◌, subst, length, arith}
use Rattle.std.specs.Prelude.{IsPermutation}
use Rattle.std.proofs.lemmas.List.Sorted.{IsPermutation-sym}
use Rattle.policy_meaning.specs.Hops.{node}
use Rattle.policy_meaning.specs.declared.network.Place.{Place}
use Rattle.policy_meaning.specs.declared.rule.Rule.{Rule}
use Rattle.hop_rules.specs.Handed.{GivenOf}
use Rattle.hop_rules.specs.Kept.{IsKept, IsThrough, rules_of, with_rules}
use Rattle.hop_rules.specs.Levels.{stand_at, told_at}
use Rattle.hop_rules.specs.Links.{ends}
use Rattle.hop_rules.specs.Nodes.{held_at}
use Rattle.hop_rules.specs.Tables.{AreDeltas, AreOfPorts, TableOf, fabric, port_rules}
use Rattle.hop_rules.specs.Telling.{IsOfPort, deltas_from, rules_held}
use Rattle.hop_rules.specs.Turns.{IsTold}
use Rattle.hop_rules.specs.declared.level.Stand.{Stand}
use Rattle.hop_rules.specs.declared.level.Told.{Told}
use Rattle.hop_rules.specs.declared.parts.Parts.{Parts}
use Rattle.hop_rules.proofs.Deltas.{are-deltas, of-ports}
use Rattle.hop_rules.proofs.Keeping.{top-count, top-scratch}

-- a table that isn't lost, with other rules of virtual switches
pub same-table : (t u : TableOf) (gs : List GivenOf) → u ≡ record t { rules = rules_of gs; lost = false }
    → t.lost ≡ false → u ≡ with_rules t gs
same-table t u gs e l = e ∙ (λ i. record t { rules = rules_of gs; lost = sym l i })

module _ (t : TableOf) (p : Parts) (k : IsKept t p) where
  pub ports-count : length p.top.nodes ≡ length p.top.stands
  ports-count = top-count (fabric t) (ends t.plan) p.given k.given p.levels 0 p.last p.top k.made

  pub ports-scratch : (n : ℕ) → n < length p.top.stands
      → IsPermutation (rules_held (held_at p.top.nodes n)) (port_rules t (stand_at p.top.stands n).at)
  ports-scratch n lt =
      let at = (stand_at p.top.stands n).at in
      let hops : suc (0 + length p.levels) ≡ t.hops = let x = k.hops in omega arith in
      subst (λ (h : ℕ). IsPermutation (rules_held (held_at p.top.nodes n)) (node (fabric t) h at.v at.port)) hops
      (top-scratch (fabric t) (ends t.plan) p.given k.given p.levels 0 p.last k.last p.top k.made n lt)

  pub port-is : (at : Place) (rules : List Rule) → IsOfPort p.top at rules → IsPermutation (port_rules t at) rules
  port-is at rules o =
      IsPermutation-sym _ _
      (subst (λ (q : Place). IsPermutation rules (port_rules t q)) o.is_at
      (subst (λ (z : List Rule). IsPermutation z (port_rules t (stand_at p.top.stands o.number).at)) (sym o.rules_are)
      (ports-scratch o.number o.there)))

module _ (t : TableOf) (old new : Parts) (k : IsKept t old) (v : ℕ) (gone come : List Rule) (tolds : List Told)
    (h : IsThrough t old new v gone come tolds) where
  pub tolds-count : length tolds ≡ length new.top.stands
  tolds-count = h.told.count ∙ ports-count t old k ∙ sym (ap length h.stands)

  told-each : (n : ℕ) → n < length new.top.stands
      → IsTold (held_at old.top.nodes n) (held_at new.top.nodes n) (told_at tolds n).turn (told_at tolds n).left
  told-each n lt = h.told.each n (let a = h.told.count in let b = tolds-count in omega arith)

  was : (n : ℕ) → n < length new.top.stands
      → IsPermutation (rules_held (held_at old.top.nodes n)) (port_rules t (stand_at new.top.stands n).at)
  was n lt =
      subst (λ (ss : List Stand). IsPermutation (rules_held (held_at old.top.nodes n))
      (port_rules t (stand_at ss n).at)) (sym h.stands)
      (ports-scratch t old k n (let e = ap length h.stands in omega arith))

  is : (n : ℕ) → n < length new.top.stands
      → IsPermutation (rules_held (held_at new.top.nodes n))
      (port_rules (with_rules t new.given) (stand_at new.top.stands n).at)
  is n lt = ports-scratch (with_rules t new.given) new h.kept n lt

  pub through-deltas : AreDeltas t (with_rules t new.given) (deltas_from new.top.stands new.top.nodes 0 tolds)
  through-deltas = are-deltas t (with_rules t new.given) new.top.stands old.top.nodes new.top.nodes tolds tolds-count
      h.kept.ports told-each was is

  pub through-ports : AreOfPorts t (deltas_from new.top.stands new.top.nodes 0 tolds)
  through-ports = of-ports t (with_rules t new.given) new.top.stands old.top.nodes new.top.nodes tolds tolds-count
      h.kept.ports told-each was is
