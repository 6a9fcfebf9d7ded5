-- What a change of a member makes of the rules at entrances.
use Rattle.std.proofs.Common.{◌≡◌, ℕ, ◌==◌, Bool, true, false, List, [], ◌∷◌, Option, Some, None, refl, sym, ap, subst}
use Rattle.std.proofs.Common.{◌∙◌, eqb-true, eq-eqb}
use Rattle.std.specs.Prelude.{Contains, IsPermutation, map, slice_get, if◌then◌else◌}
use Rattle.std.specs.List.{AllByRecursion, enumerate_from}
use Rattle.std.proofs.lemmas.List.Sorted.{IsPermutation-refl, IsPermutation-sym, IsPermutation-trans}
use Rattle.agreement.specs.declared.state.Setting.{Setting}
use Rattle.agreement.proofs.Alone.{all-numbered}
use Rattle.hop_rules.specs.Tables.{TableOf, is_whole, own_ports, port_rules}
use Rattle.hop_rules.specs.declared.delta.PortDelta.{PortDelta}
use Rattle.incr_compile.specs.Compiling.{rules_at}
use Rattle.incr_compile.specs.Trees.{tree_of}
use Rattle.incr_compile.specs.declared.compiled.LeafDelta.{LeafDelta}
use Rattle.list_change.specs.Changes.{Changed}
use Rattle.list_change.proofs.PairLemmas.{changed-ordered}
use Rattle.op_compose.specs.declared.delta.RuleDelta.{RuleDelta}
use Rattle.policy_meaning.specs.Networks.{switch_rules}
use Rattle.policy_meaning.specs.Switches.{SwitchOf}
use Rattle.policy_meaning.specs.declared.rule.Rule.{Rule}
use Rattle.policy_meaning.proofs.Lists.{all-map}
use Rattle.switch_meaning.proofs.Items.{fails, some_injective}
use Rattle.composed_tables.specs.Composing.{AreExact, Changes, rules_in}
use Rattle.composed_tables.specs.Placing.{changed_by, entrance, entrances, rules_at as rules_on}
use Rattle.composed_tables.specs.Rules.{ArePortDeltas, AreRulesOf, AreTied, IsChangedAt, RulesOf}
use Rattle.composed_tables.specs.declared.part.Part.{Part}
use Rattle.composed_tables.specs.declared.part.Part.TheVariants.{Come, Gone}
use Rattle.composed_tables.proofs.Kept.{beside, port-rules-are, tree-rules}
use Rattle.composed_tables.proofs.Moving.{reordered}
use Rattle.composed_tables.proofs.Porting.{none-whole}
use Rattle.composed_tables.proofs.Tests.{both, differ}

module _ (v : ℕ) (delta : LeafDelta) (s s' : Setting) (c : Changes v delta s s') (r r' : RulesOf)
    (tied : AreTied r) (tied' : AreTied r') (of : AreRulesOf s r) (of' : AreRulesOf s' r')
    (told : RuleDelta) (changed : IsChangedAt v delta r.trees r'.trees told) where
  same-switches : s'.network.switches ≡ s.network.switches
  same-switches = ap (λ (z : Setting). z.network.switches) c.rest

  same-hops : s'.hops ≡ s.hops
  same-hops = ap (λ (z : Setting). z.hops) c.rest

  at' : (u : ℕ) (y : SwitchOf) → slice_get s.network.switches u ≡ Some y → slice_get s'.network.switches u ≡ Some y
  at' u y at = ap (λ (z : List SwitchOf). slice_get z u) same-switches ∙ at

  -- the rules of another virtual switch stay, in whatever order
  others-stay : (u : ℕ) (y : SwitchOf) → (u == v) ≡ false → slice_get s.network.switches u ≡ Some y
      → Changed (switch_rules s.network.tables (Some y)) (switch_rules s'.network.tables (Some y)) [] []
  others-stay u y ne at =
      let t = beside s.network.switches r.trees u y of.count at in
      let same : slice_get r'.trees u ≡ Some t.item = changed.others u ne ∙ t.is in
      reordered _ _ (IsPermutation-trans _ (rules_at (tree_of t.item)) _
      (IsPermutation-sym _ _ (tree-rules s r tied of u y t.item at t.is))
      (tree-rules s' r' tied' of' u y t.item (at' u y at) same))

  -- those of this one change as it was told
  own-change : (y : SwitchOf) → slice_get s.network.switches v ≡ Some y
      → Changed (switch_rules s.network.tables (Some y)) (switch_rules s'.network.tables (Some y)) told.gone told.come
  own-change y at =
      let t = beside s.network.switches r.trees v y of.count at in
      let u = beside s'.network.switches r'.trees v y of'.count (at' v y at) in
      changed-ordered (rules_at (tree_of t.item)) (rules_at (tree_of u.item)) (switch_rules s.network.tables (Some y))
      (switch_rules s'.network.tables (Some y))
      told.gone told.come told.gone told.come
      (tree-rules s r tied of v y t.item at t.is) (tree-rules s' r' tied' of' v y u.item (at' v y at) u.is)
      (IsPermutation-refl told.gone) (IsPermutation-refl told.come) (changed.changed t.item u.item t.is u.is).rules

  -- rules of a port, before and after
  ports-before : (u p : ℕ) (y : SwitchOf) → slice_get s.network.switches u ≡ Some y → y.whole ≡ false
      → IsPermutation (port_rules r.hops (record { v = u; port = p })) (rules_in s (u, y) (Some p))
  ports-before u p y at w = port-rules-are s r tied of u p (y, at, w)

  ports-after : (u p : ℕ) (y : SwitchOf) → slice_get s.network.switches u ≡ Some y → y.whole ≡ false
      → IsPermutation (port_rules r'.hops (record { v = u; port = p })) (rules_in s' (u, y) (Some p))
  ports-after u p y at w = port-rules-are s' r' tied' of' u p (y, at' u y at, w)

  abbrev At : List PortDelta → ℕ × SwitchOf → Option ℕ → Type 0
  At deltas i e = Changed (rules_in s i e) (rules_in s' i e) (changed_by Gone deltas i e) (changed_by Come deltas i e)

  -- where it holds at each entrance, it holds of all
  each-entrance : (deltas : List PortDelta)
      → ((u : ℕ) (y : SwitchOf) → slice_get s.network.switches u ≡ Some y → y.whole ≡ true → At deltas (u, y) None)
      → ((u p : ℕ) (y : SwitchOf) → slice_get s.network.switches u ≡ Some y → y.whole ≡ false
      → Contains (own_ports r.hops) (record { v = u; port = p }) → At deltas (u, y) (Some p))
      → AreExact s.network.switches (rules_in s) (rules_in s') deltas
  each-entrance deltas f g =
      all-map (λ (i : ℕ × SwitchOf). slice_get s.network.switches i.0 ≡ Some i.1)
      (λ (i : ℕ × SwitchOf). AllByRecursion (At deltas i) (entrances i.1)) (enumerate_from 0 s.network.switches)
      (λ i at. by i at i.1.whole refl) (all-numbered s.network.switches)
    where
      ports : (i : ℕ × SwitchOf) → slice_get s.network.switches i.0 ≡ Some i.1 → i.1.whole ≡ false → (ps : List ℕ)
          → AllByRecursion (λ (p : ℕ). Contains (own_ports r.hops) (record { v = i.0; port = p })) ps
          → AllByRecursion (At deltas i) (map Some ps)
      ports i at w [] a = tt
      ports i at w (p ∷ ps) a = (g i.0 p i.1 at w a.0, ports i at w ps a.1)

      by : (i : ℕ × SwitchOf) → slice_get s.network.switches i.0 ≡ Some i.1 → (b : Bool) → i.1.whole ≡ b
          → AllByRecursion (At deltas i) (if b then None ∷ [] else map Some i.1.outside)
      by i at true w = (f i.0 i.1 at w, tt)
      by i at false w = ports i at w i.1.outside (of.laid_out.ports i.0 i.1 at w)

  module _ (x : SwitchOf) (here : slice_get s.network.switches v ≡ Some x) where
    same-one : (u : ℕ) (y : SwitchOf) → (u == v) ≡ true → slice_get s.network.switches u ≡ Some y → y ≡ x
    same-one u y e at = some_injective (sym at ∙ (ap (slice_get s.network.switches) (eqb-true u v e) ∙ here))

    -- of a virtual switch that isn't whole: ports change as they were told
    pub parted-exact : x.whole ≡ false → (deltas : List PortDelta) → ArePortDeltas r.hops r'.hops deltas
        → AreExact s.network.switches (rules_in s) (rules_in s') deltas
    parted-exact w deltas d = each-entrance deltas
        (λ u y at t. nothing u y at t (u == v) refl)
        (λ u p y at f own. let ch = d.ports (record { v = u; port = p }) own in
        changed-ordered (port_rules r.hops (record { v = u; port = p }))
        (port_rules r'.hops (record { v = u; port = p })) (rules_in s (u, y) (Some p)) (rules_in s' (u, y) (Some p))
        (changed_by Gone deltas (u, y) (Some p)) (changed_by Come deltas (u, y) (Some p))
        (changed_by Gone deltas (u, y) (Some p)) (changed_by Come deltas (u, y) (Some p))
        (ports-before u p y at f) (ports-after u p y at f) (IsPermutation-refl _) (IsPermutation-refl _) ch.changed)
      where
        nothing : (u : ℕ) (y : SwitchOf) → slice_get s.network.switches u ≡ Some y → y.whole ≡ true → (b : Bool)
            → (u == v) ≡ b → At deltas (u, y) None
        nothing u y at t true e = absurd (both y.whole t (ap (λ (z : SwitchOf). z.whole) (same-one u y e at) ∙ w))
        nothing u y at t false e =
            let whole : is_whole r.hops u ≡ true = of.laid_out.whole u y at ∙ t in
            let g : changed_by Gone deltas (u, y) None ≡ [] =
            none-whole r.hops deltas d.others Gone (record { v = u; port = 0 }) whole in
            let h : changed_by Come deltas (u, y) None ≡ [] =
            none-whole r.hops deltas d.others Come (record { v = u; port = 0 }) whole in
            subst (λ (z : List Rule). Changed (rules_in s (u, y) None) (rules_in s' (u, y) None) z
            (changed_by Come deltas (u, y) None)) (sym g)
            (subst (λ (z : List Rule). Changed (rules_in s (u, y) None) (rules_in s' (u, y) None) [] z) (sym h)
            (others-stay u y e at))

    -- of a whole one: the entrance for all ports changes as it was told, and no other one does
    module _ (w : x.whole ≡ true) (same : r'.hops ≡ r.hops) where
      abbrev deltas : List PortDelta
      deltas = record { v = v; port = 0; gone = told.gone; come = told.come } ∷ []

      flips : (a b : ℕ) (t : Bool) → (a == b) ≡ t → (b == a) ≡ t
      flips a b true e = eq-eqb b a (sym (eqb-true a b e))
      flips a b false e = fails (b == a) (λ f. differ a b e (sym (eqb-true b a f)))

      abbrev told-of : Part → List Rule
      told-of Gone = told.gone
      told-of Come = told.come

      elsewhere : (part : Part) (u : ℕ) (e : Option ℕ) → (u == v) ≡ false → rules_on part deltas (entrance u e) ≡ []
      elsewhere part u None ne = rw (flips u v false ne) refl
      elsewhere part u (Some p) ne = rw (flips u v false ne) refl

      here-told : (part : Part) (u : ℕ) → (u == v) ≡ true
          → rules_on part deltas (record { v = u; port = 0 }) ≡ told-of part
      here-told Gone u e = rw (flips u v true e) refl
      here-told Come u e = rw (flips u v true e) refl

      none-at : (u : ℕ) (y : SwitchOf) (e : Option ℕ) → (u == v) ≡ false
          → Changed (rules_in s (u, y) e) (rules_in s' (u, y) e) [] [] → At deltas (u, y) e
      none-at u y e ne ch =
          subst (λ (z : List Rule). Changed (rules_in s (u, y) e) (rules_in s' (u, y) e) z
          (changed_by Come deltas (u, y) e)) (sym (elsewhere Gone u e ne))
          (subst (λ (z : List Rule). Changed (rules_in s (u, y) e) (rules_in s' (u, y) e) [] z)
          (sym (elsewhere Come u e ne)) ch)

      whole-at : (u : ℕ) (y : SwitchOf) → slice_get s.network.switches u ≡ Some y → (b : Bool) → (u == v) ≡ b
          → At deltas (u, y) None
      whole-at u y at false e = none-at u y None e (others-stay u y e at)
      whole-at u y at true e =
          let own = own-change y (ap (slice_get s.network.switches) (sym (eqb-true u v e)) ∙ at) in
          subst (λ (z : List Rule). Changed (rules_in s (u, y) None) (rules_in s' (u, y) None) z
          (changed_by Come deltas (u, y) None)) (sym (here-told Gone u e))
          (subst (λ (z : List Rule). Changed (rules_in s (u, y) None) (rules_in s' (u, y) None) told.gone z)
          (sym (here-told Come u e)) own)

      port-at : (u p : ℕ) (y : SwitchOf) → slice_get s.network.switches u ≡ Some y → y.whole ≡ false → (b : Bool)
          → (u == v) ≡ b → At deltas (u, y) (Some p)
      port-at u p y at f true e = absurd (both y.whole (ap (λ (z : SwitchOf). z.whole) (same-one u y e at) ∙ w) f)
      port-at u p y at f false e =
          let after : IsPermutation (port_rules r.hops (record { v = u; port = p })) (rules_in s' (u, y) (Some p)) =
          subst (λ (h : TableOf). IsPermutation (port_rules h (record { v = u; port = p }))
          (rules_in s' (u, y) (Some p))) same (ports-after u p y at f) in
          none-at u y (Some p) e
          (reordered _ _ (IsPermutation-trans _ (port_rules r.hops (record { v = u; port = p })) _
          (IsPermutation-sym _ _ (ports-before u p y at f)) after))

      pub whole-exact : AreExact s.network.switches (rules_in s) (rules_in s') deltas
      whole-exact = each-entrance deltas (λ u y at t. whole-at u y at (u == v) refl)
          (λ u p y at f own. port-at u p y at f (u == v) refl)
