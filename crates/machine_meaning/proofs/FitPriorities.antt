-- The priorities of the entries of a setting have 16 bits.
use Rattle.std.proofs.Common.{◌≡◌, ℕ, zero, suc, ◌*◌, ◌<◌, ◌≤◌, ◌^◌, Bool, true, false, List, [], ◌∷◌, ◌++◌}
use Rattle.std.proofs.Common.{Some, None, refl, arith, filter, map, not}
use Rattle.std.specs.Prelude.{All, filter_map, flat_map, if◌then◌else◌, option_to_list, slice_get}
use Rattle.std.specs.List.{AllByRecursion, enumerate_from}
use Rattle.std.proofs.Math.Nat.{mul-le-mul_left}
use Rattle.agreement.specs.Entries.{dropping, enters_on, entries_for, entries_of, flat, is_whole, placed, ports_at}
use Rattle.agreement.specs.Entries.{site_at}
use Rattle.agreement.specs.Fitting.{SizesFit}
use Rattle.agreement.specs.declared.state.Setting.{Setting}
use Rattle.agreement.proofs.RuleEntries.{written}
use Rattle.policy_meaning.specs.Best.{Below}
use Rattle.policy_meaning.specs.Fitting.{IsFittingTable, levels_of}
use Rattle.policy_meaning.specs.Hops.{hop_size, node, peers_size}
use Rattle.policy_meaning.specs.Networks.{entering, fabric_of, ports_of, switch_rules}
use Rattle.policy_meaning.specs.Switches.{SwitchOf}
use Rattle.policy_meaning.specs.declared.fabric.Entering.{Entering}
use Rattle.policy_meaning.specs.declared.network.Network.{Network}
use Rattle.policy_meaning.specs.declared.rule.Rule.{Rule}
use Rattle.policy_meaning.proofs.LevelsBelow.{node-below, rules-below}
use Rattle.policy_meaning.proofs.Lists.{all-append, all-each, all-filter_map, all-flat_map, all-map, all-mapped}
use Rattle.policy_meaning.proofs.Peers.{positive}
use Rattle.policy_setting.proofs.Parts.{numbered}
use Rattle.switch_meaning.specs.Fixed.{drop_entry, drops, ends_at, fixed_entries, guard, guards, is_guarded, is_outside}
use Rattle.switch_meaning.specs.Fixed.{passes, transit, transits, transits_to}
use Rattle.switch_meaning.specs.Placing.{entry_of}
use Rattle.switch_meaning.specs.declared.entry.PhysEntry.{PhysEntry}
use Rattle.switch_meaning.specs.declared.entry.Site.{Site}
use Rattle.switch_meaning.specs.declared.wiring.Outside.{Outside}
use Rattle.switch_meaning.specs.declared.wiring.SwitchPort.{SwitchPort}
use Rattle.switch_meaning.specs.declared.wiring.Wiring.{Wiring}

abbrev pub IsLow : PhysEntry → Type 0
IsLow e = e.priority < 2 ^ 16

-- a level leaves room for the priority above it
abbrev HasRoom : Rule → Type 0
HasRoom r = r.level < 65535

abbrev EachHasRoom : Entering → Type 0
EachHasRoom e = AllByRecursion HasRoom e.rules

-- over a hop or more there are no fewer levels than those of the expression
own-within : (net : Network) (hops v : ℕ) (x : SwitchOf) → 0 < hops → slice_get net.switches v ≡ Some x
    → levels_of net.tables x.expr ≤ hop_size (fabric_of net) hops v
own-within net zero v x lt at = omega arith
own-within net (suc n) v x lt at =
    let own = levels_of net.tables x.expr in
    let over = peers_size (hop_size (fabric_of net) n) x.links in
    let is : hop_size (fabric_of net) (suc n) v ≡ own * over = rw at refl in
    let p : 1 ≤ over = positive _ in
    let le = mul-le-mul_left own p in
    omega arith

module _ (w : Wiring) where
  placed-low : (site : Site) (outside : List ℕ) (e : Entering) → EachHasRoom e
      → AllByRecursion IsLow (placed w site outside e)
  placed-low site outside e g = by (enters_on w site outside e.port)
    where
      by : (b : Bool) → AllByRecursion IsLow (if b then filter_map (λ r. entry_of w site (flat r)) e.rules else [])
      by true =
          all-filter_map HasRoom IsLow (λ r. entry_of w site (flat r)) e.rules
          (λ r d f lt. let is = (written w site (flat r) d f).priority in omega (arith, is, lt)) g
      by false = tt

  to-low : (switch : ℕ) (goal : Outside) → AllByRecursion IsLow (transits_to w switch goal)
  to-low switch goal =
      all-flat_map (λ (t : ℕ). Unit {0}) IsLow
      (λ (tag : ℕ). map (λ (s : SwitchPort). transit w s goal tag)
      (filter (λ (s : SwitchPort). passes w s goal) (ends_at switch w.cables))) (option_to_list goal.tag)
      (λ tag _. all-mapped (λ (s : SwitchPort). Unit {0}) IsLow (λ (s : SwitchPort). transit w s goal tag)
      (filter (λ (s : SwitchPort). passes w s goal) (ends_at switch w.cables)) (λ s _. omega arith)
      (all-each (λ (s : SwitchPort). Unit {0}) _ (λ s. tt)))
      (all-each (λ (t : ℕ). Unit {0}) (option_to_list goal.tag) (λ t. tt))

  fixed-low : (switch : ℕ) → AllByRecursion IsLow (fixed_entries w switch)
  fixed-low switch =
      all-append IsLow (guards w switch) (transits w switch)
      (all-mapped (λ (o : Outside). Unit {0}) IsLow guard (filter (is_guarded switch) w.outside)
      (λ o _. omega arith) (all-each (λ (o : Outside). Unit {0}) (filter (is_guarded switch) w.outside) (λ o. tt)))
      (all-flat_map (λ (o : Outside). Unit {0}) IsLow (transits_to w switch) w.outside (λ o _. to-low switch o)
      (all-each (λ (o : Outside). Unit {0}) w.outside (λ o. tt)))

  drops-low : (switch : ℕ) (ports : List ℕ) (b : Bool)
      → AllByRecursion IsLow (if b then drops w switch ports else [])
  drops-low switch ports true =
      all-mapped (λ (p : ℕ). Unit {0}) IsLow drop_entry (filter (λ (p : ℕ). not (is_outside w switch p)) ports)
      (λ p _. omega arith) (all-each (λ (p : ℕ). Unit {0}) _ (λ p. tt))
  drops-low switch ports false = tt

module _ (s : Setting) (tables : All IsFittingTable s.network.tables) (hops : 0 < s.hops) (sizes : SizesFit s) where
  module _ (v : ℕ) (x : SwitchOf) (at : slice_get s.network.switches v ≡ Some x) where
    abbrev at_port : ℕ → Entering
    at_port p = record { port = Some p; rules = node (fabric_of s.network) s.hops v p }

    port-low : (p : ℕ) → EachHasRoom (at_port p)
    port-low p =
        let size = sizes v in
        all-map (Below (hop_size (fabric_of s.network) s.hops v)) HasRoom (at_port p).rules (λ r lt. omega arith)
        (node-below s.network tables s.hops v p)

    all-low : AllByRecursion HasRoom (switch_rules s.network.tables (Some x))
    all-low =
        let size = sizes v in
        let own = own-within s.network s.hops v x hops at in
        all-map (Below (levels_of s.network.tables x.expr)) HasRoom (switch_rules s.network.tables (Some x))
        (λ r lt. omega arith) (rules-below s.network.tables tables (ports_of x) x.expr)

    entering-low : (whole : Bool) → AllByRecursion EachHasRoom
        (if whole then record { port = None; rules = switch_rules s.network.tables (Some x) } ∷ []
        else map at_port x.outside)
    entering-low true = (all-low, tt)
    entering-low false =
        all-mapped (λ (p : ℕ). Unit {0}) EachHasRoom at_port x.outside (λ p _. port-low p)
        (all-each (λ (p : ℕ). Unit {0}) x.outside (λ p. tt))

  switch-low : (switch v : ℕ) (x : SwitchOf) → slice_get s.network.switches v ≡ Some x
      → AllByRecursion IsLow (entries_for s switch (v, x))
  switch-low switch v x at =
      all-flat_map EachHasRoom IsLow (placed s.wiring (site_at switch v x) x.outside)
      (entering s.network s.hops v (Some x))
      (λ e q. placed-low s.wiring (site_at switch v x) x.outside e q) (entering-low v x at x.whole)

  pub entries-low : (switch : ℕ) → AllByRecursion IsLow (entries_of s switch)
  entries-low switch =
      all-append IsLow (flat_map (entries_for s switch) (enumerate_from 0 s.network.switches))
      (fixed_entries s.wiring switch ++ dropping s switch)
      (all-flat_map (λ (i : ℕ × SwitchOf). slice_get s.network.switches i.0 ≡ Some i.1) IsLow (entries_for s switch)
      (enumerate_from 0 s.network.switches) (λ i at. switch-low switch i.0 i.1 at) (numbered s.network.switches))
      (all-append IsLow (fixed_entries s.wiring switch) (dropping s switch) (fixed-low s.wiring switch)
      (drops-low s.wiring switch (ports_at s switch) (is_whole s switch)))
