-- The entries that a setting gives are made of leaves of its tables.
use Rattle.std.proofs.Common.{ℕ, Bool, true, false, List, [], ◌∷◌, ◌++◌, map, filter, Some, None, subst}
use Rattle.std.proofs.Common.{if◌then◌else◌}
use Rattle.std.specs.Prelude.{filter_map, flat_map, option_to_list}
use Rattle.std.specs.List.{AllByRecursion, enumerate_from}
use Rattle.agreement.specs.Entries.{dropping, enters_on, entries_for, entries_of, flat, is_whole, placed, ports_at}
use Rattle.agreement.specs.Entries.{site_at}
use Rattle.agreement.specs.declared.state.Setting.{Setting}
use Rattle.cv_io.specs.declared.leaf.Leaf.{Leaf}
use Rattle.policy_meaning.specs.Hops.{node}
use Rattle.policy_meaning.specs.Networks.{entering, fabric_of, switch_rules}
use Rattle.policy_meaning.specs.Switches.{SwitchOf}
use Rattle.policy_meaning.specs.declared.fabric.Entering.{Entering}
use Rattle.policy_meaning.proofs.Lists.{all-append, all-each, all-filter_map, all-flat_map, all-mapped}
use Rattle.switch_meaning.specs.Fixed.{drop_entry, drops, fixed_entries, guard, guards, is_guarded, transit, transits}
use Rattle.switch_meaning.specs.Fixed.{transits_to}
use Rattle.switch_meaning.specs.Keys.{installed}
use Rattle.switch_meaning.specs.Placing.{entry_of, entry_with, match_written}
use Rattle.switch_meaning.specs.declared.entry.PhysEntry.{PhysEntry}
use Rattle.switch_meaning.specs.declared.entry.Site.{Site}
use Rattle.switch_meaning.specs.declared.wiring.Outside.{Outside}
use Rattle.switch_meaning.specs.declared.wiring.SwitchPort.{SwitchPort}
use Rattle.switch_meaning.specs.declared.wiring.Wiring.{Wiring}
use Rattle.switch_meaning.proofs.Items.{all-filter, mapped}
use Rattle.machine_meaning.proofs.Ancestries.{EachLeaf, OfLeaves, nodes_leaves, switch_leaves}

-- what holds of the leaves of an entry
abbrev pub OfEntry : (Leaf → Type 0) → PhysEntry → Type 0
OfEntry P e = AllByRecursion P e.ancestry

module _ (P : Leaf → Type 0) where
  placed_leaves : (w : Wiring) (site : Site) (outside : List ℕ) (e : Entering) → AllByRecursion (OfLeaves P) e.rules
      → AllByRecursion (OfEntry P) (placed w site outside e)
  placed_leaves w site outside e h = by (enters_on w site outside e.port)
    where
      by : (b : Bool)
          → AllByRecursion (OfEntry P) (if b then filter_map (λ r. entry_of w site (flat r)) e.rules else [])
      by true =
          all-filter_map (OfLeaves P) (OfEntry P) (λ r. entry_of w site (flat r)) e.rules
          (λ r d f q. let m = mapped (entry_with w site (flat r)) (match_written w site (flat r)) d f in
          subst (OfEntry P) m.is q) h
      by false = tt

  -- entries that don't hang on tables have no leaves
  fixed_leaves : (w : Wiring) (switch : ℕ) → AllByRecursion (OfEntry P) (fixed_entries w switch)
  fixed_leaves w switch =
      all-append (OfEntry P) (guards w switch) (transits w switch)
      (all-mapped (λ (o : Outside). Unit {0}) (OfEntry P) guard (filter (is_guarded switch) w.outside) (λ o _. tt)
      (all-each (λ (o : Outside). Unit {0}) (filter (is_guarded switch) w.outside) (λ o. tt)))
      (all-flat_map (λ (o : Outside). Unit {0}) (OfEntry P) (transits_to w switch) w.outside
      (λ o _. all-flat_map (λ (t : ℕ). Unit {0}) (OfEntry P) _ (option_to_list o.tag)
      (λ t _. all-mapped (λ (s : SwitchPort). Unit {0}) (OfEntry P) (λ (s : SwitchPort). transit w s o t) _ (λ s _. tt)
      (all-each (λ (s : SwitchPort). Unit {0}) _ (λ s. tt)))
      (all-each (λ (t : ℕ). Unit {0}) (option_to_list o.tag) (λ t. tt)))
      (all-each (λ (o : Outside). Unit {0}) w.outside (λ o. tt)))

  drops_leaves : (w : Wiring) (switch : ℕ) (ports : List ℕ) (b : Bool)
      → AllByRecursion (OfEntry P) (if b then drops w switch ports else [])
  drops_leaves w switch ports true =
      all-mapped (λ (p : ℕ). Unit {0}) (OfEntry P) drop_entry _ (λ p _. tt)
      (all-each (λ (p : ℕ). Unit {0}) _ (λ p. tt))
  drops_leaves w switch ports false = tt

  module _ (s : Setting) (h : AllByRecursion (EachLeaf P) s.network.tables) where
    entering_leaves : (v : ℕ) (x : SwitchOf) (b : Bool) → AllByRecursion
        (λ (e : Entering). AllByRecursion (OfLeaves P) e.rules)
        (if b then record { port = None; rules = switch_rules s.network.tables (Some x) } ∷ []
        else map (λ p. record { port = Some p; rules = node (fabric_of s.network) s.hops v p }) x.outside)
    entering_leaves v x true = (switch_leaves P s.network.tables h (Some x), tt)
    entering_leaves v x false =
        all-mapped (λ p. Unit {0}) (λ (e : Entering). AllByRecursion (OfLeaves P) e.rules) _ x.outside
        (λ p _. nodes_leaves P s.network h s.hops v p) (all-each (λ p. Unit {0}) x.outside (λ p. tt))

    entries_leaves : (switch : ℕ) → AllByRecursion (OfEntry P) (entries_of s switch)
    entries_leaves switch =
        all-append (OfEntry P) (flat_map (entries_for s switch) (enumerate_from 0 s.network.switches))
        (fixed_entries s.wiring switch ++ dropping s switch)
        (all-flat_map (λ (i : ℕ × SwitchOf). Unit {0}) (OfEntry P) (entries_for s switch)
        (enumerate_from 0 s.network.switches)
        (λ i _. all-flat_map (λ (e : Entering). AllByRecursion (OfLeaves P) e.rules) (OfEntry P)
        (placed s.wiring (site_at switch i.0 i.1) i.1.outside) (entering s.network s.hops i.0 (Some i.1))
        (λ e q. placed_leaves s.wiring (site_at switch i.0 i.1) i.1.outside e q) (entering_leaves i.0 i.1 i.1.whole))
        (all-each (λ (i : ℕ × SwitchOf). Unit {0}) (enumerate_from 0 s.network.switches) (λ i. tt)))
        (all-append (OfEntry P) (fixed_entries s.wiring switch) (dropping s switch) (fixed_leaves s.wiring switch)
        (drops_leaves s.wiring switch (ports_at s switch) (is_whole s switch)))

    pub installed_leaves : (switch : ℕ) → AllByRecursion (OfEntry P) (installed (entries_of s switch))
    installed_leaves switch =
        all-filter (OfEntry P) _ _ (all-filter (OfEntry P) _ (entries_of s switch) (entries_leaves switch))
