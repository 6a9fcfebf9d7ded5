-- Which switches are up doesn't matter to what is kept of a setting.
use Rattle.std.proofs.Common.{◌≡◌, ◌∙◌, ℕ, zero, suc, ◌+◌, Bool, List, [], ◌∷◌, ◌++◌, length, map, refl, sym, ap}
use Rattle.std.proofs.Common.{subst}
use Rattle.std.specs.Prelude.{flat_map, if◌then◌else◌, slice_get}
use Rattle.std.specs.List.{enumerate_from}
use Rattle.std.specs.Option.{option_map_or}
use Rattle.std.proofs.lemmas.List.FromFn.{length-enumerate_from}
use Rattle.agreement.specs.Entries.{entries_for, entries_of, is_whole}
use Rattle.agreement.specs.declared.state.PhysicalSwitch.{PhysicalSwitch}
use Rattle.agreement.specs.declared.state.Setting.{Setting}
use Rattle.composed_tables.specs.Composing.{ComposedOf, IsOf}
use Rattle.composed_tables.specs.Rules.{AreRulesOf, RulesOf}
use Rattle.policy_expr.specs.Policy.{Policy}
use Rattle.policies.specs.Policies.{PolicyOf}
use Rattle.policy_setting.specs.Settings.{physical}
use Rattle.switch_meaning.specs.Fixed.{drops, fixed_entries}
use Rattle.switch_meaning.specs.declared.entry.PhysEntry.{PhysEntry}
use Rattle.switch_tables.specs.Tables.{HasNow}
use Rattle.virtual_topology.specs.declared.plan.SwitchItem.{SwitchItem}
use Rattle.machine_meaning.specs.Settings.{setting_with, ups_with}
use Rattle.machine_meaning.specs.States.{MemberOf, SwitchOf}
use Rattle.setting_laws.specs.Ready.{UpsAreFree}

-- a switch has the same ports, up or down
ports_in : (one other : List Bool) (k : ℕ) (items : List SwitchItem) (n : ℕ)
    → option_map_or (λ (x : PhysicalSwitch). x.ports) (slice_get (map (physical one) (enumerate_from k items)) n) []
    ≡ option_map_or (λ (x : PhysicalSwitch). x.ports) (slice_get (map (physical other) (enumerate_from k items)) n) []
ports_in one other k [] n = refl
ports_in one other k (i ∷ is) zero = refl
ports_in one other k (i ∷ is) (suc n) = ports_in one other (k + 1) is n

pub long_map : {X Y : Type 0} (f : X → Y) (xs : List X) → length (map f xs) ≡ length xs
long_map f [] = refl
long_map f (x ∷ xs) = ap suc (long_map f xs)

pub long_physical : (up : List Bool) (items : List SwitchItem)
    → length (map (physical up) (enumerate_from 0 items)) ≡ length items
long_physical up items = long_map (physical up) (enumerate_from 0 items) ∙ length-enumerate_from 0 items

module _ (p : PolicyOf) (exprs : List Policy) (members : List MemberOf) (one other : List SwitchOf) where
  abbrev s : Setting
  s = setting_with p exprs members one

  abbrev t : Setting
  t = setting_with p exprs members other

  entries_alike : (n : ℕ) → entries_of s n ≡ entries_of t n
  entries_alike n =
      ap (λ (ports : List ℕ). flat_map (entries_for s n) (enumerate_from 0 s.network.switches)
      ++ (fixed_entries s.wiring n ++ (if is_whole s n then drops s.wiring n ports else [])))
      (ports_in (ups_with one) (ups_with other) 0 p.switches n)

  rules_alike : (r : RulesOf) → AreRulesOf s r → AreRulesOf t r
  rules_alike r h = record {
    count = h.count;
    trees_are = h.trees_are;
    laid_out = record {
      hops = h.laid_out.hops;
      count = h.laid_out.count;
      sizes = h.laid_out.sizes;
      links_are = h.laid_out.links_are;
      leads = h.laid_out.leads;
      whole = h.laid_out.whole;
      ports = h.laid_out.ports;
    };
  }

  pub of_alike : (c : ComposedOf) → IsOf s c → IsOf t c
  of_alike c h = record {
    wiring = h.wiring;
    switches = h.switches;
    rules = λ r e. rules_alike r (h.rules r e);
    tables = λ n x at. subst (λ (es : List PhysEntry). HasNow es x) (entries_alike n) (h.tables n x at);
    count = h.count ∙ (long_physical (ups_with one) p.switches ∙ sym (long_physical (ups_with other) p.switches));
  }

pub ups_free : UpsAreFree
ups_free p exprs members one other c h = of_alike p exprs members one other c h
