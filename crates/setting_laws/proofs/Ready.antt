-- The setting of a state with sound tables is as the composed part asks.
use Rattle.std.proofs.Common.{◌≡◌, ◌∙◌, ℕ, zero, suc, ◌+◌, ◌*◌, ◌<◌, ◌≤◌, ◌^◌, Bool, false, List, [], ◌∷◌, length, map}
use Rattle.std.proofs.Common.{Some, arith, refl, sym, subst}
use Rattle.std.specs.Prelude.{◌==◌, All, slice_get, zip}
use Rattle.std.specs.List.{AllByRecursion, enumerate_from}
use Rattle.std.specs.Option.{option_map_or}
use Rattle.std.proofs.Math.Nat.{le-mul_of_pos_right}
use Rattle.std.proofs.lemmas.List.Elements.{All-from_recursion}
use Rattle.std.proofs.lemmas.List.FromFn.{length-enumerate_from}
use Rattle.agreement.specs.Fitting.{IsFittingSetting}
use Rattle.agreement.specs.OneEntry.{IsNamedOnce}
use Rattle.agreement.specs.Premises.{IsSoundSetting}
use Rattle.agreement.specs.declared.state.PhysicalSwitch.{PhysicalSwitch}
use Rattle.agreement.specs.declared.state.Setting.{Setting}
use Rattle.composed_tables.specs.Rules.{CanCompile, IsOutside, IsReadyFor}
use Rattle.member_state.specs.Leaves.{leaf_of}
use Rattle.member_state.specs.Sound.{IsSoundLeaf}
use Rattle.member_state.proofs.LeafFacts.{leaf_is_plain, leaf_is_sound, leaf_keeps_to}
use Rattle.policies.specs.Policies.{PolicyOf, plan}
use Rattle.policies.specs.Sound.{EachToEarlier, IsOtherPort, IsSound, IsSoundSwitch}
use Rattle.policies.specs.declared.policy.MemberItem.{MemberItem}
use Rattle.policy_meaning.specs.CentralFact.{EachMember}
use Rattle.policy_meaning.specs.Disjoint.{HasOrderlyTable}
use Rattle.policy_meaning.specs.Fitting.{IsFittingTable, levels_of}
use Rattle.policy_meaning.specs.Hops.{greatest, hop_size, peers_size}
use Rattle.policy_meaning.specs.LeafFact.{EachPair, IsSoundTable}
use Rattle.policy_meaning.specs.Networks.{fabric_of, switch_links, switch_size}
use Rattle.policy_meaning.specs.Switches.{SwitchOf as VirtualOf}
use Rattle.policy_meaning.specs.declared.leaf.LeafTable.{LeafTable}
use Rattle.policy_meaning.specs.declared.network.Link.{Link}
use Rattle.policy_setting.specs.OfPolicies.{seen}
use Rattle.policy_setting.specs.Settings.{expr_at, numbered_switch, physical}
use Rattle.policy_setting.proofs.Apart.{faultless}
use Rattle.policy_setting.proofs.Mixed.{switch_is}
use Rattle.policy_setting.proofs.Numbers.{tags_small}
use Rattle.policy_setting.proofs.Ready.{numbers_of}
use Rattle.virtual_topology.proofs.Counted.{few_switches, few_virtuals}
use Rattle.virtual_topology.specs.declared.plan.SwitchItem.{SwitchItem}
use Rattle.machine_meaning.specs.Laws.{SettingsAreSound}
use Rattle.machine_meaning.specs.Settings.{setting_of, table_of, tables_with, ups_with}
use Rattle.machine_meaning.specs.Sound.{AreSoundTables}
use Rattle.machine_meaning.specs.States.{MemberOf, State}
use Rattle.machine_meaning.proofs.Grants.{grant_sound}
use Rattle.machine_meaning.proofs.NamedOnce.{IsShort, short_at}
use Rattle.machine_meaning.proofs.Numbered.{behind, here}
use Rattle.machine_meaning.proofs.Readings.{IsMemberAt, each_weaker, members_at}
use Rattle.machine_meaning.proofs.SoundSettings.{tables_orderly}
use Rattle.setting_laws.specs.Ready.{IsReady, SettingsAreReady}
use Rattle.setting_laws.proofs.Links.{leads, links_are, ports_are}
use Rattle.setting_laws.proofs.Ups.{long_map, long_physical}

-- tables ------------------------------------------------------------------------------------------------------------

-- what holds of the table of each member
each_in : (P : LeafTable → Type 0) (k : ℕ) (items : List MemberItem) (states : List MemberOf)
    → ((n : ℕ) (m : MemberItem) (x : MemberOf) → slice_get items n ≡ Some m → slice_get states n ≡ Some x
    → P (leaf_of (k + n) m.grant x.kept))
    → AllByRecursion P (map table_of (enumerate_from k (zip items states)))
each_in P k [] states f = tt
each_in P k (m ∷ ms) [] f = tt
each_in P k (m ∷ ms) (x ∷ xs) f = (
  subst (λ (j : ℕ). P (leaf_of j m.grant x.kept)) (sym (here k)) (f 0 m x refl refl),
  each_in P (k + 1) ms xs
      (λ n y z a b. subst (λ (j : ℕ). P (leaf_of j y.grant z.kept)) (sym (behind k n)) (f (suc n) y z a b)),
)

-- ports of physical switches ----------------------------------------------------------------------------------------

abbrev Unlike : ℕ → ℕ → Type 0
Unlike a b = (b == a) ≡ false

pairs_of : (ports : List ℕ) → EachToEarlier IsOtherPort ports → EachPair Unlike ports
pairs_of [] h = tt
pairs_of (x ∷ xs) h = (h.0, pairs_of xs h.1)

ports_in : (ups : List Bool) (k : ℕ) (items : List SwitchItem) → AllByRecursion IsSoundSwitch items → (n : ℕ)
    → EachPair Unlike
    (option_map_or (λ (x : PhysicalSwitch). x.ports) (slice_get (map (physical ups) (enumerate_from k items)) n) [])
ports_in ups k [] h n = tt
ports_in ups k (i ∷ is) h zero = pairs_of i.ports h.0.once
ports_in ups k (i ∷ is) h (suc n) = ports_in ups (k + 1) is h.1 n

-- levels ------------------------------------------------------------------------------------------------------------

some_size : (ns : List ℕ) → 1 ≤ greatest ns
some_size [] = omega arith
some_size (n ∷ ns) = omega (arith, some_size ns)

-- the levels of an expression are no more than those over hops
own_levels : (size : ℕ) (ns : List ℕ) → size * greatest ns ≤ 65534 → size < 2 ^ 64
own_levels size ns le = let more = le-mul_of_pos_right size (some_size ns) in omega (arith, le, more)

-- a state -----------------------------------------------------------------------------------------------------------

module _ (p : PolicyOf) (h : IsSound p) (s : State) (sound : AreSoundTables p s) (settings : SettingsAreSound) where
  abbrev setting : Setting
  setting = setting_of p s

  abbrev tables : List LeafTable
  tables = tables_with p.members s.members

  each_table : (P : LeafTable → Type 0)
      → ((i : ℕ) (m : MemberItem) (x : MemberOf) → IsSoundLeaf i m.grant x.kept → P (leaf_of i m.grant x.kept))
      → AllByRecursion P tables
  each_table P f =
      each_in P 0 p.members s.members
      (λ n m x a b.
      f (0 + n) m x (leaf_is_sound (0 + n) m.grant x.kept (grant_sound p h n m a) (sound.members n m x a b).sound))

  setting_sound : IsSoundSetting setting
  setting_sound = settings p h s sound

  expression_short : (v : ℕ) (x : VirtualOf) → slice_get setting.network.switches v ≡ Some x → IsShort x.expr
  expression_short v x at =
      let w = switch_is (plan p) s.exprs (seen p) v x at in
      subst (λ (y : VirtualOf). IsShort y.expr) w.is (short_at p s.exprs sound.exprs v w.item w.there)

  named_once : IsNamedOnce setting
  named_once = record {
    policies = λ v x at.
        let w = switch_is (plan p) s.exprs (seen p) v x at in
        record {
          once = (expression_short v x at).once;
          members =
              subst (λ (y : VirtualOf). EachMember (HasOrderlyTable tables) y.expr) w.is
              (each_weaker (IsMemberAt p.members v) (HasOrderlyTable tables)
              (tables_orderly p h s sound (λ i g x good state. leaf_is_sound i g x good state)
              (λ i g v x ports good within visible. leaf_keeps_to i g v x ports good within visible)
              (λ i g v x good few within. leaf_is_plain i g v x good few within) v)
              (expr_at s.exprs v) (members_at p s.exprs sound.exprs v w.item w.there));
        };
    ports = λ switch. ports_in (ups_with s.switches) 0 p.switches h.limits.switches switch;
  }

  fit : All IsFittingTable tables
  fit = All-from_recursion IsFittingTable tables (each_table IsFittingTable (λ i m x l. l.fits))

  some_hops : 0 < p.hops
  some_hops = let le = h.limits.some_hops in omega (arith, le)

  long_virtuals : length setting.network.switches ≡ length p.virtuals
  long_virtuals =
      long_map (numbered_switch (plan p) s.exprs (seen p)) (enumerate_from 0 p.virtuals)
      ∙ length-enumerate_from 0 p.virtuals

  fitting : IsFittingSetting setting
  fitting = record {
    tables = fit;
    hops = some_hops;
    switches =
        let few : length p.virtuals ≤ 16 = few_virtuals (plan p) h.together.topology in
        omega (arith, long_virtuals, few);
    sizes = setting_sound.sizes;
    tags = tags_small (plan p) h.together.topology;
  }

  size_by : (hops v : ℕ) (x : VirtualOf) → 0 < hops → slice_get setting.network.switches v ≡ Some x
      → hop_size (fabric_of setting.network) hops v ≤ 65534 → levels_of tables x.expr < 2 ^ 64
  size_by zero v x some at le = absurd (omega (arith, some))
  size_by (suc n) v x some at le =
      let f = hop_size (fabric_of setting.network) n in
      own_levels (levels_of tables x.expr) (map (λ (l : Link). f l.peer.v) x.links)
      (subst (λ o. switch_size tables o * peers_size f (switch_links o) ≤ 65534) at le)

  can : CanCompile setting.network
  can = record {
    fit = fit;
    sound = each_table IsSoundTable (λ i m x l. l.sound);
    once = λ v x at. (expression_short v x at).once;
    size = λ v x at. size_by p.hops v x some_hops at (setting_sound.sizes v);
  }

  ready_for : IsReadyFor (plan p) setting
  ready_for = record {
    can = can;
    count = long_virtuals;
    links_are = λ v. links_are (plan p) s.exprs (seen p) v;
    leads = λ v.
        leads (plan p) (numbers_of p h) (faultless (plan p) h.together.topology) s.exprs (seen p) tables
        (ups_with s.switches) p.hops v;
    ports = λ v x at.
        let w = switch_is (plan p) s.exprs (seen p) v x at in
        subst (λ (y : VirtualOf). AllByRecursion (IsOutside (plan p) v) y.outside) w.is (ports_are (plan p) v);
  }

  pub is_ready : IsReady p s
  is_ready = record {
    good = record { sound = setting_sound; once = named_once };
    fits = fitting;
    ready = ready_for;
    few =
        let long = long_physical (ups_with s.switches) p.switches in
        let few : length p.switches ≤ 16 = few_switches (plan p) h.together.topology in
        omega (arith, long, few);
  }

pub settings_ready : SettingsAreSound → SettingsAreReady
settings_ready settings p h s sound = is_ready p h s sound settings
