-- What the setting of a sound state gives can be written.
use Rattle.std.proofs.Common.{◌≡◌, ℕ, zero, suc, ◌+◌, ◌<◌, ◌≤◌, Bool, false, List, [], ◌∷◌, map, Some, arith, refl, sym}
use Rattle.std.proofs.Common.{subst}
use Rattle.std.specs.Prelude.{◌==◌, All, slice_get, zip}
use Rattle.std.specs.List.{AllByRecursion, enumerate_from}
use Rattle.std.specs.Option.{option_map_or}
use Rattle.std.proofs.lemmas.List.Elements.{All-from_recursion, recursion_from_All}
use Rattle.agreement.specs.Entries.{entries_of, ports_at}
use Rattle.agreement.specs.Lengths.{AddFits, HasLimits}
use Rattle.agreement.specs.OneEntry.{IsNamedOnce}
use Rattle.agreement.specs.Premises.{IsSoundSetting}
use Rattle.agreement.specs.Ranges.{CanStand}
use Rattle.agreement.specs.declared.state.PhysicalSwitch.{PhysicalSwitch}
use Rattle.agreement.specs.declared.state.Setting.{Setting}
use Rattle.agreement.proofs.Lengths.{adds-fit}
use Rattle.agreement.proofs.Ranges.{actions-are-in-range}
use Rattle.agreement.proofs.Twins.{one-entry-a-key}
use Rattle.grants.specs.Granted.{IsGranted}
use Rattle.grants.specs.declared.grant.Grant.{Grant}
use Rattle.member_state.specs.Leaves.{leaf_of, levels_of}
use Rattle.member_state.specs.Sound.{AreWithin, IsSoundLeaf}
use Rattle.member_state.specs.States.{MemberStateOf}
use Rattle.member_state.proofs.LeafFacts.{leaf_is_plain, leaf_is_sound, leaf_keeps_to}
use Rattle.member_table.specs.Sound.{IsAsWritten}
use Rattle.member_table.specs.declared.entry.Entry.{Entry}
use Rattle.of10_actions.specs.Actions.{FitsTypes}
use Rattle.of10_actions.specs.Numbers.{MAX}
use Rattle.of10_actions.specs.declared.effects.PortView.{PortView}
use Rattle.of10_match.specs.Fields.{MatchOf}
use Rattle.of10_match.specs.Normal.{IsNormal}
use Rattle.of10_match.specs.Ranges.{IsMatch}
use Rattle.packet_map.specs.Networks.{leaf_entry}
use Rattle.policies.specs.Policies.{PolicyOf, plan}
use Rattle.policies.specs.Sound.{EachToEarlier, IsOtherPort, IsSound, IsSoundBox, IsSoundSwitch}
use Rattle.policies.specs.declared.policy.MemberItem.{MemberItem}
use Rattle.policy_meaning.specs.CentralFact.{EachMember}
use Rattle.policy_meaning.specs.Disjoint.{HasOrderlyTable}
use Rattle.policy_meaning.specs.Fitting.{IsFittingTable}
use Rattle.policy_meaning.specs.LeafFact.{EachPair}
use Rattle.policy_meaning.specs.Ranged.{EntriesInRange}
use Rattle.policy_meaning.specs.Switches.{SwitchOf as VirtualOf}
use Rattle.policy_meaning.specs.Written.{EntriesAreWrittenBy, writes}
use Rattle.policy_meaning.specs.declared.leaf.LeafEntry.{LeafEntry}
use Rattle.policy_meaning.specs.declared.leaf.LeafTable.{LeafTable}
use Rattle.policy_meaning.proofs.Lists.{all-map, all-mapped, all-zip}
use Rattle.policy_setting.specs.OfPolicies.{seen}
use Rattle.policy_setting.specs.Settings.{expr_at, physical}
use Rattle.policy_setting.proofs.Mixed.{switch_is}
use Rattle.policy_setting.proofs.Numbers.{tags_small}
use Rattle.policy_setting.proofs.Ready.{numbers_of}
use Rattle.switch_meaning.specs.Keys.{installed}
use Rattle.switch_meaning.specs.declared.entry.PhysEntry.{PhysEntry}
use Rattle.switch_meaning.proofs.Items.{all-filter}
use Rattle.virtual_topology.specs.declared.plan.SwitchItem.{SwitchItem}
use Rattle.machine_meaning.specs.Events.{IsEvent}
use Rattle.machine_meaning.specs.Laws.{AreWritable, IsWritable, SettingsAreSound, StatesAreWritable}
use Rattle.machine_meaning.specs.Names.{all_ports, virtual_of}
use Rattle.machine_meaning.specs.Settings.{setting_of, table_of, tables_with, ups_with}
use Rattle.machine_meaning.specs.Sound.{AreSoundTables, AreTyped, HasNumbers, IsSoundMember, IsSoundState, IsTyped}
use Rattle.machine_meaning.specs.States.{MemberOf, State}
use Rattle.machine_meaning.specs.Steps.{step_of}
use Rattle.events.specs.declared.event.Event.{Event}
use Rattle.machine_meaning.proofs.FitEffects.{effects-fit, few-writes}
use Rattle.machine_meaning.proofs.FitActions.{IsNumbered}
use Rattle.machine_meaning.proofs.FitPlaced.{EntryFits, entries-fit}
use Rattle.machine_meaning.proofs.FitPriorities.{IsLow, entries-low}
use Rattle.machine_meaning.proofs.FitRules.{IsFine, LeafFits, TableFits}
use Rattle.machine_meaning.proofs.Grants.{grant_sound, item_of}
use Rattle.machine_meaning.proofs.NamedOnce.{IsShort, short_at}
use Rattle.machine_meaning.proofs.Numbered.{behind, here}
use Rattle.machine_meaning.proofs.NumberedWirings.{numbered}
use Rattle.machine_meaning.proofs.Places.{at_place}
use Rattle.machine_meaning.proofs.Readings.{IsMemberAt, each_weaker, members_at}
use Rattle.machine_meaning.proofs.SoundSettings.{sound_tables, tables_orderly}
use Rattle.machine_meaning.proofs.SoundTables.{tables_kept}
use Rattle.machine_meaning.proofs.TypedSteps.{typed_kept}

-- tables ------------------------------------------------------------------------------------------------------------

fine_of : (m : MatchOf) → IsMatch m → IsNormal m → IsFine m
fine_of m p n = record {
  ranged = record {
    in_port = tt;
    dl_src = p.dl_src;
    dl_dst = p.dl_dst;
    dl_vlan = p.dl_vlan;
    dl_vlan_pcp = p.dl_vlan_pcp;
    dl_type = p.dl_type;
    nw_tos = p.nw_tos;
    nw_proto = p.nw_proto;
    nw_src = p.nw_src;
    nw_dst = p.nw_dst;
    tp_src = p.tp_src;
    tp_dst = p.tp_dst;
  };
  normal = n;
}

-- entries that are typed and as they were written, and boxes that are in range and normal
table_fits : (i : ℕ) (g : Grant) (x : MemberStateOf) → AllByRecursion IsTyped x.table.entries
    → AllByRecursion IsAsWritten x.table.entries → AllByRecursion IsMatch g.regions → AllByRecursion IsNormal g.regions
    → TableFits (leaf_of i g x)
table_fits i g x typed written ranged normal = record {
  entries =
      all-mapped (λ (e : Entry). IsTyped e × IsAsWritten e) LeafFits (leaf_entry (levels_of x.levels) i g.ports)
      x.table.entries
      (λ e k. let t = k.0 in let w = k.1 in (
        fine_of e.normal t.match_in_range w.normal,
        effects-fit g.ports i e.actions (recursion_from_All FitsTypes e.actions t.actions),
      ))
      (all-zip IsTyped IsAsWritten x.table.entries typed written);
  region =
      all-map (λ m. IsMatch m × IsNormal m) IsFine g.regions (λ m k. fine_of m k.0 k.1)
      (all-zip IsMatch IsNormal g.regions ranged normal);
}

-- entries within a grant are written by at most 64 actions
table_few : (i : ℕ) (g : Grant) (v : PortView) (x : MemberStateOf) → AreWithin g v x
    → EntriesAreWrittenBy 64 (leaf_of i g x)
table_few i g v x within =
    all-mapped (λ (e : Entry). IsGranted g v e.normal e.actions)
    (λ (e : LeafEntry). writes e.effects.outs e.effects.tail ≤ 64) (leaf_entry (levels_of x.levels) i g.ports)
    x.table.entries (λ e k. few-writes g v i e.actions k.actions) within

-- what holds of the table of each member
each_in : (P : LeafTable → Type 0) (k : ℕ) (items : List MemberItem) (states : List MemberOf)
    → ((n : ℕ) (m : MemberItem) (x : MemberOf) → slice_get items n ≡ Some m → slice_get states n ≡ Some x
    → P (leaf_of (k + n) m.grant x.kept))
    → AllByRecursion P (map table_of (enumerate_from k (zip items states)))
each_in P k [] states f = tt
each_in P k (m ∷ ms) [] f = tt
each_in P k (m ∷ ms) (x ∷ xs) f = (
  subst (λ (j : ℕ). P (leaf_of j m.grant x.kept)) (sym (here k)) (f 0 m x refl refl),
  each_in P (k + 1) ms xs
      (λ n y z a b. subst (λ (j : ℕ). P (leaf_of j y.grant z.kept)) (sym (behind k n)) (f (suc n) y z a b)),
)

-- ports of physical switches ----------------------------------------------------------------------------------------

-- no number is named twice
pairs_of : (ports : List ℕ) → EachToEarlier IsOtherPort ports → EachPair (λ (a b : ℕ). (b == a) ≡ false) ports
pairs_of [] h = tt
pairs_of (x ∷ xs) h = (h.0, pairs_of xs h.1)

ports_in : (P : List ℕ → Type 0) → P [] → (ups : List Bool) (k : ℕ) (items : List SwitchItem)
    → AllByRecursion (λ (s : SwitchItem). P s.ports) items → (n : ℕ)
    → P (option_map_or (λ (x : PhysicalSwitch). x.ports)
    (slice_get (map (physical ups) (enumerate_from k items)) n) [])
ports_in P none ups k [] h n = none
ports_in P none ups k (i ∷ is) h zero = h.0
ports_in P none ups k (i ∷ is) h (suc n) = ports_in P none ups (k + 1) is h.1 n

-- a state -----------------------------------------------------------------------------------------------------------

module _ (p : PolicyOf) (h : IsSound p) (s : State) (sound : AreSoundTables p s)
    (typed : AllByRecursion AreTyped s.members) (settings : SettingsAreSound)
  where
    abbrev setting : Setting
    setting = setting_of p s

    abbrev tables : List LeafTable
    tables = tables_with p.members s.members

    each_table : (P : LeafTable → Type 0)
        → ((i n : ℕ) (m : MemberItem) (x : MemberOf) → slice_get p.members n ≡ Some m → slice_get s.members n ≡ Some x
        → IsSoundMember p m x → IsSoundLeaf i m.grant x.kept → P (leaf_of i m.grant x.kept)) → AllByRecursion P tables
    each_table P f =
        each_in P 0 p.members s.members
        (λ n m x a b. let k = sound.members n m x a b in
        f (0 + n) n m x a b k (leaf_is_sound (0 + n) m.grant x.kept (grant_sound p h n m a) k.sound))

    tables_fit : AllByRecursion TableFits tables
    tables_fit =
        each_table TableFits
        (λ i n m x a b k l. let g = grant_sound p h n m a in
        let boxes = (item_of p h n m a).grant.boxes in
        table_fits i m.grant x.kept (at_place AreTyped s.members n x typed b) k.sound.table.written
        (all-map IsSoundBox IsMatch m.grant.regions (λ m f. f.range) boxes) g.boxes)

    tables_few : AllByRecursion (EntriesAreWrittenBy 64) tables
    tables_few =
        each_table (EntriesAreWrittenBy 64)
        (λ i n m x a b k l. table_few i m.grant (all_ports p (virtual_of m)) x.kept k.within)

    tables_levelled : All IsFittingTable tables
    tables_levelled =
        All-from_recursion IsFittingTable tables (each_table IsFittingTable (λ i n m x a b k l. l.fits))

    tables_ranged : AllByRecursion EntriesInRange tables
    tables_ranged = each_table EntriesInRange (λ i n m x a b k l. l.in_range)

    setting_sound : IsSoundSetting setting
    setting_sound = settings p h s sound

    -- the expression of a virtual switch of the setting
    expression_short : (v : ℕ) (x : VirtualOf) → slice_get setting.network.switches v ≡ Some x → IsShort x.expr
    expression_short v x at =
        let w = switch_is (plan p) s.exprs (seen p) v x at in
        subst (λ (y : VirtualOf). IsShort y.expr) w.is (short_at p s.exprs sound.exprs v w.item w.there)

    has_limits : HasLimits setting
    has_limits = record {
      hops = h.limits.most_hops;
      within = record { leaves = λ v x at. (expression_short v x at).few; actions = tables_few };
    }

    named_once : IsNamedOnce setting
    named_once = record {
      policies = λ v x at.
          let w = switch_is (plan p) s.exprs (seen p) v x at in
          record {
            once = (expression_short v x at).once;
            members =
                subst (λ (y : VirtualOf). EachMember (HasOrderlyTable tables) y.expr) w.is
                (each_weaker (IsMemberAt p.members v) (HasOrderlyTable tables)
                (tables_orderly p h s sound (λ i g x good state. leaf_is_sound i g x good state)
                (λ i g v x ports good within visible. leaf_keeps_to i g v x ports good within visible)
                (λ i g v x good few within. leaf_is_plain i g v x good few within) v)
                (expr_at s.exprs v) (members_at p s.exprs sound.exprs v w.item w.there));
          };
      ports = λ switch.
          ports_in (EachPair (λ (a b : ℕ). (b == a) ≡ false)) tt (ups_with s.switches) 0 p.switches
          (all-map IsSoundSwitch (λ (x : SwitchItem). EachPair (λ (a b : ℕ). (b == a) ≡ false) x.ports) p.switches
          (λ x f. pairs_of x.ports f.once) h.limits.switches) switch;
    }

    ports_numbered : (switch : ℕ) → AllByRecursion (λ q. q < MAX) (ports_at setting switch)
    ports_numbered switch =
        ports_in (AllByRecursion (λ q. q < MAX)) tt (ups_with s.switches) 0 p.switches (numbers_of p h) switch

    wiring_numbered : IsNumbered setting.wiring
    wiring_numbered = numbered (plan p) (numbers_of p h) h.together.topology

    kept : (P : PhysEntry → Type 0) (n : ℕ) → AllByRecursion P (entries_of setting n)
        → AllByRecursion P (installed (entries_of setting n))
    kept P n all = all-filter P _ _ (all-filter P _ (entries_of setting n) all)

    each_writable : (n : ℕ) → AllByRecursion IsWritable (installed (entries_of setting n))
    each_writable n =
        let wanted = installed (entries_of setting n) in
        let fit = kept EntryFits n (entries-fit setting tables_fit wiring_numbered ports_numbered n) in
        let some_hops : 0 < p.hops = let le = h.limits.some_hops in omega (arith, le) in
        let low = kept IsLow n (entries-low setting tables_levelled some_hops setting_sound.sizes n) in
        let adds = (adds-fit setting setting_sound has_limits n).1 in
        let ranged = (actions-are-in-range setting tables_ranged (tags_small (plan p) h.together.topology) n).1 in
        all-map (λ (e : PhysEntry). (EntryFits e × IsLow e) × (AddFits e × CanStand e)) IsWritable wanted
        (λ e k. let f = k.0.0 in
        record {
          match_in_range = f.in_range;
          normal = f.normal;
          priority = k.0.1;
          fits = k.1.0;
          actions_in_range = k.1.1;
          types = All-from_recursion FitsTypes e.actions f.types;
        })
        (all-zip (λ (e : PhysEntry). EntryFits e × IsLow e) (λ (e : PhysEntry). AddFits e × CanStand e) wanted
        (all-zip EntryFits IsLow wanted fit low) (all-zip AddFits CanStand wanted adds ranged))

    pub writable : AreWritable p s
    writable = record {
      one_a_key = λ n. one-entry-a-key setting setting_sound named_once n;
      each = each_writable;
    }

pub states_writable : SettingsAreSound → StatesAreWritable
states_writable settings p h s sound = writable p h s (sound_tables p s sound) sound.typed settings

-- and after a step, as long as numbers are left
pub writable_after : SettingsAreSound → (p : PolicyOf) → IsSound p → (s : State) → IsSoundState p s
    → (e : Event) → IsEvent e → HasNumbers (step_of p s e).1 → AreWritable p (step_of p s e).1
writable_after settings p h s sound e given numbers =
    writable p h (step_of p s e).1 (tables_kept p h s sound e given numbers) (typed_kept p s e given sound.typed)
    settings
