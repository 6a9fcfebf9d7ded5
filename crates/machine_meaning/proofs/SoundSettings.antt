-- The setting of a sound state is as agreement asks.
use Rattle.std.proofs.Common.{◌≡◌, ◌∙◌, ℕ, zero, suc, ◌+◌, Bool, true, false, true≢false, ◌&&◌, List, [], ◌∷◌, ◌++◌}
use Rattle.std.proofs.Common.{length, map, Some, arith, refl, sym, ap, ap₂, subst}
use Rattle.std.specs.Prelude.{slice_get, zip, ◌^◌}
use Rattle.std.specs.List.{AllByRecursion, enumerate_from}
use Rattle.agreement.specs.Premises.{TableGoesWithin, TableKeepsTo}
use Rattle.member_state.specs.Leaves.{leaf_of}
use Rattle.member_state.specs.Sound.{IsSoundLeaf, MemberTablesAreSound, MembersKeepToPorts}
use Rattle.member_state.specs.Sound.{PlainGrantsGivePlainTables}
use Rattle.policies.specs.Policies.{PolicyOf, plan}
use Rattle.policies.specs.Sound.{IsSound, has_at_side}
use Rattle.policies.specs.declared.policy.MemberItem.{MemberItem}
use Rattle.policy_meaning.specs.CentralFact.{EachMember}
use Rattle.policy_meaning.specs.Disjoint.{HasOrderlyTable, IsTableOfMember}
use Rattle.policy_meaning.specs.EveryNode.{HasPlainTable, HasSoundTable, IsSoundSwitch}
use Rattle.policy_meaning.specs.Leaf.{has_port}
use Rattle.policy_meaning.specs.Switches.{SwitchOf as VirtualOf}
use Rattle.policy_meaning.specs.declared.leaf.LeafTable.{LeafTable}
use Rattle.policy_setting.specs.Networks.{outside_ports}
use Rattle.policy_setting.specs.OfPolicies.{AreSized, seen}
use Rattle.policy_setting.specs.Premises.{HasSoundTables, SettingsAreSound as SettingsSuffice, TopologiesAreSound}
use Rattle.policy_setting.specs.Settings.{expr_at, holds_at}
use Rattle.policy_setting.proofs.Apart.{faultless}
use Rattle.policy_setting.proofs.Mixed.{switch_is}
use Rattle.policy_setting.proofs.Parts.{all_both}
use Rattle.policy_setting.proofs.Ready.{numbers_of}
use Rattle.policy_setting.proofs.Sizes.{sizes_fit}
use Rattle.virtual_topology.specs.Wires.{is_lone_of}
use Rattle.virtual_topology.specs.declared.plan.VirtualItem.{VirtualItem}
use Rattle.machine_meaning.specs.Laws.{SettingsAreSound}
use Rattle.machine_meaning.specs.Names.{all_ports, virtual_of}
use Rattle.machine_meaning.specs.Settings.{setting_of, table_of, tables_with, ups_with}
use Rattle.machine_meaning.specs.Sound.{AreSoundTables, IsSoundState}
use Rattle.machine_meaning.specs.States.{MemberOf, State}
use Rattle.machine_meaning.proofs.Grants.{grant_sound, item_of}
use Rattle.machine_meaning.proofs.Numbered.{behind, from_zero, here}
use Rattle.machine_meaning.proofs.Outsides.{lone_sides, named_outside}
use Rattle.machine_meaning.proofs.Readings.{IsMemberAt, IsPlainAt, each_weaker, lefts_at, lefts_both, members_at}
use Rattle.machine_meaning.proofs.Readings.{one_each}
use Rattle.machine_meaning.proofs.Unchanged.{all_weaker}

-- a sound state has sound tables
pub sound_tables : (p : PolicyOf) (s : State) → IsSoundState p s → AreSoundTables p s
sound_tables p s h = record { exprs = h.exprs; all_members = h.all_members; members = h.members }

-- tables by number --------------------------------------------------------------------------------------------------

-- the member of a number, its state, and its table
record IsTableAt (members : List MemberItem) (states : List MemberOf) (tables : List LeafTable) (i : ℕ)
    (m : MemberItem) :
    Type 0 where
  state : MemberOf
  at : slice_get states i ≡ Some state
  table : slice_get tables i ≡ Some (leaf_of i m.grant state.kept)

table_in : (k i : ℕ) (members : List MemberItem) (states : List MemberOf) → length states ≡ length members
    → (m : MemberItem) → slice_get members i ≡ Some m → (x : MemberOf) → slice_get states i ≡ Some x
    → slice_get (map table_of (enumerate_from k (zip members states))) i ≡ Some (leaf_of (k + i) m.grant x.kept)
table_in k i [] states e m at x there = absurd (cc at)
table_in k i (n ∷ ns) [] e m at x there = absurd (cc there)
table_in k zero (n ∷ ns) (y ∷ ys) e m at x there =
    let p : n ≡ m = cc at in
    let q : y ≡ x = cc there in
    ap₂ (λ (n : MemberItem) (y : MemberOf). Some (leaf_of k n.grant y.kept)) p q
    ∙ ap (λ (j : ℕ). Some (leaf_of j m.grant x.kept)) (here k)
table_in k (suc i) (n ∷ ns) (y ∷ ys) e m at x there =
    table_in (k + 1) i ns ys (omega (arith, e)) m at x there
    ∙ ap (λ (j : ℕ). Some (leaf_of j m.grant x.kept)) (behind k i)

record IsThere {A : Type 0} (xs : List A) (i : ℕ) : Type 0 where
  item : A
  is : slice_get xs i ≡ Some item

beside : {A B : Type 0} (xs : List A) (ys : List B) → length ys ≡ length xs → (i : ℕ) (x : A) → slice_get xs i ≡ Some x
    → IsThere ys i
beside [] ys e i x at = absurd (cc at)
beside (a ∷ xs) [] e i x at = absurd (omega (arith, e))
beside (a ∷ xs) (b ∷ ys) e zero x at = record { item = b; is = refl }
beside (a ∷ xs) (b ∷ ys) e (suc i) x at =
    let r = beside xs ys (omega (arith, e)) i x at in record { item = r.item; is = r.is }

-- tables are as large as the bits of members say
sized_in : (k : ℕ) (members : List MemberItem) (states : List MemberOf) → length states ≡ length members
    → ((i : ℕ) (m : MemberItem) (x : MemberOf) → slice_get members i ≡ Some m → slice_get states i ≡ Some x
    → x.kept.levels.size ≡ 2 ^ m.bits)
    → AreSized members (map table_of (enumerate_from k (zip members states)))
sized_in k [] [] e h = refl
sized_in k [] (y ∷ ys) e h = refl
sized_in k (n ∷ ns) [] e h = absurd (omega (arith, e))
sized_in k (n ∷ ns) (y ∷ ys) e h =
    ap₂ (λ (a : ℕ) (bs : List ℕ). a ∷ bs) (h 0 n y refl refl)
    (sized_in (k + 1) ns ys (omega (arith, e)) (λ i m x a b. h (suc i) m x a b))

-- the tables of a sound state ---------------------------------------------------------------------------------------

module _ (p : PolicyOf) (h : IsSound p) (s : State) (sound : AreSoundTables p s)
    (leaves : MemberTablesAreSound) (ports : MembersKeepToPorts) (plains : PlainGrantsGivePlainTables)
  where
    abbrev tables : List LeafTable
    tables = tables_with p.members s.members

    table_at : (i : ℕ) (m : MemberItem) → slice_get p.members i ≡ Some m → IsTableAt p.members s.members tables i m
    table_at i m at =
        let x = beside p.members s.members sound.all_members i m at in
        record {
          state = x.item;
          at = x.is;
          table =
              table_in 0 i p.members s.members sound.all_members m at x.item x.is
              ∙ ap (λ (j : ℕ). Some (leaf_of j m.grant x.item.kept)) (from_zero i);
        }

    leaf_sound : (i : ℕ) (m : MemberItem) → (at : slice_get p.members i ≡ Some m)
        → IsSoundLeaf i m.grant (table_at i m at).state.kept
    leaf_sound i m at =
        let x = table_at i m at in
        leaves i m.grant x.state.kept (grant_sound p h i m at) (sound.members i m x.state at x.at).sound

    has_sound : (v i : ℕ) → IsMemberAt p.members v i → HasSoundTable (slice_get tables i)
    has_sound v i a =
        subst HasSoundTable (sym (table_at i a.item a.there).table) (leaf_sound i a.item a.there).sound

    -- and it differs from those of others
    pub tables_orderly : (v i : ℕ) → IsMemberAt p.members v i → HasOrderlyTable tables i
    tables_orderly v i a t there =
        let same : leaf_of i a.item.grant (table_at i a.item a.there).state.kept ≡ t =
        cc ((table_at i a.item a.there).table, there) in
        subst (IsTableOfMember i) same (leaf_sound i a.item a.there).of_member

    goes_within : (v i : ℕ) → IsMemberAt p.members v i → TableGoesWithin v (slice_get tables i)
    goes_within v i a =
        subst (TableGoesWithin v) (sym (table_at i a.item a.there).table)
        (subst (λ (u : ℕ). TableGoesWithin u (Some (leaf_of i a.item.grant (table_at i a.item a.there).state.kept)))
        a.of
        (leaf_sound i a.item a.there).within)

    is_plain : (v i : ℕ) → IsMemberAt p.members v i → IsPlainAt p.members i → HasPlainTable (slice_get tables i)
    is_plain v i a q =
        let x = table_at i a.item a.there in
        subst HasPlainTable (sym x.table)
        (plains i a.item.grant (all_ports p (virtual_of a.item)) x.state.kept (grant_sound p h i a.item a.there)
        (q a.item a.there) (sound.members i a.item x.state a.there x.at).within)

    -- members of a virtual switch that is alone see its outside ports alone
    sees_outside : (v : ℕ) (item : VirtualItem) → slice_get p.virtuals v ≡ Some item → is_lone_of (plan p) v ≡ true
        → (i : ℕ) (a : IsMemberAt p.members v i)
        → AllByRecursion (λ q. has_port (outside_ports (plan p) v) q ≡ true)
        (a.item.grant.ports.outside ++ a.item.grant.ports.links)
    sees_outside v item at lone i a =
        let x = item_of p h i a.item a.there in
        let same : x.item ≡ item = cc (x.there, a.of, at) in
        let fault = faultless (plan p) h.together.topology in
        all_both (λ q. has_port (outside_ports (plan p) v) q ≡ true) a.item.grant.ports.outside a.item.grant.ports.links
        (all_weaker (λ q. has_at_side x.item false q ≡ true) (λ q. has_port (outside_ports (plan p) v) q ≡ true)
        (λ q k. named_outside (plan p) fault v item at q
        (ap (λ (y : VirtualItem). has_at_side y false q) (sym same) ∙ k)) a.item.grant.ports.outside x.grant.outside)
        (all_weaker (λ q. has_at_side x.item true q ≡ true) (λ q. has_port (outside_ports (plan p) v) q ≡ true)
        (λ q k. absurd (true≢false (sym k ∙ (ap (λ (y : VirtualItem). has_at_side y true q) same
        ∙ lone_sides (plan p) v item at lone q)))) a.item.grant.ports.links x.grant.links)

    keeps_to : (v : ℕ) (item : VirtualItem) → slice_get p.virtuals v ≡ Some item → is_lone_of (plan p) v ≡ true
        → (i : ℕ) → IsMemberAt p.members v i → TableKeepsTo (outside_ports (plan p) v) (slice_get tables i)
    keeps_to v item at lone i a =
        let x = table_at i a.item a.there in
        subst (TableKeepsTo (outside_ports (plan p) v)) (sym x.table)
        (ports i a.item.grant (all_ports p (virtual_of a.item)) x.state.kept (outside_ports (plan p) v)
        (grant_sound p h i a.item a.there) (sound.members i a.item x.state a.there x.at).within
        (sees_outside v item at lone i a))

    first_of : (a b : Bool) → (a && b) ≡ true → a ≡ true
    first_of true b e = refl
    first_of false b e = e

    -- what is said of a virtual switch of the plan holds of that of the setting
    tables_sound : HasSoundTables (setting_of p s)
    tables_sound = record {
      switches = λ v x at.
          let w = switch_is (plan p) s.exprs (seen p) v x at in
          subst (IsSoundSwitch tables) w.is
          (record {
            members =
                each_weaker (IsMemberAt p.members v) (λ i. HasSoundTable (slice_get tables i)) (has_sound v)
                (expr_at s.exprs v) (members_at p s.exprs sound.exprs v w.item w.there);
            lefts =
                lefts_both (IsMemberAt p.members v) (IsPlainAt p.members) (λ i. HasPlainTable (slice_get tables i))
                (is_plain v) (expr_at s.exprs v) (members_at p s.exprs sound.exprs v w.item w.there)
                (lefts_at p s.exprs sound.exprs v w.item w.there);
          });
      within = λ v x at.
          let w = switch_is (plan p) s.exprs (seen p) v x at in
          subst (λ (y : VirtualOf). EachMember (λ i. TableGoesWithin v (slice_get tables i)) y.expr) w.is
          (each_weaker (IsMemberAt p.members v) (λ i. TableGoesWithin v (slice_get tables i)) (goes_within v)
          (expr_at s.exprs v) (members_at p s.exprs sound.exprs v w.item w.there));
      names = λ v x at whole.
          let w = switch_is (plan p) s.exprs (seen p) v x at in
          let lone =
          first_of (is_lone_of (plan p) v) (holds_at (seen p) v) (ap (λ (y : VirtualOf). y.whole) w.is ∙ whole) in
          subst (λ (y : VirtualOf). EachMember (λ i. TableKeepsTo y.outside (slice_get tables i)) y.expr) w.is
          (each_weaker (IsMemberAt p.members v) (λ i. TableKeepsTo (outside_ports (plan p) v) (slice_get tables i))
          (keeps_to v w.item w.there lone) (expr_at s.exprs v)
          (members_at p s.exprs sound.exprs v w.item w.there));
    }

pub settings_sound : TopologiesAreSound → SettingsSuffice → MemberTablesAreSound → MembersKeepToPorts
    → PlainGrantsGivePlainTables → SettingsAreSound
settings_sound topologies suffice leaves ports plains p h s sound =
    suffice (setting_of p s)
    (topologies (plan p) h.together.topology h.together.paths (numbers_of p h) s.exprs (seen p)
    (tables_with p.members s.members) (ups_with s.switches) p.hops)
    (tables_sound p h s sound leaves ports plains)
    (let le = h.limits.some_hops in omega (arith, le))
    (sizes_fit (plan p) p.members s.exprs (seen p) (tables_with p.members s.members) (ups_with s.switches) p.hops
    (one_each p s.exprs sound.exprs)
    (sized_in 0 p.members s.members sound.all_members (λ i m x a b. (sound.members i m x a b).size)) sound.exprs.fit)
