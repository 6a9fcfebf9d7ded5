-- The setting changes with what one member keeps.
use Rattle.std.proofs.Common.{◌≡◌, ◌≢◌, ◌∙◌, ℕ, zero, suc, ◌+◌, ◌==◌, Bool, true, false, List, [], ◌∷◌, map, Option}
use Rattle.std.proofs.Common.{Some}
use Rattle.std.proofs.Common.{None, refl, sym, ap, ap₂, subst, eqb-true, eq-eqb}
use Rattle.std.specs.Prelude.{IsPermutation, slice_get, zip}
use Rattle.std.specs.List.{enumerate_from}
use Rattle.composed_tables.specs.Composing.{Changes}
use Rattle.incr_compile.specs.Compiling.{rules_after}
use Rattle.incr_compile.specs.declared.compiled.LeafDelta.{LeafDelta}
use Rattle.member_state.specs.Leaves.{leaf_of}
use Rattle.policies.specs.Policies.{PolicyOf, plan}
use Rattle.policies.specs.declared.policy.MemberItem.{MemberItem}
use Rattle.policy_meaning.specs.CentralFact.{EachMember}
use Rattle.policy_meaning.specs.Networks.{ports_of, table_rules, table_size}
use Rattle.policy_meaning.specs.Switches.{SwitchOf as VirtualOf}
use Rattle.policy_meaning.specs.declared.leaf.LeafTable.{LeafTable}
use Rattle.policy_setting.specs.OfPolicies.{seen}
use Rattle.policy_setting.specs.Settings.{expr_at}
use Rattle.policy_setting.proofs.Mixed.{switch_is}
use Rattle.machine_meaning.specs.Settings.{setting_with, table_of, tables_with}
use Rattle.machine_meaning.specs.Sound.{AreSoundTables}
use Rattle.machine_meaning.specs.States.{MemberOf, State, SwitchOf}
use Rattle.machine_meaning.proofs.Numbered.{behind, from_zero, here}
use Rattle.machine_meaning.proofs.Readings.{IsMemberAt, each_weaker, members_at}
use Rattle.setting_laws.specs.Members.{ChangesAt, MembersChange, RulesChange}

-- the table of a member by number
abbrev table_by : ℕ → Option MemberItem → Option MemberOf → Option LeafTable
table_by i None x = None
table_by i (Some m) None = None
table_by i (Some m) (Some x) = Some (leaf_of i m.grant x.kept)

none_by : (i : ℕ) (o : Option MemberItem) → None ≡ table_by i o None
none_by i None = refl
none_by i (Some m) = refl

table_in : (k i : ℕ) (items : List MemberItem) (states : List MemberOf)
    → slice_get (map table_of (enumerate_from k (zip items states))) i
    ≡ table_by (k + i) (slice_get items i) (slice_get states i)
table_in k zero [] states = refl
table_in k (suc i) [] states = refl
table_in k zero (m ∷ ms) [] = refl
table_in k (suc i) (m ∷ ms) [] = none_by (k + suc i) (slice_get ms i)
table_in k zero (m ∷ ms) (x ∷ xs) = ap (λ (n : ℕ). Some (leaf_of n m.grant x.kept)) (here k)
table_in k (suc i) (m ∷ ms) (x ∷ xs) =
    table_in (k + 1) i ms xs ∙ ap (λ (n : ℕ). table_by n (slice_get ms i) (slice_get xs i)) (behind k i)

module _ (p : PolicyOf) (members : List MemberOf) where
  table_at : (i : ℕ) → slice_get (tables_with p.members members) i
      ≡ table_by i (slice_get p.members i) (slice_get members i)
  table_at i =
      table_in 0 i p.members members
      ∙ ap (λ (n : ℕ). table_by n (slice_get p.members i) (slice_get members i)) (from_zero i)

  -- of a member that is there
  pub table_there : (i : ℕ) (m : MemberItem) (x : MemberOf) → slice_get p.members i ≡ Some m
      → slice_get members i ≡ Some x → slice_get (tables_with p.members members) i ≡ Some (leaf_of i m.grant x.kept)
  table_there i m x at is = table_at i ∙ ap₂ (table_by i) at is

module _ (p : PolicyOf) (s t : State) (sound : AreSoundTables p s) (after : AreSoundTables p t) (i : ℕ)
    (c : ChangesAt p i s t) (switches : List SwitchOf) (delta : LeafDelta) (r : RulesChange p i s t c switches delta)
  where
    abbrev own : ℕ → Option LeafTable
    own j = slice_get (tables_with p.members s.members) j

    abbrev new : ℕ → Option LeafTable
    new j = slice_get (tables_with p.members t.members) j

    -- the tables of others stay
    others_stay : (j : ℕ) → j ≢ i → new j ≡ own j
    others_stay j ne =
        table_at p t.members j
        ∙ (ap (table_by j (slice_get p.members j)) (c.rest j ne) ∙ sym (table_at p s.members j))

    was_here : own i ≡ Some (leaf_of i c.item.grant c.before.kept)
    was_here = table_there p s.members i c.item c.before c.there c.was

    is_here : new i ≡ Some (leaf_of i c.item.grant c.after.kept)
    is_here = table_there p t.members i c.item c.after c.there c.is

    -- all sizes stay
    size_here : table_size (new i) ≡ table_size (own i)
    size_here =
        ap table_size is_here
        ∙ ((after.members i c.item c.after c.there c.is).size
        ∙ (sym (sound.members i c.item c.before c.there c.was).size ∙ sym (ap table_size was_here)))

    sizes_stay : (j : ℕ) → table_size (new j) ≡ table_size (own j)
    sizes_stay j = by (j == i) refl
      where
        by : (b : Bool) → (j == i) ≡ b → table_size (new j) ≡ table_size (own j)
        by true e = subst (λ (k : ℕ). table_size (new k) ≡ table_size (own k)) (sym (eqb-true j i e)) size_here
        by false e = ap table_size (others_stay j (λ f. let t : (j == i) ≡ true = eq-eqb j i f in cc))

    -- an expression of another virtual switch doesn't name the member
    elsewhere : (ports : List ℕ) (u : ℕ) → u ≢ c.item.grant.ports.v → (j : ℕ) → IsMemberAt p.members u j
        → table_rules ports (new j) ≡ table_rules ports (own j)
    elsewhere ports u ne j a =
        ap (table_rules ports) (others_stay j (λ e.
        let there : slice_get p.members i ≡ Some a.item =
        subst (λ (k : ℕ). slice_get p.members k ≡ Some a.item) e a.there in
        let same : a.item ≡ c.item = some_same (sym there ∙ c.there) in
        ne (sym a.of ∙ ap (λ (m : MemberItem). m.grant.ports.v) same)))
      where
        some_same : {x y : MemberItem} → Some x ≡ Some y → x ≡ y
        some_same e = cc

    pub changes : Changes c.item.grant.ports.v delta (setting_with p s.exprs s.members switches)
        (setting_with p s.exprs t.members switches)
    changes = record {
      rest = refl;
      sizes = sizes_stay;
      changed = λ x at. record {
        others = λ j ne. ap (table_rules (ports_of x)) (others_stay j (λ e. ne (e ∙ sym r.member)));
        changed =
            subst
            (λ (k : ℕ). IsPermutation (rules_after delta (table_rules (ports_of x) (own k)))
            (table_rules (ports_of x) (new k)))
            (sym r.member)
            (subst
            (λ (o : Option LeafTable). IsPermutation (rules_after delta (table_rules (ports_of x) o))
            (table_rules (ports_of x) (new i)))
            (sym was_here)
            (subst
            (λ (o : Option LeafTable). IsPermutation
            (rules_after delta (table_rules (ports_of x) (Some (leaf_of i c.item.grant c.before.kept))))
            (table_rules (ports_of x) o))
            (sym is_here) (r.rules x at)));
      };
      others = λ u x ne at.
          let w = switch_is (plan p) s.exprs (seen p) u x at in
          subst
          (λ (y : VirtualOf). EachMember (λ j. table_rules (ports_of x) (new j) ≡ table_rules (ports_of x) (own j))
          y.expr)
          w.is
          (each_weaker (IsMemberAt p.members u)
          (λ j. table_rules (ports_of x) (new j) ≡ table_rules (ports_of x) (own j)) (elsewhere (ports_of x) u ne)
          (expr_at s.exprs u) (members_at p s.exprs sound.exprs u w.item w.there));
    }

pub members_change : MembersChange
members_change p h s t sound after i c switches delta r = changes p s t sound after i c switches delta r
