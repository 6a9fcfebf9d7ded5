-- A message is judged: the first row that applies.
use Rattle.std.proofs.Common.{◌≡◌, ◌∙◌, ℕ, ◌-◌, Bool, true, false, ◌&&◌, ◌||◌, List, [], ◌∷◌, length, Option, Some}
use Rattle.std.proofs.Common.{None, is_some, option_map, if◌then◌else◌, refl, sym, ap, ap₂, subst, eq-eqb, true≢false}
use Rattle.std.specs.List.{list_any}
use Rattle.std.specs.Option.{IsNone, is_none}
use Rattle.of10_actions.specs.declared.effects.PortView.{PortView}
use Rattle.of10_msgs.specs.Commands.{command_at}
use Rattle.of10_msgs.specs.declared.command.Command.{Command}
use Rattle.of10_msgs.specs.declared.command.Command.TheVariants.{Add, Modify, ModifyStrict, Delete, DeleteStrict}
use Rattle.of10_msgs.specs.declared.message.FlowMod.{FlowMod}
use Rattle.grants.specs.Rows.{first_of, flow_denial, when}
use Rattle.grants.specs.declared.denial.Denial.{Denial}
use Rattle.grants.specs.declared.denial.Detail.TheVariants.{Budget}
use Rattle.grants.specs.declared.grant.Grant.{Grant}
use Rattle.level_map.specs.Levels.{IsLevelling, Levels, level_of}
use Rattle.level_map.specs.Placing.{HasNoRoom, placing}
use Rattle.member_table.specs.Planning.{addition, change_asked, change_of, changing, modification}
use Rattle.member_table.specs.Refusals.{refusal}
use Rattle.member_table.specs.Tables.{TableOf, identity_in, is_meant}
use Rattle.member_table.specs.Timeouts.{serials_of}
use Rattle.member_table.specs.declared.entry.Entry.{Entry}
use Rattle.member_state.specs.Changes.{levels_with}
use Rattle.member_state.specs.Denials.{IsFaultOf, budget_row, denial, gets_no_level, rank_added, table_row}
use Rattle.member_state.specs.States.{MemberStateOf}
use Rattle.member_state.specs.declared.fault.FlowFault.{FlowFault}
use Rattle.member_state.specs.declared.fault.FlowFault.TheVariants.{Denied, Memory}
use Rattle.member_state.proofs.Levels.{placed_levelling, placed_some}
use Rattle.member_state.proofs.Lists.{eqb_flip}
use Rattle.member_state.proofs.Ranks.{comes_with}

-- a row that doesn't apply
pub row_past : (row : Option Denial) (rows : List (Option Denial)) → row ≡ None → first_of (row ∷ rows) ≡ first_of rows
row_past row rows e = rw e refl

row_here : (row : Option Denial) (rows : List (Option Denial)) (d : Denial) → row ≡ Some d → first_of (row ∷ rows)
    ≡ Some d
row_here row rows d e = rw e refl

-- one that does
pub fault_here : (row : Option Denial) (rows : List (Option Denial)) (fault : FlowFault) → IsFaultOf row fault
    → IsFaultOf (first_of (row ∷ rows)) fault
fault_here row rows (Denied d) h = row_here row rows d h
fault_here row rows Memory h = tt

fault_past : (row : Option Denial) (rows : List (Option Denial)) (fault : FlowFault) → row ≡ None
    → IsFaultOf (first_of rows) fault → IsFaultOf (first_of (row ∷ rows)) fault
fault_past row rows fault e h = let P : Option Denial
    → Type 0 = λ o. IsFaultOf o fault in subst P (sym (row_past row rows e)) h

-- the rank of the entry that a message adds is the same at every moment
choice : (b : Bool) (t : TableOf) (m : FlowMod) (one other : ℕ) (serials : List ℕ)
    → option_map (λ (e : Entry). e.rank) (if b then changing m.actions serials else addition t m one).added
    ≡ option_map (λ (e : Entry). e.rank) (if b then changing m.actions serials else addition t m other).added
choice true t m one other serials = refl
choice false t m one other serials = refl

ranks_alike : (command : Option Command) (t : TableOf) (m : FlowMod) (one other : ℕ)
    → option_map (λ (e : Entry). e.rank) (change_asked command t m one).added
    ≡ option_map (λ (e : Entry). e.rank) (change_asked command t m other).added
ranks_alike None t m one other = refl
ranks_alike (Some Add) t m one other = refl
ranks_alike (Some Modify) t m one other = choice (list_any (is_meant false (identity_in m)) t.entries) t m one other
    (serials_of (is_meant false (identity_in m)) t.entries)
ranks_alike (Some ModifyStrict) t m one other = choice (list_any (is_meant true (identity_in m)) t.entries) t m one
    other (serials_of (is_meant true (identity_in m)) t.entries)
ranks_alike (Some Delete) t m one other = refl
ranks_alike (Some DeleteStrict) t m one other = refl

pub rank_at : (t : TableOf) (m : FlowMod) (now : ℕ) → option_map (λ (e : Entry). e.rank) (change_of t m now).added
    ≡ rank_added t m
rank_at t m now = ranks_alike (command_at m.command) t m now 0

-- and so is what it removes
same_removed : (b : Bool) (t : TableOf) (m : FlowMod) (one other : ℕ) (serials : List ℕ)
    → (if b then changing m.actions serials else addition t m one).removed
    ≡ (if b then changing m.actions serials else addition t m other).removed
same_removed true t m one other serials = refl
same_removed false t m one other serials = refl

asked_alike : (command : Option Command) (t : TableOf) (m : FlowMod) (one other : ℕ)
    → (change_asked command t m one).removed ≡ (change_asked command t m other).removed
asked_alike None t m one other = refl
asked_alike (Some Add) t m one other = refl
asked_alike (Some Modify) t m one other =
    same_removed (list_any (is_meant false (identity_in m)) t.entries) t m one other
    (serials_of (is_meant false (identity_in m)) t.entries)
asked_alike (Some ModifyStrict) t m one other =
    same_removed (list_any (is_meant true (identity_in m)) t.entries) t m one other
    (serials_of (is_meant true (identity_in m)) t.entries)
asked_alike (Some Delete) t m one other = refl
asked_alike (Some DeleteStrict) t m one other = refl

pub removed_alike : (t : TableOf) (m : FlowMod) (one other : ℕ)
    → (change_of t m one).removed ≡ (change_of t m other).removed
removed_alike t m one other = asked_alike (command_at m.command) t m one other

module _ (g : Grant) (v : PortView) (x : MemberStateOf) (m : FlowMod) where
  pub not_denied : flow_denial g v m ≡ None → table_row (refusal x.table m) ≡ None
      → budget_row x.levels (rank_added x.table m) ≡ None → denial g v x m ≡ None
  not_denied a b c = rw (a, b, c) refl

  pub denied_by_grant : (fault : FlowFault) → IsFaultOf (flow_denial g v m) fault → IsFaultOf (denial g v x m) fault
  denied_by_grant fault h = fault_here (flow_denial g v m)
      (table_row (refusal x.table m) ∷ budget_row x.levels (rank_added x.table m) ∷ []) fault h

  pub denied_by_table : (fault : FlowFault) → flow_denial g v m ≡ None
      → IsFaultOf (table_row (refusal x.table m)) fault → IsFaultOf (denial g v x m) fault
  denied_by_table fault a h =
      fault_past (flow_denial g v m) (table_row (refusal x.table m) ∷ budget_row x.levels (rank_added x.table m) ∷ [])
      fault a
      (fault_here (table_row (refusal x.table m)) (budget_row x.levels (rank_added x.table m) ∷ []) fault h)

  pub denied_by_levels : (fault : FlowFault) → flow_denial g v m ≡ None → table_row (refusal x.table m) ≡ None
      → IsFaultOf (budget_row x.levels (rank_added x.table m)) fault → IsFaultOf (denial g v x m) fault
  denied_by_levels fault a b h =
      fault_past (flow_denial g v m) (table_row (refusal x.table m) ∷ budget_row x.levels (rank_added x.table m) ∷ [])
      fault a
      (fault_past (table_row (refusal x.table m)) (budget_row x.levels (rank_added x.table m) ∷ []) fault b
      (fault_here (budget_row x.levels (rank_added x.table m)) [] fault h))

-- a rank for which there is no room gets no level
none_tells : (o : Option ℕ) → IsNone o → is_none o ≡ true
none_tells None n = refl
none_tells (Some k) n = absurd (cc)

pub no_room : (l : Levels) (rank : ℕ) → HasNoRoom l rank → budget_row l (Some rank) ≡ None → ⊥
no_room l rank h e = by (gets_no_level l rank)
    (ap₂ (λ a b. a && b) (none_tells (level_of l rank) h.0) (eq-eqb (length l.ranked) (l.size - 2) h.1)) e
  where
    by : (b : Bool) → b ≡ true → when b (Budget (length l.ranked) (l.size - 2)) ≡ None → ⊥
    by true t e = cc
    by false t e = true≢false (sym t)

-- levels with one for an entry that gets one
pub with_levelling : (l : Levels) (added : Option Entry) → IsLevelling l.size l.ranked
    → budget_row l (option_map (λ (e : Entry). e.rank) added) ≡ None
    → IsLevelling (levels_with added l).size (levels_with added l).ranked
with_levelling l None k b = k
with_levelling l (Some e) k b = placed_levelling l e.rank k (λ h. no_room l e.rank h b)

pub with_some : (l : Levels) (added : Option Entry) (q : ℕ) → is_some (level_of (levels_with added l) q)
    ≡ (comes_with added q || is_some (level_of l q))
with_some l None q = refl
with_some l (Some e) q = placed_some l e.rank q ∙ ap (λ b. b || is_some (level_of l q)) (eqb_flip e.rank q)
