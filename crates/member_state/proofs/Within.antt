-- Entries stay within their grant.
use Rattle.std.proofs.Common.{◌≡◌, ◌∙◌, ℕ, zero, suc, Bool, true, false, ◌==◌, ◌||◌, not, List, [], ◌∷◌, map, filter}
use Rattle.std.proofs.Common.{Option, Some, None, if◌then◌else◌, refl, sym, ap, arith, ne_eqb, ◌&&◌}
use Rattle.std.specs.List.{AllByRecursion, list_any}
use Rattle.of10_match.specs.Wildcards.{normal_of}
use Rattle.of10_actions.specs.declared.effects.PortView.{PortView}
use Rattle.of10_msgs.specs.Commands.{command_at}
use Rattle.of10_msgs.specs.declared.command.Command.{Command}
use Rattle.of10_msgs.specs.declared.command.Command.TheVariants.{Add, Modify, ModifyStrict, Delete, DeleteStrict}
use Rattle.of10_msgs.specs.declared.message.FlowMod.{FlowMod}
use Rattle.grants.specs.Granted.{IsGranted}
use Rattle.grants.specs.Rows.{buffer_row, command_row, emergency_row, entry_rows, first_of, flow_denial, is_delete}
use Rattle.grants.specs.declared.denial.Denial.{Denial}
use Rattle.grants.specs.declared.grant.Grant.{Grant}
use Rattle.grants.proofs.Accepted.{entry_granted}
use Rattle.member_table.specs.Entries.{has_serial}
use Rattle.member_table.specs.Refusals.{refusal}
use Rattle.member_table.specs.Tables.{TableOf, after_asked, entry_of, identity_in, is_meant, modified, outputs_to}
use Rattle.member_table.specs.Tables.{with_actions, with_entry}
use Rattle.member_table.specs.Timeouts.{is_hard_due}
use Rattle.member_table.specs.declared.entry.Entry.{Entry}
use Rattle.member_table.proofs.Sounds.{each_filter, each_put}
use Rattle.member_state.specs.Changes.{accepted, entry_touched, expired, touched, without}
use Rattle.member_state.specs.Denials.{budget_row, denial, rank_added, table_row}
use Rattle.member_state.specs.States.{MemberStateOf}

-- no row applies: neither the first nor one of the others
none_of : (row : Option Denial) (rows : List (Option Denial)) → first_of (row ∷ rows) ≡ None → (row ≡ None)
    × (first_of rows ≡ None)
none_of None rows e = (refl, e)
none_of (Some d) rows e = absurd (cc)

-- the command is a DELETE
abbrev deletes : Option Command → Bool
deletes None = false
deletes (Some Add) = false
deletes (Some Modify) = false
deletes (Some ModifyStrict) = false
deletes (Some Delete) = true
deletes (Some DeleteStrict) = true

delete_is : (n : ℕ) → is_delete n ≡ deletes (command_at n)
delete_is zero = refl
delete_is (suc zero) = refl
delete_is (suc (suc zero)) = refl
delete_is (suc (suc (suc zero))) = refl
delete_is (suc (suc (suc (suc zero)))) = refl
delete_is (suc (suc (suc (suc (suc n))))) =
    rw (
      ne_eqb (suc (suc (suc (suc (suc n))))) 3 (λ s. absurd (omega arith)),
      ne_eqb (suc (suc (suc (suc (suc n))))) 4
          (λ s. absurd (omega arith)),
    ) refl

module _ (g : Grant) (v : PortView) where
  -- an entry that the grant lets through
  abbrev pub IsWithin : Entry → Type 0
  IsWithin e = IsGranted g v e.normal e.actions

  granted : (m : FlowMod) → is_delete m.command ≡ false → flow_denial g v m ≡ None
      → IsGranted g v (normal_of m.m) m.actions
  granted m d e =
      let entry = first_of (entry_rows g v (normal_of m.m) m.actions) in
      let rows : List (Option Denial) = emergency_row m.flags ∷ buffer_row m.buffer_id ∷ entry ∷ [] in
      let all : first_of (command_row m.command ∷ rows)
      ≡ None = sym (ap (λ b. first_of (command_row m.command ∷ (if b then [] else rows))) d) ∙ e in
      let command = none_of (command_row m.command) rows all in
      let flags = none_of (emergency_row m.flags) (buffer_row m.buffer_id ∷ entry ∷ []) command.1 in
      let buffer = none_of (buffer_row m.buffer_id) (entry ∷ []) flags.1 in
      entry_granted g v (normal_of m.m) m.actions (none_of entry [] buffer.1).0

  each_map : (f : Entry → Entry) → ((e : Entry) → IsWithin e → IsWithin (f e)) → (es : List Entry)
      → AllByRecursion IsWithin es → AllByRecursion IsWithin (map f es)
  each_map f w [] a = tt
  each_map f w (e ∷ es) a = (w e a.0, each_map f w es a.1)

  added_within : (t : TableOf) (m : FlowMod) (now : ℕ) → IsGranted g v (normal_of m.m) m.actions
      → AllByRecursion IsWithin t.entries → AllByRecursion IsWithin (with_entry t m now).entries
  added_within t m now granted a = each_put IsWithin (entry_of t.next m now) t.entries granted a

  modified_within : (strict : Bool) (t : TableOf) (m : FlowMod) (now : ℕ) → IsGranted g v (normal_of m.m) m.actions
      → AllByRecursion IsWithin t.entries → AllByRecursion IsWithin (modified strict t m now).entries
  modified_within strict t m now granted a = by (list_any (is_meant strict (identity_in m)) t.entries)
    where
      changed : (e : Entry) (b : Bool) → IsWithin e → IsWithin (if b then with_actions m.actions e else e)
      changed e true w = record { match_ = w.match_; actions = granted.actions }
      changed e false w = w

      by : (b : Bool)
          → AllByRecursion IsWithin
          (if b then record t {
            entries = map
                (λ e. if is_meant strict (identity_in m) e then with_actions m.actions e else e) t.entries;
          } else with_entry
          t m now).entries
      by true = each_map (λ e. if is_meant strict (identity_in m) e then with_actions m.actions e else e)
          (λ e w. changed e (is_meant strict (identity_in m) e) w) t.entries a
      by false = added_within t m now granted a

  asked_within : (command : Option Command) (t : TableOf) (m : FlowMod) (now : ℕ)
      → (deletes command ≡ false → IsGranted g v (normal_of m.m) m.actions) → AllByRecursion IsWithin t.entries
      → AllByRecursion IsWithin (after_asked command t m now).entries
  asked_within None t m now granted a = a
  asked_within (Some Add) t m now granted a = added_within t m now (granted refl) a
  asked_within (Some Modify) t m now granted a = modified_within false t m now (granted refl) a
  asked_within (Some ModifyStrict) t m now granted a = modified_within true t m now (granted refl) a
  asked_within (Some Delete) t m now granted a = each_filter IsWithin
      (λ e. not (is_meant false (identity_in m) e && outputs_to m.out_port e)) t.entries a
  asked_within (Some DeleteStrict) t m now granted a = each_filter IsWithin
      (λ e. not (is_meant true (identity_in m) e && outputs_to m.out_port e)) t.entries a

  pub message_within : (x : MemberStateOf) (m : FlowMod) (now : ℕ) → denial g v x m ≡ None
      → AllByRecursion IsWithin x.table.entries → AllByRecursion IsWithin (accepted m now x).table.entries
  message_within x m now e a =
      let flow = (none_of (flow_denial g v m)
      (table_row (refusal x.table m) ∷ budget_row x.levels (rank_added x.table m) ∷ []) e).0 in
      asked_within (command_at m.command) x.table m now (λ d. granted m (delete_is m.command ∙ d) flow) a

  pub time_within : (x : MemberStateOf) (now : ℕ) → AllByRecursion IsWithin x.table.entries
      → AllByRecursion IsWithin (expired now x).table.entries
  time_within x now a = each_filter IsWithin (λ e. not (is_hard_due now e)) x.table.entries a

  pub removal_within : (x : MemberStateOf) (serial : ℕ) → AllByRecursion IsWithin x.table.entries
      → AllByRecursion IsWithin (without serial x).table.entries
  removal_within x serial a = each_filter IsWithin (λ e. not (has_serial serial e)) x.table.entries a

  pub count_within : (x : MemberStateOf) (serial now : ℕ) → AllByRecursion IsWithin x.table.entries
      → AllByRecursion IsWithin (touched serial now x).table.entries
  count_within x serial now a = each_map (entry_touched serial now) (λ e w. by e (has_serial serial e) w)
      x.table.entries a
    where
      by : (e : Entry) (b : Bool) → IsWithin e → IsWithin (if b then record e { last = now } else e)
      by e true w = w
      by e false w = w
