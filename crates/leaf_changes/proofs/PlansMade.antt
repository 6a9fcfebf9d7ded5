-- What is planned is a plan whose changes can be told.
use Rattle.std.proofs.Common.{◌≡◌, ◌∙◌, ℕ, ◌-◌, ◌==◌, Bool, true, false, not, ◌&&◌, ◌||◌, nat_le, List, [], ◌∷◌, ◌++◌}
use Rattle.std.proofs.Common.{map, Option, Some, None, refl, sym, ap, subst, eq-eqb, Result, Ok, Err, OnOk, OnErr}
use Rattle.std.specs.Prelude.{if◌then◌else◌, option_to_list}
use Rattle.std.specs.List.{IsDistinct, list_any}
use Rattle.std.proofs.lemmas.Bool.Decides.{Decides-eqb}
use Rattle.of10_actions.specs.declared.action.Action.{Action}
use Rattle.of10_msgs.specs.Commands.{command_at}
use Rattle.of10_msgs.specs.declared.command.Command.{Command}
use Rattle.of10_msgs.specs.declared.command.Command.TheVariants.{Add, Modify, ModifyStrict, Delete, DeleteStrict}
use Rattle.of10_msgs.specs.declared.message.FlowMod.{FlowMod}
use Rattle.level_map.specs.Levels.{Levels, level_of}
use Rattle.level_map.specs.Placing.{level_above, level_below, placing, placing_by, placing_new}
use Rattle.member_table.specs.Changes.{committed, is_among, replaced}
use Rattle.member_table.specs.Entries.{has_serial}
use Rattle.member_table.specs.Planning.{addition, change_asked, change_by_command, change_of, changing, modification}
use Rattle.member_table.specs.Sound.{IsSound}
use Rattle.member_table.specs.Tables.{TableOf, after, entry_of, has_rank, identity_in, is_meant}
use Rattle.member_table.specs.Timeouts.{serials_of}
use Rattle.member_table.specs.declared.change.Change.{Change}
use Rattle.member_table.specs.declared.change.Modified.{Modified}
use Rattle.member_table.specs.declared.entry.Entry.{Entry}
use Rattle.member_table.proofs.Keyed.{once_filter}
use Rattle.member_table.proofs.Least.{and_true, any_weaker}
use Rattle.member_state.specs.Changes.{levels_kept, levels_with}
use Rattle.member_state.specs.InsideRanks.{HasMoreRanks, drop_planned, rank_if_added, removal_planned}
use Rattle.member_state.specs.Plans.{planned_table}
use Rattle.member_state.specs.States.{MemberStateOf}
use Rattle.member_state.specs.declared.planned.Planned.{Planned}
use Rattle.member_state.proofs.Levels.{level_kept}
use Rattle.member_state.proofs.Lists.{any_filter}
use Rattle.member_state.proofs.Plans.{dropped_more, has_touched}
use Rattle.leaf_changes.specs.Plans.{IsPlanOf, MessagesArePlans}

-- what is asked of a change: it names the entry whose place is taken, and no entry gets other actions twice
record IsNaming (es : List Entry) (c : Change) : Type 0 where
  named : (n : ℕ) → replaced c.added es ≡ Some n → is_among c.removed n ≡ true
  once : IsDistinct ◌==◌ (map (λ (m : Modified). m.serial) c.modified)

none_twice : IsDistinct ◌==◌ []
unfolding IsDistinct
none_twice = tt

-- a change by which nothing comes
nothing_comes : (es : List Entry) (removed : List ℕ) (modified : List Modified)
    → IsDistinct ◌==◌ (map (λ (m : Modified). m.serial) modified)
    → IsNaming es (record { added = None; removed = removed; modified = modified })
nothing_comes es removed modified d = record { named = λ n e. absurd (cc); once = d }

among_own : (o : Option ℕ) (n : ℕ) → o ≡ Some n → is_among (option_to_list o) n ≡ true
among_own None n e = absurd (cc)
among_own (Some k) n e = let same : k ≡ n = cc in ap (λ b. b || false) (eq-eqb k n same)

addition_names : (t : TableOf) (m : FlowMod) (now : ℕ) → IsNaming t.entries (addition t m now)
addition_names t m now = record {
  named = λ n e. among_own (replaced (Some (entry_of t.next m now)) t.entries) n e;
  once = none_twice;
}

numbers_kept : (actions : List Action) (serials : List ℕ)
    → map (λ (m : Modified). m.serial) (changing actions serials).modified ≡ serials
numbers_kept actions [] = refl
numbers_kept actions (s ∷ ss) = ap (λ ns. s ∷ ns) (numbers_kept actions ss)

modification_names : (strict : Bool) (t : TableOf) (m : FlowMod) (now : ℕ) → IsSound t
    → IsNaming t.entries (modification strict t m now)
modification_names strict t m now sound = by (list_any (is_meant strict (identity_in m)) t.entries)
  where
    by : (b : Bool) → IsNaming t.entries (if b then changing m.actions
        (serials_of (is_meant strict (identity_in m)) t.entries) else addition t m now)
    by true =
        nothing_comes t.entries []
        (changing m.actions (serials_of (is_meant strict (identity_in m)) t.entries)).modified
        (subst (IsDistinct ◌==◌)
        (sym (numbers_kept m.actions (serials_of (is_meant strict (identity_in m)) t.entries)))
        (once_filter ◌==◌ Decides-eqb (λ (e : Entry). e.serial) (is_meant strict (identity_in m)) t.entries sound.once))
    by false = addition_names t m now

change_names : (t : TableOf) (m : FlowMod) (now : ℕ) → IsSound t → IsNaming t.entries (change_of t m now)
change_names t m now sound = asked (command_at m.command)
  where
    by_command : (c : Command) → IsNaming t.entries (change_by_command c t m now)
    by_command Add = addition_names t m now
    by_command Modify = modification_names false t m now sound
    by_command ModifyStrict = modification_names true t m now sound
    by_command Delete = nothing_comes t.entries _ [] none_twice
    by_command DeleteStrict = nothing_comes t.entries _ [] none_twice

    asked : (o : Option Command) → IsNaming t.entries (change_asked o t m now)
    asked None = nothing_comes t.entries [] [] none_twice
    asked (Some c) = by_command c

-- there are as many levels
placed_size : (l : Levels) (rank : ℕ) → (placing l rank).1.size ≡ l.size
placed_size l rank = by (level_of l rank)
  where
    fresh : (b : Bool) → nat_le 2 (level_above l rank - level_below l rank) ≡ b → (placing_new l rank).1.size ≡ l.size
    fresh true e = rw e refl
    fresh false e = rw e refl

    by : (o : Option ℕ) → (placing_by o l rank).1.size ≡ l.size
    by None = fresh (nat_le 2 (level_above l rank - level_below l rank)) refl
    by (Some level) = refl

with_size : (added : Option Entry) (l : Levels) → (levels_with added l).size ≡ l.size
with_size None l = refl
with_size (Some e) l = placed_size l e.rank

-- a rank that an entry has keeps its level where others go
level_stays : (es : List Entry) (l : Levels) (rank : ℕ) → list_any (has_rank rank) es ≡ true
    → level_of (levels_kept es l) rank ≡ level_of l rank
level_stays es l rank t =
    level_kept (λ r. list_any (has_rank r) es) l.ranked rank ∙ ap (λ b. if b then level_of l rank else None) t

pub messages-are-plans : MessagesArePlans
messages-are-plans x m p now sound change made =
    let naming : IsNaming x.table.entries p.change
    = subst (IsNaming x.table.entries) (sym change) (change_names x.table m now sound) in
    let placed : Levels = levels_with (change_of x.table m now).added x.levels in
    record {
      named = naming.named;
      once = naming.once;
      size = ap (λ (y : MemberStateOf). y.levels.size) made ∙ with_size (change_of x.table m now).added x.levels;
      placed = λ rank t.
          let there : list_any (has_rank rank) (after x.table m now).entries ≡ true
          = sym (ap (λ (y : MemberStateOf). list_any (has_rank rank) y.table.entries) made)
          ∙ (has_touched p.touched now rank (planned_table x.table p).entries ∙ t) in
          sym (level_stays (planned_table x.table p).entries p.levels rank t)
          ∙ (ap (λ (y : MemberStateOf). level_of y.levels rank) made
          ∙ (level_stays (after x.table m now).entries placed rank there
          ∙ ap (λ (c : Change). level_of (levels_with c.added x.levels) rank) (sym change)));
    }

-- entries that go
pub removals-are-plans : (x : MemberStateOf) (serials : List ℕ) → IsPlanOf x (removal_planned x serials)
removals-are-plans x serials =
    record { named = λ n e. absurd (cc); once = none_twice; size = refl; placed = λ rank t. refl }

-- one more goes afterwards
pub drops-are-plans : (x : MemberStateOf) (p : Planned) (s : ℕ) (ranks : List ℕ) → IsPlanOf x p
    → IsPlanOf x (record p { ranks = ranks; dropped = p.dropped ++ s ∷ [] })
drops-are-plans x p s ranks plan = record {
  named = plan.named;
  once = plan.once;
  size = plan.size;
  placed = λ rank t. plan.placed rank
      (any_weaker (λ e. not (has_serial s e) && has_rank rank e) (has_rank rank)
      (λ e a. (and_true (not (has_serial s e)) (has_rank rank e) a).1) (planned_table x.table p).entries
      (sym (any_filter (has_rank rank) (λ e. not (has_serial s e)) (planned_table x.table p).entries)
      ∙ (sym (ap (λ (t : TableOf). list_any (has_rank rank) t.entries)
      (dropped_more p.dropped s (committed x.table p.change))) ∙ t)));
}

pub drop-is-plan : {A B : Type 0} (answer : Result A B) (x : MemberStateOf) (old new : Planned) (s : ℕ)
    (rank : Option ℕ)
    → OnOk answer (new ≡ drop_planned s rank old) → OnErr answer (HasMoreRanks old new) → IsPlanOf x old
    → IsPlanOf x new
drop-is-plan (Ok a) x old new s rank made more plan =
    subst (IsPlanOf x) (sym made)
    (drops-are-plans x old s
    (old.ranks ++ (option_to_list rank ++ option_to_list (rank_if_added s old.change.added))) plan)
drop-is-plan (Err e) x old new s rank made more plan =
    subst (IsPlanOf x) (sym more.is)
    (record { named = plan.named; once = plan.once; size = plan.size; placed = plan.placed })
