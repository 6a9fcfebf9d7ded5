-- What is told of a member's table that changes with what is planned.
use Rattle.std.proofs.Common.{◌≡◌, ◌∙◌, ℕ, ◌+◌, ◌<◌, ◌≤◌, ◌^◌, ◌==◌, Bool, true, false, not, ◌||◌, List, [], ◌∷◌, ◌++◌}
use Rattle.std.proofs.Common.{map, filter, find, Option, Some, None, IfSome, option_map, arith, refl, sym, ap, subst}
use Rattle.std.proofs.Common.{eq-eqb, eqb-true, true≢false}
use Rattle.std.specs.Prelude.{IsPermutation, filter_map, if◌then◌else◌, option_to_list}
use Rattle.std.specs.List.{AllByRecursion, list_any}
use Rattle.std.proofs.lemmas.Bool.{lt-ltb, ne_eqb}
use Rattle.std.proofs.lemmas.List.Folds.{list_any-append}
use Rattle.std.proofs.lemmas.List.Sorted.{IsPermutation-map}
use Rattle.of10_match.specs.Normal.{IsNormal}
use Rattle.of10_actions.specs.Effects.{effects_of}
use Rattle.of10_actions.specs.declared.effects.PortView.{PortView}
use Rattle.grants.specs.declared.grant.Grant.{Grant}
use Rattle.level_map.specs.Levels.{IsLevelling, Levels, level_of}
use Rattle.level_map.proofs.Properties.{follows}
use Rattle.member_table.specs.Changes.{CanAdd, is_among}
use Rattle.member_table.specs.Entries.{has_serial}
use Rattle.member_table.specs.Sound.{IsAsWritten}
use Rattle.member_table.specs.Tables.{has_rank, with_actions}
use Rattle.member_table.specs.declared.change.Modified.{Modified}
use Rattle.member_table.specs.declared.entry.Entry.{Entry}
use Rattle.member_table.proofs.Lists.{found_has}
use Rattle.member_state.specs.Changes.{levels_kept, levels_with}
use Rattle.member_state.specs.Leaves.{leaf_by, leaf_of, level_or_zero}
use Rattle.member_state.specs.Plans.{IsReady, after_planned, planned_table, touched_among}
use Rattle.member_state.specs.States.{HeldState, IsSoundState, held_table}
use Rattle.member_state.specs.declared.planned.Planned.{Planned}
use Rattle.member_state.proofs.Levels.{level_kept}
use Rattle.policy_meaning.proofs.Lists.{all-append, all-each, all-filter_map, all-mapped, all-zip}
use Rattle.policy_meaning.specs.declared.leaf.LeafEntry.{LeafEntry}
use Rattle.policy_meaning.specs.declared.leaf.LeafTable.{LeafTable}
use Rattle.leaf_changes.specs.Leaves.{DiffersAt, entries_among, entries_apart}
use Rattle.leaf_changes.specs.Plans.{IsPlanOf, KeepsLevels}
use Rattle.leaf_changes.specs.Told.{IsFitting, IsTold}
use Rattle.leaf_changes.specs.Touched.{changed_in, coming_in, goes, has_kind, number_of, staying, touched_in}
use Rattle.leaf_changes.proofs.Changing.{IsUntouched, all_met, apart_same, both_false, met_come, numbers, numbers_of}
use Rattle.leaf_changes.proofs.Lists.{all_passing, by-equation, filter_mapped, map_after, map_within, none_pass, weaker}

-- numbers -----------------------------------------------------------------------------------------------------------

-- numbers that leave room aren't left out
among_kept : (serials : List ℕ) (n : ℕ) → has_kind n ≡ true → is_among (filter has_kind serials) n ≡ is_among serials n
among_kept [] n t = refl
among_kept (s ∷ ss) n t = by (has_kind s) refl (s == n) refl (among_kept ss n t)
  where
    by : (b : Bool) → has_kind s ≡ b → (c : Bool) → (s == n) ≡ c
        → is_among (filter has_kind ss) n ≡ is_among ss n
        → is_among (if b then s ∷ filter has_kind ss else filter has_kind ss) n ≡ (c || is_among ss n)
    by true k c e h = ap (λ a. a || is_among (filter has_kind ss) n) e ∙ ap (λ a. c || a) h
    by false k true e h = absurd (true≢false (sym t ∙ (ap has_kind (sym (eqb-true s n e)) ∙ k)))
    by false k false e h = h

in_both : (xs ys : List ℕ) (n : ℕ) → is_among (xs ++ ys) n ≡ (is_among xs n || is_among ys n)
in_both xs ys n = list_any-append (λ k. k == n) xs ys

among_touched : (p : Planned) (n : ℕ) → is_among (touched_in p) n
    ≡ ((goes p n || is_among (numbers_of p.change.modified) n) || is_among (option_to_list (number_of p.change.added))
    n)
among_touched p n =
    in_both ((p.change.removed ++ p.dropped) ++ numbers_of p.change.modified)
    (option_to_list (number_of p.change.added)) n
    ∙ ap (λ b. b || is_among (option_to_list (number_of p.change.added)) n)
    (in_both (p.change.removed ++ p.dropped) (numbers_of p.change.modified) n
    ∙ ap (λ b. b || is_among (numbers_of p.change.modified) n) (in_both p.change.removed p.dropped n))

or_right : (a b : Bool) → b ≡ true → (a || b) ≡ true
or_right true b t = refl
or_right false b t = t

or_left : (a b : Bool) → a ≡ true → (a || b) ≡ true
or_left true b t = refl
or_left false b t = absurd (true≢false (sym t))

or_none : (b : Bool) → (b || false) ≡ b
or_none true = refl
or_none false = refl

-- each entry's number is among the numbers, and its rank one that an entry has
own_numbers : (all : List ℕ) (es : List Entry) → ((n : ℕ) → is_among (numbers es) n ≡ true → is_among all n ≡ true)
    → AllByRecursion (λ (e : Entry). is_among all e.serial ≡ true) es
own_numbers all [] h = tt
own_numbers all (e ∷ es) h = (
  h e.serial (or_left (e.serial == e.serial) (is_among (numbers es) e.serial) (eq-eqb e.serial e.serial refl)),
  own_numbers all es (λ n t. h n (or_right (e.serial == n) (is_among (numbers es) n) t)),
)

own_ranks : (all es : List Entry) → ((r : ℕ) → list_any (has_rank r) es ≡ true → list_any (has_rank r) all ≡ true)
    → AllByRecursion (λ (e : Entry). list_any (has_rank e.rank) all ≡ true) es
own_ranks all [] h = tt
own_ranks all (e ∷ es) h = (
  h e.rank (or_left (e.rank == e.rank) (list_any (has_rank e.rank) es) (eq-eqb e.rank e.rank refl)),
  own_ranks all es (λ r t. h r (or_right (r == e.rank) (list_any (has_rank r) es) t)),
)

all_filtered : {A : Type 0} (P : A → Type 0) (q : A → Bool) (xs : List A) → AllByRecursion P xs
    → AllByRecursion P (filter q xs)
all_filtered P q xs h = all_passing P q xs (weaker P (λ x. q x ≡ true → P x) (λ x k t. k) xs h)

-- entries with their levels -----------------------------------------------------------------------------------------

level_fits : (l : Levels) → IsLevelling l.size l.ranked → (rank : ℕ) → level_or_zero (level_of l rank) < l.size
level_fits l k rank = by (level_of l rank) (λ a. (follows l k.rising).within rank a)
  where
    by : (o : Option ℕ) → ((a : ℕ) → o ≡ Some a → (2 ≤ a) × (a < l.size)) → level_or_zero o < l.size
    by None h = let four : 4 ≤ l.size = k.size_from in omega arith
    by (Some a) h = (h a refl).1

-- an entry whose match is normal, and whose number leaves room
abbrev pub IsGood : Entry → Type 0
IsGood e = IsNormal e.normal × (2 + e.serial < 2 ^ 64)

pub all_fitting : (l : Levels) (i : ℕ) (view : PortView) → IsLevelling l.size l.ranked → (es : List Entry)
    → AllByRecursion IsGood es → AllByRecursion (IsFitting l.size) (map (leaf_by l i view) es)
all_fitting l i view k es good =
    all-mapped IsGood (IsFitting l.size) (leaf_by l i view) es
    (λ e h. record { normal = h.0; below = level_fits l k e.rank; serial = h.1 }) good

-- those of a sound state are
pub state_good : (h : HeldState) → IsSoundState h.state → AllByRecursion IsGood h.state.table.entries
state_good h sound =
    weaker (λ (e : Entry). IsAsWritten e × ((0 < e.serial) × (e.serial < h.state.table.next))) IsGood
    (λ e both. (
      both.0.normal,
      (let less : e.serial < h.state.table.next = both.1.1 in
          let fits : h.state.table.next + 1 < 2 ^ 64 = sound.table.fits in omega arith),
    ))
    h.state.table.entries
    (all-zip IsAsWritten (λ (e : Entry). (0 < e.serial) × (e.serial < h.state.table.next)) h.state.table.entries
    sound.table.written sound.table.given)

module _ (i : ℕ) (g : Grant) (h : HeldState) (p : Planned) (now : ℕ) (sound : IsSoundState h.state)
    (ready : IsReady h p) (plan : IsPlanOf h.state p) where
  abbrev es : List Entry
  es = h.state.table.entries

  -- the entries after what is planned
  abbrev there : List Entry
  there = (planned_table h.state.table p).entries

  abbrev before : LeafTable
  before = leaf_of i g h.state

  abbrev after : LeafTable
  after = leaf_of i g (after_planned h.state p now)

  abbrev seen : Entry → LeafEntry
  seen e = leaf_by p.levels i g.ports e

  can_add : (e : Entry) → p.change.added ≡ Some e → CanAdd (held_table h) p.change.removed e
  can_add e s = subst (λ (o : Option Entry). IfSome o (CanAdd (held_table h) p.change.removed)) s ready.change.added

  -- the leaf entries after it
  after_seen : after.entries ≡ map seen there
  after_seen =
      map_after (touched_among p.touched now) (leaf_by (levels_kept there p.levels) i g.ports) there
      ∙ map_within (λ e. leaf_by (levels_kept there p.levels) i g.ports (touched_among p.touched now e)) seen there
      (weaker (λ (e : Entry). list_any (has_rank e.rank) there ≡ true)
      (λ e. leaf_by (levels_kept there p.levels) i g.ports (touched_among p.touched now e) ≡ seen e) alike there
      (own_ranks there there (λ r t. t)))
    where
      level : (e : Entry) → list_any (has_rank e.rank) there ≡ true
          → level_or_zero (level_of (levels_kept there p.levels) e.rank) ≡ level_or_zero (level_of p.levels e.rank)
      level e t =
          ap level_or_zero (level_kept (λ r. list_any (has_rank r) there) p.levels.ranked e.rank
          ∙ ap (λ b. if b then level_of p.levels e.rank else None) t)

      alike : (e : Entry) → list_any (has_rank e.rank) there ≡ true
          → leaf_by (levels_kept there p.levels) i g.ports (touched_among p.touched now e) ≡ seen e
      alike e t =
          let with_level : ℕ → LeafEntry = λ n. record {
            serial = e.serial;
            rank = e.rank;
            m = e.normal;
            level = n;
            effects = effects_of g.ports i e.actions;
          } in
          by (is_among p.touched e.serial) (ap with_level (level e t))
        where
          by : (b : Bool) → leaf_by (levels_kept there p.levels) i g.ports e ≡ seen e
              → leaf_by (levels_kept there p.levels) i g.ports (if b then record e { last = now } else e) ≡ seen e
          by true s = s
          by false s = s

  -- numbers that name what is touched, and leave the levels of others
  record Names (serials : List ℕ) : Type 0 where
    comes : (e : Entry) → p.change.added ≡ Some e → is_among (filter has_kind serials) e.serial ≡ true
    covers : AllByRecursion (λ (e : Entry). is_among (filter has_kind serials) e.serial ≡ false
        → IsUntouched p.change.removed p.dropped p.change.modified e.serial) es
    levels : AllByRecursion (λ (e : Entry). level_of h.state.levels e.rank ≡ level_of p.levels e.rank)
        (filter (λ (e : Entry). not (is_among (filter has_kind serials) e.serial)) es)

  among_after : (serials : List ℕ) → entries_among (filter has_kind serials) after.entries
      ≡ map seen (filter (λ (e : Entry). is_among (filter has_kind serials) e.serial) there)
  among_after serials =
      ap (entries_among (filter has_kind serials)) after_seen
      ∙ filter_mapped seen (λ (e : LeafEntry). is_among (filter has_kind serials) e.serial) there

  -- then the tables differ in these entries alone
  differ : (serials : List ℕ) → Names serials → DiffersAt (filter has_kind serials) before after
  differ serials n =
      let q : ℕ → Bool = λ k. is_among (filter has_kind serials) k in
      let with_size : ℕ → LeafTable = λ size. record before { size = size } in
      let others_there : filter (λ (e : Entry). not (q e.serial)) there ≡ filter (λ (e : Entry). not (q e.serial)) es
      = apart_same p.change.removed p.dropped p.change.modified p.change.added q es sound.table.once plan.named
      n.comes n.covers in
      record {
        rest = ap with_size (sym plan.size);
        others = filter_mapped (leaf_by h.state.levels i g.ports) (λ (e : LeafEntry). not (q e.serial)) es
            ∙ (map_within (leaf_by h.state.levels i g.ports) seen (filter (λ (e : Entry). not (q e.serial)) es)
            (weaker (λ (e : Entry). level_of h.state.levels e.rank ≡ level_of p.levels e.rank)
            (λ e. leaf_by h.state.levels i g.ports e ≡ seen e) alike (filter (λ (e : Entry). not (q e.serial)) es)
            n.levels)
            ∙ sym (ap (entries_apart (filter has_kind serials)) after_seen
            ∙ (filter_mapped seen (λ (e : LeafEntry). not (q e.serial)) there ∙ ap (map seen) others_there)));
      }
    where
      alike : (e : Entry) → level_of h.state.levels e.rank ≡ level_of p.levels e.rank
          → leaf_by h.state.levels i g.ports e ≡ seen e
      alike e s =
          let with_level : ℕ → LeafEntry = λ k. record {
            serial = e.serial;
            rank = e.rank;
            m = e.normal;
            level = k;
            effects = effects_of g.ports i e.actions;
          } in
          ap with_level (ap level_or_zero s)

  -- numbers of entries leave room, and differ from that of the entry that comes
  has_room : AllByRecursion (λ (e : Entry). has_kind e.serial ≡ true) es
  has_room = weaker IsGood (λ (e : Entry). has_kind e.serial ≡ true)
      (λ e good. lt-ltb (2 + e.serial) (2 ^ 64) good.1) es (state_good h sound)

  not_new : (n : ℕ) → n < h.state.table.next → is_among (option_to_list (number_of p.change.added)) n ≡ false
  not_new n less = by p.change.added refl
    where
      by : (o : Option Entry) → p.change.added ≡ o → is_among (option_to_list (number_of o)) n ≡ false
      by None s = refl
      by (Some e) s =
          let next : e.serial ≡ h.state.table.next = (can_add e s).serial in
          ap (λ b. b || false) (ne_eqb e.serial n (λ same. absurd (omega (arith, next, same, less))))

  new_room : (e : Entry) → p.change.added ≡ Some e → has_kind e.serial ≡ true
  new_room e s =
      let next : e.serial ≡ h.state.table.next = (can_add e s).serial in
      let more : h.state.table.next + 2 < 2 ^ 64 = (can_add e s).more in
      lt-ltb (2 + e.serial) (2 ^ 64) (omega (arith, next, more))

  new_touched : (e : Entry) → p.change.added ≡ Some e → is_among (touched_in p) e.serial ≡ true
  new_touched e s =
      among_touched p e.serial
      ∙ or_right (goes p e.serial || is_among (numbers_of p.change.modified) e.serial)
      (is_among (option_to_list (number_of p.change.added)) e.serial)
      (ap (λ o. is_among (option_to_list (number_of o)) e.serial) s
      ∙ or_left (e.serial == e.serial) false (eq-eqb e.serial e.serial refl))

  -- where no level changes -----------------------------------------------------------------------------------------

  touched_exact : AllByRecursion (λ (e : Entry). is_among (filter has_kind (touched_in p)) e.serial
      ≡ (goes p e.serial || is_among (numbers_of p.change.modified) e.serial)) es
  touched_exact =
      weaker (λ (e : Entry). (has_kind e.serial ≡ true) × ((0 < e.serial) × (e.serial < h.state.table.next)))
      (λ e. is_among (filter has_kind (touched_in p)) e.serial
      ≡ (goes p e.serial || is_among (numbers_of p.change.modified) e.serial))
      (λ e both. among_kept (touched_in p) e.serial both.0
      ∙ (among_touched p e.serial
      ∙ (ap (λ b. (goes p e.serial || is_among (numbers_of p.change.modified) e.serial) || b)
      (not_new e.serial both.1.1)
      ∙ or_none (goes p e.serial || is_among (numbers_of p.change.modified) e.serial)))) es
      (all-zip (λ (e : Entry). has_kind e.serial ≡ true) (λ (e : Entry). (0 < e.serial)
      × (e.serial < h.state.table.next))
      es has_room sound.table.given)

  touched_comes : (e : Entry) → p.change.added ≡ Some e → is_among (filter has_kind (touched_in p)) e.serial ≡ true
  touched_comes e s = among_kept (touched_in p) e.serial (new_room e s) ∙ new_touched e s

  touched_covers : AllByRecursion (λ (e : Entry). is_among (filter has_kind (touched_in p)) e.serial ≡ false
      → IsUntouched p.change.removed p.dropped p.change.modified e.serial) es
  touched_covers =
      weaker (λ (e : Entry). is_among (filter has_kind (touched_in p)) e.serial
      ≡ (goes p e.serial || is_among (numbers_of p.change.modified) e.serial))
      (λ e. is_among (filter has_kind (touched_in p)) e.serial ≡ false
      → IsUntouched p.change.removed p.dropped p.change.modified e.serial)
      (λ e exact none.
      let outer = both_false (goes p e.serial) (is_among (numbers_of p.change.modified) e.serial) (sym exact ∙ none) in
      let inner = both_false (is_among p.change.removed e.serial) (is_among p.dropped e.serial) outer.0 in
      record { stays = inner.0; left = inner.1; same = outer.1 }) es touched_exact

  module _ (keeps : KeepsLevels h.state.levels (levels_with p.change.added h.state.levels)) where
    touched_levels : AllByRecursion (λ (e : Entry). level_of h.state.levels e.rank ≡ level_of p.levels e.rank)
        (filter (λ (e : Entry). not (is_among (filter has_kind (touched_in p)) e.serial)) es)
    touched_levels =
        let test : Entry → Bool = λ e. not (is_among (filter has_kind (touched_in p)) e.serial) in
        let same : filter test there ≡ filter test es
        = apart_same p.change.removed p.dropped p.change.modified p.change.added
        (λ k. is_among (filter has_kind (touched_in p)) k) es sound.table.once plan.named touched_comes
        touched_covers in
        weaker (λ (e : Entry). (list_any (has_rank e.rank) es ≡ true) × (list_any (has_rank e.rank) there ≡ true))
        (λ e. level_of h.state.levels e.rank ≡ level_of p.levels e.rank)
        (λ e both. sym (keeps e.rank (sound.kept.ranks e.rank ∙ both.0)) ∙ sym (plan.placed e.rank both.1))
        (filter test es)
        (all-zip (λ (e : Entry). list_any (has_rank e.rank) es ≡ true)
        (λ (e : Entry). list_any (has_rank e.rank) there ≡ true) (filter test es)
        (all_filtered (λ (e : Entry). list_any (has_rank e.rank) es ≡ true) test es (own_ranks es es (λ r t. t)))
        (subst (AllByRecursion (λ (e : Entry). list_any (has_rank e.rank) there ≡ true)) same
        (all_filtered (λ (e : Entry). list_any (has_rank e.rank) there ≡ true) test there
        (own_ranks there there (λ r t. t)))))

    -- those that are touched are told
    pub told_touched : IsTold before after (touched_in p) (map seen (coming_in es p))
    told_touched = record {
      differs = differ (touched_in p)
          (record { comes = touched_comes; covers = touched_covers; levels = touched_levels });
      are = subst (IsPermutation (map seen (coming_in es p))) (sym (among_after (touched_in p)))
          (IsPermutation-map seen (coming_in es p)
          (filter (λ (e : Entry). is_among (filter has_kind (touched_in p)) e.serial) there)
          (met_come p.change.removed p.dropped p.change.modified p.change.added
          (λ k. is_among (filter has_kind (touched_in p)) k) es sound.table.once plan.named touched_comes plan.once
          touched_exact));
      fitting = all_fitting p.levels i g.ports ready.levels (coming_in es p) coming_good;
    }
      where
        found_good : (m : Modified) (y : Entry) → changed_in es p m ≡ Some y → IsGood y
        found_good m y s = by (goes p m.serial) (find (has_serial m.serial) es) refl s
          where
            by : (b : Bool) (o : Option Entry) → find (has_serial m.serial) es ≡ o
                → (if b then None else option_map (with_actions m.actions) o) ≡ Some y → IsGood y
            by true o f t = absurd (cc)
            by false None f t = absurd (cc)
            by false (Some e) f t =
                let same : with_actions m.actions e ≡ y = cc in
                subst IsGood same (found_has IsGood (has_serial m.serial) es e (state_good h sound) f)

        added_good : (o : Option Entry) → p.change.added ≡ o
            → AllByRecursion IsGood (option_to_list (staying p.dropped o))
        added_good None s = tt
        added_good (Some e) s = by (is_among p.dropped e.serial)
          where
            good : IsGood e
            good =
                let next : e.serial ≡ h.state.table.next = (can_add e s).serial in
                let more : h.state.table.next + 2 < 2 ^ 64 = (can_add e s).more in
                ((can_add e s).written.normal, omega (arith, next, more))

            by : (b : Bool) → AllByRecursion IsGood (option_to_list (if b then None else Some e))
            by true = tt
            by false = (good, tt)

        coming_good : AllByRecursion IsGood (coming_in es p)
        coming_good =
            all-append IsGood (filter_map (changed_in es p) p.change.modified)
            (option_to_list (staying p.dropped p.change.added))
            (all-filter_map (λ (m : Modified). Unit {0}) IsGood (changed_in es p) p.change.modified
            (λ m y s _. found_good m y s) (all-each (λ (m : Modified). Unit {0}) p.change.modified (λ m. tt)))
            (added_good p.change.added refl)

  -- where all come anew --------------------------------------------------------------------------------------------

  abbrev pub all_named : List ℕ
  all_named = touched_in p ++ numbers es

  named_all : AllByRecursion (λ (e : Entry). is_among (filter has_kind all_named) e.serial ≡ true) es
  named_all =
      weaker (λ (e : Entry). (has_kind e.serial ≡ true) × (is_among (numbers es) e.serial ≡ true))
      (λ e. is_among (filter has_kind all_named) e.serial ≡ true)
      (λ e both. among_kept all_named e.serial both.0
      ∙ (in_both (touched_in p) (numbers es) e.serial
      ∙ or_right (is_among (touched_in p) e.serial) (is_among (numbers es) e.serial) both.1)) es
      (all-zip (λ (e : Entry). has_kind e.serial ≡ true) (λ (e : Entry). is_among (numbers es) e.serial ≡ true) es
      has_room (own_numbers (numbers es) es (λ n t. t)))

  named_comes : (e : Entry) → p.change.added ≡ Some e → is_among (filter has_kind all_named) e.serial ≡ true
  named_comes e s =
      among_kept all_named e.serial (new_room e s)
      ∙ (in_both (touched_in p) (numbers es) e.serial
      ∙ or_left (is_among (touched_in p) e.serial) (is_among (numbers es) e.serial) (new_touched e s))

  -- all are told
  pub told_anew : AllByRecursion (IsFitting p.levels.size) after.entries → IsTold before after all_named after.entries
  told_anew fitting = record {
    differs = differ all_named (record {
      comes = named_comes;
      covers = weaker (λ (e : Entry). is_among (filter has_kind all_named) e.serial ≡ true)
          (λ e. is_among (filter has_kind all_named) e.serial ≡ false
          → IsUntouched p.change.removed p.dropped p.change.modified e.serial)
          (λ e t f. absurd (true≢false (sym t ∙ f))) es named_all;
      levels = subst (AllByRecursion (λ (e : Entry). level_of h.state.levels e.rank ≡ level_of p.levels e.rank))
          (sym (none_pass (λ (e : Entry). not (is_among (filter has_kind all_named) e.serial)) es
          (weaker (λ (e : Entry). is_among (filter has_kind all_named) e.serial ≡ true)
          (λ e. not (is_among (filter has_kind all_named) e.serial) ≡ false) (λ e t. ap not t) es named_all))) tt;
    });
    are = by-equation after.entries (entries_among (filter has_kind all_named) after.entries)
        (sym (among_after all_named
        ∙ (ap (map seen) (all_met p.change.removed p.dropped p.change.modified p.change.added
        (λ k. is_among (filter has_kind all_named) k) es sound.table.once plan.named named_comes named_all)
        ∙ sym after_seen)));
    fitting = fitting;
  }
