-- Which entries a member's table has once what is planned is made.
use Rattle.std.proofs.Common.{◌≡◌, ◌∙◌, ◌&&◌, ◌||◌, ◌++◌, ◌<◌, ℕ, Bool, true, false, not, List, [], ◌∷◌, ap, ap₂}
use Rattle.std.proofs.Common.{refl, subst, sym}
use Rattle.std.specs.Prelude.{◌==◌, IfSome, Option, None, Some, filter, if◌then◌else◌, map, option_to_list}
use Rattle.std.specs.List.{AllByRecursion, list_any}
use Rattle.std.proofs.lemmas.Bool.Decides.{Decides-eqb}
use Rattle.std.proofs.lemmas.List.Folds.{list_any-append}
use Rattle.member_table.specs.Changes.{CanAdd, changed_by, is_among}
use Rattle.member_table.specs.Entries.{has_serial}
use Rattle.member_table.specs.Sound.{IsSound}
use Rattle.member_table.specs.declared.entry.Entry.{Entry}
use Rattle.member_state.specs.Plans.{after_planned, touched_among}
use Rattle.member_state.specs.States.{HeldState, MemberStateOf, held_table}
use Rattle.member_state.specs.declared.planned.Planned.{Planned}
use Rattle.leaf_changes.specs.Plans.{IsPlanOf}
use Rattle.leaf_changes.proofs.Changing.{HasWithin, changed_serial, comes_within, is_left}
use Rattle.machine_drafts.proofs.Forgotten.{below_not}
use Rattle.machine_drafts.specs.MemberDrafts.{there_then}

abbrev any_of : ℕ → List Entry → Bool
any_of n es = list_any (has_serial n) es

-- entries that keep their numbers
same_any : (f : Entry → Entry) → ((e : Entry) → (f e).serial ≡ e.serial) → (n : ℕ) (es : List Entry)
    → any_of n (map f es) ≡ any_of n es
same_any f keeps n [] = refl
same_any f keeps n (e ∷ es) = ap₂ (λ a b. a || b) (ap (λ m. n == m) (keeps e)) (same_any f keeps n es)

touched_serial : (ns : List ℕ) (now : ℕ) (e : Entry) → (touched_among ns now e).serial ≡ e.serial
touched_serial ns now e = by (is_among ns e.serial)
  where
    by : (b : Bool) → (if b then record e { last = now } else e).serial ≡ e.serial
    by true = refl
    by false = refl

-- entries of which some went
kept_or_not : (a b g r s : Bool) → (a ≡ true → b ≡ g) → r ≡ (s && g) → (if b then a || r else r) ≡ ((a || s) && g)
kept_or_not true true g r s same rest = same refl
kept_or_not true false g r s same rest = rest ∙ (ap (λ c. s && c) (sym (same refl)) ∙ (none s ∙ same refl))
  where
    none : (t : Bool) → (t && false) ≡ false
    none true = refl
    none false = refl
kept_or_not false true g r s same rest = rest
kept_or_not false false g r s same rest = rest

any_if : (n : ℕ) (e : Entry) (es : List Entry) (b : Bool)
    → any_of n (if b then e ∷ es else es) ≡ (if b then (n == e.serial) || any_of n es else any_of n es)
any_if n e es true = refl
any_if n e es false = refl

any_left : (ns : List ℕ) (n : ℕ) (es : List Entry)
    → any_of n (filter (is_left ns) es) ≡ (any_of n es && not (is_among ns n))
any_left ns n [] = refl
any_left ns n (e ∷ es) =
    any_if n e (filter (is_left ns) es) (is_left ns e)
    ∙ kept_or_not (n == e.serial) (is_left ns e) (not (is_among ns n)) (any_of n (filter (is_left ns) es)) (any_of n es)
    (λ t. ap (λ m. not (is_among ns m)) (sym ((Decides-eqb n e.serial).0 t))) (any_left ns n es)

-- the entry that comes stands within the others
moved_last : (f o b : Bool) → (f || (o || b)) ≡ ((f || b) || o)
moved_last true o b = refl
moved_last false true true = refl
moved_last false true false = refl
moved_last false false true = refl
moved_last false false false = refl

any_within : (n : ℕ) (added : Option Entry) (zs ws : List Entry) → HasWithin added zs ws
    → any_of n zs ≡ (any_of n ws || any_of n (option_to_list added))
any_within n added zs ws w =
    let come = option_to_list added in
    ap (any_of n) w.is
    ∙ (list_any-append (has_serial n) w.front (come ++ w.back)
    ∙ (ap (λ b. any_of n w.front || b) (list_any-append (has_serial n) come w.back)
    ∙ (moved_last (any_of n w.front) (any_of n come) (any_of n w.back)
    ∙ ap (λ b. b || any_of n come)
    (sym (list_any-append (has_serial n) w.front w.back) ∙ ap (any_of n) w.rest))))

module _ (x : MemberStateOf) (p : Planned) (now : ℕ) (sound : IsSound x.table) (plan : IsPlanOf x p) where
  abbrev es : List Entry
  es = x.table.entries

  pub has_after : (n : ℕ) → any_of n (after_planned x p now).table.entries ≡ there_then p n (any_of n es)
  has_after n =
      let mods = p.change.modified in
      let removed = p.change.removed in
      let added = p.change.added in
      let w = comes_within removed mods added es sound.once plan.named in
      same_any (touched_among p.touched now) (touched_serial p.touched now) n _
      ∙ (any_left p.dropped n _
      ∙ ap (λ b. b && not (is_among p.dropped n))
      (any_within n added _ _ w
      ∙ ap (λ b. b || any_of n (option_to_list added))
      (same_any (changed_by mods) (changed_serial mods) n (filter (is_left removed) es) ∙ any_left removed n es)))

  left_then : (s r a d : Bool) → s ≡ true → a ≡ false → (((s && not r) || a) && not d) ≡ not (r || d)
  left_then true true false d e f = refl
  left_then true false false d e f = refl
  left_then s r true d e f = absurd (cc)
  left_then false r false d e f = absurd (cc)

  -- the entry that comes has none of the numbers that there were: so exactly those go that are named
  pub loses_exactly : ((n : ℕ) → n < x.table.next → any_of n (option_to_list p.change.added) ≡ false)
      → (ds : List Entry) → AllByRecursion (λ (e : Entry). any_of e.serial es ≡ true) ds
      → AllByRecursion (λ (e : Entry). (0 < e.serial) × (e.serial < x.table.next)) ds
      → AllByRecursion
      (λ (e : Entry). any_of e.serial (after_planned x p now).table.entries
      ≡ not (is_among (p.change.removed ++ p.dropped) e.serial))
      ds
  loses_exactly other [] had given = tt
  loses_exactly other (e ∷ ds) had given = (
    has_after e.serial
        ∙ (left_then (any_of e.serial es) (is_among p.change.removed e.serial)
        (any_of e.serial (option_to_list p.change.added)) (is_among p.dropped e.serial) had.0
        (other e.serial given.0.1)
        ∙ ap not (sym (list_any-append (λ (k : ℕ). k == e.serial) p.change.removed p.dropped))),
    loses_exactly other ds had.1 given.1,
  )

pub other_number : (h : HeldState) (removed : List ℕ) (added : Option Entry)
    → IfSome added (CanAdd (held_table h) removed) → (n : ℕ) → n < h.state.table.next
    → any_of n (option_to_list added) ≡ false
other_number h removed None can n below = refl
other_number h removed (Some e) can n below =
    ap (λ (b : Bool). b || false) (below_not n e.serial (subst (λ m. n < m) (sym can.serial) below))
