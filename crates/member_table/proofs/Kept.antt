-- A table is kept whole when its parts change together.
use Rattle.std.proofs.Common.{◌≡◌, ℕ, ◌<◌, ◌≤◌, ◌+◌, ◌-◌, ◌^◌, Bool, false, not, List, [], ◌∷◌, map, filter, find, refl}
use Rattle.std.proofs.Common.{sym, ap, ap₂, subst, ◌∙◌, arith, None, count_by, is_some, true, min, nat_le, leb-true}
use Rattle.std.proofs.Common.{◌&&◌, ◌==◌}
use Rattle.std.specs.List.{AllByRecursion, list_any}
use Rattle.member_table.specs.Entries.{identity_of, has_serial, is_at, put}
use Rattle.member_table.specs.InsideOrders.{OrderOf}
use Rattle.match_index.specs.InsideGroups.{SameItems}
use Rattle.match_index.specs.declared.item.Item.{Item}
use Rattle.member_table.specs.InsideRanking.{RanksOf, ranked_of, Exchanges}
use Rattle.member_table.specs.Sound.{IsAsWritten, IsSound}
use Rattle.member_table.specs.InsideKept.{IsKept, IsQuietUntil}
use Rattle.member_table.specs.Tables.{TableOf}
use Rattle.member_table.specs.Timeouts.{has_passed}
use Rattle.member_table.specs.declared.entry.Entry.{Entry}
use Rattle.member_table.proofs.Lists.{any_find, each_weaker, filter-none}
use Rattle.member_table.proofs.Sounds.{each_filter, each_put, sound_map, sound_filter, sound_put, is_blocked}
use Rattle.member_table.proofs.Counts.{exchange_follows, same_left}

abbrev pub table_of : List Entry → ℕ → ℕ → TableOf
table_of entries next limit = record { entries = entries; next = next; limit = limit }

ranked_map : (f : Entry → Entry) → ((e : Entry) → ranked_of (f e) ≡ ranked_of e) → (es : List Entry)
    → map ranked_of (map f es) ≡ map ranked_of es
ranked_map f same [] = refl
ranked_map f same (e ∷ es) = ap₂ (λ x xs. x ∷ xs) (same e) (ranked_map f same es)

-- an earlier bound
pub earlier : (soonest soonest' : ℕ) → soonest' ≤ soonest → (e : Entry) → IsQuietUntil soonest e → IsQuietUntil soonest' e
earlier soonest soonest' less e q = λ now h. q now (omega arith)

-- a timeout that begins anew hasn't passed before
later : (since timeout now : ℕ) → now < since → has_passed since timeout now ≡ false
later since timeout now less = rw (past (since + timeout) now (omega arith)) (and_false (not (timeout == 0)))
  where
    past : (a n : ℕ) → n < a → nat_le a n ≡ false
    past a n h = by (nat_le a n) refl
      where
        by : (b : Bool) → nat_le a n ≡ b → nat_le a n ≡ false
        by true t = let l = leb-true a n t in absurd (omega arith)
        by false t = t

    and_false : (b : Bool) → (b && false) ≡ false
    and_false true = refl
    and_false false = refl

pub quiet_touched : (soonest at soonest' : ℕ) → soonest' ≡ min soonest at → (e : Entry) → IsQuietUntil soonest e
    → IsQuietUntil soonest' (record e { last = at })
quiet_touched soonest at soonest' is e q = λ now h. ((q now (omega arith)).0, later at e.idle now (omega arith))

-- what holds of each is so of what each becomes
each_map : (P Q : Entry → Type 0) (f : Entry → Entry) → ((e : Entry) → P e → Q (f e)) → (es : List Entry)
    → AllByRecursion P es → AllByRecursion Q (map f es)
each_map P Q f h [] a = tt
each_map P Q f h (e ∷ es) a = (h e a.0, each_map P Q f h es a.1)

pub kept_map : (f : Entry → Entry) → ((e : Entry) → (f e).serial ≡ e.serial)
    → ((e : Entry) → identity_of (f e) ≡ identity_of e) → ((e : Entry) → IsAsWritten e → IsAsWritten (f e))
    → (next limit room soonest soonest' : ℕ) (order order' : OrderOf) (ranks : RanksOf)
    → ((e : Entry) → IsQuietUntil soonest e → IsQuietUntil soonest' (f e))
    → IsKept (table_of order.entries next limit) room soonest order ranks
    → order'.entries ≡ map f order.entries → order.room ≤ order'.room
    → IsKept (table_of order'.entries next limit) room soonest' order' ranks
kept_map f numbers identities written next limit room soonest soonest' order order' ranks quiet k e r = record {
  sound = let P : List Entry → Type 0 = λ es. IsSound (table_of es next limit) in
      subst P (sym e) (sound_map f numbers identities written (table_of order.entries next limit) k.sound);
  ranked = λ p. k.ranked p ∙ ap (count_by p) (sym (ap (map ranked_of) e ∙ ranked_map f same order.entries));
  order_room = (let a = k.order_room in omega arith);
  ranks_room = k.ranks_room;
  quiet = subst (AllByRecursion (IsQuietUntil soonest')) (sym e)
      (each_map (IsQuietUntil soonest) (IsQuietUntil soonest') f quiet order.entries k.quiet);
}
  where
    same : (e : Entry) → ranked_of (f e) ≡ ranked_of e
    same e i = record { id = numbers e i; rank = (identities e i).rank; normal = (identities e i).normal }

pub kept_none : (s next limit room soonest : ℕ) (order order' : OrderOf) (ranks : RanksOf)
    → IsKept (table_of order.entries next limit) room soonest order ranks
    → order'.entries ≡ filter (λ x. not (has_serial s x)) order.entries → order.room ≤ order'.room
    → None ≡ find (has_serial s) order.entries
    → IsKept (table_of order'.entries next limit) room soonest order' ranks
kept_none s next limit room soonest order order' ranks k es r f = record {
  sound = let P : List Entry → Type 0 = λ es. IsSound (table_of es next limit) in
      subst P (sym es) (sound_filter (table_of order.entries next limit) (λ x. not (has_serial s x)) k.sound);
  ranked = λ p. k.ranked p ∙ ap (λ xs. count_by p (map ranked_of xs))
      (sym (es ∙ filter-none (has_serial s) order.entries (any_find (has_serial s) order.entries
      ∙ ap is_some (sym f))));
  order_room = (let b = k.order_room in omega arith);
  ranks_room = k.ranks_room;
  quiet = subst (AllByRecursion (IsQuietUntil soonest)) (sym es)
      (each_filter (IsQuietUntil soonest) (λ x. not (has_serial s x)) order.entries k.quiet);
}

pub kept_put : (new : Entry) (next limit room soonest soonest' : ℕ) (order order' : OrderOf) (ranks ranks' : RanksOf)
    → soonest' ≤ soonest → IsQuietUntil soonest' new
    → IsKept (table_of order.entries next limit) room soonest order ranks
    → new.serial ≡ next → next + 2 < 2 ^ 64 → IsAsWritten new → list_any (is_blocked new) order.entries ≡ false
    → 0 < room
    → order'.entries ≡ put new order.entries → order.room ≤ order'.room + 1
    → Exchanges (find (is_at (identity_of new)) order.entries) (ranked_of new) ranks.items ranks'.items
    → ranks.room ≤ ranks'.room + 1
    → IsKept (table_of order'.entries (next + 1) limit) (room - 1) soonest' order' ranks'
kept_put new next limit room soonest soonest' order order' ranks ranks' less quiet k n more written b z es r x q = record {
  sound = let P : List Entry → Type 0 = λ es. IsSound (table_of es (next + 1) limit) in
      subst P (sym es) (sound_put (table_of order.entries next limit) new k.sound n more written b);
  ranked = λ p. exchange_follows new order.entries ranks.items ranks'.items k.sound.once k.ranked x p
      ∙ ap (λ xs. count_by p (map ranked_of xs)) (sym es);
  order_room = (let b = k.order_room in omega arith);
  ranks_room = (let b = k.ranks_room in omega arith);
  quiet = subst (AllByRecursion (IsQuietUntil soonest')) (sym es)
      (each_put (IsQuietUntil soonest') new order.entries quiet
      (each_weaker (IsQuietUntil soonest) (IsQuietUntil soonest') (earlier soonest soonest' less) order.entries k.quiet));
}

-- entries go, and with them what the ranking has of them
pub kept_filter : (g : Item → Bool) (next limit room soonest : ℕ) (order order' : OrderOf) (ranks ranks' : RanksOf)
    → IsKept (table_of order.entries next limit) room soonest order ranks
    → order'.entries ≡ filter (λ e. g (ranked_of e)) order.entries → order.room ≤ order'.room
    → SameItems (filter g ranks.items) ranks'.items → ranks.room ≤ ranks'.room
    → IsKept (table_of order'.entries next limit) room soonest order' ranks'
kept_filter g next limit room soonest order order' ranks ranks' k es r items q = record {
  sound = let P : List Entry → Type 0 = λ xs. IsSound (table_of xs next limit) in
      subst P (sym es) (sound_filter (table_of order.entries next limit) (λ e. g (ranked_of e)) k.sound);
  ranked = λ p. same_left g ranks.items ranks'.items order.entries k.ranked items p
      ∙ ap (λ xs. count_by p (map ranked_of xs)) (sym es);
  order_room = (let b = k.order_room in omega arith);
  ranks_room = (let b = k.ranks_room in omega arith);
  quiet = subst (AllByRecursion (IsQuietUntil soonest)) (sym es)
      (each_filter (IsQuietUntil soonest) (λ e. g (ranked_of e)) order.entries k.quiet);
}
