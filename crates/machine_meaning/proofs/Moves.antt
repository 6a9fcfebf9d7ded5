-- What messages, time and polls do to a member's table: a serial number is given to one entry, and once.
use Rattle.std.proofs.Common.{◌≡◌, ◌∙◌, ℕ, ◌+◌, ◌≤◌, ◌⊎◌, inl, inr, ◌==◌, ◌&&◌, ◌||◌, Bool, true, false, true≢false}
use Rattle.std.proofs.Common.{not, nat_le, List, [], ◌∷◌, map, filter, if◌then◌else◌, cond, Option, Some, None, arith}
use Rattle.std.proofs.Common.{refl, sym, ap, subst, eqb-true, ⊎_elim}
use Rattle.std.specs.Prelude.{find}
use Rattle.std.specs.List.{cons_option, list_any}
use Rattle.grants.specs.Rows.{is_delete}
use Rattle.member_state.specs.Changes.{entries_of, entry_touched, inserted, rising, rising_serials, table_without}
use Rattle.member_table.specs.Entries.{has_serial, identity_of, is_at, put}
use Rattle.member_table.specs.Planning.{change_asked, change_of}
use Rattle.member_table.specs.Tables.{TableOf, after, after_asked, deleted, entry_of, identity_in, is_meant, modified}
use Rattle.member_table.specs.Tables.{outputs_to, with_actions, with_entry}
use Rattle.member_table.specs.Timeouts.{is_hard_due, serials_of, without_expired}
use Rattle.member_table.specs.declared.entry.Entry.{Entry}
use Rattle.of10_actions.specs.declared.action.Action.{Action}
use Rattle.of10_msgs.specs.Commands.{command_at}
use Rattle.of10_msgs.specs.declared.command.Command.{Command}
use Rattle.of10_msgs.specs.declared.command.Command.TheVariants.{Add, Delete, DeleteStrict, Modify, ModifyStrict}
use Rattle.of10_msgs.specs.declared.message.FlowMod.{FlowMod}
use Rattle.machine_meaning.proofs.Tallies.{one, tally, tally_alike, tally_fewer, tally_map, tally_parts}

-- how many of some entries have the number
abbrev pub numbered : ℕ → List Entry → ℕ
numbered k es = tally (has_serial k) es

-- a table becomes another one, and some entries are removed: no number stands more often than before, but the next one
-- where it is given
pub record IsMove (x y : TableOf) (gone : List Entry) : Type 0 where
  pub given : Bool
  pub next : y.next ≡ x.next + one given
  pub each :
      (k : ℕ) → numbered k y.entries + numbered k gone ≤ numbered k x.entries + one (given && (k == x.next))

-- where none is given
unmoved : (x : TableOf) (entries gone : List Entry)
    → ((k : ℕ) → numbered k entries + numbered k gone ≤ numbered k x.entries)
    → IsMove x (record x { entries = entries }) gone
unmoved x entries gone h = record {
  given = false;
  next = omega arith;
  each = λ k. let le = h k in omega (arith, le);
}

-- entries that keep their numbers
renumbered : (f : Entry → Entry) → ((e : Entry) → (f e).serial ≡ e.serial) → (k : ℕ) (es : List Entry)
    → numbered k (map f es) ≡ numbered k es
renumbered f h k es =
    tally_map (has_serial k) f es
    ∙ tally_alike (λ e. has_serial k (f e)) (has_serial k) (λ e. ap (λ (n : ℕ). k == n) (h e)) es

kept : (x : TableOf) (f : Entry → Entry) → ((e : Entry) → (f e).serial ≡ e.serial)
    → IsMove x (record x { entries = map f x.entries }) []
kept x f h = unmoved x (map f x.entries) [] (λ k. let e = renumbered f h k x.entries in omega (arith, e))

-- messages ----------------------------------------------------------------------------------------------------------

put_numbered : (k : ℕ) (new : Entry) (es : List Entry)
    → numbered k (put new es) ≤ numbered k es + one (k == new.serial)
put_numbered k new [] = omega arith
put_numbered k new (e ∷ es) = by (is_at (identity_of new) e) (put_numbered k new es)
  where
    by : (b : Bool) → numbered k (put new es) ≤ numbered k es + one (k == new.serial)
        → numbered k (cond b (new ∷ es) (e ∷ put new es)) ≤ numbered k (e ∷ es) + one (k == new.serial)
    by true h = omega arith
    by false h = omega (arith, h)

added : (t : TableOf) (m : FlowMod) (now : ℕ) → IsMove t (with_entry t m now) []
added t m now = record {
  given = true;
  next = refl;
  each = λ k. let h = put_numbered k (entry_of t.next m now) t.entries in omega (arith, h);
}

with_actions_serial : (b : Bool) (actions : List Action) (e : Entry)
    → (if b then with_actions actions e else e).serial ≡ e.serial
with_actions_serial true actions e = refl
with_actions_serial false actions e = refl

changed : (strict : Bool) (t : TableOf) (m : FlowMod) (now : ℕ) → IsMove t (modified strict t m now) []
changed strict t m now = by (list_any (is_meant strict (identity_in m)) t.entries)
  where
    change : Entry → Entry
    change e = if is_meant strict (identity_in m) e then with_actions m.actions e else e

    by : (b : Bool) → IsMove t (if b then record t { entries = map change t.entries } else with_entry t m now) []
    by true = kept t change (λ e. with_actions_serial (is_meant strict (identity_in m) e) m.actions e)
    by false = added t m now

-- entries that are listed by their numbers
found_serial : (s : ℕ) (e : Entry) (es : List Entry) → find (has_serial s) es ≡ Some e → s ≡ e.serial
found_serial s e [] f = absurd (cc f)
found_serial s e (x ∷ xs) f = by (has_serial s x) refl f (found_serial s e xs)
  where
    by : (b : Bool) → has_serial s x ≡ b → cond b (Some x) (find (has_serial s) xs) ≡ Some e
        → (find (has_serial s) xs ≡ Some e → s ≡ e.serial) → s ≡ e.serial
    by true t g r = let same : x ≡ e = cc g in eqb-true s x.serial t ∙ ap (λ (y : Entry). y.serial) same
    by false t g r = r g

listed_numbered : (k : ℕ) (es : List Entry) (serials : List ℕ)
    → numbered k (entries_of es serials) ≤ tally (λ s. k == s) serials
listed_numbered k es [] = omega arith
listed_numbered k es (s ∷ ss) = by (find (has_serial s) es) refl (listed_numbered k es ss)
  where
    by : (o : Option Entry) → find (has_serial s) es ≡ o
        → numbered k (entries_of es ss) ≤ tally (λ s. k == s) ss
        → numbered k (cons_option o (entries_of es ss)) ≤ one (k == s) + tally (λ s. k == s) ss
    by None f h = omega (arith, h)
    by (Some e) f h =
        let same : one (k == e.serial) ≡ one (k == s) = ap (λ (n : ℕ). one (k == n)) (sym (found_serial s e es f)) in
        omega (arith, h, same)

-- those that are left, and those that are listed by the numbers of the others
left_and_listed : (q : Entry → Bool) (k : ℕ) (es : List Entry) (serials : List ℕ)
    → tally (λ s. k == s) serials ≡ tally (λ s. k == s) (serials_of q es)
    → numbered k (filter (λ e. not (q e)) es) + numbered k (entries_of es serials) ≤ numbered k es
left_and_listed q k es serials h =
    let listed = listed_numbered k es serials in
    let of = tally_map (λ s. k == s) (λ (e : Entry). e.serial) (filter q es) in
    let parts = tally_parts (has_serial k) q es in
    omega (arith, listed, of, parts, h)

removed : (strict : Bool) (t : TableOf) (m : FlowMod)
    → IsMove t (deleted strict t m)
    (entries_of t.entries (serials_of (λ e. is_meant strict (identity_in m) e && outputs_to m.out_port e) t.entries))
removed strict t m =
    let q : Entry → Bool = λ e. is_meant strict (identity_in m) e && outputs_to m.out_port e in
    unmoved t (filter (λ e. not (q e)) t.entries) (entries_of t.entries (serials_of q t.entries))
    (λ k. left_and_listed q k t.entries (serials_of q t.entries) refl)

fewer : (strict : Bool) (t : TableOf) (m : FlowMod) → IsMove t (deleted strict t m) []
fewer strict t m =
    let q : Entry → Bool = λ e. not (is_meant strict (identity_in m) e && outputs_to m.out_port e) in
    unmoved t (filter q t.entries) [] (λ k. let h = tally_fewer (has_serial k) q t.entries in omega (arith, h))

-- the entries that a message removes
abbrev pub removed_of : FlowMod → TableOf → List Entry
removed_of m t = if is_delete m.command then entries_of t.entries (change_of t m 0).removed else []

no_delete : (o : Option Command) (t : TableOf) (m : FlowMod) (now : ℕ) → IsMove t (after_asked o t m now) []
no_delete None t m now = unmoved t t.entries [] (λ k. omega arith)
no_delete (Some Add) t m now = added t m now
no_delete (Some Modify) t m now = changed false t m now
no_delete (Some ModifyStrict) t m now = changed true t m now
no_delete (Some Delete) t m now = fewer false t m
no_delete (Some DeleteStrict) t m now = fewer true t m

deletes : (command : ℕ) → is_delete command ≡ true
    → (command_at command ≡ Some Delete) ⊎ (command_at command ≡ Some DeleteStrict)
deletes command e = by (command == 3) refl (command == 4) refl e
  where
    by : (a : Bool) → (command == 3) ≡ a → (b : Bool) → (command == 4) ≡ b → (a || b) ≡ true
        → (command_at command ≡ Some Delete) ⊎ (command_at command ≡ Some DeleteStrict)
    by true f b g t = inl (ap command_at (eqb-true command 3 f))
    by false f true g t = inr (ap command_at (eqb-true command 4 g))
    by false f false g t = absurd (true≢false (sym t))

pub message_moves : (t : TableOf) (m : FlowMod) (now : ℕ) → IsMove t (after t m now) (removed_of m t)
message_moves t m now = by (is_delete m.command) refl
  where
    by : (b : Bool) → is_delete m.command ≡ b
        → IsMove t (after t m now) (if b then entries_of t.entries (change_of t m 0).removed else [])
    by false e = no_delete (command_at m.command) t m now
    by true e = ⊎_elim
        (λ d. subst (λ (o : Option Command).
        IsMove t (after_asked o t m now) (entries_of t.entries (change_asked o t m 0).removed)) (sym d)
        (removed false t m))
        (λ d. subst (λ (o : Option Command).
        IsMove t (after_asked o t m now) (entries_of t.entries (change_asked o t m 0).removed)) (sym d)
        (removed true t m)) (deletes m.command e)

-- time and polls ----------------------------------------------------------------------------------------------------

inserted_numbered : (k n : ℕ) (ns : List ℕ)
    → tally (λ s. k == s) (inserted n ns) ≡ one (k == n) + tally (λ s. k == s) ns
inserted_numbered k n [] = refl
inserted_numbered k n (x ∷ xs) = by (nat_le n x) (inserted_numbered k n xs)
  where
    by : (b : Bool) → tally (λ s. k == s) (inserted n xs) ≡ one (k == n) + tally (λ s. k == s) xs
        → tally (λ s. k == s) (cond b (n ∷ x ∷ xs) (x ∷ inserted n xs))
        ≡ one (k == n) + (one (k == x) + tally (λ s. k == s) xs)
    by true h = refl
    by false h = omega (arith, h)

rising_numbered : (k : ℕ) (ns : List ℕ) → tally (λ s. k == s) (rising ns) ≡ tally (λ s. k == s) ns
rising_numbered k [] = refl
rising_numbered k (n ∷ ns) =
    inserted_numbered k n (rising ns) ∙ ap (λ (t : ℕ). one (k == n) + t) (rising_numbered k ns)

pub time_moves : (now : ℕ) (t : TableOf)
    → IsMove t (without_expired now t) (entries_of t.entries (rising_serials (is_hard_due now) t.entries))
time_moves now t =
    unmoved t (filter (λ e. not (is_hard_due now e)) t.entries)
    (entries_of t.entries (rising_serials (is_hard_due now) t.entries))
    (λ k. left_and_listed (is_hard_due now) k t.entries (rising_serials (is_hard_due now) t.entries)
    (rising_numbered k (serials_of (is_hard_due now) t.entries)))

found_numbered : (p q : Entry → Bool) (e : Entry) (es : List Entry) → find q es ≡ Some e
    → one (p e) ≤ tally p (filter q es)
found_numbered p q e [] f = absurd (cc f)
found_numbered p q e (x ∷ xs) f = by (q x) f (found_numbered p q e xs)
  where
    by : (b : Bool) → cond b (Some x) (find q xs) ≡ Some e → (find q xs ≡ Some e → one (p e) ≤ tally p (filter q xs))
        → one (p e) ≤ tally p (cond b (x ∷ filter q xs) (filter q xs))
    by true g r =
        let same : x ≡ e = cc g in
        let c : one (p x) ≡ one (p e) = ap (λ (y : Entry). one (p y)) same in
        omega (arith, c)
    by false g r = r g

pub idle_moves : (serial : ℕ) (t : TableOf) (e : Entry) → find (has_serial serial) t.entries ≡ Some e
    → IsMove t (table_without serial t) (e ∷ [])
idle_moves serial t e f =
    unmoved t (filter (λ d. not (has_serial serial d)) t.entries) (e ∷ [])
    (λ k.
    let there = found_numbered (has_serial k) (has_serial serial) e t.entries f in
    let parts = tally_parts (has_serial k) (has_serial serial) t.entries in
    omega (arith, there, parts))

touched_serial : (b : Bool) (now : ℕ) (e : Entry) → (if b then record e { last = now } else e).serial ≡ e.serial
touched_serial true now e = refl
touched_serial false now e = refl

pub touched_moves : (serial now : ℕ) (t : TableOf)
    → IsMove t (record t { entries = map (entry_touched serial now) t.entries }) []
touched_moves serial now t =
    kept t (entry_touched serial now) (λ e. touched_serial (has_serial serial e) now e)
