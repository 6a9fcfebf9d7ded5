use Rattle.std.proofs.Common.{◌≡◌, ◌∙◌, ℕ, ◌≤◌, ◌<◌, ◌&&◌, Bool, true, false, not, sym, ap, refl, length, is_some, Some}
use Rattle.std.proofs.Common.{None, if◌then◌else◌, nat_le, le-leb, leb-true, arith}
use Rattle.std.specs.List.{list_any}
use Rattle.member_table.specs.Entries.{is_at}
use Rattle.member_table.specs.Refusals.{overlapped, refusal_by, refusal_of}
use Rattle.member_table.specs.Tables.{TableOf}
use Rattle.member_table.specs.declared.entry.Identity.{Identity}
use Rattle.member_table.specs.declared.fault.TableFault.TheVariants.{Entries}
use Rattle.match_index.proofs.Counts.{same_any}
use Rattle.member_table.proofs.Kept.{table_of}
use Rattle.member_table.proofs.Lists.{any_find}
use Rattle.member_table.proofs.Plans.{in_way_is}
use Rattle.member_table.proofs.table.Table.admit.Goals as goal

by_parts : (k : Identity) (t : TableOf) (b : Bool) → overlapped k t.entries ≡ None → list_any (is_at k) t.entries ≡ b
    → refusal_of k t ≡ (if nat_le t.limit (length t.entries) && not b then Some (Entries t.limit) else None)
by_parts k t b e f = ap (λ o. refusal_by o k t) e
    ∙ ap (λ c. if nat_le t.limit (length t.entries) && not c then Some (Entries t.limit) else None) f

replaces : (a : Bool) (t : TableOf) → (if a && false then Some (Entries t.limit) else None) ≡ None
replaces true t = refl
replaces false t = refl

filled : (a : Bool) (t : TableOf) → a ≡ true
    → (if a && true then Some (Entries t.limit) else None) ≡ Some (Entries t.limit)
filled a t e = ap (λ b. if b && true then Some (Entries t.limit) else None) e

unfilled : (a : Bool) (t : TableOf) → a ≡ false → (if a && true then Some (Entries t.limit) else None) ≡ None
unfilled a t e = ap (λ b. if b && true then Some (Entries t.limit) else None) e

lt-leb : (a n : ℕ) → n < a → nat_le a n ≡ false
lt-leb a n h = by (nat_le a n) refl
  where
    by : (b : Bool) → nat_le a n ≡ b → nat_le a n ≡ false
    by true t = let l = leb-true a n t in absurd (omega arith)
    by false t = t

pub returns-in-Some-clause-refused : goal.returns-in-Some-clause-refused
returns-in-Some-clause-refused c =
    let k = c.args.asked.now in
    let t = table_of c.self.inside.order.entries c.self.inside.next c.self.inside.limit in
    let over = in_way_is k t.entries c.self.inside.ranks.items (same_any _ _ c.self.invariant.ranked) c.in_way.result
    c.in_way.ensures ∙ c.in-Some.is in
    ap (λ h. refusal_of k h.table) (sym c.self.view_is) ∙ ap (λ o. refusal_by o k t) over

pub returns-in-Some-identical-clause-admitted : goal.returns-in-Some-identical-clause-admitted
returns-in-Some-identical-clause-admitted c =
    let k = c.args.asked.now in
    let t = table_of c.self.inside.order.entries c.self.inside.next c.self.inside.limit in
    let over = in_way_is k t.entries c.self.inside.ranks.items (same_any _ _ c.self.invariant.ranked) c.in_way.result
    c.in_way.ensures ∙ c.in_default.is in
    let there = any_find (is_at k) t.entries ∙ ap is_some (sym c.in-Some-identical.ensures) in
    ap (λ h. refusal_of k h.table) (sym c.self.view_is)
    ∙ (by_parts k t true over there ∙ replaces (nat_le t.limit (length t.entries)) t)

pub returns-in-None-clause-refused : goal.returns-in-None-clause-refused
returns-in-None-clause-refused c =
    let k = c.args.asked.now in
    let t = table_of c.self.inside.order.entries c.self.inside.next c.self.inside.limit in
    let over = in_way_is k t.entries c.self.inside.ranks.items (same_any _ _ c.self.invariant.ranked) c.in_way.result
    c.in_way.ensures ∙ c.in_default.is in
    let there = any_find (is_at k) t.entries ∙ ap is_some (sym c.in-None.ensures) in
    let most : t.limit ≤ length t.entries = omega arith in
    ap (λ h. refusal_of k h.table) (sym c.self.view_is)
    ∙ (by_parts k t false over there
    ∙ filled (nat_le t.limit (length t.entries)) t (le-leb t.limit (length t.entries) most))

pub returns-in-None-2-clause-admitted : goal.returns-in-None-2-clause-admitted
returns-in-None-2-clause-admitted c =
    let k = c.args.asked.now in
    let t = table_of c.self.inside.order.entries c.self.inside.next c.self.inside.limit in
    let over = in_way_is k t.entries c.self.inside.ranks.items (same_any _ _ c.self.invariant.ranked) c.in_way.result
    c.in_way.ensures ∙ c.in_default.is in
    let there = any_find (is_at k) t.entries ∙ ap is_some (sym c.in-None.ensures) in
    let fewer : length t.entries < t.limit = omega arith in
    ap (λ h. refusal_of k h.table) (sym c.self.view_is)
    ∙ (by_parts k t false over there
    ∙ unfilled (nat_le t.limit (length t.entries)) t (lt-leb t.limit (length t.entries) fewer))
