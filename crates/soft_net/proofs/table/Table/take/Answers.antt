use Rattle.std.proofs.Common.{◌≡◌, ◌∙◌, sym, ap, refl, find, not, cond, true, false, None, List}
use Rattle.std.specs.BTreeMap.{is_at}
use Rattle.std.specs.Map.{lookup}
use Rattle.std.specs.Ordering.{nat_cmp}
use Rattle.indexmap.specs.IndexMap.{get}
use Rattle.soft_net.specs.Entries.{has_serial, same_key}
use Rattle.soft_net.specs.InsideTables.{entries_in}
use Rattle.soft_net.specs.Tables.{TableOf, without}
use Rattle.soft_net.specs.declared.entry.Key.{Key}
use Rattle.soft_net.specs.declared.entry.SoftEntry.{SoftEntry}
use Rattle.soft_net.proofs.Keeping.{found_none}
use Rattle.soft_net.proofs.Listing.{all_map, filter_all, lookup_under}
use Rattle.soft_net.proofs.Putting.{kept_moved, take_kept}
use Rattle.soft_net.proofs.table.Table.take.Goals as goal

pub invariant_of-self : goal.invariant_of-self
invariant_of-self c =
    let s = c.args.serial in
    let pairs = c.self.inside.entries.entries in
    let found = sym (c.in-Some.ensures.value ∙ (ap (lookup (is_at (nat_cmp s))) c.self.invariant.listing.listed
    ∙ lookup_under s (entries_in pairs))) in
    (take_kept s pairs c.remove.new.self.entries (get same_key c.self.inside.keys)
    (get same_key c.swap_remove.new.self) c.self.inside.index.items c.remove-in-Some.new.self.items c.self.inside.next
    c.in-Some.entry c.self.invariant found c.in-Some.ensures.entries c.remove-in-Some.ensures.items
    (λ q. c.swap_remove.ensures.updates.0 q
    ∙ ap (λ (k : Key). cond (same_key k q) None (get same_key c.self.inside.keys q)) c.key.ensures)).0

pub returns-in-Some-clause-table : goal.returns-in-Some-clause-table
returns-in-Some-clause-table c =
    let s = c.args.serial in
    let pairs = c.self.inside.entries.entries in
    let found = sym (c.in-Some.ensures.value ∙ (ap (lookup (is_at (nat_cmp s))) c.self.invariant.listing.listed
    ∙ lookup_under s (entries_in pairs))) in
    let r = take_kept s pairs c.remove.new.self.entries (get same_key c.self.inside.keys)
    (get same_key c.swap_remove.new.self) c.self.inside.index.items c.remove-in-Some.new.self.items c.self.inside.next
    c.in-Some.entry c.self.invariant found c.in-Some.ensures.entries c.remove-in-Some.ensures.items
    (λ q. c.swap_remove.ensures.updates.0 q
    ∙ ap (λ (k : Key). cond (same_key k q) None (get same_key c.self.inside.keys q)) c.key.ensures) in
    let V : List SoftEntry → TableOf = λ xs. record { entries = xs; next = c.self.inside.next } in
    ap V r.1 ∙ ap (λ (o : TableOf). without s o) c.self.view_is

pub returns-in-Some-clause-entry : goal.returns-in-Some-clause-entry
returns-in-Some-clause-entry c =
    let s = c.args.serial in
    c.in-Some.ensures.value ∙ (ap (lookup (is_at (nat_cmp s))) c.self.invariant.listing.listed
    ∙ (lookup_under s (entries_in c.self.inside.entries.entries)
    ∙ ap (λ (o : TableOf). find (has_serial s) o.entries) c.self.view_is))

pub invariant_of-self-in-None : goal.invariant_of-self-in-None
invariant_of-self-in-None c =
    kept_moved c.self.inside.entries.entries c.remove.new.self.entries c.self.inside.keys.entries
    c.self.inside.keys.entries c.self.inside.index.items c.self.inside.index.items c.self.inside.next
    c.in-None.ensures.unchanged refl refl c.self.invariant

pub returns-in-None-clause-table : goal.returns-in-None-clause-table
returns-in-None-clause-table c =
    let s = c.args.serial in
    let es = entries_in c.self.inside.entries.entries in
    let none = sym (c.in-None.ensures.value ∙ (ap (lookup (is_at (nat_cmp s))) c.self.invariant.listing.listed
    ∙ lookup_under s es)) in
    let V : List SoftEntry → TableOf = λ xs. record { entries = xs; next = c.self.inside.next } in
    ap V (ap entries_in c.in-None.ensures.unchanged
    ∙ sym (filter_all (λ d. not (has_serial s d)) es
    (all_map (λ d. has_serial s d ≡ false) (λ d. not (has_serial s d) ≡ true) es (λ d f. ap not f)
    (found_none (has_serial s) es none)))) ∙ ap (λ (o : TableOf). without s o) c.self.view_is

pub returns-in-None-clause-entry : goal.returns-in-None-clause-entry
returns-in-None-clause-entry c =
    let s = c.args.serial in
    c.in-None.ensures.value ∙ (ap (lookup (is_at (nat_cmp s))) c.self.invariant.listing.listed
    ∙ (lookup_under s (entries_in c.self.inside.entries.entries)
    ∙ ap (λ (o : TableOf). find (has_serial s) o.entries) c.self.view_is))
