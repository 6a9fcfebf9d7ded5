use Rattle.std.proofs.Common.{◌≡◌, ◌∙◌, ◌+◌, ◌++◌, ◌∷◌, [], sym, ap, ap₂, subst, refl, cond, Some, List, arith}
use Rattle.std.proofs.Common.{OnOk, IfOk, Result, Ok}
use Rattle.std.specs.BTreeMap.{insert_entry}
use Rattle.std.specs.List.{list_any}
use Rattle.std.specs.Map.{lookup}
use Rattle.std.specs.Ordering.{nat_cmp}
use Rattle.indexmap.specs.IndexMap.{get}
use Rattle.match_index.specs.Items.{has_id}
use Rattle.match_index.specs.declared.item.Item.{Item}
use Rattle.soft_net.specs.Entries.{key_of, same_key}
use Rattle.soft_net.specs.InsideTables.{entries_in}
use Rattle.soft_net.specs.Tables.{TableOf, with_entry}
use Rattle.soft_net.specs.declared.entry.Key.{Key}
use Rattle.soft_net.specs.declared.entry.SoftEntry.{SoftEntry}
use Rattle.soft_net.proofs.Putting.{fresh, kept_moved, put_kept}
use Rattle.soft_net.proofs.table.Table.put.Goals as goal

-- what stands after a success
put_by : {X E : Type 0} (r : Result X E) (x : X) → r ≡ Ok x → (P : Type 0) → OnOk r P → P
put_by r x e P h = let Q : Result _ _ → Type 0 = λ o. OnOk o P in subst Q e h

pub invariant_of-self-in_err-reserve-2 : goal.invariant_of-self-in_err-reserve-2
invariant_of-self-in_err-reserve-2 c =
    kept_moved c.self.inside.entries.entries c.self.inside.entries.entries c.self.inside.keys.entries
    c.reserve-2.new.self.entries c.self.inside.index.items c.reserve.new.self.items c.self.inside.next refl
    c.reserve-2.ensures.entries c.reserve.ensures.items c.self.invariant

pub invariant_of-self-in_err-insert : goal.invariant_of-self-in_err-insert
invariant_of-self-in_err-insert c =
    kept_moved c.self.inside.entries.entries c.insert.new.self.entries c.self.inside.keys.entries
    c.reserve-2.new.self.entries c.self.inside.index.items c.reserve.new.self.items c.self.inside.next
    c.in_err-insert.ensures.err c.reserve-2.ensures.entries c.reserve.ensures.items c.self.invariant

pub put-requires-clause-new_id : goal.put-requires-clause-new_id
put-requires-clause-new_id c =
    let serial : c.item-item.result.id ≡ c.self.inside.next = ap (λ (x : Item). x.id) c.item-item.ensures
    ∙ (c.requires.serial ∙ sym (ap (λ (o : TableOf). o.next) c.self.view_is)) in
    ap (λ n. list_any (has_id n) c.reserve.new.self.items) serial
    ∙ (ap (list_any (has_id c.self.inside.next)) c.reserve.ensures.items
    ∙ fresh c.self.inside.next c.self.inside.index.items (entries_in c.self.inside.entries.entries)
    c.self.invariant.listing.ranked c.self.invariant.listing.below)

pub overflow_add-self : goal.overflow_add-self
overflow_add-self c =
    let n = ap (λ (o : TableOf). o.next) c.self.view_is in
    let m = c.requires.next in
    omega (arith, n, m)

pub invariant_of-self-2 : goal.invariant_of-self-2
invariant_of-self-2 c =
    let new = c.args.entry in
    let next = c.self.inside.next in
    let pairs = c.self.inside.entries.entries in
    let keys = c.self.inside.keys in
    let serial : new.serial ≡ next = c.requires.serial ∙ sym (ap (λ (o : TableOf). o.next) c.self.view_is) in
    let id : c.item-item.result.id ≡ next = ap (λ (x : Item). x.id) c.item-item.ensures ∙ serial in
    let Old : Result _ _
    → Type 0 = λ r. IfOk r (λ old. old ≡ get same_key c.reserve-2.new.self c.key-key.result) in
    let was = subst Old c.unwrap-replaced.ensures c.insert-2.ensures.old
    ∙ (ap (λ ps. lookup (same_key c.key-key.result) ps) c.reserve-2.ensures.entries
    ∙ ap (λ (q : Key). lookup (same_key q) keys.entries) c.key-key.ensures) in
    let set = put_by c.insert-2.result c.unwrap-replaced.result c.unwrap-replaced.ensures _ c.insert-2.ensures.updates in
    (put_kept new pairs c.insert.new.self.entries c.drop_old.new.entries.entries (get same_key keys)
    (get same_key c.insert-2.new.self) c.self.inside.index.items c.put.new.self.items c.drop_old.new.index.items next
    c.self.invariant serial c.unwrap-replaced.result c.requires.written
    (c.in_ok-insert.ensures.entries ∙ ap (λ n. insert_entry nat_cmp pairs n new) id)
    (c.put.ensures.items ∙ ap₂ (λ xs (x : Item). xs ++ x ∷ []) c.reserve.ensures.items c.item-item.ensures) was
    (λ q. set.0 q ∙ (ap₂ (λ (k : Key) n. cond (same_key k q) (Some n) (get same_key c.reserve-2.new.self q))
    c.key-key.ensures id
    ∙ ap (λ ps. cond (same_key (key_of new) q) (Some next) (lookup (same_key q) ps)) c.reserve-2.ensures.entries))
    c.drop_old.ensures.entries c.drop_old.ensures.items).0

pub returns-clause-put : goal.returns-clause-put
returns-clause-put c =
    let new = c.args.entry in
    let next = c.self.inside.next in
    let pairs = c.self.inside.entries.entries in
    let keys = c.self.inside.keys in
    let serial : new.serial ≡ next = c.requires.serial ∙ sym (ap (λ (o : TableOf). o.next) c.self.view_is) in
    let id : c.item-item.result.id ≡ next = ap (λ (x : Item). x.id) c.item-item.ensures ∙ serial in
    let Old : Result _ _
    → Type 0 = λ r. IfOk r (λ old. old ≡ get same_key c.reserve-2.new.self c.key-key.result) in
    let was = subst Old c.unwrap-replaced.ensures c.insert-2.ensures.old
    ∙ (ap (λ ps. lookup (same_key c.key-key.result) ps) c.reserve-2.ensures.entries
    ∙ ap (λ (q : Key). lookup (same_key q) keys.entries) c.key-key.ensures) in
    let set = put_by c.insert-2.result c.unwrap-replaced.result c.unwrap-replaced.ensures _ c.insert-2.ensures.updates in
    let r = put_kept new pairs c.insert.new.self.entries c.drop_old.new.entries.entries (get same_key keys)
    (get same_key c.insert-2.new.self) c.self.inside.index.items c.put.new.self.items c.drop_old.new.index.items next
    c.self.invariant serial c.unwrap-replaced.result c.requires.written
    (c.in_ok-insert.ensures.entries ∙ ap (λ n. insert_entry nat_cmp pairs n new) id)
    (c.put.ensures.items ∙ ap₂ (λ xs (x : Item). xs ++ x ∷ []) c.reserve.ensures.items c.item-item.ensures) was
    (λ q. set.0 q ∙ (ap₂ (λ (k : Key) n. cond (same_key k q) (Some n) (get same_key c.reserve-2.new.self q))
    c.key-key.ensures id
    ∙ ap (λ ps. cond (same_key (key_of new) q) (Some next) (lookup (same_key q) ps)) c.reserve-2.ensures.entries))
    c.drop_old.ensures.entries c.drop_old.ensures.items in
    let V : List SoftEntry → TableOf = λ xs. record { entries = xs; next = next + 1 } in
    ap V r.1 ∙ ap (λ (o : TableOf). with_entry o new) c.self.view_is
