use Rattle.std.proofs.Common.{◌≡◌, ◌∙◌, ap, subst, find, nat_eq, OnOk, IfOk, Result, Ok}
use Rattle.std.specs.List.{list_any}
use Rattle.std.specs.Option.{option_and_then}
use Rattle.indexmap.specs.IndexMap.{get}
use Rattle.member_table.specs.Entries.{has_serial, identity_of, is_at, put, same_identity}
use Rattle.member_table.specs.InsideOrders.{IsInStep, listed}
use Rattle.member_table.proofs.Indexed.{in_step_put, replaced_is}
use Rattle.member_table.proofs.order.Order.put.Goals as goal

-- what stands after a success
put_by : {X E : Type 0} (r : Result X E) (x : X) → r ≡ Ok x → (P : Type 0) → OnOk r P → P
put_by r x e P h = let Q : Result _ _ → Type 0 = λ o. OnOk o P in subst Q e h

replaced : (c : goal.Joined-unwrap)
    → c.unwrap-replaced.result ≡ get same_identity c.self.inside.numbers c.identity.result
replaced c = let Old : Result _ _
    → Type 0 = λ r. IfOk r (λ old. old ≡ get same_identity c.self.inside.numbers c.identity.result) in
    subst Old c.unwrap-replaced.ensures c.insert.ensures.old

put_in : (c : goal.Joined-unwrap)
    → IsInStep c.number.new.serials.items (get nat_eq c.insert-2.new.self) (get same_identity c.insert.new.self)
    × (listed (get nat_eq c.insert-2.new.self) c.number.new.serials.items
    ≡ put c.args.entry (listed (get nat_eq c.self.inside.entries) c.self.inside.serials.items))
put_in c =
    in_step_put c.self.inside.serials.items _ (get nat_eq c.self.inside.entries) (get nat_eq c.take-old.new.entries) _
    (get same_identity c.self.inside.numbers) _ c.args.entry c.identity.result c.unwrap-replaced.result
    c.self.invariant c.identity.ensures (ap (λ o. list_any (has_serial c.args.entry.serial) o.entries) c.self.view_is
    ∙ c.requires.serial) (replaced c) c.take-old.ensures.others
    (put_by c.insert-2.result c.unwrap.result c.unwrap.ensures _ c.insert-2.ensures.updates).0
    (put_by c.insert.result c.unwrap-replaced.result c.unwrap-replaced.ensures _ c.insert.ensures.updates).0
    c.number.ensures.numbers

pub invariant_of-self : goal.invariant_of-self
invariant_of-self c = (put_in c).0

pub returns-clause-entries : goal.returns-clause-entries
returns-clause-entries c = (put_in c).1 ∙ ap (λ o. put c.args.entry o.entries) c.self.view_is

pub returns-clause-replaced : goal.returns-clause-replaced
returns-clause-replaced c =
    c.take-old.ensures.taken ∙ (ap (option_and_then (get nat_eq c.self.inside.entries)) (replaced c)
    ∙ (replaced_is c.self.inside.serials.items (get nat_eq c.self.inside.entries)
    (get same_identity c.self.inside.numbers) c.identity.result c.self.invariant
    ∙ (ap (λ k. find (is_at k) (listed (get nat_eq c.self.inside.entries) c.self.inside.serials.items))
    c.identity.ensures ∙ ap (λ o. find (is_at (identity_of c.args.entry)) o.entries) c.self.view_is)))
