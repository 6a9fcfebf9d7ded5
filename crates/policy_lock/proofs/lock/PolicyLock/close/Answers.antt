use Rattle.std.proofs.Common.{rules, ◌≡◌, ◌∷◌, ◌++◌, [], ◌∙◌, sym, ap, subst, append_assoc, arith, All}
use Rattle.policy_lock.proofs.Histories.{nothing}
use Rattle.policy_lock.proofs.Hears.{gathers}
use mathlib.Core.List.{append-nil}
use mathlib.Core.Option.{some-injective}
use Rattle.policy_lock.specs.Seat.{IsSeatOf}
use Rattle.policy_lock.specs.Close.{IsClosed}
use Rattle.policy_lock.proofs.Keeps.{opt_or}
use Rattle.policy_lock.proofs.Closes.{passes, all_tail, all_head, closes}
use Rattle.policy_lock.proofs.lock.PolicyLock.close.Goals as goal

pub loop-seat-init : goal.loop-seat-init
loop-seat-init g c = let seat = c.in-Some.first in let rest = c.pop_front.new.self.items in
    let eq : c.args.seats ≡ seat ∷ rest = search rules in let i = c.first.invariant in let p =
    ap (λ s. s.pass) c.first.view_is in
    let of = subst (All (λ s. s.lock ≡ c.args.self.id)) eq c.requires in (
      ap (λ s. s.lock) c.first.view_is ∙ all_head (λ s. s.lock ≡ c.args.self.id) seat rest of,
      i.0.0,
      i.0.1,
      ap passes eq ∙ (λ k. sym p k ∷ (sym (nothing _ i.0.2) k ++ passes rest)),
      all_tail (λ s. s.lock ≡ c.args.self.id) seat rest of,
    )

pub join_seat-requires : goal.join_seat-requires
join_seat-requires g c = let seat = c.in-Some-pop_front.seat in let rest = c.pop_front-in-loop-seat.new.self.items in
    let eq : c.loop-seat.queue.items ≡ seat ∷ rest = search rules in let i = c.seat.invariant in let inv =
    c.loop-seat.invariant in
    let of = subst (All (λ s. s.lock ≡ c.args.self.id)) eq inv.4 in let mine = ap (λ l. l.id) c.self.view_is in (
      inv.0 ∙ sym mine,
      ap (λ s. s.lock) c.seat.view_is ∙ (all_head (λ s. s.lock ≡ c.args.self.id) seat rest of ∙ sym mine),
      nothing c.seat.inside.token.me.1 i.0.3,
      search rules,
      gathers g.M.Machine _ _ _ _ _ i.0.0 i.0.1,
    )

pub loop-seat-preserved : goal.loop-seat-preserved
loop-seat-preserved g c = let seat = c.in-Some-pop_front.seat in let rest = c.pop_front-in-loop-seat.new.self.items in
    let eq : c.loop-seat.queue.items ≡ seat ∷ rest = search rules in let inv = c.loop-seat.invariant in
    let of = subst (All (λ s. s.lock ≡ c.args.self.id)) eq inv.4 in let p = ap (λ s. s.pass) c.seat.view_is in let k =
    c.loop-seat.keeper in let e = c.join_seat.ensures.2 in (
      c.join_seat.ensures.0 ∙ inv.0,
      ap (λ m. m.0.seated) e ∙ inv.1,
      ap (λ m. m.0.holds) e ∙ inv.2,
      inv.3 ∙ (ap (λ l. (k.me.0.pass ∷ k.me.0.gathered) ++ passes l) eq
          ∙ ((λ j. k.me.0.pass ∷ (k.me.0.gathered ++ (sym p j ∷ passes rest)))
          ∙ (sym (append_assoc (k.me.0.pass ∷ k.me.0.gathered) (c.seat.inside.token.me.0.pass ∷ []) (passes rest))
          ∙ ap (λ m. (m.0.pass ∷ m.0.gathered) ++ passes rest) (sym e)))),
      all_tail (λ s. s.lock ≡ c.args.self.id) seat rest of,
    )

pub take-requires : goal.take-requires
take-requires g c = let n = c.close_with-closed.ensures.counts.1 in let one = c.self.invariant.1 in
    (omega arith, c.close_with-closed.ensures.values.1 0 (omega arith) (omega arith))

pub unreachable-requires-in_default-take : goal.unreachable-requires-in_default-take
unreachable-requires-in_default-take g c = let mg = g.M.Machine in let k = c.loop-seat.keeper in let inv =
    c.loop-seat.invariant in
    let ended : c.loop-seat.queue.items ≡ [] = search rules in
    let are = inv.3 ∙ (ap (λ l. (k.me.0.pass ∷ k.me.0.gathered) ++ passes l) ended
    ∙ append-nil (k.me.0.pass ∷ k.me.0.gathered)) in
    let r = closes mg g.row.M-State.coded record {
      id = c.self.inside.table.shared.table_id;
      start = mg.meaning c.self.inside.table.shared.key.value;
    } _ _ _ k.me.0 c.args.seats c.close_with-closed.ensures.values.2
    inv.1 inv.2 are (search rules)
    (subst (λ l. All (λ s. s.lock ≡ l.id) c.args.seats) (sym c.self.view_is) c.requires) in
    c.in_default-take.not-Some r.0 (some-injective _ _ (sym c.take.ensures.value ∙ r.1))

pub returns-clause-closed : goal.returns-clause-closed
returns-clause-closed g c = let mg = g.M.Machine in let k = c.loop-seat.keeper in let inv = c.loop-seat.invariant in
    let ended : c.loop-seat.queue.items ≡ [] = search rules in
    let are = inv.3 ∙ (ap (λ l. (k.me.0.pass ∷ k.me.0.gathered) ++ passes l) ended
    ∙ append-nil (k.me.0.pass ∷ k.me.0.gathered)) in
    let r = closes mg g.row.M-State.coded record {
      id = c.self.inside.table.shared.table_id;
      start = mg.meaning c.self.inside.table.shared.key.value;
    } _ _ _ k.me.0 c.args.seats c.close_with-closed.ensures.values.2
    inv.1 inv.2 are (search rules)
    (subst (λ l. All (λ s. s.lock ≡ l.id) c.args.seats) (sym c.self.view_is) c.requires) in
    let x = ap (opt_or r.0) (some-injective _ _ (sym r.1 ∙ c.take.ensures.value) ∙ c.in-Some-take.is) in
    subst (λ q. IsClosed mg c.args.self.start c.args.seats q.machine) (sym c.into_inner-machine.ensures)
    (subst (λ l. IsClosed mg l.start c.args.seats c.in-Some-take.locked.boxed.value.machine) c.self.view_is
    (subst (λ z. IsClosed mg (mg.meaning c.self.inside.table.shared.key.value) c.args.seats z.boxed.value.machine) x
    r.2))

pub returns-clause-began : goal.returns-clause-began
returns-clause-began g c = let mg = g.M.Machine in let k = c.loop-seat.keeper in let inv = c.loop-seat.invariant in
    let ended : c.loop-seat.queue.items ≡ [] = search rules in
    let are = inv.3 ∙ (ap (λ l. (k.me.0.pass ∷ k.me.0.gathered) ++ passes l) ended
    ∙ append-nil (k.me.0.pass ∷ k.me.0.gathered)) in
    let r = closes mg g.row.M-State.coded record {
      id = c.self.inside.table.shared.table_id;
      start = mg.meaning c.self.inside.table.shared.key.value;
    } _ _ _ k.me.0 c.args.seats c.close_with-closed.ensures.values.2
    inv.1 inv.2 are (search rules)
    (subst (λ l. All (λ s. s.lock ≡ l.id) c.args.seats) (sym c.self.view_is) c.requires) in
    subst (λ l. All (IsSeatOf l) c.args.seats) c.self.view_is r.3
