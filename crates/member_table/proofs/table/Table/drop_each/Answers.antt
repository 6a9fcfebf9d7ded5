use Rattle.std.proofs.Common.{◌≡◌, ◌∙◌, ℕ, ◌<◌, ◌++◌, ◌∷◌, [], List, Bool, true, false, not, refl, sym, ap, length}
use Rattle.std.proofs.Common.{length-append, arith, true≢false}
use Rattle.member_table.proofs.Changing.{emptied, all_stay, stays_dropped, stays_kept}
use Rattle.member_table.proofs.table.Table.drop_each.Goals as goal

shorter : (xs ys : List ℕ) (s : ℕ) → xs ≡ ys ++ s ∷ [] → length ys < length xs
shorter xs ys s e = let l = ap length e ∙ length-append ys (s ∷ []) in omega (arith, l)

not_true : (b : Bool) → true ≡ not b → b ≡ false
not_true true e = e
not_true false e = refl

not_false : (b : Bool) → false ≡ not b → b ≡ true
not_false true e = refl
not_false false e = e

nil_of : (xs : List ℕ) → (0 < length xs → ⊥) → xs ≡ []
nil_of [] h = refl
nil_of (x ∷ xs) h = absurd (h (omega arith))

pub loop-serial-init : goal.loop-serial-init
loop-serial-init c = record { table = refl; room = refl }

pub loop-serial-smaller-then-ne : goal.loop-serial-smaller-then-ne
loop-serial-smaller-then-ne c = shorter c.loop-serial.serials c.pop.new.self c.in-Some.serial c.in-Some.ensures.items

pub loop-serial-preserved-then-ne : goal.loop-serial-preserved-then-ne
loop-serial-preserved-then-ne c = record {
  table =
      (let step = stays_dropped c.pop.new.self c.in-Some.serial c.args.place c.loop-serial.self.table.entries
      (not_true _ c.if-ne.ensures) in
      ap (emptied c.pop.new.self c.args.place) c.drop_serial.ensures.table
      ∙ (ap (λ es. record c.loop-serial.self.table { entries = es }) step
      ∙ (ap (λ ss. emptied ss c.args.place c.loop-serial.self.table) (sym c.in-Some.ensures.items)
      ∙ c.loop-serial.invariant.table)));
  room = c.drop_serial.ensures.room ∙ c.loop-serial.invariant.room;
}

pub loop-serial-smaller : goal.loop-serial-smaller
loop-serial-smaller c = shorter c.loop-serial.serials c.pop.new.self c.in-Some.serial c.in-Some.ensures.items

pub loop-serial-preserved : goal.loop-serial-preserved
loop-serial-preserved c = record {
  table =
      (let step = stays_kept c.pop.new.self c.in-Some.serial c.args.place c.loop-serial.self.table.entries
      (not_false _ c.if-ne.ensures) in
      ap (λ es. record c.loop-serial.self.table { entries = es }) step
      ∙ (ap (λ ss. emptied ss c.args.place c.loop-serial.self.table) (sym c.in-Some.ensures.items)
      ∙ c.loop-serial.invariant.table));
  room = c.loop-serial.invariant.room;
}

pub returns-clause-table : goal.returns-clause-table
returns-clause-table c =
    let none = nil_of c.loop-serial.serials (λ h. true≢false (sym (c.in_default.ensures.there.1 h))) in
    sym (ap (λ ss. emptied ss c.args.place c.loop-serial.self.table) none
    ∙ ap (λ es. record c.loop-serial.self.table { entries = es })
    (all_stay c.args.place c.loop-serial.self.table.entries)) ∙ c.loop-serial.invariant.table

pub returns-clause-room : goal.returns-clause-room
returns-clause-room c = c.loop-serial.invariant.room
