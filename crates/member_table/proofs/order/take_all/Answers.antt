use Rattle.std.proofs.Common.{◌≡◌, ◌∙◌, ℕ, ◌<◌, ◌++◌, ◌∷◌, [], List, Bool, true, false, not, refl, sym, ap, length}
use Rattle.std.proofs.Common.{length-append, arith, true≢false, nat_eq}
use Rattle.indexmap.specs.IndexMap.{get}
use Rattle.member_table.specs.Entries.{same_identity}
use Rattle.member_table.proofs.Staying.{one_goes, one_stays, way_begins, way_ends}
use Rattle.member_table.proofs.order.take_all.Goals as goal

shorter : (xs ys : List ℕ) (s : ℕ) → xs ≡ ys ++ s ∷ [] → length ys < length xs
shorter xs ys s e = let l = ap length e ∙ length-append ys (s ∷ []) in omega (arith, l)

not_true : (b : Bool) → true ≡ not b → b ≡ false
not_true true e = e
not_true false e = refl

not_false : (b : Bool) → false ≡ not b → b ≡ true
not_false true e = refl
not_false false e = e

nil_of : (xs : List ℕ) → (0 < length xs → ⊥) → xs ≡ []
nil_of [] h = refl
nil_of (x ∷ xs) h = absurd (h (omega arith))

pub loop-serial-init : goal.loop-serial-init
loop-serial-init c = record {
  way = λ es i. way_begins _ _ c.args.serials c.args.place es i;
  entries_room = omega arith;
  numbers_room = omega arith;
}

pub loop-serial-smaller-then-ne : goal.loop-serial-smaller-then-ne
loop-serial-smaller-then-ne c = shorter c.loop-serial.serials c.pop.new.self c.in-Some.serial c.in-Some.ensures.items

pub loop-serial-preserved-then-ne : goal.loop-serial-preserved-then-ne
loop-serial-preserved-then-ne c = record {
  way = λ es i. one_goes (get nat_eq c.loop-serial.entries) (get nat_eq c.take_one.new.entries)
      (get same_identity c.loop-serial.numbers) (get same_identity c.take_one.new.numbers)
      c.loop-serial.serials c.pop.new.self c.args.serials c.in-Some.serial c.args.place es c.in-Some.ensures.items
      (not_true _ c.if-ne.ensures) c.take_one.ensures.indexed (c.loop-serial.invariant.way es i);
  entries_room = (let a = c.loop-serial.invariant.entries_room in let b = c.take_one.ensures.entries_room in
      omega arith);
  numbers_room = (let a = c.loop-serial.invariant.numbers_room in let b = c.take_one.ensures.numbers_room in
      omega arith);
}

pub loop-serial-smaller : goal.loop-serial-smaller
loop-serial-smaller c = shorter c.loop-serial.serials c.pop.new.self c.in-Some.serial c.in-Some.ensures.items

pub loop-serial-preserved : goal.loop-serial-preserved
loop-serial-preserved c = record {
  way = λ es i. one_stays (get nat_eq c.loop-serial.entries) (get same_identity c.loop-serial.numbers)
      c.loop-serial.serials c.pop.new.self c.args.serials c.in-Some.serial c.args.place es c.in-Some.ensures.items
      (not_false _ c.if-ne.ensures) (c.loop-serial.invariant.way es i);
  entries_room = c.loop-serial.invariant.entries_room;
  numbers_room = c.loop-serial.invariant.numbers_room;
}

pub returns-clause-indexed : goal.returns-clause-indexed
returns-clause-indexed c = λ es i.
    let none = nil_of c.loop-serial.serials (λ h. true≢false (sym (c.in_default.ensures.there.1 h))) in
    way_ends (get nat_eq c.loop-serial.entries) (get same_identity c.loop-serial.numbers) c.loop-serial.serials
    c.args.serials c.args.place es none (c.loop-serial.invariant.way es i)
