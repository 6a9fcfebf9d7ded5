use Rattle.std.proofs.Common.{◌≡◌, ◌∙◌, ◌<◌, ◌++◌, ◌∷◌, [], List, refl, sym, ap, subst, length, length-append, arith}
use Rattle.std.proofs.Common.{true≢false}
use Rattle.std.specs.List.{AllByRecursion}
use Rattle.member_table.specs.Changes.{IsInRange}
use Rattle.member_table.specs.declared.change.Modified.{Modified}
use Rattle.member_table.proofs.Changing.{all_front, altered, unaltered, altered_pushed}
use Rattle.member_table.proofs.table.Table.modify_all.Goals as goal

shorter : (xs ys : List Modified) (m : Modified) → xs ≡ ys ++ m ∷ [] → length ys < length xs
shorter xs ys m e = let l = ap length e ∙ length-append ys (m ∷ []) in omega (arith, l)

shorter_in_range : (xs ys : List Modified) (m : Modified) → xs ≡ ys ++ m ∷ [] → AllByRecursion IsInRange xs
    → AllByRecursion IsInRange ys × IsInRange m
shorter_in_range xs ys m e a = let P : List Modified
    → Type 0 = AllByRecursion IsInRange in all_front IsInRange ys m (subst P e a)

pub modify-requires : goal.modify-requires
modify-requires c =
    (shorter_in_range c.loop-one.modified c.pop.new.self c.in-Some.one c.in-Some.ensures.items
    c.loop-one.invariant.modified).1

nil_of : (xs : List Modified) → (0 < length xs → ⊥) → xs ≡ []
nil_of [] h = refl
nil_of (x ∷ xs) h = absurd (h (omega arith))

pub loop-one-init : goal.loop-one-init
loop-one-init c = record { modified = c.requires; table = refl; room = refl }

pub loop-one-smaller : goal.loop-one-smaller
loop-one-smaller c = shorter c.loop-one.modified c.pop.new.self c.in-Some.one c.in-Some.ensures.items

pub loop-one-preserved : goal.loop-one-preserved
loop-one-preserved c = record {
  modified =
      (shorter_in_range c.loop-one.modified c.pop.new.self c.in-Some.one c.in-Some.ensures.items
      c.loop-one.invariant.modified).0;
  table =
      (let t = c.loop-one.self.table in
      ap (altered c.pop.new.self) c.modify.ensures.table
      ∙ (ap (λ es. record t { entries = es }) (altered_pushed c.pop.new.self c.in-Some.one t.entries)
      ∙ (ap (λ ms. altered ms t) (sym c.in-Some.ensures.items) ∙ c.loop-one.invariant.table)));
  room = c.modify.ensures.room ∙ c.loop-one.invariant.room;
}

pub returns-clause-table : goal.returns-clause-table
returns-clause-table c =
    let none = nil_of c.loop-one.modified (λ h. true≢false (sym (c.in_default.ensures.there.1 h))) in
    sym (ap (λ ms. altered ms c.loop-one.self.table) none
    ∙ ap (λ es. record c.loop-one.self.table { entries = es }) (unaltered c.loop-one.self.table.entries))
    ∙ c.loop-one.invariant.table

pub returns-clause-room : goal.returns-clause-room
returns-clause-room c = c.loop-one.invariant.room
