use Rattle.std.proofs.Common.{◌≡◌, refl, sym, ◌∙◌, subst, subst₂, Bool, take, List, take_all, Option, Some, None}
use Rattle.match_index.specs.Items.{IsTop, before}
use Rattle.match_index.specs.Questions.{asks}
use Rattle.match_index.specs.declared.item.Item.{Item}
use Rattle.match_index.proofs.Lists.{take_pushed}
use Rattle.match_index.proofs.Tops.{top_both, top_none, top_one}
use Rattle.match_index.proofs.search.top_among.Goals as goal
use Rattle.match_index.proofs.search.top_among.Goals.{then-asks, else-asks}

before_none : (a : Option Item) → before a None ≡ a
before_none None = refl
before_none (Some x) = refl

pub loop-item-init : goal.loop-item-init
loop-item-init c = refl

pub loop-item-preserved : goal.loop-item-preserved
loop-item-preserved c =
    let p : Item → Bool = asks c.args.question.now in
    let items = c.args.items.now in
    let x = c.item-item.result in
    let so_far = take c.loop-item.item-index items in
    let more = take_pushed items c.loop-item.item-index x c.loop-item-test.true c.item-item.is in
    let P : Option Item → List Item → Type 0 = λ o xs. IsTop p xs o in
    elim c.if-asks.branch [
      | then-asks w ↦
          subst₂ P (sym w.before-top.ensures ∙ sym w.top-is) (sym more)
          (top_both p so_far _ c.loop-item.top (Some x) c.loop-item.invariant
          (top_one p x (sym c.asks.ensures ∙ w.if-asks.true)))
      | else-asks w ↦
          subst₂ P (before_none c.loop-item.top ∙ sym w.top-is) (sym more)
          (top_both p so_far _ c.loop-item.top None c.loop-item.invariant
          (top_none p x (sym c.asks.ensures ∙ w.if-asks.false)))
    ]

pub returns : goal.returns
returns c =
    let P : List Item → Type 0 = λ xs. IsTop (asks c.args.question.now) xs c.loop-item.top in
    subst P (take_all c.loop-item.item-index c.args.items.now c.loop-item-test.false) c.loop-item.invariant
