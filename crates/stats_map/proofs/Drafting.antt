-- What is drawn changes nothing.
use Rattle.std.proofs.Common.{◌≡◌, List, sym, ap, subst, ◌∙◌}
use Rattle.std.specs.Prelude.{Some}
use Rattle.cv_io.specs.Leaves.{leaf_cmp}
use Rattle.cv_io.specs.declared.leaf.Leaf.{Leaf}
use Rattle.switch_meaning.specs.Counts.{Cookie}
use Rattle.stats_map.specs.Counting.{Cookies, Place, place_cmp}
use Rattle.stats_map.specs.Overlay.{IsLaid, NamesAreDrawn, now_of}
use Rattle.stats_map.specs.Slots.{AreDrawn, IsSameBut, slot_or, value_at}
use Rattle.stats_map.specs.Pending.{HaveSlots, IsOrdered, IsSummed, LeavesHaveSlots, PlaceSlots, laid}
use Rattle.stats_map.specs.Told.{HeldOf}
use Rattle.stats_map.specs.declared.overlay.Overlay.{Overlay}
use Rattle.stats_map.proofs.Drawing.{same-drawn}
use Rattle.stats_map.proofs.Laying.{drawn-all-have, laid-drawn, place-have}
use Rattle.stats_map.proofs.Rows.{place_total}
use Rattle.stats_map.proofs.SlotSums.{leaf_total}

pub laid-again : (o o' : Overlay) → o'.base.now ≡ o.base.now → now_of o' ≡ now_of o
    → LeavesHaveSlots o'.live.entries o'.sums.entries → IsLaid o → IsLaid o'
laid-again o o' e same have was =
    record {
      ordered = subst IsOrdered (sym e) was.ordered;
      summed = subst IsSummed (sym same) was.summed;
      slots = have;
    }

-- leaves are drawn
module _ (o o' : Overlay) (was : IsLaid o) (e : o'.base.now ≡ o.base.now) (l : o'.live.entries ≡ o.live.entries)
    (drawn : AreDrawn leaf_cmp o.base.now.sums o.sums.entries o'.sums.entries) where
  pub named-same : now_of o' ≡ now_of o
  named-same =
      ap (λ (h : HeldOf). laid o'.live.entries o'.sums.entries h) e
      ∙ (ap (λ (places : PlaceSlots). laid places o'.sums.entries o.base.now) l
      ∙ laid-drawn o.base.now was.ordered.places was.ordered.leaves o.live.entries o.live.entries o.sums.entries
      o'.sums.entries (same-drawn place_total o.base.now.live o.live.entries) drawn)

  pub named-laid : IsLaid o'
  named-laid =
      laid-again o o' e named-same
      (subst (λ (places : PlaceSlots). LeavesHaveSlots places o'.sums.entries) (sym l)
      (drawn-all-have o.base.now.sums o.live.entries o.sums.entries o'.sums.entries drawn was.slots)) was

-- and a place
module _ (o o' : Overlay) (place : Place) (was : IsLaid o) (e : o'.base.now ≡ o.base.now)
    (s : o'.sums.entries ≡ o.sums.entries) (base : Cookies) (b : base ≡ o.base.now.live)
    (drawn : AreDrawn place_cmp base o.live.entries o'.live.entries)
    (but : IsSameBut place_cmp place o.live.entries o'.live.entries) (named : NamesAreDrawn place o) where
  drawn-base : AreDrawn place_cmp o.base.now.live o.live.entries o'.live.entries
  drawn-base = subst (λ (cookies : Cookies). AreDrawn place_cmp cookies o.live.entries o'.live.entries) b drawn

  pub place-same : now_of o' ≡ now_of o
  place-same =
      ap (λ (h : HeldOf). laid o'.live.entries o'.sums.entries h) e
      ∙ (ap (λ leaves. laid o'.live.entries leaves o.base.now) s
      ∙ laid-drawn o.base.now was.ordered.places was.ordered.leaves o.live.entries o'.live.entries o.sums.entries
      o.sums.entries drawn-base (same-drawn leaf_total o.base.now.sums o.sums.entries))

  pub place-laid : IsLaid o'
  place-laid =
      laid-again o o' e place-same
      (subst (λ leaves. LeavesHaveSlots o'.live.entries leaves) (sym s)
      (place-have o.base.now.live was.ordered.places place o.live.entries o'.live.entries o.sums.entries drawn-base
      but was.slots named)) was

-- the leaves of the cookie that was found
pub found-named : (o : Overlay) (place : Place) (row : Cookie) (base : Cookies) (slice : List Leaf)
    → base ≡ o.base.now.live → slice ≡ row.ancestry
    → Some row ≡ slot_or (value_at place_cmp place o.live.entries) (value_at place_cmp place base)
    → HaveSlots slice o.sums.entries → NamesAreDrawn place o
found-named o place row base slice b l found have c e =
    subst (λ (xs : List Leaf). HaveSlots xs o.sums.entries) (l ∙ ap (λ (z : Cookie). z.ancestry) (same row c is)) have
  where
    is : Some row ≡ Some c
    is = found
        ∙ (ap (λ (cookies : Cookies). slot_or (value_at place_cmp place o.live.entries)
        (value_at place_cmp place cookies)) b ∙ e)

    same : (x y : Cookie) → Some x ≡ Some y → x ≡ y
    same x y f = cc

-- what is written as it was changes nothing
module _ (o o' : Overlay) (e : o'.base.now ≡ o.base.now) (l : o'.live.entries ≡ o.live.entries)
    (s : o'.sums.entries ≡ o.sums.entries) where
  pub kept-same : now_of o' ≡ now_of o
  kept-same = λ i. laid (l i) (s i) (e i)

  pub kept-laid : IsLaid o → IsLaid o'
  kept-laid was = laid-again o o' e kept-same
      (subst (λ places. LeavesHaveSlots places o'.sums.entries) (sym l)
      (subst (λ leaves. LeavesHaveSlots o.live.entries leaves) (sym s) was.slots)) was
