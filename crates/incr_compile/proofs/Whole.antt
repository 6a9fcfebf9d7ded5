-- A node stays that of its operands where a change of one of them is carried over.
use Rattle.std.proofs.Common.{◌≡◌, ℕ, Bool, not, List, [], ◌∷◌, ◌++◌, map, refl, sym, ap, subst, ◌∙◌, append_assoc}
use Rattle.std.specs.Prelude.{IsPermutation, filter}
use Rattle.std.proofs.lemmas.List.{map-append}
use Rattle.std.proofs.lemmas.List.Sorted.{IsPermutation-append, IsPermutation-append_comm, IsPermutation-append_right}
use Rattle.std.proofs.lemmas.List.Sorted.{IsPermutation-filter_both, IsPermutation-map, IsPermutation-sym}
use Rattle.std.proofs.lemmas.List.Sorted.{IsPermutation-trans}
use Rattle.list_change.specs.Pairing.{by_left, by_right, made}
use Rattle.list_change.proofs.Kept.{permuted-filter}
use Rattle.list_change.proofs.PairLemmas.{left-split, right-split}
use Rattle.list_change.proofs.Permute.{by-equation}
use Rattle.op_compose.specs.declared.op.Op.{Op}
use Rattle.policy_meaning.specs.declared.rule.Rule.{Rule}
use Rattle.rule_ancestry.specs.Holding.{Held, id_of, is_outside, item_of}
use Rattle.made_rules.specs.Changing.{ChangeOf, IsReady, is_of, settled, was_of}
use Rattle.made_rules.specs.Rules.{rule_held, rules_in}
use Rattle.made_rules.specs.declared.made.Made.{Made}
use Rattle.made_rules.specs.declared.stay.Stay.{Stay}
use Rattle.made_rules.proofs.Changes.{front}
use Rattle.made_rules.proofs.Ids.{without-all}
use Rattle.incr_compile.specs.Ways.{held_way, is_not_of, left_origin, right_origin}
use Rattle.incr_compile.proofs.Shares.{filter-items, filter-rules, made-without-lefts, made-without-rights}
use Rattle.incr_compile.proofs.Shares.{outside-turned}

module _ {X : Type 0} where
  ends-first : (k c m : List X) → IsPermutation ((k ++ c) ++ m) ((c ++ m) ++ k)
  ends-first k c m = IsPermutation-trans _ (k ++ (c ++ m)) _ (by-equation _ _ (append_assoc k c m))
      (IsPermutation-append_comm k (c ++ m))

  second-first : (k c m : List X) → IsPermutation ((k ++ c) ++ m) (c ++ (k ++ m))
  second-first k c m = front k c m

same-rules : (stays : List Stay) → rules_in (map was_of stays) ≡ rules_in (map is_of stays)
same-rules [] = refl
same-rules (s ∷ stays) = ap (λ z. rule_held (is_of s) ∷ z) (same-rules stays)

module _ (before now : List (Held Made)) (lost : List ℕ) (fresh : List Made) (change : ChangeOf)
    (r : IsReady before now lost fresh change) where
  kept-are : (p : Made → Bool) → lost ≡ map id_of (filter (λ h. p h.item) before)
      → IsPermutation r.kept (filter (λ h. not (p h.item)) before)
  kept-are p e =
      let gone = r.going ++ map was_of change.stays in
      let passing = filter (λ (h : Held Made). p h.item) before in
      let others = filter (λ (h : Held Made). not (p h.item)) before in
      IsPermutation-trans _ _ _
      (IsPermutation-sym _ _
      (without-all before gone r.kept r.rises
      (IsPermutation-trans _ _ _ r.was (ends-first r.kept r.going (map was_of change.stays)))))
      (IsPermutation-trans _ _ _ (by-equation _ _ (sym (outside-turned lost (map id_of gone) before r.lost_are)))
      (IsPermutation-trans _ _ _ (by-equation _ _ (ap (λ ids. filter (is_outside ids) before) e))
      (without-all before passing others r.rises
      (IsPermutation-filter_both (λ (h : Held Made). p h.item) (λ (h : Held Made). not (p h.item)) (λ h. refl)
      before))))

  -- what is made once it is settled
  pub settled-items : (p : Made → Bool) → lost ≡ map id_of (filter (λ h. p h.item) before)
      → IsPermutation (map item_of (settled r)) (fresh ++ filter (λ m. not (p m)) (map item_of before))
  settled-items p e =
      let ends = r.coming ++ map is_of change.stays in
      IsPermutation-trans _ _ _ (IsPermutation-map item_of _ _ (ends-first r.kept r.coming (map is_of change.stays)))
      (IsPermutation-trans _ _ _ (by-equation _ _ (map-append item_of ends r.kept))
      (IsPermutation-append _ _ _ _ (IsPermutation-sym _ _ r.made_are)
      (IsPermutation-trans _ _ _ (IsPermutation-map item_of _ _ (kept-are p e))
      (by-equation _ _ (filter-items (λ m. not (p m)) before)))))

  -- the rules that the nodes above see once it is settled
  pub settled-rules : IsPermutation (rules_in (settled r))
      (rules_in r.coming ++ filter (is_outside change.gone) (rules_in before))
  settled-rules =
      let was = map was_of change.stays in
      let rest : IsPermutation (filter (is_outside change.gone) before) (r.kept ++ was) =
      subst (λ ids. IsPermutation (filter (is_outside ids) before) (r.kept ++ was)) r.gone
      (without-all before r.going (r.kept ++ was) r.rises
      (IsPermutation-trans _ _ _ r.was (second-first r.kept r.going was))) in
      IsPermutation-trans _ _ _
      (IsPermutation-map rule_held _ _ (second-first r.kept r.coming (map is_of change.stays)))
      (IsPermutation-trans _ _ _ (by-equation _ _ (map-append rule_held r.coming (r.kept ++ map is_of change.stays)))
      (IsPermutation-append_right (rules_in r.coming) _ _
      (IsPermutation-trans _ _ _
      (by-equation _ _ (map-append rule_held r.kept (map is_of change.stays)
      ∙ ap (λ z. rules_in r.kept ++ z) (sym (same-rules change.stays)) ∙ sym (map-append rule_held r.kept was)))
      (IsPermutation-trans _ _ _ (IsPermutation-sym _ _ (IsPermutation-map rule_held _ _ rest))
      (by-equation _ _ (filter-rules change.gone before))))))

module _ (op : Op) (size : ℕ) (gone : List ℕ) (items fresh : List Made) where
  pub whole-left : (lefts lefts' coming rights : List (Held Rule))
      → IsPermutation items (made (held_way op size) lefts rights)
      → IsPermutation fresh (by_left (held_way op size) coming rights) →
      IsPermutation lefts' (coming ++ filter (is_outside gone) lefts)
      → IsPermutation (fresh ++ filter (is_not_of (map left_origin gone)) items)
      (made (held_way op size) lefts' rights)
  whole-left lefts lefts' coming rights h f l =
      IsPermutation-trans _ _ _
      (IsPermutation-append _ _ _ _ f
      (IsPermutation-trans _ _ _ (permuted-filter (is_not_of (map left_origin gone)) items _ h)
      (by-equation _ _ (made-without-lefts op size gone lefts rights))))
      (IsPermutation-sym _ _ (left-split (held_way op size) lefts' coming (filter (is_outside gone) lefts) rights l))

  pub whole-right : (lefts rights rights' coming : List (Held Rule))
      → IsPermutation items (made (held_way op size) lefts rights)
      → IsPermutation fresh (by_right (held_way op size) lefts coming) →
      IsPermutation rights' (coming ++ filter (is_outside gone) rights)
      → IsPermutation (fresh ++ filter (is_not_of (map right_origin gone)) items)
      (made (held_way op size) lefts rights')
  whole-right lefts rights rights' coming h f l =
      IsPermutation-trans _ _ _
      (IsPermutation-append _ _ _ _ f
      (IsPermutation-trans _ _ _ (permuted-filter (is_not_of (map right_origin gone)) items _ h)
      (by-equation _ _ (made-without-rights op size gone lefts rights))))
      (IsPermutation-sym _ _ (right-split (held_way op size) lefts rights' coming (filter (is_outside gone) rights) l))
