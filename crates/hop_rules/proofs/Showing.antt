-- Rules that are shown one after the other, where all others are.
use Rattle.std.proofs.Common.{◌≡◌, ℕ, ◌+◌, ◌<◌, ◌≤◌, false, List, ◌++◌, Option, Some, length, take, get_or, map, sym}
use Rattle.std.proofs.Common.{ap, subst, ◌∙◌, arith, append-nil}
use Rattle.std.specs.Prelude.{IsPermutation, filter_map, option_to_list}
use Rattle.std.specs.List.{list_any}
use Rattle.std.proofs.lemmas.List.{take_all, length-map}
use Rattle.std.proofs.lemmas.List.Sorted.{IsPermutation-sym, IsPermutation-trans, IsPermutation-append_comm}
use Rattle.list_change.proofs.Permute.{permuted-filter_map}
use Rattle.match_index.specs.Items.{has_id}
use Rattle.match_index.specs.declared.item.Item.{Item}
use Rattle.policy_meaning.specs.declared.rule.Rule.{Rule}
use Rattle.rule_ancestry.specs.Holding.{Held, id_of, item_at}
use Rattle.made_rules.proofs.Ids.{Rising, item-there}
use Rattle.hop_rules.specs.Items.{IsNumbered}
use Rattle.hop_rules.proofs.Nth.{id-at, nth}
use Rattle.hop_rules.proofs.Shown.{next-first, next-hidden, next-shown}

module _ (shown : Held Rule → Option Item) (numbered : IsNumbered shown) (rules coming kept : List (Held Rule))
    (ids : List ℕ)
    (up : Rising rules) (p : IsPermutation rules (coming ++ kept)) (e : map id_of coming ≡ ids) where
  within : (i : ℕ) → i < length ids → i < length coming
  within i lt = let n = sym (length-map coming id_of) ∙ ap length e in omega arith

  -- the index shows these so far
  abbrev pub AsFar : ℕ → List Item → Type 0
  AsFar i items = IsPermutation items (filter_map shown (kept ++ take i coming))

  pub none-yet : (items : List Item) → IsPermutation items (filter_map shown kept) → AsFar 0 items
  none-yet items s = subst (λ z. IsPermutation items (filter_map shown z)) (sym (append-nil kept)) s

  pub still-hidden : (i d : ℕ) (lt : i < length ids) (items : List Item) → AsFar i items
      → list_any (has_id (get_or ids i d)) items ≡ false
  still-hidden i d lt items s =
      let n = nth coming i (within i lt) in
      subst (λ k. list_any (has_id k) items ≡ false) (sym (id-at coming ids i d (within i lt) e))
      (next-hidden shown numbered rules coming kept i n.item up p n.whole items s)

  pub one-more : (i d : ℕ) (lt : i < length ids) (items new : List Item) (o : Option Item) → AsFar i items →
      ((h : Held Rule) → get_or ids i d ≡ h.id → item_at rules h.id ≡ Some h.item → o ≡ shown h)
      → new ≡ items ++ option_to_list o → AsFar (i + 1) new
  one-more i d lt items new o s f g =
      let n = nth coming i (within i lt) in
      let there = item-there rules _ n.item up (next-first rules coming kept i n.item p n.whole) in
      next-shown shown numbered coming kept i n.item n.more items new s
      (g ∙ ap (λ z. items ++ option_to_list z) (f n.item (id-at coming ids i d (within i lt) e) there))

  pub all-shown : (i : ℕ) (items : List Item) → length ids ≤ i → AsFar i items
      → IsPermutation items (filter_map shown rules)
  all-shown i items le s =
      let n = sym (length-map coming id_of) ∙ ap length e in
      let t : take i coming ≡ coming = take_all i coming (omega arith) in
      IsPermutation-trans _ (filter_map shown (kept ++ coming)) _
      (subst (λ z. IsPermutation items (filter_map shown (kept ++ z))) t s)
      (permuted-filter_map shown _ _
      (IsPermutation-trans _ (coming ++ kept) _ (IsPermutation-append_comm kept coming) (IsPermutation-sym _ _ p)))
