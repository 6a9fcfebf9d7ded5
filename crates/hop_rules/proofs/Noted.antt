-- Rules that are noted by their ids.
use Rattle.std.proofs.Common.{◌≡◌, ℕ, ◌+◌, ◌<◌, not, cond, List, [], ◌∷◌, ◌++◌, length, get_or, take, map, refl, sym}
use Rattle.std.proofs.Common.{ap, ◌∙◌, append_assoc, arith, subst}
use Rattle.std.specs.Prelude.{IsPermutation, filter}
use Rattle.std.proofs.lemmas.List.{map-append}
use Rattle.std.proofs.lemmas.List.Sorted.{IsPermutation-append_comm, IsPermutation-append_left}
use Rattle.std.proofs.lemmas.List.Sorted.{IsPermutation-append_right, IsPermutation-trans}
use Rattle.list_change.proofs.Kept.{permuted-filter}
use Rattle.list_change.proofs.Permute.{by-equation}
use Rattle.match_index.proofs.Lists.{take_pushed}
use Rattle.made_rules.proofs.Ids.{Rising, without-all}
use Rattle.policy_meaning.specs.declared.rule.Rule.{Rule}
use Rattle.rule_ancestry.specs.Holding.{Held, held_as, id_of, is_other, is_outside, item_of}
use Rattle.rule_ancestry.proofs.Lists.{outside-last, outside-none}
use Rattle.hop_rules.specs.Handed.{AreFoundAt, Notes}
use Rattle.hop_rules.proofs.Taking.{taken-out}

module _ (held : List (Held Rule)) (up : Rising held) where
  pub none-noted : AreFoundAt held [] []
  none-noted = record { going = []; was = by-equation _ _ (sym (outside-none held)); ids_are = refl; rules_are = refl }

  -- one rule more
  pub one-noted : (ids ids' : List ℕ) (rules : List Rule) (i : ℕ) (rule : Rule) → i < length rules
      → rule ≡ get_or rules i rule → Notes held ids ids' rule → AreFoundAt held ids (take i rules)
      → AreFoundAt held ids' (take (i + 1) rules)
  one-noted ids ids' rules i rule lt at n f =
      let one : Held Rule = record { id = n.id; item = rule } in
      let rest = filter (is_other n.id) held in
      let out : IsPermutation (filter (is_outside ids) held) (filter (is_outside ids) (one ∷ rest)) =
      permuted-filter (is_outside ids) held (one ∷ rest) (taken-out held n.id rule up n.there) in
      let first : filter (is_outside ids) (one ∷ rest) ≡ one ∷ filter (is_outside ids) rest =
      ap (λ t. cond (not t) (one ∷ filter (is_outside ids) rest) (filter (is_outside ids) rest)) n.new in
      let last : filter (is_outside ids) rest ≡ filter (is_outside ids') held =
      sym (ap (λ z. filter (is_outside z) held) n.noted ∙ outside-last ids n.id held) in
      record {
        going = f.going ++ one ∷ [];
        was = IsPermutation-trans _ _ _ f.was
            (IsPermutation-trans _ _ _
            (IsPermutation-append_right f.going _ _
            (IsPermutation-trans _ _ _ out (by-equation _ _ (first ∙ ap (λ z. one ∷ z) last))))
            (by-equation _ _ (sym (append_assoc f.going (one ∷ []) (filter (is_outside ids') held)))));
        ids_are = map-append id_of f.going (one ∷ []) ∙ ap (λ z. z ++ n.id ∷ []) f.ids_are ∙ sym n.noted;
        rules_are = map-append item_of f.going (one ∷ []) ∙ ap (λ z. z ++ rule ∷ []) f.rules_are
            ∙ sym (take_pushed rules i rule lt at);
      }

-- ---- rules under new ids
module _ {R : Type 0} where
  pub as-ids : (ids : List ℕ) (items : List R) → length ids ≡ length items → map id_of (held_as ids items) ≡ ids
  as-ids [] [] e = refl
  as-ids [] (x ∷ items) e = absurd (omega (arith, e))
  as-ids (id ∷ ids) [] e = absurd (omega (arith, e))
  as-ids (id ∷ ids) (x ∷ items) e = ap (λ z. id ∷ z) (as-ids ids items (omega (arith, e)))

  pub as-items : (ids : List ℕ) (items : List R) → length ids ≡ length items → map item_of (held_as ids items) ≡ items
  as-items [] [] e = refl
  as-items [] (x ∷ items) e = absurd (omega (arith, e))
  as-items (id ∷ ids) [] e = absurd (omega (arith, e))
  as-items (id ∷ ids) (x ∷ items) e = ap (λ z. x ∷ z) (as-items ids items (omega (arith, e)))

-- rules that come stay where those that are noted go
pub handed : (store both : List (Held Rule)) (ids : List ℕ) (gone : List Rule) (f : AreFoundAt store ids gone)
    (coming : List (Held Rule)) → Rising both → IsPermutation both (coming ++ store) →
    IsPermutation (filter (is_outside ids) both) (coming ++ filter (is_outside ids) store)
handed store both ids gone f coming up p =
    let kept = filter (is_outside ids) store in
    let q : IsPermutation both (f.going ++ (coming ++ kept)) =
    IsPermutation-trans _ _ _ p
    (IsPermutation-trans _ _ _ (IsPermutation-append_right coming _ _ f.was)
    (IsPermutation-trans _ _ _ (by-equation _ _ (sym (append_assoc coming f.going kept)))
    (IsPermutation-trans _ _ _ (IsPermutation-append_left kept _ _ (IsPermutation-append_comm coming f.going))
    (by-equation _ _ (append_assoc f.going coming kept))))) in
    subst (λ z. IsPermutation (filter (is_outside z) both) (coming ++ kept)) f.ids_are
    (without-all both f.going (coming ++ kept) up q)
