-- A node carries a change of an operand on.
use Rattle.std.proofs.Common.{◌≡◌, ℕ, ◌+◌, ◌<◌, ◌≤◌, ◌^◌, not, List, [], ◌∷◌, ◌++◌, map, refl, sym, ap, subst, ◌∙◌}
use Rattle.std.specs.Prelude.{IsPermutation, filter}
use Rattle.std.specs.List.{All, AllByRecursion}
use Rattle.std.proofs.lemmas.List.Sorted.{IsPermutation-filter_both, IsPermutation-trans}
use Rattle.list_change.specs.Pairing.{by_left, by_right}
use Rattle.op_compose.specs.Composition.{alone_level, joined_level}
use Rattle.op_compose.specs.declared.op.Side.TheVariants.{Left, Right}
use Rattle.policy_meaning.specs.declared.rule.Rule.{Rule}
use Rattle.rule_ancestry.specs.Holding.{Held, id_of, is_outside, item_of}
use Rattle.made_rules.specs.Changing.{AreHeld, ChangeOf, IsReady, is_of, settled, wide_of}
use Rattle.made_rules.specs.Rules.{is_held_of, is_made_of, rules_in}
use Rattle.made_rules.specs.declared.made.Made.{Made}
use Rattle.made_rules.specs.declared.made.Origin.{Origin}
use Rattle.made_rules.proofs.Changes.{second-front}
use Rattle.incr_compile.specs.Candidates.{left_cost, right_cost}
use Rattle.incr_compile.specs.Nodes.{AreFit, IsCarried, IsFit, LeftChanges, NodeOf, RightChanges, made_by}
use Rattle.incr_compile.specs.Sound.{AreSound, IsSound}
use Rattle.incr_compile.specs.Ways.{held_way, left_origin, right_origin}
use Rattle.incr_compile.proofs.Fits.{by-left-levels, by-right-levels, fit-all-sound, fit-sound, left-levels}
use Rattle.incr_compile.proofs.Fits.{right-levels}
use Rattle.incr_compile.proofs.Whole.{settled-items, settled-rules, whole-left, whole-right}

-- what is made of some origins is held
pub found-held : (store : List (Held Made)) (origins : List Origin) (lost : List ℕ)
    → lost ≡ map id_of (filter (is_held_of origins) store) → AreHeld lost store
found-held store origins lost e = record {
  items = filter (is_held_of origins) store;
  rest = filter (λ h. not (is_held_of origins h)) store;
  ids_are = sym e;
  all = IsPermutation-filter_both (is_held_of origins) (λ h. not (is_held_of origins h)) (λ h. refl) store;
}

first-part : {X : Type 0} (P : X → Type 0) (xs ys : List X) → AllByRecursion P (xs ++ ys) → AllByRecursion P xs
first-part P [] ys a = tt
first-part P (x ∷ xs) ys a = (a.0, first-part P xs ys a.1)

second-part : {X : Type 0} (P : X → Type 0) (xs ys : List X) → AllByRecursion P (xs ++ ys) → AllByRecursion P ys
second-part P [] ys a = a
second-part P (x ∷ xs) ys a = second-part P xs ys a.1

of-rules : (P : Rule → Type 0) (hs : List (Held Made)) → AllByRecursion (λ (h : Held Rule). P h.item) (rules_in hs)
    → AllByRecursion (λ (h : Held Made). P h.item.rule) hs
of-rules P [] a = tt
of-rules P (h ∷ hs) a = (a.0, of-rules P hs a.1)

to-rules : (P : Rule → Type 0) (hs : List (Held Made)) → AllByRecursion (λ (h : Held Made). P h.item.rule) hs
    → AllByRecursion (λ (h : Held Rule). P h.item) (rules_in hs)
to-rules P [] a = tt
to-rules P (h ∷ hs) a = (a.0, to-rules P hs a.1)

module _ (before now after : List (Held Made)) (lost : List ℕ) (fresh : List Made) (change : ChangeOf)
    (r : IsReady before now lost fresh change) (is : after ≡ settled r) where
  pub coming-first : IsPermutation now (r.coming ++ ((r.kept ++ r.going) ++ map wide_of change.stays))
  coming-first = IsPermutation-trans _ _ _ r.is (second-front r.kept r.coming r.going (map wide_of change.stays))

  -- what comes fits where all that will be there does
  pub coming-fit : (size : ℕ) → AreFit size (rules_in after) → AreFit size (rules_in r.coming)
  coming-fit size f =
      let all = of-rules (IsFit size) ((r.kept ++ r.coming) ++ map is_of change.stays)
      (subst (λ z. AreFit size (rules_in z)) is f) in
      to-rules (IsFit size) r.coming
      (second-part (λ (h : Held Made). IsFit size h.item.rule) r.kept r.coming
      (first-part (λ (h : Held Made). IsFit size h.item.rule) (r.kept ++ r.coming) (map is_of change.stays) all))

  -- the rules as the node above sees them
  pub after-rules : IsPermutation (rules_in after)
      (rules_in r.coming ++ filter (is_outside change.gone) (rules_in before))
  after-rules =
      subst (λ z. IsPermutation (rules_in z) (rules_in r.coming ++ filter (is_outside change.gone) (rules_in before)))
      (sym is) (settled-rules before now lost fresh change r)

module _ (n : NodeOf) (before now after rights : List (Held Made)) (below : ChangeOf)
    (l : LeftChanges n before now after rights below) (come : List (Held Rule))
    (c : (items rest : List (Held Made)) → map id_of items ≡ below.come → IsPermutation now (items ++ rest)
    → come ≡ rules_in items) where
  come-is : come ≡ rules_in l.ready.coming
  come-is = c l.ready.coming _ l.ready.come (coming-first before now after l.lost l.fresh below l.ready l.after_is)

  left-come-fit : AreFit l.left_size come
  left-come-fit = subst (λ z. AreFit l.left_size z) (sym come-is)
      (coming-fit before now after l.lost l.fresh below l.ready l.after_is l.left_size l.lefts_fit)

  pub left-come-sound : All (λ (a : Held Rule). IsSound a.item) come
  left-come-sound = fit-all-sound l.left_size come left-come-fit

  pub left-others-sound : AreSound (rules_in rights)
  left-others-sound = fit-sound l.right_size (rules_in rights) l.rights_fit

  pub left-come-alone : All (λ (a : Held Rule). alone_level n.op Left a.item.level n.size < 2 ^ 64) come
  left-come-alone = left-levels n l.left_size l.right_size l.sizes come left-come-fit

  pub left-come-levels : All
      (λ (a : Held Rule). All (λ (b : Held Rule). joined_level n.op a.item.level b.item.level n.size < 2 ^ 64)
      (rules_in rights)) come
  left-come-levels = by-left-levels n l.left_size l.right_size l.sizes come (rules_in rights) left-come-fit l.rights_fit

  -- the steps that are made for what comes
  pub left-steps : (old new : ℕ) → new ≤ old + left_cost n.op (rules_in rights) come
      → new ≤ old + left_cost n.op (rules_in rights) (rules_in l.ready.coming)
  left-steps old new s = subst (λ (z : List (Held Rule)). new ≤ old + left_cost n.op (rules_in rights) z) come-is s

  pub left-carried : (new : List (Held Made)) (lost : List ℕ) (fresh : List Made) (origins : List Origin)
      (gone : List ℕ) (up : ChangeOf) → IsReady n.made new lost fresh up → gone ≡ below.gone
      → origins ≡ map left_origin gone →
      lost ≡ map id_of (filter (is_held_of origins) n.made)
      → IsPermutation fresh (by_left (held_way n.op n.size) come (rules_in rights)) →
      (whole : List (Held Made)) × IsCarried n.made new whole up (made_by n (rules_in after) (rules_in rights))
  left-carried new lost fresh origins gone up u g o e f =
      let p = is_made_of (map left_origin below.gone) in
      let e' : lost ≡ map id_of (filter (λ h. p h.item) n.made) =
      subst (λ z. lost ≡ map id_of (filter (is_held_of z) n.made)) (o ∙ ap (map left_origin) g) e in
      let f' = subst (λ z. IsPermutation fresh (by_left (held_way n.op n.size) z (rules_in rights))) come-is f in (
        settled u,
        record {
          lost = lost;
          fresh = fresh;
          ready = u;
          after_is = refl;
          made_are = IsPermutation-trans _ _ _ (settled-items n.made new lost fresh up u p e')
              (whole-left n.op n.size below.gone (map item_of n.made) fresh (rules_in before) (rules_in after)
              (rules_in l.ready.coming) (rules_in rights) l.node.made_are f'
              (after-rules before now after l.lost l.fresh below l.ready l.after_is));
        },
      )

module _ (n : NodeOf) (before now after lefts : List (Held Made)) (below : ChangeOf)
    (l : RightChanges n before now after lefts below) (come : List (Held Rule))
    (c : (items rest : List (Held Made)) → map id_of items ≡ below.come → IsPermutation now (items ++ rest)
    → come ≡ rules_in items) where
  come-right : come ≡ rules_in l.ready.coming
  come-right = c l.ready.coming _ l.ready.come (coming-first before now after l.lost l.fresh below l.ready l.after_is)

  right-come-fit : AreFit l.right_size come
  right-come-fit = subst (λ z. AreFit l.right_size z) (sym come-right)
      (coming-fit before now after l.lost l.fresh below l.ready l.after_is l.right_size l.rights_fit)

  pub right-come-sound : All (λ (b : Held Rule). IsSound b.item) come
  right-come-sound = fit-all-sound l.right_size come right-come-fit

  pub right-others-sound : AreSound (rules_in lefts)
  right-others-sound = fit-sound l.left_size (rules_in lefts) l.lefts_fit

  pub right-come-alone : All (λ (b : Held Rule). alone_level n.op Right b.item.level n.size < 2 ^ 64) come
  right-come-alone = right-levels n l.left_size l.right_size l.sizes come right-come-fit

  pub right-come-levels : All
      (λ (b : Held Rule). All (λ (a : Held Rule). joined_level n.op a.item.level b.item.level n.size < 2 ^ 64)
      (rules_in lefts)) come
  right-come-levels = by-right-levels n l.left_size l.right_size l.sizes (rules_in lefts) come l.lefts_fit
      right-come-fit

  pub right-steps : (old new : ℕ) → new ≤ old + right_cost n.op (rules_in lefts) come
      → new ≤ old + right_cost n.op (rules_in lefts) (rules_in l.ready.coming)
  right-steps old new s = subst (λ (z : List (Held Rule)). new ≤ old + right_cost n.op (rules_in lefts) z) come-right s

  pub right-carried : (new : List (Held Made)) (lost : List ℕ) (fresh : List Made) (origins : List Origin)
      (gone : List ℕ) (up : ChangeOf) → IsReady n.made new lost fresh up → gone ≡ below.gone
      → origins ≡ map right_origin gone →
      lost ≡ map id_of (filter (is_held_of origins) n.made)
      → IsPermutation fresh (by_right (held_way n.op n.size) (rules_in lefts) come) →
      (whole : List (Held Made)) × IsCarried n.made new whole up (made_by n (rules_in lefts) (rules_in after))
  right-carried new lost fresh origins gone up u g o e f =
      let p = is_made_of (map right_origin below.gone) in
      let e' : lost ≡ map id_of (filter (λ h. p h.item) n.made) =
      subst (λ z. lost ≡ map id_of (filter (is_held_of z) n.made)) (o ∙ ap (map right_origin) g) e in
      let f' = subst (λ z. IsPermutation fresh (by_right (held_way n.op n.size) (rules_in lefts) z)) come-right f in (
        settled u,
        record {
          lost = lost;
          fresh = fresh;
          ready = u;
          after_is = refl;
          made_are = IsPermutation-trans _ _ _ (settled-items n.made new lost fresh up u p e')
              (whole-right n.op n.size below.gone (map item_of n.made) fresh (rules_in lefts) (rules_in before)
              (rules_in after) (rules_in l.ready.coming) l.node.made_are f'
              (after-rules before now after l.lost l.fresh below l.ready l.after_is));
        },
      )
