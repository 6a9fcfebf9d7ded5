-- Keys get slots, and room is made for what slots have.
use Rattle.std.proofs.Common.{◌≡◌, Bool, true, false, List, [], ◌∷◌, ◌++◌, refl, sym, ap, ◌∙◌, true≢false}
use Rattle.std.specs.Prelude.{IsSome, Option, Some, None, is_some, unwrap_or}
use Rattle.std.specs.BTreeMap.{insert_entry, is_at}
use Rattle.std.specs.Map.{lookup}
use Rattle.std.specs.declared.cmp.Ordering.{Ordering}
use Rattle.std.specs.Cmp.{IsTotalOrder}
use Rattle.stats_map.specs.Slots.{AreDrawn, HasKey, value_at, with_slot, without}
use Rattle.stats_map.proofs.Overlays.{none-removed, put-removed, same-key, without-last}

-- nothing was found
pub not-there : {A : Type 0} (o : Option A) (r : Bool) → r ≡ is_some o → r ≡ false → o ≡ None
not-there None r e t = refl
not-there (Some s) r e t = absurd (true≢false (sym e ∙ t))

module _ {K : Type 0} {cmp : K → K → Ordering} (total : IsTotalOrder cmp) where
  -- equal keys have the same value
  pub same-value : {V : Type 0} (k q : K) (es : List (K × V)) → is_at (cmp k) q ≡ true
      → value_at cmp k es ≡ value_at cmp q es
  same-value k q es e = ap (λ (test : K → Bool). lookup test es) (λ i x. same-key total k q x e i)

  module _ {V : Type 0} where
    pub same-drawn : (base : List (K × V)) (slots : List (K × Option V)) → AreDrawn cmp base slots slots
    same-drawn base slots = record {
      kept = λ q slot e. e;
      fresh = λ q slot e n. absurd (true≢false (ap is_some (sym e ∙ n)));
    }

    pub more-drawn : (base : List (K × V)) (a b c : List (K × Option V)) → AreDrawn cmp base a b → AreDrawn cmp base b c
        → AreDrawn cmp base a c
    more-drawn base a b c x y =
        record {
          kept = λ q slot e. y.kept q slot (x.kept q slot e);
          fresh = λ q slot e n. by q slot e n (value_at cmp q b) refl;
        }
      where
        same : (s t : Option V) → Some s ≡ Some t → s ≡ t
        same s t e = ap (λ (o : Option (Option V)). unwrap_or o s) e

        by : (q : K) (slot : Option V) → value_at cmp q c ≡ Some slot → value_at cmp q a ≡ None
            → (o : Option (Option V)) → value_at cmp q b ≡ o → slot ≡ value_at cmp q base
        by q slot e n None f = y.fresh q slot e f
        by q slot e n (Some t) f = same slot t (sym e ∙ y.kept q t f) ∙ x.fresh q t f n

    -- what had a slot has one
    pub drawn-key : (base : List (K × V)) (old new : List (K × Option V)) → AreDrawn cmp base old new → (q : K)
        → HasKey cmp q old → HasKey cmp q new
    drawn-key base old new d q t = by (value_at cmp q old) refl t
      where
        by : (o : Option (Option V)) → value_at cmp q old ≡ o → IsSome o → HasKey cmp q new
        by None e u = absurd (true≢false (sym u))
        by (Some slot) e u = ap is_some (d.kept q slot e)

    -- what is put in is taken out again
    pub put-undone : (made made' : List K) (k : K) (v : V) (old new : List (K × V)) → made' ≡ made ++ k ∷ []
        → new ≡ insert_entry cmp old k v → value_at cmp k old ≡ None
        → without cmp made' new ≡ without cmp made old
    put-undone made made' k v old new is put none =
        ap (λ ks. without cmp ks new) is
        ∙ (without-last total made k new
        ∙ ap (without cmp made) (ap (λ es. with_slot cmp k None es) put ∙ put-removed total k v old none))

    pub none-undone : (made made' : List K) (k : K) (old new : List (K × V)) → made' ≡ made ++ k ∷ [] → new ≡ old
        → value_at cmp k old ≡ None → without cmp made' new ≡ without cmp made old
    none-undone made made' k old new is same none =
        ap (λ ks. without cmp ks new) is
        ∙ (without-last total made k new
        ∙ ap (without cmp made) (ap (λ es. with_slot cmp k None es) same ∙ none-removed total k old none))
