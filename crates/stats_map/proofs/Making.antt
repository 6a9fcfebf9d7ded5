-- Slots are made what a map has.
use Rattle.std.proofs.Common.{◌≡◌, Bool, true, false, cond, List, [], ◌∷◌, ◌++◌, refl, sym, ap, subst, ◌∙◌, true≢false}
use Rattle.std.specs.Prelude.{IsSome, Option, Some, None, is_some}
use Rattle.std.specs.BTreeMap.{is_at}
use Rattle.std.specs.Cmp.{IsTotalOrder}
use Rattle.std.specs.List.Sorted.{IsStrictlySortedBy}
use Rattle.std.specs.Map.{keys_of}
use Rattle.std.specs.declared.cmp.Ordering.{Ordering}
use Rattle.std.proofs.lemmas.Map.Entries.{lookup_head, lookup_tail, none_past_head}
use Rattle.std.proofs.lemmas.Map.{lookup-none}
use Rattle.std.proofs.lemmas.Cmp.{eq_by_cmp_equiv, tied_itself}
use Rattle.std.proofs.lemmas.Map.Keys.{IsDistinct-from_sorted, sorted_tail}
use Rattle.std.specs.Ordering.{is_eq}
use Rattle.stats_map.specs.Slots.{HasKey, HasRoom, IsSameBut, IsSameElsewhere, overlaid, value_at, with_slot, without}
use Rattle.stats_map.proofs.Drawing.{same-value}
use Rattle.stats_map.proofs.Overlays.{Rise, laid-last, same-turned, slot-other, without-last}

-- all keys that get a value have one, but those that are left
pub record HasRoomBut {K V : Type 0} (cmp : K → K → Ordering) (slots left : List (K × Option V))
    (es : List (K × V)) : Type 0 where
  pub room : (q : K) (v : V) → value_at cmp q slots ≡ Some (Some v) → value_at cmp q left ≡ None → HasKey cmp q es
  pub among : (q : K) (slot : Option V) → value_at cmp q left ≡ Some slot → value_at cmp q slots ≡ Some slot
  pub rise : IsStrictlySortedBy cmp (keys_of left)

module _ {K V : Type 0} {cmp : K → K → Ordering} (total : IsTotalOrder cmp) where
  pub room-first : (slots left : List (K × Option V)) (es : List (K × V)) → left ≡ slots → Rise total slots
      → HasRoomBut cmp slots left es
  room-first slots left es is r = record {
    room = λ q v e n. absurd (true≢false (ap is_some (sym e ∙ (sym (ap (value_at cmp q) is) ∙ n))));
    among = λ q slot e. sym (ap (value_at cmp q) is) ∙ e;
    rise = subst (Rise total) (sym is) r;
  }

  pub room-all : (slots left : List (K × Option V)) (es : List (K × V)) → left ≡ [] → HasRoomBut cmp slots left es
      → HasRoom cmp slots es
  room-all slots left es is h q v e = h.room q v e (ap (value_at cmp q) is)

  module _ (slots left rest : List (K × Option V)) (es es' : List (K × V)) (k : K) (slot : Option V)
      (is : left ≡ (k, slot) ∷ rest) (h : HasRoomBut cmp slots left es) where
    here : value_at cmp k left ≡ Some slot
    here = ap (value_at cmp k) is ∙ lookup_head (is_at (cmp k)) (k, slot) rest (ap is_eq (tied_itself total k))

    rise-both : Rise total ((k, slot) ∷ rest)
    rise-both = subst (Rise total) is h.rise

    -- the slot is that of its key
    pub slot-found : value_at cmp k slots ≡ Some slot
    slot-found = h.among k slot here

    pub room-next : ((q : K) → HasKey cmp q es → HasKey cmp q es') → ((v : V) → slot ≡ Some v → HasKey cmp k es')
        → HasRoomBut cmp slots rest es'
    room-next stay now = record {
      room = λ q v e n. room q v e n (is_at (cmp q) k) refl;
      among = λ q s e. among q s e (is_at (cmp q) k) refl;
      rise = sorted_tail cmp k (keys_of rest) rise-both;
    }
      where
        room : (q : K) (v : V) → value_at cmp q slots ≡ Some (Some v) → value_at cmp q rest ≡ None → (b : Bool)
            → is_at (cmp q) k ≡ b → HasKey cmp q es'
        room q v e n true t =
            let at-k = same-turned total k q ∙ t in
            let is-v : Some slot ≡ Some (Some v) = sym slot-found ∙ (same-value total k q slots at-k ∙ e) in
            subst (λ (o : Option V). IsSome o) (same-value total k q es' at-k) (now v (inside slot v is-v))
          where
            inside : (s : Option V) (w : V) → Some s ≡ Some (Some w) → s ≡ Some w
            inside s w e = cc
        room q v e n false t =
            stay q (h.room q v e (ap (value_at cmp q) is ∙ (lookup_tail (is_at (cmp q)) (k, slot) rest t ∙ n)))

        among : (q : K) (s : Option V) → value_at cmp q rest ≡ Some s → (b : Bool) → is_at (cmp q) k ≡ b
            → value_at cmp q slots ≡ Some s
        among q s e true t =
            absurd
            (true≢false
            (ap is_some (sym e ∙ lookup-none (is_at (cmp q)) rest
            (none_past_head (eq_by_cmp_equiv total) q (k, slot) rest
            (IsDistinct-from_sorted cmp (keys_of ((k, slot) ∷ rest)) rise-both) t))))
        among q s e false t = h.among q s (ap (value_at cmp q) is ∙ (lookup_tail (is_at (cmp q)) (k, slot) rest t ∙ e))

    -- one key more may differ where it has a slot
    pub else-next : (base : List (K × V)) → IsSameBut cmp k es es' → IsSameElsewhere cmp slots base es
        → IsSameElsewhere cmp slots base es'
    else-next base but same q n = by (is_at (cmp k) q) refl
      where
        by : (b : Bool) → is_at (cmp k) q ≡ b → value_at cmp q es' ≡ value_at cmp q base
        by true t = absurd (true≢false (ap is_some (sym slot-found ∙ (same-value total k q slots t ∙ n))))
        by false t = but q t ∙ same q n

  -- the last slot is made what the map has
  module _ (slots slots' : List (K × Option V)) (k : K) (slot : Option V) (es es' : List (K × V))
      (is : slots ≡ slots' ++ (k, slot) ∷ []) (put : es' ≡ with_slot cmp k slot es) where
    pub fill-next : overlaid cmp slots' es' ≡ overlaid cmp slots es
    fill-next = ap (overlaid cmp slots') put
        ∙ (sym (laid-last total slots' (k, slot) es) ∙ ap (λ xs. overlaid cmp xs es) (sym is))

    pub fill-room : ((q : K) → value_at cmp q slots' ≡ cond (is_at (cmp k) q) None (value_at cmp q slots))
        → HasRoom cmp slots es → HasRoom cmp slots' es'
    fill-room left room q v e = by (is_at (cmp k) q) refl
      where
        by : (b : Bool) → is_at (cmp k) q ≡ b → HasKey cmp q es'
        by true t = absurd (true≢false (ap is_some (sym e ∙ (left q ∙ ap (λ b. cond b None (value_at cmp q slots)) t))))
        by false t =
            let had = room q v (sym (left q ∙ ap (λ b. cond b None (value_at cmp q slots)) t) ∙ e) in
            ap (λ xs. is_some (value_at cmp q xs)) put ∙ (ap is_some (slot-other total q k slot es t) ∙ had)

  pub take-next : (made made' : List K) (k : K) (es es' : List (K × V)) → made ≡ made' ++ k ∷ []
      → es' ≡ with_slot cmp k None es → without cmp made' es' ≡ without cmp made es
  take-next made made' k es es' is gone = ap (without cmp made') gone
      ∙ (sym (without-last total made' k es) ∙ ap (λ ks. without cmp ks es) (sym is))
