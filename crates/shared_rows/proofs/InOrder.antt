-- Keys of entries, in their order.
use Rattle.std.proofs.Common.{◌≡◌, ◌∙◌, Bool, true, false, ap, refl, sym}
use Rattle.std.specs.Prelude.{◌==◌}
use Rattle.std.specs.Cmp.{IsStrictWeakOrder}
use Rattle.std.specs.Ordering.{is_gt, is_lt, nat_cmp, ordering_reverse, ordering_then}
use Rattle.std.specs.declared.cmp.Ordering.{Ordering}
use Rattle.std.specs.declared.cmp.Ordering.TheVariants.{Equal, Greater, Less}
use Rattle.std.proofs.lemmas.Bool.Decides.{Decides-eqb}
use Rattle.std.proofs.lemmas.Cmp.{tied_itself}
use Rattle.std.proofs.lemmas.List.Sorted.{ranks_by}
use Rattle.install_plan.specs.declared.written.Written.{Written}
use Rattle.of10_match.specs.Order.{by_bytes}
use Rattle.of10_match.specs.Same.{same_match}
use Rattle.of10_match.proofs.Same.{match_decides}
use Rattle.policy_meaning.proofs.Booleans.{split_and}
use Rattle.switch_meaning.specs.Batches.{key_cmp}
use Rattle.switch_meaning.specs.Keys.{same_key}
use Rattle.switch_meaning.specs.declared.entry.PhysEntry.{PhysEntry}
use Rattle.switch_meaning.proofs.ByKey.{key_total}
use Rattle.shared_rows.specs.Rows.{IsLower, NotAfter, has_key, is_past}

-- one key -----------------------------------------------------------------------------------------------------------

same_compare : (d e : PhysEntry) → same_key d e ≡ true → key_cmp d e ≡ Equal
same_compare d e t =
    let both = split_and (same_match d.m e.m) (d.priority == e.priority) t in
    let m : d.m ≡ e.m = (match_decides d.m e.m).0 both.0 in
    let p : d.priority ≡ e.priority = (Decides-eqb d.priority e.priority).0 both.1 in
    let same : key_cmp d d ≡ key_cmp d e = (λ i. ordering_then (nat_cmp d.priority (p i)) (by_bytes d.m (m i))) in
    sym same ∙ tied_itself key_total d

apart : (e : PhysEntry) (w : Written) → (key_cmp w.entry e ≡ Equal → ⊥) → has_key e w ≡ false
apart e w never = by (same_key w.entry e) refl
  where
    by : (b : Bool) → same_key w.entry e ≡ b → same_key w.entry e ≡ false
    by false t = t
    by true t = absurd (never (same_compare w.entry e t))

pub lower_apart : (e : PhysEntry) (w : Written) → is_lt (key_cmp w.entry e) ≡ true → has_key e w ≡ false
lower_apart e w low = apart e w (λ same. differs (key_cmp w.entry e) same low)
  where
    differs : (r : Ordering) → r ≡ Equal → is_lt r ≡ true → ⊥
    differs Less same t = cc
    differs Equal same t = cc
    differs Greater same t = cc

pub past_apart : (e : PhysEntry) (w : Written) → is_past e w ≡ true → has_key e w ≡ false
past_apart e w up = apart e w (λ same. differs (key_cmp w.entry e) same up)
  where
    differs : (r : Ordering) → r ≡ Equal → is_gt r ≡ true → ⊥
    differs Less same t = cc
    differs Equal same t = cc
    differs Greater same t = cc

-- rows in order -----------------------------------------------------------------------------------------------------

chained : IsStrictWeakOrder (λ (d e : PhysEntry). is_lt (key_cmp d e))
chained = ranks_by key_total (λ (e : PhysEntry). e)

turned : (r : Ordering) → is_gt (ordering_reverse r) ≡ is_lt r
turned Less = refl
turned Equal = refl
turned Greater = refl

-- a row is past a key where the key comes before the row
pub past_is : (e : PhysEntry) (w : Written) → is_past e w ≡ is_lt (key_cmp e w.entry)
past_is e w = ap is_gt (key_total.antisymm w.entry e) ∙ turned (key_cmp e w.entry)

pub not_past : (e : PhysEntry) (w : Written) → is_past e w ≡ false → is_lt (key_cmp e w.entry) ≡ false
not_past e w f = sym (past_is e w) ∙ f

-- what stands in front of a row that isn't past isn't past
pub front_not_past : (e : PhysEntry) (v w : Written) → NotAfter v w → is_past e w ≡ false → is_past e v ≡ false
front_not_past e v w up f = past_is e v ∙ chained.chain e w.entry v.entry (not_past e w f) up

-- what stands behind a row that is past is past
pub behind_past : (e : PhysEntry) (v w : Written) → NotAfter v w → is_past e v ≡ true → is_past e w ≡ true
behind_past e v w up t = by (is_past e w) refl
  where
    by : (b : Bool) → is_past e w ≡ b → is_past e w ≡ true
    by true f = f
    by false f = let never : is_past e v ≡ false = front_not_past e v w up f in cc

-- a row lower than one that isn't past has another key
pub front_apart : (e : PhysEntry) (v w : Written) → IsLower v w → is_past e w ≡ false → has_key e v ≡ false
front_apart e v w low f = apart e v (λ same.
    let less : key_cmp e w.entry ≡ Less = sym (key_total.congr v.entry e w.entry same) ∙ low in
    let never : is_lt (key_cmp e w.entry) ≡ true = ap is_lt less in
    let not : is_lt (key_cmp e w.entry) ≡ false = not_past e w f in
    cc)

-- so has one that is higher than a row that isn't lower than the key
pub behind_apart : (e : PhysEntry) (v w : Written) → IsLower v w → is_lt (key_cmp v.entry e) ≡ false
    → has_key e w ≡ false
behind_apart e v w low f = apart e w (λ same.
    let greater : key_cmp e v.entry ≡ Greater =
    sym (key_total.congr w.entry e v.entry same) ∙ (key_total.antisymm w.entry v.entry ∙ ap ordering_reverse low) in
    let less : is_lt (key_cmp v.entry e) ≡ true =
    ap is_lt (key_total.antisymm v.entry e ∙ ap ordering_reverse greater) in
    cc)

-- a row that is lower isn't after
pub lower_rises : (v w : Written) → IsLower v w → NotAfter v w
lower_rises v w low = ap is_lt (key_total.antisymm w.entry v.entry ∙ ap ordering_reverse low)

-- what is lower than a row that is lower than the key is lower than it
pub front_low : (e : PhysEntry) (v w : Written) → IsLower v w → is_lt (key_cmp w.entry e) ≡ true
    → is_lt (key_cmp v.entry e) ≡ true
front_low e v w low t =
    ap is_lt (key_total.trans v.entry w.entry e low (less (key_cmp w.entry e) t))
  where
    less : (r : Ordering) → is_lt r ≡ true → r ≡ Less
    less Less t = refl
    less Equal t = cc
    less Greater t = cc
