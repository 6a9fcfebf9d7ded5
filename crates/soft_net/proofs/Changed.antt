-- A table in which an entry changes, and keeps its number and its key.
use Rattle.std.proofs.Common.{◌≡◌, ◌∙◌, ℕ, ◌<◌, ◌==◌, Bool, true, false, ◌||◌, List, [], ◌∷◌, map, Some, None, Option}
use Rattle.std.proofs.Common.{if◌then◌else◌, refl, sym, ap, ap₂, subst, count_by, arith}
use Rattle.std.specs.BTreeMap.{is_at as is_at_key}
use Rattle.std.specs.List.{AllByRecursion, list_any}
use Rattle.std.specs.Ordering.{nat_cmp}
use Rattle.of10_match.specs.Matching.{is_one_header}
use Rattle.of10_match.specs.Numbers.{rank_by}
use Rattle.match_index.specs.InsideGroups.{SameItems}
use Rattle.match_index.specs.declared.item.Item.{Item}
use Rattle.soft_net.specs.Counting.{changed}
use Rattle.soft_net.specs.Entries.{IsAsWritten, has_serial, is_at, item_of, key_of, same_key}
use Rattle.soft_net.specs.InsideTables.{AreRising, IsKept, IsKeyed, entries_in, under_serial}
use Rattle.soft_net.specs.declared.entry.Key.{Key}
use Rattle.soft_net.specs.declared.entry.SoftEntry.{SoftEntry}
use Rattle.soft_net.proofs.Listing.{changed_under, in_under}

module _ (g : SoftEntry → SoftEntry) (serial : (e : SoftEntry) → (g e).serial ≡ e.serial)
    (key : (e : SoftEntry) → key_of (g e) ≡ key_of e) where
  above : (x : SoftEntry) (ds : List SoftEntry) → AllByRecursion (λ (d : SoftEntry). x.serial < d.serial) ds
      → AllByRecursion (λ (d : SoftEntry). (g x).serial < d.serial) (map g ds)
  above x [] a = tt
  above x (d ∷ ds) a = let p = serial x in let q = serial d in (omega (arith, a.0, p, q), above x ds a.1)

  rising_map : (es : List SoftEntry) → AreRising es → AreRising (map g es)
  rising_map [] r = tt
  rising_map (e ∷ es) r = (above e es r.0, rising_map es r.1)

  below_map : (n : ℕ) (es : List SoftEntry) → AllByRecursion (λ (e : SoftEntry). e.serial < n) es
      → AllByRecursion (λ (e : SoftEntry). e.serial < n) (map g es)
  below_map n [] a = tt
  below_map n (e ∷ es) a = let p = serial e in (omega (arith, a.0, p), below_map n es a.1)

  item : (e : SoftEntry) → item_of (g e) ≡ item_of e
  item e =
      let I : ℕ → Key → Item = λ n k. record { id = n; rank = rank_by (is_one_header k.m) k.priority; normal = k.m } in
      ap₂ I (serial e) (key e)

  items_map : (es : List SoftEntry) → map item_of (map g es) ≡ map item_of es
  items_map [] = refl
  items_map (e ∷ es) = ap₂ (λ x xs. x ∷ xs) (item e) (items_map es)

  any_same : (u : ℕ) (es : List SoftEntry) → list_any (has_serial u) (map g es) ≡ list_any (has_serial u) es
  any_same u [] = refl
  any_same u (e ∷ es) = ap₂ (λ a b. a || b) (ap (λ n. u == n) (serial e)) (any_same u es)

  none_at : (k : Key) (es : List SoftEntry) → AllByRecursion (λ e. is_at k e ≡ false) es
      → AllByRecursion (λ e. is_at k e ≡ false) (map g es)
  none_at k [] a = tt
  none_at k (e ∷ es) a = (ap (same_key k) (key e) ∙ a.0, none_at k es a.1)

  one_at : (k : Key) (u : ℕ) (es : List SoftEntry) → AllByRecursion (λ e. is_at k e ≡ has_serial u e) es
      → AllByRecursion (λ e. is_at k e ≡ has_serial u e) (map g es)
  one_at k u [] a = tt
  one_at k u (e ∷ es) a =
      (ap (same_key k) (key e) ∙ (a.0 ∙ sym (ap (λ n. u == n) (serial e))), one_at k u es a.1)

  keyed_map : (k : Key) (o : Option ℕ) (es : List SoftEntry) → IsKeyed o k es → IsKeyed o k (map g es)
  keyed_map k None es a = none_at k es a
  keyed_map k (Some u) es a = (one_at k u es a.0, any_same u es ∙ a.1)

written_map : (g : SoftEntry → SoftEntry) → ((e : SoftEntry) → IsAsWritten e → IsAsWritten (g e)) → (es : List SoftEntry)
    → AllByRecursion IsAsWritten es → AllByRecursion IsAsWritten (map g es)
written_map g f [] a = tt
written_map g f (e ∷ es) a = (f e a.0, written_map g f es a.1)

pub changed_kept : (s : ℕ) (f : SoftEntry → SoftEntry) (pairs pairs' : List (ℕ × SoftEntry)) (number : Key → Option ℕ)
    (items : List Item) (next : ℕ) → ((e : SoftEntry) → (f e).serial ≡ e.serial)
    → ((e : SoftEntry) → key_of (f e) ≡ key_of e) → ((e : SoftEntry) → IsAsWritten e → IsAsWritten (f e))
    → IsKept pairs number items next → pairs' ≡ changed (is_at_key (nat_cmp s)) f pairs
    → IsKept pairs' number items next
    × (entries_in pairs' ≡ map (λ e. if has_serial s e then f e else e) (entries_in pairs))
changed_kept s f pairs pairs' number items next serial key written k is =
    let es = entries_in pairs in
    let g : SoftEntry → SoftEntry = λ e. if has_serial s e then f e else e in
    let l = k.listing in
    let moved : pairs' ≡ map under_serial (map g es) =
    is ∙ (ap (changed (is_at_key (nat_cmp s)) f) l.listed ∙ changed_under s f es l.rising serial) in
    let inside : entries_in pairs' ≡ map g es = ap entries_in moved ∙ in_under (map g es) in
    let B : List SoftEntry → Type 0 = λ xs. AllByRecursion (λ (e : SoftEntry). e.serial < next) xs in
    let R : List SoftEntry → Type 0 = λ xs. SameItems items (map item_of xs) in
    let W : List SoftEntry → Type 0 = λ xs. AllByRecursion IsAsWritten xs in
    let K : List SoftEntry → Type 0 = λ xs. (q : Key) → IsKeyed (number q) q xs in
    let own : (e : SoftEntry) → (g e).serial ≡ e.serial = λ e. own_by e (has_serial s e) in
    let own_key : (e : SoftEntry) → key_of (g e) ≡ key_of e = λ e. key_by e (has_serial s e) in (
      record {
        listing = record {
          listed = moved ∙ ap (map under_serial) (sym inside);
          rising = subst AreRising (sym inside) (rising_map g own own_key es l.rising);
          below = subst B (sym inside) (below_map g own own_key next es l.below);
          ranked = subst R (sym inside) (λ p. l.ranked p ∙ ap (count_by p) (sym (items_map g own own_key es)));
          written = subst W (sym inside) (written_map g (λ e. written_by e (has_serial s e)) es l.written);
        };
        keyed = subst K (sym inside) (λ q. keyed_map g own own_key q (number q) es (k.keyed q));
      },
      inside,
    )
  where
    own_by : (e : SoftEntry) (b : Bool) → (if b then f e else e).serial ≡ e.serial
    own_by e true = serial e
    own_by e false = refl

    key_by : (e : SoftEntry) (b : Bool) → key_of (if b then f e else e) ≡ key_of e
    key_by e true = key e
    key_by e false = refl

    written_by : (e : SoftEntry) (b : Bool) → IsAsWritten e → IsAsWritten (if b then f e else e)
    written_by e true w = written e w
    written_by e false w = w
