-- What a change does to what is held, in any order.
use Rattle.std.proofs.Common.{◌≡◌, ℕ, zero, suc, ◌+◌, ◌<◌, List, [], ◌∷◌, ◌++◌, Option, Some, None, length, get_or}
use Rattle.std.proofs.Common.{take, drop, map, refl, subst, sym, ap, ◌∙◌, arith, append_assoc}
use Rattle.std.specs.Prelude.{Contains, IsPermutation, filter, option_map, option_to_list}
use Rattle.std.specs.List.{AllByRecursion}
use Rattle.std.proofs.lemmas.Grind.{common_steps}
use Rattle.std.proofs.lemmas.List.{append-nil, drop_more, get_or-map, map-append, map_more}
use Rattle.std.proofs.lemmas.List.Sorted.{IsPermutation-append_comm, IsPermutation-append_left}
use Rattle.std.proofs.lemmas.List.Sorted.{IsPermutation-append_right, IsPermutation-cons, IsPermutation-map}
use Rattle.std.proofs.lemmas.List.Sorted.{IsPermutation-refl, IsPermutation-sym, IsPermutation-trans}
use Rattle.list_change.proofs.Permute.{Perm, nil, skip, turn, next, by-cases, by-equation}
use Rattle.policy_meaning.specs.declared.rule.Rule.{Rule}
use Rattle.rule_ancestry.specs.Holding.{Held, held_as, id_of, is_other, is_outside, item_at, item_of}
use Rattle.made_rules.specs.Changing.{AreHeld, AreOld, AreWidened, ChangeOf, IsPlan, IsReady, anew, is_of, settled}
use Rattle.made_rules.specs.Changing.{was_of, wide_of}
use Rattle.made_rules.specs.Parting.{AreApart, IsToldApart, was_of as old_of, is_of as new_of}
use Rattle.made_rules.specs.Rules.{rule_held, rule_under, rules_in}
use Rattle.made_rules.specs.declared.made.Made.{Made}
use Rattle.made_rules.specs.declared.parting.Both.{Both}
use Rattle.made_rules.specs.declared.stay.Stay.{Stay}
use Rattle.made_rules.proofs.Ids.{Rising, item-there, same-held, without-all, without-one}
use Rattle.rule_ancestry.proofs.Lists.{found-all}
use Rattle.policy_meaning.proofs.Rising.{all-permuted}

-- ---- a list that came of another by a function, in parts and in another order
module _ {X Y : Type 0} (f : X → Y) where
  pub record Lifted (xs : List X) (zs : List Y) : Type 0 where
    pub items : List X
    pub is : map f items ≡ zs
    pub all : IsPermutation xs items

  pub lift : (xs : List X) {ws zs : List Y} → Perm ws zs → map f xs ≡ ws → Lifted xs zs
  lift xs nil e = record { items = xs; is = e; all = IsPermutation-refl xs }
  lift [] (skip w p) e = absurd (cc)
  lift (x ∷ xs) (skip {xs = ws} {ys = vs} w p) e =
      let head : f x ≡ w = cc in
      let tail : map f xs ≡ ws = cc in
      let r = lift xs p tail in
      record {
        items = x ∷ r.items;
        is = ap (λ z. f x ∷ z) r.is
            ∙ ap (λ y. y ∷ vs) head;
        all = IsPermutation-cons x xs r.items r.all;
      }
  lift [] (turn v w ws) e = absurd (cc)
  lift (x ∷ []) (turn v w ws) e = absurd (cc)
  lift (x ∷ y ∷ xs) (turn v w ws) e =
      let one : f x ≡ v = cc in
      let two : f y ≡ w = cc in
      let tail : map f xs ≡ ws = cc in
      record {
        items = y ∷ x ∷ xs;
        is = ap (λ a. a ∷ f x ∷ map f xs) two ∙ ap (λ a. w ∷ a ∷ map f xs) one ∙ ap (λ z. w ∷ v ∷ z) tail;
        all = IsPermutation-append_left xs (x ∷ y ∷ []) (y ∷ x ∷ []) (IsPermutation-append_comm (x ∷ []) (y ∷ []));
      }
  lift xs (next p q) e =
      let r = lift xs p e in
      let t = lift r.items q r.is in
      record { items = t.items; is = t.is; all = IsPermutation-trans xs r.items t.items r.all t.all }

  record Split (xs : List X) (us vs : List Y) : Type 0 where
    first : List X
    second : List X
    first_is : map f first ≡ us
    second_is : map f second ≡ vs
    all : xs ≡ first ++ second

  split : (xs : List X) (us vs : List Y) → map f xs ≡ us ++ vs → Split xs us vs
  split xs [] vs e = record { first = []; second = xs; first_is = refl; second_is = e; all = refl }
  split [] (u ∷ us) vs e = absurd (cc)
  split (x ∷ xs) (u ∷ us) vs e =
      let head : f x ≡ u = cc in
      let tail : map f xs ≡ us ++ vs = cc in
      let r = split xs us vs tail in
      record {
        first = x ∷ r.first;
        second = r.second;
        first_is = ap (λ z. f x ∷ z) r.first_is
            ∙ ap (λ y. y ∷ us) head;
        second_is = r.second_is;
        all = ap (λ z. x ∷ z) r.all;
      }

  in-map : (xs : List X) (x : X) → Contains xs x → Contains (map f xs) (f x)
  in-map [] x (k, below, e) = absurd (omega arith)
  in-map (y ∷ xs) x (zero, below, e) = (0, grind (arith, common_steps), ap f e)
  in-map (y ∷ xs) x (suc k, below, e) = let r = in-map xs x (k, omega arith, e) in
      (suc r.0, let l = r.1 in grind (arith, common_steps), r.2)

map-map : {X Y Z : Type 0} (g : Y → Z) (f : X → Y) (xs : List X) → map g (map f xs) ≡ map (λ x. g (f x)) xs
map-map g f [] = refl
map-map g f (x ∷ xs) = ap (λ z. g (f x) ∷ z) (map-map g f xs)

-- ---- parts in another order
module _ {X : Type 0} where
  pub front : (a g m : List X) → IsPermutation ((a ++ g) ++ m) (g ++ (a ++ m))
  front a g m = IsPermutation-trans _ ((g ++ a) ++ m) _
      (IsPermutation-append_left m (a ++ g) (g ++ a) (IsPermutation-append_comm a g))
      (by-equation _ _ (append_assoc g a m))

  pub second-front : (k c g m : List X) → IsPermutation (((k ++ c) ++ g) ++ m) (c ++ ((k ++ g) ++ m))
  second-front k c g m =
      IsPermutation-trans _ ((k ++ c) ++ (g ++ m)) _ (by-equation _ _ (append_assoc (k ++ c) g m))
      (IsPermutation-trans _ (c ++ (k ++ (g ++ m))) _ (front k c (g ++ m))
      (by-equation _ _ (ap (λ z. c ++ z) (sym (append_assoc k g m)))))

-- ---- the rules of some ids go
pub shorter : {X : Type 0} (x : X) (xs : List X) (i : ℕ) → suc i < length (x ∷ xs) → i < length xs
shorter x xs i p = omega arith

abbrev pub nth : {X : Type 0} (xs : List X) (i : ℕ) → i < length xs → X
nth [] i p = absurd (omega arith)
nth (x ∷ xs) zero p = x
nth (x ∷ xs) (suc i) p = nth xs i (shorter x xs i p)

pub get-nth : {X : Type 0} (xs : List X) (i : ℕ) (p : i < length xs) (d : X) → get_or xs i d ≡ nth xs i p
get-nth [] i p d = absurd (omega arith)
get-nth (x ∷ xs) zero p d = refl
get-nth (x ∷ xs) (suc i) p d = get-nth xs i (shorter x xs i p) d

pub drop-nth : {X : Type 0} (xs : List X) (i : ℕ) (p : i < length xs) → drop i xs ≡ nth xs i p ∷ drop (i + 1) xs
drop-nth xs i p = drop_more xs i (nth xs i p) p ∙ ap (λ z. z ∷ drop (i + 1) xs) (get-nth xs i p (nth xs i p))

abbrev pub Leaves : List (Held Made) → List (Held Made) → List Made → List Made → List ℕ → ℕ → Type 0
Leaves first now left left' gone i = (going rest : List (Held Made)) → map id_of going ≡ gone
    → IsPermutation first (going ++ rest) → IsPermutation now (drop i going ++ rest)
    × (left' ≡ left ++ map item_of (take i going))

pub length-map : {X Y : Type 0} (f : X → Y) (xs : List X) → length (map f xs) ≡ length xs
length-map f [] = refl
length-map f (x ∷ xs) = grind (arith, common_steps, length-map f xs)

pub leaves-none : (first : List (Held Made)) (left : List Made) (gone : List ℕ) → Leaves first first left left gone 0
leaves-none first left gone going rest e p = (p, sym (append-nil left))

pub leaves-more : (first now now' : List (Held Made)) (left left' left2 : List Made) (gone : List ℕ) (i d : ℕ)
    → i < length gone → Leaves first now left left' gone i →
    ((item : Made) (rest : List (Held Made)) → IsPermutation now (record { id = get_or gone i d; item = item } ∷ rest)
    → IsPermutation now' rest) →
    ((item : Made) (rest : List (Held Made)) → IsPermutation now (record { id = get_or gone i d; item = item } ∷ rest)
    → left2 ≡ left' ++ item ∷ []) →
    Leaves first now' left left2 gone (i + 1)
leaves-more first now now' left left' left2 gone i d lt h out add going rest e p =
    let below : i < length going = let l = length-map id_of going in let m = ap (λ (z : List ℕ). length z) e in
    omega arith in
    let x = nth going i below in
    let r = h going rest e p in
    let is : x.id ≡ get_or gone i d =
    sym (ap (λ z. get_or z i d) (sym e) ∙ get_or-map id_of going i x d below
    ∙ ap id_of (get-nth going i below x)) in
    let q : IsPermutation now (record { id = get_or gone i d; item = x.item } ∷ (drop (i + 1) going ++ rest)) =
    subst (λ (j : ℕ). IsPermutation now (record { id = j; item = x.item } ∷ (drop (i + 1) going ++ rest))) is
    (subst (λ z. IsPermutation now (z ++ rest)) (drop-nth going i below) r.0) in (
      out x.item _ q,
      add x.item _ q ∙ ap (λ z. z ++ x.item ∷ []) r.1 ∙ append_assoc left (map item_of (take i going)) (x.item ∷ [])
          ∙ ap (λ z. left ++ z) (ap (λ y. map item_of (take i going) ++ item_of y ∷ []) (sym (get-nth going i below x))
          ∙ sym (map_more item_of going i x below)),
    )

-- ---- one id of several
module _ (P : Held Made → Type 0) where
  at-nth : (items rest : List (Held Made)) (i : ℕ) (lt : i < length items) → AllByRecursion P (items ++ rest)
      → P (nth items i lt)
  at-nth [] rest i lt a = absurd (omega arith)
  at-nth (x ∷ items) rest zero lt a = a.0
  at-nth (x ∷ items) rest (suc i) lt a = at-nth items rest i (shorter x items i lt) a.1

module _ (store items rest : List (Held Made)) (ids : List ℕ) (i d : ℕ) (up : Rising store)
    (are : map id_of items ≡ ids) (p : IsPermutation store (items ++ rest)) (lt : i < length ids) where
  below : i < length items
  below = let l = length-map id_of items in let m = ap (λ (z : List ℕ). length z) are in omega arith

  id-nth : (nth items i below).id ≡ get_or ids i d
  id-nth = sym (ap (λ z. get_or z i d) (sym are) ∙ get_or-map id_of items i (nth items i below) d below
      ∙ ap id_of (get-nth items i below (nth items i below)))

  there-nth : item_at store (get_or ids i d) ≡ Some ((nth items i below).item)
  there-nth =
      subst (λ (z : ℕ). item_at store z ≡ Some ((nth items i below).item)) id-nth
      (at-nth (λ (x : Held Made). item_at store x.id ≡ Some x.item) items rest i below
      (all-permuted store (items ++ rest) p (λ (x : Held Made). item_at store x.id ≡ Some x.item)
      (found-all store up)))

  pub olds-more : (olds olds' : List (Held Rule)) (old : Option (Held Rule)) → olds ≡ rules_in (take i items)
      → old ≡ option_map (rule_under (get_or ids i d)) (item_at store (get_or ids i d))
      → olds' ≡ olds ++ option_to_list old → olds' ≡ rules_in (take (i + 1) items)
  olds-more olds olds' old far is added =
      let x = nth items i below in
      added ∙ ap (λ z. z ++ option_to_list old) far
      ∙ ap (λ z. rules_in (take i items) ++ option_to_list z)
      (is ∙ ap (option_map (rule_under (get_or ids i d))) there-nth)
      ∙ ap (λ (z : ℕ). rules_in (take i items) ++ (record { id = z; item = x.item.rule }) ∷ []) (sym id-nth)
      ∙ ap (λ (z : Held Made). rules_in (take i items) ++ rule_held z ∷ []) (sym (get-nth items i below x))
      ∙ sym (map_more rule_held items i x below)

-- ---- one rule goes
pub out-rest : (store new rest : List (Held Made)) (id : ℕ) (item : Made) → Rising store
    → IsPermutation store ((record { id = id; item = item }) ∷ rest) → new ≡ filter (is_other id) store
    → IsPermutation new rest
out-rest store new rest id item up p e = subst (λ z. IsPermutation z rest) (sym e)
    (without-one store rest (record { id = id; item = item }) up p)

pub out-item : (store rest : List (Held Made)) (id : ℕ) (item found : Made) → Rising store
    → IsPermutation store ((record { id = id; item = item }) ∷ rest) → item_at store id ≡ Some found → found ≡ item
out-item store rest id item found up p e = let s : Some found ≡ Some item = sym e
    ∙ item-there store rest (record { id = id; item = item }) up p in cc

pub out-there : (store rest : List (Held Made)) (id : ℕ) (item : Made) → Rising store
    → IsPermutation store ((record { id = id; item = item }) ∷ rest) → item_at store id ≡ None → ⊥
out-there store rest id item up p e = let s : Some item ≡ None =
    sym (item-there store rest (record { id = id; item = item }) up p) ∙ e in absurd (cc)

-- ---- what is told apart is a plan
ids-rules : (hs : List (Held Made)) → map id_of (rules_in hs) ≡ map id_of hs
ids-rules [] = refl
ids-rules (h ∷ hs) = ap (λ z. h.id ∷ z) (ids-rules hs)

pub planned : (held : List (Held Made)) (lost : List ℕ) (made : List Made) (olds rest : List (Held Rule))
    (come : List Made) (both : List Both) (gone : List ℕ) → (h : AreHeld lost held) → olds ≡ rules_in h.items →
    IsToldApart olds made rest come both → gone ≡ map id_of rest → IsPlan held lost made gone come both
planned held lost made olds rest come both gone h are t ids =
    let l = lift rule_held h.items (by-cases _ _ t.was) (sym are) in
    let s = split rule_held l.items rest (map old_of both) l.is in
    let items : IsPermutation h.items (s.first ++ s.second) = IsPermutation-trans _ _ _ l.all (by-equation _ _ s.all) in
    record {
      kept = h.rest;
      going = s.first;
      staying = s.second;
      all = IsPermutation-trans _ _ _ h.all
          (IsPermutation-trans _ _ _ (IsPermutation-append_left h.rest h.items (s.first ++ s.second) items)
          (IsPermutation-trans _ _ _ (IsPermutation-append_comm (s.first ++ s.second) h.rest)
          (by-equation _ _ (sym (append_assoc h.rest s.first s.second)))));
      gone_are = sym (ids ∙ ap (map id_of) (sym s.first_is) ∙ ids-rules s.first);
      both_are = s.second_is;
      lost_are = subst (λ z. IsPermutation z (map id_of (s.first ++ s.second))) h.ids_are
          (IsPermutation-map id_of h.items (s.first ++ s.second) items);
      made_are = t.is;
      apart = subst (λ z. AreApart z come) (sym s.first_is) t.apart;
    }

-- ---- what a plan makes ready
held-ids : (ids : List ℕ) (items : List Made) → length ids ≡ length items → map id_of (held_as ids items) ≡ ids
held-ids [] [] e = refl
held-ids [] (x ∷ items) e = absurd (let z : 0 ≡ length (x ∷ items) = e in grind (arith, common_steps))
held-ids (i ∷ ids) [] e = absurd (let z : length (i ∷ ids) ≡ 0 = e in grind (arith, common_steps))
held-ids (i ∷ ids) (x ∷ items) e =
    ap (λ z. i ∷ z)
    (held-ids ids items (let z : length (i ∷ ids) ≡ length (x ∷ items) = e in grind (arith, common_steps)))

held-items : (ids : List ℕ) (items : List Made) → length ids ≡ length items → map item_of (held_as ids items) ≡ items
held-items [] [] e = refl
held-items [] (x ∷ items) e = absurd (let z : 0 ≡ length (x ∷ items) = e in grind (arith, common_steps))
held-items (i ∷ ids) [] e = absurd (let z : length (i ∷ ids) ≡ 0 = e in grind (arith, common_steps))
held-items (i ∷ ids) (x ∷ items) e =
    ap (λ z. x ∷ z)
    (held-items ids items (let z : length (i ∷ ids) ≡ length (x ∷ items) = e in grind (arith, common_steps)))

anew-items : (stays : List Stay) (both : List Both) → map is_of stays ≡ map anew both
    → map item_of (map is_of stays) ≡ map new_of both
anew-items stays both e = ap (map item_of) e ∙ map-map item_of anew both

-- of a plan, the rules that are made again are held
pub plan-olds : (held : List (Held Made)) (lost : List ℕ) (made : List Made) (gone : List ℕ) (come : List Made)
    (both : List Both) → IsPlan held lost made gone come both → AreOld held both
plan-olds held lost made gone come both p =
    record { rest = p.kept ++ p.going; was = p.staying; same = p.both_are; all = p.all }

module _ (held wide now : List (Held Made)) (lost : List ℕ) (made : List Made) (gone ids : List ℕ) (come : List Made)
    (both : List Both) (stays : List Stay) (up : Rising held) (p : IsPlan held lost made gone come both)
    (w : AreWidened (p.kept ++ p.going) p.staying both wide stays) (count : length ids ≡ length come)
    (added : IsPermutation (held_as ids come ++ wide) now) where
  pub plan-ready : IsReady held now lost made (record { gone = gone; come = ids; stays = stays })
  plan-ready =
      let coming = held_as ids come in
      record {
        kept = p.kept;
        going = p.going;
        coming = coming;
        rises = up;
        was = subst (λ z. IsPermutation held ((p.kept ++ p.going) ++ z)) (sym w.as_was) p.all;
        is = IsPermutation-trans _ _ _ (IsPermutation-sym _ _ added)
            (IsPermutation-trans _ _ _ (IsPermutation-append_right coming wide _ w.all)
            (IsPermutation-sym _ _ (second-front p.kept coming p.going (map wide_of stays))));
        gone = p.gone_are;
        come = held-ids ids come count;
        lost_are = subst (λ z. IsPermutation lost (map id_of (p.going ++ z))) (sym w.as_was) p.lost_are;
        made_are = IsPermutation-trans _ _ _ p.made_are
            (by-equation _ _ (ap (λ z. z ++ map new_of both) (sym (held-items ids come count))
            ∙ ap (λ z. map item_of coming ++ z) (sym (anew-items stays both w.as_is))
            ∙ sym (map-append item_of coming (map is_of stays))));
        apart = λ g c i j e. p.apart (rule_held g) c.item (in-map rule_held p.going g i)
            (subst (λ z. Contains z c.item) (held-items ids come count) (in-map item_of coming c j)) e;
      }

-- the rules that stay are narrowed back
pub plan-undone : (held wide new : List (Held Made)) (rest was : List (Held Made)) (both : List Both)
    (stays : List Stay) → Rising held → Rising new → IsPermutation held (rest ++ was)
    → AreWidened rest was both wide stays →
    IsPermutation new (rest ++ map was_of stays) → new ≡ held
plan-undone held wide new rest was both stays up rise p w n =
    same-held new held rise up
    (IsPermutation-trans _ _ _ n
    (IsPermutation-sym _ _ (subst (λ z. IsPermutation held (rest ++ z)) (sym w.as_was) p)))

-- ---- what is ready is settled, or taken back
module _ (before now : List (Held Made)) (lost : List ℕ) (made : List Made) (change : ChangeOf)
    (r : IsReady before now lost made change) where
  pub ready-settled : (narrow new : List (Held Made))
      → IsPermutation narrow (((r.kept ++ r.coming) ++ r.going) ++ map is_of change.stays) →
      ((going rest : List (Held Made)) → map id_of going ≡ change.gone → IsPermutation narrow (going ++ rest)
      → IsPermutation new rest) → IsPermutation new (settled r)
  ready-settled narrow new n out = out r.going (settled r) r.gone
      (IsPermutation-trans _ _ _ n (front (r.kept ++ r.coming) r.going (map is_of change.stays)))

  pub ready-left : (narrow : List (Held Made))
      → IsPermutation narrow (((r.kept ++ r.coming) ++ r.going) ++ map is_of change.stays)
      → IsPermutation narrow (r.going ++ settled r)
  ready-left narrow n = IsPermutation-trans _ _ _ n (front (r.kept ++ r.coming) r.going (map is_of change.stays))

  pub ready-undone : (narrow new : List (Held Made)) → Rising narrow → Rising new
      → IsPermutation narrow (((r.kept ++ r.coming) ++ r.going) ++ map was_of change.stays) →
      new ≡ filter (is_outside change.come) narrow → new ≡ before
  ready-undone narrow new up rise n e =
      same-held new before rise r.rises
      (subst (λ z. IsPermutation z before) (sym (e ∙ ap (λ z. filter (is_outside z) narrow) (sym r.come)))
      (IsPermutation-trans _ _ _
      (without-all narrow r.coming ((r.kept ++ r.going) ++ map was_of change.stays) up
      (IsPermutation-trans _ _ _ n (second-front r.kept r.coming r.going (map was_of change.stays))))
      (IsPermutation-sym _ _ r.was)))
