-- A switch goes down: its cookies end, place by place.
use Rattle.std.proofs.Common.{◌≡◌, ℕ, zero, suc, ◌+◌, ◌<◌, Bool, true, false, cond, ◌||◌, List, [], ◌∷◌, length, get_or}
use Rattle.std.proofs.Common.{take, refl, sym, ap, subst, ◌∙◌, arith, true≢false}
use Rattle.std.specs.Prelude.{◌==◌, Option, Some, None, is_some, unwrap_or}
use Rattle.std.specs.List.{AllByRecursion, list_any}
use Rattle.std.specs.List.Sorted.{IsStrictlySortedBy}
use Rattle.std.specs.Map.{keys_of, lookup}
use Rattle.std.specs.Ordering.{is_eq}
use Rattle.std.specs.declared.cmp.Ordering.TheVariants.{Less}
use Rattle.std.proofs.lemmas.Cmp.{tied_itself}
use Rattle.std.proofs.lemmas.Map.{lookup-none}
use Rattle.std.proofs.lemmas.Map.Entries.{lookup-filter-keys, none_below_head}
use Rattle.switch_meaning.specs.Counts.{Cookie}
use Rattle.stats_map.specs.Counting.{Cookies, CountsOf, Place, all_ended, cookie_at, downed, ended, of_switch}
use Rattle.stats_map.specs.Counting.{place_cmp}
use Rattle.stats_map.specs.Slots.{HasKey, slot_or, value_at}
use Rattle.stats_map.specs.Overlay.{IsDrawn, SwitchIsDrawn, now_of}
use Rattle.stats_map.specs.Pending.{ended_if, ended_now}
use Rattle.stats_map.specs.Told.{told}
use Rattle.stats_map.specs.declared.overlay.Overlay.{Overlay}
use Rattle.stats_map.proofs.Adding.{equal-is}
use Rattle.stats_map.proofs.Happening.{any-next}
use Rattle.stats_map.proofs.Laying.{place_exact}
use Rattle.stats_map.proofs.Rows.{at, place_total}
use Rattle.stats_map.proofs.SlotSums.{some-keys}
use Rattle.stats_map.proofs.Overlays.{Rise, at-laid, at-slot, same-turned}
use Rattle.stats_map.proofs.Switches.{at-front, part_of, same-is}

at-is : (a b : Place) → at a b ≡ true → a ≡ b
at-is a b t = place_exact a b (equal-is (place_cmp a b) t)

-- the values at the places of a switch
part-at : {V : Type 0} (switch : ℕ) (q : Place) (es : List (Place × V))
    → value_at place_cmp q (part_of switch es) ≡ cond (q.0 == switch) (value_at place_cmp q es) None
part-at switch q es = lookup-filter-keys (at q) (λ (k : Place). k.0 == switch) (q.0 == switch)
    (λ k t. ap (λ (z : Place). z.0 == switch) (sym (at-is q k t))) es

above-part : {V : Type 0} (switch : ℕ) (x : Place) (es : List (Place × V))
    → AllByRecursion (λ z. place_cmp x z ≡ Less) (keys_of es)
    → AllByRecursion (λ z. place_cmp x z ≡ Less) (keys_of (part_of switch es))
above-part switch x [] a = tt
above-part switch x (e ∷ es) a = by (e.0.0 == switch) (above-part switch x es a.1)
  where
    by : (b : Bool) → AllByRecursion (λ z. place_cmp x z ≡ Less) (keys_of (part_of switch es))
        → AllByRecursion (λ z. place_cmp x z ≡ Less) (keys_of (cond b (e ∷ part_of switch es) (part_of switch es)))
    by true rest = (a.0, rest)
    by false rest = rest

pub part-rise : {V : Type 0} (switch : ℕ) (es : List (Place × V)) → Rise place_total es
    → Rise place_total (part_of switch es)
unfolding IsStrictlySortedBy
part-rise switch [] r = tt
part-rise switch (e ∷ es) r = by (e.0.0 == switch) (part-rise switch es r.1)
  where
    by : (b : Bool) → IsStrictlySortedBy place_cmp (keys_of (part_of switch es))
        → IsStrictlySortedBy place_cmp (keys_of (cond b (e ∷ part_of switch es) (part_of switch es)))
    by true rest = (above-part switch e.0 es r.0, rest)
    by false rest = rest

-- places that are listed are those of the switch that have a value
module _ {V : Type 0} (switch : ℕ) (es : List (Place × V)) (places : List Place)
    (is : places ≡ keys_of (part_of switch es)) (q : Place) where
  listed : list_any (at q) places ≡ is_some (cond (q.0 == switch) (value_at place_cmp q es) None)
  listed = ap (list_any (at q)) is ∙ (sym (some-keys (at q) (part_of switch es)) ∙ ap is_some (part-at switch q es))

  pub listed-own : list_any (at q) places ≡ true → (q.0 == switch) ≡ true
  listed-own t = by (q.0 == switch) (sym listed ∙ t)
    where
      by : (b : Bool) → is_some (cond b (value_at place_cmp q es) None) ≡ true → b ≡ true
      by true u = refl
      by false u = absurd (true≢false (sym u))

  pub listed-has : list_any (at q) places ≡ true → HasKey place_cmp q es
  listed-has t = by (q.0 == switch) (sym listed ∙ t)
    where
      by : (b : Bool) → is_some (cond b (value_at place_cmp q es) None) ≡ true → HasKey place_cmp q es
      by true u = u
      by false u = absurd (true≢false (sym u))

  pub has-listed : (q.0 == switch) ≡ true → HasKey place_cmp q es → list_any (at q) places ≡ true
  has-listed t h = listed ∙ (ap (λ (b : Bool). is_some (cond b (value_at place_cmp q es) None)) t ∙ h)

-- a place that is not after any other of its part comes first
front : (p : Place) (c : Cookie) (part : Cookies) → Rise place_total part → value_at place_cmp p part ≡ Some c
    → ((q : Place) → HasKey place_cmp q part → at q p ≡ false → place_cmp p q ≡ Less)
    → (rest : Cookies) × (part ≡ (p, c) ∷ rest)
front p c [] r found least = absurd (true≢false (sym (ap is_some found)))
front p c (e ∷ es) r found least = by (at p e.0) refl
  where
    head : is_some (lookup (at e.0) (e ∷ es)) ≡ true
    head = ap (λ b. is_some (cond b (Some e.1) (lookup (at e.0) es))) (ap is_eq (tied_itself place_total e.0))

    by : (b : Bool) → at p e.0 ≡ b → (rest : Cookies) × (e ∷ es ≡ (p, c) ∷ rest)
    by true t =
        let key : e.0 ≡ p = sym (at-is p e.0 t) in
        let value : e.1 ≡ c = ap (λ (o : Option Cookie). unwrap_or o e.1)
        (sym (ap (λ b. cond b (Some e.1) (lookup (at p) es)) t) ∙ found) in
        (es, λ i. (key i, value i) ∷ es)
    by false t =
        let none = lookup-none (at p) (e ∷ es)
        (none_below_head place_total p e es r (least e.0 head (same-turned place_total e.0 p ∙ t))) in
        absurd (true≢false (ap is_some (sym found ∙ none)))

-- each place of the switch that has a cookie is among these
abbrev pub Covers : ℕ → List Place → CountsOf → Type 0
Covers switch places s = (q : Place) → (q.0 == switch) ≡ true → HasKey place_cmp q s.live
    → list_any (at q) places ≡ true

later : (p q : Place) (rest : List Place) → list_any (at q) (p ∷ rest) ≡ true → at q p ≡ false
    → list_any (at q) rest ≡ true
later p q rest t f = sym (ap (λ b. b || list_any (at q) rest) f) ∙ t

below-listed : (p q : Place) (rest : List Place) → AllByRecursion (λ z. place_cmp p z ≡ Less) rest
    → list_any (at q) rest ≡ true → place_cmp p q ≡ Less
below-listed p q [] a t = absurd (true≢false (sym t))
below-listed p q (x ∷ xs) a t = by (at q x) refl (λ u. below-listed p q xs a.1 u)
  where
    by : (b : Bool) → at q x ≡ b → (list_any (at q) xs ≡ true → place_cmp p q ≡ Less) → place_cmp p q ≡ Less
    by true f go = ap (place_cmp p) (at-is q x f) ∙ a.0
    by false f go = go (later x q xs t f)

-- the cookie of the first place ends, if there is one
module _ (switch : ℕ) (p : Place) (rest : List Place) (above : AllByRecursion (λ z. place_cmp p z ≡ Less) rest)
    (s s' : CountsOf) (r : Rise place_total s.live)
    (cover : Covers switch (p ∷ rest) s) (own : (p.0 == switch) ≡ true) (done : s' ≡ ended_now p s) where
  none-same : cookie_at p s ≡ None → s' ≡ s
  none-same e = done ∙ ap (λ (o : Option Cookie). ended_if o p s) e

  some-ended : (c : Cookie) → cookie_at p s ≡ Some c → s' ≡ ended p c s
  some-ended c e = done ∙ ap (λ (o : Option Cookie). ended_if o p s) e

  least : (q : Place) → HasKey place_cmp q (of_switch switch s.live) → at q p ≡ false → place_cmp p q ≡ Less
  least q h f =
      let in-part = sym (ap is_some (part-at switch q s.live)) ∙ h in
      below-listed p q rest above (later p q rest (by (q.0 == switch) refl in-part) f)
    where
      by : (b : Bool) → (q.0 == switch) ≡ b → is_some (cond b (value_at place_cmp q s.live) None) ≡ true
          → list_any (at q) (p ∷ rest) ≡ true
      by true t u = cover q t u
      by false t u = absurd (true≢false (sym u))

  pub rest-covers : Covers switch rest s'
  rest-covers q t h = by (cookie_at p s) refl
    where
      by : (o : Option Cookie) → cookie_at p s ≡ o → list_any (at q) rest ≡ true
      by None e = here (at q p) refl
        where
          has : HasKey place_cmp q s.live
          has = ap (λ (z : CountsOf). is_some (value_at place_cmp q z.live)) (sym (none-same e)) ∙ h

          here : (b : Bool) → at q p ≡ b → list_any (at q) rest ≡ true
          here true f =
              absurd
              (true≢false (sym has ∙ ap is_some (ap (λ (z : Place). value_at place_cmp z s.live) (at-is q p f) ∙ e)))
          here false f = later p q rest (cover q t has) f
      by (Some c) e = here (at p q) refl
        where
          left : value_at place_cmp q s'.live ≡ cond (at p q) None (value_at place_cmp q s.live)
          left = ap (λ (z : CountsOf). value_at place_cmp q z.live) (some-ended c e)
              ∙ at-slot place_total q p None s.live r

          here : (b : Bool) → at p q ≡ b → list_any (at q) rest ≡ true
          here true f =
              absurd
              (true≢false (sym h ∙ (ap is_some left ∙ ap (λ b. is_some (cond b None (value_at place_cmp q s.live))) f)))
          here false f =
              later p q rest
              (cover q t (sym (ap is_some left ∙ ap (λ b. is_some (cond b None (value_at place_cmp q s.live))) f)
              ∙ h)) (same-turned place_total q p ∙ f)

  pub rest-ends : all_ended (of_switch switch s'.live) s' ≡ all_ended (of_switch switch s.live) s
  rest-ends = by (cookie_at p s) refl
    where
      by : (o : Option Cookie) → cookie_at p s ≡ o
          → all_ended (of_switch switch s'.live) s' ≡ all_ended (of_switch switch s.live) s
      by None e = ap (λ (z : CountsOf). all_ended (of_switch switch z.live) z) (none-same e)
      by (Some c) e =
          let found = part-at switch p s.live ∙ (ap (λ b. cond b (value_at place_cmp p s.live) None) own ∙ e) in
          let first = front p c (of_switch switch s.live) (part-rise switch s.live r) found least in
          let at-first = at-front switch s.live p c first.0 first.1 in
          let now = some-ended c e in
          let tail : of_switch switch s'.live ≡ first.0 = ap (of_switch switch) (ap (λ (z : CountsOf). z.live) now)
          ∙ at-first.left in
          (λ i. all_ended (tail i) (now i)) ∙ ap (λ cookies. all_ended cookies s) (sym first.1)

-- no place is left
pub none-left : (switch : ℕ) (s : CountsOf) → Covers switch [] s → all_ended (of_switch switch s.live) s ≡ s
none-left switch s cover = ap (λ cookies. all_ended cookies s) (by (of_switch switch s.live) refl)
  where
    head : (e : Place × Cookie) (es : Cookies) → is_some (lookup (at e.0) (e ∷ es)) ≡ true
    head e es = ap (λ b. is_some (cond b (Some e.1) (lookup (at e.0) es))) (ap is_eq (tied_itself place_total e.0))

    by : (part : Cookies) → of_switch switch s.live ≡ part → part ≡ []
    by [] e = refl
    by (x ∷ xs) e = absurd (true≢false (sym (listed-in x (own x in-part) (has x in-part))))
      where
        in-part : is_some (cond (x.0.0 == switch) (value_at place_cmp x.0 s.live) None) ≡ true
        in-part = sym (ap is_some (part-at switch x.0 s.live))
            ∙ (ap (λ (cs : Cookies). is_some (value_at place_cmp x.0 cs)) e ∙ head x xs)

        own : (y : Place × Cookie) → is_some (cond (y.0.0 == switch) (value_at place_cmp y.0 s.live) None) ≡ true
            → (y.0.0 == switch) ≡ true
        own y t = go (y.0.0 == switch) t
          where
            go : (b : Bool) → is_some (cond b (value_at place_cmp y.0 s.live) None) ≡ true → b ≡ true
            go true u = refl
            go false u = absurd (true≢false (sym u))

        has : (y : Place × Cookie) → is_some (cond (y.0.0 == switch) (value_at place_cmp y.0 s.live) None) ≡ true
            → HasKey place_cmp y.0 s.live
        has y t = go (y.0.0 == switch) t
          where
            go : (b : Bool) → is_some (cond b (value_at place_cmp y.0 s.live) None) ≡ true → HasKey place_cmp y.0 s.live
            go true u = u
            go false u = absurd (true≢false (sym u))

        listed-in : (y : Place × Cookie) → (y.0.0 == switch) ≡ true → HasKey place_cmp y.0 s.live → false ≡ true
        listed-in y t h = cover y.0 t h

-- the places whose cookies have still to end, and that then all of the switch have
pub record AreLeft (switch : ℕ) (places : List Place) (s start : CountsOf) : Type 0 where
  pub rise : IsStrictlySortedBy place_cmp places
  pub covers : Covers switch places s
  pub ends : all_ended (of_switch switch s.live) s ≡ downed switch start

pub left-next : (switch : ℕ) (p : Place) (rest : List Place) (s s' start : CountsOf) → Rise place_total s.live
    → (p.0 == switch) ≡ true → s' ≡ ended_now p s → AreLeft switch (p ∷ rest) s start → AreLeft switch rest s' start
unfolding IsStrictlySortedBy
left-next switch p rest s s' start r own done was = record {
  rise = was.rise.1;
  covers = rest-covers switch p rest was.rise.0 s s' r was.covers own done;
  ends = rest-ends switch p rest was.rise.0 s s' r was.covers own done ∙ was.ends;
}

pub left-none : (switch : ℕ) (s start : CountsOf) → AreLeft switch [] s start → s ≡ downed switch start
left-none switch s start was = sym (none-left switch s was.covers) ∙ was.ends

-- all places of the switch, where each that has a cookie has a slot
pub left-all : (switch : ℕ) (o : Overlay) (places : List Place) → places ≡ keys_of (part_of switch o.live.entries)
    → Rise place_total o.live.entries → SwitchIsDrawn switch o
    → AreLeft switch places (told (now_of o)) (told (now_of o))
left-all switch o places is r drawn = record {
  rise = subst (IsStrictlySortedBy place_cmp) (sym is) (part-rise switch o.live.entries r);
  covers = λ q t h. has-listed switch o.live.entries places is q t (drawn q (grind (arith, t)) h);
  ends = refl;
}

-- places of a switch that have a cookie and no slot are among those that stand
pub switch-drawn : (switch : ℕ) (o : Overlay) (places : List Place) (base : Cookies)
    → places ≡ keys_of (part_of switch base) → base ≡ o.base.now.live → Rise place_total o.base.now.live
    → ((q : Place) → list_any (at q) places ≡ true → IsDrawn q o) → SwitchIsDrawn switch o
switch-drawn switch o places base is b r all q own h =
    by (value_at place_cmp q o.live.entries) refl
    (sym (ap is_some (at-laid place_total o.live.entries o.base.now.live r q)) ∙ h)
  where
    by : (slot : Option (Option Cookie)) → value_at place_cmp q o.live.entries ≡ slot
        → is_some (slot_or (value_at place_cmp q o.live.entries) (value_at place_cmp q o.base.now.live)) ≡ true
        → IsDrawn q o
    by (Some slot) e t = ap is_some e
    by None e t =
        let stands : HasKey place_cmp q base =
        ap (λ (cookies : Cookies). is_some (value_at place_cmp q cookies)) b
        ∙ (sym (ap (λ (z : Option (Option Cookie)). is_some (slot_or z (value_at place_cmp q o.base.now.live))) e)
        ∙ t) in
        all q (has-listed switch base places is q (same-is q.0 switch own) stands)

-- a place that stands in a list
pub listed-at : (xs : List Place) (i : ℕ) (x : Place) → i < length xs → x ≡ get_or xs i x → list_any (at x) xs ≡ true
listed-at [] i x lt e = absurd (omega arith)
listed-at (y ∷ ys) zero x lt e = ap (λ b. b || list_any (at x) ys)
    (ap (at x) (sym e) ∙ ap is_eq (tied_itself place_total x))
listed-at (y ∷ ys) (suc i) x lt e = by (at x y) (listed-at ys i x (omega arith) e)
  where
    by : (b : Bool) → list_any (at x) ys ≡ true → (b || list_any (at x) ys) ≡ true
    by true t = refl
    by false t = t

-- what held of the places so far and holds of one more
pub one-more-place : (xs : List Place) (i : ℕ) (x : Place) (o o' : Overlay) → i < length xs → x ≡ get_or xs i x
    → ((q : Place) → IsDrawn q o → IsDrawn q o') → IsDrawn x o'
    → ((q : Place) → list_any (at q) (take i xs) ≡ true → IsDrawn q o) → (q : Place)
    → list_any (at q) (take (i + 1) xs) ≡ true → IsDrawn q o'
one-more-place xs i x o o' lt is stay now before q t =
    by (list_any (at q) (take i xs)) refl (at q x) refl (sym (any-next (at q) xs i x lt is) ∙ t)
  where
    by : (b : Bool) → list_any (at q) (take i xs) ≡ b → (d : Bool) → at q x ≡ d
        → (list_any (at q) (take i xs) || at q x) ≡ true → IsDrawn q o'
    by true e d f u = stay q (before q e)
    by false e true f u = subst (λ (z : Place). IsDrawn z o') (sym (at-is q x f)) now
    by false e false f u = absurd (true≢false (sym u ∙ (ap (λ b. b || at q x) e ∙ f)))
