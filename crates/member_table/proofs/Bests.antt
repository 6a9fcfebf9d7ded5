-- The entry of the highest rank that holds a header.
use Rattle.std.proofs.Common.{◌≡◌, ℕ, ◌<◌, ◌≤◌, Bool, true, false, ◌||◌, ◌&&◌, ◌==◌, List, [], ◌∷◌, map, refl, sym, ap}
use Rattle.std.proofs.Common.{ap₂, subst, ◌∙◌, arith, if◌then◌else◌, true≢false, Option, Some, None, IfSome, nat_lt}
use Rattle.std.proofs.Common.{eqb-true, eq-eqb, ltb-false, lt-ltb, le-ltb}
use Rattle.std.specs.List.{list_any, AllByRecursion}
use Rattle.of10_match.specs.Fields.{HeaderOf}
use Rattle.of10_match.specs.Highest.{higher}
use Rattle.of10_match.specs.Matching.{holds, overlaps, both}
use Rattle.of10_match.proofs.Holding.{holds-both}
use Rattle.member_table.specs.Best.{best_entry}
use Rattle.member_table.specs.Entries.{identity_of, is_near}
use Rattle.member_table.specs.Sound.{AreApart, EachPair}
use Rattle.member_table.specs.declared.entry.Entry.{Entry}
use Rattle.match_index.specs.Items.{IsFirst, is_before, same_item}
use Rattle.match_index.specs.Questions.{is_holding}
use Rattle.match_index.specs.declared.item.Item.{Item}
use Rattle.match_index.proofs.Counts.{item_decides}
use Rattle.member_table.specs.InsideRanking.{ranked_of}
use Rattle.member_table.proofs.Lists.{list_any-map, or_false}
use Rattle.member_table.proofs.Least.{and_true, any_stronger, any_weaker}

abbrev rank_of : Entry → ℕ
rank_of e = e.rank

-- two matches that hold one header overlap
meet_there : (d e : Entry) (h : HeaderOf) → holds d.normal h ≡ true → holds e.normal h ≡ true
    → overlaps e.normal d.normal ≡ true
meet_there d e h a b =
    (and_true (holds (both e.normal d.normal) h) (overlaps e.normal d.normal)
    (holds-both e.normal d.normal h ∙ ap₂ (λ x y. x && y) b a)).1

not_apart : (d e : Entry) (h : HeaderOf) → d.rank ≡ e.rank → holds d.normal h ≡ true → holds e.normal h ≡ true
    → AreApart d e → ⊥
not_apart d e h r a b p =
    let n : is_near (identity_of e) (identity_of d) ≡ true =
    ap₂ (λ x y. x && y) (eq-eqb e.rank d.rank (sym r)) (meet_there d e h a b) in
    true≢false (sym n ∙ p)

-- what is true of each entry is true of the best one, which holds the header
best_each : (P : Entry → Type 0) (h : HeaderOf) (es : List Entry) → AllByRecursion P es
    → IfSome (best_entry es h) (λ e. P e × (holds e.normal h ≡ true))
best_each P h [] a = tt
best_each P h (e ∷ es) a = by (holds e.normal h) refl (best_entry es h) (best_each P h es a.1)
  where
    pick : holds e.normal h ≡ true → (o : Option Entry) → IfSome o (λ x. P x × (holds x.normal h ≡ true))
        → IfSome (higher rank_of e o) (λ x. P x × (holds x.normal h ≡ true))
    pick t None m = (a.0, t)
    pick t (Some d) m = choose (nat_lt e.rank d.rank)
      where
        choose : (b : Bool) → IfSome (Some (if b then d else e)) (λ x. P x × (holds x.normal h ≡ true))
        choose true = m
        choose false = (a.0, t)

    by : (b : Bool) → holds e.normal h ≡ b → (o : Option Entry) → IfSome o (λ x. P x × (holds x.normal h ≡ true))
        → IfSome (if b then higher rank_of e o else o) (λ x. P x × (holds x.normal h ≡ true))
    by true t o m = pick t o m
    by false t o m = m

-- the best entry is the one of this number and rank
pub record IsBest (o : Option Entry) (serial rank : ℕ) : Type 0 where
  pub entry : Entry
  pub is : o ≡ Some entry
  pub of_serial : entry.serial ≡ serial
  pub of_rank : entry.rank ≡ rank

abbrev is_it : HeaderOf → ℕ → ℕ → Entry → Bool
is_it h serial rank e = holds e.normal h && ((e.serial == serial) && (e.rank == rank))

abbrev is_above : HeaderOf → ℕ → Entry → Bool
is_above h rank e = holds e.normal h && nat_lt rank e.rank

-- nothing is above what every entry is not above
none_each_above : (h : HeaderOf) (rank : ℕ) (es : List Entry) → list_any (is_above h rank) es ≡ false
    → AllByRecursion (λ e. is_above h rank e ≡ false) es
none_each_above h rank [] n = tt
none_each_above h rank (e ∷ es) n = let o = or_false (is_above h rank e) (list_any (is_above h rank) es) n in
    (o.0, none_each_above h rank es o.1)

not_higher : (h : HeaderOf) (rank : ℕ) (e : Entry) → holds e.normal h ≡ true → is_above h rank e ≡ false → e.rank ≤ rank
not_higher h rank e t n = ltb-false rank e.rank (sym (ap (λ b. b && nat_lt rank e.rank) t) ∙ n)

-- no later entry is higher: this one is best
stays_best : (h : HeaderOf) (e : Entry) (o : Option Entry)
    → IfSome o (λ d. (is_above h e.rank d ≡ false) × (holds d.normal h ≡ true)) → higher rank_of e o ≡ Some e
stays_best h e None m = refl
stays_best h e (Some d) m = rw (le-ltb e.rank d.rank (not_higher h e.rank d m.1 m.0)) refl

best_more : (h : HeaderOf) (serial rank : ℕ) (e : Entry) (es : List Entry) → AllByRecursion (AreApart e) es
    → list_any (is_above h rank) es ≡ false
    → is_above h rank e ≡ false → (list_any (is_it h serial rank) es ≡ true → IsBest (best_entry es h) serial rank)
    → list_any (is_it h serial rank) (e ∷ es) ≡ true
    → (b : Bool) → holds e.normal h ≡ b
    → IsBest (if b then higher rank_of e (best_entry es h) else best_entry es h) serial rank
best_more h serial rank e es apart none here more any false t =
    more (sym (ap (λ b. (b && ((e.serial == serial) && (e.rank == rank))) || list_any (is_it h serial rank) es) t)
    ∙ any)
best_more h serial rank e es apart none here more any true t = by ((e.serial == serial) && (e.rank == rank)) refl
  where
    itself : ((e.serial == serial) && (e.rank == rank)) ≡ true → IsBest (higher rank_of e (best_entry es h)) serial rank
    itself s =
        let a = and_true (e.serial == serial) (e.rank == rank) s in
        let r = eqb-true e.rank rank a.1 in
        let P : ℕ → Type 0 = λ k. AllByRecursion (λ d. is_above h k d ≡ false) es in
        record {
          entry = e;
          is = stays_best h e (best_entry es h)
              (best_each (λ d. is_above h e.rank d ≡ false) h es (subst P (sym r) (none_each_above h rank es none)));
          of_serial = eqb-true e.serial serial a.0;
          of_rank = r;
        }

    lower : IsBest (best_entry es h) serial rank → e.rank ≡ rank → ⊥
    lower m r =
        let Q : Option Entry → Type 0 = λ o. IfSome o (λ d. AreApart e d × (holds d.normal h ≡ true)) in
        let q = subst Q m.is (best_each (AreApart e) h es apart) in
        not_apart e m.entry h (r ∙ sym m.of_rank) t q.1 q.0

    below : IsBest (best_entry es h) serial rank → e.rank < rank
    below m = let l = not_higher h rank e t here in let d : e.rank ≡ rank → ⊥ = lower m in omega (arith, l, d)

    another : IsBest (best_entry es h) serial rank → IsBest (higher rank_of e (best_entry es h)) serial rank
    another m =
        let Q : ℕ → Type 0 = λ k. e.rank < k in
        record {
          entry = m.entry;
          is = ap (higher rank_of e) m.is
              ∙ rw (lt-ltb e.rank m.entry.rank (subst Q (sym m.of_rank) (below m))) refl;
          of_serial = m.of_serial;
          of_rank = m.of_rank;
        }

    by : (b : Bool) → ((e.serial == serial) && (e.rank == rank)) ≡ b
        → IsBest (higher rank_of e (best_entry es h)) serial rank
    by true s = itself s
    by false s = another (more (sym (ap₂ (λ x y. (x && y) || list_any (is_it h serial rank) es) t s) ∙ any))

pub best_is : (h : HeaderOf) (serial rank : ℕ) (es : List Entry) → EachPair AreApart es
    → list_any (is_it h serial rank) es ≡ true → list_any (is_above h rank) es ≡ false
    → IsBest (best_entry es h) serial rank
best_is h serial rank [] a any none = absurd (true≢false (sym any))
best_is h serial rank (e ∷ es) a any none =
    let o = or_false (is_above h rank e) (list_any (is_above h rank) es) none in
    best_more h serial rank e es a.0 o.1 o.0 (λ t. best_is h serial rank es a.1 t o.1) any (holds e.normal h) refl

pub best_none : (h : HeaderOf) (es : List Entry) → list_any (λ e. holds e.normal h) es ≡ false → best_entry es h ≡ None
best_none h [] n = refl
best_none h (e ∷ es) n = let o = or_false (holds e.normal h) (list_any (λ x. holds x.normal h) es) n in
    rw o.0 (best_none h es o.1)

-- what the ranking finds first is the best entry
pub best_top : (h : HeaderOf) (top : Item) (items : List Item) (es : List Entry) → EachPair AreApart es
    → ((p : Item → Bool) → list_any p items ≡ list_any p (map ranked_of es))
    → IsFirst (is_holding h) items top → IsBest (best_entry es h) top.id top.rank
best_top h top items es apart same f = best_is h top.id top.rank es apart there none
  where
    passes : (e : Entry) → top ≡ ranked_of e → is_it h top.id top.rank e ≡ true
    passes e s =
        let a : holds e.normal h ≡ true = sym (ap (λ (x : Item). holds x.normal h) s) ∙ f.passes in
        let b = eq-eqb e.serial top.id (sym (ap (λ (x : Item). x.id) s)) in
        let c = eq-eqb e.rank top.rank (sym (ap (λ (x : Item). x.rank) s)) in
        rw (a, b, c) refl

    there : list_any (is_it h top.id top.rank) es ≡ true
    there = any_weaker (λ e. same_item top (ranked_of e)) (is_it h top.id top.rank)
        (λ e t. passes e ((item_decides top (ranked_of e)).0 t)) es
        (sym (list_any-map (same_item top) ranked_of es) ∙ (sym (same (same_item top)) ∙ f.there))

    before : (e : Entry) → is_above h top.rank e ≡ true
        → (is_holding h (ranked_of e) && is_before (ranked_of e) top) ≡ true
    before e t = let a = and_true (holds e.normal h) (nat_lt top.rank e.rank) t in rw (a.0, a.1) refl

    none : list_any (is_above h top.rank) es ≡ false
    none =
        let p : Item → Bool = λ r. is_holding h r && is_before r top in
        any_stronger (λ e. p (ranked_of e)) (is_above h top.rank) before es
        (sym (list_any-map p ranked_of es) ∙ (sym (same p) ∙ f.none_before))
