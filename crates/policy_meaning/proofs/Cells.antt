-- Lists of matches of which at most one holds a header: the boxes of a region, and its parts by port.
use Rattle.std.proofs.Common.{◌≡◌, ℕ, ◌<◌, Bool, true, false, ◌||◌, List, [], ◌∷◌, ◌++◌, Option, Some, None, refl, ap}
use Rattle.std.proofs.Common.{◌∙◌, sym, subst, eqb-true}
use Rattle.std.specs.Prelude.{flat_map, if◌then◌else◌, ◌==◌, not}
use Rattle.std.specs.List.{AllByRecursion, list_any, cons_option}
use Rattle.of10_match.specs.Fields.{HeaderOf, MatchOf}
use Rattle.of10_match.specs.Matching.{at_port, both, fits, fits_prefix, holds, meet, overlaps}
use Rattle.of10_match.specs.declared.header.Prefix.{Prefix}
use Rattle.of10_match.specs.Normal.{IsNormal}
use Rattle.of10_match.proofs.Twelve.{each-fields, each-intro}
use Rattle.policy_meaning.specs.Leaf.{has_port, is_inside}
use Rattle.policy_meaning.specs.LeafRules.{is_open, is_everything, rule_met, hides, cut, cells, in_cells, has_outside}
use Rattle.policy_meaning.specs.Best.{EachAt, Below, IsBest, first}
use Rattle.policy_meaning.specs.LeafFact.{EachPair}
use Rattle.policy_meaning.specs.declared.leaf.LeafTable.{LeafTable}
use Rattle.policy_meaning.specs.declared.rule.Rule.{Rule}
use Rattle.policy_meaning.proofs.Booleans.{true_not_false, split_and, join_and, split_or, or_right, fails, not_false}
use Rattle.policy_meaning.proofs.Lists.{all-map, all-each, all-append, all-cons_option, all-flat_map, all-filter_map}
use Rattle.policy_meaning.proofs.BestLemmas.{Never, At, at-never, best-cons_option}
use Rattle.policy_meaning.proofs.Meeting.{meet_there, meet_holds, some_meet, some_met, is_met}
use Rattle.of10_match.proofs.NormalMeet.{IsNormal-both}
use Rattle.policy_meaning.proofs.Normality.{normal-at_port}

-- the rule, narrowed to a match
abbrev pub narrowed : Rule → MatchOf → Rule
narrowed a m = record a { m = m }

-- what is made of a meet of two matches
module _ (h : HeaderOf) where
  abbrev pub Misses : MatchOf → Type 0
  Misses m = holds m h ≡ false

  -- the match stands in the list, holds the header, and no other one does
  pub data IsOnly : List MatchOf → MatchOf → Type 0 where
    here : {m : MatchOf} {ms : List MatchOf} → holds m h ≡ true → AllByRecursion Misses ms → IsOnly (m ∷ ms) m
    there : {m x : MatchOf} {ms : List MatchOf} → holds x h ≡ false → IsOnly ms m → IsOnly (x ∷ ms) m

  pub only-holds : {ms : List MatchOf} {m : MatchOf} → IsOnly ms m → holds m h ≡ true
  only-holds (here t n) = t
  only-holds (there f o) = only-holds o

  only-append_left : {xs : List MatchOf} {m : MatchOf} → IsOnly xs m → (ys : List MatchOf) → AllByRecursion Misses ys
      → IsOnly (xs ++ ys) m
  only-append_left (here {ms = ms} t n) ys p = here t (all-append Misses ms ys n p)
  only-append_left (there f o) ys p = there f (only-append_left o ys p)

  only-append_right : (xs : List MatchOf) {ys : List MatchOf} {m : MatchOf} → AllByRecursion Misses xs → IsOnly ys m
      → IsOnly (xs ++ ys) m
  only-append_right [] p o = o
  only-append_right (x ∷ xs) p o = there p.0 (only-append_right xs p.1 o)

  only-flat_map : (g : MatchOf → List MatchOf) {xs : List MatchOf} {a : MatchOf} (c : MatchOf) → IsOnly (g a) c
      → ((x : MatchOf) → holds x h ≡ false → AllByRecursion Misses (g x)) → IsOnly xs a → IsOnly (flat_map g xs) c
  only-flat_map g c o miss (here {ms = ms} t n) =
      only-append_left o (flat_map g ms) (all-flat_map Misses Misses g ms miss n)
  only-flat_map g c o miss (there {x = x} f p) = only-append_right (g x) (miss x f) (only-flat_map g c o miss p)

  -- no match that a header is in overlaps another
  apart-misses : (m n : MatchOf) → overlaps m n ≡ false → holds m h ≡ true → holds n h ≡ false
  apart-misses m n o t = fails (holds n h) (λ u. true_not_false (sym (meet_there m n h t u).1 ∙ o))

  none-any : (ms : List MatchOf) → list_any (λ m. holds m h) ms ≡ false → AllByRecursion Misses ms
  none-any [] e = tt
  none-any (m ∷ ms) e = let s = split_or (holds m h) (list_any (λ m. holds m h) ms) e in (s.0, none-any ms s.1)

  box-next : (m : MatchOf) (ms : List MatchOf) → AllByRecursion (λ n. overlaps m n ≡ false) ms → (b : Bool)
      → holds m h ≡ b → (b || list_any (λ m. holds m h) ms) ≡ true →
      (list_any (λ m. holds m h) ms ≡ true → (c : MatchOf) × IsOnly ms c) → (c : MatchOf) × IsOnly (m ∷ ms) c
  box-next m ms d true t e go =
      (m, here t (all-map (λ n. overlaps m n ≡ false) Misses ms (λ n o. apart-misses m n o t) d))
  box-next m ms d false t e go = let r = go e in (r.0, there t r.1)

  -- of boxes that don't overlap, one of which holds the header, never other one does
  pub only-box : (ms : List MatchOf) → EachPair (λ m n. overlaps m n ≡ false) ms → list_any (λ m. holds m h) ms ≡ true
      → (c : MatchOf) × IsOnly ms c
  only-box [] d e = cc
  only-box (m ∷ ms) d e = box-next m ms d.0 (holds m h) refl e (λ u. only-box ms d.1 u)

  in_port_of : (p : ℕ) → holds (at_port p) h ≡ true → (p == h.in_port) ≡ true
  in_port_of p e = (split_and (p == h.in_port) true e).0

  -- of a box cut by ports
  module _ (box : MatchOf) where
    abbrev part : ℕ → Option MatchOf
    part p = meet box (at_port p)

    met-misses : (p : ℕ) → (holds box h ≡ true → holds (at_port p) h ≡ true → ⊥) → (y : MatchOf) → part p ≡ Some y
        → holds y h ≡ false
    met-misses p never y e =
        let s = some_meet box (at_port p) y e in
        fails (holds y h) (λ t. let w = meet_holds box (at_port p) h (subst (λ z. holds z h ≡ true) (sym s.1) t) s.0 in
        never w.0 w.1)

    -- where the box or the ports don't hold the header
    cut-misses : (ps : List ℕ) → (holds box h ≡ true → has_port ps h.in_port ≡ true → ⊥)
        → AllByRecursion Misses (cut ps box)
    cut-misses [] never = tt
    cut-misses (p ∷ ps) never =
        all-cons_option Misses (part p) (cut ps box) (λ y e. met-misses p (λ t u. never t (rw (in_port_of p u))) y e)
        (cut-misses ps (λ t l. never t (or_right (p == h.in_port) (has_port ps h.in_port) l)))

    has-none : (p : ℕ) (ps : List ℕ) → AllByRecursion (λ q. (q == p) ≡ false) ps → has_port ps p ≡ false
    has-none p [] n = refl
    has-none p (q ∷ qs) n = rw (n.0) (has-none p qs n.1)

    only-there : (o : Option MatchOf) {ms : List MatchOf} {c : MatchOf}
        → ((y : MatchOf) → o ≡ Some y → holds y h ≡ false) → IsOnly ms c → IsOnly (cons_option o ms) c
    only-there None miss q = q
    only-there (Some y) miss q = there (miss y refl) q

    cut-next : (p : ℕ) (ps : List ℕ) → AllByRecursion (λ q. (q == p) ≡ false) ps → (b : Bool) → (p == h.in_port) ≡ b
        → (b || has_port ps h.in_port) ≡ true → holds box h ≡ true →
        (has_port ps h.in_port ≡ true → (c : MatchOf) × IsOnly (cut ps box) c)
        → (c : MatchOf) × IsOnly (cut (p ∷ ps) box) c
    cut-next p ps once true u e t go =
        let same : p ≡ h.in_port = eqb-true p h.in_port u in
        let w = meet_there box (at_port p) h t (rw u) in
        let none : has_port ps h.in_port ≡ false = subst (λ x. has_port ps x ≡ false) same (has-none p ps once) in
        (both box (at_port p), rw (w.1) (here w.0 (cut-misses ps (λ _ l. true_not_false (sym l ∙ none)))))
    cut-next p ps once false u e t go =
        let r = go e in
        (r.0, only-there (part p) (λ y z. met-misses p (λ _ v. true_not_false (sym (in_port_of p v) ∙ u)) y z) r.1)

    only-cut : (ps : List ℕ) → EachPair (λ p q. (q == p) ≡ false) ps → has_port ps h.in_port ≡ true → holds box h ≡ true
        → (c : MatchOf) × IsOnly (cut ps box) c
    only-cut [] once e t = cc
    only-cut (p ∷ ps) once e t = cut-next p ps once.0 (p == h.in_port) refl e t (λ l. only-cut ps once.1 l t)

  -- a rule in the cells
  module _ (a : Rule) where
    met-part : (n : MatchOf) (P : Rule → Type 0) → (holds a.m h ≡ true → holds n h ≡ true → P (narrowed a (both a.m n)))
        → (y : Rule) → rule_met a n ≡ Some y → holds y.m h ≡ true → P y
    met-part n P up y e t =
        let s = some_met (narrowed a) a.m n y e in
        let w = meet_holds a.m n h (ap (λ (z : Rule). holds z.m h) s.1 ∙ t) s.0 in
        subst P s.1 (up w.0 w.1)

    pub cell-part : (P : Rule → Type 0) (cs : List MatchOf) → (holds a.m h ≡ true → (m : MatchOf) → P (narrowed a m))
        → EachAt h P (in_cells cs a)
    cell-part P [] up = tt
    cell-part P (c ∷ cs) up = all-cons_option (At h P) (rule_met a c) (in_cells cs a)
        (λ y e t. met-part c P (λ u _. up u (both a.m c)) y e t) (cell-part P cs up)

    pub none-in_cells : (cs : List MatchOf) → AllByRecursion Misses cs → EachAt h Never (in_cells cs a)
    none-in_cells [] n = tt
    none-in_cells (c ∷ cs) n =
        all-cons_option (At h Never) (rule_met a c) (in_cells cs a)
        (λ y e t. met-part c Never (λ _ u. true_not_false (sym u ∙ n.0)) y e t) (none-in_cells cs n.1)

    -- in the one cell that holds the header
    pub best-in_cells : {cs : List MatchOf} {c : MatchOf} → IsOnly cs c → holds a.m h ≡ true
        → IsBest h (in_cells cs a) (narrowed a (both a.m c))
    best-in_cells (here {m = m} {ms = ms} u n) t =
        let w = meet_there a.m m h t u in
        rw (is_met (narrowed a) a.m m w.1) (first w.0 (at-never h (Below a.level) (in_cells ms a) (none-in_cells ms n)))
    best-in_cells (there {m = m} {x = x} {ms = ms} f o) t =
        best-cons_option h (rule_met a x)
        (λ y e u. met-part x (λ y. y.level < a.level) (λ _ v. absurd (true_not_false (sym v ∙ f))) y e u)
        (best-in_cells o t)

-- the match that asks for nothing holds every header
open_fits : (x : Option ℕ) (v : ℕ) → is_open x ≡ true → fits x v ≡ true
open_fits None v e = refl
open_fits (Some w) v e = cc

open_fits_prefix : (x : Option Prefix) (v : ℕ) → is_open x ≡ true → fits_prefix x v ≡ true
open_fits_prefix None v e = refl
open_fits_prefix (Some w) v e = cc

pub everything-holds : (m : MatchOf) (h : HeaderOf) → is_everything m ≡ true → holds m h ≡ true
everything-holds m h e =
    let t = each-fields (is_open m.in_port) (is_open m.dl_src) (is_open m.dl_dst) (is_open m.dl_vlan)
    (is_open m.dl_vlan_pcp) (is_open m.dl_type) (is_open m.nw_tos) (is_open m.nw_proto) (is_open m.nw_src)
    (is_open m.nw_dst) (is_open m.tp_src) (is_open m.tp_dst) e in
    each-intro (fits m.in_port h.in_port) (fits m.dl_src h.dl_src) (fits m.dl_dst h.dl_dst) (fits m.dl_vlan h.dl_vlan)
    (fits m.dl_vlan_pcp h.dl_vlan_pcp) (fits m.dl_type h.dl_type) (fits m.nw_tos h.nw_tos)
    (fits m.nw_proto h.nw_proto) (fits_prefix m.nw_src h.nw_src) (fits_prefix m.nw_dst h.nw_dst)
    (fits m.tp_src h.tp_src) (fits m.tp_dst h.tp_dst)
    (record {
      at_a = open_fits m.in_port h.in_port t.at_a;
      at_b = open_fits m.dl_src h.dl_src t.at_b;
      at_c = open_fits m.dl_dst h.dl_dst t.at_c;
      at_d = open_fits m.dl_vlan h.dl_vlan t.at_d;
      at_e = open_fits m.dl_vlan_pcp h.dl_vlan_pcp t.at_e;
      at_f = open_fits m.dl_type h.dl_type t.at_f;
      at_g = open_fits m.nw_tos h.nw_tos t.at_g;
      at_h = open_fits m.nw_proto h.nw_proto t.at_h;
      at_i = open_fits_prefix m.nw_src h.nw_src t.at_i;
      at_j = open_fits_prefix m.nw_dst h.nw_dst t.at_j;
      at_k = open_fits m.tp_src h.tp_src t.at_k;
      at_l = open_fits m.tp_dst h.tp_dst t.at_l;
    })

any-next : (m : MatchOf) (ms : List MatchOf) (h : HeaderOf) (b : Bool) → is_everything m ≡ b
    → (b || list_any is_everything ms) ≡ true → (list_any is_everything ms ≡ true → list_any (λ m. holds m h) ms ≡ true)
    → (holds m h || list_any (λ m. holds m h) ms) ≡ true
any-next m ms h true u e go = rw (everything-holds m h u)
any-next m ms h false u e go = or_right (holds m h) (list_any (λ m. holds m h) ms) (go e)

any-everything : (ms : List MatchOf) (h : HeaderOf) → list_any is_everything ms ≡ true
    → list_any (λ m. holds m h) ms ≡ true
any-everything [] h e = cc
any-everything (m ∷ ms) h e = any-next m ms h (is_everything m) refl e (λ u. any-everything ms h u)

-- a box that holds the header is one of the region
any-of : (h : HeaderOf) (ms : List MatchOf)
    → AllByRecursion (λ m. holds m h ≡ true → list_any (λ m. holds m h) ms ≡ true) ms
any-of h [] = tt
any-of h (m ∷ ms) = (
  λ u. rw u refl,
  all-map (λ n. holds n h ≡ true → list_any (λ m. holds m h) ms ≡ true) (λ n. holds n h ≡ true
      → (holds m h || list_any (λ m. holds m h) ms) ≡ true) ms
      (λ n f u. or_right (holds m h) (list_any (λ m. holds m h) ms) (f u)) (any-of h ms),
)

visible-next : (vis : List ℕ) (q p : ℕ) (qs : List ℕ) (b : Bool) → (q == p) ≡ b → has_port vis q ≡ true
    → (b || has_port qs p) ≡ true → (has_port qs p ≡ true → has_port vis p ≡ true) → has_port vis p ≡ true
visible-next vis q p qs true u v e go = subst (λ x. has_port vis x ≡ true) (eqb-true q p u) v
visible-next vis q p qs false u v e go = go e

-- where no port is hidden, each port is visible
visible-of : (vis ps : List ℕ) (p : ℕ) → list_any (λ p. not (has_port vis p)) ps ≡ false → has_port ps p ≡ true
    → has_port vis p ≡ true
visible-of vis [] p e u = cc
visible-of vis (q ∷ qs) p e u =
    let s = split_or (not (has_port vis q)) (list_any (λ p. not (has_port vis p)) qs) e in
    visible-next vis q p qs (q == p) refl (not_false (has_port vis q) s.0) u (λ v. visible-of vis qs p s.1 v)

module _ (ports : List ℕ) (t : LeafTable) where
  abbrev cells-by : Bool → List MatchOf
  cells-by b = if b then flat_map (cut t.visible) t.region else t.region

  cells-normal : (b : Bool) → AllByRecursion IsNormal t.region → AllByRecursion IsNormal (cells-by b)
  cells-normal true n =
      all-flat_map IsNormal IsNormal (cut t.visible) t.region
      (λ box m. all-filter_map (λ p. Unit {0}) IsNormal (λ p. meet box (at_port p)) t.visible
      (λ p y e _. let s = some_meet box (at_port p) y e in
      subst IsNormal s.1 (IsNormal-both box (at_port p) s.0 m (normal-at_port p)))
      (all-each (λ p. Unit {0}) t.visible (λ p. tt))) n
  cells-normal false n = n

  -- the cells are normal
  pub normal-cells : AllByRecursion IsNormal t.region → AllByRecursion IsNormal (cells ports t)
  normal-cells n = cells-normal (hides ports t) n

  module _ (h : HeaderOf) (at : has_port ports h.in_port ≡ true) where
    misses-by : is_inside t h ≡ false → (b : Bool) → hides ports t ≡ b → AllByRecursion (Misses h) (cells-by b)
    misses-by e true u =
        all-flat_map (λ m. holds m h ≡ true → list_any (λ m. holds m h) t.region ≡ true) (Misses h) (cut t.visible)
        t.region
        (λ box f. cut-misses h box t.visible (λ v l. true_not_false (sym (join_and _ _ (f v) l) ∙ e)))
        (any-of h t.region)
    misses-by e false u =
        none-any h t.region (fails (list_any (λ m. holds m h) t.region)
        (λ v. true_not_false (sym (join_and _ _ v (visible-of t.visible ports h.in_port u at)) ∙ e)))

    -- no cell holds what is outside
    pub outside-misses : is_inside t h ≡ false → AllByRecursion (Misses h) (cells ports t)
    outside-misses e = misses-by e (hides ports t) refl

    only-by : EachPair (λ m n. overlaps m n ≡ false) t.region → EachPair (λ p q. (q == p) ≡ false) t.visible
        → is_inside t h ≡ true → (b : Bool) → (c : MatchOf) × IsOnly h (cells-by b) c
    only-by d once e true =
        let s = split_and (list_any (λ m. holds m h) t.region) (has_port t.visible h.in_port) e in
        let box = only-box h t.region d s.0 in
        let part = only-cut h box.0 t.visible once s.1 (only-holds h box.1) in (
          part.0,
          only-flat_map h (cut t.visible) part.0 part.1
              (λ x f. cut-misses h x t.visible (λ v _. true_not_false (sym v ∙ f))) box.1,
        )
    only-by d once e false =
        only-box h t.region d (split_and (list_any (λ m. holds m h) t.region) (has_port t.visible h.in_port) e).0

    -- one cell alone holds what is inside
    pub inside-only : EachPair (λ m n. overlaps m n ≡ false) t.region → EachPair (λ p q. (q == p) ≡ false) t.visible
        → is_inside t h ≡ true → (c : MatchOf) × IsOnly h (cells ports t) c
    inside-only d once e = only-by d once e (hides ports t)

    -- without an outside rule nothing is outside
    pub none-outside : has_outside ports t ≡ false → is_inside t h ≡ true
    none-outside e =
        let s = split_or (not (list_any is_everything t.region)) (hides ports t) e in
        join_and _ _ (any-everything t.region h (not_false (list_any is_everything t.region) s.0))
        (visible-of t.visible ports h.in_port s.1 at)
