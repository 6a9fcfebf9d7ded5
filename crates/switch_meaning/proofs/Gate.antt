-- Entries that name all twelve fields.
use Rattle.std.proofs.Common.{◌≡◌, ℕ, ◌<◌, ◌≤◌, ◌^◌, Bool, true, false, ◌&&◌, ◌||◌, Option, Some, None, List, [], ◌∷◌}
use Rattle.std.proofs.Common.{refl, ap, ◌∙◌, sym, eqb-true, eq-eqb, le-leb, arith}
use Rattle.std.specs.Prelude.{◌==◌, ◌-◌, nat_lt, not, filter, is_some, if◌then◌else◌}
use Rattle.std.specs.List.{AllByRecursion, list_any}
use Rattle.std.proofs.lemmas.Bool.{ltb-true, ltb-false}
use Rattle.of10_match.specs.Fields.{HeaderOf, MatchOf}
use Rattle.of10_match.specs.Matching.{asks, asks_prefix, covers, fits, fits_prefix, holds, is_address, is_longer}
use Rattle.of10_match.specs.Matching.{is_one_header, top_bits}
use Rattle.of10_match.specs.declared.header.Prefix.{Prefix}
use Rattle.of10_match.proofs.Asking.{fits-asks, fits_prefix-asks}
use Rattle.of10_match.proofs.FieldTests.{covers-fields, covers-intro, holds-fields, holds-intro}
use Rattle.of10_match.proofs.Twelve.{each-fields}
use Rattle.switch_meaning.specs.BestLaw.{BestIsInstalled, IsBestEntry, IsGated, first, later}
use Rattle.switch_meaning.specs.Keys.{passes_over, passing}
use Rattle.switch_meaning.specs.declared.entry.PhysEntry.{PhysEntry}
use Rattle.switch_meaning.proofs.BestUsed.{best-filter, best-is-used, best-passes, or_false}
use Rattle.switch_meaning.proofs.Items.{all-filter, all-map, fails, join_and, split_and}

-- a field that fits the one value that another names asks for no more than it
asks-named : (x y : Option ℕ) (v : ℕ) → is_some y ≡ true → fits y v ≡ true → fits x v ≡ true → asks x y ≡ true
asks-named None y v n f e = refl
asks-named (Some w) None v n f e = cc
asks-named (Some w) (Some u) v n f e = eq-eqb w u (eqb-true w v e ∙ sym (eqb-true u v f))

whole_bits : (a : ℕ) → top_bits 32 a ≡ a
whole_bits a = omega arith

asks-address : (p q : Prefix) (v : ℕ) → q.len ≡ 32 → top_bits q.len q.addr ≡ top_bits q.len v
    → top_bits p.len p.addr ≡ top_bits p.len v → asks_prefix (Some p) (Some q) ≡ true
asks-address p q v len f e =
    let same : q.addr ≡ v = sym (whole_bits q.addr)
    ∙ (ap (λ n. top_bits n q.addr) (sym len) ∙ (f ∙ (ap (λ n. top_bits n v) len ∙ whole_bits v))) in
    join_and (is_longer q p) (top_bits p.len p.addr == top_bits p.len q.addr)
    (le-leb (32 - q.len) (32 - p.len) (omega arith))
    (eq-eqb (top_bits p.len p.addr) (top_bits p.len q.addr) (e ∙ ap (λ n. top_bits p.len n) (sym same)))

asks_prefix-named : (x y : Option Prefix) (v : ℕ) → is_address y ≡ true → fits_prefix y v ≡ true
    → fits_prefix x v ≡ true → asks_prefix x y ≡ true
asks_prefix-named None y v n f e = refl
asks_prefix-named (Some p) None v n f e = cc
asks_prefix-named (Some p) (Some q) v n f e =
    asks-address p q v (eqb-true q.len 32 n) (eqb-true (top_bits q.len q.addr) (top_bits q.len v) f)
    (eqb-true (top_bits p.len p.addr) (top_bits p.len v) e)

-- what holds the one header of an exact match covers it
exact-covers : (m n : MatchOf) (h : HeaderOf) → is_one_header n ≡ true → holds n h ≡ true → holds m h ≡ true
    → covers m n ≡ true
exact-covers m n h x p q =
    let t = each-fields (is_some n.in_port) (is_some n.dl_src) (is_some n.dl_dst) (is_some n.dl_vlan)
    (is_some n.dl_vlan_pcp) (is_some n.dl_type) (is_some n.nw_tos) (is_some n.nw_proto) (is_address n.nw_src)
    (is_address n.nw_dst) (is_some n.tp_src) (is_some n.tp_dst) x in
    let f = holds-fields n h p in
    let g = holds-fields m h q in
    covers-intro m n (record {
      in_port = asks-named m.in_port n.in_port h.in_port t.at_a f.in_port g.in_port;
      dl_src = asks-named m.dl_src n.dl_src h.dl_src t.at_b f.dl_src g.dl_src;
      dl_dst = asks-named m.dl_dst n.dl_dst h.dl_dst t.at_c f.dl_dst g.dl_dst;
      dl_vlan = asks-named m.dl_vlan n.dl_vlan h.dl_vlan t.at_d f.dl_vlan g.dl_vlan;
      dl_vlan_pcp = asks-named m.dl_vlan_pcp n.dl_vlan_pcp h.dl_vlan_pcp t.at_e f.dl_vlan_pcp g.dl_vlan_pcp;
      dl_type = asks-named m.dl_type n.dl_type h.dl_type t.at_f f.dl_type g.dl_type;
      nw_tos = asks-named m.nw_tos n.nw_tos h.nw_tos t.at_g f.nw_tos g.nw_tos;
      nw_proto = asks-named m.nw_proto n.nw_proto h.nw_proto t.at_h f.nw_proto g.nw_proto;
      nw_src = asks_prefix-named m.nw_src n.nw_src h.nw_src t.at_i f.nw_src g.nw_src;
      nw_dst = asks_prefix-named m.nw_dst n.nw_dst h.nw_dst t.at_j f.nw_dst g.nw_dst;
      tp_src = asks-named m.tp_src n.tp_src h.tp_src t.at_k f.tp_src g.tp_src;
      tp_dst = asks-named m.tp_dst n.tp_dst h.tp_dst t.at_l f.tp_dst g.tp_dst;
    })

-- a match holds what one holds that it covers
covers-holds : (m n : MatchOf) (h : HeaderOf) → covers m n ≡ true → holds n h ≡ true → holds m h ≡ true
covers-holds m n h e p =
    let asked = covers-fields m n e in
    let fit = holds-fields n h p in
    holds-intro m h (record {
      in_port = fits-asks m.in_port n.in_port h.in_port asked.in_port fit.in_port;
      dl_src = fits-asks m.dl_src n.dl_src h.dl_src asked.dl_src fit.dl_src;
      dl_dst = fits-asks m.dl_dst n.dl_dst h.dl_dst asked.dl_dst fit.dl_dst;
      dl_vlan = fits-asks m.dl_vlan n.dl_vlan h.dl_vlan asked.dl_vlan fit.dl_vlan;
      dl_vlan_pcp = fits-asks m.dl_vlan_pcp n.dl_vlan_pcp h.dl_vlan_pcp asked.dl_vlan_pcp fit.dl_vlan_pcp;
      dl_type = fits-asks m.dl_type n.dl_type h.dl_type asked.dl_type fit.dl_type;
      nw_tos = fits-asks m.nw_tos n.nw_tos h.nw_tos asked.nw_tos fit.nw_tos;
      nw_proto = fits-asks m.nw_proto n.nw_proto h.nw_proto asked.nw_proto fit.nw_proto;
      nw_src = fits_prefix-asks m.nw_src n.nw_src h.nw_src asked.nw_src fit.nw_src;
      nw_dst = fits_prefix-asks m.nw_dst n.nw_dst h.nw_dst asked.nw_dst fit.nw_dst;
      tp_src = fits-asks m.tp_src n.tp_src h.tp_src asked.tp_src fit.tp_src;
      tp_dst = fits-asks m.tp_dst n.tp_dst h.tp_dst asked.tp_dst fit.tp_dst;
    })

all-and : {A : Type 0} (P Q : A → Type 0) (xs : List A) → AllByRecursion P xs → AllByRecursion Q xs
    → AllByRecursion (λ (x : A). P x × Q x) xs
all-and P Q [] a b = tt
all-and P Q (x ∷ xs) a b = ((a.0, b.0), all-and P Q xs a.1 b.1)

kept-passes : {A : Type 0} (keeps : A → Bool) (b : Bool) (x : A) (xs : List A) → keeps x ≡ b
    → AllByRecursion (λ (y : A). keeps y ≡ true) xs
    → AllByRecursion (λ (y : A). keeps y ≡ true) (if b then x ∷ xs else xs)
kept-passes keeps true x xs e a = (e, a)
kept-passes keeps false x xs e a = a

filter-passes : {A : Type 0} (keeps : A → Bool) (xs : List A)
    → AllByRecursion (λ (y : A). keeps y ≡ true) (filter keeps xs)
filter-passes keeps [] = tt
filter-passes keeps (x ∷ xs) = kept-passes keeps (keeps x) x (filter keeps xs) refl (filter-passes keeps xs)

pub not_true : (b : Bool) → not b ≡ true → b ≡ false
not_true true e = cc
not_true false e = refl

or_both : (a b : Bool) → (a || b) ≡ false → (a ≡ false) × (b ≡ false)
or_both true b e = cc
or_both false b e = (refl, e)

-- where none passes a test each fails it
none-any : {A : Type 0} (test : A → Bool) (xs : List A) → list_any test xs ≡ false
    → AllByRecursion (λ (x : A). test x ≡ false) xs
none-any test [] e = tt
none-any test (x ∷ xs) e = let s = or_both (test x) (list_any test xs) e in (s.0, none-any test xs s.1)

module _ (h : HeaderOf) where
  -- a lower entry passes nothing over
  lower-passes : (d b : PhysEntry) → holds b.m h ≡ true → (holds d.m h ≡ true → d.priority < b.priority)
      → passes_over d b ≡ false
  lower-passes d b p low =
      fails (passes_over d b) (λ e.
      let s = split_and (is_one_header b.m) (nat_lt b.priority d.priority && covers d.m b.m) e in
      let t = split_and (nat_lt b.priority d.priority) (covers d.m b.m) s.1 in
      let up : b.priority < d.priority = ltb-true b.priority d.priority t.0 in
      let down : d.priority < b.priority = low (covers-holds d.m b.m h t.1 p) in
      omega arith)

  self-passes : (b : PhysEntry) → passes_over b b ≡ false
  self-passes b =
      fails (passes_over b b) (λ e.
      let s = split_and (is_one_header b.m) (nat_lt b.priority b.priority && covers b.m b.m) e in
      let t = split_and (nat_lt b.priority b.priority) (covers b.m b.m) s.1 in
      let up : b.priority < b.priority = ltb-true b.priority b.priority t.0 in
      omega arith)

  lower-all : (b : PhysEntry) (es : List PhysEntry) → holds b.m h ≡ true
      → AllByRecursion (λ (d : PhysEntry). holds d.m h ≡ true → d.priority < b.priority) es
      → list_any (λ (d : PhysEntry). passes_over d b) es ≡ false
  lower-all b [] p a = refl
  lower-all b (d ∷ ds) p a = or_false (passes_over d b) (list_any (λ (d : PhysEntry). passes_over d b) ds)
      (lower-passes d b p a.0) (lower-all b ds p a.1)

  -- the best entry passes
  best-passing : {es : List PhysEntry} {b : PhysEntry} → IsBestEntry h es b
      → list_any (λ (d : PhysEntry). passes_over d b) es ≡ false
  best-passing (first {x = b} {xs = es} p a) =
      or_false (passes_over b b) (list_any (λ (d : PhysEntry). passes_over d b) es) (self-passes b) (lower-all b es p a)
  best-passing (later {x = b} {y = d} {xs = es} lt best) =
      or_false (passes_over d b) (list_any (λ (d : PhysEntry). passes_over d b) es)
      (lower-passes d b (best-passes best) lt) (best-passing best)

  -- what does not pass an exact entry over is not above it
  not-above : (d e : PhysEntry) → is_one_header e.m ≡ true → holds e.m h ≡ true → passes_over d e ≡ false
      → holds d.m h ≡ true → d.priority ≤ e.priority
  not-above d e x p n q =
      ltb-false e.priority d.priority (fails (nat_lt e.priority d.priority) (λ t.
      let over : passes_over d e ≡ true = join_and (is_one_header e.m) (nat_lt e.priority d.priority && covers d.m e.m)
      x (join_and (nat_lt e.priority d.priority) (covers d.m e.m) t (exact-covers d.m e.m h x p q)) in cc))

  passes-gated : (es : List PhysEntry) (e : PhysEntry) → not (list_any (λ (d : PhysEntry). passes_over d e) es) ≡ true
      → e.priority < 2 ^ 16 → IsGated h (passing es) e
  passes-gated es e keeps lt = record {
    priority = lt;
    exact = λ x p.
        all-filter (λ (d : PhysEntry). holds d.m h ≡ true
        → d.priority ≤ e.priority) (λ (e : PhysEntry). not (list_any (λ (d : PhysEntry). passes_over d e) es)) es
        (all-map (λ (d : PhysEntry). passes_over d e ≡ false) (λ (d : PhysEntry). holds d.m h ≡ true
        → d.priority ≤ e.priority) es (λ d n q. not-above d e x p n q)
        (none-any (λ (d : PhysEntry). passes_over d e) es
        (not_true (list_any (λ (d : PhysEntry). passes_over d e) es) keeps)));
  }

-- the law
pub best-is-installed : BestIsInstalled
best-is-installed es h b best low used may =
    let keeps = λ (e : PhysEntry). not (list_any (λ (d : PhysEntry). passes_over d e) es) in
    best-is-used (passing es) h b
    (best-filter (λ (d : PhysEntry). holds d.m h) keeps (λ (d : PhysEntry). d.priority) (ap not (best-passing h best))
    best)
    (all-map (λ (e : PhysEntry). (keeps e ≡ true) × (e.priority < 2 ^ 16)) (IsGated h (passing es)) (passing es)
    (λ e t. passes-gated h es e t.0 t.1)
    (all-and (λ (e : PhysEntry). keeps e ≡ true) (λ (e : PhysEntry). e.priority < 2 ^ 16) (passing es)
    (filter-passes keeps es)
    (all-filter (λ (e : PhysEntry). e.priority < 2 ^ 16) keeps es low)))
    used may
