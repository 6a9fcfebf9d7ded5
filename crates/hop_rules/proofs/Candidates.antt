-- A rule meets only those, where its link leads, that overlap with what it asks there.
use Rattle.std.proofs.Common.{◌≡◌, ℕ, ◌-◌, ◌/◌, ◌^◌, Bool, true, false, ◌&&◌, Option, Some, None, ◌⊎◌, inl, inr, refl}
use Rattle.std.proofs.Common.{ap, ◌∙◌, sym, subst, leb-true, arith}
use Rattle.std.specs.Prelude.{◌==◌, nat_le, if◌then◌else◌, option_map}
use Rattle.std.specs.Option.{option_and_then}
use Rattle.of10_match.specs.Fields.{MatchOf}
use Rattle.of10_match.specs.Matching.{agree, agree_prefix, fits, fits_prefix, meet, overlaps}
use Rattle.of10_match.specs.Normal.{IsNormal}
use Rattle.of10_match.specs.declared.header.Prefix.{Prefix}
use Rattle.of10_match.proofs.Twelve.{and-false, each-fields, each-intro}
use Rattle.of10_actions.specs.Fields.{RewriteOf}
use Rattle.of10_actions.specs.Rewriting.{is_ip, is_tcp_udp}
use Rattle.pull_back.specs.Pulling.{can_pull, image, names, pulled, set_fits, set_in, sets_nw, sets_tp, unset, whole}
use Rattle.pull_back.proofs.Guarded.{Guards, IsGuarded}
use Rattle.pull_back.proofs.Normality.{normal-guarded}
use Rattle.policy_meaning.specs.Hops.{hop_rule, hopped, without_port}
use Rattle.policy_meaning.specs.declared.rule.Rule.{Rule}
use Rattle.hop_rules.proofs.Names.{is-same, itself}

-- ---- one field
image-field : {A B : Type 0} (ag : Option A → Option A → Bool) (fit : Option A → B → Bool) (w : B → A)
    → ((y : Option A) → ag None y ≡ true) → ((x : Option A) → ag x None ≡ true) →
    ((v : B) (y : Option A) → fit y v ≡ true → ag (Some (w v)) y ≡ true) → (s t : Bool) (o : Option B) (x y : Option A)
    →
    (s ≡ t) ⊎ (((s ≡ false) × (x ≡ None)) ⊎ ((t ≡ false) × (y ≡ None))) → set_fits fit t o y ≡ true
    → ag x (unset t o y) ≡ true → ag (set_in w s o x) y ≡ true
image-field ag fit w left right same s t None x y h f p = p
image-field ag fit w left right same true true (Some v) x y h f p = same v y f
image-field ag fit w left right same false false (Some v) x y h f p = p
image-field ag fit w left right same true false (Some v) x y (inl e) f p = cc
image-field ag fit w left right same true false (Some v) x y (inr (inl e)) f p = let z = e.0 in cc
image-field ag fit w left right same true false (Some v) x y (inr (inr e)) f p = rw (e.1) (right (Some (w v)))
image-field ag fit w left right same false true (Some v) x y (inl e) f p = cc
image-field ag fit w left right same false true (Some v) x y (inr (inl e)) f p = rw (e.1) (left y)
image-field ag fit w left right same false true (Some v) x y (inr (inr e)) f p = let z = e.0 in cc

-- ---- the tests of numbers and of prefixes
turned-same : (p q : ℕ) → (p == q) ≡ true → (q == p) ≡ true
turned-same p q e = subst (λ z. (z == p) ≡ true) (is-same p q e) (itself p)

agree-right : (x : Option ℕ) → agree x None ≡ true
agree-right None = refl
agree-right (Some v) = refl

agree-same : (v : ℕ) (y : Option ℕ) → fits y v ≡ true → agree (Some v) y ≡ true
agree-same v None e = refl
agree-same v (Some w) e = turned-same w v e

prefix-right : (x : Option Prefix) → agree_prefix x None ≡ true
prefix-right None = refl
prefix-right (Some p) = refl

none-less : (k : ℕ) → nat_le k 0 ≡ true → k ≡ 0
none-less k e = let l = leb-true k 0 e in omega arith

prefix-by : (v addr k len : ℕ) (t : Bool) → nat_le k 0 ≡ t → (addr / 2 ^ k == v / 2 ^ k) ≡ true →
    (if t then (v / 2 ^ 0 == addr / 2 ^ 0) else (v / 2 ^ k == addr / 2 ^ k)) ≡ true
prefix-by v addr k len true l e = subst (λ j. (v / 2 ^ j == addr / 2 ^ j) ≡ true) (none-less k l) (turned-same _ _ e)
prefix-by v addr k len false l e = turned-same _ _ e

prefix-same : (v : ℕ) (y : Option Prefix) → fits_prefix y v ≡ true → agree_prefix (Some (whole v)) y ≡ true
prefix-same v None e = refl
prefix-same v (Some q) e = prefix-by v q.addr (32 - q.len) q.len (nat_le (32 - q.len) 0) refl e

-- ---- whether a rewrite sets a field of what both name
guarded : {A : Type 0} (m : Option A) → Guards None m → m ≡ None
guarded None g = refl
guarded (Some x) g = absurd g

module _ {A : Type 0} where
  nw-agree : (t u : Option ℕ) (x y : Option A) → agree t u ≡ true → Guards t x → Guards u y →
      (names t is_ip ≡ names u is_ip)
      ⊎ (((names t is_ip ≡ false) × (x ≡ None)) ⊎ ((names u is_ip ≡ false) × (y ≡ None)))
  nw-agree None u x y e g h = inr (inl (refl, guarded x g))
  nw-agree (Some a) None x y e g h = inr (inr (refl, guarded y h))
  nw-agree (Some a) (Some b) x y e g h = inl (ap is_ip (is-same a b e))

  tp-agree : (t u p q : Option ℕ) (x y : Option A) → agree t u ≡ true → agree p q ≡ true → Guards t x → Guards u y
      → Guards p x → Guards q y →
      ((names t is_ip && names p is_tcp_udp) ≡ (names u is_ip && names q is_tcp_udp))
      ⊎ ((((names t is_ip && names p is_tcp_udp) ≡ false) × (x ≡ None))
      ⊎ (((names u is_ip && names q is_tcp_udp) ≡ false) × (y ≡ None)))
  tp-agree None u p q x y e f g h i j = inr (inl (refl, guarded x g))
  tp-agree (Some a) None p q x y e f g h i j = inr (inr (refl, guarded y h))
  tp-agree (Some a) (Some b) None q x y e f g h i j = inr (inl (and-false (is_ip a), guarded x i))
  tp-agree (Some a) (Some b) (Some c) None x y e f g h i j = inr (inr (and-false (is_ip b), guarded y j))
  tp-agree (Some a) (Some b) (Some c) (Some d) x y e f g h i j =
      inl (ap (λ z. is_ip z && is_tcp_udp c) (is-same a b e) ∙ ap (λ z. is_ip b && is_tcp_udp z) (is-same c d f))

-- ---- all fields
module _ (r : RewriteOf) (m n : MatchOf) (port : ℕ) (g : IsGuarded m) (h : IsGuarded n)
    (at : agree (Some port) n.in_port ≡ true) where
  abbrev asking : MatchOf
  asking = record (image r m) { in_port = Some port }

  asked-overlaps : can_pull r (without_port n) ≡ true → overlaps m (pulled r (without_port n)) ≡ true
      → overlaps asking n ≡ true
  asked-overlaps c o =
      let k = pulled r (without_port n) in
      let f = each-fields true (set_fits fits true r.dl_src n.dl_src) (set_fits fits true r.dl_dst n.dl_dst) true true
      true
      (set_fits fits (sets_nw n) r.nw_tos n.nw_tos) true (set_fits fits_prefix (sets_nw n) r.nw_src n.nw_src)
      (set_fits fits_prefix (sets_nw n) r.nw_dst n.nw_dst) (set_fits fits (sets_tp n) r.tp_src n.tp_src)
      (set_fits fits (sets_tp n) r.tp_dst n.tp_dst) c in
      let t = each-fields (agree m.in_port k.in_port) (agree m.dl_src k.dl_src) (agree m.dl_dst k.dl_dst)
      (agree m.dl_vlan k.dl_vlan) (agree m.dl_vlan_pcp k.dl_vlan_pcp) (agree m.dl_type k.dl_type)
      (agree m.nw_tos k.nw_tos) (agree m.nw_proto k.nw_proto) (agree_prefix m.nw_src k.nw_src)
      (agree_prefix m.nw_dst k.nw_dst) (agree m.tp_src k.tp_src) (agree m.tp_dst k.tp_dst) o in
      let s = asking in
      each-intro (agree s.in_port n.in_port) (agree s.dl_src n.dl_src) (agree s.dl_dst n.dl_dst)
      (agree s.dl_vlan n.dl_vlan) (agree s.dl_vlan_pcp n.dl_vlan_pcp) (agree s.dl_type n.dl_type)
      (agree s.nw_tos n.nw_tos) (agree s.nw_proto n.nw_proto) (agree_prefix s.nw_src n.nw_src)
      (agree_prefix s.nw_dst n.nw_dst) (agree s.tp_src n.tp_src) (agree s.tp_dst n.tp_dst)
      (record {
        at_a = at;
        at_b = image-field agree fits (λ v. v) (λ _. refl) agree-right agree-same true true r.dl_src m.dl_src n.dl_src
            (inl refl) f.at_b t.at_b;
        at_c = image-field agree fits (λ v. v) (λ _. refl) agree-right agree-same true true r.dl_dst m.dl_dst n.dl_dst
            (inl refl) f.at_c t.at_c;
        at_d = t.at_d;
        at_e = t.at_e;
        at_f = t.at_f;
        at_g = image-field agree fits (λ v. v) (λ _. refl) agree-right agree-same (sets_nw m) (sets_nw n) r.nw_tos
            m.nw_tos n.nw_tos (nw-agree m.dl_type n.dl_type m.nw_tos n.nw_tos t.at_f g.nw_tos h.nw_tos) f.at_g t.at_g;
        at_h = t.at_h;
        at_i = image-field agree_prefix fits_prefix whole (λ _. refl) prefix-right prefix-same (sets_nw m) (sets_nw n)
            r.nw_src m.nw_src n.nw_src (nw-agree m.dl_type n.dl_type m.nw_src n.nw_src t.at_f g.nw_src h.nw_src) f.at_i
            t.at_i;
        at_j = image-field agree_prefix fits_prefix whole (λ _. refl) prefix-right prefix-same (sets_nw m) (sets_nw n)
            r.nw_dst m.nw_dst n.nw_dst (nw-agree m.dl_type n.dl_type m.nw_dst n.nw_dst t.at_f g.nw_dst h.nw_dst) f.at_j
            t.at_j;
        at_k = image-field agree fits (λ v. v) (λ _. refl) agree-right agree-same (sets_tp m) (sets_tp n) r.tp_src
            m.tp_src n.tp_src
            (tp-agree m.dl_type n.dl_type m.nw_proto n.nw_proto m.tp_src n.tp_src t.at_f t.at_h g.tp_src h.tp_src
            g.tp_src_proto h.tp_src_proto) f.at_k t.at_k;
        at_l = image-field agree fits (λ v. v) (λ _. refl) agree-right agree-same (sets_tp m) (sets_tp n) r.tp_dst
            m.tp_dst n.tp_dst
            (tp-agree m.dl_type n.dl_type m.nw_proto n.nw_proto m.tp_dst n.tp_dst t.at_f t.at_h g.tp_dst h.tp_dst
            g.tp_dst_proto h.tp_dst_proto) f.at_l t.at_l;
      })

  nothing-met : overlaps asking n ≡ false → (s t : Bool) → can_pull r (without_port n) ≡ s
      → overlaps m (pulled r (without_port n)) ≡ t →
      option_and_then (meet m) (if s then Some (pulled r (without_port n)) else None) ≡ None
  nothing-met e false t c o = refl
  nothing-met e true false c o = rw o refl
  nothing-met e true true c o = absurd (let z : false ≡ true = sym e ∙ asked-overlaps c o in cc)

-- a rule makes nothing with one that doesn't overlap with what it asks where its link leads
pub none-hopped : (size : ℕ) (r : RewriteOf) (a b : Rule) (port : ℕ) → IsNormal a.m → IsNormal b.m
    → agree (Some port) b.m.in_port ≡ true →
    overlaps (record (image r a.m) { in_port = Some port }) b.m ≡ false → hop_rule size r a b ≡ None
none-hopped size r a b port n k at e =
    ap (option_map (hopped size r a b)) (nothing-met r a.m b.m port (normal-guarded a.m n) (normal-guarded b.m k) at e
    (can_pull r (without_port b.m)) (overlaps a.m (pulled r (without_port b.m))) refl refl)
