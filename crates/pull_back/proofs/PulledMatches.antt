-- What a pull holds, and what an image holds.
use Rattle.std.proofs.Common.{◌≡◌, ℕ, Bool, true, false, ◌&&◌, Option, Some, None, ◌⊎◌, inl, inr, refl, ap, ◌∙◌, sym}
use Rattle.std.proofs.Common.{eqb-true, eq-eqb}
use Rattle.std.specs.Prelude.{◌==◌}
use Rattle.std.proofs.Math.Bool.{and-true}
use Rattle.of10_match.specs.Fields.{HeaderOf, MatchOf}
use Rattle.of10_match.specs.Matching.{holds, each, fits, fits_prefix, top_bits}
use Rattle.of10_actions.specs.Fields.{RewriteOf}
use Rattle.of10_actions.specs.Rewriting.{apply, set_to, is_ip, is_tcp_udp, has_tcp_udp}
use Rattle.pull_back.proofs.Guarded.{Guards, IsGuarded}
use Rattle.pull_back.specs.Pulling.{names, sets_nw, sets_tp, set_fits, unset, can_pull, pulled, image, set_in, whole}
use Rattle.of10_match.proofs.Twelve.{and-false, each-and, each-same, each-fields, each-intro}

-- one field, for a test that no name passes always
pub fit-unset : {A : Type 0} (fit : Option A → ℕ → Bool) → ((x : ℕ) → fit None x ≡ true) →
    (b c : Bool) (o : Option ℕ) (m : Option A) (x : ℕ) → (b ≡ c) ⊎ (m ≡ None) →
    (fit (unset b o m) x && set_fits fit b o m) ≡ fit m (set_to c o x)
fit-unset fit any b true None m x h = and-true (fit m x)
fit-unset fit any b false None m x h = and-true (fit m x)
fit-unset fit any true true (Some v) m x h = rw (any x)
fit-unset fit any false false (Some v) m x h = and-true (fit m x)
fit-unset fit any true false (Some v) m x (inl e) = cc
fit-unset fit any false true (Some v) m x (inl e) = cc
fit-unset fit any true false (Some v) m x (inr e) = rw (e, any x, any v)
fit-unset fit any false true (Some v) m x (inr e) = rw (e, any x, any v)

-- what the named dl_type says of the header's
named_same : (o : Option ℕ) (test : ℕ → Bool) (x : ℕ) → fits o x ≡ true → (names o test ≡ test x) ⊎ (o ≡ None)
named_same None test x e = inr refl
named_same (Some v) test x e = inl (ap test (eqb-true v x e))

guarded : {A : Type 0} (o : Option ℕ) (m : Option A) → Guards o m → o ≡ None → m ≡ None
guarded None None g e = refl
guarded None (Some x) g e = absurd g
guarded (Some v) m g e = cc

sets_nw_same : {A : Type 0} (t : Option ℕ) (x : ℕ) (m : Option A) → fits t x ≡ true → Guards t m
    → (names t is_ip ≡ is_ip x) ⊎ (m ≡ None)
sets_nw_same t x m e g = elim (named_same t is_ip x e) [ inl p ↦ inl p | inr p ↦ inr (guarded t m g p) ]

sets_tp_same : {A : Type 0} (t u : Option ℕ) (x y : ℕ) (m : Option A) → fits t x ≡ true → fits u y ≡ true → Guards t m
    → Guards u m → ((names t is_ip && names u is_tcp_udp) ≡ has_tcp_udp x y) ⊎ (m ≡ None)
sets_tp_same t u x y m e f g k =
    elim (named_same t is_ip x e) [
      | inr p ↦ inr (guarded t m g p)
      | inl p ↦
          elim (named_same u is_tcp_udp y f) [ inr q ↦ inr (guarded u m k q) | inl q ↦ inl (rw (p, q)) ]
    ]

-- equal where the tests of dl_type and nw_proto pass
pub each-under : (f h a b c d e g i j k l a' b' c' d' e' g' i' j' k' l' : Bool)
    → (f ≡ true → h ≡ true → each a b c d e f g h i j k l ≡ each a' b' c' d' e' f g' h i' j' k' l') →
    each a b c d e f g h i j k l ≡ each a' b' c' d' e' f g' h i' j' k' l'
each-under true true a b c d e g i j k l a' b' c' d' e' g' i' j' k' l' u = u refl refl
each-under true false a b c d e g i j k l a' b' c' d' e' g' i' j' k' l' u = simp and-false
each-under false h a b c d e g i j k l a' b' c' d' e' g' i' j' k' l' u = simp and-false

pull_fields : (r : RewriteOf) (m : MatchOf) (h : HeaderOf) → IsGuarded m → fits m.dl_type h.dl_type ≡ true
    → fits m.nw_proto h.nw_proto ≡ true →
    each (fits m.in_port h.in_port && true)
    (fits (unset true r.dl_src m.dl_src) h.dl_src && (set_fits fits true r.dl_src m.dl_src))
    (fits (unset true r.dl_dst m.dl_dst) h.dl_dst && (set_fits fits true r.dl_dst m.dl_dst))
    (fits m.dl_vlan h.dl_vlan && true) (fits m.dl_vlan_pcp h.dl_vlan_pcp && true) (fits m.dl_type h.dl_type && true)
    (fits (unset (sets_nw m) r.nw_tos m.nw_tos) h.nw_tos && (set_fits fits (sets_nw m) r.nw_tos m.nw_tos))
    (fits m.nw_proto h.nw_proto && true)
    (fits_prefix (unset (sets_nw m) r.nw_src m.nw_src) h.nw_src &&
    (set_fits fits_prefix (sets_nw m) r.nw_src m.nw_src))
    (fits_prefix (unset (sets_nw m) r.nw_dst m.nw_dst) h.nw_dst &&
    (set_fits fits_prefix (sets_nw m) r.nw_dst m.nw_dst))
    (fits (unset (sets_tp m) r.tp_src m.tp_src) h.tp_src && (set_fits fits (sets_tp m) r.tp_src m.tp_src))
    (fits (unset (sets_tp m) r.tp_dst m.tp_dst) h.tp_dst && (set_fits fits (sets_tp m) r.tp_dst m.tp_dst))
    ≡ each (fits m.in_port (apply r h).in_port) (fits m.dl_src (apply r h).dl_src) (fits m.dl_dst (apply r h).dl_dst)
    (fits m.dl_vlan (apply r h).dl_vlan) (fits m.dl_vlan_pcp (apply r h).dl_vlan_pcp)
    (fits m.dl_type h.dl_type && true) (fits m.nw_tos (apply r h).nw_tos) (fits m.nw_proto h.nw_proto && true)
    (fits_prefix m.nw_src (apply r h).nw_src) (fits_prefix m.nw_dst (apply r h).nw_dst)
    (fits m.tp_src (apply r h).tp_src) (fits m.tp_dst (apply r h).tp_dst)
pull_fields r m h g p q =
    each-same (and-true (fits m.in_port h.in_port))
    (fit-unset fits (λ _. refl) true true r.dl_src m.dl_src h.dl_src (inl refl))
    (fit-unset fits (λ _. refl) true true r.dl_dst m.dl_dst h.dl_dst (inl refl))
    (and-true (fits m.dl_vlan h.dl_vlan)) (and-true (fits m.dl_vlan_pcp h.dl_vlan_pcp)) refl
    (fit-unset fits (λ _. refl) (sets_nw m) (is_ip h.dl_type) r.nw_tos m.nw_tos h.nw_tos
    (sets_nw_same m.dl_type h.dl_type m.nw_tos p g.nw_tos)) refl
    (fit-unset fits_prefix (λ _. refl) (sets_nw m) (is_ip h.dl_type) r.nw_src m.nw_src h.nw_src
    (sets_nw_same m.dl_type h.dl_type m.nw_src p g.nw_src))
    (fit-unset fits_prefix (λ _. refl) (sets_nw m) (is_ip h.dl_type) r.nw_dst m.nw_dst h.nw_dst
    (sets_nw_same m.dl_type h.dl_type m.nw_dst p g.nw_dst))
    (fit-unset fits (λ _. refl) (sets_tp m) (has_tcp_udp h.dl_type h.nw_proto) r.tp_src m.tp_src h.tp_src
    (sets_tp_same m.dl_type m.nw_proto h.dl_type h.nw_proto m.tp_src p q g.tp_src g.tp_src_proto))
    (fit-unset fits (λ _. refl) (sets_tp m) (has_tcp_udp h.dl_type h.nw_proto) r.tp_dst m.tp_dst h.tp_dst
    (sets_tp_same m.dl_type m.nw_proto h.dl_type h.nw_proto m.tp_dst p q g.tp_dst g.tp_dst_proto))

pull_end : (r : RewriteOf) (m : MatchOf) (h : HeaderOf) →
    each (fits m.in_port (apply r h).in_port) (fits m.dl_src (apply r h).dl_src) (fits m.dl_dst (apply r h).dl_dst)
    (fits m.dl_vlan (apply r h).dl_vlan) (fits m.dl_vlan_pcp (apply r h).dl_vlan_pcp)
    (fits m.dl_type h.dl_type && true) (fits m.nw_tos (apply r h).nw_tos) (fits m.nw_proto h.nw_proto && true)
    (fits_prefix m.nw_src (apply r h).nw_src) (fits_prefix m.nw_dst (apply r h).nw_dst)
    (fits m.tp_src (apply r h).tp_src) (fits m.tp_dst (apply r h).tp_dst) ≡ holds m (apply r h)
pull_end r m h = rw (and-true (fits m.dl_type h.dl_type), and-true (fits m.nw_proto h.nw_proto))

pub holds-pulled : (r : RewriteOf) (m : MatchOf) (h : HeaderOf) → IsGuarded m
    → (holds (pulled r m) h && can_pull r m) ≡ holds m (apply r h)
holds-pulled r m h g =
    each-and (fits m.in_port h.in_port) (fits (unset true r.dl_src m.dl_src) h.dl_src)
    (fits (unset true r.dl_dst m.dl_dst) h.dl_dst) (fits m.dl_vlan h.dl_vlan) (fits m.dl_vlan_pcp h.dl_vlan_pcp)
    (fits m.dl_type h.dl_type) (fits (unset (sets_nw m) r.nw_tos m.nw_tos) h.nw_tos) (fits m.nw_proto h.nw_proto)
    (fits_prefix (unset (sets_nw m) r.nw_src m.nw_src) h.nw_src)
    (fits_prefix (unset (sets_nw m) r.nw_dst m.nw_dst) h.nw_dst)
    (fits (unset (sets_tp m) r.tp_src m.tp_src) h.tp_src) (fits (unset (sets_tp m) r.tp_dst m.tp_dst) h.tp_dst) true
    (set_fits fits true r.dl_src m.dl_src) (set_fits fits true r.dl_dst m.dl_dst) true true true
    (set_fits fits (sets_nw m) r.nw_tos m.nw_tos) true (set_fits fits_prefix (sets_nw m) r.nw_src m.nw_src)
    (set_fits fits_prefix (sets_nw m) r.nw_dst m.nw_dst) (set_fits fits (sets_tp m) r.tp_src m.tp_src)
    (set_fits fits (sets_tp m) r.tp_dst m.tp_dst)
    ∙ (each-under (fits m.dl_type h.dl_type && true) (fits m.nw_proto h.nw_proto && true)
    (fits m.in_port h.in_port && true)
    (fits (unset true r.dl_src m.dl_src) h.dl_src && (set_fits fits true r.dl_src m.dl_src))
    (fits (unset true r.dl_dst m.dl_dst) h.dl_dst && (set_fits fits true r.dl_dst m.dl_dst))
    (fits m.dl_vlan h.dl_vlan && true) (fits m.dl_vlan_pcp h.dl_vlan_pcp && true)
    (fits (unset (sets_nw m) r.nw_tos m.nw_tos) h.nw_tos && (set_fits fits (sets_nw m) r.nw_tos m.nw_tos))
    (fits_prefix (unset (sets_nw m) r.nw_src m.nw_src) h.nw_src &&
    (set_fits fits_prefix (sets_nw m) r.nw_src m.nw_src))
    (fits_prefix (unset (sets_nw m) r.nw_dst m.nw_dst) h.nw_dst &&
    (set_fits fits_prefix (sets_nw m) r.nw_dst m.nw_dst))
    (fits (unset (sets_tp m) r.tp_src m.tp_src) h.tp_src && (set_fits fits (sets_tp m) r.tp_src m.tp_src))
    (fits (unset (sets_tp m) r.tp_dst m.tp_dst) h.tp_dst && (set_fits fits (sets_tp m) r.tp_dst m.tp_dst))
    (fits m.in_port (apply r h).in_port) (fits m.dl_src (apply r h).dl_src) (fits m.dl_dst (apply r h).dl_dst)
    (fits m.dl_vlan (apply r h).dl_vlan) (fits m.dl_vlan_pcp (apply r h).dl_vlan_pcp)
    (fits m.nw_tos (apply r h).nw_tos) (fits_prefix m.nw_src (apply r h).nw_src)
    (fits_prefix m.nw_dst (apply r h).nw_dst) (fits m.tp_src (apply r h).tp_src) (fits m.tp_dst (apply r h).tp_dst)
    (λ p q. pull_fields r m h g (sym (and-true (fits m.dl_type h.dl_type)) ∙ p)
    (sym (and-true (fits m.nw_proto h.nw_proto)) ∙ q))
    ∙ pull_end r m h)

-- one field of an image
fit-set_in : {A : Type 0} (fit : Option A → ℕ → Bool) (whole : ℕ → A) → ((x : ℕ) → fit None x ≡ true)
    → ((x : ℕ) → fit (Some (whole x)) x ≡ true) →
    (b c : Bool) (o : Option ℕ) (m : Option A) (x : ℕ) → (b ≡ c) ⊎ ((b ≡ false) × (m ≡ None)) → fit m x ≡ true →
    fit (set_in whole b o m) (set_to c o x) ≡ true
fit-set_in fit w any here b c None m x h p = p
fit-set_in fit w any here true true (Some v) m x h p = here v
fit-set_in fit w any here false false (Some v) m x h p = p
fit-set_in fit w any here true false (Some v) m x (inl e) p = cc
fit-set_in fit w any here true false (Some v) m x (inr e) p = cc
fit-set_in fit w any here false true (Some v) m x (inl e) p = cc
fit-set_in fit w any here false true (Some v) m x (inr e) p = rw (e.1, any v)

names-none : (o : Option ℕ) (test : ℕ → Bool) → o ≡ None → names o test ≡ false
names-none o test e = rw e

nw-known : {A : Type 0} (t : Option ℕ) (x : ℕ) (m : Option A) → fits t x ≡ true → Guards t m
    → (names t is_ip ≡ is_ip x) ⊎ ((names t is_ip ≡ false) × (m ≡ None))
nw-known t x m e g = elim (named_same t is_ip x e)
    [ inl p ↦ inl p | inr p ↦ inr (names-none t is_ip p, guarded t m g p) ]

and_none : (a b : Bool) → b ≡ false → (a && b) ≡ false
and_none a b e = rw e (and-false a)

tp-known : {A : Type 0} (t u : Option ℕ) (x y : ℕ) (m : Option A) → fits t x ≡ true → fits u y ≡ true → Guards t m
    → Guards u m → ((names t is_ip && names u is_tcp_udp) ≡ has_tcp_udp x y)
    ⊎ (((names t is_ip && names u is_tcp_udp) ≡ false) × (m ≡ None))
tp-known t u x y m e f g k =
    elim (named_same t is_ip x e) [
      | inr p ↦ inr (rw (names-none t is_ip p), guarded t m g p)
      | inl p ↦
          elim (named_same u is_tcp_udp y f) [
            | inr q ↦ inr (and_none (names t is_ip) (names u is_tcp_udp) (names-none u is_tcp_udp q), guarded u m k q)
            | inl q ↦ inl (rw (p, q))
          ]
    ]

itself : (x : ℕ) → (x == x) ≡ true
itself x = eq-eqb x x refl

-- the image of a match holds what the match holds, once it is rewritten
pub holds-image : (r : RewriteOf) (m : MatchOf) (h : HeaderOf) → IsGuarded m → holds m h ≡ true
    → holds (image r m) (apply r h) ≡ true
holds-image r m h g e =
    let t = each-fields (fits m.in_port h.in_port) (fits m.dl_src h.dl_src) (fits m.dl_dst h.dl_dst)
    (fits m.dl_vlan h.dl_vlan) (fits m.dl_vlan_pcp h.dl_vlan_pcp) (fits m.dl_type h.dl_type)
    (fits m.nw_tos h.nw_tos) (fits m.nw_proto h.nw_proto) (fits_prefix m.nw_src h.nw_src)
    (fits_prefix m.nw_dst h.nw_dst) (fits m.tp_src h.tp_src) (fits m.tp_dst h.tp_dst) e in
    let s = image r m in
    let k = apply r h in
    each-intro (fits s.in_port k.in_port) (fits s.dl_src k.dl_src) (fits s.dl_dst k.dl_dst) (fits s.dl_vlan k.dl_vlan)
    (fits s.dl_vlan_pcp k.dl_vlan_pcp) (fits s.dl_type k.dl_type) (fits s.nw_tos k.nw_tos)
    (fits s.nw_proto k.nw_proto) (fits_prefix s.nw_src k.nw_src) (fits_prefix s.nw_dst k.nw_dst)
    (fits s.tp_src k.tp_src) (fits s.tp_dst k.tp_dst)
    (record {
      at_a = t.at_a;
      at_b = fit-set_in fits (λ v. v) (λ _. refl) itself true true r.dl_src m.dl_src h.dl_src (inl refl) t.at_b;
      at_c = fit-set_in fits (λ v. v) (λ _. refl) itself true true r.dl_dst m.dl_dst h.dl_dst (inl refl) t.at_c;
      at_d = t.at_d;
      at_e = t.at_e;
      at_f = t.at_f;
      at_g = fit-set_in fits (λ v. v) (λ _. refl) itself (sets_nw m) (is_ip h.dl_type) r.nw_tos m.nw_tos h.nw_tos
          (nw-known m.dl_type h.dl_type m.nw_tos t.at_f g.nw_tos) t.at_g;
      at_h = t.at_h;
      at_i = fit-set_in fits_prefix whole (λ _. refl) (λ x. itself (top_bits 32 x)) (sets_nw m) (is_ip h.dl_type)
          r.nw_src m.nw_src h.nw_src (nw-known m.dl_type h.dl_type m.nw_src t.at_f g.nw_src) t.at_i;
      at_j = fit-set_in fits_prefix whole (λ _. refl) (λ x. itself (top_bits 32 x)) (sets_nw m) (is_ip h.dl_type)
          r.nw_dst m.nw_dst h.nw_dst (nw-known m.dl_type h.dl_type m.nw_dst t.at_f g.nw_dst) t.at_j;
      at_k = fit-set_in fits (λ v. v) (λ _. refl) itself (sets_tp m) (has_tcp_udp h.dl_type h.nw_proto) r.tp_src
          m.tp_src h.tp_src (tp-known m.dl_type m.nw_proto h.dl_type h.nw_proto m.tp_src t.at_f t.at_h g.tp_src
          g.tp_src_proto) t.at_k;
      at_l = fit-set_in fits (λ v. v) (λ _. refl) itself (sets_tp m) (has_tcp_udp h.dl_type h.nw_proto) r.tp_dst
          m.tp_dst h.tp_dst (tp-known m.dl_type m.nw_proto h.dl_type h.nw_proto m.tp_dst t.at_f t.at_h g.tp_dst
          g.tp_dst_proto) t.at_l;
    })
