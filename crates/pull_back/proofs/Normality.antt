-- Normal matches: they are guarded, and pulls and images of them are normal.
use Rattle.std.proofs.Common.{◌≡◌, ℕ, Bool, true, false, ◌&&◌, Option, Some, None, refl, ◌∙◌, sym}
use Rattle.std.specs.Prelude.{OnSome, IsTrue, ◌==◌}
use Rattle.std.proofs.Math.Bool.{or-true}
use Rattle.std.proofs.lemmas.Bool.{false≢true}
use Rattle.of10_match.specs.Fields.{MatchOf}
use Rattle.of10_match.specs.Normal.{IsNormal, is_ip, is_ip_or_arp, has_ports}
use Rattle.of10_match.proofs.Twelve.{and-first, and-second, and-intro}
use Rattle.of10_actions.specs.Fields.{RewriteOf}
use Rattle.of10_actions.specs.Rewriting.{is_ip as ip, is_tcp_udp as tcp_udp}
use Rattle.pull_back.proofs.Guarded.{Guards, IsGuarded}
use Rattle.pull_back.specs.Pulling.{unset, set_in, whole, pulled, image, sets_nw, sets_tp, names}

module _ {A : Type 0} where
  on_some_map : (x : Option A) (P Q : Type 0) → (P → Q) → OnSome x P → OnSome x Q
  on_some_map None P Q f p = tt
  on_some_map (Some v) P Q f p = f p

  -- a test of a prerequisite that nothing passes
  module _ (test : Option ℕ → Bool) (none : test None ≡ false) where
    guard : (t : Option ℕ) (x : Option A) → OnSome x (IsTrue (test t)) → Guards t x
    guard None None p = tt
    guard None (Some v) p = false≢true (sym none ∙ p)
    guard (Some n) x p = tt

-- the two prerequisites of ports
module _ (t p : Option ℕ) (x : Option ℕ) where
  of_ip : OnSome x (IsTrue (is_ip t && has_ports p)) → OnSome x (IsTrue (is_ip t))
  of_ip q = on_some_map x _ _ (λ e. and-first (is_ip t) (has_ports p) e) q

  of_ports : OnSome x (IsTrue (is_ip t && has_ports p)) → OnSome x (IsTrue (has_ports p))
  of_ports q = on_some_map x _ _ (λ e. and-second (is_ip t) (has_ports p) e) q

-- a normal match names a field only beside those that a pull reads with it
pub normal-guarded : (m : MatchOf) → IsNormal m → IsGuarded m
normal-guarded m n = record {
  nw_tos = guard is_ip refl m.dl_type m.nw_tos n.nw_tos;
  nw_src = guard is_ip_or_arp refl m.dl_type m.nw_src n.nw_src;
  nw_dst = guard is_ip_or_arp refl m.dl_type m.nw_dst n.nw_dst;
  tp_src = guard is_ip refl m.dl_type m.tp_src (of_ip m.dl_type m.nw_proto m.tp_src n.tp_src);
  tp_dst = guard is_ip refl m.dl_type m.tp_dst (of_ip m.dl_type m.nw_proto m.tp_dst n.tp_dst);
  tp_src_proto = guard has_ports refl m.nw_proto m.tp_src (of_ports m.dl_type m.nw_proto m.tp_src n.tp_src);
  tp_dst_proto = guard has_ports refl m.nw_proto m.tp_dst (of_ports m.dl_type m.nw_proto m.tp_dst n.tp_dst);
}

unset-stands : {A : Type 0} (b : Bool) (o : Option ℕ) (x : Option A) (P : Type 0) → OnSome x P → OnSome (unset b o x) P
unset-stands b None x P p = p
unset-stands true (Some v) x P p = tt
unset-stands false (Some v) x P p = p

-- what is pulled back of a normal match is normal
pub normal-pulled : (r : RewriteOf) (m : MatchOf) → IsNormal m → IsNormal (pulled r m)
normal-pulled r m n = record {
  dl_vlan_pcp = n.dl_vlan_pcp;
  nw_tos = unset-stands (sets_nw m) r.nw_tos m.nw_tos _ n.nw_tos;
  nw_proto = n.nw_proto;
  nw_src = unset-stands (sets_nw m) r.nw_src m.nw_src _ n.nw_src;
  nw_dst = unset-stands (sets_nw m) r.nw_dst m.nw_dst _ n.nw_dst;
  tp_src = unset-stands (sets_tp m) r.tp_src m.tp_src _ n.tp_src;
  tp_dst = unset-stands (sets_tp m) r.tp_dst m.tp_dst _ n.tp_dst;
}

set_in-stands : {A B : Type 0} (f : B → A) (b : Bool) (o : Option B) (x : Option A) (P : Type 0) → (b ≡ true → P)
    → OnSome x P → OnSome (set_in f b o x) P
set_in-stands f b None x P g p = p
set_in-stands f true (Some v) x P g p = g refl
set_in-stands f false (Some v) x P g p = p

-- a match of which a rewrite sets nw fields is of IPv4
nw-ip : (t : Option ℕ) → names t ip ≡ true → IsTrue (is_ip t)
nw-ip None e = e
nw-ip (Some v) e = e

nw-ip_or_arp : (t : Option ℕ) → names t ip ≡ true → IsTrue (is_ip_or_arp t)
nw-ip_or_arp None e = e
nw-ip_or_arp (Some v) e = rw e

-- and one of which it sets tp fields is of TCP or UDP
tp-ports : (p : Option ℕ) → names p tcp_udp ≡ true → IsTrue (has_ports p)
tp-ports None e = e
tp-ports (Some v) e = rw e (or-true (v == 1))

tp-both : (t p : Option ℕ) → (names t ip && names p tcp_udp) ≡ true → IsTrue (is_ip t && has_ports p)
tp-both t p e =
    and-intro (is_ip t) (has_ports p) (nw-ip t (and-first (names t ip) (names p tcp_udp) e))
    (tp-ports p (and-second (names t ip) (names p tcp_udp) e))

-- the image of a normal match is normal
pub normal-image : (r : RewriteOf) (m : MatchOf) → IsNormal m → IsNormal (image r m)
normal-image r m n = record {
  dl_vlan_pcp = n.dl_vlan_pcp;
  nw_tos = set_in-stands (λ v. v) (sets_nw m) r.nw_tos m.nw_tos _ (nw-ip m.dl_type) n.nw_tos;
  nw_proto = n.nw_proto;
  nw_src = set_in-stands whole (sets_nw m) r.nw_src m.nw_src _ (nw-ip_or_arp m.dl_type) n.nw_src;
  nw_dst = set_in-stands whole (sets_nw m) r.nw_dst m.nw_dst _ (nw-ip_or_arp m.dl_type) n.nw_dst;
  tp_src = set_in-stands (λ v. v) (sets_tp m) r.tp_src m.tp_src _ (tp-both m.dl_type m.nw_proto) n.tp_src;
  tp_dst = set_in-stands (λ v. v) (sets_tp m) r.tp_dst m.tp_dst _ (tp-both m.dl_type m.nw_proto) n.tp_dst;
}
