-- Laws of composition, field by field.
use Rattle.std.proofs.Common.{◌≡◌, ℕ, Bool, true, false, Option, Some, None, refl}
use Rattle.std.specs.Prelude.{IfSome}
use Rattle.std.specs.Option.{option_or}
use Rattle.of10_match.specs.Fields.{HeaderOf}
use Rattle.of10_actions.specs.Fields.{RewriteOf}
use Rattle.of10_actions.specs.Rewriting.{apply, and_then, no_rewrite, set_to, is_ip, has_tcp_udp}

-- what holds of both values holds of the first that is there
pub if_some_or : {A : Type 0} (P : A → Type 0) (x y : Option A) → IfSome x P → IfSome y P → IfSome (option_or x y) P
if_some_or P None y p q = q
if_some_or P (Some v) y p q = p

set-or : (b : Bool) (s r : Option ℕ) (x : ℕ) → set_to b (option_or s r) x ≡ set_to b s (set_to b r x)
set-or b None r x = refl
set-or true (Some v) r x = refl
set-or false (Some v) None x = refl
set-or false (Some v) (Some w) x = refl

pub apply-and_then : (r s : RewriteOf) (h : HeaderOf) → apply (and_then r s) h ≡ apply s (apply r h)
apply-and_then r s h = λ i. record h {
  dl_src = set-or true s.dl_src r.dl_src h.dl_src i;
  dl_dst = set-or true s.dl_dst r.dl_dst h.dl_dst i;
  nw_src = set-or (is_ip h.dl_type) s.nw_src r.nw_src h.nw_src i;
  nw_dst = set-or (is_ip h.dl_type) s.nw_dst r.nw_dst h.nw_dst i;
  nw_tos = set-or (is_ip h.dl_type) s.nw_tos r.nw_tos h.nw_tos i;
  tp_src = set-or (has_tcp_udp h.dl_type h.nw_proto) s.tp_src r.tp_src h.tp_src i;
  tp_dst = set-or (has_tcp_udp h.dl_type h.nw_proto) s.tp_dst r.tp_dst h.tp_dst i;
}

or-or : (a b c : Option ℕ) → option_or c (option_or b a) ≡ option_or (option_or c b) a
or-or a b None = refl
or-or a b (Some v) = refl

pub and_then-groups : (r s t : RewriteOf) → and_then (and_then r s) t ≡ and_then r (and_then s t)
and_then-groups r s t = λ i. record {
  dl_src = or-or r.dl_src s.dl_src t.dl_src i;
  dl_dst = or-or r.dl_dst s.dl_dst t.dl_dst i;
  nw_src = or-or r.nw_src s.nw_src t.nw_src i;
  nw_dst = or-or r.nw_dst s.nw_dst t.nw_dst i;
  nw_tos = or-or r.nw_tos s.nw_tos t.nw_tos i;
  tp_src = or-or r.tp_src s.tp_src t.tp_src i;
  tp_dst = or-or r.tp_dst s.tp_dst t.tp_dst i;
}

or-none : (a : Option ℕ) → option_or a None ≡ a
or-none None = refl
or-none (Some v) = refl

pub and_then-first : (r : RewriteOf) → and_then no_rewrite r ≡ r
and_then-first r = λ i. record {
  dl_src = or-none r.dl_src i;
  dl_dst = or-none r.dl_dst i;
  nw_src = or-none r.nw_src i;
  nw_dst = or-none r.nw_dst i;
  nw_tos = or-none r.nw_tos i;
  tp_src = or-none r.tp_src i;
  tp_dst = or-none r.tp_dst i;
}
