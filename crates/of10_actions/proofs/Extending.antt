-- Laws of extending, field by field.
use Rattle.std.proofs.Common.{◌≡◌, ℕ, Option, Some, None, refl}
use Rattle.std.specs.Option.{option_or}
use Rattle.of10_actions.specs.Fields.{RewriteOf}
use Rattle.of10_actions.specs.Rewriting.{IsSetToo, Extends, and_then}

covers-itself : (a : Option ℕ) → IsSetToo a a
covers-itself None = tt
covers-itself (Some v) = tt

covers-onward : (c b a : Option ℕ) → IsSetToo c b → IsSetToo b a → IsSetToo c a
covers-onward c b None p q = tt
covers-onward (Some z) (Some y) (Some x) p q = tt
covers-onward None (Some y) (Some x) p q = absurd p
covers-onward c None (Some x) p q = absurd q

covers-or : (a b : Option ℕ) → IsSetToo (option_or b a) a
covers-or None b = tt
covers-or (Some v) None = tt
covers-or (Some v) (Some w) = tt

covers-after : (a b c : Option ℕ) → IsSetToo c b → IsSetToo (option_or c a) (option_or b a)
covers-after a None None p = covers-itself a
covers-after None None (Some z) p = tt
covers-after (Some x) None (Some z) p = tt
covers-after a (Some y) (Some z) p = tt
covers-after a (Some y) None p = absurd p

covers-absorbs : (a b : Option ℕ) → IsSetToo b a → option_or b a ≡ b
covers-absorbs a (Some w) p = refl
covers-absorbs None None p = refl
covers-absorbs (Some v) None p = absurd p

pub extends-itself : (r : RewriteOf) → Extends r r
extends-itself r = record {
  dl_src = covers-itself r.dl_src;
  dl_dst = covers-itself r.dl_dst;
  nw_src = covers-itself r.nw_src;
  nw_dst = covers-itself r.nw_dst;
  nw_tos = covers-itself r.nw_tos;
  tp_src = covers-itself r.tp_src;
  tp_dst = covers-itself r.tp_dst;
}

pub extends-onward : (r s t : RewriteOf) → Extends t s → Extends s r → Extends t r
extends-onward r s t p q = record {
  dl_src = covers-onward t.dl_src s.dl_src r.dl_src p.dl_src q.dl_src;
  dl_dst = covers-onward t.dl_dst s.dl_dst r.dl_dst p.dl_dst q.dl_dst;
  nw_src = covers-onward t.nw_src s.nw_src r.nw_src p.nw_src q.nw_src;
  nw_dst = covers-onward t.nw_dst s.nw_dst r.nw_dst p.nw_dst q.nw_dst;
  nw_tos = covers-onward t.nw_tos s.nw_tos r.nw_tos p.nw_tos q.nw_tos;
  tp_src = covers-onward t.tp_src s.tp_src r.tp_src p.tp_src q.tp_src;
  tp_dst = covers-onward t.tp_dst s.tp_dst r.tp_dst p.tp_dst q.tp_dst;
}

pub extends-composed : (r s : RewriteOf) → Extends (and_then r s) r
extends-composed r s = record {
  dl_src = covers-or r.dl_src s.dl_src;
  dl_dst = covers-or r.dl_dst s.dl_dst;
  nw_src = covers-or r.nw_src s.nw_src;
  nw_dst = covers-or r.nw_dst s.nw_dst;
  nw_tos = covers-or r.nw_tos s.nw_tos;
  tp_src = covers-or r.tp_src s.tp_src;
  tp_dst = covers-or r.tp_dst s.tp_dst;
}

pub extends-after : (r s t : RewriteOf) → Extends t s → Extends (and_then r t) (and_then r s)
extends-after r s t p = record {
  dl_src = covers-after r.dl_src s.dl_src t.dl_src p.dl_src;
  dl_dst = covers-after r.dl_dst s.dl_dst t.dl_dst p.dl_dst;
  nw_src = covers-after r.nw_src s.nw_src t.nw_src p.nw_src;
  nw_dst = covers-after r.nw_dst s.nw_dst t.nw_dst p.nw_dst;
  nw_tos = covers-after r.nw_tos s.nw_tos t.nw_tos p.nw_tos;
  tp_src = covers-after r.tp_src s.tp_src t.tp_src p.tp_src;
  tp_dst = covers-after r.tp_dst s.tp_dst t.tp_dst p.tp_dst;
}

pub and_then-absorbs : (r s : RewriteOf) → Extends s r → and_then r s ≡ s
and_then-absorbs r s p = λ i. record {
  dl_src = covers-absorbs r.dl_src s.dl_src p.dl_src i;
  dl_dst = covers-absorbs r.dl_dst s.dl_dst p.dl_dst i;
  nw_src = covers-absorbs r.nw_src s.nw_src p.nw_src i;
  nw_dst = covers-absorbs r.nw_dst s.nw_dst p.nw_dst i;
  nw_tos = covers-absorbs r.nw_tos s.nw_tos p.nw_tos i;
  tp_src = covers-absorbs r.tp_src s.tp_src p.tp_src i;
  tp_dst = covers-absorbs r.tp_dst s.tp_dst p.tp_dst i;
}
