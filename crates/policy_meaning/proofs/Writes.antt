-- How many actions write outs, one after the other.
use Rattle.std.proofs.Common.{◌≡◌, ℕ, ◌+◌, ◌≤◌, Bool, true, false, List, [], ◌∷◌, ◌++◌, Option, Some, None, refl, sym}
use Rattle.std.proofs.Common.{subst, ap, arith, eqb-true, eq-eqb}
use Rattle.std.specs.Prelude.{◌==◌, if◌then◌else◌, map}
use Rattle.std.specs.Option.{option_or}
use Rattle.std.specs.List.{AllByRecursion, cons_option}
use Rattle.of10_actions.specs.Effects.{TailExtends}
use Rattle.of10_actions.specs.Fields.{RewriteOf}
use Rattle.of10_actions.specs.Rewriting.{Extends, IsSetToo, and_then, no_rewrite}
use Rattle.of10_actions.specs.declared.effects.Dest.{Dest}
use Rattle.of10_actions.specs.declared.effects.Dest.TheVariants.{Flood, Ingress, Port, Tell}
use Rattle.of10_actions.specs.declared.effects.Out.{Out}
use Rattle.of10_actions.specs.declared.effects.Tail.{Tail}
use Rattle.of10_actions.specs.declared.effects.Tail.TheVariants.{Link, Nothing, Pass}
use Rattle.policy_meaning.specs.Hops.{out_at, outs_at}
use Rattle.policy_meaning.specs.Meaning.{out_after, tail_after}
use Rattle.policy_meaning.specs.Written.{field_writes, set_writes, tail_writes, writes_from}
use Rattle.policy_meaning.proofs.Building.{Rises}

-- one field

one-most : (b : Bool) → (if b then 0 else 1) ≤ 1
one-most true = omega arith
one-most false = omega arith

field-most : (x : Option ℕ) (v : ℕ) → field_writes x (Some v) ≤ 1
field-most None v = omega arith
field-most (Some u) v = one-most (u == v)

by-way : (x : Option ℕ) (u w : ℕ) (b : Bool) → (u == w) ≡ b
    → field_writes x (Some w) ≤ field_writes x (Some u) + (if b then 0 else 1)
by-way x u w true e = let same : u ≡ w = eqb-true u w e in
    subst (λ z. field_writes x (Some z) ≤ field_writes x (Some u) + 0) same (omega arith)
by-way x u w false e = let m : field_writes x (Some w) ≤ 1 = field-most x w in omega arith

field-way : (x y z : Option ℕ) → field_writes x z ≤ field_writes x y + field_writes y z
field-way x y None = omega arith
field-way x None (Some w) = let m : field_writes x (Some w) ≤ 1 = field-most x w in omega arith
field-way x (Some u) (Some w) = by-way x u w (u == w) refl

field-after : (r x y b : Option ℕ) → IsSetToo b y
    → field_writes x (option_or b r) ≤ field_writes x (option_or y r) + field_writes y b
field-after r x None None e = omega arith
field-after r x (Some u) None e = absurd e
field-after r x None (Some v) e = let m : field_writes x (Some v) ≤ 1 = field-most x v in omega arith
field-after r x (Some u) (Some v) e = by-way x u v (u == v) refl

field-same : (x : Option ℕ) → field_writes x x ≡ 0
field-same None = refl
field-same (Some u) = rw (eq-eqb u u refl) refl

field-set : (x y : Option ℕ) → field_writes (option_or y x) y ≡ 0
field-set x None = refl
field-set x (Some v) = rw (eq-eqb v v refl) refl

-- seven fields

abbrev sum : (a b c d e f g : ℕ) → ℕ
sum a b c d e f g = a + (b + (c + (d + (e + (f + g)))))

sums : (a b c d e f g a' b' c' d' e' f' g' x y z u v w t : ℕ) → a ≤ a' + x → b ≤ b' + y → c ≤ c' + z → d ≤ d' + u
    → e ≤ e' + v → f ≤ f' + w → g ≤ g' + t →
    sum a b c d e f g ≤ sum a' b' c' d' e' f' g' + sum x y z u v w t
sums a b c d e f g a' b' c' d' e' f' g' x y z u v w t p q r s h i j = omega arith

pub sets-way : (x y z : RewriteOf) → set_writes x z ≤ set_writes x y + set_writes y z
sets-way x y z =
    sums _ _ _ _ _ _ _ _ _ _ _ _ _ _ _ _ _ _ _ _ _
    (field-way x.dl_src y.dl_src z.dl_src) (field-way x.dl_dst y.dl_dst z.dl_dst) (field-way x.nw_src y.nw_src z.nw_src)
    (field-way x.nw_dst y.nw_dst z.nw_dst)
    (field-way x.nw_tos y.nw_tos z.nw_tos) (field-way x.tp_src y.tp_src z.tp_src) (field-way x.tp_dst y.tp_dst z.tp_dst)

sets-after : (r x y b : RewriteOf) → Extends b y
    → set_writes x (and_then r b) ≤ set_writes x (and_then r y) + set_writes y b
sets-after r x y b e =
    sums _ _ _ _ _ _ _ _ _ _ _ _ _ _ _ _ _ _ _ _ _
    (field-after r.dl_src x.dl_src y.dl_src b.dl_src e.dl_src)
    (field-after r.dl_dst x.dl_dst y.dl_dst b.dl_dst e.dl_dst)
    (field-after r.nw_src x.nw_src y.nw_src b.nw_src e.nw_src)
    (field-after r.nw_dst x.nw_dst y.nw_dst b.nw_dst e.nw_dst)
    (field-after r.nw_tos x.nw_tos y.nw_tos b.nw_tos e.nw_tos)
    (field-after r.tp_src x.tp_src y.tp_src b.tp_src e.tp_src)
    (field-after r.tp_dst x.tp_dst y.tp_dst b.tp_dst e.tp_dst)

sets-same : (x : RewriteOf) → set_writes x x ≡ 0
sets-same x = rw (
  field-same x.dl_src,
  field-same x.dl_dst,
  field-same x.nw_src,
  field-same x.nw_dst,
  field-same x.nw_tos,
  field-same x.tp_src,
  field-same x.tp_dst,
) refl

-- nothing is set twice
pub sets-set : (x y : RewriteOf) → set_writes (and_then x y) y ≡ 0
sets-set x y =
    rw (
      field-set x.dl_src y.dl_src,
      field-set x.dl_dst y.dl_dst,
      field-set x.nw_src y.nw_src,
      field-set x.nw_dst y.nw_dst,
      field-set x.nw_tos y.nw_tos,
      field-set x.tp_src y.tp_src,
      field-set x.tp_dst y.tp_dst,
    ) refl

-- outs and a tail

tail-lower : (x y : RewriteOf) (t : Tail) → tail_writes x t ≤ set_writes x y + tail_writes y t
tail-lower x y Nothing = omega arith
tail-lower x y (Pass r) = sets-way x y r
tail-lower x y (Link r port) = sets-way x y r

-- from another rewrite, with what makes the one of the other
pub writes-lower : (x y : RewriteOf) (outs : List Out) (t : Tail)
    → writes_from x outs t ≤ set_writes x y + writes_from y outs t
writes-lower x y [] t = tail-lower x y t
writes-lower x y (o ∷ os) t = let w : set_writes x o.rewrite ≤ set_writes x y + set_writes y o.rewrite =
    sets-way x y o.rewrite in omega arith

-- without the tail
pub writes-ended : (r : RewriteOf) (outs : List Out) (t : Tail) → writes_from r outs Nothing ≤ writes_from r outs t
writes-ended r [] t = omega arith
writes-ended r (o ∷ os) t = let w : writes_from o.rewrite os Nothing ≤ writes_from o.rewrite os t =
    writes-ended o.rewrite os t in omega arith

-- a tail that leads over a link has the sets of one that passes on
pub writes-link : (s : RewriteOf) (outs : List Out) (r : RewriteOf) (port : ℕ)
    → writes_from s outs (Link r port) ≡ writes_from s outs (Pass r)
writes-link s [] r port = refl
writes-link s (o ∷ os) r port = ap (λ z. set_writes s o.rewrite + (1 + z)) (writes-link o.rewrite os r port)

tail-after : (r x q : RewriteOf) (t : Tail) → TailExtends t q
    → tail_writes x (tail_after r t) ≤ set_writes x (and_then r q) + tail_writes q t
tail-after r x q Nothing e = omega arith
tail-after r x q (Pass s) e = sets-after r x q s e
tail-after r x q (Link s port) e = sets-after r x q s e

-- after a rewrite
writes-after : (r x q : RewriteOf) (outs : List Out) (t : Tail) → Rises q outs t
    → writes_from x (map (out_after r) outs) (tail_after r t) ≤ set_writes x (and_then r q) + writes_from q outs t
writes-after r x q [] t p = tail-after r x q t p
writes-after r x q (o ∷ os) t p =
    let a : set_writes x (and_then r o.rewrite) ≤ set_writes x (and_then r q) + set_writes q o.rewrite =
    sets-after r x q o.rewrite p.0 in
    let b : writes_from (and_then r o.rewrite) (map (out_after r) os) (tail_after r t) ≤ set_writes
    (and_then r o.rewrite) (and_then r o.rewrite) + writes_from o.rewrite os t =
    writes-after r (and_then r o.rewrite) o.rewrite os t p.1 in
    let none : set_writes (and_then r o.rewrite) (and_then r o.rewrite) ≡ 0 = sets-same (and_then r o.rewrite) in
    omega arith

-- after outs that r follows
pub writes-then : (s : RewriteOf) (outs : List Out) (r : RewriteOf) (bs : List Out) (t : Tail) → Rises no_rewrite bs t →
    writes_from s (outs ++ map (out_after r) bs) (tail_after r t) ≤ writes_from s outs (Pass r) + writes_from no_rewrite
    bs t
writes-then s [] r bs t p = writes-after r s no_rewrite bs t p
writes-then s (o ∷ os) r bs t p =
    let w : writes_from o.rewrite (os ++ map (out_after r) bs) (tail_after r t) ≤ writes_from o.rewrite os (Pass r) +
    writes_from no_rewrite bs t = writes-then o.rewrite os r bs t p in
    omega arith

-- after outs that set nothing
pub writes-plain : (outs bs : List Out) (u t : Tail) → AllByRecursion (λ (o : Out). o.rewrite ≡ no_rewrite) outs
    → writes_from no_rewrite (outs ++ bs) t ≤ writes_from no_rewrite outs u + writes_from no_rewrite bs t
writes-plain [] bs u t a = omega arith
writes-plain (o ∷ os) bs u t a =
    let w : writes_from no_rewrite (os ++ bs) t ≤ writes_from no_rewrite os u + writes_from no_rewrite bs t =
    writes-plain os bs u t a.1 in
    let P = λ (r : RewriteOf). set_writes no_rewrite r + (1 + writes_from r (os ++ bs) t) ≤
    (set_writes no_rewrite r + (1 + writes_from r os u)) + writes_from no_rewrite bs t in
    subst P (sym a.0) (omega arith)

-- outs that are left out write nothing
module _ (v port : ℕ) where
  silent : (r q : RewriteOf) (b : Bool) (d : Dest) (rest : List Out) (t : Tail) (n : ℕ) → writes_from q rest t ≤ n
      → writes_from r (cons_option (if b then None else Some (record { rewrite = q; dest = d })) rest) t ≤ set_writes r
      q + (1 + n)
  silent r q true d rest t n le = let w : writes_from r rest t ≤ set_writes r q + writes_from q rest t =
      writes-lower r q rest t in omega arith
  silent r q false d rest t n le = omega arith

  kept : (r q : RewriteOf) (d : Dest) (rest : List Out) (t : Tail) (n : ℕ) → writes_from q rest t ≤ n
      → writes_from r (cons_option (out_at v port q d) rest) t ≤ set_writes r q + (1 + n)
  kept r q (Port w p) rest t n le = silent r q _ (Port w p) rest t n le
  kept r q (Flood w p) rest t n le = silent r q _ (Flood w p) rest t n le
  kept r q Ingress rest t n le = omega arith
  kept r q (Tell member reason) rest t n le = omega arith

  pub writes-at : (r : RewriteOf) (outs : List Out) (t : Tail)
      → writes_from r (outs_at v port outs) t ≤ writes_from r outs t
  writes-at r [] t = omega arith
  writes-at r (o ∷ os) t = kept r o.rewrite o.dest (outs_at v port os) t (writes_from o.rewrite os t)
      (writes-at o.rewrite os t)
