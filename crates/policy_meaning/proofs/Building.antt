-- Lists of outs in which each rewrite extends the one before it, and the tail's extends all.
use Rattle.std.proofs.Common.{◌≡◌, ℕ, Bool, true, false, List, [], ◌∷◌, ◌++◌, Some, None, sym, subst}
use Rattle.std.specs.Prelude.{map, if◌then◌else◌}
use Rattle.std.specs.List.{AllByRecursion, cons_option}
use Rattle.of10_actions.specs.Fields.{RewriteOf}
use Rattle.of10_actions.specs.Rewriting.{Extends, and_then, no_rewrite}
use Rattle.of10_actions.specs.Effects.{TailExtends, EachExtends}
use Rattle.of10_actions.proofs.Extending.{extends-onward, extends-after}
use Rattle.of10_actions.specs.declared.effects.Out.{Out}
use Rattle.of10_actions.specs.declared.effects.Dest.{Dest}
use Rattle.of10_actions.specs.declared.effects.Dest.TheVariants.{Port, Flood, Ingress, Tell}
use Rattle.of10_actions.specs.declared.effects.Tail.{Tail}
use Rattle.of10_actions.specs.declared.effects.Tail.TheVariants.{Nothing, Pass, Link}
use Rattle.policy_meaning.specs.Meaning.{out_after, tail_after}
use Rattle.policy_meaning.specs.Best.{BuildUp}
use Rattle.policy_meaning.specs.Hops.{out_at, outs_at}

-- each rewrite extends the one before it, of which r is the first, and the tail's extends the last
abbrev pub Rises : RewriteOf → List Out → Tail → Type 0
Rises r [] t = TailExtends t r
Rises r (o ∷ os) t = Extends o.rewrite r × Rises o.rewrite os t

tail-onward : (q r : RewriteOf) (t : Tail) → Extends q r → TailExtends t q → TailExtends t r
tail-onward q r Nothing e p = tt
tail-onward q r (Pass s) e p = extends-onward r q s p e
tail-onward q r (Link s port) e p = extends-onward r q s p e

pub extends-nothing : (s : RewriteOf) → Extends s no_rewrite
extends-nothing s = record { dl_src = tt; dl_dst = tt; nw_src = tt; nw_dst = tt; nw_tos = tt; tp_src = tt; tp_dst = tt }

tail-nothing : (t : Tail) → TailExtends t no_rewrite
tail-nothing Nothing = tt
tail-nothing (Pass s) = extends-nothing s
tail-nothing (Link s port) = extends-nothing s

abbrev TailOver : Tail → Out → Type 0
TailOver t o = TailExtends t o.rewrite

rises-from : (r : RewriteOf) (outs : List Out) (t : Tail) → EachExtends r outs → AllByRecursion (TailOver t) outs
    → TailExtends t r → Rises r outs t
rises-from r [] t e a p = p
rises-from r (o ∷ os) t e a p = (e.0, rises-from o.rewrite os t e.1 a.1 a.0)

-- what builds up rises from the rewrite that sets nothing
pub rises : (outs : List Out) (t : Tail) → BuildUp outs t → Rises no_rewrite outs t
rises outs t b = rises-from no_rewrite outs t b.outs b.tail (tail-nothing t)

each-extends : (r : RewriteOf) (outs : List Out) (t : Tail) → Rises r outs t → EachExtends r outs
each-extends r [] t p = tt
each-extends r (o ∷ os) t p = (p.0, each-extends o.rewrite os t p.1)

tail-over : (r : RewriteOf) (outs : List Out) (t : Tail) → Rises r outs t → TailExtends t r
tail-over r [] t p = p
tail-over r (o ∷ os) t p = tail-onward o.rewrite r t p.0 (tail-over o.rewrite os t p.1)

tail-each : (r : RewriteOf) (outs : List Out) (t : Tail) → Rises r outs t → AllByRecursion (TailOver t) outs
tail-each r [] t p = tt
tail-each r (o ∷ os) t p = (tail-over o.rewrite os t p.1, tail-each o.rewrite os t p.1)

pub builds : (outs : List Out) (t : Tail) → Rises no_rewrite outs t → BuildUp outs t
builds outs t p = record { outs = each-extends no_rewrite outs t p; tail = tail-each no_rewrite outs t p }

pub rises-lower : (q r : RewriteOf) (outs : List Out) (t : Tail) → Extends q r → Rises q outs t → Rises r outs t
rises-lower q r [] t e p = tail-onward q r t e p
rises-lower q r (o ∷ os) t e p = (extends-onward r q o.rewrite p.0 e, p.1)

-- without the tail
pub rises-ended : (r : RewriteOf) (outs : List Out) (t : Tail) → Rises r outs t → Rises r outs Nothing
rises-ended r [] t p = tt
rises-ended r (o ∷ os) t p = (p.0, rises-ended o.rewrite os t p.1)

tail-after : (r q : RewriteOf) (t : Tail) → TailExtends t q → TailExtends (tail_after r t) (and_then r q)
tail-after r q Nothing p = tt
tail-after r q (Pass s) p = extends-after r q s p
tail-after r q (Link s port) p = extends-after r q s p

-- after a rewrite
pub rises-after : (r q : RewriteOf) (outs : List Out) (t : Tail) → Rises q outs t
    → Rises (and_then r q) (map (out_after r) outs) (tail_after r t)
rises-after r q [] t p = tail-after r q t p
rises-after r q (o ∷ os) t p = (extends-after r q o.rewrite p.0, rises-after r o.rewrite os t p.1)

-- after outs whose rewrites all are extended by r
pub rises-then : (s : RewriteOf) (outs : List Out) (r : RewriteOf) (bs : List Out) (t : Tail) → Rises s outs (Pass r)
    → Rises no_rewrite bs t → Rises s (outs ++ map (out_after r) bs) (tail_after r t)
rises-then s [] r bs t p q = rises-lower r s (map (out_after r) bs) (tail_after r t) p (rises-after r no_rewrite bs t q)
rises-then s (o ∷ os) r bs t p q = (p.0, rises-then o.rewrite os r bs t p.1 q)

pub rises-link : (s : RewriteOf) (outs : List Out) (r : RewriteOf) (port : ℕ) → Rises s outs (Link r port)
    → Rises s outs (Pass r)
rises-link s [] r port p = p
rises-link s (o ∷ os) r port p = (p.0, rises-link o.rewrite os r port p.1)

-- after outs that set nothing
pub rises-plain : (outs bs : List Out) (t : Tail) → AllByRecursion (λ (o : Out). o.rewrite ≡ no_rewrite) outs
    → Rises no_rewrite bs t → Rises no_rewrite (outs ++ bs) t
rises-plain [] bs t a p = p
rises-plain (o ∷ os) bs t a p =
    (extends-nothing o.rewrite, subst (λ r. Rises r (os ++ bs) t) (sym a.0) (rises-plain os bs t a.1 p))

-- at the node of a port
module _ (v port : ℕ) where
  silent : (r q : RewriteOf) (b : Bool) (d : Dest) (rest : List Out) (t : Tail) → Extends q r → Rises q rest t
      → Rises r (cons_option (if b then None else Some (record { rewrite = q; dest = d })) rest) t
  silent r q true d rest t e p = rises-lower q r rest t e p
  silent r q false d rest t e p = (e, p)

  kept : (r q : RewriteOf) (d : Dest) (rest : List Out) (t : Tail) → Extends q r → Rises q rest t
      → Rises r (cons_option (out_at v port q d) rest) t
  kept r q (Port w p) rest t e a = silent r q _ (Port w p) rest t e a
  kept r q (Flood w p) rest t e a = silent r q _ (Flood w p) rest t e a
  kept r q Ingress rest t e a = (e, a)
  kept r q (Tell member reason) rest t e a = (e, a)

  pub rises-at : (r : RewriteOf) (outs : List Out) (t : Tail) → Rises r outs t → Rises r (outs_at v port outs) t
  rises-at r [] t p = p
  rises-at r (o ∷ os) t p = kept r o.rewrite o.dest (outs_at v port os) t p.0 (rises-at o.rewrite os t p.1)
