-- The outs of rules, and what walks give.
use Rattle.std.proofs.Common.{◌≡◌, ℕ, Bool, true, false, ◌&&◌, List, [], ◌∷◌, ◌++◌, Option, Some, None, refl, ap, ◌∙◌}
use Rattle.std.proofs.Common.{sym, append-nil}
use Rattle.std.specs.Prelude.{map, filter_map, if◌then◌else◌, ◌==◌}
use Rattle.std.specs.List.{cons_option}
use Rattle.std.proofs.lemmas.List.Elements.{filter_map-append}
use Rattle.of10_actions.specs.Fields.{RewriteOf}
use Rattle.of10_actions.specs.Rewriting.{and_then}
use Rattle.of10_actions.specs.declared.effects.Out.{Out}
use Rattle.of10_actions.specs.declared.effects.Dest.{Dest}
use Rattle.of10_actions.specs.declared.effects.Dest.TheVariants.{Port, Flood, Ingress, Tell}
use Rattle.policy_meaning.specs.Meaning.{out_after}
use Rattle.policy_meaning.specs.Hops.{out_at, outs_at}
use Rattle.policy_meaning.specs.Walk.{port_out, telling, here, walked_after, both_walked, nowhere}
use Rattle.policy_meaning.specs.HopFact.{leaving, told_by, without_in_port, AreThose}
use Rattle.policy_meaning.specs.declared.walking.PortOut.{PortOut}
use Rattle.policy_meaning.specs.declared.walking.Told.{Told}
use Rattle.policy_meaning.specs.declared.walking.Walked.{Walked}

-- the packet that leaves by an out, and the out that tells
abbrev leaves : Out → Option PortOut
leaves o = leaving o.rewrite o.dest

abbrev tells : Out → Option Out
tells o = told_by o.rewrite o.dest

abbrev port_after : RewriteOf → PortOut → PortOut
port_after r o = record o { rewrite = and_then r o.rewrite }

abbrev told_after : RewriteOf → Told → Told
told_after r t = record t { rewrite = and_then r t.rewrite }

module _ (v port : ℕ) where
  abbrev at : Out → Option Out
  at o = out_at v port o.rewrite o.dest

  abbrev out_by : Out → Option PortOut
  out_by o = port_out v port o.rewrite o.dest

  abbrev told_at : Out → Option Told
  told_at o = telling port o.rewrite o.dest

  port-kept : (b : Bool) (r : RewriteOf) (w p : ℕ) (d : Dest)
      → leaving r d ≡ Some (record { v = w; port = p; rewrite = r }) → (xs : List Out) (ys : List PortOut)
      → filter_map leaves xs ≡ ys →
      filter_map leaves (cons_option (if b then None else Some (record { rewrite = r; dest = d })) xs)
      ≡ cons_option (if b then None else Some (record { v = w; port = p; rewrite = r })) ys
  port-kept true r w p d l xs ys e = e
  port-kept false r w p d l xs ys e = rw (l, e)

  port-next : (r : RewriteOf) (d : Dest) (xs : List Out) (ys : List PortOut) → filter_map leaves xs ≡ ys
      → filter_map leaves (cons_option (out_at v port r d) xs) ≡ cons_option (port_out v port r d) ys
  port-next r (Port w p) xs ys e = port-kept ((w == v) && (p == port)) r w p (Port w p) refl xs ys e
  port-next r (Flood w p) xs ys e = port-kept ((w == v) && (p == port)) r w p (Flood w p) refl xs ys e
  port-next r Ingress xs ys e = ap (λ zs. record { v = v; port = port; rewrite = r } ∷ zs) e
  port-next r (Tell member reason) xs ys e = e

  ports-here : (outs : List Out) → filter_map leaves (outs_at v port outs) ≡ filter_map out_by outs
  ports-here [] = refl
  ports-here (o ∷ os) = port-next o.rewrite o.dest (outs_at v port os) (filter_map out_by os) (ports-here os)

  silent-kept : (b : Bool) (r : RewriteOf) (d : Dest) → told_by r d ≡ None → (xs : List Out)
      → filter_map tells (cons_option (if b then None else Some (record { rewrite = r; dest = d })) xs)
      ≡ filter_map tells xs
  silent-kept true r d n xs = refl
  silent-kept false r d n xs = rw n refl

  told-next : (r : RewriteOf) (d : Dest) (xs : List Out) (ys : List Told) → filter_map tells xs ≡ map without_in_port ys
      → filter_map tells (cons_option (out_at v port r d) xs) ≡ map without_in_port (cons_option (telling port r d) ys)
  told-next r (Port w p) xs ys e = silent-kept ((w == v) && (p == port)) r (Port w p) refl xs ∙ e
  told-next r (Flood w p) xs ys e = silent-kept ((w == v) && (p == port)) r (Flood w p) refl xs ∙ e
  told-next r Ingress xs ys e = e
  told-next r (Tell member reason) xs ys e = ap (λ zs. record { rewrite = r; dest = Tell member reason } ∷ zs) e

  tells-here : (outs : List Out) → filter_map tells (outs_at v port outs)
      ≡ map without_in_port (filter_map told_at outs)
  tells-here [] = refl
  tells-here (o ∷ os) = told-next o.rewrite o.dest (outs_at v port os) (filter_map told_at os) (tells-here os)

  -- the outs of a rule at a node are those that its virtual switch gives
  pub those-here : (outs : List Out) → AreThose (outs_at v port outs) (here v port outs)
  those-here outs = record { ports = ports-here outs; tellings = tells-here outs }

leave-after : (r s : RewriteOf) (d : Dest) (xs : List Out) (ys : List PortOut)
    → filter_map leaves xs ≡ map (port_after r) ys →
    filter_map leaves (record { rewrite = and_then r s; dest = d } ∷ xs)
    ≡ map (port_after r) (cons_option (leaving s d) ys)
leave-after r s (Port w p) xs ys e = ap (λ zs. record { v = w; port = p; rewrite = and_then r s } ∷ zs) e
leave-after r s (Flood w p) xs ys e = ap (λ zs. record { v = w; port = p; rewrite = and_then r s } ∷ zs) e
leave-after r s Ingress xs ys e = e
leave-after r s (Tell member reason) xs ys e = e

ports-after : (r : RewriteOf) (outs : List Out)
    → filter_map leaves (map (out_after r) outs) ≡ map (port_after r) (filter_map leaves outs)
ports-after r [] = refl
ports-after r (o ∷ os) = leave-after r o.rewrite o.dest (map (out_after r) os) (filter_map leaves os) (ports-after r os)

tell-after : (r s : RewriteOf) (d : Dest) (xs : List Out) (ys : List Out) → filter_map tells xs ≡ map (out_after r) ys →
    filter_map tells (record { rewrite = and_then r s; dest = d } ∷ xs)
    ≡ map (out_after r) (cons_option (told_by s d) ys)
tell-after r s (Port w p) xs ys e = e
tell-after r s (Flood w p) xs ys e = e
tell-after r s Ingress xs ys e = e
tell-after r s (Tell member reason) xs ys e =
    ap (λ zs. record { rewrite = and_then r s; dest = Tell member reason } ∷ zs) e

tells-after : (r : RewriteOf) (outs : List Out)
    → filter_map tells (map (out_after r) outs) ≡ map (out_after r) (filter_map tells outs)
tells-after r [] = refl
tells-after r (o ∷ os) = tell-after r o.rewrite o.dest (map (out_after r) os) (filter_map tells os) (tells-after r os)

told-moved : (r : RewriteOf) (ts : List Told)
    → map (out_after r) (map without_in_port ts) ≡ map without_in_port (map (told_after r) ts)
told-moved r [] = refl
told-moved r (t ∷ ts) = ap (λ zs. record { rewrite = and_then r t.rewrite; dest = Tell t.member t.reason } ∷ zs)
    (told-moved r ts)

-- after a rewrite
pub those-after : (r : RewriteOf) (outs : List Out) (w : Walked) → AreThose outs w
    → AreThose (map (out_after r) outs) (walked_after r w)
those-after r outs w t = record {
  ports = ports-after r outs ∙ ap (map (port_after r)) t.ports;
  tellings = tells-after r outs ∙ (ap (map (out_after r)) t.tellings ∙ told-moved r w.told);
}

map-appended : (xs ys : List Told) → map without_in_port (xs ++ ys) ≡ map without_in_port xs ++ map without_in_port ys
map-appended [] ys = refl
map-appended (x ∷ xs) ys = ap (λ zs. without_in_port x ∷ zs) (map-appended xs ys)

-- one after the other
pub those-both : (a b : List Out) (x y : Walked) → AreThose a x → AreThose b y → AreThose (a ++ b) (both_walked x y)
those-both a b x y p q = record {
  ports = filter_map-append leaves a b ∙ rw (p.ports, q.ports) refl;
  tellings = filter_map-append tells a b ∙ (rw (p.tellings, q.tellings) (sym (map-appended x.told y.told)));
}

-- and then nothing
pub those-ended : (a : List Out) (x : Walked) → AreThose a x → AreThose a (both_walked x nowhere)
those-ended a x p = record {
  ports = p.ports ∙ sym (append-nil x.outs);
  tellings = p.tellings ∙ ap (map without_in_port) (sym (append-nil x.told));
}
