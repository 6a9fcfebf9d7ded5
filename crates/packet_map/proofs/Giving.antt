-- How what outs give, and what walks give, are joined.
use Rattle.std.proofs.Common.{◌≡◌, ℕ, Bool, true, false, ◌&&◌, List, [], ◌∷◌, ◌++◌, Option, Some, None, refl, ap, ◌∙◌}
use Rattle.std.proofs.Common.{sym}
use Rattle.std.specs.Prelude.{map, filter_map, if◌then◌else◌, ◌==◌}
use Rattle.std.specs.List.{cons_option}
use Rattle.std.proofs.lemmas.List.{append_assoc, map-append}
use Rattle.std.proofs.lemmas.List.Elements.{filter_map-append}
use Rattle.of10_actions.specs.Fields.{RewriteOf}
use Rattle.of10_actions.specs.Rewriting.{and_then, no_rewrite}
use Rattle.of10_actions.specs.declared.effects.Dest.{Dest}
use Rattle.of10_actions.specs.declared.effects.Dest.TheVariants.{Port, Flood, Ingress, Tell}
use Rattle.of10_actions.specs.declared.effects.Out.{Out}
use Rattle.of10_actions.proofs.Composing.{and_then-first, and_then-groups}
use Rattle.policy_meaning.proofs.Lists.{add-none}
use Rattle.policy_meaning.specs.Meaning.{out_after}
use Rattle.policy_meaning.specs.Walk.{both_walked, nowhere, telling, walked_after}
use Rattle.policy_meaning.specs.declared.walking.PortOut.{PortOut}
use Rattle.policy_meaning.specs.declared.walking.Told.{Told}
use Rattle.policy_meaning.specs.declared.walking.Walked.{Walked}
use Rattle.packet_map.specs.Sending.{emitted, given}

abbrev out_then : RewriteOf → PortOut → PortOut
out_then r o = record o { rewrite = and_then r o.rewrite }

abbrev told_then : RewriteOf → Told → Told
told_then r t = record t { rewrite = and_then r t.rewrite }

module _ (v : ℕ) (ingress : Option ℕ) (in_port : ℕ) where
  abbrev leaves : Out → Option PortOut
  leaves o = emitted v ingress o.rewrite o.dest

  abbrev tells : Out → Option Told
  tells o = telling in_port o.rewrite o.dest

  pub given-append : (xs ys : List Out)
      → given v ingress in_port (xs ++ ys) ≡ both_walked (given v ingress in_port xs) (given v ingress in_port ys)
  given-append xs ys = λ i. record { outs = filter_map-append leaves xs ys i; told = filter_map-append tells xs ys i }

  port-kept : (b : Bool) (r s : RewriteOf) (w p : ℕ) (xs ys : List PortOut) → xs ≡ map (out_then r) ys →
      cons_option (if b then None else Some (record { v = w; port = p; rewrite = and_then r s })) xs
      ≡ map (out_then r) (cons_option (if b then None else Some (record { v = w; port = p; rewrite = s })) ys)
  port-kept true r s w p xs ys e = e
  port-kept false r s w p xs ys e = ap (λ zs. record { v = w; port = p; rewrite = and_then r s } ∷ zs) e

  port-next : (i : Option ℕ) (r s : RewriteOf) (d : Dest) (xs ys : List PortOut) → xs ≡ map (out_then r) ys →
      cons_option (emitted v i (and_then r s) d) xs ≡ map (out_then r) (cons_option (emitted v i s d) ys)
  port-next (Some q) r s (Port w p) xs ys e = port-kept ((w == v) && (p == q)) r s w p xs ys e
  port-next (Some q) r s (Flood w p) xs ys e = port-kept ((w == v) && (p == q)) r s w p xs ys e
  port-next (Some q) r s Ingress xs ys e = ap (λ zs. record { v = v; port = q; rewrite = and_then r s } ∷ zs) e
  port-next (Some q) r s (Tell member reason) xs ys e = e
  port-next None r s (Port w p) xs ys e = ap (λ zs. record { v = w; port = p; rewrite = and_then r s } ∷ zs) e
  port-next None r s (Flood w p) xs ys e = ap (λ zs. record { v = w; port = p; rewrite = and_then r s } ∷ zs) e
  port-next None r s Ingress xs ys e = e
  port-next None r s (Tell member reason) xs ys e = e

  told-next : (r s : RewriteOf) (d : Dest) (xs ys : List Told) → xs ≡ map (told_then r) ys →
      cons_option (telling in_port (and_then r s) d) xs ≡ map (told_then r) (cons_option (telling in_port s d) ys)
  told-next r s (Port w p) xs ys e = e
  told-next r s (Flood w p) xs ys e = e
  told-next r s Ingress xs ys e = e
  told-next r s (Tell member reason) xs ys e =
      ap (λ zs. record { member = member; in_port = in_port; reason = reason; rewrite = and_then r s } ∷ zs) e

  outs-after : (r : RewriteOf) (outs : List Out)
      → filter_map leaves (map (out_after r) outs) ≡ map (out_then r) (filter_map leaves outs)
  outs-after r [] = refl
  outs-after r (o ∷ os) = port-next ingress r o.rewrite o.dest (filter_map leaves (map (out_after r) os))
      (filter_map leaves os) (outs-after r os)

  told-after : (r : RewriteOf) (outs : List Out)
      → filter_map tells (map (out_after r) outs) ≡ map (told_then r) (filter_map tells outs)
  told-after r [] = refl
  told-after r (o ∷ os) = told-next r o.rewrite o.dest (filter_map tells (map (out_after r) os)) (filter_map tells os)
      (told-after r os)

  -- what outs give that stand after a rewrite
  pub given-after : (r : RewriteOf) (outs : List Out)
      → given v ingress in_port (map (out_after r) outs) ≡ walked_after r (given v ingress in_port outs)
  given-after r outs = λ i. record { outs = outs-after r outs i; told = told-after r outs i }

  filter-mapped : {Y : Type 0} (f : Out → Option Y) (g : Out → Out) (xs : List Out)
      → filter_map (λ o. f (g o)) xs ≡ filter_map f (map g xs)
  filter-mapped f g [] = refl
  filter-mapped f g (x ∷ xs) = ap (λ zs. cons_option (f (g x)) zs) (filter-mapped f g xs)

  -- both lists, each with what the outs give
  pub added : (w new : Walked) (r : RewriteOf) (outs : List Out) →
      new.outs ≡ w.outs ++ filter_map (λ (o : Out). emitted v ingress (and_then r o.rewrite) o.dest) outs →
      new.told ≡ w.told ++ filter_map (λ (o : Out). telling in_port (and_then r o.rewrite) o.dest) outs →
      new ≡ both_walked w (walked_after r (given v ingress in_port outs))
  added w new r outs e f = λ i. record {
    outs = (e ∙ ap (λ zs. w.outs ++ zs) (filter-mapped leaves (out_after r) outs ∙ outs-after r outs)) i;
    told = (f ∙ ap (λ zs. w.told ++ zs) (filter-mapped tells (out_after r) outs ∙ told-after r outs)) i;
  }

module _ {X : Type 0} (f g k : X → X) (same : (x : X) → f (g x) ≡ k x) where
  map-after : (xs : List X) → map f (map g xs) ≡ map k xs
  map-after [] = refl
  map-after (x ∷ xs) = λ i. same x i ∷ map-after xs i

module _ {X : Type 0} (f : X → X) (same : (x : X) → f x ≡ x) where
  map-nothing : (xs : List X) → map f xs ≡ xs
  map-nothing [] = refl
  map-nothing (x ∷ xs) = λ i. same x i ∷ map-nothing xs i

-- after one rewrite and then another
pub after-after : (r s : RewriteOf) (w : Walked) → walked_after r (walked_after s w) ≡ walked_after (and_then r s) w
after-after r s w = λ i. record {
  outs = map-after (out_then r) (out_then s) (out_then (and_then r s))
      (λ o j. record o { rewrite = sym (and_then-groups r s o.rewrite) j }) w.outs i;
  told = map-after (told_then r) (told_then s) (told_then (and_then r s))
      (λ t j. record t { rewrite = sym (and_then-groups r s t.rewrite) j }) w.told i;
}

pub after-nothing : (w : Walked) → walked_after no_rewrite w ≡ w
after-nothing w = λ i. record {
  outs = map-nothing (out_then no_rewrite) (λ o j. record o { rewrite = and_then-first o.rewrite j }) w.outs i;
  told = map-nothing (told_then no_rewrite) (λ t j. record t { rewrite = and_then-first t.rewrite j }) w.told i;
}

pub after-both : (r : RewriteOf) (a b : Walked)
    → walked_after r (both_walked a b) ≡ both_walked (walked_after r a) (walked_after r b)
after-both r a b = λ i. record {
  outs = map-append (out_then r) a.outs b.outs i;
  told = map-append (told_then r) a.told b.told i;
}

pub both-groups : (a b c : Walked) → both_walked (both_walked a b) c ≡ both_walked a (both_walked b c)
both-groups a b c = λ i. record {
  outs = append_assoc a.outs b.outs c.outs i;
  told = append_assoc a.told b.told c.told i;
}

pub both-nowhere : (w : Walked) → w ≡ both_walked w nowhere
both-nowhere w = λ i. record { outs = add-none w.outs i; told = add-none w.told i }

-- two parts, one after the other, after a rewrite
pub after-two : (w : Walked) (r : RewriteOf) (a b : Walked)
    → both_walked (both_walked w (walked_after r a)) (walked_after r b)
    ≡ both_walked w (walked_after r (both_walked a b))
after-two w r a b = both-groups w (walked_after r a) (walked_after r b)
    ∙ ap (λ z. both_walked w z) (sym (after-both r a b))

-- and where the second stands after a further rewrite
pub after-further : (w : Walked) (r s : RewriteOf) (a b : Walked)
    → both_walked (both_walked w (walked_after r a)) (walked_after (and_then r s) b)
    ≡ both_walked w (walked_after r (both_walked a (walked_after s b)))
after-further w r s a b = ap (λ z. both_walked (both_walked w (walked_after r a)) z) (sym (after-after r s b))
    ∙ after-two w r a (walked_after s b)
