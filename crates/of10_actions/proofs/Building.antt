-- Effects from left to right, and how their rewrites build up.
use Rattle.std.proofs.Common.{◌≡◌, ℕ, ◌+◌, ◌<◌, ◌≤◌, Bool, true, false, List, [], ◌∷◌, ◌++◌, length, get_or, drop, refl}
use Rattle.std.proofs.Common.{sym, ap, subst, ◌∙◌, append_assoc, add-one, drop-cons}
use Rattle.std.specs.Prelude.{◌==◌, if◌then◌else◌}
use Rattle.std.specs.List.{list_any, AllByRecursion}
use Rattle.std.proofs.lemmas.List.{append-nil, drop_all}
use Rattle.of10_actions.specs.Numbers.{NORMAL}
use Rattle.of10_actions.specs.Fields.{RewriteOf}
use Rattle.of10_actions.specs.Rewriting.{and_then, no_rewrite, Extends}
use Rattle.of10_actions.specs.Effects.{set_by, dests_of, tail_of, outs_of, outs_before, ends_or, effects_from}
use Rattle.of10_actions.specs.Effects.{effects_of, TailExtends, EachExtends, BuildsUp}
use Rattle.of10_actions.specs.declared.action.Action.{Action}
use Rattle.of10_actions.specs.declared.action.Action.TheVariants.{Output}
use Rattle.of10_actions.specs.declared.effects.Dest.{Dest}
use Rattle.of10_actions.specs.declared.effects.Effects.{Effects}
use Rattle.of10_actions.specs.declared.effects.Out.{Out}
use Rattle.of10_actions.specs.declared.effects.PortView.{PortView}
use Rattle.of10_actions.specs.declared.effects.Tail.{Tail}
use Rattle.of10_actions.specs.declared.effects.Tail.TheVariants.{Nothing, Pass, Link}
use Rattle.of10_actions.proofs.Extending.{extends-itself, extends-onward, extends-composed}

-- ---- one more action of a list

-- what a list does from a place on, by the action there
from-place : (ports : PortView) (member : ℕ) (r : RewriteOf) (xs : List Action) (i : ℕ) (d : Action) → i < length xs →
    effects_from ports member r (drop i xs) ≡ effects_from ports member r (get_or xs i d ∷ drop (i + 1) xs)
from-place ports member r xs i d lt = rw (add-one) (ap (effects_from ports member r) (drop-cons xs i d lt))

-- an action that is no output
sets-on : (ports : PortView) (member : ℕ) (r : RewriteOf) (a : Action) (actions : List Action)
    → ((port max_len : ℕ) → a ≡ Output port max_len → ⊥) →
    effects_from ports member r (a ∷ actions) ≡ effects_from ports member (and_then r (set_by a)) actions
sets-on ports member r (Output port max_len) actions other = absurd (other port max_len refl)
sets-on ports member r a actions other = refl

-- the loop's step at an action that is no output
pub set-step : (ports : PortView) (member : ℕ) (r s : RewriteOf) (outs : List Out) (xs : List Action) (i : ℕ)
    (d : Action) (whole : Effects) → i < length xs →
    ((port max_len : ℕ) → get_or xs i d ≡ Output port max_len → ⊥) → s ≡ and_then r (set_by (get_or xs i d)) →
    outs_before outs (effects_from ports member r (drop i xs)) ≡ whole
    → outs_before outs (effects_from ports member s (drop (i + 1) xs)) ≡ whole
set-step ports member r s outs xs i d whole lt other composed so_far =
    let one = from-place ports member r xs i d lt ∙ sets-on ports member r (get_or xs i d) (drop (i + 1) xs) other in
    rw composed (ap (outs_before outs) (sym one) ∙ so_far)

-- an output
outs-on : (ports : PortView) (member : ℕ) (r : RewriteOf) (xs : List Action) (i : ℕ) (d : Action) (port max_len : ℕ)
    (tail : Tail) → i < length xs → get_or xs i d ≡ Output port max_len → tail ≡ tail_of ports r port →
    effects_from ports member r (drop i xs) ≡ ends_or tail (outs_of r (dests_of ports member port))
    (effects_from ports member r (drop (i + 1) xs))
outs-on ports member r xs i d port max_len tail lt is ends =
    from-place ports member r xs i d lt ∙ rw (is, ends) refl

-- the loop's step at an output that is no tail
pub out-step : (ports : PortView) (member : ℕ) (r : RewriteOf) (outs more : List Out) (xs : List Action) (i : ℕ)
    (d : Action) (port max_len : ℕ) (tail : Tail) (whole : Effects) → i < length xs →
    get_or xs i d ≡ Output port max_len → tail ≡ tail_of ports r port → tail ≡ Nothing
    → more ≡ outs ++ outs_of r (dests_of ports member port) →
    outs_before outs (effects_from ports member r (drop i xs)) ≡ whole
    → outs_before more (effects_from ports member r (drop (i + 1) xs)) ≡ whole
out-step ports member r outs more xs i d port max_len tail whole lt is ends none pushed so_far =
    let later = effects_from ports member r (drop (i + 1) xs) in
    let one = outs-on ports member r xs i d port max_len tail lt is ends
    ∙ ap (λ (t : Tail). ends_or t (outs_of r (dests_of ports member port)) later) none in
    let grouped : outs_before more later ≡ outs_before outs
    (outs_before (outs_of r (dests_of ports member port)) later) =
    rw pushed (ap (λ (o : List Out). record { outs = o; tail = later.tail })
    (append_assoc outs (outs_of r (dests_of ports member port)) later.outs)) in
    grouped ∙ ap (outs_before outs) (sym one) ∙ so_far

ended : (tail : Tail) (outs more : List Out) (later : Effects) → (tail ≡ Nothing → ⊥)
    → record { outs = outs; tail = tail } ≡ outs_before outs (ends_or tail more later)
ended Nothing outs more later some = absurd (some refl)
ended (Pass r) outs more later some = ap (λ (o : List Out). record { outs = o; tail = Pass r }) (sym (append-nil outs))
ended (Link r port) outs more later some =
    ap (λ (o : List Out). record { outs = o; tail = Link r port }) (sym (append-nil outs))

-- the answer at a tail
pub at-tail : (ports : PortView) (member : ℕ) (r : RewriteOf) (outs : List Out) (xs : List Action) (i : ℕ) (d : Action)
    (port max_len : ℕ) (tail : Tail) (whole : Effects) → i < length xs →
    get_or xs i d ≡ Output port max_len → tail ≡ tail_of ports r port → (tail ≡ Nothing → ⊥) →
    outs_before outs (effects_from ports member r (drop i xs)) ≡ whole → record { outs = outs; tail = tail } ≡ whole
at-tail ports member r outs xs i d port max_len tail whole lt is ends some so_far =
    let later = effects_from ports member r (drop (i + 1) xs) in
    let one = outs-on ports member r xs i d port max_len tail lt is ends in
    ended tail outs (outs_of r (dests_of ports member port)) later some ∙ ap (outs_before outs) (sym one) ∙ so_far

-- the answer at the end of the list
pub at-end : (ports : PortView) (member : ℕ) (r : RewriteOf) (outs : List Out) (xs : List Action) (i : ℕ)
    (whole : Effects) → length xs ≤ i →
    outs_before outs (effects_from ports member r (drop i xs)) ≡ whole → record { outs = outs; tail = Nothing } ≡ whole
at-end ports member r outs xs i whole over so_far =
    ap (λ (o : List Out). record { outs = o; tail = Nothing }) (sym (append-nil outs))
    ∙ ap (λ (left : List Action). outs_before outs (effects_from ports member r left)) (sym (drop_all i xs over))
    ∙ so_far

-- ---- rewrites build up

-- what holds of effects that begin with r in force
record BuildsFrom (r : RewriteOf) (effects : Effects) : Type 0 where
  outs : EachExtends r effects.outs
  tail : TailExtends effects.tail r
  all : AllByRecursion (λ out. TailExtends effects.tail out.rewrite) effects.outs

tail-onward : (tail : Tail) (s r : RewriteOf) → Extends s r → TailExtends tail s → TailExtends tail r
tail-onward Nothing s r more extends = tt
tail-onward (Pass t) s r more extends = extends-onward r s t extends more
tail-onward (Link t port) s r more extends = extends-onward r s t extends more

each-onward : (outs : List Out) (s r : RewriteOf) → Extends s r → EachExtends s outs → EachExtends r outs
each-onward [] s r more each = tt
each-onward (out ∷ outs) s r more each = (extends-onward r s out.rewrite each.0 more, each.1)

builds-onward : (effects : Effects) (s r : RewriteOf) → Extends s r → BuildsFrom s effects → BuildsFrom r effects
builds-onward effects s r more builds = record {
  outs = each-onward effects.outs s r more builds.outs;
  tail = tail-onward effects.tail s r more builds.tail;
  all = builds.all;
}

outs-build : (r : RewriteOf) (dests : List Dest) (later : Effects) → BuildsFrom r later
    → BuildsFrom r (outs_before (outs_of r dests) later)
outs-build r [] later builds = builds
outs-build r (dest ∷ dests) later builds =
    let rest = outs-build r dests later builds in
    record { outs = (extends-itself r, rest.outs); tail = rest.tail; all = (rest.tail, rest.all) }

-- the tail of an output has the rewrite in force
ends-build : (r : RewriteOf) (port : ℕ) (normal link : Bool) (outs : List Out) (later : Effects)
    → BuildsFrom r (outs_before outs later) →
    BuildsFrom r (ends_or (if normal then Pass r else (if link then Link r port else Nothing)) outs later)
ends-build r port true link outs later builds = record { outs = tt; tail = extends-itself r; all = tt }
ends-build r port false true outs later builds = record { outs = tt; tail = extends-itself r; all = tt }
ends-build r port false false outs later builds = builds

builds-from : (ports : PortView) (member : ℕ) (r : RewriteOf) (actions : List Action)
    → BuildsFrom r (effects_from ports member r actions)
builds-from ports member r [] = record { outs = tt; tail = tt; all = tt }
builds-from ports member r (Output port max_len ∷ actions) =
    let later = builds-from ports member r actions in
    ends-build r port (port == NORMAL) (list_any (λ link. link == port) ports.links)
    (outs_of r (dests_of ports member port)) (effects_from ports member r actions)
    (outs-build r (dests_of ports member port) (effects_from ports member r actions) later)
builds-from ports member r (action ∷ actions) =
    builds-onward (effects_from ports member (and_then r (set_by action)) actions) (and_then r (set_by action)) r
    (extends-composed r (set_by action))
    (builds-from ports member (and_then r (set_by action)) actions)

pub builds-up : (ports : PortView) (member : ℕ) (actions : List Action) (effects : Effects)
    → effects ≡ effects_of ports member actions → BuildsUp effects
builds-up ports member actions effects meaning =
    let builds = builds-from ports member no_rewrite actions in
    subst BuildsUp (sym meaning) (record { outs = builds.outs; tail = builds.all })
