-- What a member's actions do fits the types of fields, and is written by no more actions than they count as.
use Rattle.std.proofs.Common.{◌≡◌, ℕ, ◌+◌, ◌<◌, ◌≤◌, ◌^◌, Bool, true, false, List, [], ◌∷◌, ◌++◌, Option, Some, None}
use Rattle.std.proofs.Common.{arith, eq-eqb, length, map, refl}
use Rattle.std.specs.Prelude.{◌==◌, ◌||◌, IfSome, if◌then◌else◌, max, sum_by}
use Rattle.std.specs.List.{AllByRecursion, list_any}
use Rattle.std.proofs.lemmas.List.Sums.{sum_by-cons}
use Rattle.grants.specs.Granted.{AreGranted}
use Rattle.grants.specs.Rows.{weight}
use Rattle.grants.specs.declared.grant.Grant.{Grant}
use Rattle.member_state.proofs.LeafEffects.{effects_hold}
use Rattle.of10_actions.specs.Actions.{FitsTypes}
use Rattle.of10_actions.specs.Effects.{dests_of, effects_from, effects_of, ends_or, flood_of, outs_of, set_by}
use Rattle.of10_actions.specs.Fields.{RewriteOf}
use Rattle.of10_actions.specs.Numbers.{ACTION, ALL, CONTROLLER, FLOOD, IN_PORT, NORMAL}
use Rattle.of10_actions.specs.Rewriting.{and_then, no_rewrite}
use Rattle.of10_actions.specs.declared.action.Action.{Action}
use Rattle.of10_actions.specs.declared.action.Action.TheVariants.{Enqueue, Output, SetDlDst, SetDlSrc, SetNwDst}
use Rattle.of10_actions.specs.declared.action.Action.TheVariants.{SetNwSrc}
use Rattle.of10_actions.specs.declared.action.Action.TheVariants.{SetNwTos, SetTpDst, SetTpSrc, SetVlanPcp, SetVlanVid}
use Rattle.of10_actions.specs.declared.action.Action.TheVariants.{StripVlan}
use Rattle.of10_actions.specs.declared.effects.Dest.{Dest}
use Rattle.of10_actions.specs.declared.effects.Dest.TheVariants.{Flood, Ingress, Port, Tell}
use Rattle.of10_actions.specs.declared.effects.Effects.{Effects}
use Rattle.of10_actions.specs.declared.effects.Out.{Out}
use Rattle.of10_actions.specs.declared.effects.PortView.{PortView}
use Rattle.of10_actions.specs.declared.effects.Tail.{Tail}
use Rattle.of10_actions.specs.declared.effects.Tail.TheVariants.{Link, Nothing, Pass}
use Rattle.policy_meaning.specs.Written.{field_writes, set_writes, writes, writes_from}
use Rattle.machine_meaning.proofs.FitRules.{EffectsFit, OutFits, SetsFit, TailFits, nothing-set, then-fit}

-- types -------------------------------------------------------------------------------------------------------------

sets : (r : RewriteOf) → IfSome r.dl_src (λ v. v < 2 ^ 64) → IfSome r.dl_dst (λ v. v < 2 ^ 64)
    → IfSome r.nw_src (λ v. v < 2 ^ 32) → IfSome r.nw_dst (λ v. v < 2 ^ 32) → IfSome r.nw_tos (λ v. v < 2 ^ 8)
    → IfSome r.tp_src (λ v. v < 2 ^ 16) → IfSome r.tp_dst (λ v. v < 2 ^ 16) → SetsFit r
sets r a b c d e f g = record { dl_src = a; dl_dst = b; nw_src = c; nw_dst = d; nw_tos = e; tp_src = f; tp_dst = g }

set-fits : (a : Action) → FitsTypes a → SetsFit (set_by a)
set-fits (SetDlSrc address) h = sets (set_by (SetDlSrc address)) h tt tt tt tt tt tt
set-fits (SetDlDst address) h = sets (set_by (SetDlDst address)) tt h tt tt tt tt tt
set-fits (SetNwSrc address) h = sets (set_by (SetNwSrc address)) tt tt h tt tt tt tt
set-fits (SetNwDst address) h = sets (set_by (SetNwDst address)) tt tt tt h tt tt tt
set-fits (SetNwTos tos) h = sets (set_by (SetNwTos tos)) tt tt tt tt h tt tt
set-fits (SetTpSrc port) h = sets (set_by (SetTpSrc port)) tt tt tt tt tt h tt
set-fits (SetTpDst port) h = sets (set_by (SetTpDst port)) tt tt tt tt tt tt h
set-fits (Output port max_len) h = nothing-set
set-fits (SetVlanVid vid) h = nothing-set
set-fits (SetVlanPcp pcp) h = nothing-set
set-fits StripVlan h = nothing-set
set-fits (Enqueue port queue) h = nothing-set

outs-fit : (r : RewriteOf) → SetsFit r → (dests : List Dest) → AllByRecursion OutFits (outs_of r dests)
outs-fit r f [] = tt
outs-fit r f (d ∷ ds) = (f, outs-fit r f ds)

pub effects-fit : (ports : PortView) (member : ℕ) (actions : List Action) → AllByRecursion FitsTypes actions
    → EffectsFit (effects_of ports member actions).outs (effects_of ports member actions).tail
effects-fit ports member actions a =
    effects_hold ports member FitsTypes SetsFit OutFits TailFits (λ r x i h. then-fit r (set_by x) i (set-fits x h))
    (λ r port max_len i h. outs-fit r i (dests_of ports member port))
    (λ r port max_len i h. by r port i (port == NORMAL) (list_any (λ link. link == port) ports.links))
    tt no_rewrite actions nothing-set a
  where
    by : (r : RewriteOf) (port : ℕ) → SetsFit r → (n l : Bool)
        → TailFits (if n then Pass r else if l then Link r port else Nothing)
    by r port i true l = i
    by r port i false true = i
    by r port i false false = tt

-- how many actions write it -----------------------------------------------------------------------------------------

field-least : (o : Option ℕ) (v : ℕ) → field_writes o (Some v) ≤ 1
field-least None v = omega arith
field-least (Some u) v = by (u == v)
  where
    by : (b : Bool) → (if b then 0 else 1) ≤ 1
    by true = omega arith
    by false = omega arith

field-none : (o : Option ℕ) → field_writes o o ≡ 0
field-none None = refl
field-none (Some u) = rw (eq-eqb u u refl)

-- one more action sets one more field
one-more : (now r : RewriteOf) (a : Action) → set_writes now (and_then r (set_by a)) ≤ set_writes now r + 1
one-more now r (SetDlSrc v) = omega (arith, field-least now.dl_src v)
one-more now r (SetDlDst v) = omega (arith, field-least now.dl_dst v)
one-more now r (SetNwSrc v) = omega (arith, field-least now.nw_src v)
one-more now r (SetNwDst v) = omega (arith, field-least now.nw_dst v)
one-more now r (SetNwTos v) = omega (arith, field-least now.nw_tos v)
one-more now r (SetTpSrc v) = omega (arith, field-least now.tp_src v)
one-more now r (SetTpDst v) = omega (arith, field-least now.tp_dst v)
one-more now r (Output port max_len) = omega arith
one-more now r (SetVlanVid vid) = omega arith
one-more now r (SetVlanPcp pcp) = omega arith
one-more now r StripVlan = omega arith
one-more now r (Enqueue port queue) = omega arith

nothing-more : (r : RewriteOf) → set_writes r r ≡ 0
nothing-more r =
    omega (
      arith,
      field-none r.dl_src,
      field-none r.dl_dst,
      field-none r.nw_src,
      field-none r.nw_dst,
      field-none r.nw_tos,
      field-none r.tp_src,
      field-none r.tp_dst,
    )

-- outs of one rewrite: its fields are set once, and each is one action
module _ (r : RewriteOf) (outs : List Out) (tail : Tail) (k : ℕ)
    (rest : (now : RewriteOf) → writes_from now outs tail ≤ set_writes now r + k) where
  many : (dests : List Dest) (now : RewriteOf)
      → writes_from now (outs_of r dests ++ outs) tail ≤ set_writes now r + (length dests + k)
  many [] now = omega (arith, rest now)
  many (d ∷ ds) now = omega (arith, many ds r, nothing-more r)

flooded : (v : ℕ) (ports : List ℕ) → length (map (λ port. Flood v port) ports) ≡ length ports
flooded v [] = refl
flooded v (p ∷ ps) = omega (arith, flooded v ps)

-- an output goes to no more places than it counts as actions
dests-few : (g : Grant) (member port max_len : ℕ)
    → length (dests_of g.ports member port) ≤ weight g (Output port max_len)
dests-few g member port max_len =
    by (port == IN_PORT) ((port == FLOOD) || (port == ALL)) (port == CONTROLLER)
    (list_any (λ outside. outside == port) g.ports.outside)
  where
    by : (i f c o : Bool)
        → length (if i then Ingress ∷ [] else if f then flood_of g.ports else if c then Tell member ACTION ∷ []
        else if o then Port g.ports.v port ∷ [] else []) ≤ (if f then max 1 (length g.ports.outside) else 1)
    by true true c o = omega arith
    by true false c o = omega arith
    by false true c o = omega (arith, flooded g.ports.v g.ports.outside)
    by false false true o = omega arith
    by false false false true = omega arith
    by false false false false = omega arith

few-from : (g : Grant) (member : ℕ) (acts : List Action) (r now : RewriteOf)
    → writes_from now (effects_from g.ports member r acts).outs (effects_from g.ports member r acts).tail
    ≤ set_writes now r + sum_by (weight g) acts
few-from g member [] r now = omega arith
few-from g member (Output port max_len ∷ acts) r now =
    by (port == NORMAL) (list_any (λ link. link == port) g.ports.links) (λ now. few-from g member acts r now)
  where
    dests : List Dest
    dests = dests_of g.ports member port

    later : Effects
    later = effects_from g.ports member r acts

    all : sum_by (weight g) (Output port max_len ∷ acts) ≡ weight g (Output port max_len) + sum_by (weight g) acts
    all = sum_by-cons (weight g) (Output port max_len) acts

    by : (n l : Bool) → ((now : RewriteOf) → writes_from now later.outs later.tail
        ≤ set_writes now r + sum_by (weight g) acts)
        → writes_from now
        (ends_or (if n then Pass r else if l then Link r port else Nothing) (outs_of r dests) later).outs
        (ends_or (if n then Pass r else if l then Link r port else Nothing) (outs_of r dests) later).tail
        ≤ set_writes now r + sum_by (weight g) (Output port max_len ∷ acts)
    by true l rest = omega arith
    by false true rest = omega arith
    by false false rest =
        let m = many r later.outs later.tail (sum_by (weight g) acts) rest dests now in
        omega (arith, m, all, dests-few g member port max_len)
few-from g member (action ∷ acts) r now =
    omega (
      arith,
      few-from g member acts (and_then r (set_by action)) now,
      one-more now r action,
      sum_by-cons (weight g) action acts,
    )

-- what a member's entry does is written by at most 64 actions
pub few-writes : (g : Grant) (v : PortView) (member : ℕ) (acts : List Action) → AreGranted true g v acts
    → writes (effects_of g.ports member acts).outs (effects_of g.ports member acts).tail ≤ 64
few-writes g v member acts h =
    let few = h.few in omega (arith, few-from g member acts no_rewrite no_rewrite, few)
