-- Firing the actions of outs, one out after the other.
use Rattle.std.proofs.Common.{◌≡◌, ◌≢◌, ℕ, ◌⊎◌, Bool, true, false, Option, Some, None, List, [], ◌∷◌, ◌++◌, refl, ap}
use Rattle.std.proofs.Common.{◌∙◌, sym, eqb-true}
use Rattle.std.specs.Prelude.{◌==◌, if◌then◌else◌, filter_map}
use Rattle.std.specs.List.{AllByRecursion, cons_option}
use Rattle.std.specs.Option.{option_and_then}
use Rattle.std.proofs.Common.{inl, inr}
use Rattle.of10_match.specs.Fields.{HeaderOf}
use Rattle.of10_match.specs.Numbers.{UNTAGGED}
use Rattle.of10_actions.specs.Fields.{RewriteOf}
use Rattle.of10_actions.specs.Rewriting.{apply, and_then, no_rewrite, Extends}
use Rattle.of10_actions.specs.Effects.{EachExtends}
use Rattle.of10_actions.specs.declared.action.Action.{Action}
use Rattle.of10_actions.specs.declared.action.Action.TheVariants.{Output, SetVlanVid, StripVlan}
use Rattle.of10_actions.specs.declared.effects.Out.{Out}
use Rattle.of10_actions.specs.Numbers.{IN_PORT, CONTROLLER}
use Rattle.of10_actions.proofs.Extending.{extends-onward, and_then-absorbs}
use Rattle.switch_meaning.specs.Firing.{both_fired, copied, fire, sent, unsent}
use Rattle.switch_meaning.specs.Placing.{going, retag, way_of, actions_from, actions_of, tells}
use Rattle.switch_meaning.specs.declared.fired.Fired.{Fired}
use Rattle.switch_meaning.specs.declared.fired.Sent.{Sent}
use Rattle.switch_meaning.specs.declared.placing.Way.{Way}
use Rattle.switch_meaning.specs.declared.wiring.Wiring.{Wiring}
use Rattle.switch_meaning.proofs.Setting.{fire-sets}

-- the header with this tag on
abbrev pub tagged : Option ℕ → HeaderOf → HeaderOf
tagged None h = h
tagged (Some t) h = record h { dl_vlan = t }

-- the packet that goes out by an output to this number
abbrev pub leaves : ℕ → HeaderOf → Option Sent
leaves port h =
    if port == IN_PORT then Some (record { port = h.in_port; header = h })
    else (if port == h.in_port then None else Some (record { port = port; header = h }))

-- the packet that goes out by a way
abbrev pub by_way : HeaderOf → RewriteOf → Way → Option Sent
by_way h r way = leaves way.port (apply r (tagged way.tag h))

-- these packets go out, and nothing else
abbrev pub only : List Sent → Fired
only outs = record { outs = outs; copies = [] }

-- a tag can be taken off again, or there is none
abbrev pub Strips : HeaderOf → Option ℕ → Type 0
Strips h tag = (tag ≡ None) ⊎ (h.dl_vlan ≡ UNTAGGED)

pub record IsGood (h : HeaderOf) (way : Way) : Type 0 where
  pub port : way.port ≢ CONTROLLER
  pub strips : Strips h way.tag

-- what extends a rewrite extends those before it
pub extends-before : (r s : RewriteOf) (outs : List Out) → Extends s r → EachExtends s outs → EachExtends r outs
extends-before r s [] p e = tt
extends-before r s (o ∷ os) p e = (extends-onward r s o.rewrite e.0 p, e.1)

same_or_tag : (t u : ℕ) (acts : List Action) (r : RewriteOf) (h : HeaderOf) (b : Bool) → (t == u) ≡ b
    → fire ((if b then [] else SetVlanVid u ∷ []) ++ acts) (apply r (tagged (Some t) h))
    ≡ fire acts (apply r (tagged (Some u) h))
same_or_tag t u acts r h true e = ap (λ (x : ℕ). fire acts (apply r (tagged (Some x) h))) (eqb-true t u e)
same_or_tag t u acts r h false e = refl

strip : (t : ℕ) (acts : List Action) (r : RewriteOf) (h : HeaderOf) → Strips h (Some t)
    → fire (StripVlan ∷ acts) (apply r (tagged (Some t) h)) ≡ fire acts (apply r h)
strip t acts r h (inl e) = cc
strip t acts r h (inr e) = ap (λ (k : HeaderOf). fire acts k) (λ i. record (apply r h) { dl_vlan = (sym e) i })

fire-retag : (tag want : Option ℕ) (acts : List Action) (r : RewriteOf) (h : HeaderOf) → Strips h tag
    → fire (retag tag want ++ acts) (apply r (tagged tag h)) ≡ fire acts (apply r (tagged want h))
fire-retag None None acts r h s = refl
fire-retag None (Some u) acts r h s = refl
fire-retag (Some t) None acts r h s = strip t acts r h s
fire-retag (Some t) (Some u) acts r h s = same_or_tag t u acts r h (t == u) refl

not_controller : (port : ℕ) → port ≢ CONTROLLER → (b : Bool) → (port == CONTROLLER) ≡ b → b ≡ false
not_controller port n true e = absurd (n (eqb-true port CONTROLLER e))
not_controller port n false e = refl

chosen : (port : ℕ) (h : HeaderOf) (later : Fired) (outs : List Sent) (c i s : Bool) → c ≡ false → later ≡ only outs →
    both_fired (if c then copied h else (if i then sent h.in_port h else (if s then unsent else sent port h))) later
    ≡ only (cons_option (if i then Some (record { port = h.in_port; header = h })
    else (if s then None else Some (record { port = port; header = h }))) outs)
chosen port h later outs true i s n e = cc
chosen port h later outs false true s n e = ap (both_fired (sent h.in_port h)) e
chosen port h later outs false false true n e = e
chosen port h later outs false false false n e = ap (both_fired (sent port h)) e

fire-output : (port : ℕ) (h : HeaderOf) (acts : List Action) (outs : List Sent) → port ≢ CONTROLLER
    → fire acts h ≡ only outs → fire (Output port 0 ∷ acts) h ≡ only (cons_option (leaves port h) outs)
fire-output port h acts outs n e = chosen port h (fire acts h) outs (port == CONTROLLER) (port == IN_PORT)
    (port == h.in_port) (not_controller port n (port == CONTROLLER) refl) e

module _ (h : HeaderOf) where
  -- one out: without a way what comes later, else the packet and then what comes later
  fire-going : (way : Option Way) (now r : RewriteOf) (tag : Option ℕ) (later : RewriteOf → Option ℕ
      → List Action) (outs : List Sent) →
      Extends r now → Strips h tag → ((x : Way) → way ≡ Some x → IsGood h x)
      → fire (later now tag) (apply now (tagged tag h)) ≡ only outs →
      ((x : Way) → way ≡ Some x → fire (later r x.tag) (apply r (tagged x.tag h)) ≡ only outs) →
      fire (going way now tag r later) (apply now (tagged tag h))
      ≡ only (cons_option (option_and_then (by_way h r) way) outs)
  fire-going None now r tag later outs ext st good stays goes = stays
  fire-going (Some x) now r tag later outs ext st good stays goes =
      fire-sets now r (retag tag x.tag ++ (Output x.port 0 ∷ later (and_then now r) x.tag)) (tagged tag h) ext
      ∙ (fire-retag tag x.tag (Output x.port 0 ∷ later (and_then now r) x.tag) r h st
      ∙ fire-output x.port (apply r (tagged x.tag h)) (later (and_then now r) x.tag) outs (good x refl).port
      (ap (λ (z : RewriteOf). fire (later z x.tag) (apply r (tagged x.tag h))) (and_then-absorbs now r ext)
      ∙ goes x refl))

  module _ (w : Wiring) (switch : ℕ) (ingress : Option ℕ) where
    -- each way that an out has is good
    abbrev pub GoesWell : Out → Type 0
    GoesWell o = (x : Way) → way_of w switch ingress o.dest ≡ Some x → IsGood h x

    -- the packet that an out sends by its way
    abbrev pub goes : Out → Option Sent
    goes o = option_and_then (by_way h o.rewrite) (way_of w switch ingress o.dest)

    fire-actions_from : (outs : List Out) (now : RewriteOf) (tag : Option ℕ) → EachExtends now outs → Strips h tag
        → AllByRecursion GoesWell outs →
        fire (actions_from w switch ingress now tag outs) (apply now (tagged tag h)) ≡ only (filter_map goes outs)
    fire-actions_from [] now tag ext st good = refl
    fire-actions_from (o ∷ os) now tag ext st good =
        fire-going (way_of w switch ingress o.dest) now o.rewrite tag
        (λ now tag. actions_from w switch ingress now tag os) (filter_map goes os) ext.0 st good.0
        (fire-actions_from os now tag (extends-before now o.rewrite os ext.0 ext.1) st good.1)
        (λ x e. fire-actions_from os o.rewrite x.tag ext.1 (good.0 x e).strips good.1)

    told_first : (b : Bool) (acts : List Action) (outs : List Sent) → fire acts h ≡ only outs
        → fire ((if b then Output CONTROLLER 65535 ∷ [] else []) ++ acts) h
        ≡ record { outs = outs; copies = if b then h ∷ [] else [] }
    told_first true acts outs e = ap (both_fired (copied h)) e
    told_first false acts outs e = e

    -- the list of actions of outs sends each by its way, and makes one copy where somebody is told
    pub fire-actions_of : (outs : List Out) → EachExtends no_rewrite outs → AllByRecursion GoesWell outs →
        fire (actions_of w switch ingress outs) h
        ≡ record { outs = filter_map goes outs; copies = if tells outs then h ∷ [] else [] }
    fire-actions_of outs ext good =
        told_first (tells outs) (actions_from w switch ingress no_rewrite None outs) (filter_map goes outs)
        (fire-actions_from outs no_rewrite None ext (inl refl) good)
