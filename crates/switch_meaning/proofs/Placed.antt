-- Firing the entry of a rule gives the rule's outs.
use Rattle.std.proofs.Common.{◌≡◌, ◌≢◌, ℕ, ◌<◌, ◌⊎◌, inl, inr, Bool, true, false, ◌&&◌, Option, Some, None, List, []}
use Rattle.std.proofs.Common.{◌∷◌, refl, ap, ◌∙◌, sym, subst, eqb-true, eq-eqb, arith}
use Rattle.std.specs.Prelude.{◌==◌, not, if◌then◌else◌, filter, filter_map, option_map, IfSome}
use Rattle.std.specs.List.{AllByRecursion}
use Rattle.std.specs.Option.{option_and_then, option_eq}
use Rattle.of10_match.specs.Fields.{HeaderOf}
use Rattle.of10_actions.specs.Fields.{RewriteOf}
use Rattle.of10_actions.specs.Rewriting.{apply, no_rewrite}
use Rattle.of10_actions.specs.Effects.{EachExtends}
use Rattle.of10_actions.specs.declared.action.Action.{Action}
use Rattle.of10_actions.specs.declared.effects.Dest.{Dest}
use Rattle.of10_actions.specs.declared.effects.Dest.TheVariants.{Port, Flood, Ingress, Tell}
use Rattle.of10_actions.specs.declared.effects.Out.{Out}
use Rattle.of10_actions.specs.Numbers.{IN_PORT, CONTROLLER, MAX}
use Rattle.switch_meaning.specs.Firing.{fire}
use Rattle.switch_meaning.specs.FiringLaw.{FiringGivesOuts, IsSoundWiring, StaysOn, said, sent_at, leaves_by, speaking}
use Rattle.switch_meaning.specs.Placing.{actions_of, entry_of, ingress_of, is_silent, is_telling, match_written}
use Rattle.switch_meaning.specs.Placing.{entry_with, outs_written, tells, way_of, way_to, written_port}
use Rattle.switch_meaning.specs.Wirings.{outside_at}
use Rattle.switch_meaning.specs.declared.entry.FlatRule.{FlatRule}
use Rattle.switch_meaning.specs.declared.entry.PhysEntry.{PhysEntry}
use Rattle.switch_meaning.specs.declared.entry.Site.{Site}
use Rattle.switch_meaning.specs.declared.fired.Sent.{Sent}
use Rattle.switch_meaning.specs.declared.wiring.Outside.{Outside}
use Rattle.switch_meaning.specs.declared.placing.Way.{Way}
use Rattle.switch_meaning.specs.declared.wiring.Wiring.{Wiring}
use Rattle.switch_meaning.proofs.Going.{GoesWell, IsGood, by_way, extends-before, fire-actions_of, goes, leaves}
use Rattle.switch_meaning.proofs.Items.{all-filter, all-map, apart, filter-all, filter_map-agree, filter_map-filter}
use Rattle.switch_meaning.proofs.Items.{list_any-filter, mapped, some_injective, split_and, join_and}

-- the way to a port of the same switch
way_to-here : (w : Wiring) (switch : ℕ) (ingress : Option ℕ) (o : Outside) → o.at.switch ≡ switch
    → way_to w switch ingress o ≡ Some (record { tag = None; port = written_port ingress o.at.port })
way_to-here w switch ingress o e = rw (eq-eqb o.at.switch switch e) refl

-- the port that is written is none of the controller
written-good : (h : HeaderOf) (ingress : Option ℕ) (p : ℕ) → p < MAX
    → IsGood h (record { tag = None; port = written_port ingress p })
written-good h ingress p lt = record { port = by (option_eq ◌==◌ ingress (Some p)); strips = inl refl }
  where
    by : (b : Bool) → (if b then IN_PORT else p) ≢ CONTROLLER
    by true e = omega arith
    by false e = omega arith

-- an output to the port by which the packet came is written as IN_PORT, and sends it there
leaves-named : (a q : ℕ) (k : HeaderOf) → k.in_port ≡ a → q < MAX → (b : Bool) → (a == q) ≡ b
    → leaves (if b then IN_PORT else q) k ≡ Some (record { port = q; header = k })
leaves-named a q k e lt true t = ap (λ (x : ℕ). Some (record { port = x; header = k })) (e ∙ eqb-true a q t)
leaves-named a q k e lt false t =
    rw (
      apart q IN_PORT (λ (f : q ≡ IN_PORT). omega arith),
      apart q k.in_port (λ (f : q ≡ k.in_port). let g : a ≡ q = sym (f ∙ e) in let t' : (a == q) ≡ true =
          eq-eqb a q g in cc),
    ) refl

-- an output by number, which sends nothing back
leaves-silent : (q : ℕ) (k : HeaderOf) (silent : Bool) → q < MAX → (silent ≡ true → q ≡ k.in_port)
    → (q ≡ k.in_port → silent ≡ true)
    → leaves q k ≡ (if not silent then Some (record { port = q; header = k }) else None)
leaves-silent q k true lt to from =
    rw (apart q IN_PORT (λ (f : q ≡ IN_PORT). omega arith), eq-eqb q k.in_port (to refl)) refl
leaves-silent q k false lt to from =
    rw (
      apart q IN_PORT (λ (f : q ≡ IN_PORT). omega arith),
      apart q k.in_port (λ (f : q ≡ k.in_port). let g = from f in cc),
    ) refl

nothing : {A : Type 0} (b : Bool) (o : Option A) → o ≡ None → o ≡ (if b then o else None)
nothing true o e = refl
nothing false o e = e

module _ (w : Wiring) (sound : IsSoundWiring w) (h : HeaderOf) (switch : ℕ) where
  -- the port lies on the switch, and has the number of a port
  abbrev IsHere : Option Outside → Type 0
  IsHere m = IfSome m (λ (o : Outside). o.at.switch ≡ switch) × IfSome m (λ (o : Outside). o.at.port < MAX)

  port-good : (ingress : Option ℕ) (m : Option Outside) → IsHere m → (x : Way)
      → option_and_then (way_to w switch ingress) m ≡ Some x → IsGood h x
  port-good ingress None p x e = cc
  port-good ingress (Some o) p x e =
      subst (IsGood h) (some_injective (sym (way_to-here w switch ingress o p.0) ∙ e))
      (written-good h ingress o.at.port p.1)

  ingress-good : (x : Way) → Some (record { tag = None; port = IN_PORT }) ≡ Some x → IsGood h x
  ingress-good x e = subst (IsGood h) (some_injective e)
      (record { port = λ (f : IN_PORT ≡ CONTROLLER). omega arith; strips = inl refl })

  -- each way on the switch is good
  dest-good : (ingress : Option ℕ) (d : Dest) → StaysOn w switch d → (x : Way) → way_of w switch ingress d ≡ Some x
      → IsGood h x
  dest-good ingress (Port v p) s x e = port-good ingress (outside_at w v p) (s, sound.numbers v p) x e
  dest-good ingress (Flood v p) s x e = port-good ingress (outside_at w v p) (s, sound.numbers v p) x e
  dest-good ingress Ingress s x e = ingress-good x e
  dest-good ingress (Tell member reason) s x e = cc

  -- where the rule names the port by which the packet came, each out sends the packet to its port
  port-named : (a : ℕ) → h.in_port ≡ a → (r : RewriteOf) (m : Option Outside) → IsHere m
      → option_and_then (by_way h r) (option_and_then (way_to w switch (Some a)) m) ≡ sent_at m (apply r h)
  port-named a e r None p = refl
  port-named a e r (Some o) p =
      ap (option_and_then (by_way h r)) (way_to-here w switch (Some a) o p.0)
      ∙ leaves-named a o.at.port (apply r h) e p.1 (a == o.at.port) refl

  dest-named : (a : ℕ) → h.in_port ≡ a → (r : RewriteOf) (d : Dest) → StaysOn w switch d
      → option_and_then (by_way h r) (way_of w switch (Some a) d) ≡ leaves_by w h r d
  dest-named a e r (Port v p) s = port-named a e r (outside_at w v p) (s, sound.numbers v p)
  dest-named a e r (Flood v p) s = port-named a e r (outside_at w v p) (s, sound.numbers v p)
  dest-named a e r Ingress s = refl
  dest-named a e r (Tell member reason) s = refl

  module _ (v port : ℕ) (at : Outside) (there : outside_at w v port ≡ Some at) (on : at.at.switch ≡ switch)
      (came : h.in_port ≡ at.at.port) where
    -- where it names none, an out to that port is silent
    port-unnamed : (r : RewriteOf) (u q : ℕ) (m : Option Outside) → outside_at w u q ≡ m → IsHere m →
        option_and_then (by_way h r) (option_and_then (way_to w switch None) m)
        ≡ (if not ((u == v) && (port == q)) then sent_at m (apply r h) else None)
    port-unnamed r u q None e p = nothing (not ((u == v) && (port == q))) (sent_at None (apply r h)) refl
    port-unnamed r u q (Some o) e p =
        ap (option_and_then (by_way h r)) (way_to-here w switch None o p.0)
        ∙ leaves-silent o.at.port (apply r h) ((u == v) && (port == q)) p.1 to from
      where
        to : ((u == v) && (port == q)) ≡ true → o.at.port ≡ h.in_port
        to t =
            let s = split_and (u == v) (port == q) t in
            let a : u ≡ v = eqb-true u v s.0 in
            let b : port ≡ q = eqb-true port q s.1 in
            let same : Some o ≡ Some at = sym e ∙ (λ i. outside_at w (a i) ((sym b) i)) ∙ there in
            ap (λ (z : Outside). z.at.port) (some_injective same) ∙ sym came

        from : o.at.port ≡ h.in_port → ((u == v) && (port == q)) ≡ true
        from t =
            let s = sound.apart u q v port o at e there (p.0 ∙ sym on) (t ∙ came) in
            join_and (u == v) (port == q) (eq-eqb u v s.0) (eq-eqb port q (sym s.1))

    dest-unnamed : (r : RewriteOf) (d : Dest) → StaysOn w switch d
        → option_and_then (by_way h r) (way_of w switch None d)
        ≡ (if not (is_silent v (Some port) d) then leaves_by w h r d else None)
    dest-unnamed r (Port u q) s = port-unnamed r u q (outside_at w u q) refl (s, sound.numbers u q)
    dest-unnamed r (Flood u q) s = port-unnamed r u q (outside_at w u q) refl (s, sound.numbers u q)
    dest-unnamed r Ingress s = refl
    dest-unnamed r (Tell member reason) s = refl

-- what is known of the entry of a rule
actions-is : (w : Wiring) (site : Site) (r : FlatRule) (e : PhysEntry) → entry_of w site r ≡ Some e
    → e.actions ≡ actions_of w site.switch (ingress_of w site r) (outs_written site r)
actions-is w site r e t =
    let m = mapped (entry_with w site r) (match_written w site r) e t in ap (λ (z : PhysEntry). z.actions) (sym m.is)

extends-kept : (b : Bool) (r : RewriteOf) (o : Out) (os : List Out) → EachExtends r (o ∷ os) → EachExtends o.rewrite os
    → EachExtends r (if b then o ∷ os else os)
extends-kept true r o os e f = (e.0, f)
extends-kept false r o os e f = extends-before r o.rewrite os e.0 f

-- the outs that are left build up as all did
extends-filter : (p : Out → Bool) (r : RewriteOf) (outs : List Out) → EachExtends r outs → EachExtends r (filter p outs)
extends-filter p r [] e = tt
extends-filter p r (o ∷ os) e = extends-kept (p o) r o (filter p os) (e.0, extends-filter p o.rewrite os e.1)
    (extends-filter p o.rewrite os e.1)

module _ (w : Wiring) (sound : IsSoundWiring w) (site : Site) (port : ℕ) (at : Outside)
    (there : outside_at w site.v port ≡ Some at) (on : at.at.switch ≡ site.switch) (h : HeaderOf)
    (came : h.in_port ≡ at.at.port) where
  -- firing the list of actions of outs on the switch, where it is known what each out sends
  fire-outs : (ingress : Option ℕ) (f : Out → Option Sent) (outs : List Out) → EachExtends no_rewrite outs
      → AllByRecursion (λ (o : Out). StaysOn w site.switch o.dest) outs →
      ((o : Out) → StaysOn w site.switch o.dest → goes h w site.switch ingress o ≡ f o) →
      fire (actions_of w site.switch ingress outs) h
      ≡ record { outs = filter_map f outs; copies = if tells outs then h ∷ [] else [] }
  fire-outs ingress f outs ext stay is =
      fire-actions_of h w site.switch ingress outs ext
      (all-map (λ (o : Out). StaysOn w site.switch o.dest) (GoesWell h w site.switch ingress) outs
      (λ o s. dest-good w sound h site.switch ingress o.dest s) stay)
      ∙ ap (λ (xs : List Sent). record { outs = xs; copies = if tells outs then h ∷ [] else [] })
      (filter_map-agree (goes h w site.switch ingress) f outs
      (all-map (λ (o : Out). StaysOn w site.switch o.dest) (λ (o : Out). goes h w site.switch ingress o ≡ f o) outs
      is stay))

  -- a rule that names the port
  fire-named : (outs : List Out) → EachExtends no_rewrite outs
      → AllByRecursion (λ (o : Out). StaysOn w site.switch o.dest) outs
      → fire (actions_of w site.switch (Some at.at.port) outs) h ≡ said w h outs
  fire-named outs ext stay = fire-outs (Some at.at.port) (λ (o : Out). leaves_by w h o.rewrite o.dest) outs ext stay
      (λ o s. dest-named w sound h site.switch at.at.port came o.rewrite o.dest s)

  abbrev speaks : Out → Bool
  speaks o = not (is_silent site.v (Some port) o.dest)

  extends-speaking : (b : Bool) (outs : List Out) → EachExtends no_rewrite outs
      → EachExtends no_rewrite (if b then filter speaks outs else outs)
  extends-speaking true outs e = extends-filter speaks no_rewrite outs e
  extends-speaking false outs e = e

  stays-speaking : (b : Bool) (outs : List Out) → AllByRecursion (λ (o : Out). StaysOn w site.switch o.dest) outs
      → AllByRecursion (λ (o : Out). StaysOn w site.switch o.dest) (if b then filter speaks outs else outs)
  stays-speaking true outs a = all-filter (λ (o : Out). StaysOn w site.switch o.dest) speaks outs a
  stays-speaking false outs a = a

  -- a telling speaks
  telling-speaks : (d : Dest) → not (is_silent site.v (Some port) d) ≡ false → is_telling d ≡ false
  telling-speaks (Port v p) e = refl
  telling-speaks (Flood v p) e = refl
  telling-speaks Ingress e = refl
  telling-speaks (Tell member reason) e = cc

  and_false : (b : Bool) → not (b && false) ≡ true
  and_false true = refl
  and_false false = refl

  -- where no port is named no out is left out
  none-silent : (d : Dest) → not (is_silent site.v None d) ≡ true
  none-silent (Port v p) = and_false (v == site.v)
  none-silent (Flood v p) = and_false (v == site.v)
  none-silent Ingress = refl
  none-silent (Tell member reason) = refl

  -- a rule for all ports
  fire-unnamed : (outs : List Out) → EachExtends no_rewrite outs
      → AllByRecursion (λ (o : Out). StaysOn w site.switch o.dest) outs
      → fire (actions_of w site.switch None outs) h ≡ said w h (filter speaks outs)
  fire-unnamed outs ext stay =
      fire-outs None (λ (o : Out). if speaks o then leaves_by w h o.rewrite o.dest else None) outs ext stay
      (λ o s. dest-unnamed w sound h site.switch site.v port at there on came o.rewrite o.dest s)
      ∙ (λ i. record {
        outs = (sym (filter_map-filter (λ (o : Out). leaves_by w h o.rewrite o.dest) speaks outs)) i;
        copies =
            if (sym (list_any-filter (λ (o : Out). is_telling o.dest) speaks outs (λ o e. telling-speaks o.dest e))) i
            then h ∷ [] else [];
      })

  written-unnamed : (b : Bool) (outs : List Out)
      → (if b then filter (λ (o : Out). not (is_silent site.v None o.dest)) outs else outs) ≡ outs
  written-unnamed true outs = filter-all (λ (o : Out). not (is_silent site.v None o.dest)) outs
      (λ o. none-silent o.dest)
  written-unnamed false outs = refl

  whole-speaking : (b : Bool) (outs : List Out) → b ≡ true
      → filter speaks outs ≡ (if b then filter speaks outs else outs)
  whole-speaking true outs e = refl
  whole-speaking false outs e = cc

  module _ (r : FlatRule) (ext : EachExtends no_rewrite r.outs)
      (stay : AllByRecursion (λ (o : Out). StaysOn w site.switch o.dest) r.outs) where
    fire-rule : (r.m.in_port ≡ Some port) ⊎ ((site.whole ≡ true) × (r.m.in_port ≡ None))
        → fire (actions_of w site.switch (ingress_of w site r) (outs_written site r)) h
        ≡ said w h (speaking site port r.outs)
    fire-rule (inl named) =
        (λ i. fire
        (actions_of w site.switch
        (option_and_then (λ p. option_map (λ (o : Outside). o.at.port) (outside_at w site.v p)) (named i))
        (if site.whole then filter (λ (o : Out). not (is_silent site.v (named i) o.dest)) r.outs else r.outs)) h)
        ∙ ((λ i. fire (actions_of w site.switch (option_map (λ (o : Outside). o.at.port) (there i))
        (speaking site port r.outs)) h)
        ∙ fire-named (speaking site port r.outs) (extends-speaking site.whole r.outs ext)
        (stays-speaking site.whole r.outs stay))
    fire-rule (inr all) =
        (λ i. fire
        (actions_of w site.switch
        (option_and_then (λ p. option_map (λ (o : Outside). o.at.port) (outside_at w site.v p)) (all.1 i))
        (if site.whole then filter (λ (o : Out). not (is_silent site.v (all.1 i) o.dest)) r.outs else r.outs)) h)
        ∙ (ap (λ (xs : List Out). fire (actions_of w site.switch None xs) h) (written-unnamed site.whole r.outs)
        ∙ (fire-unnamed r.outs ext stay ∙ ap (λ (xs : List Out). said w h xs) (whole-speaking site.whole r.outs all.0)))

-- the law
pub firing-gives-outs : FiringGivesOuts
firing-gives-outs w sound site port at there on r placeable e is h came =
    ap (λ (acts : List Action). fire acts h) (actions-is w site r e is)
    ∙ fire-rule w sound site port at there on h came r placeable.extends placeable.outs placeable.in_port
