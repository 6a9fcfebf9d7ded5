-- The actions of outs.
use Rattle.std.proofs.Common.{◌≡◌, ℕ, ◌+◌, ◌<◌, Bool, true, false, List, [], ◌∷◌, ◌++◌, Option, None, length, get_or}
use Rattle.std.proofs.Common.{drop, refl, ap, sym, ◌∙◌}
use Rattle.std.specs.Prelude.{◌&&◌, filter, if◌then◌else◌, not}
use Rattle.std.proofs.lemmas.List.{at_drop_more}
use Rattle.of10_actions.specs.Fields.{RewriteOf}
use Rattle.of10_actions.specs.declared.action.Action.{Action}
use Rattle.of10_actions.specs.declared.effects.Dest.{Dest}
use Rattle.of10_actions.specs.declared.effects.Dest.TheVariants.{Port, Flood, Ingress, Tell}
use Rattle.of10_actions.specs.declared.effects.Out.{Out}
use Rattle.switch_meaning.specs.Placing.{actions_from, going, is_silent, is_telling, tells, way_of}
use Rattle.switch_meaning.specs.declared.entry.Site.{Site}
use Rattle.switch_meaning.specs.declared.placing.Way.{Way}
use Rattle.switch_meaning.specs.declared.wiring.Wiring.{Wiring}
use Rattle.switch_meaning.proofs.Items.{list_any-filter}
use Rattle.place_rules.specs.InsideActions.{actions_by, outs_kept, way_kept}

-- one out more is written
pub out_more : (way : Dest → Option Way) (outs : List Out) (i : ℕ) (out : Out) (old new all : List Action)
    (now now' : RewriteOf) (tag tag' : Option ℕ) →
    i < length outs → out ≡ get_or outs i out →
    ((later : RewriteOf → Option ℕ → List Action)
    → new ++ later now' tag' ≡ old ++ going (way out.dest) now tag out.rewrite later) →
    old ++ actions_by way now tag (drop i outs) ≡ all → new ++ actions_by way now' tag' (drop (i + 1) outs) ≡ all
out_more way outs i out old new all now now' tag tag' lt is added e =
    added (λ now tag. actions_by way now tag (drop (i + 1) outs))
    ∙ (ap (λ xs. old ++ xs)
    (sym (at_drop_more (actions_by way now tag) outs i out lt
    ∙ (λ j. actions_by way now tag ((sym is) j ∷ drop (i + 1) outs)))) ∙ e)

module _ (w : Wiring) (site : Site) (in_port ingress : Option ℕ) where
  abbrev silent : Out → Bool
  silent o = is_silent site.v in_port o.dest

  -- the way of an out, unless silent ones are left out
  abbrev way_if : Bool → Dest → Option Way
  way_if b dest = if b && is_silent site.v in_port dest then None else way_of w site.switch ingress dest

  one_step : (b : Bool) (o : Out) (os : List Out) (now : RewriteOf) (tag : Option ℕ)
      → ((n : RewriteOf) (t : Option ℕ)
      → actions_by (way_if true) n t os ≡ actions_from w site.switch ingress n t
      (filter (λ (x : Out). not (silent x)) os))
      → going (if b then None else way_of w site.switch ingress o.dest) now tag o.rewrite
      (λ n t. actions_by (way_if true) n t os)
      ≡ actions_from w site.switch ingress now tag (if not b then o ∷ filter (λ (x : Out). not (silent x)) os
      else filter (λ (x : Out). not (silent x)) os)
  one_step true o os now tag rest = rest now tag
  one_step false o os now tag rest = λ j. going (way_of w site.switch ingress o.dest) now tag o.rewrite
      (λ n t. rest n t j)

  none_silent : (os : List Out) (now : RewriteOf) (tag : Option ℕ)
      → actions_by (way_if true) now tag os ≡ actions_from w site.switch ingress now tag
      (filter (λ (x : Out). not (silent x)) os)
  none_silent [] now tag = refl
  none_silent (o ∷ os) now tag = one_step (silent o) o os now tag (none_silent os)

  all_stay : (os : List Out) (now : RewriteOf) (tag : Option ℕ)
      → actions_by (way_if false) now tag os ≡ actions_from w site.switch ingress now tag os
  all_stay [] now tag = refl
  all_stay (o ∷ os) now tag = λ j. going (way_of w site.switch ingress o.dest) now tag o.rewrite
      (λ n t. all_stay os n t j)

  either_way : (b : Bool) (outs : List Out) (now : RewriteOf) (tag : Option ℕ)
      → actions_by (way_if b) now tag outs ≡ actions_from w site.switch ingress now tag
      (if b then filter (λ (x : Out). not (silent x)) outs else outs)
  either_way true outs now tag = none_silent outs now tag
  either_way false outs now tag = all_stay outs now tag

  -- the actions of the outs that are kept
  pub kept_actions : (outs : List Out) (now : RewriteOf) (tag : Option ℕ)
      → actions_by (way_kept w site in_port ingress) now tag outs
      ≡ actions_from w site.switch ingress now tag (outs_kept site in_port outs)
  kept_actions outs now tag = either_way site.whole outs now tag

  no_telling : (d : Dest) → not (is_silent site.v in_port d) ≡ false → is_telling d ≡ false
  no_telling (Port v p) e = refl
  no_telling (Flood v p) e = refl
  no_telling Ingress e = refl
  no_telling (Tell member reason) e = cc

  either_tells : (b : Bool) (outs : List Out)
      → tells (if b then filter (λ (x : Out). not (silent x)) outs else outs) ≡ tells outs
  either_tells true outs = list_any-filter (λ (o : Out). is_telling o.dest) (λ (x : Out). not (silent x)) outs
      (λ o e. no_telling o.dest e)
  either_tells false outs = refl

  -- where one of them tells, one of all does
  pub kept_tells : (outs : List Out) → tells (outs_kept site in_port outs) ≡ tells outs
  kept_tells outs = either_tells site.whole outs
