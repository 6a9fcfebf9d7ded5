use Rattle.std.proofs.Common.{rules, ◌≡◌, [], ◌∷◌, subst}
use Rattle.of10_actions.specs.Fields.{RewriteOf}
use Rattle.of10_actions.specs.declared.action.Action.TheVariants.{SetDlSrc, SetDlDst, SetNwSrc, SetNwDst, SetNwTos}
use Rattle.of10_actions.specs.declared.action.Action.TheVariants.{SetTpSrc, SetTpDst}
use Rattle.switch_meaning.specs.Placing.{field_sets}
use Rattle.switch_meaning.proofs.Writing.{mapped_by}
use Rattle.place_rules.proofs.actions.field_sets.Goals as goal

pub returns : goal.returns
returns c =
    let a = mapped_by _ SetDlSrc c.r.inside.dl_src c.map.result (λ x y k. search rules) c.map.ensures.cases in
    let b = mapped_by _ SetDlDst c.r.inside.dl_dst c.map-2.result (λ x y k. search rules) c.map-2.ensures.cases in
    let d = mapped_by _ SetNwSrc c.r.inside.nw_src c.map-3.result (λ x y k. search rules) c.map-3.ensures.cases in
    let e = mapped_by _ SetNwDst c.r.inside.nw_dst c.map-4.result (λ x y k. search rules) c.map-4.ensures.cases in
    let f = mapped_by _ SetNwTos c.r.inside.nw_tos c.map-5.result (λ x y k. search rules) c.map-5.ensures.cases in
    let g = mapped_by _ SetTpSrc c.r.inside.tp_src c.map-6.result (λ x y k. search rules) c.map-6.ensures.cases in
    let h = mapped_by _ SetTpDst c.r.inside.tp_dst c.map-7.result (λ x y k. search rules) c.map-7.ensures.cases in
    subst (λ (r : RewriteOf). c.map.result ∷ c.map-2.result ∷ c.map-3.result ∷ c.map-4.result ∷ c.map-5.result
    ∷ c.map-6.result ∷ c.map-7.result ∷ [] ≡ field_sets r) c.r.view_is
    (λ i. a i ∷ b i ∷ d i ∷ e i ∷ f i ∷ g i ∷ h i ∷ [])
