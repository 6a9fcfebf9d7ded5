use Rattle.std.proofs.Common.{◌≡◌, ◌∙◌}
use Rattle.std.proofs.lemmas.Result.{on_ok_weaker}
use Rattle.machine_drafts.specs.Outcomes.{draft_in, members_in, switches_in}
use Rattle.machine_meaning.specs.Settings.{setting_of, setting_with}
use Rattle.event_composes.proofs.composing.compose_anew.Goals as goal

pub compose_from-composed-requires : goal.compose_from-composed-requires
compose_from-composed-requires c = c.in_ok-setting.ensures.fits

pub returns-clause-drafted : goal.returns-clause-drafted
returns-clause-drafted c =
    let o = c.args.draft.now in
    let t = setting_of c.args.setup.now (draft_in o).state in
    let setting : c.in_ok-setting.setting ≡ t =
    c.in_ok-setting.ensures.setting ∙ (λ i. setting_with c.args.setup.now o.exprs.now
    (members_in (c.as_slice.ensures i)) (switches_in (c.as_slice-2.ensures i))) in
    on_ok_weaker c.compose_from-composed.result (λ made. made t (λ n x at. setting)) c.compose_from-composed.ensures.drafted
