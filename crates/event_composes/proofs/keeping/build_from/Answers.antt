use Rattle.std.proofs.Common.{◌<◌, ◌^◌, length, subst, sym}
use Rattle.agreement.specs.declared.state.Setting.{Setting}
use Rattle.composed_tables.specs.Composing.{IsGood}
use Rattle.composed_tables.specs.Rules.{IsReadyFor}
use Rattle.policies.specs.Policies.{plan}
use Rattle.virtual_topology.specs.declared.plan.TopologyPlan.{TopologyPlan}
use Rattle.machine_drafts.specs.Machines.{state_in_held}
use Rattle.event_composes.proofs.Bounds.{built_steps}
use Rattle.event_composes.proofs.Kept.{built_kept, tables_sound}
use Rattle.event_composes.proofs.keeping.build_from.Goals as goal

pub build-built-requires-clause-fits : goal.build-built-requires-clause-fits
build-built-requires-clause-fits g c ks lives = c.in_ok-setting.ensures.fits

pub build-built-requires-clause-good : goal.build-built-requires-clause-good
build-built-requires-clause-good g c ks lives =
    let p = c.args.setup.now in
    let s = state_in_held c.args.held.now in
    subst IsGood (sym c.in_ok-setting.ensures.setting)
    (c.settings_are_ready.ensures p c.policy-policy.ensures.sound s (tables_sound p s c.requires)).good

pub build-built-requires-clause-ready : goal.build-built-requires-clause-ready
build-built-requires-clause-ready g c ks lives =
    let p = c.args.setup.now in
    let s = state_in_held c.args.held.now in
    subst (λ (t : TopologyPlan). IsReadyFor t c.in_ok-setting.setting) (sym c.topology.ensures)
    (subst (λ (t : Setting). IsReadyFor (plan p) t) (sym c.in_ok-setting.ensures.setting)
    (c.settings_are_ready.ensures p c.policy-policy.ensures.sound s (tables_sound p s c.requires)).ready)

pub build-built-requires-clause-few : goal.build-built-requires-clause-few
build-built-requires-clause-few g c ks lives =
    let p = c.args.setup.now in
    let s = state_in_held c.args.held.now in
    subst (λ (t : Setting). length t.switches < 2 ^ 32) (sym c.in_ok-setting.ensures.setting)
    (c.settings_are_ready.ensures p c.policy-policy.ensures.sound s (tables_sound p s c.requires)).few

pub returns-clause-of : goal.returns-clause-of
returns-clause-of g c =
    built_kept c.args.setup.now (state_in_held c.args.held.now) c.in_ok-setting.setting c.topology.result.now
    c.build-built.result c.in_ok-setting.ensures.setting c.topology.ensures c.build-built.ensures.of c.build-built.ensures.compiled
    c.build-built.ensures.plan

pub returns-clause-steps : goal.returns-clause-steps
returns-clause-steps g c =
    built_steps c.args.setup.now (state_in_held c.args.held.now) c.in_ok-setting.setting c.topology.result.now
    c.args.steps.now c.build-built.new.steps c.in_ok-setting.ensures.setting c.topology.ensures c.build-built.ensures.steps
