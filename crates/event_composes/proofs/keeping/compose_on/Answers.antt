use Rattle.std.proofs.Common.{◌≡◌, arith, length}
use Rattle.std.proofs.lemmas.Result.{on_ok_weaker}
use Rattle.machine_meaning.specs.Settings.{setting_of}
use Rattle.machine_drafts.specs.Outcomes.{state_in}
use Rattle.event_composes.proofs.Cases.{in_ok_case}
use Rattle.event_composes.proofs.Following.{as_many, can_follow, wanted_by}
use Rattle.event_composes.proofs.Serials.{drafts_have}
use Rattle.event_composes.proofs.keeping.compose_on.Goals as goal

pub turn-requires : goal.turn-requires
turn-requires g c =
    can_follow c.args.setup.now c.args.draft.now c.args.composed.now c.requires.kept c.requires.exprs
    (drafts_have c.args.draft.now.members c.requires.serials)

pub compose_from-requires : goal.compose_from-requires
compose_from-requires g c =
    let all : length c.args.draft.now.switches ≡ length c.turn.new.composed.tables =
    as_many c.args.setup.now c.args.draft.now c.args.composed.now c.turn.new.composed c.requires.kept
    c.in_ok-turned.ensures.of in
    omega arith

pub returns-clause-drafted : goal.returns-clause-drafted
returns-clause-drafted g c =
    let o = c.args.draft.now in
    on_ok_weaker c.compose_from.result
    (λ made. made (setting_of c.args.setup.now (state_in o))
    (wanted_by c.settings_are_ready.ensures c.args.setup.now c.policy-policy.ensures.sound o c.args.composed.now
    c.turn.new.composed c.in_ok-turned.turned c.requires.settled c.requires.kept
    (drafts_have o.members c.requires.serials) c.in_ok-turned.ensures.of c.in_ok-turned.ensures.told
    c.are_tables.ensures c.are_tables-2.ensures))
    c.compose_from.ensures.drafted

pub returns-clause-kept : goal.returns-clause-kept
returns-clause-kept g c = in_ok_case c.compose_from.result c.in_ok-turned.ensures.of
