use Rattle.std.proofs.Common.{◌∙◌, List, ap, sym}
use Rattle.std.specs.Prelude.{option_map}
use Rattle.std.proofs.lemmas.Option.{slice_get-map}
use Rattle.stats_map.specs.Told.{told}
use Rattle.waitings.specs.declared.state.Waiting.{Waiting}
use Rattle.hyper_core.proofs.Overtaken.{heard_there, last_there}
use Rattle.event_acts.specs.CookieCounts.{counts_in}
use Rattle.machine_drafts.specs.Machines.{state_in_held}
use Rattle.machine_drafts.specs.Views.{switch_of}
use Rattle.hyper_core.proofs.overtaking.hear_switch.Goals as goal

pub returns-clause-heard : goal.returns-clause-heard
returns-clause-heard c session is =
    let h = c.in_ok-heard.heard in
    let x = switch_of c.in-Some.switch.now in
    heard_there (state_in_held c.args.held.now) c.args.n c.args.frame.now session is x h c.in_ok-numbers.numbers
    (told c.take_over-exchanged.new.counts)
    (slice_get-map switch_of c.args.held.now.switches c.args.n
    ∙ ap (option_map switch_of) (sym c.in-Some.ensures.value))
    c.in_ok-heard.ensures.heard
    (c.in_ok-numbers.ensures
    ∙ ap (λ (ws : List Waiting). counts_in ws x.known c.args.n h) c.stay-waiting.ensures.now)
    c.take_over-exchanged.ensures.told

pub returns-clause-last : goal.returns-clause-last
returns-clause-last c =
    let h = c.in_ok-heard.heard in
    let x = switch_of c.in-Some.switch.now in
    last_there (state_in_held c.args.held.now) c.args.n x h c.in_ok-numbers.numbers
    (told c.take_over-exchanged.new.counts)
    (slice_get-map switch_of c.args.held.now.switches c.args.n
    ∙ ap (option_map switch_of) (sym c.in-Some.ensures.value))
    (c.in_ok-numbers.ensures
    ∙ ap (λ (ws : List Waiting). counts_in ws x.known c.args.n h) c.stay-waiting.ensures.now)
    c.take_over-exchanged.ensures.told
