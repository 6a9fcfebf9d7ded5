use Rattle.std.proofs.Common.{◌≡◌, ◌∙◌, ◌+◌, ◌≤◌, length, take, drop, ◌-◌, Some, Option, sym, ap, length-drop, arith}
use Rattle.std.proofs.lemmas.List.{take_all}
use Rattle.std.specs.Option.{option_map}
use Rattle.policy_expr.specs.Signs.{front_sign, signs_from}
use Rattle.policy_expr.specs.Reading.{State, run, run_on, step}
use Rattle.policy_expr.specs.Contexts.{state_of}
use Rattle.policy_expr.proofs.SignLemmas.{signs_front, step_names}
use Rattle.policy_expr.proofs.reader.read.Goals as goal

pub loop-at-preserved : goal.loop-at-preserved
loop-at-preserved c =
    let text = c.args.text.now in
    let members = c.args.members.now in
    let at = c.loop-at.at in
    let w = c.token_at-token.result.1 in
    let before : State = state_of c.loop-at.progress in
    let rest_is : take (length text - at) (drop at text) ≡ drop at text =
    take_all (length text - at) (drop at text) (omega (arith, length-drop at text)) in
    let token_is = rw rest_is at c.token_at-token.ensures.sign in
    let width_is = rw rest_is at c.token_at-token.ensures.width in
    let within_is = rw rest_is at c.token_at-token.ensures.within in
    let next_is = rw rest_is at c.in_ok-after.ensures in
    let stepped : step members before (front_sign (drop at text)) ≡ Some (state_of c.in-Some.after) =
    ap (step members before) (sym token_is) ∙ sym next_is ∙ ap (option_map state_of) c.in-Some.is in
    let rest = signs_from 0 (at + w) (drop (at + w) text) in
    let in_text : w ≤ length (drop at text) = within_is in
    let signs = signs_front text at w (omega arith) c.if-text-at-eq32.false c.token_at-token.ensures.some width_is in
    let few : length c.in-Some.after.context.names ≤ length c.loop-at.progress.context.names + 1 =
    step_names members before (state_of c.in-Some.after) (front_sign (drop at text)) stepped in
    record {
      within = omega (arith, length-drop at text);
      same = sym (ap (run members (length text) before) signs
          ∙ ap (λ (o : Option State). run_on at o (λ after. run members (length text) after rest)) stepped)
          ∙ c.loop-at.invariant.same;
      few = omega (arith, c.loop-at.invariant.few, c.token_at-token.ensures.some);
    }
