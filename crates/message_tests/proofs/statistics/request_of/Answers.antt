use Rattle.std.proofs.Common.{◌≡◌, ◌≤◌, drop, length, sym, ap, ◌∙◌, arith}
use Rattle.std.proofs.lemmas.List.{length-drop}
use Rattle.of10_actions.proofs.Digits.{IsBytes-drop}
use Rattle.of10_stats.specs.Reading.{request_in}
use Rattle.of10_stats.proofs.Writable.{request_answered}
use Rattle.message_tests.proofs.statistics.request_of.Goals as goal

pub returns : goal.returns
returns c =
    let bytes = drop 8 c.args.frame.now in
    request_answered bytes c.read_request.result
    (IsBytes-drop 8 c.args.frame.now (λ i. omega (arith, c.type_inv.frame i)))
    (omega (arith, length-drop 8 c.args.frame.now, c.requires.room))
    (c.read_request.ensures ∙ ap request_in c.split_at.ensures.back)
