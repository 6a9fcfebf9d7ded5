use Rattle.std.proofs.Common.{◌≡◌, ◌≤◌, List, ℕ, drop, length, sym, ap, subst, ◌∙◌, arith}
use Rattle.std.proofs.lemmas.List.{length-drop}
use Rattle.of10_actions.proofs.Digits.{IsBytes-drop}
use Rattle.of10_stats.specs.Reading.{Gives, reply_in}
use Rattle.of10_stats.proofs.Writable.{reply_answered}
use Rattle.message_tests.proofs.statistics.reply_of.Goals as goal

pub returns : goal.returns
returns c =
    let bytes = drop 8 c.args.frame.now in
    let gives = subst (λ (b : List ℕ). Gives c.read_reply.result (reply_in b)) c.split_at.ensures.back
    c.read_reply.ensures in
    reply_answered bytes c.read_reply.result (IsBytes-drop 8 c.args.frame.now (λ i. omega (arith, c.type_inv.frame i)))
    (omega (arith, length-drop 8 c.args.frame.now, c.requires.room))
    (omega (arith, length-drop 8 c.args.frame.now, c.requires.room, c.requires.fits)) gives
