use Rattle.std.proofs.Common.{◌∙◌, ap, sym}
use Rattle.policy_file.specs.Values.{virtual_port}
use Rattle.policy_file.proofs.Each.{each_more}
use Rattle.policy_file.proofs.words.each_virtual_port.Goals as goal

pub loop-word-preserved : goal.loop-word-preserved
loop-word-preserved c =
    each_more (λ w. w.now) virtual_port c.loop-word.ports c.push.new.self c.args.words.now c.loop-word.word-index _
    c.in-Some.port _ c.loop-word-test.true
    (ap virtual_port (sym c.as_bytes.ensures.value) ∙ (sym c.in_ok-port.ensures ∙ c.in-Some.is))
    c.in_ok-push-in-Some.ensures.pushed c.loop-word.invariant
