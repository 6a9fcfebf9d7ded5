use Rattle.std.proofs.Common.{◌≡◌, ◌++◌, drop}
use Rattle.explain_text.specs.Answers.{findings_text}
use Rattle.replay_report.proofs.explaining.say_findings.Given as goal

abbrev pub invariant-loop-finding : goal.invariant-loop-finding
invariant-loop-finding l = l.report ++ findings_text l.policy l.bytes (drop l.finding-index l.findings)
    ≡ l.fn.report ++ findings_text l.policy l.bytes l.findings
