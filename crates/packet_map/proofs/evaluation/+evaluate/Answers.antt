use Rattle.std.proofs.Common.{ap, ◌∙◌, sym, slice_get, ℕ}
use Rattle.of10_match.specs.Fields.{HeaderOf}
use Rattle.policy_expr.specs.Policy.{policy_of}
use Rattle.policy_meaning.specs.Networks.{table_meaning}
use Rattle.packet_map.specs.Networks.{network_of}
use Rattle.packet_map.specs.declared.acted.Acted.{Acted}
use Rattle.packet_map.proofs.Evaluating.{chain-gave, sum-gave}
use Rattle.packet_map.proofs.Finding.{rising-at}
use Rattle.packet_map.proofs.evaluation.+evaluate.Goals as goal

pub ask-requires : goal.ask-requires
ask-requires t c = rising-at c.args.world.now.grants.now c.in-Member.index c.in-Some.member.grant.now c.requires
    c.in-Some.ensures.grant

pub returns-in_ok-second-in-Par-clause-walked : goal.returns-in_ok-second-in-Par-clause-walked
returns-in_ok-second-in-Par-clause-walked t c =
    let leaf = λ (i : ℕ) (h : HeaderOf). table_meaning (slice_get (network_of c.args.world.now).tables i) h in
    rw (c.in-Par.is, ← c.deref.ensures, ← c.deref-in-Par.ensures)
    (sum-gave leaf (policy_of c.deref.result.now) (policy_of c.deref-in-Par.result.now) c.args.hop.now c.args.walked.now
    c.evaluate.new.walked c.evaluate-in-Par.new.walked c.in_ok-first-in-Par.ensures.walked
    c.in_ok-second-in-Par.ensures.walked)

pub returns-in_ok-second-in-Seq-clause-walked : goal.returns-in_ok-second-in-Seq-clause-walked
returns-in_ok-second-in-Seq-clause-walked t c =
    let leaf = λ (i : ℕ) (h : HeaderOf). table_meaning (slice_get (network_of c.args.world.now).tables i) h in
    rw (c.in-Seq.is, ← c.deref-in-Seq.ensures, ← c.deref-in-Seq-2.ensures)
    (chain-gave leaf (policy_of c.deref-in-Seq.result.now) (policy_of c.deref-in-Seq-2.result.now) c.args.hop.now
    c.args.walked.now c.evaluate-in-Seq.new.walked c.evaluate-in-Seq-2.new.walked c.rewritten-next.result
    c.in-Pass.rewrite
    (sym (ap (λ (a : Acted). a.tail) c.in_ok-first-in-Seq.ensures.acted) ∙ c.in-Pass.is) c.rewritten-next.ensures.v
    c.rewritten-next.ensures.header c.rewritten-next.ensures.rewrite c.in_ok-first-in-Seq.ensures.walked
    c.in_ok-second-in-Seq.ensures.walked)
