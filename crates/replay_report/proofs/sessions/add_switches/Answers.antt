use Rattle.std.proofs.Common.{◌∙◌, ◌++◌, ◌∷◌, [], ℕ, List, ap, append_assoc, map, sym, take, arith}
use Rattle.std.specs.List.{enumerate_from}
use Rattle.cv_io.specs.declared.leaf.Who.TheVariants.{Switch}
use Rattle.virtual_topology.proofs.Steps.{numbered_all, numbered_mapped}
use Rattle.replay_report.specs.Sessions.{named_switch}
use Rattle.replay_report.specs.declared.sessions.Named.{Named}
use Rattle.replay_report.proofs.sessions.add_switches.Goals as goal

pub loop-n-preserved : goal.loop-n-preserved
loop-n-preserved c =
    let x = c.index-switches-n.result in
    let n = c.loop-n.n in
    let front = c.args.names.now in
    let item = λ (text : List ℕ). let y : Named = record { name = text; who = Switch n } in y in
    c.in_ok-push.ensures.pushed
    ∙ (ap (λ text. c.loop-n.names ++ item text ∷ []) c.in_ok-copy.ensures
    ∙ (ap (λ names. names ++ item x.name ∷ []) c.loop-n.invariant
    ∙ (append_assoc front (map named_switch (take n (enumerate_from 0 c.args.switches.now))) (item x.name ∷ [])
    ∙ ap (λ names. front ++ names)
    (sym (numbered_mapped named_switch c.args.switches.now n x c.loop-n-test.true c.index-switches-n.is)))))

pub returns : goal.returns
returns c =
    c.loop-n.invariant
    ∙ ap (λ xs. c.args.names.now ++ map named_switch xs)
    (numbered_all c.args.switches.now c.loop-n.n (omega (arith, c.loop-n-test.false)))
