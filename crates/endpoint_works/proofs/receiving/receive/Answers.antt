use Rattle.std.proofs.Common.{◌∷◌, ◌++◌, [], inl, inr, refl, subst, sym, true, ◌∙◌}
use Rattle.outside.specs.Connections.{Gives}
use Rattle.endpoint_works.specs.Chains.{AreRounds}
use Rattle.endpoint_works.proofs.Chains.{rounds-more, rounds-wanted}
use Rattle.endpoint_works.proofs.receiving.receive.Goals.{in-Ok, in-Err-serve_round}
use Rattle.endpoint_works.proofs.receiving.receive.Goals as goal

pub loop-preserved : goal.loop-preserved
loop-preserved g c =
    let i = c.loop.invariant in
    let later = c.from_here-now.ensures.later c.serve_round.new.pass c.serve_round.ensures.pass in
    let given : Gives (g.A.Arrivals.left c.loop.arrivals) (g.A.Arrivals.left c.next-in-loop.new.self)
    (g.A.In.Source.remaining c.in-Ok-Some.source) (g.A.In.Source.is_reliable c.in-Ok-Some.source)
    (g.A.Out.Sink.held c.in-Ok-Some.sink) (g.A.Out.Sink.is_reliable c.in-Ok-Some.sink) =
    (rw c.in-Ok-Some.field-0-is at c.in-Ok-Some.ensures.given) in
    record {
      passes = i.passes ++ c.serve_round.new.pass ∷ [];
      rounds = elim c.match-serve_round.branch [
        | in-Ok w ↦ subst (λ z. AreRounds g.D.Desk.posts g.D.Desk.ended g.D.LaterDesk.later c.args.side.now z
            (g.A.Arrivals.left c.args.arrivals.now) (g.A.Arrivals.left c.next-in-loop.new.self) c.args.pass.now
            c.serve_round.new.pass (i.passes ++ c.serve_round.new.pass ∷ [])) (sym w.wanted-is)
            (rounds-more g.D.Desk.posts g.D.Desk.ended g.D.LaterDesk.later c.args.side.now c.loop.wanted
            (g.A.Arrivals.left c.args.arrivals.now) (g.A.Arrivals.left c.loop.arrivals)
            (g.A.Arrivals.left c.next-in-loop.new.self)
            c.args.pass.now c.loop.pass c.serve_round.new.pass i.passes i.rounds
            (record {
              bytes = g.A.In.Source.remaining c.in-Ok-Some.source;
              reads = g.A.In.Source.is_reliable c.in-Ok-Some.source;
              held = g.A.Out.Sink.held c.in-Ok-Some.sink;
              writes = g.A.Out.Sink.is_reliable c.in-Ok-Some.sink;
              gives = given;
              round = record {
                since = later;
                after = g.A.In.Source.remaining c.serve_round.new.source;
                faults = g.A.In.Source.faults c.in-Ok-Some.source;
                risen = g.A.In.Source.faults c.serve_round.new.source;
                posted = inl (w.in-Ok.field-0, w.in-Ok.ensures.posted);
              };
            }))
        | in-Err-serve_round w ↦ subst
            (λ z. AreRounds g.D.Desk.posts g.D.Desk.ended g.D.LaterDesk.later c.args.side.now z
            (g.A.Arrivals.left c.args.arrivals.now) (g.A.Arrivals.left c.next-in-loop.new.self) c.args.pass.now
            c.serve_round.new.pass (i.passes ++ c.serve_round.new.pass ∷ [])) (sym w.wanted-is)
            (rounds-more g.D.Desk.posts g.D.Desk.ended g.D.LaterDesk.later c.args.side.now true
            (g.A.Arrivals.left c.args.arrivals.now) (g.A.Arrivals.left c.loop.arrivals)
            (g.A.Arrivals.left c.next-in-loop.new.self)
            c.args.pass.now c.loop.pass c.serve_round.new.pass i.passes
            (rounds-wanted g.D.Desk.posts g.D.Desk.ended g.D.LaterDesk.later c.args.side.now c.loop.wanted _ _ _ _
            i.passes i.rounds)
            (record {
              bytes = g.A.In.Source.remaining c.in-Ok-Some.source;
              reads = g.A.In.Source.is_reliable c.in-Ok-Some.source;
              held = g.A.Out.Sink.held c.in-Ok-Some.sink;
              writes = g.A.Out.Sink.is_reliable c.in-Ok-Some.sink;
              gives = given;
              round = record {
                since = later;
                after = g.A.In.Source.remaining c.serve_round.new.source;
                faults = g.A.In.Source.faults c.in-Ok-Some.source;
                risen = g.A.In.Source.faults c.serve_round.new.source;
                posted = inr (refl, w.in-Err-serve_round.ensures.memory);
              };
            }))
      ];
      admits = c.from_here-now.ensures.desk c.serve_round.new.pass c.serve_round.ensures.pass;
      reliable = c.next-in-loop.ensures.reliable ∙ i.reliable;
    }
