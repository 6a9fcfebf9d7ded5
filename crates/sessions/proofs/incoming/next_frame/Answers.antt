use Rattle.std.proofs.Common.{◌≡◌, ◌++◌, ◌∙◌, ap, take, arith}
use Rattle.std.specs.Prelude.{Ok}
use Rattle.std.proofs.lemmas.Result.{err_from_is_err_and}
use Rattle.sessions.proofs.Nexts.{keeps-next, reads-next, stops-read}
use Rattle.sessions.proofs.incoming.next_frame.Goals as goal

pub returns-in_err-read-clause-stop : goal.returns-in_err-read-clause-stop
returns-in_err-read-clause-stop g c =
    let i = c.loop.invariant in
    let k = c.in_ok-frame.ensures.none (ap Ok c.in_default.is) in
    let p = err_from_is_err_and c.from_residual-in_err-read.result c.from_residual-in_err-read.ensures.1 in
    rw (p.1, p.2, k.1) (stops-read (g.S.Source.remaining c.args.source.now) (g.S.Source.remaining c.loop.source)
    c.args.framer.now c.loop.framer i.read i.next i.kept (g.S.Source.remaining c.read_more.new.source)
    (g.S.Source.faults c.args.source.now) (g.S.Source.faults c.loop.source) (g.S.Source.faults c.read_more.new.source)
    (g.S.Source.is_reliable c.args.source.now) (g.S.Source.is_reliable c.loop.source)
    c.in_err-read.field-0.0 k.0 i.faults i.reliable c.in_err-read.ensures.stop)

pub loop-preserved : goal.loop-preserved
loop-preserved g c =
    let i = c.loop.invariant in
    let k = c.in_ok-frame.ensures.none (ap Ok c.in_default.is) in
    let piece = take c.in_ok-read.read c.read_more.new.place in
    let fed : c.feed.new.self ≡ c.kept_frame.new.framer ++ piece = grind (arith, c.in_ok-feed.ensures.fed) in
    record {
      read = i.read ++ piece;
      next = reads-next (g.S.Source.remaining c.args.source.now) (g.S.Source.remaining c.loop.source) c.args.framer.now
          c.loop.framer i.read i.next i.kept (g.S.Source.remaining c.read_more.new.source) c.in_ok-read.read
          c.read_more.new.place c.in_ok-read.ensures.bytes;
      kept = keeps-next (g.S.Source.remaining c.args.source.now) (g.S.Source.remaining c.loop.source) c.args.framer.now
          c.loop.framer i.read i.next i.kept c.feed.new.self piece (fed ∙ ap (λ z. z ++ piece) k.1);
      faults = c.in_ok-read.ensures.quiet ∙ i.faults;
      reliable = c.read_more.ensures.reliable ∙ i.reliable;
    }

pub returns-in_err-feed-clause-stop : goal.returns-in_err-feed-clause-stop
returns-in_err-feed-clause-stop g c =
    let i = c.loop.invariant in
    let p = err_from_is_err_and c.from_residual-in_err-feed.result c.from_residual-in_err-feed.ensures.1 in
    rw (p.1, p.2) (
      i.read ++ take c.in_ok-read.read c.read_more.new.place,
      reads-next (g.S.Source.remaining c.args.source.now) (g.S.Source.remaining c.loop.source) c.args.framer.now
          c.loop.framer i.read i.next i.kept (g.S.Source.remaining c.read_more.new.source) c.in_ok-read.read
          c.read_more.new.place c.in_ok-read.ensures.bytes,
    )
