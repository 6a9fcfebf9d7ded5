use Rattle.std.proofs.Common.{◌≡◌, ◌-◌, ◌∙◌, ◌++◌, ◌∷◌, [], suc, ap, length, sym, subst, le_trans, arith}
use Rattle.outside.specs.Outside.{RoseBy}
use Rattle.std.specs.Vec.Iter.{into_iter_items}
use Rattle.serving.specs.Lines.{AreLinesOf}
use Rattle.serving.proofs.Works.{nothing-long}
use Rattle.serving.proofs.Lines.{left-more, left-none}
use Rattle.serving.proofs.Lines.{line-same, lines-count, lines-less, lines-more, rose-by-more, rose-by-still}
use Rattle.serving.proofs.dialling.dial_all.Goals as goal

pub loop-place-preserved : goal.loop-place-preserved
loop-place-preserved g c =
    let i = c.loop-place.invariant in
    let d = c.dial_one.ensures in
    record {
      undialled = i.undialled;
      lines =
          subst (AreLinesOf (g.L.Links.told c.args.links.now) (g.L.Links.is_reliable c.args.links.now)
          g.L.Dial.Dial.left
          g.L.Dial.Dial.is_reliable i.undialled (c.loop-place.yielded ++ c.in-Some.place ∷ []))
          (sym c.in_ok-push.ensures.pushed)
          (lines-more (g.L.Links.told c.args.links.now) (g.L.Links.is_reliable c.args.links.now) g.L.Dial.Dial.left
          g.L.Dial.Dial.is_reliable
          i.undialled c.loop-place.yielded c.loop-place.lines c.in-Some.place c.in-Some-dial_one.line i.lines
          (line-same (g.L.Links.told c.args.links.now) (g.L.Links.told c.loop-place.links)
          (g.L.Links.is_reliable c.args.links.now)
          (g.L.Links.is_reliable c.loop-place.links) g.L.Dial.Dial.left g.L.Dial.Dial.is_reliable c.in-Some.place
          c.in-Some-dial_one.line
          (i.told c.in-Some.place.end) (i.reliable c.in-Some.place.end) c.in-Some-dial_one.ensures.line));
      count =
          let was = i.count in let gone = c.in-Some.ensures.steps.1 in
          let short = ap length c.in-Some.ensures.steps.0 in omega arith;
      left = left-more c.loop-place.yielded c.in-Some.place (into_iter_items c.next.new.self)
          (into_iter_items c.loop-place.place-iterator) c.args.places c.in-Some.ensures.steps.0 i.left;
      told = λ end. d.told end ∙ i.told end;
      reliable = λ end. d.reliable end ∙ i.reliable end;
      fault = rose-by-still i.undialled _ _ _ i.fault i.never_falls d.never_falls;
      never_falls = le_trans i.never_falls d.never_falls;
    }

pub loop-place-preserved-in_default : goal.loop-place-preserved-in_default
loop-place-preserved-in_default g c =
    let i = c.loop-place.invariant in
    let d = c.dial_one.ensures in
    record {
      undialled = suc i.undialled;
      lines = lines-less (g.L.Links.told c.args.links.now) (g.L.Links.is_reliable c.args.links.now) g.L.Dial.Dial.left
          g.L.Dial.Dial.is_reliable
          i.undialled c.loop-place.yielded c.loop-place.lines c.in-Some.place i.lines;
      count =
          let was = i.count in let gone = c.in-Some.ensures.steps.1 in
          let short = ap length c.in-Some.ensures.steps.0 in omega arith;
      left = left-more c.loop-place.yielded c.in-Some.place (into_iter_items c.next.new.self)
          (into_iter_items c.loop-place.place-iterator) c.args.places c.in-Some.ensures.steps.0 i.left;
      told = λ end. d.told end ∙ i.told end;
      reliable = λ end. d.reliable end ∙ i.reliable end;
      fault = rose-by-more i.undialled _ _ _ i.fault i.never_falls c.in_default.ensures.line;
      never_falls = le_trans i.never_falls d.never_falls;
    }

pub overflow_sub-undialled : goal.overflow_sub-undialled
overflow_sub-undialled g c =
    let i = c.loop-place.invariant in
    let none : into_iter_items c.loop-place.place-iterator ≡ [] =
    nothing-long _ (sym i.count ∙ c.in-None.ensures.steps.0) in
    let same : c.loop-place.yielded ≡ c.args.places =
    left-none c.loop-place.yielded (into_iter_items c.loop-place.place-iterator) c.args.places none
    i.left in
    let all = subst (λ x. AreLinesOf (g.L.Links.told c.args.links.now) (g.L.Links.is_reliable c.args.links.now) g.L.Dial.Dial.left
    g.L.Dial.Dial.is_reliable i.undialled x c.loop-place.lines) same i.lines in
    let n = lines-count (g.L.Links.told c.args.links.now) (g.L.Links.is_reliable c.args.links.now) g.L.Dial.Dial.left
    g.L.Dial.Dial.is_reliable i.undialled c.args.places c.loop-place.lines all in
    let count = c.len-count.ensures in let len = c.len.ensures in
    omega (arith, n, count, len)

pub returns-clause-lines : goal.returns-clause-lines
returns-clause-lines g c =
    let i = c.loop-place.invariant in
    let none : into_iter_items c.loop-place.place-iterator ≡ [] =
    nothing-long _ (sym i.count ∙ c.in-None.ensures.steps.0) in
    let same : c.loop-place.yielded ≡ c.args.places =
    left-none c.loop-place.yielded (into_iter_items c.loop-place.place-iterator) c.args.places none
    i.left in
    let all = subst (λ x. AreLinesOf (g.L.Links.told c.args.links.now) (g.L.Links.is_reliable c.args.links.now) g.L.Dial.Dial.left
    g.L.Dial.Dial.is_reliable i.undialled x c.loop-place.lines) same i.lines in
    let n = lines-count (g.L.Links.told c.args.links.now) (g.L.Links.is_reliable c.args.links.now) g.L.Dial.Dial.left
    g.L.Dial.Dial.is_reliable i.undialled c.args.places c.loop-place.lines all in
    let count = c.len-count.ensures in let len = c.len.ensures in
    let k : i.undialled ≡ c.len-count.result - c.len.result = omega (arith, n, count, len) in
    subst (λ x. AreLinesOf (g.L.Links.told c.args.links.now) (g.L.Links.is_reliable c.args.links.now) g.L.Dial.Dial.left
    g.L.Dial.Dial.is_reliable x c.args.places c.loop-place.lines) k all

pub returns-clause-fault : goal.returns-clause-fault
returns-clause-fault g c =
    let i = c.loop-place.invariant in
    let none : into_iter_items c.loop-place.place-iterator ≡ [] =
    nothing-long _ (sym i.count ∙ c.in-None.ensures.steps.0) in
    let same : c.loop-place.yielded ≡ c.args.places =
    left-none c.loop-place.yielded (into_iter_items c.loop-place.place-iterator) c.args.places none
    i.left in
    let all = subst (λ x. AreLinesOf (g.L.Links.told c.args.links.now) (g.L.Links.is_reliable c.args.links.now) g.L.Dial.Dial.left
    g.L.Dial.Dial.is_reliable i.undialled x c.loop-place.lines) same i.lines in
    let n = lines-count (g.L.Links.told c.args.links.now) (g.L.Links.is_reliable c.args.links.now) g.L.Dial.Dial.left
    g.L.Dial.Dial.is_reliable i.undialled c.args.places c.loop-place.lines all in
    let count = c.len-count.ensures in let len = c.len.ensures in
    let k : i.undialled ≡ c.len-count.result - c.len.result = omega (arith, n, count, len) in
    subst (λ x. RoseBy x (g.L.Links.faults c.args.links.now) (g.L.Links.faults c.loop-place.links)) k i.fault
