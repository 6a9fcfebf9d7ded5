use Rattle.std.proofs.Common.{◌≡◌, ◌≤◌, ◌++◌, ℕ, length}
use Rattle.std.specs.Vec.Iter.{into_iter_items, into_iter_len}
use Rattle.outside.specs.Outside.{RoseBy}
use Rattle.outside.specs.declared.links.Endpoint.{Endpoint}
use Rattle.serving.specs.Lines.{AreLinesOf}
use Rattle.serving.proofs.dialling.dial_all.Given as goal

abbrev pub invariant-loop-place : goal.invariant-loop-place
invariant-loop-place g l = record {
  undialled : ℕ;
  lines : AreLinesOf (g.L.Links.told l.fn.links) (g.L.Links.is_reliable l.fn.links) g.L.Dial.Dial.left
      g.L.Dial.Dial.is_reliable
      undialled l.yielded l.lines;
  told : (end : Endpoint) → g.L.Links.told l.links end ≡ g.L.Links.told l.fn.links end;
  reliable : (end : Endpoint) → g.L.Links.is_reliable l.links end ≡ g.L.Links.is_reliable l.fn.links end;
  fault : RoseBy undialled (g.L.Links.faults l.fn.links) (g.L.Links.faults l.links);
  count : into_iter_len l.place-iterator ≡ length (into_iter_items l.place-iterator);
  left : l.yielded ++ into_iter_items l.place-iterator ≡ l.fn.places;
  never_falls : g.L.Links.faults l.fn.links ≤ g.L.Links.faults l.links;
}
