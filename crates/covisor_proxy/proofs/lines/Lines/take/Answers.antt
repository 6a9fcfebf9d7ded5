use Rattle.covisor_proxy.proofs.Reading.{goes-whole}
use Rattle.covisor_proxy.proofs.lines.Lines.take.Goals as goal

pub returns-in_ok-extend_from_slice-in-Some : goal.returns-in_ok-extend_from_slice-in-Some
returns-in_ok-extend_from_slice-in-Some c =
    let at = c.in-Some.ensures in
    let longer = c.in_ok-extend_from_slice-in-Some.ensures in
    goes-whole c.self.inside.chunk.items c.as_slice.result.now c.self.inside.line c.extend_from_slice.new.self
    c.self.inside.start c.self.inside.end c.in-Some.place c.args.self.now c.self.view_is c.as_slice.ensures.value
    at.0 at.1 longer.extended
