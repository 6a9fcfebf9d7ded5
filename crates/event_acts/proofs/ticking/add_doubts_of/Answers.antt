use Rattle.std.proofs.Common.{◌∙◌, ℕ, List, ◌++◌, ap, map}
use Rattle.std.specs.Prelude.{filter, not}
use Rattle.event_acts.proofs.Doubting.{doubts_there}
use Rattle.machine_drafts.specs.Outcomes.{state_in}
use Rattle.machine_meaning.specs.Ticking.{doubt_on}
use Rattle.waitings.specs.Waitings.{is_in_doubt}
use Rattle.event_acts.proofs.ticking.add_doubts_of.Goals as goal

pub returns : goal.returns
returns c =
    let s = state_in c.args.draft.now in
    let n = c.args.n in
    doubts_there s n c.args.member.now.now c.in_ok-idle.idle c.args.doubts.now c.add_doubts.new.doubts
    c.in_ok-idle.ensures
    (c.in_ok-add_doubts.ensures
    ∙ ap (λ (ks : List ℕ). c.args.doubts.now
    ++ map (doubt_on s n) (filter (λ (k : ℕ). not (is_in_doubt s.waiting n k)) ks)) c.as_slice.ensures)
