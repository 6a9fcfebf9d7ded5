use Rattle.std.proofs.Common.{◌∙◌, ◌++◌, ap}
use Rattle.event_ends.proofs.Addressing.{put_four, put_unsaid}
use Rattle.event_ends.specs.Boxes.{put_letters}
use Rattle.event_ends.proofs.boxes.to_switches.Goals as goal

pub returns : goal.returns
returns c =
    let s = c.args.said in
    c.from_vec.ensures
    ∙ (c.in_ok-say_all-4.ensures
    ∙ (ap (put_letters s.echoes) (c.in_ok-say_all-3.ensures
    ∙ ap (put_letters s.packets) (c.in_ok-say_all-2.ensures
    ∙ ap (put_letters s.polls) (c.in_ok-say_all.ensures ∙ ap (put_letters s.batches) c.in_ok-all.ensures)))
    ∙ (put_four s.batches s.polls s.packets s.echoes _
    ∙ put_unsaid (s.batches ++ (s.polls ++ (s.packets ++ s.echoes))) _)))
