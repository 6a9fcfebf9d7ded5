use Rattle.std.proofs.Common.{◌∙◌, ◌++◌, ap}
use Rattle.event_ends.proofs.Addressing.{put_five, put_unsaid}
use Rattle.event_ends.specs.Boxes.{put_letters}
use Rattle.event_ends.proofs.boxes.to_members.Goals as goal

pub returns : goal.returns
returns c =
    let s = c.args.said in
    c.from_vec.ensures
    ∙ (c.in_ok-say_all-5.ensures
    ∙ (ap (put_letters s.told) (c.in_ok-say_all-4.ensures
    ∙ ap (put_letters s.removed) (c.in_ok-say_all-3.ensures
    ∙ ap (put_letters s.settled) (c.in_ok-say_all-2.ensures
    ∙ ap (put_letters s.ports) (c.in_ok-say_all.ensures ∙ ap (put_letters s.answers) c.in_ok-all.ensures))))
    ∙ (put_five s.answers s.ports s.settled s.removed s.told _
    ∙ put_unsaid (s.answers ++ (s.ports ++ (s.settled ++ (s.removed ++ s.told)))) _)))
