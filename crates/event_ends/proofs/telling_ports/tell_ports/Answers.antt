use Rattle.std.proofs.Common.{◌∙◌, List, ◌++◌, ap, ap₂}
use Rattle.std.specs.Prelude.{flat_map}
use Rattle.std.specs.List.{enumerate_from}
use Rattle.event_ends.proofs.PortsTold.{all_told, before_twice}
use Rattle.event_ends.specs.InsideTelling.{member_letters, switches_before}
use Rattle.machine_drafts.specs.MemberDrafts.{MemberDraftOf}
use Rattle.machine_drafts.specs.Outcomes.{draft_in, members_in, state_in, switches_in}
use Rattle.machine_drafts.specs.SwitchDrafts.{SwitchDraftOf}
use Rattle.machine_meaning.specs.declared.said.Letter.{Letter}
use Rattle.event_ends.proofs.telling_ports.tell_ports.Goals as goal

pub returns-clause-drafted : goal.returns-clause-drafted
returns-clause-drafted c =
    λ before stood.
    let o = c.args.draft.now in
    let p = c.args.setup.now in
    let d = draft_in o in
    ap (λ (ls : List Letter). record d { ports = ls })
    (c.in_ok-tell_turned.ensures
    ∙ (ap₂ (λ (ms : List MemberDraftOf) (xs : List SwitchDraftOf). o.ports
    ++ flat_map (member_letters p (members_in ms) (switches_before xs) (switches_in xs))
    (enumerate_from 0 p.members))
    c.as_slice.ensures c.as_slice-2.ensures
    ∙ ap (λ (ls : List Letter). o.ports ++ ls)
    (all_told p before (state_in o) (switches_before o.switches) (stood ∙ before_twice o.switches))))
