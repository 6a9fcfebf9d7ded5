use Rattle.machine_drafts.specs.Serials.{HasSerial}
use Rattle.machine_drafts.specs.Views.{member_of}
use Rattle.machine_drafts.specs.declared.session.Member.{Member}
use Rattle.switch_tables.proofs.Sets.{all-more}
use Rattle.event_composes.proofs.keeping.have_serials.Goals as goal

pub loop-member-preserved : goal.loop-member-preserved
loop-member-preserved c =
    all-more (λ (m : Member). HasSerial (member_of m)) c.as_slice-member-items.result.now c.loop-member.member-index
    c.member-item.result c.loop-member-test.true c.member-item.is c.has_serial.ensures c.loop-member.invariant
