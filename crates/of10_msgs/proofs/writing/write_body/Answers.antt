use Rattle.std.proofs.Common.{append_assoc}
use Rattle.of10_msgs.specs.Spelling.{body_bytes}
use Rattle.of10_msgs.proofs.writing.write_body.Goals as goal

pub returns-in_ok-write_ports-in-FeaturesReply-clause-written :
    goal.returns-in_ok-write_ports-in-FeaturesReply-clause-written
unfolding body_bytes
returns-in_ok-write_ports-in-FeaturesReply-clause-written c =
    rw (
      c.in-FeaturesReply.is,
      c.in_ok-write_ports-in-FeaturesReply.ensures.written,
      c.in_ok-extend_from_slice-in-FeaturesReply-2.ensures.extended,
      c.in_ok-extend_from_slice-in-FeaturesReply.ensures.extended,
      c.features_head.ensures,
      c.two_u32.ensures,
    )
    (simp append_assoc)

pub returns-in_ok-extend_from_slice-in-FlowRemoved-4-clause-written :
    goal.returns-in_ok-extend_from_slice-in-FlowRemoved-4-clause-written
unfolding body_bytes
returns-in_ok-extend_from_slice-in-FlowRemoved-4-clause-written c =
    rw (
      c.in-FlowRemoved.is,
      c.in_ok-extend_from_slice-in-FlowRemoved-4.ensures.extended,
      c.in_ok-extend_from_slice-in-FlowRemoved-3.ensures.extended,
      c.in_ok-extend_from_slice-in-FlowRemoved-2.ensures.extended,
      c.in_ok-extend_from_slice-in-FlowRemoved.ensures.extended,
      c.removed_entry.ensures,
      c.removed_times.ensures,
      c.two_u64.ensures,
    ) (simp append_assoc)
