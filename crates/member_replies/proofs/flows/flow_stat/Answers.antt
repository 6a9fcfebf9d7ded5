use Rattle.member_replies.proofs.Replies.{entry_writable}
use Rattle.member_replies.proofs.flows.flow_stat.Goals as goal

pub returns-clause-writable : goal.returns-clause-writable
returns-clause-writable c = entry_writable c.args.entry.now _ c.match_of.ensures.value c.match_of.ensures.size
    c.in_ok-write_list.ensures.written c.requires.short
