use Rattle.of10_stats.proofs.Found.{reply_is_spelled}
use Rattle.of10_stats.proofs.Spelled.{reply_is_read}
use Rattle.of10_stats.proofs.Sent.{written_replies}
use Rattle.of10_stats.proofs.Writable.{reply_writable}
use Rattle.of10_stats.proofs.laws.replies.Goals as goal

pub returns-clause-only_spellings : goal.returns-clause-only_spellings
returns-clause-only_spellings c = reply_is_spelled

pub returns-clause-all_spellings : goal.returns-clause-all_spellings
returns-clause-all_spellings c = reply_is_read

pub returns-clause-round_trip : goal.returns-clause-round_trip
returns-clause-round_trip c = written_replies

pub returns-clause-writable : goal.returns-clause-writable
returns-clause-writable c = reply_writable
