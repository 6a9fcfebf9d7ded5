use Rattle.of10_stats.proofs.Found.{request_is_spelled}
use Rattle.of10_stats.proofs.Spelled.{request_is_read, written_request}
use Rattle.of10_stats.proofs.laws.requests.Goals as goal

pub returns-clause-only_spellings : goal.returns-clause-only_spellings
returns-clause-only_spellings c = request_is_spelled

pub returns-clause-all_spellings : goal.returns-clause-all_spellings
returns-clause-all_spellings c = request_is_read

pub returns-clause-round_trip : goal.returns-clause-round_trip
returns-clause-round_trip c xid r good = written_request r good
