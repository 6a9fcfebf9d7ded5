use Rattle.of10_msgs.proofs.Found.{read_is_spelled}
use Rattle.of10_msgs.proofs.Spelled.{spelled_is_read, written_is_read}
use Rattle.of10_msgs.proofs.laws.grammar.Goals as goal

pub returns-clause-only_spellings : goal.returns-clause-only_spellings
returns-clause-only_spellings c = read_is_spelled

pub returns-clause-all_spellings : goal.returns-clause-all_spellings
returns-clause-all_spellings c = spelled_is_read

pub returns-clause-round_trip : goal.returns-clause-round_trip
returns-clause-round_trip c = written_is_read
