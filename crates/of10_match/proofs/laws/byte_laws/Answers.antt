use Rattle.of10_match.proofs.ByteOrder.{by_bytes_total, by_bytes-equal}
use Rattle.of10_match.proofs.FieldBytes.{fields_in-bytes_of}
use Rattle.of10_match.proofs.ReadingBack.{match_bytes-injective, normal_of-match_bytes}
use Rattle.of10_match.proofs.laws.byte_laws.Goals as goal

pub returns-clause-fields : goal.returns-clause-fields
returns-clause-fields c = fields_in-bytes_of

pub returns-clause-reads_back : goal.returns-clause-reads_back
returns-clause-reads_back c = normal_of-match_bytes

pub returns-clause-injective : goal.returns-clause-injective
returns-clause-injective c = match_bytes-injective

pub returns-clause-total_order : goal.returns-clause-total_order
returns-clause-total_order c = by_bytes_total

pub returns-clause-equal : goal.returns-clause-equal
returns-clause-equal c = by_bytes-equal
