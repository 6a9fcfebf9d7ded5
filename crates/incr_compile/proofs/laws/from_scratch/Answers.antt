use Rattle.incr_compile.proofs.Bridge.{made-chains, made-shifts, made-sums, rules-made}
use Rattle.incr_compile.proofs.laws.from_scratch.Goals as goal

pub returns-clause-rules : goal.returns-clause-rules
returns-clause-rules c = rules-made

pub returns-clause-sums : goal.returns-clause-sums
returns-clause-sums c = made-sums

pub returns-clause-chains : goal.returns-clause-chains
returns-clause-chains c = made-chains

pub returns-clause-shifts : goal.returns-clause-shifts
returns-clause-shifts c = made-shifts
