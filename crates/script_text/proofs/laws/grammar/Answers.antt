use Rattle.script_text.proofs.Accepted.{line_says}
use Rattle.script_text.proofs.Spelled.{says_line}
use Rattle.script_text.proofs.laws.grammar.Goals as goal

pub returns-clause-only : goal.returns-clause-only
returns-clause-only c = line_says

pub returns-clause-all : goal.returns-clause-all
returns-clause-all c = says_line
