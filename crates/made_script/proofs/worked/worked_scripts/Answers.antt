use Rattle.made_script.specs.Worked.{count_is_spelled, route_is_spelled}
use Rattle.made_script.proofs.worked.worked_scripts.Goals as goal

pub returns-clause-count : goal.returns-clause-count
returns-clause-count c = count_is_spelled

pub returns-clause-route : goal.returns-clause-route
returns-clause-route c = route_is_spelled
