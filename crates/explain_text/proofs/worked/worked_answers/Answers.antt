use Rattle.explain_text.specs.Worked.{packet_over_links, switched_packet, telling}
use Rattle.explain_text.proofs.worked.worked_answers.Goals as goal

pub returns : goal.returns
returns c = record { switched = switched_packet; told = telling; linked = packet_over_links }
