use Rattle.member_replies.proofs.Rising.{rising_visible, same_visible}
use Rattle.member_replies.proofs.laws.visible_ports_rise.Goals as goal

pub returns-clause-same : goal.returns-clause-same
returns-clause-same c = same_visible

pub returns-clause-rising : goal.returns-clause-rising
returns-clause-rising c = rising_visible
