use Rattle.machine_answers.proofs.Steps.{heard_messages}
use Rattle.machine_answers.proofs.messages_are_heard.Goals as goal

pub returns : goal.returns
returns c = heard_messages
