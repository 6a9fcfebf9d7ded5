use Rattle.member_state.proofs.Within.{count_within, message_within, removal_within, time_within}
use Rattle.member_state.proofs.laws.grants_are_kept.Goals as goal

pub returns : goal.returns
returns c = λ g v x a. record {
  message = λ m now e. message_within g v x m now e a;
  time = λ now. time_within g v x now a;
  removal = λ serial. removal_within g v x serial a;
  count = λ serial now. count_within g v x serial now a;
}
