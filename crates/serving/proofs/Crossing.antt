-- The desk and the works may go to other threads, and threads may share the desk.
use denote.RattleType.{RattleType}
use denote.Ref.{NamedLft}
use denote.Param.Send.{IsSend, IsSync, sendable}
use Rattle.std.proofs.Crossing.{crosses}
use Rattle.events.specs.declared.event.Event.{Event}
use Rattle.events.specs.declared.event.Reply.{Reply}
use Rattle.events.proofs.event.Event.TheSendSync as event
use Rattle.policy_lock.specs.declared.machine.Machine.{Ghosts}
use Rattle.policy_lock.proofs.lock.PolicyLock.TheSendSync as lock
use Rattle.policy_lock.proofs.lock.Seat.TheSendSync as seat
use Rattle.lock_desk.proofs.bells.Bells.TheSendSync as bells
use Rattle.lock_desk.specs.contracts.desk.LockDesk as LockDesk

module _ (κ : NamedLft) (R H M S : RattleType) (g : Ghosts M.Denot Event Reply S.Denot) where
  pub desk-sync : IsSync R → IsSend M → IsSync (LockDesk.the_row κ R H M S g)
  desk-sync r m = search (lock.the_sync, bells.the_sync, event.the_send, crosses, sendable) depth 40

  pub desk-send : IsSync R → IsSend M → IsSend (LockDesk.the_row κ R H M S g)
  desk-send r m = search (lock.the_sync, bells.the_sync, event.the_send, crosses, sendable) depth 40
