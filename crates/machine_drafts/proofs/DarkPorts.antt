-- What is sent to a switch, and its answers and removals, leave its ports as dark as they were.
use Rattle.std.proofs.Common.{◌≡◌, ℕ, Bool, true, false, List, [], ◌∷◌, Result, Ok, Err, refl, ap, ◌∙◌}
use Rattle.std.specs.Prelude.{◌==◌, OnErr, OnOk, if◌then◌else◌}
use Rattle.std.specs.BTreeSet.{insert_key}
use Rattle.std.specs.Ordering.{nat_cmp}
use Rattle.of10_msgs.specs.declared.message.Body.{Body}
use Rattle.of10_msgs.specs.declared.message.Body.TheVariants as bodies
use Rattle.switch_state.specs.Known.{KnownOf}
use Rattle.switch_state.specs.Reports.{after_removal, flow_removed, removal}
use Rattle.switch_state.specs.Sending.{IsPartlySent, Sending, known_after, next_xid, send, send_all, sending_of}
use Rattle.switch_state.specs.declared.removal.Removal.{Removal}
use Rattle.switch_state.specs.declared.removal.Removal.TheVariants.{Ignored, Taken, Strange}
use Rattle.machine_drafts.specs.SwitchDrafts.{IsAsDark}

-- a message is noted
noted : (body : Body) (xid : ℕ) (x : KnownOf) → IsAsDark x (known_after body xid x)
noted bodies.BarrierRequest xid x = refl
noted (bodies.FlowMod f) xid x = by (f.command == 4)
  where
    by : (deletes : Bool)
        → IsAsDark x (if deletes then record x { xid = xid; deleted = insert_key nat_cmp x.deleted f.cookie }
        else record x { xid = xid })
    by true = refl
    by false = refl
noted body xid x = refl

all_sent : (sent : List Body) (s : Sending) → IsAsDark s.known (send_all sent s).known
all_sent [] s = refl
all_sent (body ∷ sent) s = all_sent sent (send s body) ∙ noted body (next_xid s.known.xid) s.known

-- a removal is taken
removed : (cookie : ℕ) (x : KnownOf) → IsAsDark x (flow_removed cookie x)
removed cookie x = by (removal x cookie)
  where
    by : (r : Removal) → IsAsDark x (after_removal r cookie x)
    by Ignored = refl
    by Taken = refl
    by Strange = refl

-- ---- what calls leave, whether they fail or not

pub after_write : {A E : Type 0} (r : Result A E) (wanted : List Body) (old new : Sending)
    → OnOk r (new ≡ send_all wanted old) → OnErr r (IsPartlySent wanted old new) → IsAsDark old.known new.known
after_write (Ok x) wanted old new all part = ap (λ (s : Sending). s.known.dark) all ∙ all_sent wanted old
after_write (Err e) wanted old new all part = ap (λ (s : Sending). s.known.dark) part.so_far ∙ all_sent part.sent old

pub after_send : {A E : Type 0} (r : Result A E) (body : Body) (x y : KnownOf) (messages messages' : List (List ℕ))
    → OnOk r (sending_of y messages' ≡ send (sending_of x messages) body)
    → OnErr r ((y ≡ x) × (messages' ≡ messages)) → IsAsDark x y
after_send (Ok a) body x y messages messages' sent same =
    ap (λ (s : Sending). s.known.dark) sent ∙ noted body (next_xid x.xid) x
after_send (Err e) body x y messages messages' sent same = ap (λ (k : KnownOf). k.dark) same.0

pub after_report : {A E : Type 0} (r : Result A E) (x y told : KnownOf) → IsAsDark x told
    → OnOk r (y ≡ told) → OnErr r (y ≡ x) → IsAsDark x y
after_report (Ok a) x y told dark is same = ap (λ (k : KnownOf). k.dark) is ∙ dark
after_report (Err e) x y told dark is same = ap (λ (k : KnownOf). k.dark) same

pub after_removed : {A E : Type 0} (r : Result A E) (cookie : ℕ) (x y : KnownOf)
    → OnOk r (y ≡ flow_removed cookie x) → OnErr r (y ≡ x) → IsAsDark x y
after_removed r cookie x y = after_report r x y (flow_removed cookie x) (removed cookie x)
