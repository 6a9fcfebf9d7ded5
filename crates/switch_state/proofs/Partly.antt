-- Some of the messages were sent.
use Rattle.std.proofs.Common.{◌≡◌, ℕ, false, List, [], ◌∷◌, ◌++◌, Result, Ok, Err, map, length, refl, ap, sym}
use Rattle.std.proofs.Common.{◌∙◌, append_assoc}
use Rattle.std.specs.Prelude.{◌==◌, OnErr}
use Rattle.std.proofs.lemmas.List.Sums.{fold-append}
use Rattle.std.proofs.lemmas.List.{map-append}
use Rattle.install_plan.specs.declared.written.Written.{Written}
use Rattle.of10_msgs.specs.declared.message.Body.{Body}
use Rattle.of10_msgs.specs.declared.message.Body.TheVariants.{BarrierRequest}
use Rattle.switch_state.specs.Known.{KnownOf}
use Rattle.switch_state.specs.Messages.{phase}
use Rattle.switch_state.specs.Sending.{IsPartlySent, Sending, send, send_all, sending_of}

-- messages and then others are sent
pub both_sent : (first second : List Body) (old mid new : Sending) → mid ≡ send_all first old
    → new ≡ send_all second mid → new ≡ send_all (first ++ second) old
both_sent first second old mid new e f = f ∙ (ap (send_all second) e ∙ sym (fold-append send old first second))

-- one more is sent
pub one_sent : (first : List Body) (body : Body) (old mid new : Sending) → mid ≡ send_all first old
    → new ≡ send mid body → new ≡ send_all (first ++ body ∷ []) old
one_sent first body old mid new e f = both_sent first (body ∷ []) old mid new e f

-- of the first some were sent, so of both some were
pub first_partly : (first second : List Body) (old new : Sending) → IsPartlySent first old new
    → IsPartlySent (first ++ second) old new
first_partly first second old new p = record {
  sent = p.sent;
  left = p.left ++ second;
  all = ap (λ (bodies : List Body). bodies ++ second) p.all ∙ append_assoc p.sent p.left second;
  so_far = p.so_far;
}

-- all of the first were sent, and some of the second
pub second_partly : (first second : List Body) (old mid new : Sending) → mid ≡ send_all first old
    → IsPartlySent second mid new → IsPartlySent (first ++ second) old new
second_partly first second old mid new e p = record {
  sent = first ++ p.sent;
  left = p.left;
  all = ap (λ (bodies : List Body). first ++ bodies) p.all ∙ sym (append_assoc first p.sent p.left);
  so_far = both_sent first p.sent old mid new e p.so_far;
}

-- all of the first were sent, and none of the second
pub cut_between : (first second : List Body) (old new : Sending) → new ≡ send_all first old
    → IsPartlySent (first ++ second) old new
cut_between first second old new e = record { sent = first; left = second; all = refl; so_far = e }

-- ---- what calls answered

pub on_err : {A E : Type 0} (r : Result A E) (P : Type 0) → P → OnErr r P
on_err (Ok x) P p = tt
on_err (Err e) P p = p

-- a call that changes nothing where it fails
pub stopped : {A E : Type 0} (r : Result A E) (first second : List Body) (old : Sending) (known known' : KnownOf)
    (messages messages' : List (List ℕ)) →
    sending_of known messages ≡ send_all first old → OnErr r ((known' ≡ known) × (messages' ≡ messages))
    → OnErr r (IsPartlySent (first ++ second) old (sending_of known' messages'))
stopped (Ok x) first second old known known' messages messages' so_far same = tt
stopped (Err e) first second old known known' messages messages' so_far same =
    cut_between first second old (sending_of known' messages') ((λ i. sending_of (same.0 i) (same.1 i)) ∙ so_far)

-- a call that sends some where it fails
pub then_partly : {A E : Type 0} (r : Result A E) (first second : List Body) (old mid new : Sending)
    → mid ≡ send_all first old → OnErr r (IsPartlySent second mid new)
    → OnErr r (IsPartlySent (first ++ second) old new)
then_partly (Ok x) first second old mid new so_far partly = tt
then_partly (Err e) first second old mid new so_far partly = second_partly first second old mid new so_far partly

-- ---- phases

module _ (f : Written → Body) where
  -- one more is sent
  pub mapped_sent : (ws : List Written) (w : Written) (body : Body) (old mid new : Sending)
      → mid ≡ send_all (map f ws) old → body ≡ f w → new ≡ send mid body → new ≡ send_all (map f (ws ++ w ∷ [])) old
  mapped_sent ws w body old mid new so_far is sent =
      one_sent (map f ws) (f w) old mid new so_far (sent ∙ ap (send mid) is)
      ∙ ap (λ bodies. send_all bodies old) (sym (map-append f ws (w ∷ [])))

  -- some of a phase were sent
  pub in_phase : (ws : List Written) (old new : Sending) → (length ws == 0) ≡ false
      → IsPartlySent (map f ws) old new → IsPartlySent (phase (map f ws)) old new
  in_phase [] old new some partly = absurd (cc)
  in_phase (w ∷ ws) old new some partly = first_partly (map f (w ∷ ws)) (BarrierRequest ∷ []) old new partly
