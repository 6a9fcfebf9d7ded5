-- Each line that is put to the audit in a history is taken in it, or waits after it.
use Rattle.std.proofs.Common.{◌≡◌, ◌∙◌, [], ◌∷◌, ◌++◌, append_assoc, append-nil, ap, sym}
use Rattle.events.specs.declared.event.Event.{Event}
use Rattle.events.specs.declared.event.Reply.{Reply}
use Rattle.event_composes.proofs.Meanings.{next_is_step}
use Rattle.event_composes.specs.Meanings.{StateData, next_data, reply_to, state_in}
use Rattle.machine_meaning.specs.States.{State}
use Rattle.machine_answers.specs.AuditLines.{line_in, lines_put}
use Rattle.machine_answers.proofs.AuditTakings.{stepped}
use Rattle.policy_lock.specs.History.{after}
use Rattle.policy_lock.specs.declared.machine.Machine.{Ghosts}
use Rattle.policy_serving.specs.Histories.{AuditIsKept, lines_made, lines_taken}

-- one event
once : (d : StateData) (e : Event)
    → d.audit ++ lines_put d.plan (state_in d) e ≡ line_in e (reply_to d e) ++ (next_data d e).audit
once d e =
    stepped d.plan (state_in d) e
    ∙ ap (λ (r : Reply × State). line_in e r.0 ++ r.1.audit) (sym (next_is_step d e).1)

pub kept : {M : Type 0} (g : Ghosts M Event Reply StateData) → g.next ≡ next_data → g.reply ≡ reply_to → AuditIsKept g
kept g next reply d [] legal = append-nil d.audit
kept g next reply d (x ∷ xs) legal =
    let t = g.next d x.event in
    let put = lines_put d.plan (state_in d) x.event in
    let line = line_in x.event x.reply in
    let is : d.audit ++ put ≡ line ++ t.audit =
    once d x.event
    ∙ (ap (λ (f : StateData → Event → StateData). line_in x.event (reply_to d x.event) ++ (f d x.event).audit)
    (sym next)
    ∙ ap (λ (r : Reply). line_in x.event r ++ t.audit)
    (ap (λ (f : StateData → Event → Reply). f d x.event) (sym reply) ∙ sym legal.1)) in
    sym (append_assoc d.audit put (lines_made g t xs))
    ∙ (ap (λ l. l ++ lines_made g t xs) is
    ∙ (append_assoc line t.audit (lines_made g t xs)
    ∙ (ap (λ l. line ++ l) (kept g next reply t xs legal.2)
    ∙ sym (append_assoc line (lines_taken xs) (after g t xs).audit))))
