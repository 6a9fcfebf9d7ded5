use Rattle.std.proofs.Common.{◌∙◌, ◌++◌, [], Bool, List, Option, map, refl, subst, sym, ap}
use Rattle.agreement.specs.Entries.{entries_of}
use Rattle.install_plan.specs.declared.written.Batch.{Batch}
use Rattle.install_plan.specs.declared.written.Written.{Written}
use Rattle.stats_map.specs.Told.{told}
use Rattle.switch_meaning.specs.Keys.{installed}
use Rattle.switch_state.specs.Messages.{switch_messages}
use Rattle.switch_state.specs.Sending.{send_all}
use Rattle.told_batches.specs.declared.change.Change.{Change}
use Rattle.event_composes.proofs.OneSwitch.{composed_down, composed_still, composed_up}
use Rattle.machine_meaning.specs.Batches.{counts_after, next_after}
use Rattle.machine_meaning.specs.Drafts.{letter}
use Rattle.event_composes.specs.Sources.{IsChangeFor}
use Rattle.machine_drafts.specs.SwitchDrafts.{with_written}
use Rattle.event_composes.proofs.composing.compose_at.Goals as goal

pub returns-then-not-is_up-clause-composed : goal.returns-then-not-is_up-clause-composed
returns-then-not-is_up-clause-composed c t given d h =
    composed_down t d c.args.n c.args.begun.now c.args.switch.now (told c.args.counts.now.now)
    c.args.next_cookie.now c.args.batches.now h (sym c.is_up.ensures ∙ c.if-not-is_up.true)

pub returns-in_default-clause-composed : goal.returns-in_default-clause-composed
returns-in_default-clause-composed c t given d h =
    let x = c.args.switch.now in
    let wanted = installed (entries_of t c.args.n) in
    let none = subst
    (λ (o : Option Change). IsChangeFor c.begins-begins.result o c.args.next_cookie.now x.standing wanted)
    c.in_default.is (c.in_ok-change.ensures t given) in
    composed_still t d c.args.n c.args.begun.now x (told c.args.counts.now.now) c.args.next_cookie.now
    c.args.batches.now h (sym c.is_up.ensures ∙ c.if-not-is_up.false) (sym c.begins-begins.ensures ∙ none.0) none.1

pub returns-clause-composed : goal.returns-clause-composed
returns-clause-composed c t given d h =
    let n = c.args.n in
    let x = c.args.switch.now in
    let next = c.args.next_cookie.now in
    let wanted = installed (entries_of t n) in
    let change = c.in-Some.change in
    let b = change.batch in
    let standing = change.standing in
    let is = subst (λ (o : Option Change). IsChangeFor c.begins-begins.result o next x.standing wanted) c.in-Some.is
    (c.in_ok-change.ensures t given) in
    composed_up t d n c.args.begun.now x c.write.new.switch (told c.args.counts.now.now)
    (told c.count_all.new.counts.now) next change.next
    c.args.batches.now c.write.new.batches wanted b standing h (sym c.is_up.ensures ∙ c.if-not-is_up.false)
    refl is.batch is.standing
    (c.in_ok-count_all.ensures.counted ∙ ap (λ (ws : List Written). counts_after n ws (told c.args.counts.now.now))
    c.as_slice.ensures)
    (is.next_is ∙ sym (ap (λ (z : Batch). next_after next z.adds) is.batch))
    (c.in_ok-write.ensures.switch ∙ ap (λ (e : Bool). with_written
    (send_all (switch_messages e b) (record { known = x.now.known; messages = [] })).known standing x)
    c.begins-begins.ensures)
    (c.in_ok-write.ensures.batches ∙ ap (λ (e : Bool). c.args.batches.now ++ map (letter n)
    (send_all (switch_messages e b) (record { known = x.now.known; messages = [] })).messages)
    c.begins-begins.ensures)
