use Rattle.std.proofs.Common.{◌∙◌, ◌&&◌, sym, ap, IfOk, Result, Ok, Err, [], ◌∷◌, if◌then◌else◌}
use Rattle.member_table.specs.Entries.{is_at}
use Rattle.member_table.specs.Tables.{outputs_to}
use Rattle.member_table.specs.Timeouts.{serials_of}
use Rattle.member_table.proofs.Means.{once_identity, serials_once, passing}
use Rattle.member_table.proofs.table.Table.meant_strictly.Goals as goal

-- a fact that follows from another
more_of : {X E : Type 0} (r : Result X E) (P Q : X → Type 0) → ((x : X) → P x → Q x) → IfOk r P → IfOk r Q
more_of (Ok x) P Q f h = f x h
more_of (Err e) P Q f h = h

pub returns-in-Some : goal.returns-in-Some
returns-in-Some c =
    let es = c.self.inside.order.entries in
    let k = c.args.asked.now in
    let q = outputs_to c.args.port in
    let found = c.in-Some.ensures in
    let all = serials_once (is_at k) q es (once_identity k es c.self.invariant.sound.apart)
    ∙ ap (passing q) (sym found) in
    more_of c.alone.result _ _ (λ v h. h
    ∙ (ap (λ b. if b then c.in-Some.entry.now.serial ∷ [] else []) c.outputs_to.ensures
    ∙ (sym all ∙ ap (λ o. serials_of (λ e. is_at k e && q e) o.table.entries) c.self.view_is))) c.alone.ensures

pub returns-in-None : goal.returns-in-None
returns-in-None c =
    let es = c.self.inside.order.entries in
    let k = c.args.asked.now in
    let q = outputs_to c.args.port in
    let all = serials_once (is_at k) q es (once_identity k es c.self.invariant.sound.apart)
    ∙ ap (passing q) (sym c.in-None.ensures) in
    c.new.ensures.items ∙ (sym all ∙ ap (λ o. serials_of (λ e. is_at k e && q e) o.table.entries) c.self.view_is)
