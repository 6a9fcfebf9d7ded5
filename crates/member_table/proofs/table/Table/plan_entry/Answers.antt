use Rattle.std.proofs.Common.{◌≡◌, ◌∙◌, sym, ap, subst, None, find, option_map}
use Rattle.of10_match.specs.Normal.{IsNormal}
use Rattle.member_table.specs.Changes.{CanCommit}
use Rattle.member_table.specs.Entries.{is_at}
use Rattle.member_table.specs.Planning.{adding}
use Rattle.member_table.specs.Refusals.{refusal_of}
use Rattle.member_table.specs.Tables.{entry_of}
use Rattle.member_table.specs.declared.change.Change.{Change}
use Rattle.member_table.specs.declared.entry.Identity.{Identity}
use Rattle.member_table.proofs.Plans.{ready_added, ready_is}
use Rattle.member_table.proofs.table.Table.plan_entry.Goals as goal

pub returns-clause-change : goal.returns-clause-change
returns-clause-change c =
    let old = c.args.self.now.table in
    let m = c.args.m.now in
    let replaced = c.in_ok-replaced.ensures.replaced
    ∙ ap (λ k. option_map (λ e. e.serial) (find (is_at k) old.entries)) c.requires.identity in
    c.in_ok-addition.ensures
    ∙ (ap (λ t. adding (entry_of t.next m c.args.now) c.in_ok-replaced.replaced) c.reserve.ensures.table
    ∙ ap (adding (entry_of old.next m c.args.now)) replaced)

pub returns-clause-ready : goal.returns-clause-ready
returns-clause-ready c =
    let old = c.args.self.now in
    let m = c.args.m.now in
    let change = c.in_ok-addition.ensures
    ∙ ap (λ t. adding (entry_of t.next m c.args.now) c.in_ok-replaced.replaced) c.reserve.ensures.table in
    let R : Identity → Type 0 = λ k. refusal_of k old.table ≡ None in
    let N : Identity → Type 0 = λ k. IsNormal k.normal in
    let C : Change → Type 0 = CanCommit c.reserve.new.self in
    subst C (sym change)
    (ready_added c.reserve.new.self _ _
    (ready_is old c.reserve.new.self m c.args.now c.in_ok-replaced.replaced c.reserve.ensures.table
    (subst R c.requires.identity c.in_ok-replaced.ensures.admitted) c.in_ok-reserve.ensures.room
    c.in_ok-reserve.ensures.more (subst N c.requires.identity c.requires.normal) c.requires.in_range))
