use Rattle.std.proofs.Common.{List, sym, ap, subst, ◌∙◌}
use Rattle.std.specs.Prelude.{is_ok}
use Rattle.std.specs.List.{list_any}
use Rattle.switch_meaning.specs.declared.entry.PhysEntry.{PhysEntry}
use Rattle.install_plan.specs.InsideSlots.{key_of}
use Rattle.install_plan.specs.Tables.{Adds, InstalledOf, TableOf, same_place}
use Rattle.install_plan.proofs.Taking.{all, on-ok, put-before, put-kept, put-now, put-only}
use Rattle.install_plan.proofs.installed.Installed.put_in.Goals as goal

pub invariant_of-self-2 : goal.invariant_of-self-2
invariant_of-self-2 c =
    let kept = c.save.ensures.kept (c.admit.ensures.kept c.self.inside.saved.entries c.self.invariant.0) in
    let key = c.of-key.ensures.value ∙ ap key_of (sym c.in_ok-copied.ensures) in
    let put = is_ok c.put_into.result in
    let k = c.of-key.result in
    let e = c.in_ok-copied.copied in
    let slots = c.admit.new.slots.entries in
    let only = put-only put k e slots c.put_into.new.slots.entries c.save.new.saved.entries key kept
    c.in_ok-admit.ensures.there c.put_into.ensures in
    let opened = c.admit.ensures.known c.self.invariant.1 in (
      put-kept put k e slots c.put_into.new.slots.entries c.save.new.saved.entries key kept c.in_ok-admit.ensures.there
          c.put_into.ensures,
      λ q t. opened q (only q t),
    )

pub invariant_of-self : goal.invariant_of-self
invariant_of-self c = (
  c.admit.ensures.kept c.self.inside.saved.entries c.self.invariant.0,
  c.admit.ensures.known c.self.invariant.1,
)

pub invariant_of-self-in_err-save : goal.invariant_of-self-in_err-save
invariant_of-self-in_err-save c = (
  c.save.ensures.kept (c.admit.ensures.kept c.self.inside.saved.entries c.self.invariant.0),
  c.admit.ensures.known c.self.invariant.1,
)

pub returns-clause-before : goal.returns-clause-before
returns-clause-before c =
    let opened = c.admit.ensures.kept c.self.inside.saved.entries c.self.invariant.0 in
    put-before (is_ok c.put_into.result) c.of-key.result c.in_ok-copied.copied c.admit.new.slots.entries
    c.put_into.new.slots.entries c.save.new.saved.entries
    (c.of-key.ensures.value ∙ ap key_of (sym c.in_ok-copied.ensures)) (c.save.ensures.kept opened)
    c.in_ok-admit.ensures.there c.put_into.ensures (c.in_ok-save.ensures.there c.in_ok-admit.ensures.there)
    ∙ (c.save.ensures.before opened
    ∙ (c.admit.ensures.before c.self.inside.saved.entries c.self.invariant.0
    ∙ ap (λ (z : InstalledOf). z.before) c.self.view_is))

pub returns-clause-added : goal.returns-clause-added
returns-clause-added c = λ apart.
    let kept = c.save.ensures.kept (c.admit.ensures.kept c.self.inside.saved.entries c.self.invariant.0) in
    let now = all c.put_into.new.slots.entries in
    let same = ap (λ (t : TableOf). t.entries) c.admit.ensures.now
    ∙ ap (λ (z : InstalledOf). z.now.entries) c.self.view_is in
    let own = (λ i. list_any (same_place (c.in_ok-copied.ensures i)) (same i)) ∙ apart in
    on-ok c.put_into.result
    (λ ok.
    let adds = put-now (is_ok c.put_into.result) c.of-key.result c.in_ok-copied.copied c.admit.new.slots.entries
    c.put_into.new.slots.entries c.save.new.saved.entries
    (c.of-key.ensures.value ∙ ap key_of (sym c.in_ok-copied.ensures)) kept c.in_ok-admit.ensures.there
    c.put_into.ensures ok own in
    subst (λ (es : List PhysEntry). Adds c.args.come.now es now) same
    (subst (λ (e : PhysEntry). Adds e (all c.admit.new.slots.entries) now) c.in_ok-copied.ensures adds))
