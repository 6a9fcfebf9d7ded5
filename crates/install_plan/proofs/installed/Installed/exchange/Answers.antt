use Rattle.std.proofs.Common.{◌≡◌, List, [], ◌∷◌, subst, ◌∙◌, arith, ◌+◌, ◌<◌, length, get_or, count_by, take}
use Rattle.switch_meaning.specs.declared.entry.PhysEntry.{PhysEntry}
use Rattle.install_plan.proofs.Counting.{count-more, still-apart, still-there}
use Rattle.install_plan.proofs.installed.Installed.exchange.Goals as goal

pub loop-entry-preserved : goal.loop-entry-preserved
loop-entry-preserved c = (
  λ there test.
      let i = c.loop-entry.entry-index in
      let g = c.entry-item.result in
      let gone = c.args.gone.now in
      let same = c.as_slice-entry-items.ensures in
      let lt : i < length gone = subst (λ (xs : List PhysEntry). i < length xs) same c.loop-entry-test.true in
      let is : g ≡ get_or gone i g = subst (λ (xs : List PhysEntry). g ≡ get_or xs i g) same c.entry-item.is in
      let so_far = c.loop-entry.invariant.0 there in
      let stands = still-there gone c.args.self.now.now.entries c.loop-entry.self.now.entries i g there so_far lt is in
      let taken : count_by test c.loop-entry.self.now.entries
      ≡ count_by test c.take_out.new.self.now.entries + count_by test (g ∷ []) =
      c.in_ok-take_out.ensures.taken stands test in
      let before : count_by test (take i gone) + count_by test c.loop-entry.self.now.entries
      ≡ count_by test c.args.self.now.now.entries = so_far test in
      let more = count-more test gone i g lt is in
      omega (arith, taken, before, more),
  c.in_ok-take_out.ensures.before ∙ c.loop-entry.invariant.1,
)

pub loop-entry-2-preserved : goal.loop-entry-2-preserved
loop-entry-2-preserved c = (
  λ there apart test.
      let i = c.loop-entry-2.entry-index in
      let e = c.entry-item-in-loop-entry-2.result in
      let come = c.args.come.now in
      let same = c.as_slice-entry-items-2.ensures in
      let lt : i < length come = subst (λ (xs : List PhysEntry). i < length xs) same c.loop-entry-2-test.true in
      let is : e ≡ get_or come i e = subst (λ (xs : List PhysEntry). e ≡ get_or xs i e) same
      c.entry-item-in-loop-entry-2.is in
      let so_far = c.loop-entry-2.invariant.0 there apart in
      let own = still-apart c.args.gone.now come c.args.self.now.now.entries c.loop-entry-2.self.now.entries i e apart
      so_far lt is in
      let added : count_by test c.put_in.new.self.now.entries
      ≡ count_by test c.loop-entry-2.self.now.entries + count_by test (e ∷ []) =
      c.in_ok-put_in.ensures.added own test in
      let before : count_by test c.args.self.now.now.entries + count_by test (take i come)
      ≡ count_by test c.args.gone.now + count_by test c.loop-entry-2.self.now.entries = so_far test in
      let more = count-more test come i e lt is in
      omega (arith, added, before, more),
  c.in_ok-put_in.ensures.before ∙ c.loop-entry-2.invariant.1,
)
