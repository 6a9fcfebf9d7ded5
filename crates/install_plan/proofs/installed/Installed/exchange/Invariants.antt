use Rattle.std.proofs.Common.{◌≡◌, ◌+◌, Bool, take, count_by}
use Rattle.switch_meaning.specs.declared.entry.PhysEntry.{PhysEntry}
use Rattle.install_plan.specs.Tables.{AreApart, AreThere}
use Rattle.install_plan.proofs.installed.Installed.exchange.Given as goal

abbrev pub invariant-loop-entry : goal.invariant-loop-entry
invariant-loop-entry l =
    (AreThere l.gone l.fn.self.now → (test : PhysEntry → Bool)
    → count_by test (take l.entry-index l.gone) + count_by test l.self.now.entries
    ≡ count_by test l.fn.self.now.entries)
    × (l.self.before ≡ l.fn.self.before)

abbrev pub invariant-loop-entry-2 : goal.invariant-loop-entry-2
invariant-loop-entry-2 l =
    (AreThere l.gone l.fn.self.now → AreApart l.gone l.come l.fn.self.now → (test : PhysEntry → Bool)
    → count_by test l.fn.self.now.entries + count_by test (take l.entry-index l.come)
    ≡ count_by test l.gone + count_by test l.self.now.entries)
    × (l.self.before ≡ l.fn.self.before)
