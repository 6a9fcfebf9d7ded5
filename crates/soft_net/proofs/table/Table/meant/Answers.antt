use Rattle.std.proofs.Common.{◌≡◌, ◌∙◌, ap, subst, filter}
use Rattle.std.specs.Ordering.{nat_cmp}
use Rattle.std.specs.Prelude.{IsPermutation, IsSorted}
use Rattle.match_index.specs.Items.{ids_of}
use Rattle.match_index.specs.Questions.{is_covered}
use Rattle.soft_net.specs.InsideTables.{AreRising, entries_in}
use Rattle.soft_net.specs.Tables.{TableOf, is_meant, serials_of}
use Rattle.soft_net.specs.declared.selection.Selection.TheVariants.{Covered}
use Rattle.soft_net.proofs.Finding.{covered_are}
use Rattle.soft_net.proofs.Outcomes.{if_ok_both}
use Rattle.soft_net.proofs.table.Table.meant.Goals as goal

pub returns-in-Covered-clause-serials : goal.returns-in-Covered-clause-serials
returns-in-Covered-clause-serials c =
    let es = entries_in c.self.inside.entries.entries in
    let items = c.self.inside.index.items in
    rw c.in-Covered.is
    (if_ok_both (λ found. IsPermutation (ids_of (is_covered c.in-Covered.m) items) found) (IsSorted nat_cmp)
    (λ found. found ≡ serials_of (filter (is_meant (Covered c.in-Covered.m)) c.args.self.now.entries)) c.covered.result
    (λ found p s. covered_are c.in-Covered.m items es found c.self.invariant.listing.rising
    c.self.invariant.listing.ranked p s
    ∙ ap (λ (o : TableOf). serials_of (filter (is_meant (Covered c.in-Covered.m)) o.entries)) c.self.view_is)
    c.covered.ensures.ids c.covered.ensures.rising)

pub returns-in-Covered-clause-rising : goal.returns-in-Covered-clause-rising
returns-in-Covered-clause-rising c =
    let R : TableOf → Type 0 = λ o. AreRising o.entries in subst R c.self.view_is c.self.invariant.listing.rising

pub returns-in-Strict-clause-rising : goal.returns-in-Strict-clause-rising
returns-in-Strict-clause-rising c =
    let R : TableOf → Type 0 = λ o. AreRising o.entries in subst R c.self.view_is c.self.invariant.listing.rising
