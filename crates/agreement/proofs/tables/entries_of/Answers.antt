use Rattle.std.proofs.Common.{◌≡◌, List, subst, sym}
use Rattle.std.proofs.lemmas.Result.{IfOk-weaker}
use Rattle.std.specs.List.{AllByRecursion}
use Rattle.switch_meaning.specs.declared.entry.PhysEntry.{PhysEntry}
use Rattle.agreement.specs.Entries as spec
use Rattle.agreement.specs.Lengths.{AddFits}
use Rattle.agreement.proofs.Lengths.{adds-fit}
use Rattle.agreement.proofs.tables.entries_of.Goals as goal

pub returns-clause-short : goal.returns-clause-short
returns-clause-short c good limits =
    let s = c.args.setting.now in
    let all : AllByRecursion AddFits (spec.entries_of s c.args.switch) = (adds-fit s good limits c.args.switch).0 in
    IfOk-weaker c.all_entries.result (λ (es : List PhysEntry). es ≡ spec.entries_of s c.args.switch)
    (λ (es : List PhysEntry). AllByRecursion AddFits es)
    (λ es same. subst (λ (z : List PhysEntry). AllByRecursion AddFits z) (sym same) all)
    c.all_entries.ensures
