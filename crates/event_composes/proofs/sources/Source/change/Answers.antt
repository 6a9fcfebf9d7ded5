use Rattle.std.proofs.Common.{List, subst}
use Rattle.agreement.specs.Entries.{entries_of}
use Rattle.agreement.specs.declared.state.Setting.{Setting}
use Rattle.install_plan.specs.declared.written.Written.{Written}
use Rattle.switch_meaning.specs.Keys.{installed}
use Rattle.event_composes.specs.Sources.{Gives, IsChangeTo}
use Rattle.event_composes.specs.declared.sources.Source.{Source}
use Rattle.event_composes.proofs.sources.Source.change.Goals as goal

-- the setting that was read is the one that gives
pub returns-in_ok-change_anew-in-Anew : goal.returns-in_ok-change_anew-in-Anew
returns-in_ok-change_anew-in-Anew c t gives =
    let n = c.args.n in
    let k = c.in_ok-change_anew-in-Anew.field-0 in
    let same = subst (λ (s : Source). Gives t n s c.args.switch.now) c.in-Anew.is gives in
    subst (λ (ws : List Written). IsChangeTo k c.args.next ws (installed (entries_of t n))) c.standing-standing.ensures
    (subst (λ (s : Setting). IsChangeTo k c.args.next c.standing-standing.result.now (installed (entries_of s n)))
    same c.in_ok-change_anew-in-Anew.ensures)
