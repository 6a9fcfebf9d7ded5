use Rattle.std.proofs.Common.{◌+◌, ℕ, List, length, ap, sym, subst, ◌∙◌, arith}
use Rattle.std.proofs.lemmas.List.{length_push}
use Rattle.std.proofs.lemmas.Option.{slice_get_within}
use Rattle.agreement.specs.Entries.{entries_of}
use Rattle.switch_tables.specs.Tables.{HasNow, SwitchTableOf}
use Rattle.composed_tables.proofs.Pushing.{each-pushed}
use Rattle.composed_tables.proofs.composed.tables_of.Goals as goal

pub loop-n-init : goal.loop-n-init
loop-n-init c =
    let none = ap (λ (z : List SwitchTableOf). length z) c.new-tables.ensures in
    record {
      count = none;
      now = λ n x is. absurd (let lt = slice_get_within c.new-tables.result n x is in omega arith);
    }

pub loop-n-preserved : goal.loop-n-preserved
loop-n-preserved c =
    let s = c.args.setting.now in
    let i = c.loop-n.invariant in
    let table = c.in_ok-table.table in
    let pushed = c.in_ok-push.ensures.pushed in
    record {
      count = ap (λ (z : List SwitchTableOf). length z) pushed
          ∙ (length_push c.loop-n.tables table ∙ ap (λ (k : ℕ). k + 1) i.count);
      now = each-pushed (λ (k : ℕ) (x : SwitchTableOf). HasNow (entries_of s k) x) c.loop-n.tables c.push.new.self table
          pushed i.now
          (subst (λ (k : ℕ). HasNow (entries_of s k) table) (sym i.count) c.in_ok-table.ensures);
    }
