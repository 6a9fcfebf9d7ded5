use Rattle.std.proofs.lemmas.Result.{err_from_is_err_and}
use Rattle.toml.specs.View.{table_view}
use Rattle.policy_file.proofs.Checked.{read_whole}
use Rattle.policy_file.proofs.Together.{sound}
use Rattle.policy_file.proofs.reading.read.Goals as goal

pub returns-in_err-check_whole : goal.returns-in_err-check_whole
returns-in_err-check_whole c =
    let p = err_from_is_err_and c.from_residual-in_err-check_whole.result
    c.from_residual-in_err-check_whole.ensures.1 in
    rw (p.1, p.2) (read_whole c.args.bytes.now (table_view c.in_ok-file.file) c.in_ok-draft.draft _
    c.if-bytes-gt-LONGEST.false c.in_ok-file.ensures.read c.in_ok-check_all_listed.ensures
    c.in_ok-check_all_needed.ensures c.in_ok-draft.ensures c.in_err-check_whole.ensures)

pub policy-requires : goal.policy-requires
policy-requires c = sound (table_view c.in_ok-file.file) c.in_ok-draft.draft c.in_ok-draft.ensures
    c.in_ok-check_whole.ensures
