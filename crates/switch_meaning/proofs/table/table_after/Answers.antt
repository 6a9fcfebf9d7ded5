use Rattle.std.proofs.Common.{rules, ◌≡◌, ◌++◌, List, ap, ◌∙◌}
use Rattle.std.specs.Prelude.{filter, not}
use Rattle.std.proofs.lemmas.Fn.{filter_same}
use Rattle.switch_meaning.specs.Tables.{takes_out, put_in}
use Rattle.switch_meaning.specs.declared.entry.FlowEntry.{FlowEntry}
use Rattle.switch_meaning.proofs.table.table_after.Goals as goal

pub returns : goal.returns
returns c =
    let kept : c.retain.new.self.items ≡ filter (λ e. not (takes_out c.args.change e)) c.into_vec-entries.result.items =
    filter_same _ (λ e. not (takes_out c.args.change e)) _ (λ x b f' k. search rules) _ _ c.retain.ensures.filtered in
    c.from_vec.ensures
    ∙ (c.in_ok-put_in.ensures ∙ ap (λ (xs : List FlowEntry). xs ++ put_in c.args.change)
    (kept ∙ ap (filter (λ e. not (takes_out c.args.change e))) c.into_vec-entries.ensures))
