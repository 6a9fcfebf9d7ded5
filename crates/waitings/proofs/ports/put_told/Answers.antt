use Rattle.std.proofs.Common.{rules, ◌≡◌, ◌∷◌, ◌++◌, Bool, List, [], ap, ◌∙◌}
use Rattle.std.specs.Prelude.{◌==◌, filter, not}
use Rattle.std.proofs.lemmas.Fn.{filter_same}
use Rattle.of10_stats.specs.declared.reply.PortStat.{PortStat}
use Rattle.waitings.proofs.ports.put_told.Goals as goal

pub returns : goal.returns
returns c =
    let stays : PortStat → Bool = λ t. not (t.port_no == c.args.stat.port_no) in
    let others : c.retain.new.self.items ≡ filter stays c.args.told.now.items =
    filter_same _ stays _ (λ x b f' k. search rules) _ _ c.retain.ensures.filtered in
    c.in_ok-push.ensures.items ∙ ap (λ (ts : List PortStat). ts ++ c.args.stat ∷ []) others
