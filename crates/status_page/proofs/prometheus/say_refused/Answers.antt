use Rattle.std.proofs.Common.{◌++◌}
use Rattle.std.specs.Prelude.{codes, flat_map}
use Rattle.status_page.specs.Escaping.{label_of}
use Rattle.status_page.specs.Metrics.{refused_of, value_line}
use Rattle.status_page.proofs.Chains.{join}
use Rattle.status_page.proofs.prometheus.say_refused.Goals as goal

pub returns : goal.returns
unfolding refused_of
returns c =
    (join c.args.text.now ((codes "covisor_refused_total{cause=\"") ++ (flat_map label_of c.args.refused.now.cause) ++ (codes "\"}")) (value_line c.args.refused.now.times)
    (join c.args.text.now ((codes "covisor_refused_total{cause=\"") ++ (flat_map label_of c.args.refused.now.cause)) (codes "\"}")
    (join c.args.text.now ((codes "covisor_refused_total{cause=\"")) (flat_map label_of c.args.refused.now.cause)
    c.in_ok-say.ensures
    c.in_ok-say_label.ensures)
    c.in_ok-say-2.ensures)
    c.in_ok-say_value.ensures)
