use Rattle.std.proofs.Common.{◌≡◌, ◌++◌, subst}
use Rattle.std.specs.Prelude.{codes, flat_map}
use Rattle.status_page.specs.Escaping.{label_of}
use Rattle.status_page.specs.Measures.{name_of, value_of}
use Rattle.status_page.specs.Metrics.{sample_of, value_line}
use Rattle.status_page.proofs.Chains.{join}
use Rattle.status_page.proofs.prometheus.say_sample.Goals as goal

pub returns : goal.returns
unfolding sample_of
returns c =
    (join c.args.text.now ((name_of c.args.measure) ++ (codes "{endpoint=\"") ++ (flat_map label_of c.args.endpoint.now.name) ++ (codes "\",address=\"") ++ (flat_map label_of c.args.endpoint.now.address) ++ (codes "\"}")) (value_line (value_of c.args.measure c.args.endpoint.now))
    (join c.args.text.now ((name_of c.args.measure) ++ (codes "{endpoint=\"") ++ (flat_map label_of c.args.endpoint.now.name) ++ (codes "\",address=\"") ++ (flat_map label_of c.args.endpoint.now.address)) (codes "\"}")
    (join c.args.text.now ((name_of c.args.measure) ++ (codes "{endpoint=\"") ++ (flat_map label_of c.args.endpoint.now.name) ++ (codes "\",address=\"")) (flat_map label_of c.args.endpoint.now.address)
    (join c.args.text.now ((name_of c.args.measure) ++ (codes "{endpoint=\"") ++ (flat_map label_of c.args.endpoint.now.name)) (codes "\",address=\"")
    (join c.args.text.now ((name_of c.args.measure) ++ (codes "{endpoint=\"")) (flat_map label_of c.args.endpoint.now.name)
    (join c.args.text.now ((name_of c.args.measure)) (codes "{endpoint=\"")
    (subst (λ z. c.say.new.line ≡ c.args.text.now ++ z) c.name.ensures.text c.in_ok-say.ensures)
    c.in_ok-say-2.ensures)
    c.in_ok-say_label.ensures)
    c.in_ok-say-3.ensures)
    c.in_ok-say_label-2.ensures)
    c.in_ok-say-4.ensures)
    (subst (λ z. c.say_value.new.text ≡ c.say-4.new.line ++ value_line z) c.value.ensures c.in_ok-say_value.ensures))
