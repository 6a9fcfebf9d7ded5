use Rattle.std.proofs.Common.{◌≡◌, ◌++◌, ap, subst, ◌∙◌}
use Rattle.std.specs.Prelude.{codes, flat_map}
use Rattle.status_page.specs.Metrics.{families_of, head_of, metrics_of, refused_of, single_of}
use Rattle.status_page.proofs.Chains.{join}
use Rattle.status_page.proofs.prometheus.metrics.Goals as goal

pub returns : goal.returns
returns c =
    (join c.new-text.result ((single_of (codes "covisor_start_time_seconds") (codes "When the proxy began to serve, in seconds since the start of 1970.") c.args.status.now.began) ++ (families_of c.args.status.now.endpoints) ++ (single_of (codes "covisor_strangers") (codes "Connections that have not said yet which switch they are.") c.args.status.now.strangers) ++ (head_of (codes "covisor_refused_total") (codes "Connections of strangers that were refused, by cause.") (codes "counter"))) (flat_map refused_of c.args.status.now.refused)
    (join c.new-text.result ((single_of (codes "covisor_start_time_seconds") (codes "When the proxy began to serve, in seconds since the start of 1970.") c.args.status.now.began) ++ (families_of c.args.status.now.endpoints) ++ (single_of (codes "covisor_strangers") (codes "Connections that have not said yet which switch they are.") c.args.status.now.strangers)) (head_of (codes "covisor_refused_total") (codes "Connections of strangers that were refused, by cause.") (codes "counter"))
    (join c.new-text.result ((single_of (codes "covisor_start_time_seconds") (codes "When the proxy began to serve, in seconds since the start of 1970.") c.args.status.now.began) ++ (families_of c.args.status.now.endpoints)) (single_of (codes "covisor_strangers") (codes "Connections that have not said yet which switch they are.") c.args.status.now.strangers)
    (join c.new-text.result ((single_of (codes "covisor_start_time_seconds") (codes "When the proxy began to serve, in seconds since the start of 1970.") c.args.status.now.began)) (families_of c.args.status.now.endpoints)
    c.in_ok-say_single.ensures
    (subst (λ z. c.say_families.new.text ≡ c.say_single.new.text ++ families_of z) c.as_slice.ensures c.in_ok-say_families.ensures))
    c.in_ok-say_single-2.ensures)
    c.in_ok-say_head.ensures)
    (subst (λ z. c.say_all_refused.new.text ≡ c.say_head.new.text ++ flat_map refused_of z) c.as_slice-2.ensures c.in_ok-say_all_refused.ensures))
    ∙ ap (λ z. z ++ metrics_of c.args.status.now) c.new-text.ensures
