use Rattle.std.proofs.Common.{◌==◌, length, rules, tests}
use Rattle.std.proofs.lemmas.Iterator.{YieldsList-from_slice}
use Rattle.std.proofs.lemmas.Iterator.Search.{position_from_yields_List}
use Rattle.covisor_proxy.proofs.Reading.{feed_found}
use Rattle.covisor_proxy.proofs.lines.feed_in.Goals as goal

pub returns : goal.returns
returns c =
    feed_found c.args.bytes.now c.position.result
    (position_from_yields_List (λ byte. byte == 10) _ _ c.position.result c.position.ensures.ran
    (YieldsList-from_slice c.args.bytes.now cc) (λ x b q k. search (rules, tests)))
