use Rattle.std.proofs.Common.{◌++◌}
use Rattle.std.specs.Prelude.{codes}
use Rattle.status_page.specs.Page.{heads}
use Rattle.status_page.proofs.Chains.{join}
use Rattle.status_page.proofs.html.say_heads.Goals as goal

pub returns : goal.returns
unfolding heads
returns c =
    (join c.args.text.now ((codes "<table>\n<tr><th>Endpoint</th><th>Address</th><th>State</th><th>Peer</th><th>For</th>")) (codes "<th>Connections</th><th>Rounds left</th><th>Bytes read</th><th>Bytes written</th></tr>\n")
    c.in_ok-say.ensures
    c.in_ok-say-2.ensures)
