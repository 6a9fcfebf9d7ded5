use Rattle.std.proofs.Common.{◌≡◌, List, sym, subst}
use Rattle.std.specs.Prelude.{flat_map}
use Rattle.std.proofs.lemmas.Result.{IfOk-weaker}
use Rattle.match_index.specs.declared.item.Item.{Item}
use Rattle.exact_gate.specs.Finding.{Reaches, keys_found}
use Rattle.exact_gate.proofs.Finding.{reaches}
use Rattle.exact_gate.proofs.finder.Finder.reached.Goals as goal

pub returns : goal.returns
returns c =
    let k = c.args.key.now in
    let exact = c.self.inside.exact.items in
    let found = flat_map (keys_found exact k.priority) c.in_ok-ids.ids in
    let all = reaches k c.self.inside.all.items exact c.in_ok-ids.ids c.self.invariant c.len.ensures.once
    c.in_ok-ids.ensures.ids in
    IfOk-weaker c.keys_of.result (λ keys. keys ≡ found) (Reaches k c.args.self.now)
    (λ keys e. subst (Reaches k c.args.self.now) (sym e)
    (subst (λ (xs : List Item). Reaches k xs found) c.self.view_is all)) c.keys_of.ensures
