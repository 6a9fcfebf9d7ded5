use Rattle.std.proofs.Common.{◌≡◌, ◌∙◌, arith, subst, sym}
use Rattle.std.specs.Prelude.{IsPermutation, filter_map}
use Rattle.hop_rules.specs.Handed.{AreUnlisted, GivenOf, listed}
use Rattle.hop_rules.proofs.given.Given.list.Goals as goal

pub list_all-requires-clause-room : goal.list_all-requires-clause-room
list_all-requires-clause-room c = let r = c.in_ok-reserve.ensures.room in omega arith

pub list_all-requires-clause-unlisted : goal.list_all-requires-clause-unlisted
list_all-requires-clause-unlisted c =
    let here : GivenOf = record {
      exits = c.self.inside.exits;
      rules = c.self.inside.store;
      items = c.self.inside.index.items;
    } in
    let now : GivenOf = record {
      exits = c.as_slice.result.now;
      rules = c.self.inside.store;
      items = c.reserve.new.self.items;
    } in
    let same : here ≡ now = λ i. record {
      exits = sym c.as_slice.ensures i;
      rules = c.self.inside.store;
      items = sym c.reserve.ensures.items i;
    } in
    subst (λ (g : GivenOf). AreUnlisted g c.args.ids.now) (sym c.self.view_is ∙ same) c.requires

pub returns-clause-listed : goal.returns-clause-listed
returns-clause-listed c =
    subst (λ exits. IsPermutation c.list_all.new.index.items (filter_map (listed exits) c.self.inside.store))
    c.as_slice.ensures c.list_all.ensures
