use Rattle.std.proofs.Common.{◌∙◌, ap, length, map}
use Rattle.hop_rules.specs.Building.{given_size}
use Rattle.hop_rules.specs.declared.building.Rising.{Rising}
use Rattle.hop_rules.proofs.Risings.{none-risen}
use Rattle.hop_rules.proofs.building.no_levels.Goals as goal

pub returns : goal.returns
returns c f es sizes b =
    let ones = c.in_ok-sizes.sizes.items in
    let r : Rising = record { levels = c.new.result; peers = c.from_vec.result } in (
      none-risen f es c.args.given.now sizes b ones c.in_ok-sizes.ensures r c.new.ensures
          (c.from_vec.ensures ∙ c.in_ok-peers_sizes.ensures
          ∙ ap (λ (xs : _). map (given_size xs) c.args.given.now) c.deref.ensures.value),
      ap length c.new.ensures,
    )
