use Rattle.std.proofs.Common.{rules, ◌≡◌, ◌<◌, ◌^◌, sym, subst, ◌∙◌}
use Rattle.std.specs.BTreeMap.{is_at}
use Rattle.std.specs.Map.{set_value}
use Rattle.stats_map.specs.Counting.{place_cmp}
use Rattle.stats_map.specs.declared.sum.Tally.{Tally}
use Rattle.stats_map.proofs.Acts.{move-allowed, move-sums}
use Rattle.stats_map.proofs.cookies.renumber_at.Goals as goal

pub change_each-requires : goal.change_each-requires
change_each-requires c =
    let new : Tally = record { packets = c.args.packets; bytes = c.args.bytes } in
    move-allowed c.args.place.now c.args.live.now.entries c.args.sums.now.entries c.in-Some.row.now c.numbers-old.result
    c.as_slice.result.now (sym c.in-Some.ensures.value)
    c.numbers-old.ensures.packets c.numbers-old.ensures.bytes (c.as_slice.ensures ∙ c.ancestry.ensures) c.requires
    new (subst (λ k. k < 2 ^ 63) c.len.ensures.len c.len.ensures.small) c.ranges.packets.fits c.ranges.bytes.fits

pub returns-clause-sums : goal.returns-clause-sums
returns-clause-sums c =
    let new : Tally = record { packets = c.args.packets; bytes = c.args.bytes } in
    let w : (c.get_mut.follows.lender c.renumber.new.self).entries
    ≡ set_value (is_at (place_cmp c.args.place.now)) c.args.live.now.entries c.renumber.new.self = search rules in
    move-sums c.args.place.now c.args.live.now.entries c.args.sums.now.entries c.in-Some.row.now c.numbers-old.result
    c.as_slice.result.now (sym c.in-Some.ensures.value)
    c.numbers-old.ensures.packets c.numbers-old.ensures.bytes (c.as_slice.ensures ∙ c.ancestry.ensures) c.requires
    new (c.get_mut.follows.lender c.renumber.new.self).entries c.change_each.new.sums.entries c.ranges.packets.fits
    c.ranges.bytes.fits c.renumber.new.self c.renumber.ensures w c.change_each.ensures
