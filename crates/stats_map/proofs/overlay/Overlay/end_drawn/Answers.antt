use Rattle.std.proofs.Common.{rules, ◌≡◌, refl, sym, ap, ◌∙◌}
use Rattle.std.specs.Prelude.{Some, None}
use Rattle.std.specs.Map.{set_value}
use Rattle.std.proofs.lemmas.Map.Steps.{set_value_same}
use Rattle.stats_map.specs.Slots.{value_at}
use Rattle.stats_map.specs.Counting.{place_cmp}
use Rattle.stats_map.specs.Told.{told}
use Rattle.stats_map.proofs.Drafting.{kept-laid, kept-same}
use Rattle.stats_map.proofs.Laying.{ended-allowed, ended-have, ended-summed, ended-told, none-ends}
use Rattle.stats_map.proofs.Rows.{at}
use Rattle.stats_map.proofs.overlay.Overlay.end_drawn.Goals as goal

pub returns-in_default-take-clause-ended : goal.returns-in_default-take-clause-ended
returns-in_default-take-clause-ended c =
    let o = c.args.self.now in
    let new = c.get_mut.follows.lender c.take.new.self in
    let is : new.entries ≡ set_value (at c.args.place.now) o.live.entries c.take.new.self = search rules in
    let empty : value_at place_cmp c.args.place.now o.live.entries ≡ Some None = sym c.in-Some.ensures.value
    ∙ ap Some (sym c.take.ensures.value ∙ c.in_default-take.is) in
    let same = is ∙ set_value_same (at c.args.place.now) o.live.entries c.take.new.self
    (empty ∙ ap Some (sym c.take.ensures.after)) in
    ap told (kept-same o (record o { live = new }) refl same refl)
    ∙ none-ends o.base.now c.requires.laid.ordered.places c.requires.laid.ordered.leaves o.live.entries o.sums.entries
    c.requires.laid.summed c.requires.laid.slots c.args.place.now empty

pub returns-in_default-take-clause-laid : goal.returns-in_default-take-clause-laid
returns-in_default-take-clause-laid c =
    let o = c.args.self.now in
    let new = c.get_mut.follows.lender c.take.new.self in
    let is : new.entries ≡ set_value (at c.args.place.now) o.live.entries c.take.new.self = search rules in
    let empty : value_at place_cmp c.args.place.now o.live.entries ≡ Some None = sym c.in-Some.ensures.value
    ∙ ap Some (sym c.take.ensures.value ∙ c.in_default-take.is) in
    let same = is ∙ set_value_same (at c.args.place.now) o.live.entries c.take.new.self
    (empty ∙ ap Some (sym c.take.ensures.after)) in
    kept-laid o (record o { live = new }) refl same refl c.requires.laid

pub change_slots-requires : goal.change_slots-requires
change_slots-requires c =
    let o = c.args.self.now in
    let found = sym c.in-Some.ensures.value ∙ ap Some (sym c.take.ensures.value ∙ c.in-Some-take.is) in
    ended-allowed o.base.now c.requires.laid.ordered.places c.requires.laid.ordered.leaves o.live.entries o.sums.entries
    c.requires.laid.summed c.requires.laid.slots c.args.place.now c.in-Some-take.row c.numbers-numbers.result
    c.as_slice.result.now found
    c.numbers-numbers.ensures.packets c.numbers-numbers.ensures.bytes (c.as_slice.ensures ∙ c.ancestry.ensures)

pub returns-clause-ended : goal.returns-clause-ended
returns-clause-ended c =
    let o = c.args.self.now in
    let new = (c.get_mut.follows.lender c.take.new.self).entries in
    let is : new ≡ set_value (at c.args.place.now) o.live.entries c.take.new.self = search rules in
    let found = sym c.in-Some.ensures.value ∙ ap Some (sym c.take.ensures.value ∙ c.in-Some-take.is) in
    ended-told o.base.now c.requires.laid.ordered.places c.requires.laid.ordered.leaves o.live.entries o.sums.entries
    c.requires.laid.summed c.requires.laid.slots c.args.place.now c.in-Some-take.row c.numbers-numbers.result
    c.as_slice.result.now found
    c.numbers-numbers.ensures.packets c.numbers-numbers.ensures.bytes (c.as_slice.ensures ∙ c.ancestry.ensures)
    new c.change_slots.new.slots.entries (is ∙ ap (set_value (at c.args.place.now) o.live.entries) c.take.ensures.after)
    c.change_slots.ensures.sums c.change_slots.ensures.keys

pub returns-clause-laid : goal.returns-clause-laid
returns-clause-laid c =
    let o = c.args.self.now in
    let new = (c.get_mut.follows.lender c.take.new.self).entries in
    let is : new ≡ set_value (at c.args.place.now) o.live.entries c.take.new.self = search rules in
    let found = sym c.in-Some.ensures.value ∙ ap Some (sym c.take.ensures.value ∙ c.in-Some-take.is) in
    let gone = is ∙ ap (set_value (at c.args.place.now) o.live.entries) c.take.ensures.after in record {
      ordered = c.requires.laid.ordered;
      summed =
          ended-summed o.base.now c.requires.laid.ordered.places c.requires.laid.ordered.leaves o.live.entries
          o.sums.entries c.requires.laid.summed c.requires.laid.slots c.args.place.now c.in-Some-take.row
          c.numbers-numbers.result c.as_slice.result.now found
          c.numbers-numbers.ensures.packets c.numbers-numbers.ensures.bytes (c.as_slice.ensures ∙ c.ancestry.ensures)
          new c.change_slots.new.slots.entries gone c.change_slots.ensures.sums c.change_slots.ensures.keys;
      slots =
          ended-have o.base.now c.requires.laid.ordered.places c.requires.laid.ordered.leaves o.live.entries
          o.sums.entries c.requires.laid.summed c.requires.laid.slots c.args.place.now c.in-Some-take.row
          c.numbers-numbers.result c.as_slice.result.now found
          c.numbers-numbers.ensures.packets c.numbers-numbers.ensures.bytes (c.as_slice.ensures ∙ c.ancestry.ensures)
          new c.change_slots.new.slots.entries gone c.change_slots.ensures.sums c.change_slots.ensures.keys;
    }
