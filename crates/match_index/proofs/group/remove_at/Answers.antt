use Rattle.std.proofs.Common.{◌≡◌, ◌∙◌, Bool, true, false, refl, sym, ap, subst}
use Rattle.std.specs.List.{list_any}
use Rattle.indexmap.proofs.CallerLemmas.{index_map_len-with_value_at}
use Rattle.match_index.specs.InsideGroups.{AreBuckets}
use Rattle.match_index.specs.Items.{same_item}
use Rattle.match_index.proofs.Asked.{has_in}
use Rattle.match_index.proofs.Buckets.{bucket_items, buckets_taken, set_same, taken_at}
use Rattle.match_index.proofs.group.remove_at.Goals as goal

bool_then : (b : Bool) (P : Type 0) → (b ≡ true → P) → (b ≡ false → P) → P
bool_then true P t f = t refl
bool_then false P t f = f refl

pub returns-clause-taken : goal.returns-clause-taken
returns-clause-taken c shape a there =
    let bs = c.args.buckets.now.entries in
    let old = c.index_mut.result.now in
    let found = sym c.requires.at ∙ c.index_mut.ensures.value in
    let is_here : list_any (same_item c.args.item.now) old ≡ true =
    ap (λ o. list_any (same_item c.args.item.now) (bucket_items o)) (sym found)
    ∙ (sym (has_in shape c.args.item.now bs a) ∙ there) in
    taken_at c.args.item.now bs c.args.place old c.remove.new.self c.index_mut.ensures.value
    (c.remove.ensures.taken (c.remove.ensures.found ∙ is_here))

pub returns-clause-buckets : goal.returns-clause-buckets
returns-clause-buckets c shape a =
    let bs = c.args.buckets.now.entries in
    let old = c.index_mut.result.now in
    bool_then c.remove.result _
    (λ t. buckets_taken shape c.args.item.now bs c.args.place old c.remove.new.self a c.index_mut.ensures.value
    (c.remove.ensures.taken t))
    (λ f. subst (AreBuckets shape)
    (sym (set_same bs c.args.place old c.remove.new.self c.index_mut.ensures.value (c.remove.ensures.missing f))) a)

pub returns-clause-len : goal.returns-clause-len
returns-clause-len c = index_map_len-with_value_at c.args.buckets.now c.args.place c.remove.new.self
