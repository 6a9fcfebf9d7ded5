use Rattle.std.proofs.Common.{◌≡◌, ◌∙◌, ℕ, Bool, List, [], Option, Some, None, IfSome, IfNone, count_by, sym, ap, subst}
use Rattle.std.proofs.Common.{slice_get}
use Rattle.std.specs.Prelude.{swap_remove}
use Rattle.std.specs.List.{All}
use Rattle.std.specs.Map.{values_of}
use Rattle.of10_match.specs.Fields.{MatchOf}
use Rattle.match_index.specs.InsideGroups.{IsBucket, in_buckets}
use Rattle.match_index.specs.declared.item.Item.{Item}
use Rattle.match_index.specs.declared.shape.Shape.{Shape}
use Rattle.match_index.proofs.Buckets.{count_dropped, each_dropped, values_got}
use Rattle.match_index.proofs.Lists.{empty_from}
use Rattle.match_index.proofs.group.drop_empty.Goals as goal

dropped : (p : Item → Bool) (bs new : List (MatchOf × List Item)) (i : ℕ) (xs : List Item)
    (r : Option (MatchOf × List Item)) → r ≡ slice_get bs i → IfSome r (λ b. new ≡ swap_remove bs i b)
    → IfNone r (new ≡ bs)
    → slice_get (values_of bs) i ≡ Some xs → xs ≡ [] → count_by p (in_buckets new) ≡ count_by p (in_buckets bs)
dropped p bs new i xs None e s n v z = ap (λ cs. count_by p (in_buckets cs)) n
dropped p bs new i xs (Some b) e s n v z =
    ap (λ cs. count_by p (in_buckets cs)) s ∙ count_dropped p bs i b (sym e) (values_got bs i b.0 b.1 xs (sym e) v ∙ z)

each_left : (shape : Shape) (bs new : List (MatchOf × List Item)) (i : ℕ) (r : Option (MatchOf × List Item))
    → r ≡ slice_get bs i → IfSome r (λ b. new ≡ swap_remove bs i b) → IfNone r (new ≡ bs)
    → All (IsBucket shape) bs → All (IsBucket shape) new
each_left shape bs new i None e s n a = let P : List (MatchOf × List Item)
    → Type 0 = All (IsBucket shape) in subst P (sym n) a
each_left shape bs new i (Some b) e s n a = let P : List (MatchOf × List Item)
    → Type 0 = All (IsBucket shape) in subst P (sym s) (each_dropped shape bs i b (sym e) a)

pub returns-then-is_empty-clause-items : goal.returns-then-is_empty-clause-items
returns-then-is_empty-clause-items c p =
    dropped p c.args.buckets.now.entries c.swap_remove_index.new.self.entries c.args.place c.index.result.now
    c.swap_remove_index.result c.swap_remove_index.ensures.entry
    c.swap_remove_index.ensures.entries c.swap_remove_index.ensures.unchanged c.index.ensures
    (empty_from c.index.result.now (sym c.is_empty.ensures ∙ c.if-is_empty.true))

pub returns-then-is_empty-clause-buckets : goal.returns-then-is_empty-clause-buckets
returns-then-is_empty-clause-buckets c shape a = record {
  each = each_left shape c.args.buckets.now.entries c.swap_remove_index.new.self.entries c.args.place
      c.swap_remove_index.result c.swap_remove_index.ensures.entry c.swap_remove_index.ensures.entries
      c.swap_remove_index.ensures.unchanged a.each;
  once = c.swap_remove_index.ensures.unique;
}
