use Rattle.std.proofs.Common.{◌≡◌, ◌∙◌, sym, subst, filter, not, false, Bool}
use Rattle.std.specs.List.{list_any}
use Rattle.match_index.specs.Items.{has_id}
use Rattle.match_index.specs.declared.item.Item.{Item}
use Rattle.match_index.proofs.Counts.{same_any}
use Rattle.member_table.specs.InsideRanking.{RanksOf}
use Rattle.member_table.proofs.Counts.{none_left}
use Rattle.member_table.proofs.ranks.Ranks.exchange.Goals as goal
use Rattle.member_table.proofs.ranks.Ranks.exchange.Goals.{in-Some, in_default}

pub insert-requires-clause-new_id : goal.insert-requires-clause-new_id
insert-requires-clause-new_id c =
    let items = c.args.self.now.items in
    let q = has_id c.args.item.now.id in
    let Q : RanksOf → Type 0 = λ o. list_any q o.items ≡ false in
    elim c.match-replaced.branch [
      | in-Some w ↦
          let g : Item → Bool = λ r. not (has_id w.in-Some.old.serial r) in
          subst Q (sym w.self-is) (sym (same_any (filter g items) w.remove.new.self.items w.remove.ensures.items q)
          ∙ none_left q g items c.requires.new_id)
      | in_default w ↦ subst Q (sym w.self-is) c.requires.new_id
    ]
