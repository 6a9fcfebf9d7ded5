-- Rules are listed under their ids.
use Rattle.std.proofs.Common.{◌≡◌, ℕ, List, Option, Some, None, ap, sym}
use Rattle.std.specs.Prelude.{option_map}
use Rattle.of10_match.specs.Fields.{MatchOf}
use Rattle.match_index.specs.declared.item.Item.{Item}
use Rattle.hop_rules.specs.Handed.{asks_by, listed}
use Rattle.hop_rules.specs.Items.{IsNumbered, item_for}
use Rattle.hop_rules.specs.Standing.{over}
use Rattle.hop_rules.specs.declared.exits.Exit.{Exit}

mapped-id : (id : ℕ) (o : Option MatchOf) (e : Item) → option_map (item_for id) o ≡ Some e → e.id ≡ id
mapped-id id None e s = absurd (cc)
mapped-id id (Some m) e s = let z : item_for id m ≡ e = cc in ap (λ (i : Item). i.id) (sym z)

pub listed-numbered : (exits : List Exit) → IsNumbered (listed exits)
listed-numbered exits h e s = mapped-id h.id (asks_by h.item (over exits h.item.tail)) e s
