use Rattle.std.proofs.Common.{refl, if◌then◌else◌}
use Rattle.member_table.specs.Entries.{identity_of, has_serial}
use Rattle.member_table.specs.Sound.{IsAsWritten}
use Rattle.member_table.specs.InsideKept.{IsQuietUntil}
use Rattle.member_table.specs.declared.entry.Entry.{Entry}
use Rattle.member_table.proofs.Sounds.{either_has, either_way}
use Rattle.member_table.proofs.Kept.{kept_map}
use Rattle.member_table.proofs.table.Table.modify.Goals as goal

pub invariant_of-self : goal.invariant_of-self
invariant_of-self c =
    let changed : Entry → Entry = λ e. record e { actions = c.args.modified.actions } in
    kept_map (λ e. if has_serial c.args.modified.serial e then changed e else e)
    (λ e. either_way (λ x. x.serial) (has_serial c.args.modified.serial e) (changed e) e refl)
    (λ e. either_way identity_of (has_serial c.args.modified.serial e) (changed e) e refl)
    (λ e w. either_has IsAsWritten (has_serial c.args.modified.serial e) (changed e) e
    (record { read = w.read; ranked = w.ranked; normal = w.normal; actions = c.requires }) w)
    c.self.inside.next c.self.inside.limit c.self.inside.room c.self.inside.soonest c.self.inside.soonest c.self.inside.order _
    c.self.inside.ranks
    (λ e q. either_has (IsQuietUntil c.self.inside.soonest) (has_serial c.args.modified.serial e) (changed e) e q q)
    c.self.invariant
    c.set_actions.ensures.entries c.set_actions.ensures.room
