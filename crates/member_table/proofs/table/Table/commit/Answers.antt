use Rattle.std.proofs.Common.{◌≡◌, ◌∙◌, ℕ, ◌==◌, if◌then◌else◌, ◌<◌, ◌+◌, ◌^◌, ◌&&◌, ◌||◌, Bool, true, false, not, cond}
use Rattle.std.proofs.Common.{List, [], ◌∷◌, map, filter, sym, ap, ap₂, subst, refl, IfSome, Some, Option}
use Rattle.std.specs.List.{list_any}
use Rattle.member_table.specs.Changes.{CanAdd, changed_by, replaced, stays}
use Rattle.member_table.specs.Entries.{identity_of, is_near, same_identity}
use Rattle.member_table.specs.Tables.{with_actions}
use Rattle.member_table.specs.declared.change.Modified.{Modified}
use Rattle.member_table.specs.declared.entry.Entry.{Entry}
use Rattle.member_table.proofs.Changing.{altered, emptied}
use Rattle.member_table.proofs.Sounds.{is_blocked}
use Rattle.member_table.proofs.table.Table.commit.Goals as goal

same_changed : (ms : List Modified) (e : Entry) → identity_of (changed_by ms e) ≡ identity_of e
same_changed [] e = refl
same_changed (m ∷ ms) e = by (m.serial == e.serial) (same_changed ms e)
  where
    by : (b : Bool) → identity_of (changed_by ms e) ≡ identity_of e
        → identity_of (if b then with_actions m.actions e else changed_by ms e) ≡ identity_of e
    by true h = refl
    by false h = h

blocked_changed : (new : Entry) (ms : List Modified) (es : List Entry)
    → list_any (is_blocked new) (map (changed_by ms) es) ≡ list_any (is_blocked new) es
blocked_changed new ms [] = refl
blocked_changed new ms (e ∷ es) =
    ap₂ (λ k b. (is_near (identity_of new) k && not (same_identity (identity_of new) k)) || b) (same_changed ms e)
    (blocked_changed new ms es)

blocked_staying : (new : Entry) (p : Entry → Bool) (es : List Entry)
    → list_any (is_blocked new) (filter p es) ≡ list_any (λ e. p e && is_blocked new e) es
blocked_staying new p [] = refl
blocked_staying new p (e ∷ es) = by (p e) (blocked_staying new p es)
  where
    by : (b : Bool) → list_any (is_blocked new) (filter p es) ≡ list_any (λ x. p x && is_blocked new x) es
        → list_any (is_blocked new) (cond b (e ∷ filter p es) (filter p es))
        ≡ ((b && is_blocked new e) || list_any (λ x. p x && is_blocked new x) es)
    by true h = ap (λ b. is_blocked new e || b) h
    by false h = h

pub put-requires : goal.put-requires
put-requires c =
    let old = c.args.self.now in
    let new = c.in-Some.entry in
    let S : Option Entry → Type 0 = λ o. IfSome o (CanAdd old c.args.change.removed) in
    let can = subst S c.in-Some.is c.requires.added in
    let place = c.replaced-place.ensures ∙ ap (λ o. replaced o old.table.entries) c.in-Some.is in
    let table = c.modify_all.ensures.table
    ∙ ap (altered c.args.change.modified) (c.remove_all.ensures.table
    ∙ ap (λ p. emptied c.args.change.removed p old.table) place) in
    let room = c.modify_all.ensures.room ∙ c.remove_all.ensures.room in
    let R : ℕ → Type 0 = λ n. 0 < n in
    let N : ℕ → Type 0 = λ n. n + 2 < 2 ^ 64 in
    record {
      serial = can.serial ∙ sym (ap (λ t. t.next) table);
      written = can.written;
      more = subst N (sym (ap (λ t. t.next) table)) can.more;
      apart = ap (λ t. list_any (is_blocked new) t.entries) table
          ∙ (blocked_changed new c.args.change.modified
          (filter (stays c.args.change.removed (replaced (Some new) old.table.entries)) old.table.entries)
          ∙ (blocked_staying new (stays c.args.change.removed (replaced (Some new) old.table.entries)) old.table.entries
          ∙ can.apart));
      room = subst R (sym room) can.room;
    }
