-- A member's table stays sound when a message is accepted, when entries go, and when a count was seen to have risen.
use Rattle.std.proofs.Common.{◌≡◌, ◌∙◌, ℕ, ◌+◌, ◌-◌, ◌<◌, ◌≤◌, ◌^◌, ◌==◌, Bool, true, false, not, ◌||◌, ◌&&◌, nat_le}
use Rattle.std.proofs.Common.{List, [], ◌∷◌, length, map, filter, is_some, Some, None, Option, OnSome, option_map}
use Rattle.std.proofs.Common.{if◌then◌else◌, refl, sym, ap, arith}
use Rattle.std.proofs.lemmas.Bool.{leb-false}
use Rattle.std.proofs.lemmas.List.{length-map}
use Rattle.std.specs.List.{list_any}
use Rattle.grants.specs.Rows.{first_of, flow_denial}
use Rattle.grants.specs.declared.denial.Denial.{Denial}
use Rattle.grants.specs.declared.grant.Grant.{Grant}
use Rattle.level_map.specs.Levels.{IsLevelling, Levels, level_of, lower}
use Rattle.level_map.specs.Placing.{even_level, level_above, level_below, middle, placing, placing_by, spread}
use Rattle.level_map.specs.Placing.{with_rank}
use Rattle.level_map.specs.declared.placed.Placed.{Placed}
use Rattle.level_map.specs.declared.placed.Placed.TheVariants.{Kept, Renumbered}
use Rattle.member_state.proofs.Levels.{kept_rising, level_kept}
use Rattle.member_state.proofs.Lists.{any_filter, any_map_same, filter_length}
use Rattle.member_state.proofs.Ranks.{comes_with, rank_committed, stays_had}
use Rattle.member_state.proofs.Rows.{rank_at, with_levelling, with_some}
use Rattle.member_state.proofs.Unused.{has}
use Rattle.member_state.specs.Changes.{accepted, entry_touched, expired, levels_with, touched, with_table, without}
use Rattle.member_state.specs.Denials.{budget_row, denial, rank_added, table_row}
use Rattle.member_state.specs.States.{IsKept, IsSoundState, MemberStateOf}
use Rattle.member_table.proofs.Least.{and_true, any_weaker}
use Rattle.member_table.proofs.Plans.{change_makes, ready_is}
use Rattle.member_table.proofs.Sounds.{either_has, either_way, sound_filter, sound_map, sound_put}
use Rattle.member_table.specs.Changes.{CanAdd, replaced, stays}
use Rattle.member_table.specs.Entries.{has_serial, identity_of, is_at, put}
use Rattle.member_table.specs.Planning.{change_of}
use Rattle.member_table.specs.Refusals.{is_full, overlapped, refusal, refusal_asked, refusal_by, refusal_of}
use Rattle.member_table.specs.Sound.{IsAsWritten, IsSound}
use Rattle.member_table.specs.Tables.{Held, TableOf, after, after_asked, entry_of, has_rank, identity_in, is_meant}
use Rattle.member_table.specs.Tables.{modified, outputs_to, with_actions, with_entry}
use Rattle.member_table.specs.Timeouts.{is_hard_due}
use Rattle.member_table.specs.declared.entry.Entry.{Entry}
use Rattle.member_table.specs.declared.entry.Identity.{Identity}
use Rattle.member_table.specs.declared.fault.TableFault.{TableFault}
use Rattle.member_table.specs.declared.fault.TableFault.TheVariants.{Entries}
use Rattle.of10_actions.specs.Actions.{AreInRange}
use Rattle.of10_actions.specs.declared.effects.PortView.{PortView}
use Rattle.of10_match.specs.Fields.{MatchOf}
use Rattle.of10_match.specs.Normal.{IsNormal, has_ports, is_ip, is_ip_or_arp, is_tagged, kept, normal}
use Rattle.of10_match.specs.Numbers.{ARP, IPV4}
use Rattle.of10_match.specs.OfpMatchFields.{fields_in}
use Rattle.of10_match.specs.Wildcards.{named}
use Rattle.of10_msgs.specs.Commands.{command_at}
use Rattle.of10_msgs.specs.declared.command.Command.{Command}
use Rattle.of10_msgs.specs.declared.command.Command.TheVariants.{Add, Delete, DeleteStrict, Modify, ModifyStrict}
use Rattle.of10_msgs.specs.declared.message.FlowMod.{FlowMod}

-- matches -----------------------------------------------------------------------------------------------------------

kept_stands : {A : Type 0} (b : Bool) (o : Option A) → OnSome (kept b o) (b ≡ true)
kept_stands true None = tt
kept_stands true (Some x) = refl
kept_stands false o = tt

ports_stand : {A : Type 0} (t p : Option ℕ) (o : Option A)
    → OnSome (kept (is_ip t && has_ports p) o) ((is_ip t && has_ports (kept (is_ip_or_arp t) p)) ≡ true)
ports_stand None p o = tt
ports_stand (Some t) p o = by (t == IPV4) (t == ARP)
  where
    by : (a b : Bool) → OnSome (kept (a && has_ports p) o) ((a && has_ports (kept (a || b) p)) ≡ true)
    by true b = kept_stands (has_ports p) o
    by false b = tt

-- a match is read as a normal one
normal_read : (m : MatchOf) → IsNormal (normal m)
normal_read m = record {
  dl_vlan_pcp = kept_stands (is_tagged m.dl_vlan) m.dl_vlan_pcp;
  nw_tos = kept_stands (is_ip m.dl_type) m.nw_tos;
  nw_proto = kept_stands (is_ip_or_arp m.dl_type) m.nw_proto;
  nw_src = kept_stands (is_ip_or_arp m.dl_type) m.nw_src;
  nw_dst = kept_stands (is_ip_or_arp m.dl_type) m.nw_dst;
  tp_src = ports_stand m.dl_type m.nw_proto m.tp_src;
  tp_dst = ports_stand m.dl_type m.nw_proto m.tp_dst;
}

-- refusals ----------------------------------------------------------------------------------------------------------

-- what a row doesn't tell of isn't refused
none_refused : (o : Option ℕ) (k : Identity) (t : TableOf) → table_row (refusal_by o k t) ≡ None
    → refusal_by o k t ≡ None
none_refused (Some serial) k t e = absurd (cc)
none_refused None k t e = by (is_full k t) e
  where
    refused : Bool → Option TableFault
    refused b = if b then Some (Entries t.limit) else None

    by : (b : Bool) → table_row (if b then Some (Entries t.limit) else None) ≡ None
        → (if b then Some (Entries t.limit) else None) ≡ None
    by true e = absurd (cc)
    by false e = refl

-- the table isn't full then
has_room : (o : Option ℕ) (k : Identity) (t : TableOf) → refusal_by o k t ≡ None → is_full k t ≡ false
has_room (Some serial) k t e = absurd (cc)
has_room None k t e = by (is_full k t) e
  where
    by : (b : Bool) → (if b then Some (Entries t.limit) else None) ≡ None → b ≡ false
    by true e = absurd (cc)
    by false e = refl

-- entries -----------------------------------------------------------------------------------------------------------

long_put : (new : Entry) (es : List Entry) → length (put new es) ≤ length es + 1
long_put new [] = omega arith
long_put new (e ∷ es) = by (is_at (identity_of new) e) (long_put new es)
  where
    by : (b : Bool) → length (put new es) ≤ length es + 1
        → length (if b then new ∷ es else e ∷ put new es) ≤ length (e ∷ es) + 1
    by true h = omega arith
    by false h = omega (arith, h)

-- in the place of another
long_instead : (new : Entry) (es : List Entry) → list_any (is_at (identity_of new)) es ≡ true
    → length (put new es) ≤ length es
long_instead new [] h = absurd (cc)
long_instead new (e ∷ es) h = by (is_at (identity_of new) e) h (long_instead new es)
  where
    by : (b : Bool) → (b || list_any (is_at (identity_of new)) es) ≡ true
        → (list_any (is_at (identity_of new)) es ≡ true → length (put new es) ≤ length es)
        → length (if b then new ∷ es else e ∷ put new es) ≤ length (e ∷ es)
    by true t f = omega arith
    by false t f = let k = f t in omega (arith, k)

first_fails : (a : Bool) → (a && true) ≡ false → a ≡ false
first_fails true h = h
first_fails false h = refl

-- a table that is sound, of the limit that it had, and with no more entries
pub record IsTableAfter (t u : TableOf) : Type 0 where
  pub sound : IsSound u
  pub limit : u.limit ≡ t.limit
  pub few : length u.entries ≤ t.limit

module _ (t : TableOf) (sound : IsSound t) (few : length t.entries ≤ t.limit) where
  entries_go : (p : Entry → Bool) → IsTableAfter t (record t { entries = filter p t.entries })
  entries_go p =
      let less = filter_length p t.entries in
      record { sound = sound_filter t p sound; limit = refl; few = omega (arith, less, few) }

  entries_change : (f : Entry → Entry) → ((e : Entry) → (f e).serial ≡ e.serial)
      → ((e : Entry) → identity_of (f e) ≡ identity_of e) → ((e : Entry) → IsAsWritten e → IsAsWritten (f e))
      → IsTableAfter t (record t { entries = map f t.entries })
  entries_change f numbers identities w =
      let same = length-map t.entries f in
      record { sound = sound_map f numbers identities w t sound; limit = refl; few = omega (arith, same, few) }

  module _ (m : FlowMod) (now : ℕ) (in_range : AreInRange m.actions) where
    entry_comes : table_row (refusal_of (identity_in m) t) ≡ None → t.next + 1 + 1 < 2 ^ 64
        → IsTableAfter t (with_entry t m now)
    entry_comes told fits =
        let k = identity_in m in
        let new = entry_of t.next m now in
        let held : Held = record { table = t; room = 1 } in
        let more : t.next + 2 < 2 ^ 64 = omega (arith, fits) in
        let none = none_refused (overlapped k t.entries) k t told in
        let can : CanAdd held [] new =
        ready_is held held m now None refl none (omega arith) more (normal_read (named (fields_in m.m))) in_range in
        let full : is_full k t ≡ false = has_room (overlapped k t.entries) k t none in
        record {
          sound = sound_put t new sound refl more can.written can.apart;
          limit = refl;
          few = by (list_any (is_at k) t.entries) refl full;
        }
      where
        by : (b : Bool) → list_any (is_at (identity_in m)) t.entries ≡ b
            → (nat_le t.limit (length t.entries) && not b) ≡ false
            → length (put (entry_of t.next m now) t.entries) ≤ t.limit
        by true e full = let less = long_instead (entry_of t.next m now) t.entries e in omega (arith, less, few)
        by false e full =
            let room : length t.entries < t.limit =
            leb-false t.limit (length t.entries) (first_fails (nat_le t.limit (length t.entries)) full) in
            let more = long_put (entry_of t.next m now) t.entries in
            omega (arith, room, more)

    actions_change : (strict : Bool)
        → table_row
        (if list_any (is_meant strict (identity_in m)) t.entries then None else refusal_of (identity_in m) t) ≡ None
        → (modified strict t m now).next + 1 < 2 ^ 64 → IsTableAfter t (modified strict t m now)
    actions_change strict told fits = by (list_any (is_meant strict (identity_in m)) t.entries) told fits
      where
        test : Entry → Bool
        test e = is_meant strict (identity_in m) e

        changed : TableOf
        changed = record t {
          entries = map (λ e. if is_meant strict (identity_in m) e then with_actions m.actions e else e) t.entries;
        }

        by : (b : Bool) → table_row (if b then None else refusal_of (identity_in m) t) ≡ None
            → (if b then changed else with_entry t m now).next + 1 < 2 ^ 64
            → IsTableAfter t (if b then changed else with_entry t m now)
        by true told fits =
            entries_change (λ e. if is_meant strict (identity_in m) e then with_actions m.actions e else e)
            (λ e. either_way (λ (x : Entry). x.serial) (test e) (with_actions m.actions e) e refl)
            (λ e. either_way identity_of (test e) (with_actions m.actions e) e refl)
            (λ e w. either_has IsAsWritten (test e) (with_actions m.actions e) e
            (record { read = w.read; ranked = w.ranked; normal = w.normal; actions = in_range }) w)
        by false told fits = entry_comes told fits

    asked_after : (command : Option Command) → table_row (refusal_asked command t m) ≡ None
        → (after_asked command t m now).next + 1 < 2 ^ 64 → IsTableAfter t (after_asked command t m now)
    asked_after None told fits = record { sound = sound; limit = refl; few = few }
    asked_after (Some Add) told fits = entry_comes told fits
    asked_after (Some Modify) told fits = actions_change false told fits
    asked_after (Some ModifyStrict) told fits = actions_change true told fits
    asked_after (Some Delete) told fits =
        entries_go (λ e. not (is_meant false (identity_in m) e && outputs_to m.out_port e))
    asked_after (Some DeleteStrict) told fits =
        entries_go (λ e. not (is_meant true (identity_in m) e && outputs_to m.out_port e))

-- levels ------------------------------------------------------------------------------------------------------------

-- levels that the ranks of a table have are kept for it
kept_with : (x : MemberStateOf) (t : TableOf) (l : Levels) → IsLevelling l.size l.ranked
    → ((q : ℕ) → has t.entries q ≡ true → is_some (level_of l q) ≡ true)
    → IsKept (with_table t (record x { levels = l }))
kept_with x t l k some = record {
  levels = record {
    size_from = k.size_from;
    size_to = k.size_to;
    rising = kept_rising _ 0 2 l.size l.ranked k.rising;
  };
  ranks = λ q. ap is_some (level_kept (has t.entries) l.ranked q) ∙ by q (has t.entries q) refl;
}
  where
    by : (q : ℕ) (b : Bool) → has t.entries q ≡ b → is_some (if b then level_of l q else None) ≡ has t.entries q
    by q true e = some q e ∙ sym e
    by q false e = sym e

either_size : (b : Bool) (x y : Placed × Levels) (n : ℕ) → x.1.size ≡ n → y.1.size ≡ n
    → (if b then x else y).1.size ≡ n
either_size true x y n e f = e
either_size false x y n e f = f

placed_size : (l : Levels) (rank : ℕ) → (placing l rank).1.size ≡ l.size
placed_size l rank = by (level_of l rank)
  where
    between : ℕ
    between = middle (level_below l rank) (level_above l rank)

    by : (o : Option ℕ) → (placing_by o l rank).1.size ≡ l.size
    by (Some level) = refl
    by None =
        either_size (nat_le 2 (level_above l rank - level_below l rank))
        (Kept between, record { size = l.size; ranked = with_rank rank between l.ranked }) (
          Renumbered (even_level l.size (length l.ranked + 1) (length (lower rank l.ranked) + 1)),
          record { size = l.size; ranked = spread l.size (with_rank rank 0 l.ranked) },
        )
        l.size refl refl

levels_size : (added : Option Entry) (l : Levels) → (levels_with added l).size ≡ l.size
levels_size None l = refl
levels_size (Some e) l = placed_size l e.rank

-- a rank that an entry has after a message came with it or was there
ranks_after : (t : TableOf) (m : FlowMod) (now : ℕ) (q : ℕ) → IsSound t → has (after t m now).entries q ≡ true
    → (comes_with (change_of t m now).added q || has t.entries q) ≡ true
ranks_after t m now q sound h =
    let c = change_of t m now in
    by (comes_with c.added q)
    (sym (rank_committed t c q) ∙ (ap (λ (u : TableOf). has u.entries q) (change_makes t m now sound) ∙ h))
  where
    left : Bool
    left =
        list_any
        (λ e. stays (change_of t m now).removed (replaced (change_of t m now).added t.entries) e && has_rank q e)
        t.entries

    by : (a : Bool) → (a || left) ≡ true → (a || has t.entries q) ≡ true
    by true e = refl
    by false e =
        stays_had (change_of t m now).removed (replaced (change_of t m now).added t.entries) q t.entries e

-- what goes takes no rank's level that is left
ranks_left : (p : Entry → Bool) (es : List Entry) (q : ℕ) → has (filter p es) q ≡ true → has es q ≡ true
ranks_left p es q h =
    any_weaker (λ e. p e && has_rank q e) (has_rank q) (λ e t. (and_true (p e) (has_rank q e) t).1) es
    (sym (any_filter (has_rank q) p es) ∙ h)

-- rows --------------------------------------------------------------------------------------------------------------

-- none of three rows applies
none_applies : (a b c : Option Denial) → first_of (a ∷ b ∷ c ∷ []) ≡ None → (b ≡ None) × (c ≡ None)
none_applies None None None e = (refl, refl)
none_applies None None (Some d) e = absurd (cc)
none_applies None (Some d) c e = absurd (cc)
none_applies (Some d) b c e = absurd (cc)

-- states ------------------------------------------------------------------------------------------------------------

-- a state that is sound, of the limit and the levels that it had, and with no more entries
pub record IsStateAfter (x y : MemberStateOf) : Type 0 where
  pub sound : IsSoundState y
  pub limit : y.table.limit ≡ x.table.limit
  pub few : length y.table.entries ≤ x.table.limit
  pub size : y.levels.size ≡ x.levels.size

module _ (x : MemberStateOf) (sound : IsSoundState x) (few : length x.table.entries ≤ x.table.limit) where
  -- an accepted message
  pub accepted_after : (g : Grant) (v : PortView) (m : FlowMod) (now : ℕ) → denial g v x m ≡ None
      → AreInRange m.actions → (accepted m now x).table.next + 1 < 2 ^ 64 → IsStateAfter x (accepted m now x)
  accepted_after g v m now none in_range fits =
      let rows =
      none_applies (flow_denial g v m) (table_row (refusal x.table m)) (budget_row x.levels (rank_added x.table m))
      none in
      let t = asked_after x.table sound.table few m now in_range (command_at m.command) rows.0 fits in
      let added = (change_of x.table m now).added in
      let budget : budget_row x.levels (option_map (λ (e : Entry). e.rank) added) ≡ None =
      ap (budget_row x.levels) (rank_at x.table m now) ∙ rows.1 in
      record {
        sound = record {
          table = t.sound;
          kept = kept_with x (after x.table m now) (levels_with added x.levels)
              (with_levelling x.levels added sound.kept.levels budget)
              (λ q h. with_some x.levels added q
              ∙ (ap (λ b. comes_with added q || b) (sound.kept.ranks q)
              ∙ ranks_after x.table m now q sound.table h));
        };
        limit = t.limit;
        few = t.few;
        size = levels_size added x.levels;
      }

  -- entries go
  go : (p : Entry → Bool)
      → IsStateAfter x (with_table (record x.table { entries = filter p x.table.entries }) x)
  go p =
      let t = entries_go x.table sound.table few p in
      record {
        sound = record {
          table = t.sound;
          kept = kept_with x (record x.table { entries = filter p x.table.entries }) x.levels sound.kept.levels
              (λ q h. sound.kept.ranks q ∙ ranks_left p x.table.entries q h);
        };
        limit = t.limit;
        few = t.few;
        size = refl;
      }

  pub expired_after : (now : ℕ) → IsStateAfter x (expired now x)
  expired_after now = go (λ e. not (is_hard_due now e))

  pub without_after : (serial : ℕ) → IsStateAfter x (without serial x)
  without_after serial = go (λ e. not (has_serial serial e))

  -- a count was seen to have risen
  pub touched_after : (serial now : ℕ) → IsStateAfter x (touched serial now x)
  touched_after serial now =
      let f : Entry → Entry = entry_touched serial now in
      let touch : (e : Entry) → Entry = λ e. record e { last = now } in
      let t =
      entries_change x.table sound.table few f
      (λ e. either_way (λ (y : Entry). y.serial) (has_serial serial e) (touch e) e refl)
      (λ e. either_way identity_of (has_serial serial e) (touch e) e refl)
      (λ e w. either_has IsAsWritten (has_serial serial e) (touch e) e
      (record { read = w.read; ranked = w.ranked; normal = w.normal; actions = w.actions }) w) in
      record {
        sound = record {
          table = t.sound;
          kept = record {
            levels = sound.kept.levels;
            ranks = λ q. sound.kept.ranks q
                ∙ sym (any_map_same f (has_rank q)
                (λ e. ap (λ n. q == n) (either_way (λ (y : Entry). y.rank) (has_serial serial e) (touch e) e refl))
                x.table.entries);
          };
        };
        limit = t.limit;
        few = t.few;
        size = refl;
      }
