-- What plans make of a table.
use Rattle.std.proofs.Common.{◌≡◌, ℕ, suc, ◌<◌, ◌≤◌, ◌+◌, ◌^◌, Bool, true, false, not, cond, ◌||◌, ◌&&◌, ◌==◌, List, []}
use Rattle.std.proofs.Common.{◌∷◌, length, map, filter, find, refl, sym, ap, ap₂, subst, ◌∙◌, arith, if◌then◌else◌}
use Rattle.std.proofs.Common.{true≢false, Option, Some, None, IfSome, eqb-true, ne_eqb, option_to_list, option_map, min}
use Rattle.std.proofs.Common.{nat_lt, ltb-false}
use Rattle.std.specs.List.{list_any, AllByRecursion}
use Rattle.std.specs.Prelude.{Result, Ok, Err, IfOk}
use Rattle.of10_match.specs.Normal.{IsNormal}
use Rattle.of10_match.specs.Wildcards.{normal_of}
use Rattle.of10_actions.specs.Actions.{AreInRange}
use Rattle.of10_msgs.specs.Commands.{command_at}
use Rattle.of10_msgs.specs.declared.message.FlowMod.{FlowMod}
use Rattle.of10_actions.specs.declared.action.Action.{Action}
use Rattle.member_table.specs.Changes.{CanAdd, CanCommit, IsInRange, committed, is_among, is_number, stays, changed_by}
use Rattle.member_table.specs.Changes.{replaced}
use Rattle.member_table.specs.Entries.{identity_of, is_at, is_near, put}
use Rattle.member_table.specs.Planning.{adding, addition, changing, change_asked, change_by_command, change_of}
use Rattle.member_table.specs.Planning.{modification, removal, removing}
use Rattle.of10_match.specs.Matching.{overlaps}
use Rattle.of10_match.specs.Same.{same_match}
use Rattle.match_index.specs.Items.{IsLeast}
use Rattle.match_index.specs.Questions.{is_in_way}
use Rattle.match_index.specs.declared.item.Item.{Item}
use Rattle.member_table.specs.InsideRanking.{ranked_of}
use Rattle.member_table.specs.Refusals.{least, lesser_of, is_overlapped, overlapped, refusal_by, refusal_of}
use Rattle.member_table.specs.Sound.{IsSound}
use Rattle.member_table.specs.Tables.{Held, TableOf, after, after_asked, after_command, deleted, entry_of, identity_in}
use Rattle.member_table.specs.Tables.{is_meant, modified, with_actions, with_entry, outputs_to}
use Rattle.member_table.specs.Timeouts.{ListsRising, is_hard_due, serials_of, without_expired}
use Rattle.member_table.specs.declared.change.Change.{Change}
use Rattle.member_table.specs.declared.fault.TableFault.{TableFault}
use Rattle.of10_msgs.specs.declared.command.Command.{Command}
use Rattle.of10_msgs.specs.declared.command.Command.TheVariants.{Add, Modify, ModifyStrict, Delete, DeleteStrict}
use Rattle.member_table.specs.declared.entry.Entry.{Entry}
use Rattle.member_table.specs.declared.entry.Identity.{Identity}
use Rattle.std.proofs.lemmas.List.Sorted.{sum_by-IsPermutation}
use Rattle.member_table.proofs.Changing.{all_stay, unaltered}
use Rattle.match_index.proofs.Counts.{same_any}
use Rattle.member_table.proofs.Least.{any_alike, any_stronger, and_true}
use Rattle.member_table.proofs.Lists.{list_any-map, or_false, each_weaker}
use Rattle.member_table.proofs.Means.{among_passing, filter_alike, map_alike, changed_alike}

-- an entry that is planned
place_stays : (place : Option ℕ) (es : List Entry) → filter (stays (option_to_list place) place) es ≡ es
place_stays None es = all_stay None es
place_stays (Some s) [] = refl
place_stays (Some s) (e ∷ es) = ap₂ (λ b xs. cond b (e ∷ xs) xs) (by (s == e.serial)) (place_stays (Some s) es)
  where
    by : (b : Bool) → (not (b || false) || b) ≡ true
    by true = refl
    by false = refl

pub adding_is : (t : TableOf) (m : FlowMod) (now : ℕ) (r : Option ℕ)
    → r ≡ option_map (λ e. e.serial) (find (is_at (identity_in m)) t.entries)
    → committed t (adding (entry_of t.next m now) r) ≡ with_entry t m now
adding_is t m now r e =
    let stay : filter (stays (option_to_list r) (option_map (λ e. e.serial) (find (is_at (identity_in m)) t.entries)))
    t.entries ≡ t.entries = ap (λ p. filter (stays (option_to_list r) p) t.entries) (sym e)
    ∙ place_stays r t.entries in
    ap (λ es. record t { entries = put (entry_of t.next m now) es; next = t.next + 1 })
    (ap (map (changed_by [])) stay ∙ unaltered t.entries)

-- entries that are planned to change
and_always : (b : Bool) → (b && true) ≡ b
and_always true = refl
and_always false = refl

pub any_port : (p : Entry → Bool) (es : List Entry) → serials_of (λ e. p e && outputs_to 65535 e) es ≡ serials_of p es
any_port p [] = refl
any_port p (e ∷ es) = by (p e) (any_port p es)
  where
    by : (b : Bool) → serials_of (λ x. p x && outputs_to 65535 x) es ≡ serials_of p es
        → map (λ (x : Entry). x.serial)
        (cond (b && true) (e ∷ filter (λ x. p x && outputs_to 65535 x) es)
        (filter (λ x. p x && outputs_to 65535 x) es))
        ≡ map (λ (x : Entry). x.serial) (cond b (e ∷ filter p es) (filter p es))
    by true r = ap (λ ns. e.serial ∷ ns) r
    by false r = r

pub changing_is : (t : TableOf) (p : Entry → Bool) (actions : List Action) → IsSound t
    → committed t (changing actions (serials_of p t.entries))
    ≡ record t { entries = map (λ e. if p e then with_actions actions e else e) t.entries }
changing_is t p actions s =
    ap (λ es. record t { entries = es })
    (ap (map (changed_by (map (λ n. record { serial = n; actions = actions }) (serials_of p t.entries))))
    (all_stay None t.entries)
    ∙ map_alike _ (λ e. if p e then with_actions actions e else e) t.entries
    (each_weaker (λ e. is_among (serials_of p t.entries) e.serial ≡ p e)
    (λ e. changed_by (map (λ n. record { serial = n; actions = actions }) (serials_of p t.entries)) e
    ≡ (if p e then with_actions actions e else e))
    (λ e h. changed_alike actions (serials_of p t.entries) e ∙ ap (λ b. if b then with_actions actions e else e) h)
    t.entries (among_passing p t.entries s.once)))

or_never : (b : Bool) → (b || false) ≡ b
or_never true = refl
or_never false = refl

pub removing_is : (t : TableOf) (p : Entry → Bool) → IsSound t
    → committed t (removing (serials_of p t.entries)) ≡ record t { entries = filter (λ e. not (p e)) t.entries }
removing_is t p s =
    ap (λ es. record t { entries = es }) (unaltered (filter (stays (serials_of p t.entries) None) t.entries)
    ∙ filter_alike (stays (serials_of p t.entries) None) (λ e. not (p e)) t.entries
    (each_weaker (λ e. is_among (serials_of p t.entries) e.serial ≡ p e)
    (λ e. stays (serials_of p t.entries) None e ≡ not (p e))
    (λ e h. or_never (not (is_among (serials_of p t.entries) e.serial)) ∙ ap not h) t.entries
    (among_passing p t.entries s.once)))

-- entries that are due go
pub expired_is : (t : TableOf) (now : ℕ) (due : List ℕ) → IsSound t
    → ListsRising (serials_of (is_hard_due now) t.entries) due → committed t (removing due) ≡ without_expired now t
expired_is t now due s l =
    ap (λ (among : ℕ → Bool). record t
    { entries = map (changed_by []) (filter (λ e. not (among e.serial) || is_number None e.serial) t.entries) })
    (λ i n. same n i) ∙ removing_is t (is_hard_due now) s
  where
    same : (n : ℕ) → is_among due n ≡ is_among (serials_of (is_hard_due now) t.entries) n
    same n = same_any due (serials_of (is_hard_due now) t.entries)
        (λ p. sum_by-IsPermutation (λ k. cond (p k) 1 0) (serials_of (is_hard_due now) t.entries) due l.same)
        (λ k. k == n)

-- the least of the numbers that pass
nothing_passes : (p : Entry → Bool) (es : List Entry) → list_any p es ≡ false → serials_of p es ≡ []
nothing_passes p [] n = refl
nothing_passes p (e ∷ es) n = let o = or_false (p e) (list_any p es) n in rw o.0 (nothing_passes p es o.1)

pub something_passes : (p : Entry → Bool) (es : List Entry) → (length (serials_of p es) == 0) ≡ not (list_any p es)
something_passes p [] = refl
something_passes p (e ∷ es) = by (p e) (something_passes p es)
  where
    by : (b : Bool) → (length (serials_of p es) == 0) ≡ not (list_any p es)
        → (length (map (λ (x : Entry). x.serial) (cond b (e ∷ filter p es) (filter p es))) == 0)
        ≡ not (b || list_any p es)
    by true r = ne_eqb (suc (length (serials_of p es))) 0 (λ z. absurd (omega arith))
    by false r = r

none_least : (ns : List ℕ) → least ns ≡ None → ns ≡ []
none_least [] e = refl
none_least (n ∷ ns) e = absurd (cc)

below_bound : (s : ℕ) (p : Entry → Bool) (es : List Entry) → list_any (λ e. p e && nat_lt e.serial s) es ≡ false
    → IfSome (least (serials_of p es)) (λ k. s ≤ k)
below_bound s p [] n = tt
below_bound s p (e ∷ es) n = let o = or_false (p e && nat_lt e.serial s) (list_any (λ x. p x && nat_lt x.serial s) es)
    n in by (p e) refl o.0 (below_bound s p es o.1)
  where
    lesser_bound : (a : ℕ) (o : Option ℕ) → s ≤ a → IfSome o (λ k. s ≤ k) → s ≤ lesser_of a o
    lesser_bound a None h m = h
    lesser_bound a (Some k) h m = omega arith

    by : (b : Bool) → p e ≡ b → (p e && nat_lt e.serial s) ≡ false → IfSome (least (serials_of p es)) (λ k. s ≤ k)
        → IfSome (least (map (λ (x : Entry). x.serial) (cond b (e ∷ filter p es) (filter p es)))) (λ k. s ≤ k)
    by true t h m = lesser_bound e.serial (least (serials_of p es))
        (ltb-false e.serial s (sym (ap (λ b. b && nat_lt e.serial s) t) ∙ h)) m
    by false t h m = m

least_some : (s : ℕ) (p : Entry → Bool) (es : List Entry) → list_any (λ e. p e && (e.serial == s)) es ≡ true
    → list_any (λ e. p e && nat_lt e.serial s) es ≡ false → least (serials_of p es) ≡ Some s
least_some s p [] a n = absurd (true≢false (sym a))
least_some s p (e ∷ es) a n =
    let o = or_false (p e && nat_lt e.serial s) (list_any (λ x. p x && nat_lt x.serial s) es) n in
    by (p e) refl (e.serial == s) refl o.0 (below_bound s p es o.1) (λ h. least_some s p es h o.1)
  where
    first : (k : ℕ) (o : Option ℕ) → k ≡ s → IfSome o (λ n. s ≤ n) → lesser_of k o ≡ s
    first k None h m = h
    first k (Some n) h m = omega arith

    later : (k : ℕ) → s ≤ k → min k s ≡ s
    later k h = omega arith

    by : (b : Bool) → p e ≡ b → (c : Bool) → (e.serial == s) ≡ c → (p e && nat_lt e.serial s) ≡ false
        → IfSome (least (serials_of p es)) (λ k. s ≤ k)
        → (list_any (λ x. p x && (x.serial == s)) es ≡ true → least (serials_of p es) ≡ Some s)
        → least (map (λ (x : Entry). x.serial) (cond b (e ∷ filter p es) (filter p es))) ≡ Some s
    by true t true c h m r = ap Some (first e.serial (least (serials_of p es)) (eqb-true e.serial s c) m)
    by true t false c h m r =
        let there = r (sym (ap₂ (λ x y. (x && y) || list_any (λ z. p z && (z.serial == s)) es) t c) ∙ a) in
        ap (λ o. Some (lesser_of e.serial o)) there
        ∙ ap Some (later e.serial (ltb-false e.serial s (sym (ap (λ b. b && nat_lt e.serial s) t) ∙ h)))
    by false t c q h m r = r (sym (ap (λ x. (x && (e.serial == s)) || list_any (λ z. p z && (z.serial == s)) es) t) ∙ a)

same_in_way : (a b c : Bool) → (a && (b && not c)) ≡ ((a && b) && not (a && c))
same_in_way true b c = refl
same_in_way false b c = refl

-- what the ranking finds in the way is what a new entry overlaps
pub in_way_is : (k : Identity) (es : List Entry) (items : List Item)
    → ((p : Item → Bool) → list_any p items ≡ list_any p (map ranked_of es)) → (o : Option ℕ)
    → IsLeast (is_in_way k.rank k.normal) items o → overlapped k es ≡ o
in_way_is k es items same o m = by o m
  where
    alike : (f : Item → Bool) (g : Entry → Bool) → ((e : Entry) → f (ranked_of e) ≡ g e)
        → list_any f items ≡ list_any g es
    alike f g h = same f ∙ (list_any-map f ranked_of es ∙ any_alike (λ e. f (ranked_of e)) g h es)

    over : (e : Entry) → is_in_way k.rank k.normal (ranked_of e) ≡ is_overlapped k e
    over e = same_in_way (k.rank == e.rank) (overlaps k.normal e.normal) (same_match k.normal e.normal)

    by : (o : Option ℕ) → IsLeast (is_in_way k.rank k.normal) items o → overlapped k es ≡ o
    by None m =
        ap least (nothing_passes (is_overlapped k) es (sym (alike (is_in_way k.rank k.normal) (is_overlapped k) over)
        ∙ m))
    by (Some s) m =
        least_some s (is_overlapped k) es
        (sym (alike (λ r. is_in_way k.rank k.normal r && (r.id == s)) (λ e. is_overlapped k e && (e.serial == s))
        (λ e. ap (λ b. b && (e.serial == s)) (over e))) ∙ m.there)
        (sym (alike (λ r. is_in_way k.rank k.normal r && nat_lt r.id s) (λ e. is_overlapped k e && nat_lt e.serial s)
        (λ e. ap (λ b. b && nat_lt e.serial s) (over e))) ∙ m.none_less)

-- an entry that isn't refused overlaps none
not_overlapped : (k : Identity) (t : TableOf) → refusal_of k t ≡ None → overlapped k t.entries ≡ None
not_overlapped k t e = by (overlapped k t.entries) e
  where
    by : (o : Option ℕ) → refusal_by o k t ≡ None → o ≡ None
    by None e = refl
    by (Some s) e = absurd (cc)

not_in_way : (k : Identity) (t : TableOf) → refusal_of k t ≡ None → list_any (is_overlapped k) t.entries ≡ false
not_in_way k t e = by (list_any (is_overlapped k) t.entries) refl
  where
    none : serials_of (is_overlapped k) t.entries ≡ []
    none = none_least (serials_of (is_overlapped k) t.entries) (not_overlapped k t e)

    by : (b : Bool) → list_any (is_overlapped k) t.entries ≡ b → list_any (is_overlapped k) t.entries ≡ false
    by true h =
        absurd (true≢false (ap (λ ns. length ns == 0) (sym none)
        ∙ (something_passes (is_overlapped k) t.entries ∙ ap not h)))
    by false h = h

pub ready_is : (old new : Held) (m : FlowMod) (now : ℕ) (r : Option ℕ) → new.table ≡ old.table
    → refusal_of (identity_in m) old.table ≡ None → 0 < new.room → new.table.next + 2 < 2 ^ 64
    → IsNormal (normal_of m.m) → AreInRange m.actions → CanAdd new (option_to_list r) (entry_of old.table.next m now)
ready_is old new m now r same none room more normal in_range = record {
  serial = ap (λ t. t.next) (sym same);
  more = more;
  written = record { read = refl; ranked = refl; normal = normal; actions = in_range };
  apart = any_stronger (is_overlapped (identity_in m))
      (λ e. stays (option_to_list r) (replaced (Some (entry_of old.table.next m now)) new.table.entries) e &&
      (is_near (identity_in m) (identity_of e) && not (is_at (identity_in m) e)))
      (λ e h. (and_true (stays (option_to_list r) (replaced (Some (entry_of old.table.next m now)) new.table.entries) e)
      (is_overlapped (identity_in m) e) h).1) new.table.entries
      (ap (λ t. list_any (is_overlapped (identity_in m)) t.entries) same ∙ not_in_way (identity_in m) old.table none);
  room = room;
}

-- other actions in their ranges, for each of some numbers
pub each_in_range : (actions : List Action) (serials : List ℕ) → AreInRange actions
    → AllByRecursion IsInRange (map (λ s. record { serial = s; actions = actions }) serials)
each_in_range actions [] h = tt
each_in_range actions (s ∷ ss) h = (h, each_in_range actions ss h)

-- an entry that can be added
pub ready_added : (held : Held) (new : Entry) (r : Option ℕ) → CanAdd held (option_to_list r) new
    → CanCommit held (adding new r)
ready_added held new r can = record { added = can; modified = tt }

-- a removal can be made
pub removal_ready : (held : Held) (serials : List ℕ) (planned : Result Change TableFault)
    → IfOk planned (λ change. change ≡ removing serials) → IfOk planned (CanCommit held)
removal_ready held serials (Ok change) e = let C : Change
    → Type 0 = CanCommit held in subst C (sym e) (record { added = tt; modified = tt })
removal_ready held serials (Err fault) e = tt

-- what a message asks for makes the table after it
modification_makes : (strict : Bool) (t : TableOf) (m : FlowMod) (now : ℕ) → IsSound t
    → committed t (modification strict t m now) ≡ modified strict t m now
modification_makes strict t m now s = by (list_any (is_meant strict (identity_in m)) t.entries)
  where
    by : (b : Bool)
        → committed t (if b then changing m.actions (serials_of (is_meant strict (identity_in m)) t.entries)
        else addition t m now)
        ≡ (if b
        then record t
        { entries = map (λ e. if is_meant strict (identity_in m) e then with_actions m.actions e else e) t.entries }
        else with_entry t m now)
    by true = changing_is t (is_meant strict (identity_in m)) m.actions s
    by false = adding_is t m now _ refl

removal_makes : (strict : Bool) (t : TableOf) (m : FlowMod) → IsSound t
    → committed t (removal strict t m) ≡ deleted strict t m
removal_makes strict t m s = removing_is t (λ e. is_meant strict (identity_in m) e && outputs_to m.out_port e) s

pub change_makes_by : (command : Command) (t : TableOf) (m : FlowMod) (now : ℕ) → IsSound t
    → committed t (change_by_command command t m now) ≡ after_command command t m now
change_makes_by Add t m now s = adding_is t m now _ refl
change_makes_by Modify t m now s = modification_makes false t m now s
change_makes_by ModifyStrict t m now s = modification_makes true t m now s
change_makes_by Delete t m now s = removal_makes false t m s
change_makes_by DeleteStrict t m now s = removal_makes true t m s

pub change_asked_makes : (command : Option Command) (t : TableOf) (m : FlowMod) (now : ℕ) → IsSound t
    → committed t (change_asked command t m now) ≡ after_asked command t m now
change_asked_makes None t m now s = ap (λ es. record t { entries = es })
    (unaltered (filter (stays [] None) t.entries) ∙ all_stay None t.entries)
change_asked_makes (Some command) t m now s = change_makes_by command t m now s

pub change_makes : (t : TableOf) (m : FlowMod) (now : ℕ) → IsSound t → committed t (change_of t m now) ≡ after t m now
change_makes t m now s = change_asked_makes (command_at m.command) t m now s
