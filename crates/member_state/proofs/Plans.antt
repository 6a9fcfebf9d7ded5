-- What is planned, and what is made of it.
use Rattle.std.proofs.Common.{◌≡◌, ◌∙◌, ℕ, ◌≤◌, ◌==◌, Bool, true, false, not, cond, ◌||◌, ◌&&◌, List, [], ◌∷◌, ◌++◌}
use Rattle.std.proofs.Common.{map, filter, find, is_some, Some, None, Option, option_map, if◌then◌else◌, refl, sym, ap}
use Rattle.std.proofs.Common.{ap₂, subst, arith, true≢false, eqb-true, eq-eqb, Result, Ok, Err, OnOk, OnErr}
use Rattle.std.specs.List.{AllByRecursion, list_any}
use Rattle.std.specs.Prelude.{option_to_list}
use Rattle.std.proofs.Math.Pow.{pow_mono}
use Rattle.std.proofs.lemmas.List.Folds.{list_any-append}
use Rattle.std.proofs.lemmas.Bool.Decides.{Decides-eqb}
use Rattle.level_map.specs.Levels.{IsLevelling, Levels, level_of}
use Rattle.member_table.specs.Changes.{CanCommit, changed_by, committed, is_among, replaced, stays, with_added}
use Rattle.member_table.specs.Entries.{has_serial, identity_of, is_at, put}
use Rattle.member_table.specs.Planning.{removing}
use Rattle.member_table.specs.Sound.{IsSound}
use Rattle.member_table.specs.Tables.{TableOf, has_rank}
use Rattle.member_table.specs.declared.change.Change.{Change}
use Rattle.member_table.specs.declared.entry.Entry.{Entry}
use Rattle.member_table.proofs.Changing.{all_stay, unaltered}
use Rattle.member_table.proofs.Keyed.{each_found}
use Rattle.member_table.proofs.Least.{and_true, any_weaker, push_any}
use Rattle.member_state.specs.Changes.{entry_touched, levels_kept, table_without, touched, with_table, without}
use Rattle.member_state.specs.InsideRanks.{HasMoreRanks, drop_planned, rank_if_added, removal_planned, without_unused}
use Rattle.member_state.specs.Plans.{IsReady, after_planned, planned_table, ranks_of, touched_all, touched_among}
use Rattle.member_state.specs.Plans.{without_all}
use Rattle.member_state.specs.States.{HeldState, IsKept, MemberStateOf, held_table, opening}
use Rattle.member_state.specs.declared.planned.Planned.{Planned}
use Rattle.member_state.proofs.Levels.{kept_rising, level_kept}
use Rattle.member_state.proofs.Lists.{any_filter, any_map_same, eqb_flip, filter_all, filter_map_same, filter_same}
use Rattle.member_state.proofs.Lists.{filter_twice, map_id, map_same, map_twice, or_left, or_right}
use Rattle.member_state.proofs.Ranks.{changed_rank, changed_serial, comes_with, rank_committed, stays_had}
use Rattle.member_state.proofs.Ranks.{stays_or_goes}
use Rattle.member_state.proofs.Unused.{all_kept, has, kept_alike, kept_twice, unused_gone}

-- ---- entries that go besides

not_or : (a b : Bool) → not (a || b) ≡ (not a && not b)
not_or true b = refl
not_or false b = refl

pub none_dropped : (t : TableOf) → without_all [] t ≡ t
none_dropped t = ap (λ es. record t { entries = es }) (filter_all (λ e. true) (λ e. refl) t.entries)

-- one more
pub dropped_more : (serials : List ℕ) (s : ℕ) (t : TableOf) → without_all (serials ++ s ∷ []) t
    ≡ table_without s (without_all serials t)
dropped_more serials s t =
    ap (λ es. record t { entries = es })
    (filter_same (λ (e : Entry). not (is_among (serials ++ s ∷ []) e.serial))
    (λ (e : Entry). not (is_among serials e.serial) && not (has_serial s e))
    (λ e. ap not (push_any (λ k. k == e.serial) serials s) ∙ not_or (is_among serials e.serial) (s == e.serial))
    t.entries
    ∙ sym (filter_twice (λ (e : Entry). not (is_among serials e.serial)) (λ e. not (has_serial s e)) t.entries))

-- ---- counts that were seen to have risen

touched_serial : (serials : List ℕ) (now : ℕ) (e : Entry) → (touched_among serials now e).serial ≡ e.serial
touched_serial serials now e = by (is_among serials e.serial)
  where
    by : (b : Bool) → (if b then record e { last = now } else e).serial ≡ e.serial
    by true = refl
    by false = refl

touched_rank : (serials : List ℕ) (now : ℕ) (e : Entry) → (touched_among serials now e).rank ≡ e.rank
touched_rank serials now e = by (is_among serials e.serial)
  where
    by : (b : Bool) → (if b then record e { last = now } else e).rank ≡ e.rank
    by true = refl
    by false = refl

pub none_touched : (now : ℕ) (es : List Entry) → map (touched_among [] now) es ≡ es
none_touched now es = map_id (touched_among [] now) (λ e. refl) es

pub touched_more : (serials : List ℕ) (s now : ℕ) (es : List Entry) → map (touched_among (serials ++ s ∷ []) now) es
    ≡ map (entry_touched s now) (map (touched_among serials now) es)
touched_more serials s now es =
    map_same (touched_among (serials ++ s ∷ []) now) (λ e. entry_touched s now (touched_among serials now e))
    (λ e. ap (λ b. if b then record e { last = now } else e) (push_any (λ k. k == e.serial) serials s)
    ∙ by e (is_among serials e.serial) (s == e.serial) refl) es
    ∙ sym (map_twice (touched_among serials now) (entry_touched s now) es)
  where
    by : (e : Entry) (a b : Bool) → (s == e.serial) ≡ b → (if a || b then record e { last = now } else e)
        ≡ entry_touched s now (if a then record e { last = now } else e)
    by e true true q = rw q refl
    by e true false q = rw q refl
    by e false true q = rw q refl
    by e false false q = rw q refl

pub touched_first : (s now : ℕ) (serials : List ℕ) (es : List Entry)
    → map (touched_among serials now) (map (entry_touched s now) es) ≡ map (touched_among (s ∷ serials) now) es
touched_first s now serials es =
    map_twice (entry_touched s now) (touched_among serials now) es
    ∙ map_same (λ e. touched_among serials now (entry_touched s now e)) (touched_among (s ∷ serials) now)
    (λ e. by e (s == e.serial) (is_among serials e.serial) refl) es
  where
    by : (e : Entry) (a b : Bool) → is_among serials e.serial ≡ b
        → touched_among serials now (if a then record e { last = now } else e)
        ≡ (if a || b then record e { last = now } else e)
    by e true true q = rw q refl
    by e true false q = rw q refl
    by e false true q = rw q refl
    by e false false q = rw q refl

pub has_touched : (serials : List ℕ) (now q : ℕ) (es : List Entry) → has (map (touched_among serials now) es) q
    ≡ has es q
has_touched serials now q es = any_map_same (touched_among serials now) (has_rank q)
    (λ e. ap (λ n. q == n) (touched_rank serials now e)) es

-- a table in which the counts of the entries of these numbers were seen to have risen
abbrev pub table_touched : List ℕ → ℕ → TableOf → TableOf
table_touched serials now t = record t { entries = map (touched_among serials now) t.entries }

-- ---- what is planned first

-- a change with levels, and nothing besides
pub fresh : (x : MemberStateOf) (c : Change) (ranks : List ℕ) (l : Levels) (now : ℕ)
    → after_planned x (record { change = c; ranks = ranks; dropped = []; touched = []; levels = l }) now
    ≡ with_table (committed x.table c) (record x { levels = l })
fresh x c ranks l now =
    let t = committed x.table c in
    ap (λ (u : TableOf). touched_all [] now (with_table u (record x { levels = l }))) (none_dropped t)
    ∙ (λ i. record { table = record t { entries = none_touched now t.entries i }; levels = levels_kept t.entries l })

module _ (h : HeldState) (sound : IsSound h.state.table) (kept : IsKept h.state) where
  -- it can be made
  pub fresh_ready : (c : Change) (l : Levels) → CanCommit (held_table h) c → IsLevelling l.size l.ranked
      → ((q : ℕ) → is_some (level_of l q) ≡ (comes_with c.added q || is_some (level_of h.state.levels q)))
      → IsReady h (record {
        change = c;
        ranks = ranks_of h.state.table.entries c.removed;
        dropped = [];
        touched = [];
        levels = l;
      })
  fresh_ready c l can levelling some = record {
    change = can;
    levels = levelling;
    levelled = λ q t. some q
        ∙ (ap (λ b. comes_with c.added q || b) (kept.ranks q)
        ∙ has_level q (comes_with c.added q) (sym (there q) ∙ t));
    left = λ q t. ap (λ b. b || is_among (ranks_of h.state.table.entries c.removed) q) (there q)
        ∙ has_entry q (comes_with c.added q) (sym (some q ∙ ap (λ b. comes_with c.added q || b) (kept.ranks q)) ∙ t);
  }
    where
      there : (q : ℕ) → has (without_all [] (committed h.state.table c)).entries q
          ≡ (comes_with c.added q
          || list_any (λ e. stays c.removed (replaced c.added h.state.table.entries) e && has_rank q e)
          h.state.table.entries)
      there q = ap (λ (t : TableOf). has t.entries q) (none_dropped (committed h.state.table c))
          ∙ rank_committed h.state.table c q

      has_level : (q : ℕ) (a : Bool)
          → (a || list_any (λ e. stays c.removed (replaced c.added h.state.table.entries) e && has_rank q e)
          h.state.table.entries) ≡ true → (a || has h.state.table.entries q) ≡ true
      has_level q true t = refl
      has_level q false t = stays_had c.removed (replaced c.added h.state.table.entries) q h.state.table.entries t

      has_entry : (q : ℕ) (a : Bool) → (a || has h.state.table.entries q) ≡ true
          → ((a || list_any (λ e. stays c.removed (replaced c.added h.state.table.entries) e && has_rank q e)
          h.state.table.entries) || is_among (ranks_of h.state.table.entries c.removed) q) ≡ true
      has_entry q true t = refl
      has_entry q false t = stays_or_goes h.state.table.entries c.removed (replaced c.added h.state.table.entries) q
          h.state.table.entries
          (each_found ◌==◌ Decides-eqb (λ (e : Entry). e.serial) h.state.table.entries sound.once) t

  pub removal_ready : (serials : List ℕ) → IsReady h (removal_planned h.state serials)
  removal_ready serials = fresh_ready (removing serials) h.state.levels (record { added = tt; modified = tt })
      kept.levels (λ q. refl)

  pub stay_planned : (now : ℕ) → after_planned h.state (removal_planned h.state []) now ≡ h.state
  stay_planned now =
      let t = h.state.table in
      let same : committed t (removing [])
      ≡ t = ap (λ es. record t { entries = es })
      (unaltered (filter (stays [] None) t.entries) ∙ all_stay None t.entries) in
      fresh h.state (removing []) [] h.state.levels now
      ∙ (ap (λ (u : TableOf). with_table u h.state) same
      ∙ ap (λ (l : Levels). record { table = t; levels = l })
      (all_kept t.entries h.state.levels (λ q s. sym (kept.ranks q) ∙ s)))

-- ---- what is planned besides

drop_made : (t : TableOf) (l : Levels) (f : Entry → Entry) → ((e : Entry) → (f e).serial ≡ e.serial)
    → ((e : Entry) → (f e).rank ≡ e.rank) → (s : ℕ) → let u : TableOf = table_without s t in
    record { table = record u { entries = map f u.entries }; levels = levels_kept u.entries l }
    ≡ without s (record { table = record t { entries = map f t.entries }; levels = levels_kept t.entries l })
drop_made t l f serials ranks s = λ i. record { table = record t { entries = sym moved i }; levels = levels i }
  where
    moved : filter (λ e. not (has_serial s e)) (map f t.entries) ≡ map f (filter (λ e. not (has_serial s e)) t.entries)
    moved = filter_map_same f (λ e. not (has_serial s e)) (λ e. ap (λ n. not (s == n)) (serials e)) t.entries

    fewer : (q : ℕ) → has (filter (λ e. not (has_serial s e)) (map f t.entries)) q
        ≡ has (filter (λ e. not (has_serial s e)) t.entries) q
    fewer q = ap (λ es. has es q) moved ∙ any_map_same f (has_rank q) (λ e. ap (λ n. q == n) (ranks e))
        (filter (λ e. not (has_serial s e)) t.entries)

    had : (q : ℕ) → has (filter (λ e. not (has_serial s e)) (map f t.entries)) q ≡ true → has t.entries q ≡ true
    had q h =
        any_weaker (λ e. not (has_serial s e) && has_rank q e) (has_rank q)
        (λ e p. (and_true (not (has_serial s e)) (has_rank q e) p).1) t.entries
        (sym (any_filter (has_rank q) (λ e. not (has_serial s e)) t.entries) ∙ (sym (fewer q) ∙ h))

    levels : levels_kept (filter (λ e. not (has_serial s e)) t.entries) l
        ≡ levels_kept (filter (λ e. not (has_serial s e)) (map f t.entries)) (levels_kept t.entries l)
    levels =
        kept_alike (filter (λ e. not (has_serial s e)) t.entries)
        (filter (λ e. not (has_serial s e)) (map f t.entries)) l (λ q. sym (fewer q))
        ∙ sym (kept_twice t.entries (filter (λ e. not (has_serial s e)) (map f t.entries)) l had)

-- an entry goes too
pub drop_after : (x : MemberStateOf) (p : Planned) (s : ℕ) (ranks : List ℕ) (now : ℕ)
    → after_planned x (record p { ranks = ranks; dropped = p.dropped ++ s ∷ [] }) now
    ≡ without s (after_planned x p now)
drop_after x p s ranks now =
    let t = planned_table x.table p in
    ap (λ (u : TableOf). touched_all p.touched now (with_table u (record x { levels = p.levels })))
    (dropped_more p.dropped s (committed x.table p.change))
    ∙ drop_made t p.levels (touched_among p.touched now) (touched_serial p.touched now) (touched_rank p.touched now) s

-- a count was seen to have risen
pub touch_planned : (x : MemberStateOf) (p : Planned) (s now : ℕ)
    → after_planned x (record p { touched = p.touched ++ s ∷ [] }) now ≡ touched s now (after_planned x p now)
touch_planned x p s now =
    let t = planned_table x.table p in
    λ i. record {
      table = record t { entries = touched_more p.touched s now t.entries i };
      levels = levels_kept t.entries p.levels;
    }

-- more ranks may lose their levels
pub more_ranks : (h : HeldState) (p : Planned) (ranks : List ℕ)
    → ((q : ℕ) → is_among p.ranks q ≡ true → is_among ranks q ≡ true) → IsReady h p
    → IsReady h (record p { ranks = ranks })
more_ranks h p ranks more r = record {
  change = r.change;
  levels = r.levels;
  levelled = r.levelled;
  left = λ q t. by q (has (planned_table h.state.table p).entries q) (is_among p.ranks q) refl (r.left q t);
}
  where
    by : (q : ℕ) (a b : Bool) → is_among p.ranks q ≡ b → (a || b) ≡ true → (a || is_among ranks q) ≡ true
    by q true b e t = refl
    by q false b e t = more q (e ∙ t)

-- ---- what is planned is made

pub levels_made : (h : HeldState) (p : Planned) (now : ℕ) → IsReady h p
    → without_unused (map (touched_among p.touched now) (planned_table h.state.table p).entries) p.ranks p.levels
    ≡ (after_planned h.state p now).levels
levels_made h p now r =
    let es = (planned_table h.state.table p).entries in
    unused_gone (map (touched_among p.touched now) es) p.ranks p.levels
    (λ q t. ap (λ b. b || is_among p.ranks q) (has_touched p.touched now q es) ∙ r.left q t)
    ∙ kept_alike (map (touched_among p.touched now) es) es p.levels (λ q. has_touched p.touched now q es)

-- and the state is kept
pub kept_made : (h : HeldState) (p : Planned) (now : ℕ) → IsReady h p → IsKept (after_planned h.state p now)
kept_made h p now r = record {
  levels = record {
    size_from = r.levels.size_from;
    size_to = r.levels.size_to;
    rising = kept_rising _ 0 2 p.levels.size p.levels.ranked r.levels.rising;
  };
  ranks = λ q. ap is_some (level_kept (has (planned_table h.state.table p).entries) p.levels.ranked q)
      ∙ (by q (has (planned_table h.state.table p).entries q) refl
      ∙ sym (has_touched p.touched now q (planned_table h.state.table p).entries));
}
  where
    by : (q : ℕ) (b : Bool) → has (planned_table h.state.table p).entries q ≡ b
        → is_some (if b then level_of p.levels q else None) ≡ has (planned_table h.state.table p).entries q
    by q true e = r.levelled q e ∙ sym e
    by q false e = sym e

-- a state without entries is kept
pub opening_kept : (bits limit : ℕ) → 2 ≤ bits → bits ≤ 15 → IsKept (opening bits limit)
opening_kept bits limit from to =
    let low = pow_mono {i = 2} {j = bits} from in
    let high = pow_mono {i = bits} {j = 15} to in
    record {
      levels = record { size_from = omega (arith, low); size_to = omega (arith, high); rising = tt };
      ranks = λ q. refl;
    }

-- ---- a rank more for an entry that goes too

-- the entry of a number has the rank of the one that comes, or of that of the table
ranked_here : (es : List Entry) (s q : ℕ) (rest : List Entry)
    → AllByRecursion (λ (e : Entry). find (has_serial e.serial) es ≡ Some e) rest
    → list_any (λ e. has_serial s e && has_rank q e) rest ≡ true
    → option_map (λ (e : Entry). e.rank) (find (has_serial s) es) ≡ Some q
ranked_here es s q [] a h = absurd (true≢false (sym h))
ranked_here es s q (e ∷ rest) a h = by (λ k. ranked_here es s q rest a.1 k) (has_serial s e) refl (has_rank q e) refl h
  where
    by : (list_any (λ x. has_serial s x && has_rank q x) rest ≡ true
        → option_map (λ (x : Entry). x.rank) (find (has_serial s) es) ≡ Some q) → (b : Bool) → has_serial s e ≡ b
        → (c : Bool) → has_rank q e ≡ c → ((b && c) || list_any (λ x. has_serial s x && has_rank q x) rest) ≡ true
        → option_map (λ (x : Entry). x.rank) (find (has_serial s) es) ≡ Some q
    by later true t true r k = ap (λ n. option_map (λ (x : Entry). x.rank) (find (has_serial n) es))
        (eqb-true s e.serial t) ∙ (ap (option_map (λ (x : Entry). x.rank)) a.0 ∙ ap Some (sym (eqb-true q e.rank r)))
    by later true t false r k = later k
    by later false t c r k = later k

put_ranked : (s q : ℕ) (new : Entry) (es : List Entry) → list_any (λ e. has_serial s e && has_rank q e) (put new es)
    ≡ true → ((has_serial s new && has_rank q new) || list_any (λ e. has_serial s e && has_rank q e) es) ≡ true
put_ranked s q new [] h = h
put_ranked s q new (e ∷ es) h = by (λ k. put_ranked s q new es k) (is_at (identity_of new) e) h
  where
    skip : (a b c : Bool) → (a || c) ≡ true → (a || (b || c)) ≡ true
    skip true b c k = refl
    skip false true c k = refl
    skip false false c k = k

    turn : (a b c d : Bool) → (c ≡ true → (a || d) ≡ true) → (b || c) ≡ true → (a || (b || d)) ≡ true
    turn true b c d f k = refl
    turn false true c d f k = refl
    turn false false c d f k = f k

    by : (list_any (λ x. has_serial s x && has_rank q x) (put new es) ≡ true
        → ((has_serial s new && has_rank q new) || list_any (λ x. has_serial s x && has_rank q x) es) ≡ true)
        → (b : Bool) → list_any (λ x. has_serial s x && has_rank q x) (if b then new ∷ es else e ∷ put new es) ≡ true
        → ((has_serial s new && has_rank q new)
        || ((has_serial s e && has_rank q e) || list_any (λ x. has_serial s x && has_rank q x) es)) ≡ true
    by later true k = skip (has_serial s new && has_rank q new) (has_serial s e && has_rank q e)
        (list_any (λ x. has_serial s x && has_rank q x) es) k
    by later false k = turn (has_serial s new && has_rank q new) (has_serial s e && has_rank q e)
        (list_any (λ x. has_serial s x && has_rank q x) (put new es))
        (list_any (λ x. has_serial s x && has_rank q x) es) later k

-- a rank that one entry of these has is that of one without the number, or of one with it
parted : (s q : ℕ) (es : List Entry) → has es q ≡ true
    → (has (filter (λ e. not (has_serial s e)) es) q || list_any (λ e. has_serial s e && has_rank q e) es) ≡ true
parted s q es h = ap (λ b. b || list_any (λ e. has_serial s e && has_rank q e) es)
    (any_filter (has_rank q) (λ e. not (has_serial s e)) es) ∙ each es h
  where
    turn : (a b c d e : Bool) → (b ≡ true → (c || d) ≡ true) → (e || b) ≡ true
        → (((not a && e) || c) || ((a && e) || d)) ≡ true
    turn true b c d true f k = or_right c true refl
    turn false b c d true f k = refl
    turn true b c d false f k = f k
    turn false b c d false f k = f k

    each : (es : List Entry) → has es q ≡ true
        → (list_any (λ e. not (has_serial s e) && has_rank q e) es
        || list_any (λ e. has_serial s e && has_rank q e) es) ≡ true
    each [] k = absurd (true≢false (sym k))
    each (e ∷ es) k =
        turn (has_serial s e) (has es q) (list_any (λ e. not (has_serial s e) && has_rank q e) es)
        (list_any (λ e. has_serial s e && has_rank q e) es) (has_rank q e) (each es) k

-- an entry comes that has the number and the rank
abbrev comes_numbered : ℕ → ℕ → Option Entry → Bool
comes_numbered s q None = false
comes_numbered s q (Some e) = has_serial s e && has_rank q e

in_committed : (t : TableOf) (c : Change) (s q : ℕ)
    → list_any (λ e. has_serial s e && has_rank q e) (committed t c).entries ≡ true
    → (comes_numbered s q c.added || list_any (λ e. has_serial s e && has_rank q e) t.entries) ≡ true
in_committed t c s q h = by c.added h
  where
    stayed : list_any (λ e. has_serial s e && has_rank q e)
        (map (changed_by c.modified) (filter (stays c.removed (replaced c.added t.entries)) t.entries)) ≡ true
        → list_any (λ e. has_serial s e && has_rank q e) t.entries ≡ true
    stayed k =
        any_weaker (λ e. stays c.removed (replaced c.added t.entries) e && (has_serial s e && has_rank q e))
        (λ e. has_serial s e && has_rank q e)
        (λ e p. (and_true (stays c.removed (replaced c.added t.entries) e) (has_serial s e && has_rank q e) p).1)
        t.entries
        (sym (any_filter (λ e. has_serial s e && has_rank q e) (stays c.removed (replaced c.added t.entries)) t.entries)
        ∙ (sym (any_map_same (changed_by c.modified) (λ e. has_serial s e && has_rank q e)
        (λ e. ap₂ (λ n r. (s == n) && (q == r)) (changed_serial c.modified e) (changed_rank c.modified e))
        (filter (stays c.removed (replaced c.added t.entries)) t.entries)) ∙ k))

    turn : (a b d : Bool) → (b ≡ true → d ≡ true) → (a || b) ≡ true → (a || d) ≡ true
    turn true b d f k = refl
    turn false b d f k = f k

    by : (added : Option Entry)
        → list_any (λ e. has_serial s e && has_rank q e)
        (with_added added
        (map (changed_by c.modified) (filter (stays c.removed (replaced c.added t.entries)) t.entries))) ≡ true
        → (comes_numbered s q added || list_any (λ e. has_serial s e && has_rank q e) t.entries) ≡ true
    by None k = stayed k
    by (Some new) k =
        turn (has_serial s new && has_rank q new)
        (list_any (λ e. has_serial s e && has_rank q e)
        (map (changed_by c.modified) (filter (stays c.removed (replaced c.added t.entries)) t.entries)))
        (list_any (λ e. has_serial s e && has_rank q e) t.entries) stayed
        (put_ranked s q new
        (map (changed_by c.modified) (filter (stays c.removed (replaced c.added t.entries)) t.entries)) k)

among_added : (s q : ℕ) (added : Option Entry) → comes_numbered s q added ≡ true
    → is_among (option_to_list (rank_if_added s added)) q ≡ true
among_added s q None h = absurd (true≢false (sym h))
among_added s q (Some e) h = by (has_serial s e) h
  where
    by : (b : Bool) → (b && has_rank q e) ≡ true → is_among (option_to_list (if b then Some e.rank else None)) q ≡ true
    by true k = or_left (e.rank == q) false (eqb_flip e.rank q ∙ k)
    by false k = absurd (true≢false (sym k))

among_one : (q : ℕ) (o : Option ℕ) → o ≡ Some q → is_among (option_to_list o) q ≡ true
among_one q None e = absurd (cc)
among_one q (Some r) e = let same : r ≡ q = cc in or_left (r == q) false (eq-eqb r q same)

module _ (h : HeldState) (p : Planned) (s : ℕ) (sound : IsSound h.state.table) (r : IsReady h p) where
  pub drop_ready : IsReady h
      (drop_planned s (option_map (λ (e : Entry). e.rank) (find (has_serial s) h.state.table.entries)) p)
  drop_ready = record {
    change = r.change;
    levels = r.levels;
    levelled = λ q t. r.levelled q (fewer q t);
    left = λ q t. ap₂ (λ a b. a || b) (gone q)
        (list_any-append (λ k. k == q) p.ranks
        (option_to_list (option_map (λ (e : Entry). e.rank) (find (has_serial s) h.state.table.entries))
        ++ option_to_list (rank_if_added s p.change.added)))
        ∙ remains q (has (planned_table h.state.table p).entries q) refl (r.left q t);
  }
    where
      gone : (q : ℕ) → has (without_all (p.dropped ++ s ∷ []) (committed h.state.table p.change)).entries q
          ≡ has (filter (λ e. not (has_serial s e)) (planned_table h.state.table p).entries) q
      gone q = ap (λ (t : TableOf). has t.entries q) (dropped_more p.dropped s (committed h.state.table p.change))

      fewer : (q : ℕ) → has (without_all (p.dropped ++ s ∷ []) (committed h.state.table p.change)).entries q ≡ true
          → has (planned_table h.state.table p).entries q ≡ true
      fewer q t =
          any_weaker (λ e. not (has_serial s e) && has_rank q e) (has_rank q)
          (λ e a. (and_true (not (has_serial s e)) (has_rank q e) a).1) (planned_table h.state.table p).entries
          (sym (any_filter (has_rank q) (λ e. not (has_serial s e)) (planned_table h.state.table p).entries)
          ∙ (sym (gone q) ∙ t))

      numbered : (q : ℕ) → list_any (λ e. has_serial s e && has_rank q e) (planned_table h.state.table p).entries
          ≡ true → list_any (λ e. has_serial s e && has_rank q e) (committed h.state.table p.change).entries ≡ true
      numbered q k =
          any_weaker (λ e. not (is_among p.dropped e.serial) && (has_serial s e && has_rank q e))
          (λ e. has_serial s e && has_rank q e)
          (λ e a. (and_true (not (is_among p.dropped e.serial)) (has_serial s e && has_rank q e) a).1)
          (committed h.state.table p.change).entries
          (sym (any_filter (λ e. has_serial s e && has_rank q e) (λ (e : Entry). not (is_among p.dropped e.serial))
          (committed h.state.table p.change).entries) ∙ k)

      known : (q : ℕ) (a b : Bool) → comes_numbered s q p.change.added ≡ a
          → list_any (λ e. has_serial s e && has_rank q e) h.state.table.entries ≡ b → (a || b) ≡ true
          → is_among (option_to_list (option_map (λ (e : Entry). e.rank) (find (has_serial s) h.state.table.entries))
          ++ option_to_list (rank_if_added s p.change.added)) q ≡ true
      known q true b e f k =
          list_any-append (λ n. n == q)
          (option_to_list (option_map (λ (x : Entry). x.rank) (find (has_serial s) h.state.table.entries)))
          (option_to_list (rank_if_added s p.change.added))
          ∙ or_right (is_among
          (option_to_list (option_map (λ (x : Entry). x.rank) (find (has_serial s) h.state.table.entries))) q)
          (is_among (option_to_list (rank_if_added s p.change.added)) q) (among_added s q p.change.added e)
      known q false true e f k =
          list_any-append (λ n. n == q)
          (option_to_list (option_map (λ (x : Entry). x.rank) (find (has_serial s) h.state.table.entries)))
          (option_to_list (rank_if_added s p.change.added))
          ∙ or_left (is_among
          (option_to_list (option_map (λ (x : Entry). x.rank) (find (has_serial s) h.state.table.entries))) q)
          (is_among (option_to_list (rank_if_added s p.change.added)) q)
          (among_one q (option_map (λ (x : Entry). x.rank) (find (has_serial s) h.state.table.entries))
          (ranked_here h.state.table.entries s q h.state.table.entries
          (each_found ◌==◌ Decides-eqb (λ (x : Entry). x.serial) h.state.table.entries sound.once) f))
      known q false false e f k = absurd (true≢false (sym k))

      ranked : (q : ℕ) → list_any (λ e. has_serial s e && has_rank q e) (planned_table h.state.table p).entries ≡ true
          → is_among (option_to_list (option_map (λ (e : Entry). e.rank) (find (has_serial s) h.state.table.entries))
          ++ option_to_list (rank_if_added s p.change.added)) q ≡ true
      ranked q k = known q (comes_numbered s q p.change.added)
          (list_any (λ e. has_serial s e && has_rank q e) h.state.table.entries) refl refl
          (in_committed h.state.table p.change s q (numbered q k))

      turn : (a b c d : Bool) → (b ≡ true → d ≡ true) → (a || b) ≡ true → (a || (c || d)) ≡ true
      turn true b c d f k = refl
      turn false b c d f k = or_right c d (f k)

      remains : (q : ℕ) (a : Bool) → has (planned_table h.state.table p).entries q ≡ a → (a || is_among p.ranks q)
          ≡ true
          → (has (filter (λ e. not (has_serial s e)) (planned_table h.state.table p).entries) q
          || (is_among p.ranks q
          || is_among
          (option_to_list (option_map (λ (e : Entry). e.rank) (find (has_serial s) h.state.table.entries))
          ++ option_to_list (rank_if_added s p.change.added)) q)) ≡ true
      remains q true e k =
          turn (has (filter (λ x. not (has_serial s x)) (planned_table h.state.table p).entries) q)
          (list_any (λ x. has_serial s x && has_rank q x) (planned_table h.state.table p).entries)
          (is_among p.ranks q)
          (is_among (option_to_list (option_map (λ (x : Entry). x.rank) (find (has_serial s) h.state.table.entries))
          ++ option_to_list (rank_if_added s p.change.added)) q) (ranked q)
          (parted s q (planned_table h.state.table p).entries e)
      remains q false e k =
          or_right (has (filter (λ x. not (has_serial s x)) (planned_table h.state.table p).entries) q)
          (is_among p.ranks q
          || is_among
          (option_to_list (option_map (λ (x : Entry). x.rank) (find (has_serial s) h.state.table.entries))
          ++ option_to_list (rank_if_added s p.change.added)) q)
          (or_left (is_among p.ranks q)
          (is_among (option_to_list
          (option_map (λ (x : Entry). x.rank) (find (has_serial s) h.state.table.entries))
          ++ option_to_list (rank_if_added s p.change.added)) q) k)

-- more ranks may lose their levels, and nothing else is planned
pub more_after : (x : MemberStateOf) (old new : Planned) (now : ℕ) → HasMoreRanks old new → after_planned x new now
    ≡ after_planned x old now
more_after x old new now m = ap (λ p. after_planned x p now) m.is

pub more_ready : (h : HeldState) (old new : Planned) → HasMoreRanks old new → IsReady h old → IsReady h new
more_ready h old new m r =
    subst (IsReady h) (sym m.is)
    (more_ranks h old (old.ranks ++ m.more)
    (λ q t. list_any-append (λ k. k == q) old.ranks m.more ∙ or_left (is_among old.ranks q) (is_among m.more q) t)
    r)

-- an entry goes too, or memory runs out
pub drop_keeps : {A B : Type 0} (answer : Result A B) (h : HeldState) (old new : Planned) (s : ℕ) (rank : Option ℕ)
    → IsSound h.state.table → rank ≡ option_map (λ (e : Entry). e.rank) (find (has_serial s) h.state.table.entries)
    → OnOk answer (new ≡ drop_planned s rank old) → OnErr answer (HasMoreRanks old new) → IsReady h old → IsReady h new
drop_keeps (Ok x) h old new s rank sound there made more r = subst (IsReady h)
    (sym (made ∙ ap (λ o. drop_planned s o old) there)) (drop_ready h old s sound r)
drop_keeps (Err e) h old new s rank sound there made more r = more_ready h old new more r
