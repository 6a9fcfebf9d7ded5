-- The ranks of entries after a change.
use Rattle.std.proofs.Common.{◌≡◌, ◌∙◌, ℕ, ◌==◌, Bool, true, false, not, cond, ◌||◌, ◌&&◌, List, [], ◌∷◌, ◌++◌, map}
use Rattle.std.proofs.Common.{filter, find, Option, Some, None, option_map, if◌then◌else◌, refl, sym, ap, ap₂}
use Rattle.std.proofs.Common.{true≢false, eqb-true, eq-eqb}
use Rattle.std.specs.Prelude.{filter_map, option_to_list}
use Rattle.std.specs.List.{AllByRecursion, cons_option, list_any}
use Rattle.of10_match.specs.Same.{same_match}
use Rattle.member_table.specs.Changes.{changed_by, committed, is_among, is_number, replaced, stays, with_added}
use Rattle.member_table.specs.Entries.{has_serial, identity_of, is_at, put}
use Rattle.member_table.specs.Tables.{TableOf, has_rank, with_actions}
use Rattle.member_table.specs.declared.change.Change.{Change}
use Rattle.member_table.specs.declared.change.Modified.{Modified}
use Rattle.member_table.specs.declared.entry.Entry.{Entry}
use Rattle.member_table.proofs.Least.{and_true, any_weaker}
use Rattle.member_state.specs.Plans.{ranks_of}
use Rattle.member_state.proofs.Lists.{any_filter, any_map_same, eqb_flip, or_left, or_right, or_swap}

-- there is an entry that comes, and it has the rank
abbrev pub comes_with : Option Entry → ℕ → Bool
comes_with None rank = false
comes_with (Some e) rank = has_rank rank e

-- an entry that comes brings its rank, and the one whose place it takes has the same
pub rank_put : (rank : ℕ) (new : Entry) (es : List Entry) → list_any (has_rank rank) (put new es)
    ≡ (has_rank rank new || list_any (has_rank rank) es)
rank_put rank new [] = refl
rank_put rank new (e ∷ es) = by (is_at (identity_of new) e) refl (rank_put rank new es)
  where
    twice : (a b : Bool) → (a || b) ≡ (a || (a || b))
    twice true b = refl
    twice false b = refl

    by : (b : Bool) → is_at (identity_of new) e ≡ b → list_any (has_rank rank) (put new es)
        ≡ (has_rank rank new || list_any (has_rank rank) es)
        → list_any (has_rank rank) (if b then new ∷ es else e ∷ put new es)
        ≡ (has_rank rank new || (has_rank rank e || list_any (has_rank rank) es))
    by true t h =
        let equal : new.rank
        ≡ e.rank = eqb-true new.rank e.rank
        (and_true (new.rank == e.rank) (same_match new.normal e.normal) t).0 in
        twice (has_rank rank new) (list_any (has_rank rank) es)
        ∙ ap (λ n. has_rank rank new || ((rank == n) || list_any (has_rank rank) es)) equal
    by false t h = ap (λ b. has_rank rank e || b) h
        ∙ or_swap (has_rank rank e) (has_rank rank new) (list_any (has_rank rank) es)

pub changed_rank : (ms : List Modified) (e : Entry) → (changed_by ms e).rank ≡ e.rank
changed_rank [] e = refl
changed_rank (m ∷ ms) e = by (m.serial == e.serial) (changed_rank ms e)
  where
    by : (b : Bool) → (changed_by ms e).rank ≡ e.rank → (if b then with_actions m.actions e else changed_by ms e).rank
        ≡ e.rank
    by true h = refl
    by false h = h

pub changed_serial : (ms : List Modified) (e : Entry) → (changed_by ms e).serial ≡ e.serial
changed_serial [] e = refl
changed_serial (m ∷ ms) e = by (m.serial == e.serial) (changed_serial ms e)
  where
    by : (b : Bool) → (changed_by ms e).serial ≡ e.serial
        → (if b then with_actions m.actions e else changed_by ms e).serial ≡ e.serial
    by true h = refl
    by false h = h

rank_added : (rank : ℕ) (added : Option Entry) (es : List Entry) → list_any (has_rank rank) (with_added added es)
    ≡ (comes_with added rank || list_any (has_rank rank) es)
rank_added rank None es = refl
rank_added rank (Some new) es = rank_put rank new es

-- the ranks after a change: that of the entry that comes, and those of the entries that stay
pub rank_committed : (t : TableOf) (c : Change) (rank : ℕ) → list_any (has_rank rank) (committed t c).entries
    ≡ (comes_with c.added rank || list_any (λ e. stays c.removed (replaced c.added t.entries) e && has_rank rank e)
    t.entries)
rank_committed t c rank =
    let left = filter (stays c.removed (replaced c.added t.entries)) t.entries in
    rank_added rank c.added (map (changed_by c.modified) left)
    ∙ ap (λ b. comes_with c.added rank || b)
    (any_map_same (changed_by c.modified) (has_rank rank) (λ e. ap (λ n. rank == n) (changed_rank c.modified e))
    left
    ∙ any_filter (has_rank rank) (stays c.removed (replaced c.added t.entries)) t.entries)

-- the rank of an entry that goes is among the ranks of those that go
pub among_ranks : (es : List Entry) (e : Entry) (serials : List ℕ) → find (has_serial e.serial) es ≡ Some e
    → is_among serials e.serial ≡ true → is_among (ranks_of es serials) e.rank ≡ true
among_ranks es e [] f h = absurd (true≢false (sym h))
among_ranks es e (s ∷ ss) f h = by (λ g. among_ranks es e ss f g) (s == e.serial) refl h
  where
    more : (o : Option Entry) → is_among (ranks_of es ss) e.rank ≡ true
        → is_among (cons_option (option_map (λ (x : Entry). x.rank) o) (ranks_of es ss)) e.rank ≡ true
    more None r = r
    more (Some x) r = or_right (x.rank == e.rank) (is_among (ranks_of es ss) e.rank) r

    here : (o : Option Entry) → o ≡ Some e
        → is_among (cons_option (option_map (λ (x : Entry). x.rank) o) (ranks_of es ss)) e.rank ≡ true
    here None g = absurd (cc)
    here (Some x) g = let same : x ≡ e = cc in or_left (x.rank == e.rank) (is_among (ranks_of es ss) e.rank)
        (eq-eqb x.rank e.rank (ap (λ (y : Entry). y.rank) same))

    by : (is_among ss e.serial ≡ true → is_among (ranks_of es ss) e.rank ≡ true) → (b : Bool) → (s == e.serial) ≡ b
        → (b || is_among ss e.serial) ≡ true → is_among (ranks_of es (s ∷ ss)) e.rank ≡ true
    by later true t g = here (find (has_serial s) es) (ap (λ n. find (has_serial n) es) (eqb-true s e.serial t) ∙ f)
    by later false t g = more (find (has_serial s) es) (later g)

-- a rank that an entry has is that of one that stays, or is among those of the ones that go
pub stays_or_goes : (all : List Entry) (removed : List ℕ) (place : Option ℕ) (rank : ℕ) (es : List Entry)
    → AllByRecursion (λ (e : Entry). find (has_serial e.serial) all ≡ Some e) es
    → list_any (has_rank rank) es ≡ true
    → (list_any (λ e. stays removed place e && has_rank rank e) es || is_among (ranks_of all removed) rank) ≡ true
stays_or_goes all removed place rank [] a h = absurd (true≢false (sym h))
stays_or_goes all removed place rank (e ∷ es) a h = by (λ g. stays_or_goes all removed place rank es a.1 g)
    (has_rank rank e) refl h
  where
    gone : (c : Bool) (n : Bool) → is_among removed e.serial ≡ c → has_rank rank e ≡ true
        → (((not c || n) && true) || list_any (λ x. stays removed place x && has_rank rank x) es
        || is_among (ranks_of all removed) rank) ≡ true
    gone true true t r = refl
    gone true false t r = or_right (list_any (λ x. stays removed place x && has_rank rank x) es)
        (is_among (ranks_of all removed) rank) (ap (is_among (ranks_of all removed)) (eqb-true rank e.rank r)
        ∙ among_ranks all e removed a.0 t)
    gone false n t r = refl

    later : (x : Bool)
        → (list_any (λ x. stays removed place x && has_rank rank x) es || is_among (ranks_of all removed) rank) ≡ true
        → ((x || list_any (λ x. stays removed place x && has_rank rank x) es) || is_among (ranks_of all removed) rank)
        ≡ true
    later true r = refl
    later false r = r

    by : (list_any (has_rank rank) es ≡ true
        → (list_any (λ x. stays removed place x && has_rank rank x) es || is_among (ranks_of all removed) rank)
        ≡ true) → (b : Bool) → has_rank rank e ≡ b → (b || list_any (has_rank rank) es) ≡ true
        → (((stays removed place e && has_rank rank e) || list_any (λ x. stays removed place x && has_rank rank x) es)
        || is_among (ranks_of all removed) rank) ≡ true
    by more true t g = ap
        (λ b. ((stays removed place e && b) || list_any (λ x. stays removed place x && has_rank rank x) es)
        || is_among (ranks_of all removed) rank) t ∙ gone (is_among removed e.serial) (is_number place e.serial) refl
        t
    by more false t g = later (stays removed place e && has_rank rank e) (more g)

pub stays_had : (removed : List ℕ) (place : Option ℕ) (rank : ℕ) (es : List Entry)
    → list_any (λ e. stays removed place e && has_rank rank e) es ≡ true → list_any (has_rank rank) es ≡ true
stays_had removed place rank es h =
    any_weaker (λ e. stays removed place e && has_rank rank e) (has_rank rank)
    (λ e t. (and_true (stays removed place e) (has_rank rank e) t).1) es h
