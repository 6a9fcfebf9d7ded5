-- Candidates that go and come, and what a log says of them.
use Rattle.std.proofs.Common.{◌≡◌, ℕ, ◌+◌, ◌<◌, Bool, true, false, ◌&&◌, ◌||◌, List, [], ◌∷◌, ◌++◌, arith, get_or}
use Rattle.std.proofs.Common.{length, refl, sym, take, take_all, ap, ap₂, ◌∙◌}
use Rattle.match_index.proofs.Lists.{take_pushed}
use Rattle.std.specs.Prelude.{not}
use Rattle.std.proofs.Math.Bool.{and-true}
use Rattle.switch_meaning.specs.Same.{same_entry}
use Rattle.switch_meaning.specs.declared.entry.PhysEntry.{PhysEntry}
use Rattle.switch_meaning.proofs.Alike.{entry_decides}
use Rattle.exact_gate.specs.Gates.{IsChanged}
use Rattle.exact_gate.specs.InsideLogs.{turned_back}
use Rattle.exact_gate.specs.Standing.{HaveSame, stands_in, without}
use Rattle.exact_gate.specs.declared.log.Log.{Log}
use Rattle.exact_gate.proofs.Standing.{or-false, stands-append, stands-push, stands-without}

-- the test of what stood before a log
abbrev pub stood : List PhysEntry → Log → PhysEntry → Bool
stood entries log e = (stands_in entries e && not (stands_in log.come e)) || stands_in log.gone e

pub stands-turned : (entries : List PhysEntry) (log : Log) (e : PhysEntry)
    → stands_in (turned_back entries log) e ≡ stood entries log e
stands-turned entries log e = stands-append (without entries log.come) log.gone e
    ∙ ap (λ b. b || stands_in log.gone e) (stands-without entries log.come e)

-- lists and logs that say the same
pub turned-same : (xs ys : List PhysEntry) (l m : Log) → ((e : PhysEntry) → stood xs l e ≡ stood ys m e)
    → HaveSame (turned_back xs l) (turned_back ys m)
turned-same xs ys l m h e = stands-turned xs l e ∙ (h e ∙ sym (stands-turned ys m e))

-- one goes that is there
goes : (s g x : Bool) → (x ≡ true → s ≡ true) → ((s && true) || g) ≡ (((s && not x) && true) || (g || x))
goes true true true h = refl
goes true false true h = refl
goes true true false h = refl
goes true false false h = refl
goes false g true h = let e = h refl in cc
goes false true false h = refl
goes false false false h = refl

-- one comes that is not there
comes : (s c g x : Bool) → (x ≡ true → s ≡ false) → ((s && not c) || g) ≡ (((s || x) && not (c || x)) || g)
comes true c g true h = let e = h refl in cc
comes false true g true h = refl
comes false false g true h = refl
comes true true g false h = refl
comes true false g false h = refl
comes false c g false h = refl

-- one is to come that is not there yet
to_come : (s c g x : Bool) → (x ≡ true → s ≡ false) → ((s && not c) || g) ≡ ((s && not (c || x)) || g)
to_come true c g true h = let e = h refl in cc
to_come true true g false h = refl
to_come true false g false h = refl
to_come false c g x h = refl

-- one that came goes again
goes_again : (s c g x : Bool) → ((s && not (c || x)) || g) ≡ (((s && not x) && not c) || g)
goes_again true true g true = refl
goes_again true true g false = refl
goes_again true false g true = refl
goes_again true false g false = refl
goes_again false c g x = refl

-- one that went comes again
comes_again : (s g x : Bool) → ((s && true) || (g || x)) ≡ (((s || x) && true) || g)
comes_again true g x = refl
comes_again false true true = refl
comes_again false true false = refl
comes_again false false true = refl
comes_again false false false = refl

-- entries that are one stand in the same lists
stands_as : (xs : List PhysEntry) (x e : PhysEntry) (b : Bool) → stands_in xs x ≡ b → same_entry e x ≡ true
    → stands_in xs e ≡ b
stands_as xs x e b s t = ap (stands_in xs) ((entry_decides e x).0 t) ∙ s

-- what a log says of a list, and of another once one entry went or came
module _ (pool pool' gone come : List PhysEntry) (x : PhysEntry) where
  abbrev before : List PhysEntry
  before = turned_back pool (record { gone = gone; come = come })

  pub has-gone : (gone' : List PhysEntry) → gone' ≡ gone ++ x ∷ [] → stands_in pool x ≡ true → come ≡ []
      → ((e : PhysEntry) → stands_in pool' e ≡ (stands_in pool e && not (same_entry e x)))
      → HaveSame before (turned_back pool' (record { gone = gone'; come = come }))
  has-gone gone' now there none is =
      turned-same pool pool' (record { gone = gone; come = come }) (record { gone = gone'; come = come }) (λ e.
      let d : stands_in come e ≡ false = ap (λ ys. stands_in ys e) none in
      ap (λ b. (stands_in pool e && not b) || stands_in gone e) d
      ∙ (goes (stands_in pool e) (stands_in gone e) (same_entry e x) (stands_as pool x e true there)
      ∙ sym (ap₂ (λ a b. (a && not b) || stands_in gone' e) (is e) d
      ∙ ap (λ b. ((stands_in pool e && not (same_entry e x)) && true) || b)
      (ap (λ ys. stands_in ys e) now ∙ stands-push gone x e))))

  pub has-come : (come' : List PhysEntry) → come' ≡ come ++ x ∷ [] → stands_in pool x ≡ false
      → ((e : PhysEntry) → stands_in pool' e ≡ (stands_in pool e || same_entry e x))
      → HaveSame before (turned_back pool' (record { gone = gone; come = come' }))
  has-come come' now absent is =
      turned-same pool pool' (record { gone = gone; come = come }) (record { gone = gone; come = come' }) (λ e.
      comes (stands_in pool e) (stands_in come e) (stands_in gone e) (same_entry e x) (stands_as pool x e false absent)
      ∙ sym (ap₂ (λ a b. (a && not b) || stands_in gone e) (is e)
      (ap (λ ys. stands_in ys e) now ∙ stands-push come x e)))

  pub is-coming : (come' : List PhysEntry) → come' ≡ come ++ x ∷ [] → stands_in pool x ≡ false → pool' ≡ pool
      → HaveSame before (turned_back pool' (record { gone = gone; come = come' }))
  is-coming come' now absent is =
      turned-same pool pool' (record { gone = gone; come = come }) (record { gone = gone; come = come' }) (λ e.
      to_come (stands_in pool e) (stands_in come e) (stands_in gone e) (same_entry e x)
      (stands_as pool x e false absent)
      ∙ sym (ap₂ (λ a b. (a && not b) || stands_in gone e) (ap (λ ys. stands_in ys e) is)
      (ap (λ ys. stands_in ys e) now ∙ stands-push come x e)))

  pub gone-again : (all : List PhysEntry) → all ≡ come ++ x ∷ []
      → ((e : PhysEntry) → stands_in pool' e ≡ (stands_in pool e && not (same_entry e x)))
      → HaveSame (turned_back pool (record { gone = gone; come = all }))
      (turned_back pool' (record { gone = gone; come = come }))
  gone-again all was is =
      turned-same pool pool' (record { gone = gone; come = all }) (record { gone = gone; come = come }) (λ e.
      ap (λ b. (stands_in pool e && not b) || stands_in gone e) (ap (λ ys. stands_in ys e) was ∙ stands-push come x e)
      ∙ (goes_again (stands_in pool e) (stands_in come e) (stands_in gone e) (same_entry e x)
      ∙ sym (ap (λ a. (a && not (stands_in come e)) || stands_in gone e) (is e))))

  pub come-again : (all : List PhysEntry) → all ≡ gone ++ x ∷ [] → come ≡ []
      → ((e : PhysEntry) → stands_in pool' e ≡ (stands_in pool e || same_entry e x))
      → HaveSame (turned_back pool (record { gone = all; come = come }))
      (turned_back pool' (record { gone = gone; come = come }))
  come-again all was none is =
      turned-same pool pool' (record { gone = all; come = come }) (record { gone = gone; come = come }) (λ e.
      let d : stands_in come e ≡ false = ap (λ ys. stands_in ys e) none in
      ap₂ (λ b a. (stands_in pool e && not b) || a) d (ap (λ ys. stands_in ys e) was ∙ stands-push gone x e)
      ∙ (comes_again (stands_in pool e) (stands_in gone e) (same_entry e x)
      ∙ sym (ap₂ (λ a b. (a && not b) || stands_in gone e) (is e) d)))

-- a list is what stands before its last entry, and that
pub last-taken : (all : List PhysEntry) (i : ℕ) (x : PhysEntry) → i + 1 ≡ length all → x ≡ get_or all i x
    → all ≡ take i all ++ x ∷ []
last-taken all i x l g = sym (take_all (i + 1) all (omega (arith, l))) ∙ take_pushed all i x (omega (arith, l)) g

-- a log that says nothing
pub nothing-logged : (entries : List PhysEntry) (log : Log) → log.gone ≡ [] → log.come ≡ []
    → HaveSame entries (turned_back entries log)
nothing-logged entries log g c e =
    sym (stands-turned entries log e
    ∙ (ap₂ (λ a b. (stands_in entries e && not (stands_in a e)) || stands_in b e) c g
    ∙ (or-false (stands_in entries e && true) ∙ and-true (stands_in entries e))))

-- a log of lists that have the same entries
pub logged-same : (xs ys : List PhysEntry) (log : Log) → HaveSame xs ys
    → HaveSame (turned_back xs log) (turned_back ys log)
logged-same xs ys log h = turned-same xs ys log log
    (λ e. ap (λ b. (b && not (stands_in log.come e)) || stands_in log.gone e) (h e))

-- some go, and then others come
pub exchanged : (old mid new gone come : List PhysEntry)
    → ((e : PhysEntry) → stands_in mid e ≡ (stands_in old e && not (stands_in gone e)))
    → ((e : PhysEntry) → stands_in new e ≡ (stands_in mid e || stands_in come e))
    → IsChanged old gone come new
exchanged old mid new gone come f g e = g e ∙ ap (λ b. b || stands_in come e) (f e)

-- one more of those that go, and of those that come
module _ (old now new more : List PhysEntry) (i : ℕ) (x : PhysEntry) (lt : i < length more) (at : x ≡ get_or more i x)
  where
    taken : (e : PhysEntry) → stands_in (take (i + 1) more) e ≡ (stands_in (take i more) e || same_entry e x)
    taken e = ap (λ ys. stands_in ys e) (take_pushed more i x lt at) ∙ stands-push (take i more) x e

    pub gone-more : ((e : PhysEntry) → stands_in now e ≡ (stands_in old e && not (stands_in (take i more) e)))
        → ((e : PhysEntry) → stands_in new e ≡ (stands_in now e && not (same_entry e x)))
        → (e : PhysEntry) → stands_in new e ≡ (stands_in old e && not (stands_in (take (i + 1) more) e))
    gone-more f g e =
        g e ∙ (ap (λ b. b && not (same_entry e x)) (f e)
        ∙ (fewer (stands_in old e) (stands_in (take i more) e) (same_entry e x)
        ∙ ap (λ b. stands_in old e && not b) (sym (taken e))))
      where
        fewer : (s g x : Bool) → ((s && not g) && not x) ≡ (s && not (g || x))
        fewer true true x = refl
        fewer true false x = refl
        fewer false g x = refl

    pub come-more : ((e : PhysEntry) → stands_in now e ≡ (stands_in old e || stands_in (take i more) e))
        → ((e : PhysEntry) → stands_in new e ≡ (stands_in now e || same_entry e x))
        → (e : PhysEntry) → stands_in new e ≡ (stands_in old e || stands_in (take (i + 1) more) e)
    come-more f g e =
        g e ∙ (ap (λ b. b || same_entry e x) (f e)
        ∙ (further (stands_in old e) (stands_in (take i more) e) (same_entry e x)
        ∙ ap (λ b. stands_in old e || b) (sym (taken e))))
      where
        further : (s c x : Bool) → ((s || c) || x) ≡ (s || (c || x))
        further true c x = refl
        further false c x = refl
