-- What is forgotten of a table by the numbers of the entries that went.
use Rattle.std.proofs.Common.{◌≡◌, ◌∙◌, ℕ, Bool, true, false, List, [], ◌∷◌, ◌++◌, map, ap, ap₂, refl, sym, arith}
use Rattle.std.specs.Prelude.{◌==◌, ◌&&◌, ◌||◌, fold, if◌then◌else◌, not}
use Rattle.std.specs.List.{AllByRecursion, list_any}
use Rattle.std.proofs.Math.Path.{fun_ext}
use Rattle.std.proofs.lemmas.Bool.Decides.{nat_tests}
use Rattle.std.proofs.lemmas.List.Sums.{fold-append}
use Rattle.cv_io.specs.Leaves.{same_leaf}
use Rattle.cv_io.specs.declared.leaf.Leaf.{Leaf}
use Rattle.switch_meaning.specs.Counts.{Numbers}
use Rattle.member_table.specs.Changes.{is_among}
use Rattle.member_table.specs.Entries.{has_serial}
use Rattle.member_table.specs.declared.entry.Entry.{Entry}
use Rattle.stats_map.specs.Counting.{CountsOf, forgot, is_named}
use Rattle.machine_meaning.specs.Counted.{leaf_at, leaf_of}
use Rattle.machine_meaning.specs.declared.state.Owed.{Owed}
use Rattle.machine_drafts.specs.InsideForgetting.{forget_entry, forget_member, forget_serial, is_owed}
use Rattle.machine_drafts.specs.MemberDrafts.{LosesExactly, MemberDraftOf}
use Rattle.event_ends.proofs.Absorbed.{same_steps}
use Rattle.machine_drafts.proofs.Forgotten.{each_among, each_there}

-- leaves may be forgotten in any order, and twice ------------------------------------------------------------------

abbrev nought : Numbers
nought = record { packets = 0; bytes = 0 }

counts_same : (c d : CountsOf) → c.live ≡ d.live → ((q : Leaf) → c.totals q ≡ d.totals q)
    → ((q : Leaf) → c.forgotten q ≡ d.forgotten q) → c ≡ d
counts_same c d live totals forgotten =
    λ i. record { live = live i; totals = fun_ext totals i; forgotten = fun_ext forgotten i }

-- whether a leaf is to be forgotten, and its totals, once it is named to be, or was
abbrev mark : Bool → Bool → Bool → Bool
mark named was live = (named || was) && live

abbrev left : Bool → Bool → Bool → Numbers → Numbers
left named was live k = if (named || was) && not live then nought else k

abbrev AreSame : Bool → Bool → Numbers → Numbers → Type 0
AreSame a b k l = (k ≡ l) × (a ≡ b)

either_mark : (a b f m : Bool) (k : Numbers)
    → AreSame (mark b (mark a f m) m) (mark a (mark b f m) m)
    (left b (mark a f m) m (left a f m k)) (left a (mark b f m) m (left b f m k))
either_mark true true f m k = (refl, refl)
either_mark true false true true k = (refl, refl)
either_mark true false true false k = (refl, refl)
either_mark true false false true k = (refl, refl)
either_mark true false false false k = (refl, refl)
either_mark false true true true k = (refl, refl)
either_mark false true true false k = (refl, refl)
either_mark false true false true k = (refl, refl)
either_mark false true false false k = (refl, refl)
either_mark false false f m k = (refl, refl)

mark_twice : (a f m : Bool) (k : Numbers)
    → AreSame (mark a (mark a f m) m) (mark a f m) (left a (mark a f m) m (left a f m k)) (left a f m k)
mark_twice true f true k = (refl, refl)
mark_twice true f false k = (refl, refl)
mark_twice false true true k = (refl, refl)
mark_twice false true false k = (refl, refl)
mark_twice false false m k = (refl, refl)

forgot_either : (a b : Leaf) (c : CountsOf) → forgot b (forgot a c) ≡ forgot a (forgot b c)
forgot_either a b c =
    let same = λ (q : Leaf). either_mark (same_leaf a q) (same_leaf b q) (c.forgotten q) (is_named c q) (c.totals q) in
    counts_same (forgot b (forgot a c)) (forgot a (forgot b c)) refl (λ q. (same q).0) (λ q. (same q).1)

forgot_twice : (a : Leaf) (c : CountsOf) → forgot a (forgot a c) ≡ forgot a c
forgot_twice a c =
    let same = λ (q : Leaf). mark_twice (same_leaf a q) (c.forgotten q) (is_named c q) (c.totals q) in
    counts_same (forgot a (forgot a c)) (forgot a c) refl (λ q. (same q).0) (λ q. (same q).1)

-- the leaf of a number of a member is forgotten, where a test of the number says so ----------------------------------

module _ (n : ℕ) (test : ℕ → Bool) where
  abbrev forget_where : CountsOf → ℕ → CountsOf
  forget_where c s = if test s then forgot (leaf_at n s) c else c

  where_either : (c : CountsOf) (r s : ℕ) → forget_where (forget_where c r) s ≡ forget_where (forget_where c s) r
  where_either c r s = by (test r) (test s)
    where
      by : (a b : Bool)
          → (if b then forgot (leaf_at n s) (if a then forgot (leaf_at n r) c else c)
          else (if a then forgot (leaf_at n r) c else c))
          ≡ (if a then forgot (leaf_at n r) (if b then forgot (leaf_at n s) c else c)
          else (if b then forgot (leaf_at n s) c else c))
      by true true = forgot_either (leaf_at n r) (leaf_at n s) c
      by true false = refl
      by false true = refl
      by false false = refl

  where_twice : (c : CountsOf) (s : ℕ) → forget_where (forget_where c s) s ≡ forget_where c s
  where_twice c s = by (test s)
    where
      by : (b : Bool)
          → (if b then forgot (leaf_at n s) (if b then forgot (leaf_at n s) c else c)
          else (if b then forgot (leaf_at n s) c else c))
          ≡ (if b then forgot (leaf_at n s) c else c)
      by true = forgot_twice (leaf_at n s) c
      by false = refl

  where_idle : (c : CountsOf) (s : ℕ) → test s ≡ false → forget_where c s ≡ c
  where_idle c s e = ap (λ (b : Bool). if b then forgot (leaf_at n s) c else c) e

  where_same : (rs ss : List ℕ) (c : CountsOf) → ((s : ℕ) → test s ≡ true → is_among rs s ≡ true)
      → ((s : ℕ) → test s ≡ true → is_among ss s ≡ true) → fold forget_where c rs ≡ fold forget_where c ss
  where_same = same_steps forget_where test where_either where_twice where_idle

-- only the entries that went ----------------------------------------------------------------------------------------

eq_turned : (a b : ℕ) → (a == b) ≡ (b == a)
eq_turned a b = by (a == b) refl
  where
    by : (t : Bool) → (a == b) ≡ t → t ≡ (b == a)
    by true e = grind (arith, nat_tests)
    by false e = grind (arith, nat_tests)

among_serials : (s : ℕ) (es : List Entry)
    → is_among (map (λ (e : Entry). e.serial) es) s ≡ list_any (has_serial s) es
among_serials s [] = refl
among_serials s (e ∷ es) = ap₂ (λ (a b : Bool). a || b) (eq_turned e.serial s) (among_serials s es)

both : (a b : Bool) → (a && b) ≡ true → (a ≡ true) × (b ≡ true)
both true true e = (refl, refl)
both true false e = absurd (cc)
both false b e = absurd (cc)

module _ (before now : List Entry) (owed : List Owed) (n : ℕ) (lost : List ℕ) where
  abbrev goes : ℕ → Bool
  goes s = list_any (has_serial s) before && (is_among lost s && not (list_any (is_owed n s) owed))

  -- of an entry that the table had
  of_entry : (e : Entry) (c : CountsOf) (had l o there : Bool) → had ≡ true → there ≡ not l
      → (if there || o then c else forgot (leaf_of n e) c)
      ≡ (if had && (l && not o) then forgot (leaf_at n e.serial) c else c)
  of_entry e c true true true true h t = refl
  of_entry e c true true true false h t = refl
  of_entry e c true true false true h t = absurd (cc)
  of_entry e c true true false false h t = refl
  of_entry e c true false o true h t = refl
  of_entry e c true false o false h t = absurd (cc)
  of_entry e c false l o t h there = absurd (cc)

  of_entries : (es : List Entry) (c : CountsOf)
      → AllByRecursion (λ (e : Entry). list_any (has_serial e.serial) before ≡ true) es
      → AllByRecursion (λ (e : Entry). list_any (has_serial e.serial) now ≡ not (is_among lost e.serial)) es
      → fold (forget_entry now owed n) c es ≡ fold (forget_where n goes) c (map (λ (e : Entry). e.serial) es)
  of_entries [] c had there = refl
  of_entries (e ∷ es) c had there =
      of_entries es (forget_entry now owed n c e) had.1 there.1
      ∙ ap (λ (d : CountsOf). fold (forget_where n goes) d (map (λ (e : Entry). e.serial) es))
      (of_entry e c (list_any (has_serial e.serial) before) (is_among lost e.serial)
      (list_any (is_owed n e.serial) owed) (list_any (has_serial e.serial) now) had.0 there.0)

  -- of the numbers of those that went
  of_serials : (ss : List ℕ) (c : CountsOf) → AllByRecursion (λ (s : ℕ). is_among lost s ≡ true) ss
      → fold (forget_serial before owed n) c ss ≡ fold (forget_where n goes) c ss
  of_serials [] c all = refl
  of_serials (s ∷ ss) c all =
      of_serials ss (forget_serial before owed n c s) all.1
      ∙ ap (λ (b : Bool). fold (forget_where n goes)
      (if list_any (has_serial s) before && (b && not (list_any (is_owed n s) owed)) then forgot (leaf_at n s) c else c)
      ss)
      (sym all.0)

  lost_alone : (c : CountsOf)
      → AllByRecursion (λ (e : Entry). list_any (has_serial e.serial) before ≡ true) before
      → AllByRecursion (λ (s : ℕ). is_among lost s ≡ true) lost
      → AllByRecursion (λ (e : Entry). list_any (has_serial e.serial) now ≡ not (is_among lost e.serial)) before
      → fold (forget_serial before owed n) c lost ≡ fold (forget_entry now owed n) c before
  lost_alone c had all there =
      of_serials lost c all
      ∙ (sym (where_same n goes (map (λ (e : Entry). e.serial) before) lost c
      (λ s t. among_serials s before ∙ (both (list_any (has_serial s) before) _ t).0)
      (λ s t. (both (is_among lost s) _ (both (list_any (has_serial s) before) _ t).1).0))
      ∙ sym (of_entries before c had there))

-- of a member, those that go first and then those that go afterwards
pub member_forgotten : (owed : List Owed) (n : ℕ) (x : MemberDraftOf) (had : List Entry) (removed dropped : List ℕ)
    (c first last : CountsOf) → had ≡ x.base.kept.state.table.entries → LosesExactly (removed ++ dropped) x
    → first ≡ fold (forget_serial had owed n) c removed → last ≡ fold (forget_serial had owed n) first dropped
    → last ≡ forget_member owed c (n, x)
member_forgotten owed n x had removed dropped c first last is lost one two =
    let before = x.base.kept.state.table.entries in
    let now = x.now.kept.table.entries in
    two
    ∙ (ap (λ (d : CountsOf). fold (forget_serial had owed n) d dropped) one
    ∙ (sym (fold-append (forget_serial had owed n) c removed dropped)
    ∙ (ap (λ (es : List Entry). fold (forget_serial es owed n) c (removed ++ dropped)) is
    ∙ lost_alone before now owed n (removed ++ dropped) c (each_there before) (each_among (removed ++ dropped)) lost)))
