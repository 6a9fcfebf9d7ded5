-- Entries go and change one after the other.
use Rattle.std.proofs.Common.{◌≡◌, ℕ, Bool, true, false, not, cond, ◌||◌, ◌==◌, List, [], ◌∷◌, ◌++◌, map, filter, refl}
use Rattle.std.proofs.Common.{sym, ap, ap₂, ◌∙◌, if◌then◌else◌, true≢false, Option, Some, None, eqb-true, eq-eqb}
use Rattle.std.specs.List.{AllByRecursion}
use Rattle.std.specs.Option.{option_eq}
use Rattle.member_table.specs.Changes.{is_among, is_number, stays, changed_by}
use Rattle.member_table.specs.Entries.{has_serial}
use Rattle.member_table.specs.Tables.{TableOf, with_actions}
use Rattle.member_table.specs.declared.change.Modified.{Modified}
use Rattle.member_table.specs.declared.entry.Entry.{Entry}
use Rattle.member_table.proofs.Least.{push_any}

-- a table once these are taken out
abbrev pub emptied : List ℕ → Option ℕ → TableOf → TableOf
emptied serials place t = record t { entries = filter (stays serials place) t.entries }

-- a table once these are changed
abbrev pub altered : List Modified → TableOf → TableOf
altered ms t = record t { entries = map (changed_by ms) t.entries }

pub all_stay : (place : Option ℕ) (es : List Entry) → filter (stays [] place) es ≡ es
all_stay place [] = refl
all_stay place (e ∷ es) = ap (λ xs. e ∷ xs) (all_stay place es)

-- where no place is taken all of these go
pub all_go : (serials : List ℕ) (es : List Entry)
    → filter (stays serials None) es ≡ filter (λ e. not (is_among serials e.serial)) es
all_go serials [] = refl
all_go serials (e ∷ es) =
    ap₂ (λ b xs. cond b (e ∷ xs) xs) (or_none (not (is_among serials e.serial))) (all_go serials es)
  where
    or_none : (b : Bool) → (b || false) ≡ b
    or_none true = refl
    or_none false = refl

none_change : (es : List Entry) → map (changed_by []) es ≡ es
none_change [] = refl
none_change (e ∷ es) = ap (λ xs. e ∷ xs) (none_change es)

pub unaltered : (es : List Entry) → map (changed_by []) es ≡ es
unaltered es = none_change es

same_some : (k s n : ℕ) → (k == s) ≡ false → (s == n) ≡ true → (b : Bool) → (k == n) ≡ b → (k == n) ≡ false
same_some k s n a b true t = absurd (true≢false (sym (eq-eqb k s (eqb-true k n t ∙ sym (eqb-true s n b))) ∙ a))
same_some k s n a b false t = t

pub not_number : (place : Option ℕ) (s n : ℕ) → option_eq ◌==◌ place (Some s) ≡ false → (s == n) ≡ true
    → is_number place n ≡ false
not_number None s n a b = refl
not_number (Some k) s n a b = same_some k s n a b (k == n) refl

-- one that goes, and then the others
pub stays_dropped : (rest : List ℕ) (s : ℕ) (place : Option ℕ) (es : List Entry) → option_eq ◌==◌ place (Some s) ≡ false
    → filter (stays rest place) (filter (λ e. not (has_serial s e)) es) ≡ filter (stays (rest ++ s ∷ []) place) es
stays_dropped rest s place [] a = refl
stays_dropped rest s place (e ∷ es) a = by (s == e.serial) refl (stays_dropped rest s place es a)
  where
    gone : (s == e.serial) ≡ true → stays (rest ++ s ∷ []) place e ≡ false
    gone t = ap₂ (λ x y. not x || y) (push_any (λ k. k == e.serial) rest s ∙ ap (λ b. is_among rest e.serial || b) t
        ∙ or_true (is_among rest e.serial)) (not_number place s e.serial a t)
      where
        or_true : (b : Bool) → (b || true) ≡ true
        or_true true = refl
        or_true false = refl

    here : (s == e.serial) ≡ false → stays rest place e ≡ stays (rest ++ s ∷ []) place e
    here t = ap (λ x. not x || is_number place e.serial)
        (sym (push_any (λ k. k == e.serial) rest s ∙ ap (λ b. is_among rest e.serial || b) t
        ∙ or_false (is_among rest e.serial)))
      where
        or_false : (b : Bool) → (b || false) ≡ b
        or_false true = refl
        or_false false = refl

    by : (b : Bool) → (s == e.serial) ≡ b
        → filter (stays rest place) (filter (λ x. not (has_serial s x)) es) ≡ filter (stays (rest ++ s ∷ []) place) es
        → filter (stays rest place) (filter (λ x. not (has_serial s x)) (e ∷ es))
        ≡ filter (stays (rest ++ s ∷ []) place) (e ∷ es)
    by true t r =
        ap (λ b. filter (stays rest place)
        (cond (not b) (e ∷ filter (λ x. not (has_serial s x)) es) (filter (λ x. not (has_serial s x)) es))) t
        ∙ (r ∙ sym
        (ap (λ b. cond b (e ∷ filter (stays (rest ++ s ∷ []) place) es) (filter (stays (rest ++ s ∷ []) place) es))
        (gone t)))
    by false t r =
        ap (λ b. filter (stays rest place)
        (cond (not b) (e ∷ filter (λ x. not (has_serial s x)) es) (filter (λ x. not (has_serial s x)) es))) t
        ∙ ap₂ (λ b xs. cond b (e ∷ xs) xs) (here t) r

-- the one whose place is taken doesn't go
pub stays_kept : (rest : List ℕ) (s : ℕ) (place : Option ℕ) (es : List Entry) → option_eq ◌==◌ place (Some s) ≡ true
    → filter (stays rest place) es ≡ filter (stays (rest ++ s ∷ []) place) es
stays_kept rest s None es a = absurd (true≢false (sym a))
stays_kept rest s (Some k) [] a = refl
stays_kept rest s (Some k) (e ∷ es) a = ap₂ (λ b xs. cond b (e ∷ xs) xs)
    (alike (is_among rest e.serial)
    ∙ sym (ap (λ x. not x || (k == e.serial)) (push_any (λ n. n == e.serial) rest s
    ∙ ap (λ n. is_among rest e.serial || (n == e.serial)) (sym (eqb-true k s a))))) (stays_kept rest s (Some k) es a)
  where
    both : (x y : Bool) → (not x || y) ≡ (not (x || y) || y)
    both true y = refl
    both false true = refl
    both false false = refl

    alike : (x : Bool) → (not x || (k == e.serial)) ≡ (not (x || (k == e.serial)) || (k == e.serial))
    alike x = both x (k == e.serial)

-- what is true of each, without the last
pub all_front : {X : Type 0} (P : X → Type 0) (rest : List X) (x : X) → AllByRecursion P (rest ++ x ∷ [])
    → AllByRecursion P rest × P x
all_front P [] x a = (tt, a.0)
all_front P (y ∷ rest) x a = let r = all_front P rest x a.1 in ((a.0, r.0), r.1)

-- one that changes, and then the others, which come first
changed_pushed : (rest : List Modified) (m : Modified) (e : Entry)
    → changed_by rest (if has_serial m.serial e then with_actions m.actions e else e) ≡ changed_by (rest ++ m ∷ []) e
changed_pushed [] m e = refl
changed_pushed (r ∷ rs) m e = by (has_serial m.serial e) (changed_pushed rs m e)
  where
    by : (b : Bool) → changed_by rs (if b then with_actions m.actions e else e) ≡ changed_by (rs ++ m ∷ []) e
        → changed_by (r ∷ rs) (if b then with_actions m.actions e else e) ≡ changed_by (r ∷ (rs ++ m ∷ [])) e
    by true h = ap (λ x. if r.serial == e.serial then with_actions r.actions e else x) h
    by false h = ap (λ x. if r.serial == e.serial then with_actions r.actions e else x) h

pub altered_pushed : (rest : List Modified) (m : Modified) (es : List Entry)
    → map (changed_by rest) (map (λ e. if has_serial m.serial e then with_actions m.actions e else e) es)
    ≡ map (changed_by (rest ++ m ∷ [])) es
altered_pushed rest m [] = refl
altered_pushed rest m (e ∷ es) = ap₂ (λ x xs. x ∷ xs) (changed_pushed rest m e) (altered_pushed rest m es)
