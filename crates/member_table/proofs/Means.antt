-- The entries that a message means, and what a change of them makes.
use Rattle.std.proofs.Common.{◌≡◌, ℕ, Bool, true, false, cond, ◌||◌, ◌&&◌, ◌==◌, List, [], ◌∷◌, map, filter, find, refl}
use Rattle.std.proofs.Common.{sym, ap, ap₂, ◌∙◌, if◌then◌else◌, true≢false, Option, Some, None, eq-eqb}
use Rattle.std.specs.List.{list_any, AllByRecursion, IsDistinct}
use Rattle.of10_match.proofs.MeetSelf.{meet_self}
use Rattle.of10_match.specs.Fields.{MatchOf}
use Rattle.of10_match.specs.Matching.{both, overlaps}
use Rattle.of10_actions.specs.declared.action.Action.{Action}
use Rattle.member_table.specs.Changes.{is_among, changed_by}
use Rattle.member_table.specs.Entries.{identity_of, is_at, is_near}
use Rattle.member_table.specs.Sound.{AreApart, EachPair}
use Rattle.member_table.specs.Tables.{with_actions}
use Rattle.member_table.specs.Timeouts.{serials_of}
use Rattle.member_table.specs.declared.entry.Entry.{Entry}
use Rattle.member_table.specs.declared.entry.Identity.{Identity}
use Rattle.std.proofs.lemmas.Bool.Decides.{Decides-eqb}
use Rattle.member_table.proofs.Keyed.{flipped}
use Rattle.member_table.proofs.Lists.{IsOnce, or_false, none_each, each_weaker}
use Rattle.member_table.proofs.Steps.{identity_decides}

-- a match overlaps itself
overlaps_self : (m : MatchOf) → overlaps m m ≡ true
overlaps_self m = by (overlaps m m) refl
  where
    by : (b : Bool) → overlaps m m ≡ b → overlaps m m ≡ true
    by true t = t
    by false t = let n : None ≡ Some m = sym (ap (λ b. if b then Some (both m m) else None) t)
        ∙ meet_self m in absurd (cc)

-- no other entry has the identity
pub near_itself : (a b : Entry) → identity_of a ≡ identity_of b → is_near (identity_of a) (identity_of b) ≡ true
near_itself a b e = ap (λ k. is_near k (identity_of b)) e
    ∙ ap₂ (λ x y. x && y) (eq-eqb b.rank b.rank refl) (overlaps_self b.normal)

pub once_identity : (k : Identity) (es : List Entry) → EachPair AreApart es → IsOnce (is_at k) es
once_identity k [] a = tt
once_identity k (e ∷ es) a = (
  λ t. none_each (is_at k) es
      (each_weaker (AreApart e) (λ x. is_at k x ≡ false) (λ x p. other t x p (is_at k x) (λ _. is_at k x)) es a.0),
  once_identity k es a.1,
)
  where
    other : is_at k e ≡ true → (x : Entry) → AreApart e x → (b : Bool) → is_at k x ≡ b → is_at k x ≡ false
    other t x p true s =
        absurd
        (true≢false
        (sym (near_itself x e (sym ((identity_decides k (identity_of x)).0 s)
        ∙ (identity_decides k (identity_of e)).0 t)) ∙ p))
    other t x p false s = s

-- the one that passes, where its port does too
abbrev pub passing : (Entry → Bool) → Option Entry → List ℕ
passing q None = []
passing q (Some e) = if q e then e.serial ∷ [] else []

none_pass : (p q : Entry → Bool) (es : List Entry) → list_any p es ≡ false → serials_of (λ e. p e && q e) es ≡ []
none_pass p q [] n = refl
none_pass p q (e ∷ es) n = let o = or_false (p e) (list_any p es) n in rw o.0 (none_pass p q es o.1)

pub serials_once : (p q : Entry → Bool) (es : List Entry) → IsOnce p es
    → serials_of (λ e. p e && q e) es ≡ passing q (find p es)
serials_once p q [] o = refl
serials_once p q (e ∷ es) o = by (p e) refl (serials_once p q es o.1)
  where
    here : (b : Bool) → list_any p es ≡ false
        → map (λ (x : Entry). x.serial) (cond b (e ∷ filter (λ x. p x && q x) es) (filter (λ x. p x && q x) es))
        ≡ (if b then e.serial ∷ [] else [])
    here true n = ap (λ ns. e.serial ∷ ns) (none_pass p q es n)
    here false n = none_pass p q es n

    by : (b : Bool) → p e ≡ b → serials_of (λ x. p x && q x) es ≡ passing q (find p es)
        → serials_of (λ x. p x && q x) (e ∷ es) ≡ passing q (find p (e ∷ es))
    by true t r = rw t (here (q e) (o.0 t))
    by false t r = rw t r

-- among the numbers of those that pass stands that of an entry where it passes
not_among : (k : ℕ) (test : Entry → Bool) (es : List Entry)
    → AllByRecursion (λ y. (k == y) ≡ false) (map (λ (x : Entry). x.serial) es)
    → is_among (serials_of test es) k ≡ false
not_among k test [] a = refl
not_among k test (e ∷ es) a = by (test e) (not_among k test es a.1)
  where
    by : (b : Bool) → is_among (serials_of test es) k ≡ false
        → is_among (map (λ (x : Entry). x.serial) (cond b (e ∷ filter test es) (filter test es))) k ≡ false
    by true r = rw (flipped ◌==◌ Decides-eqb (λ (y : Entry). y.serial) e.serial k ∙ a.0) r
    by false r = r

among_more : (test : Entry → Bool) (e : Entry) (es : List Entry)
    → AllByRecursion (λ y. (e.serial == y) ≡ false) (map (λ (x : Entry). x.serial) es)
    → (xs : List Entry) → AllByRecursion (λ y. (e.serial == y) ≡ false) (map (λ (x : Entry). x.serial) xs)
    → AllByRecursion (λ x. is_among (serials_of test es) x.serial ≡ test x) xs
    → AllByRecursion (λ x. is_among (serials_of test (e ∷ es)) x.serial ≡ test x) xs
among_more test e es d [] o a = tt
among_more test e es d (x ∷ xs) o a = (by (test e), among_more test e es d xs o.1 a.1)
  where
    by : (b : Bool) → is_among (map (λ (y : Entry). y.serial) (cond b (e ∷ filter test es) (filter test es))) x.serial
        ≡ test x
    by true = rw o.0 a.0
    by false = a.0

pub among_passing : (test : Entry → Bool) (es : List Entry) → IsDistinct ◌==◌ (map (λ (x : Entry). x.serial) es)
    → AllByRecursion (λ x. is_among (serials_of test es) x.serial ≡ test x) es
unfolding IsDistinct
among_passing test [] d = tt
among_passing test (e ∷ es) d = (by (test e) refl, among_more test e es d.0 es d.0 (among_passing test es d.1))
  where
    by : (b : Bool) → test e ≡ b → is_among (serials_of test (e ∷ es)) e.serial ≡ test e
    by true t = rw (t, eq-eqb e.serial e.serial refl) refl
    by false t = rw t (not_among e.serial test es d.0)

-- lists that are made alike at each entry
pub filter_alike : (p q : Entry → Bool) (es : List Entry) → AllByRecursion (λ e. p e ≡ q e) es
    → filter p es ≡ filter q es
filter_alike p q [] a = refl
filter_alike p q (e ∷ es) a = ap₂ (λ b rest. cond b (e ∷ rest) rest) a.0 (filter_alike p q es a.1)

pub map_alike : (f g : Entry → Entry) (es : List Entry) → AllByRecursion (λ e. f e ≡ g e) es → map f es ≡ map g es
map_alike f g [] a = refl
map_alike f g (e ∷ es) a = ap₂ (λ x xs. x ∷ xs) a.0 (map_alike f g es a.1)

-- the same actions for each number
pub changed_alike : (actions : List Action) (serials : List ℕ) (e : Entry)
    → changed_by (map (λ s. record { serial = s; actions = actions }) serials) e
    ≡ (if is_among serials e.serial then with_actions actions e else e)
changed_alike actions [] e = refl
changed_alike actions (s ∷ ss) e = by (s == e.serial) (changed_alike actions ss e)
  where
    by : (b : Bool) → changed_by (map (λ (n : ℕ). record { serial = n; actions = actions }) ss) e
        ≡ (if is_among ss e.serial then with_actions actions e else e)
        → (if b then with_actions actions e
        else changed_by (map (λ (n : ℕ). record { serial = n; actions = actions }) ss) e)
        ≡ (if b || is_among ss e.serial then with_actions actions e else e)
    by true r = refl
    by false r = r
