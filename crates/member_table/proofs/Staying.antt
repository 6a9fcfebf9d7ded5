-- Which entries stay, by their numbers.
use Rattle.std.proofs.Common.{◌≡◌, ℕ, Bool, true, false, cond, ◌||◌, not, ◌==◌, List, [], ◌∷◌, ◌++◌, map, filter, refl}
use Rattle.std.proofs.Common.{sym, ap, ap₂, subst, ◌∙◌, Option, Some, None, is_some}
use Rattle.std.specs.List.{list_any, AllByRecursion, IsDistinct}
use Rattle.std.specs.Option.{option_eq}
use Rattle.std.proofs.lemmas.Bool.Decides.{Decides-eqb}
use Rattle.member_table.specs.Changes.{is_among, stays}
use Rattle.member_table.specs.Entries.{has_serial}
use Rattle.member_table.specs.InsideOrders.{IsIndexed, IsInStep, listed}
use Rattle.member_table.specs.Timeouts.{serials_of}
use Rattle.member_table.specs.declared.entry.Entry.{Entry}
use Rattle.member_table.specs.declared.entry.Identity.{Identity}
use Rattle.member_table.proofs.Changing.{all_stay, stays_dropped, stays_kept}
use Rattle.member_table.proofs.Indexed.{in_step, listed_is}
use Rattle.member_table.proofs.Keyed.{flipped}
use Rattle.member_table.proofs.Lists.{any_find, filter-none, each_weaker}
use Rattle.member_table.proofs.Means.{among_passing}

-- an entry stands among those that pass where it passes
pub each_there : (p : Entry → Bool) (es : List Entry) → IsDistinct ◌==◌ (map (λ (x : Entry). x.serial) es)
    → AllByRecursion (λ e. list_any (has_serial e.serial) (filter p es) ≡ p e) es
each_there p es d = each_weaker (λ e. is_among (serials_of p es) e.serial ≡ p e)
    (λ e. list_any (has_serial e.serial) (filter p es) ≡ p e) (λ e h. turned e.serial (filter p es) ∙ h) es
    (among_passing p es d)
  where
    turned : (n : ℕ) (xs : List Entry) → list_any (has_serial n) xs ≡ is_among (map (λ (x : Entry). x.serial) xs) n
    turned n [] = refl
    turned n (x ∷ xs) = ap₂ (λ a b. a || b) (flipped ◌==◌ Decides-eqb (λ (y : Entry). y.serial) n x.serial)
        (turned n xs)

-- what stays of a list that is made of another
pub filter-map_alike : {X : Type 0} (f : Entry → X) (g : X → Bool) (p : Entry → Bool) (es : List Entry)
    → AllByRecursion (λ e. g (f e) ≡ p e) es → filter g (map f es) ≡ map f (filter p es)
filter-map_alike f g p [] a = refl
filter-map_alike f g p (e ∷ es) a = rw a.0 (by (p e) (filter-map_alike f g p es a.1))
  where
    by : (b : Bool) → filter g (map f es) ≡ map f (filter p es)
        → cond b (f e ∷ filter g (map f es)) (filter g (map f es)) ≡ map f (cond b (e ∷ filter p es) (filter p es))
    by true r = ap (λ xs. f e ∷ xs) r
    by false r = r

-- on the way from some entries to those that stay of them, where some numbers are left to go
pub record IsOnTheWay (entry : ℕ → Option Entry) (number : Identity
    → Option ℕ) (rest all : List ℕ) (place : Option ℕ) (es : List Entry) : Type 0 where
  pub now : List Entry
  pub indexed : IsIndexed entry number now
  pub same : filter (stays rest place) now ≡ filter (stays all place) es

pub way_begins : (entry : ℕ → Option Entry) (number : Identity
    → Option ℕ) (all : List ℕ) (place : Option ℕ) (es : List Entry) → IsIndexed entry number es
    → IsOnTheWay entry number all all place es
way_begins entry number all place es i = record { now = es; indexed = i; same = refl }

pub one_goes : (entry entry' : ℕ → Option Entry) (number number' : Identity
    → Option ℕ) (before rest all : List ℕ) (s : ℕ) (place : Option ℕ) (es : List Entry) → before ≡ rest ++ s ∷ []
    → option_eq ◌==◌ place (Some s) ≡ false
    → ((now : List Entry) → IsIndexed entry number now
    → IsIndexed entry' number' (filter (λ e. not (has_serial s e)) now))
    → IsOnTheWay entry number before all place es → IsOnTheWay entry' number' rest all place es
one_goes entry entry' number number' before rest all s place es e n f w = record {
  now = filter (λ x. not (has_serial s x)) w.now;
  indexed = f w.now w.indexed;
  same = stays_dropped rest s place w.now n ∙ (ap (λ ss. filter (stays ss place) w.now) (sym e) ∙ w.same);
}

pub one_stays : (entry : ℕ → Option Entry) (number : Identity
    → Option ℕ) (before rest all : List ℕ) (s : ℕ) (place : Option ℕ) (es : List Entry) → before ≡ rest ++ s ∷ []
    → option_eq ◌==◌ place (Some s) ≡ true
    → IsOnTheWay entry number before all place es → IsOnTheWay entry number rest all place es
one_stays entry number before rest all s place es e n w =
    record {
      now = w.now;
      indexed = w.indexed;
      same = stays_kept rest s place w.now n
          ∙ (ap (λ ss. filter (stays ss place) w.now) (sym e) ∙ w.same);
    }

pub way_ends : (entry : ℕ → Option Entry) (number : Identity
    → Option ℕ) (rest all : List ℕ) (place : Option ℕ) (es : List Entry) → rest ≡ []
    → IsOnTheWay entry number rest all place es → IsIndexed entry number (filter (stays all place) es)
way_ends entry number rest all place es n w =
    let I : List Entry → Type 0 = IsIndexed entry number in
    subst I (sym (all_stay place w.now) ∙ (ap (λ ss. filter (stays ss place) w.now) (sym n) ∙ w.same)) w.indexed

-- a number that finds nothing is gone already
pub none_goes : (entry : ℕ → Option Entry) (number : Identity → Option ℕ) (s : ℕ) (es : List Entry) → None ≡ entry s
    → IsIndexed entry number es → IsIndexed entry number (filter (λ e. not (has_serial s e)) es)
none_goes entry number s es n i =
    let I : List Entry → Type 0 = IsIndexed entry number in
    subst I (sym (filter-none (has_serial s) es (any_find (has_serial s) es ∙ ap is_some (sym (i.found s) ∙ sym n)))) i

-- the order once its maps have lost the entries that don't stay
pub in_step_filter : (serials serials' : List ℕ) (entry entry' : ℕ → Option Entry) (number number' : Identity
    → Option ℕ) (p : Entry → Bool) → IsInStep serials entry number
    → IsIndexed entry' number' (filter p (listed entry serials)) → serials' ≡ filter (λ s. is_some (entry' s)) serials
    → IsInStep serials' entry' number' × (listed entry' serials' ≡ filter p (listed entry serials))
in_step_filter serials serials' entry entry' number number' p i j n =
    let es = listed entry serials in
    let known = each_weaker (λ e. list_any (has_serial e.serial) (filter p es) ≡ p e)
    (λ e. is_some (entry' e.serial) ≡ p e) (λ e h. ap is_some (j.found e.serial)
    ∙ (sym (any_find (has_serial e.serial) (filter p es)) ∙ h)) es
    (each_there p es i.indexed.serials_once) in
    let numbers = n ∙ (ap (filter (λ s. is_some (entry' s))) i.numbers
    ∙ filter-map_alike (λ (x : Entry). x.serial) (λ s. is_some (entry' s)) p es known) in
    (in_step entry' number' serials' (filter p es) numbers j, listed_is entry' number' serials' (filter p es) numbers j)
