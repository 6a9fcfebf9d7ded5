-- What the walk of `clap` makes of words of which none begins with a hyphen (45).
use Rattle.std.proofs.Common.{◌≡◌, ◌∙◌, ℕ, Bool, true, false, List, [], ◌∷◌, Some, None, refl, ap, codes}
use Rattle.std.specs.Prelude.{◌==◌, ◌&&◌}
use Rattle.std.specs.Str.{bytes_eq}
use Rattle.std.specs.List.{list_all}
use Rattle.clap.specs.Words.{App, Row, Rule, Shape, Text, subcommand_of, takes}
use Rattle.clap.specs.Walk.{Held, Step, Walk, after_step, arg_by_index, finished, idle, nothing_held, rows_after}
use Rattle.clap.specs.Walk.{to_positional, value, walked, word_met}
use Rattle.clap.specs.Takes.{default_passes, is_valid, level_passes, settle_passes, step_passes, turn_passes}
use Rattle.clap.specs.Simple.{built_leaf, inherited, marked_built, on_top, with_leaf_noted}
use Rattle.clap.specs.Lexer.{long_of, short_of}
use Rattle.clap.proofs.OnLiterals.{clap_on_literals}
use Rattle.command_line.specs.Parser.{explain_form, forms, make_form, replay_form, serve_form}

-- ---- one word

no_dashes : (x : ℕ) (xs : Text) → (x == 45) ≡ false → bytes_eq (x ∷ xs) (45 ∷ 45 ∷ []) ≡ false
no_dashes x xs n = rw n refl

no_long : (x : ℕ) (xs : Text) → (x == 45) ≡ false → long_of (x ∷ xs) ≡ None
no_long x xs n = rw n refl

no_short : (x : ℕ) (xs : Text) → (x == 45) ≡ false → short_of (x ∷ xs) ≡ None
no_short x xs n = rw n refl

-- it is a value
met : (c : List Rule) (h : Held) (position x : ℕ) (xs : Text) → (x == 45) ≡ false
    → word_met c [] false idle position (x ∷ xs) h ≡ (h, value)
met c h position x xs n = rw (no_dashes x xs n, no_long x xs n, no_short x xs n) refl

abbrev at : Held → ℕ → Walk
at h position = record { held = h; waiting = idle; position = position; is_trailing = false; stopped = None }

-- it goes to the positional
abbrev next : List Rule → Held → ℕ → Text → Walk
next c h position word = to_positional c (arg_by_index c position) word (at h position) h

step : (c : List Rule) (h : Held) (position x : ℕ) (xs : Text) → (x == 45) ≡ false
    → walked c [] (at h position) (x ∷ xs) ≡ next c h position (x ∷ xs)
unfolding clap_on_literals
step c h position x xs n = ap (λ (m : Held × Step). after_step c (x ∷ xs) (at h position) m.0 m.1)
    (met c h position x xs n)

-- and is refused only where there is none
passes : (s : Shape) (h : Held) (position x : ℕ) (xs : Text) → (x == 45) ≡ false
    → turn_passes s [] (at h position) (x ∷ xs) ≡ step_passes s position h value
passes s h position x xs n = rw (met s.rules h position x xs n, no_dashes x xs n, no_long x xs n, no_short x xs n) refl

-- ---- a verb's texts

-- what is checked after a walk
abbrev after : Shape → Walk → Bool
after s w = settle_passes s.rules s.args_override_self w.held &&
    (list_all default_passes s.rules && is_valid s (finished s.rules w.held) false)

one_passes : (s : Shape) (x : ℕ) (xs : Text) → (x == 45) ≡ false
    → level_passes s [] nothing_held ((x ∷ xs) ∷ []) false
    ≡ ((step_passes s 1 nothing_held value && true) && after s (next s.rules nothing_held 1 (x ∷ xs)))
unfolding clap_on_literals
one_passes s x xs n = λ i. (passes s nothing_held 1 x xs n i && true) && after s (step s.rules nothing_held 1 x xs n i)

one_row : (c : List Rule) (x : ℕ) (xs : Text) → (x == 45) ≡ false
    → rows_after c [] ((x ∷ xs) ∷ []) ≡ finished c (next c nothing_held 1 (x ∷ xs)).held
unfolding clap_on_literals
one_row c x xs n = ap (λ (w : Walk). finished c w.held) (step c nothing_held 1 x xs n)

-- the second text, where the first leaves h
two_passes : (s : Shape) (h : Held) (x y : ℕ) (xs ys : Text) → (x == 45) ≡ false → (y == 45) ≡ false
    → next s.rules nothing_held 1 (x ∷ xs) ≡ at h 2
    → level_passes s [] nothing_held ((x ∷ xs) ∷ (y ∷ ys) ∷ []) false
    ≡ ((step_passes s 1 nothing_held value && (step_passes s 2 h value && true)) && after s (next s.rules h 2 (y ∷ ys)))
unfolding clap_on_literals
two_passes s h x y xs ys n m first =
    let one = step s.rules nothing_held 1 x xs n ∙ first in
    let two = ap (λ w. walked s.rules [] w (y ∷ ys)) one ∙ step s.rules h 2 y ys m in
    let turn = ap (λ w. turn_passes s [] w (y ∷ ys)) one ∙ passes s h 2 y ys m in
    λ i. (passes s nothing_held 1 x xs n i && (turn i && true)) && after s (two i)

two_rows : (c : List Rule) (h : Held) (x y : ℕ) (xs ys : Text) → (x == 45) ≡ false → (y == 45) ≡ false
    → next c nothing_held 1 (x ∷ xs) ≡ at h 2
    → rows_after c [] ((x ∷ xs) ∷ (y ∷ ys) ∷ []) ≡ finished c (next c h 2 (y ∷ ys)).held
unfolding clap_on_literals
two_rows c h x y xs ys n m first =
    let one = step c nothing_held 1 x xs n ∙ first in
    ap (λ (w : Walk). finished c w.held) (ap (λ w. walked c [] w (y ∷ ys)) one ∙ step c h 2 y ys m)

-- ---- the forms

-- a form, as it is built
abbrev leaf : App → Shape
leaf a = built_leaf (inherited (on_top with_leaf_noted (on_top marked_built forms)).top a.top)

pub taken_alone : takes forms (codes "replay" ∷ []) ≡ true
unfolding clap_on_literals
taken_alone = refl

pub taken_replay : (x : ℕ) (xs : Text) → (x == 45) ≡ false → takes forms (codes "replay" ∷ (x ∷ xs) ∷ []) ≡ true
unfolding clap_on_literals
taken_replay x xs n = ap (λ b. b && true) (one_passes (leaf replay_form) x xs n)

pub taken_explain : (x : ℕ) (xs : Text) → (x == 45) ≡ false → takes forms (codes "explain" ∷ (x ∷ xs) ∷ []) ≡ true
unfolding clap_on_literals
taken_explain x xs n = ap (λ b. b && true) (one_passes (leaf explain_form) x xs n)

pub taken_serve : (x : ℕ) (xs : Text) → (x == 45) ≡ false → takes forms (codes "serve" ∷ (x ∷ xs) ∷ []) ≡ true
unfolding clap_on_literals
taken_serve x xs n = ap (λ b. b && true) (one_passes (leaf serve_form) x xs n)

pub taken_make : (x y : ℕ) (xs ys : Text) → (x == 45) ≡ false → (y == 45) ≡ false
    → takes forms (codes "make" ∷ (x ∷ xs) ∷ (y ∷ ys) ∷ []) ≡ true
unfolding clap_on_literals
taken_make x y xs ys n m =
    let s = leaf make_form in
    ap (λ b. b && true) (two_passes s (next s.rules nothing_held 1 (x ∷ xs)).held x y xs ys n m refl)

-- the rows of a verb's one text, and of its two
abbrev pub text_rows : App → Text → List Row
text_rows a word = finished (leaf a).rules (next (leaf a).rules nothing_held 1 word).held

abbrev pub texts_rows : App → Text → Text → List Row
texts_rows a word second =
    finished (leaf a).rules (next (leaf a).rules (next (leaf a).rules nothing_held 1 word).held 2 second).held

pub given_alone : subcommand_of forms (codes "replay" ∷ []) ≡ Some (codes "replay", [])
unfolding clap_on_literals
given_alone = refl

pub given_replay : (x : ℕ) (xs : Text) → (x == 45) ≡ false
    → subcommand_of forms (codes "replay" ∷ (x ∷ xs) ∷ []) ≡ Some (codes "replay", text_rows replay_form (x ∷ xs))
unfolding clap_on_literals
given_replay x xs n = ap (λ rows. Some (codes "replay", rows)) (one_row (leaf replay_form).rules x xs n)

pub given_explain : (x : ℕ) (xs : Text) → (x == 45) ≡ false
    → subcommand_of forms (codes "explain" ∷ (x ∷ xs) ∷ []) ≡ Some (codes "explain", text_rows explain_form (x ∷ xs))
unfolding clap_on_literals
given_explain x xs n = ap (λ rows. Some (codes "explain", rows)) (one_row (leaf explain_form).rules x xs n)

pub given_serve : (x : ℕ) (xs : Text) → (x == 45) ≡ false
    → subcommand_of forms (codes "serve" ∷ (x ∷ xs) ∷ []) ≡ Some (codes "serve", text_rows serve_form (x ∷ xs))
unfolding clap_on_literals
given_serve x xs n = ap (λ rows. Some (codes "serve", rows)) (one_row (leaf serve_form).rules x xs n)

pub given_make : (x y : ℕ) (xs ys : Text) → (x == 45) ≡ false → (y == 45) ≡ false
    → subcommand_of forms (codes "make" ∷ (x ∷ xs) ∷ (y ∷ ys) ∷ [])
    ≡ Some (codes "make", texts_rows make_form (x ∷ xs) (y ∷ ys))
unfolding clap_on_literals
given_make x y xs ys n m =
    let c = (leaf make_form).rules in
    ap (λ rows. Some (codes "make", rows)) (two_rows c (next c nothing_held 1 (x ∷ xs)).held x y xs ys n m refl)
