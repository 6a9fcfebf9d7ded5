-- What `clap` matches of words of a form tells the form.
use Rattle.std.proofs.Common.{◌≡◌, ℕ, Bool, true, false, cond, List, [], ◌∷◌, length, Option, Some, None, is_some, map}
use Rattle.std.proofs.Common.{refl, sym, subst, arith, codes}
use Rattle.std.specs.Prelude.{◌==◌, ◌&&◌, not, nat_le}
use Rattle.std.specs.List.{list_all, slice_index_or}
use Rattle.std.specs.Str.{bytes_eq}
use Rattle.std.proofs.lemmas.Slice.Eq.{bytes_eq-Decides}
use Rattle.std.proofs.lemmas.Bool.{leb-true}
use Rattle.std.proofs.lemmas.List.Sums.{AllPass-from_list_all}
use Rattle.std.specs.String.{string_bytes}
use Rattle.std.specs.declared.alloc.Global.{Global}
use Rattle.std.specs.declared.string.String.{String}
use Rattle.cv_io.specs.Text.{IsAsciiText}
use Rattle.clap.specs.Words.{Row, Text, subcommand_of, takes}
use Rattle.command_line.specs.Forms.{command_of, count_in, form_of, is_plain, is_printable, making, seed_in}
use Rattle.command_line.specs.declared.command.Command.{Command}
use Rattle.command_line.specs.declared.command.Command.TheVariants.{Replay, ReplayPolicy, ExplainPolicy, Serve}
use Rattle.command_line.specs.Meaning.{NamesAscii, meant_by}
use Rattle.command_line.specs.Parser.{forms}
use Rattle.command_line.proofs.Walks.{given_alone, given_explain, given_make, given_replay, given_serve, taken_alone}
use Rattle.command_line.proofs.Walks.{taken_explain, taken_make, taken_replay, taken_serve}

both : (a b : Bool) → (a && b) ≡ true → (a ≡ true) × (b ≡ true)
both true b e = (refl, e)
both false b e = absurd cc

is_false : (b : Bool) → not b ≡ true → b ≡ false
is_false true e = absurd cc
is_false false e = refl

-- a verb that passes the test
named : (verb name : Text) → bytes_eq verb name ≡ true → verb ≡ name
named verb name e = (bytes_eq-Decides verb name).0 e

-- ---- plain words

abbrev IsPlain : Text → Type 0
IsPlain word = (x : ℕ) × (xs : Text) × (word ≡ (x ∷ xs)) × ((x == 45) ≡ false) × IsAsciiText word

pub printable_is_ascii : (word : Text) → list_all is_printable word ≡ true → IsAsciiText word
printable_is_ascii word e = λ k d lt.
    let c = slice_index_or word k d in
    omega
    (arith, leb-true c 126 (both (nat_le 32 c) (nat_le c 126) (AllPass-from_list_all is_printable word e k d lt)).1)

pub plain_word : (word : Text) → is_plain word ≡ true → IsPlain word
plain_word [] e = absurd cc
plain_word (x ∷ xs) e =
    let q = both (not (length (x ∷ xs) == 0)) (not (x == 45) && list_all is_printable (x ∷ xs)) e in
    let p = both (not (x == 45)) (list_all is_printable (x ∷ xs)) q.1 in
    (x, xs, refl, is_false (x == 45) p.0, printable_is_ascii (x ∷ xs) p.1)

-- ---- what is told

-- the form, and a name that is ASCII
abbrev pub Tells : List Text → Option (Text × List Row) → Type 0
Tells words None = ⊥
Tells words (Some p) = (meant_by p.0 p.1 ≡ form_of words) × NamesAscii p.1

-- `clap` takes the words, and what it matches tells their form
abbrev pub IsTold : List Text → Type 0
IsTold words = (takes forms words ≡ true) × Tells words (subcommand_of forms words)

by_rows : (words : List Text) (p : Text × List Row) → takes forms words ≡ true → subcommand_of forms words ≡ Some p
    → Tells words (Some p) → IsTold words
by_rows words p taken given tells = (taken, subst (Tells words) (sym given) tells)

told_alone : IsTold (codes "replay" ∷ [])
told_alone = by_rows (codes "replay" ∷ []) _ taken_alone given_alone (refl, tt)

told_replay : (name : Text) → IsPlain name → IsTold (codes "replay" ∷ name ∷ [])
told_replay name p = subst (λ name. IsTold (codes "replay" ∷ name ∷ [])) (sym p.2)
    (by_rows (codes "replay" ∷ (p.0 ∷ p.1) ∷ []) _ (taken_replay p.0 p.1 p.3) (given_replay p.0 p.1 p.3)
    (refl, subst IsAsciiText p.2 p.4))

told_explain : (name : Text) → IsPlain name → IsTold (codes "explain" ∷ name ∷ [])
told_explain name p = subst (λ name. IsTold (codes "explain" ∷ name ∷ [])) (sym p.2)
    (by_rows (codes "explain" ∷ (p.0 ∷ p.1) ∷ []) _ (taken_explain p.0 p.1 p.3) (given_explain p.0 p.1 p.3)
    (refl, subst IsAsciiText p.2 p.4))

told_serve : (name : Text) → IsPlain name → IsTold (codes "serve" ∷ name ∷ [])
told_serve name p = subst (λ name. IsTold (codes "serve" ∷ name ∷ [])) (sym p.2)
    (by_rows (codes "serve" ∷ (p.0 ∷ p.1) ∷ []) _ (taken_serve p.0 p.1 p.3) (given_serve p.0 p.1 p.3)
    (refl, subst IsAsciiText p.2 p.4))

told_make : (seed count : Text) → IsPlain seed → IsPlain count → IsTold (codes "make" ∷ seed ∷ count ∷ [])
told_make seed count p q =
    subst (λ seed. IsTold (codes "make" ∷ seed ∷ count ∷ [])) (sym p.2)
    (subst (λ count. IsTold (codes "make" ∷ (p.0 ∷ p.1) ∷ count ∷ [])) (sym q.2)
    (by_rows (codes "make" ∷ (p.0 ∷ p.1) ∷ (q.0 ∷ q.1) ∷ []) _ (taken_make p.0 q.0 p.1 q.1 p.3 q.3)
    (given_make p.0 q.0 p.1 q.1 p.3 q.3) (refl, tt)))

-- ---- by the words

of_one : (verb : Text) (b : Bool) → bytes_eq verb (codes "replay") ≡ b → is_some (cond b (Some Replay) None) ≡ true
    → IsTold (verb ∷ [])
of_one verb true e some = subst (λ v. IsTold (v ∷ [])) (sym (named verb _ e)) told_alone
of_one verb false e some = absurd cc

of_two : (verb name : Text) → IsPlain name → (a b d : Bool) → bytes_eq verb (codes "replay") ≡ a
    → bytes_eq verb (codes "explain") ≡ b → bytes_eq verb (codes "serve") ≡ d
    → is_some (cond a (Some (ReplayPolicy name)) (cond b (Some (ExplainPolicy name)) (cond d (Some (Serve name)) None)))
    ≡ true → IsTold (verb ∷ name ∷ [])
of_two verb name p true b d e f g some = subst (λ v. IsTold (v ∷ name ∷ [])) (sym (named verb _ e)) (told_replay name p)
of_two verb name p false true d e f g some =
    subst (λ v. IsTold (v ∷ name ∷ [])) (sym (named verb _ f)) (told_explain name p)
of_two verb name p false false true e f g some =
    subst (λ v. IsTold (v ∷ name ∷ [])) (sym (named verb _ g)) (told_serve name p)
of_two verb name p false false false e f g some = absurd cc

of_three : (verb seed count : Text) → IsPlain seed → IsPlain count → (made : Option Command) (b : Bool)
    → bytes_eq verb (codes "make") ≡ b
    → is_some (cond b made None) ≡ true → IsTold (verb ∷ seed ∷ count ∷ [])
of_three verb seed count p q made true e some =
    subst (λ v. IsTold (v ∷ seed ∷ count ∷ [])) (sym (named verb _ e)) (told_make seed count p q)
of_three verb seed count p q made false e some = absurd cc

pub told : (words : List Text) → list_all is_plain words ≡ true → is_some (form_of words) ≡ true → IsTold words
told [] plain some = absurd cc
told (verb ∷ []) plain some = of_one verb (bytes_eq verb (codes "replay")) refl some
told (verb ∷ name ∷ []) plain some =
    let rest = (both (is_plain verb) _ plain).1 in
    of_two verb name (plain_word name (both (is_plain name) _ rest).0) _ _ _ refl refl refl some
told (verb ∷ seed ∷ count ∷ []) plain some =
    let rest = both (is_plain seed) _ (both (is_plain verb) _ plain).1 in
    of_three verb seed count (plain_word seed rest.0) (plain_word count (both (is_plain count) _ rest.1).0)
    (making (seed_in seed) (count_in count)) (bytes_eq verb (codes "make")) refl some
told (verb ∷ seed ∷ count ∷ more ∷ words) plain some = absurd cc

-- of words that ask for something
pub told_of : (words : List (String Global)) → is_some (command_of words) ≡ true → IsTold (map string_bytes words)
told_of words some = go (list_all is_plain (map string_bytes words)) refl some
  where
    go : (b : Bool) → list_all is_plain (map string_bytes words) ≡ b
        → is_some (cond b (form_of (map string_bytes words)) None) ≡ true → IsTold (map string_bytes words)
    go true plain some = told (map string_bytes words) plain some
    go false plain some = absurd cc

-- and there the form is what is asked for
pub form_is : (words : List (String Global)) → is_some (command_of words) ≡ true
    → form_of (map string_bytes words) ≡ command_of words
form_is words some = go (list_all is_plain (map string_bytes words)) some
  where
    go : (b : Bool) → is_some (cond b (form_of (map string_bytes words)) None) ≡ true
        → form_of (map string_bytes words) ≡ cond b (form_of (map string_bytes words)) None
    go true some = refl
    go false some = absurd cc
