-- What the verb and the texts that `clap` matched ask for.
use Rattle.std.proofs.Common.{◌≡◌, ℕ, true, false, List, Option, Some, None, ap, ap₂, codes, option_map, refl, subst}
use Rattle.std.proofs.Common.{sym}
use Rattle.std.specs.Prelude.{IfSome, option_and_then, unwrap_or}
use Rattle.std.specs.Borrow.{Bor}
use Rattle.std.specs.Str.{bytes_eq}
use Rattle.cv_io.specs.Text.{IsAsciiText}
use Rattle.clap.specs.Words.{Row, Text}
use Rattle.command_line.specs.Meaning.{made_in, meant_by, policy_in, replaying}
use Rattle.command_line.specs.declared.command.Command.TheVariants.{ExplainPolicy, Serve}

-- ---- by the verb

pub replay_meant : (verb : Text) (rows : List Row) → bytes_eq verb (codes "replay") ≡ true
    → Some (replaying (policy_in rows)) ≡ meant_by verb rows
replay_meant verb rows a = rw a refl

pub explain_meant : (verb : Text) (rows : List Row) → bytes_eq verb (codes "replay") ≡ false
    → bytes_eq verb (codes "explain") ≡ true
    → option_map (λ name. ExplainPolicy name) (policy_in rows) ≡ meant_by verb rows
explain_meant verb rows a b = rw (a, b) refl

pub serve_meant : (verb : Text) (rows : List Row) → bytes_eq verb (codes "replay") ≡ false
    → bytes_eq verb (codes "explain") ≡ false
    → bytes_eq verb (codes "serve") ≡ true → option_map (λ name. Serve name) (policy_in rows) ≡ meant_by verb rows
serve_meant verb rows a b d = rw (a, b, d) refl

pub make_meant : (verb : Text) (rows : List Row) → bytes_eq verb (codes "replay") ≡ false
    → bytes_eq verb (codes "explain") ≡ false
    → bytes_eq verb (codes "serve") ≡ false → bytes_eq verb (codes "make") ≡ true → made_in rows ≡ meant_by verb rows
make_meant verb rows a b d c = rw (a, b, d, c) refl

-- ---- a text that was matched

pub ascii_given : (o : Option (Bor Text)) (t : Option Text) → option_map (λ s. s.now) o ≡ t → IfSome t IsAsciiText
    → IfSome o (λ s. IsAsciiText s.now)
ascii_given None t e h = tt
ascii_given (Some s) t e h = subst (λ (x : Option Text). IfSome x IsAsciiText) (sym e) h

pub number_given : (f : Text → Option ℕ) (o : Option (Bor Text)) (t : Option Text) → option_map (λ s. s.now) o ≡ t
    → option_and_then (λ s. f s.now) o ≡ option_and_then f t
number_given f None t e = ap (option_and_then f) e
number_given f (Some s) t e = ap (option_and_then f) e

-- ---- the subcommand that was matched

pub met : {B : Type 0} (f : B → Text) (g : B → List Row) (o : Option B) (name : Text) (rows : List Row)
    → Some name ≡ option_map f o
    → Some rows ≡ option_map (λ (p : Text × List Row). p.1) (option_map {U = Text × List Row} (λ (b : B). (f b, g b)) o)
    → option_map {U = Text × List Row} (λ (b : B). (f b, g b)) o ≡ Some (name, rows)
met f g None name rows e r = cc
met f g (Some b) name rows e r =
    let same : name ≡ f b = ap (λ (x : Option Text). unwrap_or x name) e in
    let like : rows ≡ g b = ap (λ (x : Option (List Row)). unwrap_or x rows) r in
    ap₂ (λ (n : Text) (r : List Row). Some (n, r)) (sym same) (sym like)

pub unmet : {B : Type 0} (f : B → Text) (g : B → List Row) (o : Option B) → None ≡ option_map f o
    → option_map {U = Text × List Row} (λ (b : B). (f b, g b)) o ≡ None
unmet f g None e = refl
unmet f g (Some b) e = cc
