-- Heads of lines.
use Rattle.std.proofs.Common.{◌≡◌, ℕ, ◌==◌, ◌&&◌, ◌||◌, Bool, true, false, true≢false, not, List, [], ◌∷◌, ◌++◌}
use Rattle.std.proofs.Common.{Some}
use Rattle.std.proofs.Common.{None, if◌then◌else◌, refl, sym, ap, subst}
use Rattle.std.proofs.lemmas.Bool.{ne_eqb}
use Rattle.std.specs.Prelude.{nat_eq}
use Rattle.std.specs.Cmp.Lexicographic.{pointwise}
use Rattle.script_text.specs.Lines.{report_text}
use Rattle.hex.specs.Hex.{encode_lower}
use Rattle.report_lines.specs.Lines.{is_word}
use Rattle.report_lines.specs.Reading.{behind, head_of}

-- a byte of a word is no space
no_space : (c : ℕ) (later : Bool) → (not ((c == 10) || (c == 32)) && later) ≡ true → c ≡ 32 → ⊥
no_space c later h e =
    true≢false (sym (subst (λ (d : ℕ). (not ((d == 10) || (d == 32)) && later) ≡ true) e h))

-- a name and a space, looked for at another name and a space
word_behind : (name other rest : List ℕ) → is_word name ≡ true → is_word other ≡ true
    → behind (name ++ 32 ∷ []) (other ++ 32 ∷ rest) ≡ (if pointwise nat_eq name other then Some rest else None)
word_behind [] [] rest h k = refl
word_behind [] (d ∷ other) rest h k =
    ap (λ b. if b then Some (other ++ 32 ∷ rest) else None)
    (ne_eqb 32 d (λ e. no_space d (is_word other) k (sym e)))
word_behind (c ∷ name) [] rest h k =
    ap (λ b. if b then behind (name ++ 32 ∷ []) rest else None) (ne_eqb c 32 (no_space c (is_word name) h))
word_behind (c ∷ name) (d ∷ other) rest h k =
    by (c == d) (word_behind name other rest (rest_of c (is_word name) h) (rest_of d (is_word other) k))
  where
    rest_of : (x : ℕ) (later : Bool) → (not ((x == 10) || (x == 32)) && later) ≡ true → later ≡ true
    rest_of x later e = both (not ((x == 10) || (x == 32))) e
      where
        both : (b : Bool) → (b && later) ≡ true → later ≡ true
        both true t = t
        both false t = absurd (true≢false (sym t))

    by : (b : Bool)
        → behind (name ++ 32 ∷ []) (other ++ 32 ∷ rest) ≡ (if pointwise nat_eq name other then Some rest else None)
        → (if b then behind (name ++ 32 ∷ []) (other ++ 32 ∷ rest) else None)
        ≡ (if b && pointwise nat_eq name other then Some rest else None)
    by true e = e
    by false e = refl

-- the head of a session's lines, looked for at the line of a message
pub head_behind : (name other message : List ℕ) → is_word name ≡ true → is_word other ≡ true
    → behind (head_of name) (report_text other message)
    ≡ (if pointwise nat_eq name other then Some (encode_lower message) else None)
head_behind name other message h k = word_behind name other (encode_lower message) h k

-- a line that doesn't begin with a word begins with no longer head
pub no_longer : (word head line : List ℕ) → behind word line ≡ None → behind (word ++ head) line ≡ None
no_longer [] head line e = absurd (cc e)
no_longer (c ∷ word) head [] e = refl
no_longer (c ∷ word) head (d ∷ line) e = by (c == d) e (no_longer word head line)
  where
    by : (b : Bool) → (if b then behind word line else None) ≡ None
        → (behind word line ≡ None → behind (word ++ head) line ≡ None)
        → (if b then behind (word ++ head) line else None) ≡ None
    by true f g = g f
    by false f g = refl
