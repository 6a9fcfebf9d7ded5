-- The pieces between the blanks of a line.
use Rattle.std.proofs.Common.{◌≡◌, ℕ, zero, suc, ◌+◌, ◌-◌, ◌<◌, ◌≤◌, Bool, true, false, cond, eqb, List, [], ◌∷◌, ◌++◌}
use Rattle.std.proofs.Common.{length, get_or, take, drop, Option, Some, None, Result, Ok, Err, All, refl, sym, ap}
use Rattle.std.proofs.Common.{subst, ◌∙◌, inl, inr, drop-drop, arith}
use Rattle.std.specs.Prelude.{◌&&◌, ◌==◌, ◌⊎◌, not, nat_le, nat_lt, position}
use Rattle.std.specs.List.{list_all, prefix_len}
use Rattle.std.proofs.lemmas.Bool.{leb-true, ltb-false, ltb-true, ne_eqb}
use Rattle.std.proofs.lemmas.List.Sums.{AllPass-from_list_all, prefix_len-le-length}
use Rattle.std.proofs.lemmas.Option.{cond_some}
use Rattle.cv_io.specs.Text.{IsAsciiText}
use Rattle.script_text.specs.Reading.{by_count, said, three_of, two_of}
use Rattle.script_text.specs.Verbs.{verb_in}
use Rattle.script_text.specs.Words.{is_visible, is_word, onto_first, words}
use Rattle.script_text.specs.declared.fault.LineFault.{LineFault}
use Rattle.script_text.specs.declared.fault.LineFault.TheVariants.{Word}
use Rattle.script_text.specs.declared.form.Form.{Form}
use Rattle.script_text.specs.declared.line.Line.{Line}
use Rattle.script_text.proofs.Passed.{both, if_false, if_true}

-- how many bytes stand before the first blank
abbrev before : List ℕ → ℕ
before line = prefix_len (λ c. not (c == 32)) line

-- words by the first blank
record IsCut (line : List ℕ) : Type 0 where
  whole : before line ≡ length line → words line ≡ line ∷ []
  cut : before line < length line → words line ≡ take (before line) line ∷ words (drop (before line + 1) line)

cut_at_blank : (c : ℕ) (cs : List ℕ) → (c == 32) ≡ true → IsCut (c ∷ cs)
cut_at_blank c cs blank =
    let none : before (c ∷ cs) ≡ 0 = ap (λ (t : Bool). cond (not t) (1 + before cs) 0) blank in
    let pieces : words (c ∷ cs) ≡ [] ∷ words cs =
    ap (λ (t : Bool). cond t ([] ∷ words cs) (onto_first c (words cs))) blank in
    record {
      whole = λ e. absurd (omega (arith, e, none));
      cut = λ lt. pieces ∙ ap (λ (n : ℕ). take n (c ∷ cs) ∷ words (drop (n + 1) (c ∷ cs))) (sym none);
    }

cut_behind : (c : ℕ) (cs : List ℕ) → (c == 32) ≡ false → IsCut cs → IsCut (c ∷ cs)
cut_behind c cs other rest =
    let one : before (c ∷ cs) ≡ suc (before cs) = ap (λ (t : Bool). cond (not t) (1 + before cs) 0) other
    ∙ omega arith in
    let step : suc (before cs + 1) ≡ suc (before cs) + 1 = omega arith in
    let pieces : words (c ∷ cs) ≡ onto_first c (words cs) =
    ap (λ (t : Bool). cond t ([] ∷ words cs) (onto_first c (words cs))) other in
    record {
      whole = λ e. pieces ∙ ap (onto_first c) (rest.whole (omega (arith, e, one)));
      cut = λ lt. pieces ∙ (ap (onto_first c) (rest.cut (omega (arith, lt, one)))
          ∙ (ap (λ (n : ℕ). (c ∷ take (before cs) cs) ∷ words (drop n (c ∷ cs))) step
          ∙ ap (λ (n : ℕ). take n (c ∷ cs) ∷ words (drop (n + 1) (c ∷ cs))) (sym one)));
    }

is_cut : (line : List ℕ) → IsCut line
is_cut [] = record { whole = λ e. refl; cut = λ lt. absurd (omega (arith, lt)) }
is_cut (c ∷ cs) = by (c == 32) refl (is_cut cs)
  where
    by : (b : Bool) → (c == 32) ≡ b → IsCut cs → IsCut (c ∷ cs)
    by true e rest = cut_at_blank c cs e
    by false e rest = cut_behind c cs e rest

-- a line without a blank is one piece
pub one_piece : (line : List ℕ) → position (λ c. c == 32) line ≡ None → words line ≡ line ∷ []
one_piece line none =
    let over : length line ≤ before line =
    ltb-false _ _ (no_place (nat_lt (before line) (length line)) (before line) none) in
    (is_cut line).whole (omega (arith, over, prefix_len-le-length (λ (c : ℕ). not (c == 32)) line))
  where
    no_place : (b : Bool) (n : ℕ) → cond b (Some n) None ≡ None → b ≡ false
    no_place true n e = absurd cc
    no_place false n e = refl

-- the first piece ends at the first blank
pub first_piece : (line : List ℕ) (at : ℕ) → position (λ c. c == 32) line ≡ Some at
    → words line ≡ take at line ∷ words (drop (at + 1) line)
first_piece line at found =
    let p = cond_some (nat_lt (before line) (length line)) (before line) at found in
    (is_cut line).cut (ltb-true _ _ p.0) ∙ ap (λ (n : ℕ). take n line ∷ words (drop (n + 1) line)) p.1

-- a word is one piece
pub visible_other : (c : ℕ) → is_visible c ≡ true → (c == 32) ≡ false
visible_other c v = ne_eqb c 32 (λ e. omega (arith, e, leb-true _ _ (both (nat_le 33 c) (nat_le c 126) v).0))

pub visible_alone : (word : List ℕ) → list_all is_visible word ≡ true → words word ≡ word ∷ []
visible_alone [] v = refl
visible_alone (c ∷ cs) v =
    let p = both (is_visible c) (list_all is_visible cs) v in
    ap (λ (t : Bool). cond t ([] ∷ words cs) (onto_first c (words cs))) (visible_other c p.0)
    ∙ ap (onto_first c) (visible_alone cs p.1)

pub word_alone : (word : List ℕ) → is_word word ≡ true → words word ≡ word ∷ []
word_alone word w = visible_alone word (both (nat_lt 0 (length word)) (list_all is_visible word) w).1

pub word_ascii : (word : List ℕ) → is_word word ≡ true → IsAsciiText word
word_ascii word w k d lt =
    let all = AllPass-from_list_all is_visible word (both (nat_lt 0 (length word)) (list_all is_visible word) w).1 in
    omega (arith, leb-true _ _ (both (nat_le 33 (get_or word k d)) (nat_le (get_or word k d) 126) (all k d lt)).1)

-- ---- what pieces say

abbrev fault : Result Line LineFault
fault = Err Word

pub said_not : (form : Form) (pieces : List (List ℕ)) → list_all is_word pieces ≡ false → fault ≡ said form pieces
said_not form pieces never = sym (if_false (list_all is_word pieces) (by_count form pieces) fault never)

pub said_one : (form : Form) (piece : List ℕ) → fault ≡ said form (piece ∷ [])
said_one form piece = by (list_all is_word (piece ∷ []))
  where
    by : (b : Bool) → fault ≡ cond b fault fault
    by true = refl
    by false = refl

first_not : (a : Bool) (b : Bool) → a ≡ false → (a && b) ≡ false
first_not true b e = absurd cc
first_not false b e = refl

second_not : (a b : Bool) → b ≡ false → (a && b) ≡ false
second_not true b e = e
second_not false b e = refl

pub first_bad : (form : Form) (first : List ℕ) (rest : List (List ℕ)) → is_word first ≡ false
    → fault ≡ said form (first ∷ rest)
first_bad form first rest never = said_not form (first ∷ rest) (first_not (is_word first) (list_all is_word rest) never)

pub second_bad : (form : Form) (first second : List ℕ) (rest : List (List ℕ)) → is_word second ≡ false
    → fault ≡ said form (first ∷ second ∷ rest)
second_bad form first second rest never =
    said_not form (first ∷ second ∷ rest)
    (second_not (is_word first) (list_all is_word (second ∷ rest))
    (first_not (is_word second) (list_all is_word rest) never))

-- four pieces or more
four_bad : (form : Form) (first second third : List ℕ) (rest : List (List ℕ)) → 0 < length rest
    → fault ≡ said form (first ∷ second ∷ third ∷ rest)
four_bad form first second third [] some = absurd (omega (arith, some))
four_bad form first second third (fourth ∷ rest) some = by (list_all is_word (first ∷ second ∷ third ∷ fourth ∷ rest))
  where
    by : (b : Bool) → fault ≡ cond b fault fault
    by true = refl
    by false = refl

pub some_words : (line : List ℕ) → 0 < length (words line)
some_words [] = omega arith
some_words (c ∷ cs) = by (c == 32) (words cs)
  where
    by : (b : Bool) (pieces : List (List ℕ)) → 0 < length (cond b ([] ∷ pieces) (onto_first c pieces))
    by true pieces = omega arith
    by false [] = omega arith
    by false (piece ∷ pieces) = omega arith

pub third_bad : (form : Form) (first second third : List ℕ) → is_word third ≡ false
    → fault ≡ said form (first ∷ second ∷ words third)
third_bad form first second third never = by (position (λ c. c == 32) third) refl
  where
    by : (o : Option ℕ) → position (λ c. c == 32) third ≡ o → fault ≡ said form (first ∷ second ∷ words third)
    by None none =
        subst (λ (pieces : List (List ℕ)). fault ≡ said form (first ∷ second ∷ pieces)) (sym (one_piece third none))
        (said_not form (first ∷ second ∷ third ∷ [])
        (second_not (is_word first) (list_all is_word (second ∷ third ∷ []))
        (second_not (is_word second) (list_all is_word (third ∷ [])) (first_not (is_word third) true never))))
    by (Some at) found =
        subst (λ (pieces : List (List ℕ)). fault ≡ said form (first ∷ second ∷ pieces))
        (sym (first_piece third at found))
        (four_bad form first second (take at third) (words (drop (at + 1) third)) (some_words (drop (at + 1) third)))

pub said_two : (form : Form) (first second : List ℕ) → is_word first ≡ true → is_word second ≡ true
    → two_of (verb_in form first) second ≡ said form (first ∷ second ∷ [])
said_two form first second f s =
    λ i. cond (sym f i && (sym s i && true)) (two_of (verb_in form first) second) fault

pub said_three : (form : Form) (first second third : List ℕ) → is_word first ≡ true → is_word second ≡ true
    → is_word third ≡ true → three_of form (verb_in form first) second third ≡ said form (first ∷ second ∷ words third)
said_three form first second third f s t =
    (λ i. cond (sym f i && (sym s i && (sym t i && true))) (three_of form (verb_in form first) second third) fault)
    ∙ ap (λ (pieces : List (List ℕ)). said form (first ∷ second ∷ pieces)) (sym (word_alone third t))
