-- A line that says something by the grammar is read as that.
use Rattle.std.proofs.Common.{◌≡◌, ℕ, zero, suc, ◌+◌, ◌^◌, ◌<◌, ◌≤◌, Bool, true, false, cond, List, [], ◌∷◌, ◌++◌}
use Rattle.std.proofs.Common.{length, take, drop, Option, Some, None, Result, Ok, Err, refl, sym, ap, subst, ◌∙◌, inl}
use Rattle.std.proofs.Common.{inr, arith}
use Rattle.std.specs.Prelude.{◌&&◌, ◌||◌, ◌==◌, codes, decimal, nat_le, nat_lt, not, position, slice_index}
use Rattle.std.specs.List.{list_all}
use Rattle.std.specs.Str.{bytes_eq}
use Rattle.std.proofs.lemmas.Bool.{le-leb, le-ltb, leb-true, ne_eqb}
use Rattle.std.proofs.lemmas.List.{drop_at, drop-drop, take_at}
use Rattle.hex.specs.Hex.{decode_of}
use Rattle.hex.specs.declared.error.FromHexError.{FromHexError}
use Rattle.script_text.specs.Grammar.{IsHex, IsPlace, IsThree, IsTwo, Says}
use Rattle.script_text.specs.Names.{is_member, is_name, is_session}
use Rattle.script_text.specs.Numbers.{number_in}
use Rattle.script_text.specs.Reading.{◌>>=◌, by_count, hex_in, is_blank, line_in, number_or_fault, packet_in}
use Rattle.script_text.specs.Reading.{place_about, place_in, said, session_in, some_bytes, switch_in, three_of}
use Rattle.script_text.specs.Reading.{three_words, two_of, two_words, where_named}
use Rattle.script_text.specs.Verbs.{is_explain, is_sim, verb_in, verb_text}
use Rattle.script_text.specs.Words.{is_visible, is_word, onto_first, spaced, words}
use Rattle.script_text.specs.declared.fault.LineFault.{LineFault}
use Rattle.script_text.specs.declared.fault.LineFault.TheVariants.{Word, Name, Hex, Number}
use Rattle.script_text.specs.declared.form.Form.{Form}
use Rattle.script_text.specs.declared.form.Form.TheVariants.{Replay, Explain, Sim}
use Rattle.script_text.specs.declared.form.Verb.{Verb}
use Rattle.script_text.specs.declared.form.Verb.TheVariants.{Up, From, Gone, Tick, Expr, Ask, Packet}
use Rattle.script_text.specs.declared.line.Line.{Line}
use Rattle.script_text.specs.declared.line.Line.TheVariants as lines
use Rattle.script_text.proofs.Accepted.{Knows}
use Rattle.script_text.proofs.Digits.{decimal_is}
use Rattle.script_text.proofs.Pieces.{said_three, said_two, visible_alone, visible_other, word_alone}
use Rattle.script_text.proofs.Passed.{both, if_false, if_true}
use Rattle.script_text.proofs.WordBytes.{and_true, colon_found, decimal_word, hex_word, name_no_member, name_word}
use Rattle.script_text.proofs.WordBytes.{place_word, session_word}

-- ---- words with blanks between

-- a visible piece, and what stands behind the blank
visible_cut : (word rest : List ℕ) → list_all is_visible word ≡ true → words (word ++ (32 ∷ rest)) ≡ word ∷ words rest
visible_cut [] rest v = refl
visible_cut (c ∷ cs) rest v =
    let p = both (is_visible c) (list_all is_visible cs) v in
    ap (λ (t : Bool). cond t ([] ∷ words (cs ++ (32 ∷ rest))) (onto_first c (words (cs ++ (32 ∷ rest)))))
    (visible_other c p.0) ∙ ap (onto_first c) (visible_cut cs rest p.1)

word_cut : (word rest : List ℕ) → is_word word ≡ true → words (word ++ (32 ∷ rest)) ≡ word ∷ words rest
word_cut word rest w = visible_cut word rest (both (nat_lt 0 (length word)) (list_all is_visible word) w).1

two_pieces : (a b : List ℕ) → is_word a ≡ true → is_word b ≡ true → words (spaced (a ∷ b ∷ [])) ≡ a ∷ b ∷ []
two_pieces a b u v = word_cut a b u ∙ ap (λ (x : List (List ℕ)). a ∷ x) (word_alone b v)

-- ---- a line by its first word

verb_word : (verb : Verb) → is_word (verb_text verb) ≡ true
verb_word Up = refl
verb_word From = refl
verb_word Gone = refl
verb_word Tick = refl
verb_word Expr = refl
verb_word Ask = refl
verb_word Packet = refl

knows_verb : (form : Form) (verb : Verb) → Knows form verb → verb_in form (verb_text verb) ≡ Some verb
knows_verb form Up k = refl
knows_verb form From k = refl
knows_verb form Gone k = refl
knows_verb form Tick k = refl
knows_verb form Expr k = refl
knows_verb Replay Ask k = absurd cc
knows_verb Explain Ask k = refl
knows_verb Sim Ask k = absurd cc
knows_verb Replay Packet k = absurd cc
knows_verb Explain Packet k = absurd cc
knows_verb Sim Packet k = refl

not_blank : (c : ℕ) (cs : List ℕ) → (c == 35) ≡ false → is_blank (c ∷ cs) ≡ false
not_blank c cs other = (λ i. ne_eqb (length (c ∷ cs)) 0 (λ e. omega (arith, e)) i || other i)

verb_blank : (verb : Verb) (rest : List ℕ) → is_blank (verb_text verb ++ rest) ≡ false
verb_blank Up rest = not_blank 117 (112 ∷ rest) refl
verb_blank From rest = not_blank 102 (114 ∷ 111 ∷ 109 ∷ rest) refl
verb_blank Gone rest = not_blank 103 (111 ∷ 110 ∷ 101 ∷ rest) refl
verb_blank Tick rest = not_blank 116 (105 ∷ 99 ∷ 107 ∷ rest) refl
verb_blank Expr rest = not_blank 101 (120 ∷ 112 ∷ 114 ∷ rest) refl
verb_blank Ask rest = not_blank 97 (115 ∷ 107 ∷ rest) refl
verb_blank Packet rest = not_blank 112 (97 ∷ 99 ∷ 107 ∷ 101 ∷ 116 ∷ rest) refl

abbrev blank : Result Line LineFault
blank = Ok lines.Blank

two_read : (form : Form) (verb : Verb) (word line : List ℕ) → Knows form verb → is_word word ≡ true
    → IsTwo verb word line → line_in form line ≡ two_words verb word
two_read form verb word line k w is =
    let text = verb_text verb in
    let whole = spaced (text ∷ word ∷ []) in
    ap (line_in form) is
    ∙ (if_false (is_blank whole) blank (said form (words whole)) (verb_blank verb (32 ∷ word))
    ∙ (ap (said form) (two_pieces text word (verb_word verb) w)
    ∙ (sym (said_two form text word (verb_word verb) w)
    ∙ ap (λ (o : Option Verb). two_of o word) (knows_verb form verb k))))

three_read : (form : Form) (verb : Verb) (word last line : List ℕ) → Knows form verb → is_word word ≡ true
    → is_word last ≡ true → IsThree verb word last line → line_in form line ≡ three_words form verb word last
three_read form verb word last line k w v is =
    let text = verb_text verb in
    let whole = spaced (text ∷ word ∷ last ∷ []) in
    ap (line_in form) is
    ∙ (if_false (is_blank whole) blank (said form (words whole)) (verb_blank verb (32 ∷ spaced (word ∷ last ∷ [])))
    ∙ (ap (said form) (word_cut text (spaced (word ∷ last ∷ [])) (verb_word verb)
    ∙ ap (λ (x : List (List ℕ)). text ∷ x) (word_cut word last w))
    ∙ (sym (said_three form text word last (verb_word verb) w v)
    ∙ ap (λ (o : Option Verb). three_of form o word last) (knows_verb form verb k))))

-- ---- parts

named : (holds : Bool) (word : List ℕ) → holds ≡ true → where_named holds word ≡ Ok word
named holds word h = ap (λ (t : Bool). where_named t word) h

some_read : (bytes : List ℕ) → 0 < length bytes → some_bytes (Ok bytes) ≡ Ok bytes
some_read [] some = absurd (omega (arith, some))
some_read (b ∷ bs) some = refl

hex_read : (digits bytes : List ℕ) → IsHex digits bytes → hex_in digits ≡ Ok bytes
hex_read digits bytes h = ap some_bytes h.is ∙ some_read bytes h.some

place_read : (switch : List ℕ) (port : ℕ) (word : List ℕ) → IsPlace switch port word → place_in word ≡ Ok (switch, port)
place_read switch port word p =
    let whole = switch ++ (58 ∷ decimal port) in
    let n = length switch in
    let front : take n whole ≡ switch = take_at switch (58 ∷ decimal port) n refl in
    let back : drop (n + 1) whole ≡ decimal port = sym (drop-drop 1 n whole)
    ∙ ap (drop 1) (drop_at switch (58 ∷ decimal port) n refl) in
    let port_read : number_in 65535 (drop (n + 1) whole) ≡ Some port = ap (number_in 65535) back
    ∙ decimal_is 65535 port (omega arith) p.small in
    let switch_read : switch_in (take n whole) ≡ Ok switch = ap switch_in front
    ∙ named (is_name switch) switch p.named in
    ap place_in p.is ∙ (ap (place_about whole) (colon_found switch (decimal port) p.named)
    ∙ (λ i. number_or_fault Name (port_read i) >>= λ q. (switch_read i >>= λ s. Ok (s, q))))

packet_read : (digits bytes : List ℕ) → IsHex digits bytes → 14 ≤ length bytes → length bytes ≤ 65513
    → packet_in digits ≡ Ok bytes
packet_read digits bytes h low high =
    (λ i. hex_read digits bytes h i >>= λ bs. cond (nat_le 14 (length bs) && nat_le (length bs) 65513) (Ok bs)
    (Err Hex))
    ∙ if_true (nat_le 14 (length bytes) && nat_le (length bytes) 65513) (Ok bytes) (Err Hex)
    (and_true (nat_le 14 (length bytes)) (nat_le (length bytes) 65513) (le-leb 14 (length bytes) low)
    (le-leb (length bytes) 65513 high))

session_of_name : (name : List ℕ) → is_name name ≡ true → is_session name ≡ true
session_of_name name e = ap (λ (t : Bool). t || is_member name) e

not_and : (a b : Bool) → (a ≡ true → b ≡ false) → (a && b) ≡ false
not_and true b h = h refl
not_and false b h = refl

-- ---- lines

blank_read : (line : List ℕ) (form : Form) → is_blank line ≡ true → line_in form line ≡ Ok lines.Blank
blank_read line form e = if_true (is_blank line) blank (said form (words line)) e

or_true : (a : Bool) → (a || true) ≡ true
or_true true = refl
or_true false = refl

pub says_line : (form : Form) (line : List ℕ) (l : Line) → Says form l line → line_in form line ≡ Ok l
says_line form line lines.Blank s =
    elim s [
      | inl none ↦ blank_read line form (ap is_blank none)
      | inr comment ↦ blank_read line form (ap is_blank comment.1 ∙ or_true (length (35 ∷ comment.0) == 0))
    ]
says_line form line (lines.Up name false) s =
    two_read form Up name line tt (session_word name s.0) s.1
    ∙ (λ i. named (is_session name) name s.0 i >>= λ n. Ok (lines.Up n false))
says_line form line (lines.Up name true) s =
    let session = session_of_name name s.0 in
    let test : (is_sim form || (is_member name || not (bytes_eq (codes "noarp") (codes "noarp")))) ≡ false =
    (λ i. s.1 i || (name_no_member name s.0 i || false)) in
    three_read form Up name (codes "noarp") line tt (session_word name session) refl s.2
    ∙ (if_false (is_sim form || (is_member name || not (bytes_eq (codes "noarp") (codes "noarp")))) (Err Word)
    (session_in name >>= λ n. Ok (lines.Up n true)) test
    ∙ (λ i. named (is_session name) name session i >>= λ n. Ok (lines.Up n true)))
says_line form line (lines.From name bytes) s =
    let digits = s.2.0 in
    let hex = s.2.1 in
    three_read form From name digits line tt (session_word name s.0) (hex_word digits bytes hex) s.2.2
    ∙ (if_false (is_sim form && is_name name) (Err Word)
    (session_in name >>= λ n. hex_in digits >>= λ bs. Ok (lines.From n bs))
    (not_and (is_sim form) (is_name name) s.1)
    ∙ (λ i. named (is_session name) name s.0 i >>= λ n. (hex_read digits bytes hex i >>= λ bs. Ok (lines.From n bs))))
says_line form line (lines.Gone name) s =
    two_read form Gone name line tt (session_word name s.0) s.1
    ∙ (λ i. named (is_session name) name s.0 i >>= λ n. Ok (lines.Gone n))
says_line form line (lines.Tick second) s =
    let read = decimal_is 18446744073709551615 second (omega arith) (omega (arith, s.0)) in
    two_read form Tick (decimal second) line tt (decimal_word second s.0) s.1
    ∙ (λ i. number_or_fault Number (read i) >>= λ n. Ok (lines.Tick n))
says_line form line (lines.Expr name text) s =
    three_read form Expr name text line tt (name_word name s.0) s.1 s.3
    ∙ (if_false (nat_lt 1024 (length text)) (Err Word) (switch_in name >>= λ n. Ok (lines.Expr n text))
    (le-ltb 1024 (length text) s.2)
    ∙ (λ i. named (is_name name) name s.0 i >>= λ n. Ok (lines.Expr n text)))
says_line form line (lines.Ask switch port bytes) s =
    let word = s.1.0 in
    let digits = s.1.1 in
    let place = place_read switch port word s.1.2 in
    three_read form Ask word digits line s.0 (place_word switch port word s.1.2) (hex_word digits bytes s.1.3) s.1.4
    ∙ (λ i. place i >>= λ at. (hex_read digits bytes s.1.3 i >>= λ bs. Ok (lines.Ask at.0 at.1 bs)))
says_line form line (lines.Packet switch port bytes) s =
    let word = s.3.0 in
    let digits = s.3.1 in
    let place = place_read switch port word s.3.2 in
    three_read form Packet word digits line s.0 (place_word switch port word s.3.2) (hex_word digits bytes s.3.3) s.3.4
    ∙ (λ i. place i >>= λ at. (packet_read digits bytes s.3.3 s.1 s.2 i >>= λ bs. Ok (lines.Packet at.0 at.1 bs)))
