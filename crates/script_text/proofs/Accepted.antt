-- A line that is read says what was read, by the grammar.
use Rattle.std.proofs.Common.{◌≡◌, ℕ, zero, suc, ◌+◌, ◌^◌, ◌<◌, ◌≤◌, Bool, true, false, cond, List, [], ◌∷◌, ◌++◌}
use Rattle.std.proofs.Common.{length, take, drop, Option, Some, None, Result, Ok, Err, refl, sym, ap, subst, ◌∙◌, inl}
use Rattle.std.proofs.Common.{inr, eqb-true, arith}
use Rattle.std.specs.Prelude.{◌&&◌, ◌||◌, ◌==◌, ◌⊎◌, codes, decimal, nat_le, nat_lt, not, position, slice_index}
use Rattle.std.specs.List.{list_all}
use Rattle.std.specs.Str.{bytes_eq}
use Rattle.std.proofs.lemmas.Bool.{eqb-true as eqb_so, leb-true, ltb-false}
use Rattle.hex.specs.Hex.{decode_of}
use Rattle.hex.specs.declared.error.FromHexError.{FromHexError}
use Rattle.script_text.specs.Grammar.{IsHex, IsPlace, IsThree, IsTwo, Says}
use Rattle.script_text.specs.Names.{is_member, is_name, is_session}
use Rattle.script_text.specs.Numbers.{number_in}
use Rattle.script_text.specs.Reading.{◌>>=◌, by_count, hex_in, is_blank, line_in, number_or_fault, packet_in}
use Rattle.script_text.specs.Reading.{place_about, place_in, said, session_in, some_bytes, switch_in, three_of}
use Rattle.script_text.specs.Reading.{three_words, two_of, two_words, where_named}
use Rattle.script_text.specs.Verbs.{is_explain, is_sim, verb_in, verb_text}
use Rattle.script_text.specs.Words.{is_word, onto_first, spaced, words}
use Rattle.script_text.specs.declared.fault.LineFault.{LineFault}
use Rattle.script_text.specs.declared.fault.LineFault.TheVariants.{Word, Name, Hex, Number}
use Rattle.script_text.specs.declared.form.Form.{Form}
use Rattle.script_text.specs.declared.form.Verb.{Verb}
use Rattle.script_text.specs.declared.form.Verb.TheVariants.{Up, From, Gone, Tick, Expr, Ask, Packet}
use Rattle.script_text.specs.declared.line.Line.{Line}
use Rattle.script_text.specs.declared.line.Line.TheVariants as lines
use Rattle.script_text.proofs.Digits.{number_is}
use Rattle.script_text.proofs.Pieces.{some_words}
use Rattle.script_text.proofs.Places.{parted}
use Rattle.script_text.proofs.Passed.{both, same_text}
use Rattle.script_text.proofs.WordBytes.{either}

-- ---- steps that did not fail

bind_ok : {A B : Type 0} (r : Result A LineFault) (f : A → Result B LineFault) (y : B) → (r >>= f) ≡ Ok y
    → (x : A) × (r ≡ Ok x) × (f x ≡ Ok y)
bind_ok (Ok x) f y e = (x, refl, e)
bind_ok (Err d) f y e = absurd cc

abbrev done : Line → Result Line LineFault
done l = Ok l

line_is : (x y : Line) → done x ≡ done y → x ≡ y
line_is x y e = cc

unless_ok : {A : Type 0} (b : Bool) (d : LineFault) (r : Result A LineFault) (y : A) → cond b (Err d) r ≡ Ok y
    → (b ≡ false) × (r ≡ Ok y)
unless_ok true d r y e = absurd cc
unless_ok false d r y e = (refl, e)

when_ok : {A : Type 0} (b : Bool) (d : LineFault) (r : Result A LineFault) (y : A) → cond b r (Err d) ≡ Ok y
    → (b ≡ true) × (r ≡ Ok y)
when_ok true d r y e = (refl, e)
when_ok false d r y e = absurd cc

text_ok : (x y : List ℕ) → ◌≡◌ {A = Result (List ℕ) LineFault} (Ok x) (Ok y) → x ≡ y
text_ok x y e = cc

named_ok : (holds : Bool) (word name : List ℕ) → where_named holds word ≡ Ok name → (holds ≡ true) × (word ≡ name)
named_ok true word name e = (refl, text_ok word name e)
named_ok false word name e = absurd cc

hex_ok : (r : Result (List ℕ) FromHexError) (bytes : List ℕ) → some_bytes r ≡ Ok bytes
    → (r ≡ Ok bytes) × (0 < length bytes)
hex_ok (Err fault) bytes e = absurd cc
hex_ok (Ok []) bytes e = absurd cc
hex_ok (Ok (b ∷ bs)) bytes e =
    let is : b ∷ bs ≡ bytes = text_ok (b ∷ bs) bytes e in
    (ap (λ (x : List ℕ). Ok x) is, omega (arith, ap (λ (x : List ℕ). length x) is))

is_hex : (digits bytes : List ℕ) → hex_in digits ≡ Ok bytes → IsHex digits bytes
is_hex digits bytes e = let h = hex_ok (decode_of digits) bytes e in record { is = h.0; some = h.1 }

number_ok : (fault : LineFault) (o : Option ℕ) (n : ℕ) → number_or_fault fault o ≡ Ok n → o ≡ Some n
number_ok fault None n e = absurd cc
number_ok fault (Some m) n e = ap (λ (k : ℕ). Some k) (numbers m n e)
  where
    numbers : (m n : ℕ) → ◌≡◌ {A = Result ℕ LineFault} (Ok m) (Ok n) → m ≡ n
    numbers m n e = cc

pair_ok : (x y : List ℕ × ℕ) → ◌≡◌ {A = Result (List ℕ × ℕ) LineFault} (Ok x) (Ok y) → x ≡ y
pair_ok x y e = cc

place_ok : (word : List ℕ) (o : Option ℕ) (at : List ℕ × ℕ) → position (λ c. c == 58) word ≡ o
    → place_about word o ≡ Ok at → IsPlace at.0 at.1 word
place_ok word None at found e = absurd cc
place_ok word (Some k) at found e =
    let p = bind_ok (number_or_fault Name (number_in 65535 (drop (k + 1) word)))
    (λ port. switch_in (take k word) >>= λ switch. Ok (switch, port)) at e in
    let q = bind_ok (switch_in (take k word)) (λ switch. Ok (switch, p.0)) at p.2 in
    let n = number_is 65535 (drop (k + 1) word) p.0 (number_ok Name (number_in 65535 (drop (k + 1) word)) p.0 p.1) in
    let s = named_ok (is_name (take k word)) (take k word) q.0 q.1 in
    let whole : word ≡ q.0 ++ (58 ∷ decimal p.0) = parted 58 word k found ∙ (λ i. s.1 i ++ (58 ∷ n.0 i)) in
    subst (λ (x : List ℕ × ℕ). IsPlace x.0 x.1 word) (pair_ok (q.0, p.0) at q.2)
    (record { named = ap is_name (sym s.1) ∙ s.0; small = n.1; is = whole })

is_place : (word : List ℕ) (at : List ℕ × ℕ) → place_in word ≡ Ok at → IsPlace at.0 at.1 word
is_place word at e = place_ok word (position (λ c. c == 58) word) at refl e

-- ---- first words

-- what a form that knows a word is
abbrev pub Knows : Form → Verb → Type 0
Knows form Ask = is_explain form ≡ true
Knows form Packet = is_sim form ≡ true
Knows form _ = Unit {0}

record IsVerb (form : Form) (word : List ℕ) (verb : Verb) : Type 0 where
  text : word ≡ verb_text verb
  knows : Knows form verb

some_verb : (x y : Verb) → Some x ≡ Some y → x ≡ y
some_verb x y e = cc

-- one test of a chain
one_test : (form : Form) (word : List ℕ) (test : Bool) (this verb : Verb) (others : Option Verb)
    → (test ≡ true → IsVerb form word this) → (others ≡ Some verb → IsVerb form word verb)
    → cond test (Some this) others ≡ Some verb → IsVerb form word verb
one_test form word true this verb others here there e = subst (IsVerb form word) (some_verb this verb e) (here refl)
one_test form word false this verb others here there e = there e

is_verb : (form : Form) (word : List ℕ) (verb : Verb) → verb_in form word ≡ Some verb → IsVerb form word verb
is_verb form word verb e =
    let t : Verb → Bool = λ v. bytes_eq word (verb_text v) in
    let none : Option Verb = None in
    let o7 : Option Verb = cond (is_sim form && t Packet) (Some Packet) none in
    let o6 : Option Verb = cond (is_explain form && t Ask) (Some Ask) o7 in
    let o5 : Option Verb = cond (t Expr) (Some Expr) o6 in
    let o4 : Option Verb = cond (t Tick) (Some Tick) o5 in
    let o3 : Option Verb = cond (t Gone) (Some Gone) o4 in
    let o2 : Option Verb = cond (t From) (Some From) o3 in
    let said_so : (v : Verb) → Knows form v → t v ≡ true
    → IsVerb form word v = λ v knows h. record { text = same_text word (verb_text v) h; knows = knows } in
    one_test form word (t Up) Up verb o2 (said_so Up tt)
    (one_test form word (t From) From verb o3 (said_so From tt)
    (one_test form word (t Gone) Gone verb o4 (said_so Gone tt)
    (one_test form word (t Tick) Tick verb o5 (said_so Tick tt)
    (one_test form word (t Expr) Expr verb o6 (said_so Expr tt)
    (one_test form word (is_explain form && t Ask) Ask verb o7
    (λ h. let p = both (is_explain form) (t Ask) h in said_so Ask p.0 p.1)
    (one_test form word (is_sim form && t Packet) Packet verb none
    (λ h. let p = both (is_sim form) (t Packet) h in said_so Packet p.0 p.1) (λ h. absurd cc))))))) e

-- ---- lines

two_said : (form : Form) (verb : Verb) (word line : List ℕ) (l : Line) → IsTwo verb word line
    → two_words verb word ≡ Ok l → Says form l line
two_said form Up word line l whole e =
    let p = bind_ok (session_in word) (λ name. done (lines.Up name false)) l e in
    let s = named_ok (is_session word) word p.0 p.1 in
    subst (λ (x : Line). Says form x line) (line_is (lines.Up p.0 false) l p.2)
    (ap is_session (sym s.1) ∙ s.0, subst (λ (w : List ℕ). IsTwo Up w line) s.1 whole)
two_said form Gone word line l whole e =
    let p = bind_ok (session_in word) (λ name. done (lines.Gone name)) l e in
    let s = named_ok (is_session word) word p.0 p.1 in
    subst (λ (x : Line). Says form x line) (line_is (lines.Gone p.0) l p.2)
    (ap is_session (sym s.1) ∙ s.0, subst (λ (w : List ℕ). IsTwo Gone w line) s.1 whole)
two_said form Tick word line l whole e =
    let p = bind_ok (number_or_fault Number (number_in 18446744073709551615 word)) (λ second. done (lines.Tick second))
    l e in
    let n = number_is 18446744073709551615 word p.0 (number_ok Number (number_in 18446744073709551615 word) p.0 p.1) in
    subst (λ (x : Line). Says form x line) (line_is (lines.Tick p.0) l p.2)
    (omega (arith, n.1), subst (λ (w : List ℕ). IsTwo Tick w line) n.0 whole)
two_said form _ word line l whole e = absurd cc

not_true : (b : Bool) → not b ≡ false → b ≡ true
not_true true e = refl
not_true false e = absurd cc

or_neither : (a b : Bool) → (a || b) ≡ false → (a ≡ false) × (b ≡ false)
or_neither true b e = absurd cc
or_neither false b e = (refl, e)

or_last : (a b : Bool) → (a || b) ≡ true → b ≡ false → a ≡ true
or_last true b e f = refl
or_last false b e f = absurd cc

and_so : (a b : Bool) → (a && b) ≡ false → a ≡ true → b ≡ false
and_so true b e f = e
and_so false b e f = absurd cc

three_said : (form : Form) (verb : Verb) (word last line : List ℕ) (l : Line) → Knows form verb → is_word last ≡ true
    → IsThree verb word last line → three_words form verb word last ≡ Ok l → Says form l line
three_said form Up word last line l knows w whole e =
    let u = unless_ok (is_sim form || (is_member word || not (bytes_eq last (codes "noarp")))) Word
    (session_in word >>= λ name. done (lines.Up name true)) l e in
    let n = or_neither (is_sim form) (is_member word || not (bytes_eq last (codes "noarp"))) u.0 in
    let m = or_neither (is_member word) (not (bytes_eq last (codes "noarp"))) n.1 in
    let p = bind_ok (session_in word) (λ name. done (lines.Up name true)) l u.1 in
    let s = named_ok (is_session word) word p.0 p.1 in
    let named : is_name word ≡ true = or_last (is_name word) (is_member word) s.0 m.0 in
    let noarp : last ≡ codes "noarp" = same_text last (codes "noarp") (not_true (bytes_eq last (codes "noarp")) m.1) in
    subst (λ (x : Line). Says form x line) (line_is (lines.Up p.0 true) l p.2)
    (ap is_name (sym s.1) ∙ named, n.0, whole ∙ (λ i. spaced (verb_text Up ∷ s.1 i ∷ noarp i ∷ [])))
three_said form From word last line l knows w whole e =
    let u = unless_ok (is_sim form && is_name word) Word
    (session_in word >>= λ name. hex_in last >>= λ bytes. done (lines.From name bytes)) l e in
    let p = bind_ok (session_in word) (λ name. hex_in last >>= λ bytes. done (lines.From name bytes)) l u.1 in
    let q = bind_ok (hex_in last) (λ bytes. done (lines.From p.0 bytes)) l p.2 in
    let s = named_ok (is_session word) word p.0 p.1 in
    subst (λ (x : Line). Says form x line) (line_is (lines.From p.0 q.0) l q.2) (
      ap is_session (sym s.1) ∙ s.0,
      λ sim. ap is_name (sym s.1)
          ∙ and_so (is_sim form) (is_name word) u.0 sim,
      (last, is_hex last q.0 q.1, whole ∙ (λ i. spaced (verb_text From ∷ s.1 i ∷ last ∷ []))),
    )
three_said form Expr word last line l knows w whole e =
    let u = unless_ok (nat_lt 1024 (length last)) Word (switch_in word >>= λ name. done (lines.Expr name last)) l e in
    let p = bind_ok (switch_in word) (λ name. done (lines.Expr name last)) l u.1 in
    let s = named_ok (is_name word) word p.0 p.1 in
    subst (λ (x : Line). Says form x line) (line_is (lines.Expr p.0 last) l p.2)
    (ap is_name (sym s.1) ∙ s.0, w, ltb-false _ _ u.0, whole ∙ (λ i. spaced (verb_text Expr ∷ s.1 i ∷ last ∷ [])))
three_said form Ask word last line l knows w whole e =
    let p = bind_ok (place_in word) (λ at. hex_in last >>= λ bytes. done (lines.Ask at.0 at.1 bytes)) l e in
    let q = bind_ok (hex_in last) (λ bytes. done (lines.Ask p.0.0 p.0.1 bytes)) l p.2 in
    subst (λ (x : Line). Says form x line) (line_is (lines.Ask p.0.0 p.0.1 q.0) l q.2)
    (knows, (word, last, is_place word p.0 p.1, is_hex last q.0 q.1, whole))
three_said form Packet word last line l knows w whole e =
    let p = bind_ok (place_in word) (λ at. packet_in last >>= λ bytes. done (lines.Packet at.0 at.1 bytes)) l e in
    let q = bind_ok (packet_in last) (λ bytes. done (lines.Packet p.0.0 p.0.1 bytes)) l p.2 in
    let r =
    bind_ok (hex_in last)
    (λ bytes. cond (nat_le 14 (length bytes) && nat_le (length bytes) 65513) (Ok bytes) (Err Hex)) q.0 q.1 in
    let t = when_ok (nat_le 14 (length r.0) && nat_le (length r.0) 65513) Hex (Ok r.0) q.0 r.2 in
    let is : r.0 ≡ q.0 = text_ok r.0 q.0 t.1 in
    let fits = both (nat_le 14 (length r.0)) (nat_le (length r.0) 65513) t.0 in
    let size = ap (λ (x : List ℕ). length x) is in
    subst (λ (x : Line). Says form x line) (line_is (lines.Packet p.0.0 p.0.1 q.0) l q.2) (
      knows,
      omega (arith, leb-true _ _ fits.0, size),
      omega (arith, leb-true _ _ fits.1, size),
      (word, last, is_place word p.0 p.1, subst (IsHex last) is (is_hex last r.0 r.1), whole),
    )
three_said form _ word last line l knows w whole e = absurd cc

-- the pieces make the line
spaced_onto : (c : ℕ) (piece : List ℕ) (pieces : List (List ℕ))
    → spaced (onto_first c (piece ∷ pieces)) ≡ c ∷ spaced (piece ∷ pieces)
spaced_onto c piece [] = refl
spaced_onto c piece (next ∷ pieces) = refl

spaced_cut : (c : ℕ) (cs : List ℕ) (pieces : List (List ℕ)) → 0 < length pieces → spaced pieces ≡ cs
    → spaced (cond (c == 32) ([] ∷ pieces) (onto_first c pieces)) ≡ c ∷ cs
spaced_cut c cs [] some is = absurd (omega (arith, some))
spaced_cut c cs (piece ∷ pieces) some is = by (c == 32) refl
  where
    by : (b : Bool) → (c == 32) ≡ b → spaced (cond b ([] ∷ (piece ∷ pieces)) (onto_first c (piece ∷ pieces))) ≡ c ∷ cs
    by true blank = λ i. sym (eqb_so c 32 blank) i ∷ is i
    by false other = spaced_onto c piece pieces ∙ ap (λ (x : List ℕ). c ∷ x) is

pub spaced_words : (line : List ℕ) → spaced (words line) ≡ line
spaced_words [] = refl
spaced_words (c ∷ cs) = spaced_cut c cs (words cs) (some_words cs) (spaced_words cs)

count_said : (form : Form) (line : List ℕ) (l : Line) (pieces : List (List ℕ)) → list_all is_word pieces ≡ true
    → spaced pieces ≡ line → by_count form pieces ≡ Ok l → Says form l line
count_said form line l [] known is e = absurd cc
count_said form line l (a ∷ []) known is e = absurd cc
count_said form line l (a ∷ b ∷ []) known is e = by (verb_in form a) refl e
  where
    by : (o : Option Verb) → verb_in form a ≡ o → two_of o b ≡ Ok l → Says form l line
    by None v e = absurd cc
    by (Some verb) v e = two_said form verb b line l (sym is
        ∙ ap (λ (w : List ℕ). spaced (w ∷ b ∷ [])) (is_verb form a verb v).text) e
count_said form line l (a ∷ b ∷ c ∷ []) known is e = by (verb_in form a) refl e
  where
    last : is_word c ≡ true
    last =
        (both (is_word c) true
        (both (is_word b) (is_word c && true) (both (is_word a) (is_word b && (is_word c && true)) known).1).1).0

    by : (o : Option Verb) → verb_in form a ≡ o → three_of form o b c ≡ Ok l → Says form l line
    by None v e = absurd cc
    by (Some verb) v e = three_said form verb b c line l (is_verb form a verb v).knows last
        (sym is ∙ ap (λ (w : List ℕ). spaced (w ∷ b ∷ c ∷ [])) (is_verb form a verb v).text) e
count_said form line l (a ∷ b ∷ c ∷ d ∷ rest) known is e = absurd cc

blank_said : (form : Form) (line : List ℕ) → is_blank line ≡ true → Says form lines.Blank line
blank_said form [] e = inl refl
blank_said form (c ∷ cs) e =
    elim (either (length (c ∷ cs) == 0) (slice_index (c ∷ cs) 0 == 35) e) [
      | inl none ↦ absurd (omega (arith, eqb_so _ _ none))
      | inr hash ↦ inr (cs, ap (λ (n : ℕ). n ∷ cs) (eqb_so _ _ hash))
    ]

pub line_says : (form : Form) (line : List ℕ) (l : Line) → line_in form line ≡ Ok l → Says form l line
line_says form line l e = by (is_blank line) refl e
  where
    by : (b : Bool) → is_blank line ≡ b → cond b (done lines.Blank) (said form (words line)) ≡ Ok l → Says form l line
    by true blank e = subst (λ (x : Line). Says form x line) (line_is lines.Blank l e) (blank_said form line blank)
    by false other e =
        let p = when_ok (list_all is_word (words line)) Word (by_count form (words line)) l e in
        count_said form line l (words line) p.0 (spaced_words line) p.1
