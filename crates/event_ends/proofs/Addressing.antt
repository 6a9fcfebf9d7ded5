-- What is said to each receiver, letter by letter.
use Rattle.std.proofs.Common.{◌≡◌, ℕ, zero, suc, ◌+◌, ◌<◌, true, false, List, [], ◌∷◌, ◌++◌, refl, sym, ap}
use Rattle.std.proofs.Common.{ap₂, ◌∙◌, arith, append_assoc}
use Rattle.std.proofs.lemmas.List.{append-nil}
use Rattle.std.specs.Prelude.{◌==◌, cond, filter, map}
use Rattle.std.specs.List.{enumerate_from}
use Rattle.std.proofs.lemmas.Bool.Decides.{nat_tests}
use Rattle.std.proofs.lemmas.List.Sums.{fold-append}
use Rattle.event_ends.specs.Boxes.{addressed_from, put_letter, put_letters, unaddressed, with_message}
use Rattle.machine_meaning.specs.Drafts.{said_to}
use Rattle.machine_meaning.specs.Lists.{changed_at}
use Rattle.event_ends.specs.declared.boxes.Addressed.{Addressed}
use Rattle.machine_meaning.specs.declared.said.Letter.{Letter}

-- each with what is said to it behind what it has
abbrev pub and_said : {D : Type 0} → List Letter → ℕ × Addressed D → Addressed D
and_said letters x = record { draft = x.1.draft; letters = x.1.letters ++ said_to x.0 letters }

-- the next letter is for this one, or for another
pub said_more : (l : Letter) (ls : List Letter) (k : ℕ) → k ≡ l.to → said_to k (l ∷ ls) ≡ l.bytes ∷ said_to k ls
said_more l ls k e =
    let test : (l.to == k) ≡ true = grind (arith, nat_tests) in
    ap (λ b. map (λ (x : Letter). x.bytes) (cond b (l ∷ filter (λ (x : Letter). x.to == k) ls)
    (filter (λ (x : Letter). x.to == k) ls))) test

pub said_other : (l : Letter) (ls : List Letter) (k : ℕ) → l.to < k → said_to k (l ∷ ls) ≡ said_to k ls
said_other l ls k e =
    let test : (l.to == k) ≡ false = grind (arith, nat_tests) in
    ap (λ b. map (λ (x : Letter). x.bytes) (cond b (l ∷ filter (λ (x : Letter). x.to == k) ls)
    (filter (λ (x : Letter). x.to == k) ls))) test

pub said_later : (l : Letter) (ls : List Letter) (k : ℕ) → k < l.to → said_to k (l ∷ ls) ≡ said_to k ls
said_later l ls k e =
    let test : (l.to == k) ≡ false = grind (arith, nat_tests) in
    ap (λ b. map (λ (x : Letter). x.bytes) (cond b (l ∷ filter (λ (x : Letter). x.to == k) ls)
    (filter (λ (x : Letter). x.to == k) ls))) test

-- none of those from a number on hears a letter to one before
not_said : {D : Type 0} (l : Letter) (ls : List Letter) (k : ℕ) (all : List (Addressed D)) → l.to < k
    → map (and_said ls) (enumerate_from k all) ≡ map (and_said (l ∷ ls)) (enumerate_from k all)
not_said l ls k [] h = refl
not_said l ls k (a ∷ all) h =
    ap₂ (λ said rest. record { draft = a.draft; letters = a.letters ++ said } ∷ rest)
    (sym (said_other l ls k h)) (not_said l ls (k + 1) all (omega arith))

-- a letter is put to its receiver, and then the others
said_first : {D : Type 0} (l : Letter) (ls : List Letter) (k n : ℕ) (all : List (Addressed D)) → k + n ≡ l.to
    → map (and_said ls) (enumerate_from k (changed_at n (with_message l.bytes) all))
    ≡ map (and_said (l ∷ ls)) (enumerate_from k all)
said_first l ls k n [] h = refl
said_first l ls k zero (a ∷ all) h =
    ap₂ (λ letters rest. record { draft = a.draft; letters = letters } ∷ rest)
    (append_assoc a.letters (l.bytes ∷ []) (said_to k ls) ∙ ap (λ said. a.letters ++ said)
    (sym (said_more l ls k (omega arith))))
    (not_said l ls (k + 1) all (omega arith))
said_first l ls k (suc n) (a ∷ all) h =
    ap₂ (λ said rest. record { draft = a.draft; letters = a.letters ++ said } ∷ rest)
    (sym (said_later l ls k (omega arith))) (said_first l ls (k + 1) n all (omega arith))

-- nothing more is said
none_said : {D : Type 0} (k : ℕ) (all : List (Addressed D)) → map (and_said []) (enumerate_from k all) ≡ all
none_said k [] = refl
none_said k (a ∷ all) =
    ap₂ (λ letters rest. record { draft = a.draft; letters = letters } ∷ rest) (append-nil a.letters)
    (none_said (k + 1) all)

-- letters that are put one by one are those that are said to each
pub put_is_said : {D : Type 0} (letters : List Letter) (all : List (Addressed D))
    → put_letters letters all ≡ map (and_said letters) (enumerate_from 0 all)
put_is_said [] all = sym (none_said 0 all)
put_is_said (l ∷ ls) all = put_is_said ls (put_letter all l) ∙ said_first l ls 0 l.to all (omega arith)

-- where nothing was said before
from_unsaid : {D : Type 0} (letters : List Letter) (k : ℕ) (drafts : List D)
    → map (and_said letters) (enumerate_from k (unaddressed drafts)) ≡ addressed_from k letters drafts
from_unsaid letters k [] = refl
from_unsaid letters k (d ∷ drafts) =
    ap (λ rest. record { draft = d; letters = said_to k letters } ∷ rest) (from_unsaid letters (k + 1) drafts)

pub put_unsaid : {D : Type 0} (letters : List Letter) (drafts : List D)
    → put_letters letters (unaddressed drafts) ≡ addressed_from 0 letters drafts
put_unsaid letters drafts = put_is_said letters (unaddressed drafts) ∙ from_unsaid letters 0 drafts

-- one list of letters, and then another
pub put_both : {D : Type 0} (first second : List Letter) (all : List (Addressed D))
    → put_letters second (put_letters first all) ≡ put_letters (first ++ second) all
put_both first second all = sym (fold-append put_letter all first second)

-- five lists of letters, and four
pub put_five : {D : Type 0} (a b c d e : List Letter) (all : List (Addressed D))
    → put_letters e (put_letters d (put_letters c (put_letters b (put_letters a all))))
    ≡ put_letters (a ++ (b ++ (c ++ (d ++ e)))) all
put_five a b c d e all =
    put_both d e (put_letters c (put_letters b (put_letters a all)))
    ∙ (put_both c (d ++ e) (put_letters b (put_letters a all))
    ∙ (put_both b (c ++ (d ++ e)) (put_letters a all) ∙ put_both a (b ++ (c ++ (d ++ e))) all))

pub put_four : {D : Type 0} (a b c d : List Letter) (all : List (Addressed D))
    → put_letters d (put_letters c (put_letters b (put_letters a all))) ≡ put_letters (a ++ (b ++ (c ++ d))) all
put_four a b c d all =
    put_both c d (put_letters b (put_letters a all))
    ∙ (put_both b (c ++ d) (put_letters a all) ∙ put_both a (b ++ (c ++ d)) all)
