-- The lines of the audit that a history takes are those that the audit's work takes.
use Rattle.std.proofs.Common.{◌≡◌, ◌||◌, ℕ, Bool, true, false, List, [], ◌∷◌, ◌++◌, All, IsTrue, map, if◌then◌else◌}
use Rattle.std.proofs.Common.{refl, sym, ap, ◌∙◌, subst, append_assoc}
use Rattle.std.proofs.lemmas.List.Elements.{All-cons, All-head, All-nil, All-tail}
use Rattle.events.specs.declared.event.Event.{Event}
use Rattle.events.specs.declared.event.Reply.{Reply}
use Rattle.policy_lock.specs.History.{calls_by, same_number}
use Rattle.policy_lock.specs.Number.{Numbered, has_number}
use Rattle.policy_lock.specs.declared.view.Entry.{Entry}
use Rattle.sessions.specs.Posts.{taking}
use Rattle.sessions.specs.Writing.{message_of, taken_in}
use Rattle.sessions.specs.declared.desk.Post.{Post}
use Rattle.endpoint_works.specs.Audits.{IsAudits, audit}
use Rattle.lock_desk.specs.Passes.{post_of, posts_by}
use Rattle.serving.specs.Histories.{line_of, lines_taken}
use Rattle.serving.proofs.Posts.{TakesNone}

-- an entry of a number, and others
module _ (P : Post → Type 0) (n : List ℕ) (x : Entry Event Reply) (xs : List (Entry Event Reply)) where
  abbrev Holds : Entry Event Reply → Type 0
  Holds y = same_number y.by n ≡ true → P (post_of y)

  of-one : (b : Bool) → same_number x.by n ≡ b → All P (map post_of (if b then (x ∷ calls_by n xs) else calls_by n xs))
      → (All P (posts_by n xs) → All Holds xs) → All Holds (x ∷ xs)
  of-one true e all rest =
      All-cons Holds x xs (λ _. All-head P (post_of x) (posts_by n xs) all)
      (rest (All-tail P (post_of x) (posts_by n xs) all))
  of-one false e all rest = All-cons Holds x xs (λ t. absurd (cc)) (rest all)

-- what holds of the calls of a number holds of each entry under it
pub of-number : (P : Post → Type 0) (n : List ℕ) (log : List (Entry Event Reply)) → All P (posts_by n log)
    → All (λ (x : Entry Event Reply). same_number x.by n ≡ true → P (post_of x)) log
of-number P n [] all = All-nil (λ (x : Entry Event Reply). same_number x.by n ≡ true → P (post_of x))
of-number P n (x ∷ xs) all = of-one P n x xs (same_number x.by n) refl all (of-number P n xs)

-- an entry is the audit's, or takes no line
abbrev pub IsAuditsAlone : List ℕ → Entry Event Reply → Type 0
IsAuditsAlone n x =
    (same_number x.by n ≡ true → IsAudits (post_of x)) × (same_number x.by n ≡ false → TakesNone (post_of x))

audits-line : (x : Entry Event Reply) → IsAudits (post_of x) → line_of x.event x.reply ≡ message_of x.event x.reply
audits-line x is =
    ap (λ (p : Post). line_of p.event p.reply) is.1 ∙ sym (ap (λ (p : Post). message_of p.event p.reply) is.1)

taken-one : (n : List ℕ) (x : Entry Event Reply) (xs : List (Entry Event Reply)) → IsAuditsAlone n x
    → lines_taken xs ≡ taken_in (posts_by n xs) → (b : Bool) → same_number x.by n ≡ b
    → line_of x.event x.reply ++ lines_taken xs
    ≡ taken_in (map post_of (if b then (x ∷ calls_by n xs) else calls_by n xs))
taken-one n x xs is rest true e =
    ap (λ (l : List (List ℕ)). l ++ lines_taken xs) (audits-line x (is.0 e))
    ∙ ap (λ (l : List (List ℕ)). message_of x.event x.reply ++ l) rest
taken-one n x xs is rest false e = ap (λ (l : List (List ℕ)). l ++ lines_taken xs) (is.1 e) ∙ rest

pub taken-by : (n : List ℕ) (log : List (Entry Event Reply)) → All (IsAuditsAlone n) log
    → lines_taken log ≡ taken_in (posts_by n log)
taken-by n [] all = refl
taken-by n (x ∷ xs) all =
    taken-one n x xs (All-head (IsAuditsAlone n) x xs all) (taken-by n xs (All-tail (IsAuditsAlone n) x xs all))
    (same_number x.by n) refl

-- lines that are taken one after the other
pub taken-both : (xs ys : List (Entry Event Reply)) → lines_taken (xs ++ ys) ≡ lines_taken xs ++ lines_taken ys
taken-both [] ys = refl
taken-both (x ∷ xs) ys =
    ap (λ (l : List (List ℕ)). line_of x.event x.reply ++ l) (taken-both xs ys)
    ∙ sym (append_assoc (line_of x.event x.reply) (lines_taken xs) (lines_taken ys))
