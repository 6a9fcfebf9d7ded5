-- What several reads gave, one after the other.
use Rattle.std.proofs.Common.{◌≡◌, ◌<◌, ◌≤◌, ◌+◌, ◌-◌, ℕ, Bool, true, false, nat_lt, List, [], ◌++◌, Option, Some, None}
use Rattle.std.proofs.Common.{MatchOption, drop, take, length}
use Rattle.std.proofs.Common.{sym, ap, ◌∙◌, subst, refl, append_assoc, arith}
use Rattle.std.specs.Prelude.{if◌then◌else◌}
use Rattle.std.proofs.lemmas.Bool.{ltb-false, ltb-true}
use Rattle.std.proofs.lemmas.List.{drop-drop, drop-take, length-take, take-append-drop}
use Rattle.std.specs.List.{slice_range}
use Rattle.outside.specs.Outside.{TakesNext}
use Rattle.covisor_proxy.specs.Chunks.{Gave, GoesOn, IsAtEnd, LinesOf, before_feed}
use Rattle.covisor_proxy.specs.declared.lines.Taken.TheVariants.{Whole}
use Rattle.covisor_proxy.specs.Outcomes.{IsScript}

pub gave-none : (a : Option (List ℕ)) → Gave a a []
gave-none None = refl
gave-none (Some left) = refl

pub gave-both : (a b c : Option (List ℕ)) (xs ys : List ℕ) → Gave a b xs → Gave b c ys → Gave a c (xs ++ ys)
gave-both None b c xs ys e f = subst (λ z. Gave z c ys) e f
gave-both (Some left) None c xs ys e f = absurd e
gave-both (Some left) (Some next) None xs ys e f = f
gave-both (Some left) (Some next) (Some rest) xs ys e f = e ∙ ap (λ z. xs ++ z) f ∙ sym (append_assoc xs ys rest)

-- what is left to be read, or nothing where it isn't told
abbrev pub rest_in : Option (List ℕ) → List ℕ
rest_in None = []
rest_in (Some rest) = rest

pub script-is : (a b : Option (List ℕ)) (read : List ℕ) → Gave a b read → IsScript a (read ++ rest_in b)
script-is None b read e = tt
script-is (Some left) None read e = absurd e
script-is (Some left) (Some rest) read e = e

pub none-left : (b : Option (List ℕ)) → IsAtEnd b → rest_in b ≡ []
none-left None e = refl
none-left (Some rest) e = e

-- a read of n bytes gave them
pub gave-taken : (a b : Option (List ℕ)) (n : ℕ) (into : List ℕ) → TakesNext a b n into → Gave a b (take n into)
gave-taken None b n into e = e
gave-taken (Some left) b n into e = subst (λ z. Gave (Some left) z (take n into)) (sym e.1)
    (sym (take-append-drop n left) ∙ ap (λ z. z ++ drop n left) (sym e.0))

-- a read that takes nothing shows the end of the source
pub at_end : (before after : Option (List ℕ)) (n : ℕ) (into : List ℕ) → TakesNext before after n into → n ≡ 0
    → IsAtEnd after
at_end None after n into e _ = subst IsAtEnd (sym e) tt
at_end (Some left) after n into taken e =
    let none_left : drop n left ≡ [] = subst (λ k. drop k left ≡ []) (sym e) (taken.2 e) in
    subst IsAtEnd (sym taken.1) none_left

-- ---- line feeds

feed_by : (b : Bool) (k n : ℕ) → nat_lt k n ≡ b
    → MatchOption (if b then Some k else None) (n ≤ k) (λ place. (place ≡ k) × (place < n))
feed_by true k n e = (refl, ltb-true k n e)
feed_by false k n e = ltb-false k n e

-- the place of the first line feed, if there is one
pub feed_found : (bytes : List ℕ) (found : Option ℕ)
    → found ≡ (if nat_lt (before_feed bytes) (length bytes) then Some (before_feed bytes) else None)
    → MatchOption found (length bytes ≤ before_feed bytes) (λ place. (place ≡ before_feed bytes)
    × (place < length bytes))
feed_found bytes found e =
    subst (λ (x : Option ℕ). MatchOption x (length bytes ≤ before_feed bytes)
    (λ place. (place ≡ before_feed bytes) × (place < length bytes))) (sym e)
    (feed_by (nat_lt (before_feed bytes) (length bytes)) (before_feed bytes) (length bytes) refl)

-- what stands behind a place of a part
pub slice_behind : (xs : List ℕ) (s e k : ℕ) → s + (k + 1) ≤ e
    → slice_range xs (s + (k + 1)) e ≡ drop (k + 1) (slice_range xs s e)
slice_behind xs s e k h =
    let split : e - s ≡ (k + 1) + (e - (s + (k + 1))) = omega arith in
    sym (ap (λ (n : ℕ). drop (k + 1) (take n (drop s xs))) split
    ∙ drop-take (k + 1) (e - (s + (k + 1))) (drop s xs)
    ∙ ap (take (e - (s + (k + 1)))) (drop-drop (k + 1) s xs))

-- ---- lines

whole_here : (items line longer : List ℕ) (s e place : ℕ) → place ≡ before_feed (slice_range items s e)
    → place < length (slice_range items s e)
    → longer ≡ line ++ take place (slice_range items s e)
    → GoesOn Whole (record { line = line; unread = slice_range items s e })
    (record { line = longer; unread = slice_range items (s + (place + 1)) e })
whole_here items line longer s e place p q r =
    let short : s + (place + 1) ≤ e = omega (arith, length-take (e - s) (drop s items), q) in (
      subst (λ (k : ℕ). k < length (slice_range items s e)) p q,
      r ∙ ap (λ (k : ℕ). line ++ take k (slice_range items s e)) p,
      slice_behind items s e place short ∙ ap (λ (k : ℕ). drop (k + 1) (slice_range items s e)) p,
    )

-- a line goes on up to its line feed
pub goes-whole : (items lent line longer : List ℕ) (s e place : ℕ) (now : LinesOf)
    → ◌≡◌ {A = LinesOf} (record { line = line; unread = slice_range items s e }) now
    → lent ≡ items → place ≡ before_feed (slice_range lent s e) → place < length (slice_range lent s e)
    → longer ≡ line ++ take place (slice_range lent s e)
    → GoesOn Whole now (record { line = longer; unread = slice_range items (s + (place + 1)) e })
goes-whole items lent line longer s e place now v same p q r =
    subst (λ (x : LinesOf). GoesOn Whole x (record { line = longer; unread = slice_range items (s + (place + 1)) e })) v
    (whole_here items line longer s e place
    (subst (λ (x : List ℕ). place ≡ before_feed (slice_range x s e)) same p)
    (subst (λ (x : List ℕ). place < length (slice_range x s e)) same q)
    (subst (λ (x : List ℕ). longer ≡ line ++ take place (slice_range x s e)) same r))
