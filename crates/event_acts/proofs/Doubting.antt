-- Doubts on entries of members, member by member.
use Rattle.std.proofs.Common.{◌≡◌, ◌∙◌, ℕ, zero, suc, ◌+◌, ◌≤◌, List, [], ◌∷◌, ◌++◌, drop, length, map, append-nil}
use Rattle.std.proofs.Common.{Bool, true, false, Option, Some, None, refl, sym, ap, ap₂, append_assoc, arith}
use Rattle.std.specs.Prelude.{◌==◌, filter, flat_map, if◌then◌else◌, not, slice_get, zip}
use Rattle.std.proofs.lemmas.List.{drop_all}
use Rattle.std.specs.List.{enumerate_from}
use Rattle.std.specs.Option.{option_map_or}
use Rattle.member_state.specs.Changes.{rising_serials}
use Rattle.member_table.specs.Timeouts.{is_idle_due}
use Rattle.policies.specs.declared.policy.MemberItem.{MemberItem}
use Rattle.machine_drafts.specs.InsideTicking.{doubts_on, doubts_on_member}
use Rattle.machine_meaning.specs.Names.{virtual_of}
use Rattle.machine_meaning.specs.States.{MemberOf, State}
use Rattle.machine_meaning.specs.Ticking.{doubt_on, doubts_in, is_member_of}
use Rattle.waitings.specs.Waitings.{is_in_doubt}
use Rattle.event_acts.proofs.Rising.{some_rising}
use Rattle.waitings.specs.declared.state.Doubt.{Doubt}

-- the doubts on entries of these members, from a number on
abbrev pub doubts_from : State → ℕ → ℕ → List MemberItem → List MemberOf → List Doubt
doubts_from s v k ps ms =
    flat_map (λ (y : ℕ × (MemberItem × MemberOf)). doubts_in s (y.0, y.1.1))
    (filter (is_member_of v) (enumerate_from k (zip ps ms)))

without_drafts : (s : State) (v k : ℕ) (ps : List MemberItem) → doubts_from s v k ps [] ≡ []
without_drafts s v k [] = refl
without_drafts s v k (p ∷ ps) = refl

alike : (b : Bool) (xs : List Doubt) → (if b then xs else xs) ≡ xs
alike true xs = refl
alike false xs = refl

module _ (s : State) (v : ℕ) where
  -- the doubts on entries of a member, if it is one of the virtual switch
  abbrev first_doubts : ℕ → Option MemberItem → Option MemberOf → List Doubt
  first_doubts k None x = []
  first_doubts k (Some m) x =
      if virtual_of m == v then option_map_or (λ (x : MemberOf). doubts_in s (k, x)) x [] else []

  no_doubts : (k : ℕ) (o : Option MemberItem) → first_doubts k o None ≡ []
  no_doubts k None = refl
  no_doubts k (Some m) = alike (virtual_of m == v) []

  doubts_next : (k n : ℕ) (ps : List MemberItem) (ms : List MemberOf)
      → doubts_from s v k (drop n ps) (drop n ms)
      ≡ first_doubts k (slice_get ps n) (slice_get ms n) ++ doubts_from s v (k + 1) (drop (suc n) ps) (drop (suc n) ms)
  doubts_next k zero [] ms = refl
  doubts_next k zero (p ∷ ps) [] =
      sym (ap₂ (λ (xs ys : List Doubt). xs ++ ys) (no_doubts k (Some p)) (without_drafts s v (k + 1) ps))
  doubts_next k zero (p ∷ ps) (m ∷ ms) = by (virtual_of p == v)
    where
      by : (b : Bool)
          → flat_map (λ (y : ℕ × (MemberItem × MemberOf)). doubts_in s (y.0, y.1.1))
          (if b then (k, (p, m)) ∷ filter (is_member_of v) (enumerate_from (k + 1) (zip ps ms))
          else filter (is_member_of v) (enumerate_from (k + 1) (zip ps ms)))
          ≡ (if b then doubts_in s (k, m) else []) ++ doubts_from s v (k + 1) ps ms
      by true = refl
      by false = refl
  doubts_next k (suc n) [] ms = refl
  doubts_next k (suc n) (p ∷ ps) [] =
      without_drafts s v k (drop n ps)
      ∙ sym (ap₂ (λ (xs ys : List Doubt). xs ++ ys) (no_doubts k (slice_get ps n))
      (without_drafts s v (k + 1) (drop (suc n) ps)))
  doubts_next k (suc n) (p ∷ ps) (m ∷ ms) = doubts_next k n ps ms

-- the doubts on one member more
pub more_doubts : (s : State) (v n : ℕ) (ps : List MemberItem) (m : MemberItem) (old new all : List Doubt)
    → slice_get ps n ≡ Some m → new ≡ old ++ doubts_on_member s v n m
    → old ++ doubts_from s v n (drop n ps) (drop n s.members) ≡ all
    → new ++ doubts_from s v (n + 1) (drop (n + 1) ps) (drop (n + 1) s.members) ≡ all
more_doubts s v n ps m old new all there added e =
    let more : suc n ≡ n + 1 = omega arith in
    let rest = doubts_from s v (n + 1) (drop (suc n) ps) (drop (suc n) s.members) in
    let one : first_doubts s v n (slice_get ps n) (slice_get s.members n) ≡ doubts_on_member s v n m =
    ap (λ (o : Option MemberItem). first_doubts s v n o (slice_get s.members n)) there in
    ap (λ (k : ℕ). new ++ doubts_from s v (n + 1) (drop k ps) (drop k s.members)) (sym more)
    ∙ (ap (λ (xs : List Doubt). xs ++ rest) added
    ∙ (append_assoc old (doubts_on_member s v n m) rest
    ∙ (ap (λ (xs : List Doubt). old ++ (xs ++ rest)) (sym one)
    ∙ (ap (λ (xs : List Doubt). old ++ xs) (sym (doubts_next s v n n ps s.members)) ∙ e))))

-- none is left
pub none_left : (s : State) (v n : ℕ) (ps : List MemberItem) (ms : List MemberOf) (old all : List Doubt) → length ps ≤ n
    → old ++ doubts_from s v n (drop n ps) ms ≡ all → old ≡ all
none_left s v n ps ms old all end e =
    sym (append-nil old)
    ∙ (ap (λ (qs : List MemberItem). old ++ doubts_from s v n qs ms) (sym (drop_all n ps end)) ∙ e)

-- the doubts on the entries of one member
pub doubts_there : (s : State) (n : ℕ) (x : MemberOf) (idle : List ℕ) (old new : List Doubt)
    → idle ≡ rising_serials (is_idle_due s.moment) x.kept.table.entries
    → new ≡ old ++ map (doubt_on s n) (filter (λ (k : ℕ). not (is_in_doubt s.waiting n k)) idle)
    → new ≡ old ++ doubts_in s (n, x)
doubts_there s n x idle old new is e =
    e ∙ (ap (λ (ks : List ℕ). old ++ map (doubt_on s n) (filter (λ (k : ℕ). not (is_in_doubt s.waiting n k)) ks)) is
    ∙ ap (λ (ks : List ℕ). old ++ map (doubt_on s n) ks)
    (sym (some_rising (is_idle_due s.moment) (λ (k : ℕ). not (is_in_doubt s.waiting n k)) x.kept.table.entries)))

-- none on the entries of nobody
pub no_doubts_there : (s : State) (n : ℕ) (old : List Doubt) → slice_get s.members n ≡ None → old ≡ old ++ doubts_on s n
no_doubts_there s n old none =
    sym (append-nil old)
    ∙ ap (λ (o : Option MemberOf). old ++ option_map_or (λ (m : MemberOf). doubts_in s (n, m)) o []) (sym none)

pub mapped_none : {A B : Type 0} (f : A → B) (xs : List A) (n : ℕ) → slice_get xs n ≡ None
    → slice_get (map f xs) n ≡ None
mapped_none f [] zero e = refl
mapped_none f [] (suc n) e = refl
mapped_none f (x ∷ xs) zero e = absurd (cc)
mapped_none f (x ∷ xs) (suc n) e = mapped_none f xs n e
