-- A FLOW reply is cut greedily.
use Rattle.std.proofs.Common.{◌≡◌, ℕ, zero, suc, ◌+◌, ◌-◌, ◌<◌, ◌≤◌, Bool, true, false, cond, List, [], ◌∷◌, ◌++◌}
use Rattle.std.proofs.Common.{length, map, take, drop, All, append_assoc, refl, sym, ap, subst, ◌∙◌, inl, inr, zero-add}
use Rattle.std.proofs.Common.{arith}
use Rattle.std.specs.Prelude.{◌⊎◌, ◌||◌, ◌==◌, nat_le}
use Rattle.std.specs.List.{flat_map}
use Rattle.std.proofs.Math.Dec.{eqb-suc-zero}
use Rattle.std.proofs.lemmas.Bool.{cases_lt, leb-true, leb-false}
use Rattle.std.proofs.lemmas.List.{length-drop, take-append-drop}
use Rattle.std.proofs.lemmas.List.Elements.{All-drop}
use Rattle.std.proofs.lemmas.List.Concat.{flat_map-cons}
use Rattle.std.proofs.lemmas.List.Sums.{sum_by-cons}
use Rattle.of10_stats.specs.Parts.{AreGreedy, IsFull, IsPart, bytes_of, part_replies, parts, parts_at, taken, takes}
use Rattle.of10_stats.specs.Ranges.{CanWriteEntry}
use Rattle.of10_stats.specs.Spelling.{entry_size, reply_message}
use Rattle.of10_stats.specs.declared.reply.FlowStat.{FlowStat}
use Rattle.of10_stats.specs.declared.reply.ReplyBody.TheVariants as bodies
use Rattle.of10_stats.specs.declared.reply.StatsReply.{StatsReply}

-- ---- how many a part takes

pub taken_le : (used : ℕ) (es : List FlowStat) → taken used es ≤ length es
unfolding taken
taken_le used [] = omega arith
taken_le used (e ∷ es) =
    let rest = taken_le (used + entry_size e) es in
    elim (takes used e) as (λ (t : Bool). cond t (suc (taken (used + entry_size e) es)) 0 ≤ suc (length es))
    [ true ↦ omega (arith, rest) | false ↦ omega arith ]

-- the first entry is always taken
pub taken_first : (e : FlowStat) (es : List FlowStat) → taken 0 (e ∷ es) ≡ suc (taken (entry_size e) es)
unfolding taken
taken_first e es = ap (λ (n : ℕ). suc (taken n es)) (zero-add (entry_size e))

-- a part with entries takes one more exactly where it fits
takes_is : (used : ℕ) (e : FlowStat) → 0 < used → takes used e ≡ nat_le (12 + used + entry_size e) 2048
takes_is zero e some = absurd (omega (arith, some))
takes_is (suc used) e some = ap (λ (t : Bool). t || nat_le (12 + suc used + entry_size e) 2048) (eqb-suc-zero used)

taken_step : (used : ℕ) (e : FlowStat) (es : List FlowStat) → 0 < used
    → taken used (e ∷ es) ≡ cond (nat_le (12 + used + entry_size e) 2048) (suc (taken (used + entry_size e) es)) 0
unfolding taken
taken_step used e es some = ap (λ (t : Bool). cond t (suc (taken (used + entry_size e) es)) 0) (takes_is used e some)

-- it takes the next entry, or none
record Takes (used : ℕ) (e : FlowStat) (es : List FlowStat) : Type 0 where
  fits : 12 + used + entry_size e ≤ 2048
  is : taken used (e ∷ es) ≡ suc (taken (used + entry_size e) es)

record TakesNone (used : ℕ) (e : FlowStat) (es : List FlowStat) : Type 0 where
  over : 2048 < 12 + used + entry_size e
  is : taken used (e ∷ es) ≡ 0

next : (used : ℕ) (e : FlowStat) (es : List FlowStat) → 0 < used → Takes used e es ⊎ TakesNone used e es
next used e es some =
    let step = taken_step used e es some in
    let P : Bool → Type 0 = λ t. nat_le (12 + used + entry_size e) 2048 ≡ t
    → taken used (e ∷ es) ≡ cond t (suc (taken (used + entry_size e) es)) 0
    → Takes used e es ⊎ TakesNone used e es in
    let both : (t : Bool) → P t = λ t. elim t as P [
      | true ↦ λ test is. inl (record { fits = leb-true _ _ test; is = is })
      | false ↦ λ test is. inr (record { over = leb-false _ _ test; is = is })
    ] in
    both (nat_le (12 + used + entry_size e) 2048) refl step

-- what a part takes fits
taken_fits : (used : ℕ) (es : List FlowStat) → 0 < used → 12 + used ≤ 2048
    → 12 + (used + bytes_of (take (taken used es) es)) ≤ 2048
unfolding taken
taken_fits used [] some fits = omega arith
taken_fits used (e ∷ es) some fits =
    elim (next used e es some) [
      | inl t ↦ subst (λ (n : ℕ). 12 + (used + bytes_of (take n (e ∷ es))) ≤ 2048) (sym t.is)
          (omega (
            arith,
            t.fits,
            taken_fits (used + entry_size e) es (omega (arith, some)) (omega (arith, t.fits)),
            sum_by-cons entry_size e (take (taken (used + entry_size e) es) es),
          ))
      | inr t ↦ subst (λ (n : ℕ). 12 + (used + bytes_of (take n (e ∷ es))) ≤ 2048) (sym t.is) (omega (arith, fits))
    ]

-- an entry above a part's bytes is alone
taken_over : (used : ℕ) (es : List FlowStat) → 2048 < 12 + used → taken used es ≡ 0
unfolding taken
taken_over used [] over = refl
taken_over used (e ∷ es) over =
    elim (next used e es (omega (arith, over))) [ inl t ↦ absurd (omega (arith, over, t.fits)) | inr t ↦ t.is ]

first_is : (a e : FlowStat) (es rest : List FlowStat) → a ∷ es ≡ e ∷ rest → a ≡ e
first_is a e es rest is = cc

-- a part could not have taken the entry behind it
taken_full : (used : ℕ) (es : List FlowStat) (e : FlowStat) (rest : List FlowStat) → 0 < used
    → drop (taken used es) es ≡ e ∷ rest → 2048 < 12 + (used + bytes_of (take (taken used es) es)) + entry_size e
unfolding taken
taken_full used [] e rest some behind = absurd cc
taken_full used (a ∷ es) e rest some behind =
    elim (next used a es some) [
      | inl t ↦ subst (λ (n : ℕ). 2048 < 12 + (used + bytes_of (take n (a ∷ es))) + entry_size e) (sym t.is)
          (omega (
            arith,
            taken_full (used + entry_size a) es e rest (omega (arith, some))
                (ap (λ (n : ℕ). drop n (a ∷ es)) (sym t.is) ∙ behind),
            sum_by-cons entry_size a (take (taken (used + entry_size a) es) es),
          ))
      | inr t ↦ subst (λ (n : ℕ). 2048 < 12 + (used + bytes_of (take n (a ∷ es))) + entry_size e) (sym t.is)
          (omega (
            arith,
            t.over,
            ap (λ (x : FlowStat). entry_size x)
                (first_is a e es rest (ap (λ (n : ℕ). drop n (a ∷ es)) (sym t.is) ∙ behind)),
          ))
    ]

-- ---- parts

abbrev alone : (e : FlowStat) → bytes_of (e ∷ []) ≡ entry_size e
alone e = zero-add (entry_size e)

-- the first part
abbrev pub first_part : List FlowStat → List FlowStat
first_part es = take (taken 0 es) es

abbrev pub behind : List FlowStat → List FlowStat
behind es = drop (taken 0 es) es

-- with what is taken behind the first entry
abbrev pub more_of : FlowStat → List FlowStat → List FlowStat
more_of e es = take (taken (entry_size e) es) es

first_part_is : (e : FlowStat) (es : List FlowStat) → first_part (e ∷ es) ≡ e ∷ more_of e es
first_part_is e es = ap (λ (n : ℕ). take n (e ∷ es)) (taken_first e es)

behind_is : (e : FlowStat) (es : List FlowStat) → behind (e ∷ es) ≡ drop (taken (entry_size e) es) es
behind_is e es = ap (λ (n : ℕ). drop n (e ∷ es)) (taken_first e es)

pub size_some : (e : FlowStat) → 0 < entry_size e
size_some e = omega arith

-- a part within its bytes, or one entry
part_fits : (e : FlowStat) (es : List FlowStat)
    → (12 + bytes_of (e ∷ more_of e es) ≤ 2048) ⊎ (length (e ∷ more_of e es) ≡ 1)
part_fits e es =
    elim (cases_lt 2048 (12 + entry_size e)) [
      | inl over ↦ inr (ap (λ (n : ℕ). length (e ∷ take n es)) (taken_over (entry_size e) es over))
      | inr fits ↦ inl
          (omega (arith, taken_fits (entry_size e) es (size_some e) fits, sum_by-cons entry_size e (more_of e es)))
    ]

part_is : (e : FlowStat) (es : List FlowStat) → IsPart (first_part (e ∷ es))
part_is e es = subst IsPart (sym (first_part_is e es)) (record { some = omega arith; fits = part_fits e es })

-- a part fits a message
part_small : (e : FlowStat) (es : List FlowStat) → entry_size e ≤ 65523 → bytes_of (e ∷ more_of e es) ≤ 65523
part_small e es small =
    elim (cases_lt 2048 (12 + entry_size e)) [
      | inl over ↦ omega (
        arith,
        small,
        ap (λ (n : ℕ). bytes_of (e ∷ take n es)) (taken_over (entry_size e) es over),
        alone e,
      )
      | inr fits ↦ omega (
        arith,
        taken_fits (entry_size e) es (size_some e) fits,
        sum_by-cons entry_size e (more_of e es),
      )
    ]

pub first_small : (es : List FlowStat) → All CanWriteEntry es → bytes_of (first_part es) ≤ 65523
unfolding taken
first_small [] can = omega arith
first_small (e ∷ es) can = subst (λ (p : List FlowStat). bytes_of p ≤ 65523) (sym (first_part_is e es))
    (part_small e es (can 0 e (omega arith)).small)

-- ---- the parts, one after the other

passes : (n : ℕ) (es : List FlowStat) → parts_at n es ≡ parts_at 0 (drop n es)
unfolding parts_at
passes zero es = refl
passes (suc n) [] = refl
passes (suc n) (e ∷ es) = passes n es

pub parts_step : (e : FlowStat) (es : List FlowStat)
    → parts_at 0 (e ∷ es) ≡ first_part (e ∷ es) ∷ parts_at 0 (behind (e ∷ es))
unfolding parts_at
parts_step e es =
    let n = taken (entry_size e) es in
    let k : taken 0 (e ∷ es) - 1 ≡ n = omega (arith, taken_first e es) in
    ap (λ (x : List (List FlowStat)). first_part (e ∷ es) ∷ x)
    (ap (λ (m : ℕ). parts_at m es) k ∙ (passes n es ∙ ap (parts_at 0) (sym (behind_is e es))))

parts_none : parts_at 0 [] ≡ []
unfolding parts_at
parts_none = refl

empty_is : (es : List FlowStat) → length es ≡ 0 → es ≡ []
empty_is [] none = refl
empty_is (e ∷ es) none = absurd (omega (arith, none))

goes_on : (part next : List FlowStat) → 0 < length next
    → part_replies (part ∷ parts_at 0 next) ≡ record { more = true; body = bodies.Flow part }
    ∷ part_replies (parts next)
unfolding part_replies
goes_on part [] some = absurd (omega (arith, some))
goes_on part (e ∷ es) some =
    ap (λ (x : List (List FlowStat)). part_replies (part ∷ x)) (parts_step e es)
    ∙ ap (λ (x : List (List FlowStat)). record { more = true; body = bodies.Flow part } ∷ part_replies x)
    (sym (parts_step e es))

-- the last part
pub last_part : (es : List FlowStat) → length (behind es) ≡ 0
    → part_replies (parts es) ≡ record { more = false; body = bodies.Flow (first_part es) } ∷ []
unfolding part_replies taken
last_part [] ended = refl
last_part (e ∷ es) ended =
    let none : parts_at 0 (behind (e ∷ es)) ≡ [] = ap (parts_at 0) (empty_is (behind (e ∷ es)) ended) ∙ parts_none in
    ap part_replies (parts_step e es) ∙ ap (λ (x : List (List FlowStat)). part_replies (first_part (e ∷ es) ∷ x)) none

-- a part with others behind it
pub more_parts : (es : List FlowStat) → 0 < length (behind es)
    → part_replies (parts es) ≡ record { more = true; body = bodies.Flow (first_part es) }
    ∷ part_replies (parts (behind es))
more_parts [] some = absurd (omega (arith, some, length-drop {A = FlowStat} (taken 0 []) []))
more_parts (e ∷ es) some = ap part_replies (parts_step e es) ∙ goes_on (first_part (e ∷ es)) (behind (e ∷ es)) some

-- the bytes of the replies that are still to come
pub sends_last : (xid : ℕ) (es : List FlowStat) (front total : List (List ℕ)) → length (behind es) ≡ 0
    → front ++ map (reply_message xid) (part_replies (parts es)) ≡ total →
    front ++ reply_message xid (record { more = false; body = bodies.Flow (first_part es) }) ∷ [] ≡ total
sends_last xid es front total ended so_far =
    ap (λ (rs : List StatsReply). front ++ map (reply_message xid) rs) (sym (last_part es ended)) ∙ so_far

pub sends_more : (xid : ℕ) (es : List FlowStat) (front total : List (List ℕ)) → 0 < length (behind es)
    → front ++ map (reply_message xid) (part_replies (parts es)) ≡ total →
    (front ++ reply_message xid (record { more = true; body = bodies.Flow (first_part es) }) ∷ [])
    ++ map (reply_message xid) (part_replies (parts (behind es))) ≡ total
sends_more xid es front total some so_far =
    append_assoc front (reply_message xid (record { more = true; body = bodies.Flow (first_part es) }) ∷ [])
    (map (reply_message xid) (part_replies (parts (behind es))))
    ∙ (ap (λ (rs : List StatsReply). front ++ map (reply_message xid) rs) (sym (more_parts es some)) ∙ so_far)

pub behind_shorter : (es : List FlowStat) → 0 < length (behind es) → length (behind es) < length es
behind_shorter [] some = absurd (omega (arith, some, length-drop {A = FlowStat} (taken 0 []) []))
behind_shorter (e ∷ es) some = omega (arith, taken_first e es, length-drop (taken 0 (e ∷ es)) (e ∷ es))

pub behind_writable : (es : List FlowStat) → All CanWriteEntry es → All CanWriteEntry (behind es)
behind_writable es can = All-drop CanWriteEntry (taken 0 es) es can

-- ---- the law

joined_parts : (n : ℕ) (es : List FlowStat) → length es ≤ n → flat_map (λ part. part) (parts_at 0 es) ≡ es
joined_parts n [] le = ap (flat_map (λ (part : List FlowStat). part)) parts_none
joined_parts zero (e ∷ es) le = absurd (omega (arith, le))
joined_parts (suc n) (e ∷ es) le =
    let rest = behind (e ∷ es) in
    let shorter : length rest ≤ n = omega (arith, le, taken_first e es, length-drop (taken 0 (e ∷ es)) (e ∷ es)) in
    ap (flat_map (λ (part : List FlowStat). part)) (parts_step e es)
    ∙ (flat_map-cons (λ (part : List FlowStat). part) (first_part (e ∷ es)) (parts_at 0 rest)
    ∙ (ap (λ (x : List FlowStat). first_part (e ∷ es) ++ x) (joined_parts n rest shorter)
    ∙ take-append-drop (taken 0 (e ∷ es)) (e ∷ es)))

pub parts_are_all : (es : List FlowStat) → flat_map (λ part. part) (parts es) ≡ es
parts_are_all [] = refl
parts_are_all (e ∷ es) = joined_parts (length (e ∷ es)) (e ∷ es) (omega arith)

-- the first entry behind a part would not have fitted
full_is : (e : FlowStat) (es : List FlowStat) (b : FlowStat) (bs : List FlowStat) → behind (e ∷ es) ≡ b ∷ bs
    → IsFull (first_part (e ∷ es)) (first_part (b ∷ bs))
full_is e es b bs is =
    let over = taken_full (entry_size e) es b bs (size_some e) (sym (behind_is e es) ∙ is) in
    let whole : 2048 < 12 + bytes_of (e ∷ more_of e es) + entry_size b =
    omega (arith, over, sum_by-cons entry_size e (more_of e es)) in
    subst (λ (q : List FlowStat). IsFull (first_part (e ∷ es)) q) (sym (first_part_is b bs))
    (subst (λ (p : List FlowStat). IsFull p (b ∷ more_of b bs)) (sym (first_part_is e es)) whole)

greedy_next : (e : FlowStat) (es : List FlowStat) (rest : List FlowStat) → behind (e ∷ es) ≡ rest
    → AreGreedy (parts_at 0 rest) → AreGreedy (first_part (e ∷ es) ∷ parts_at 0 rest)
greedy_next e es [] is others = subst (λ (x : List (List FlowStat)). AreGreedy (first_part (e ∷ es) ∷ x))
    (sym parts_none) (part_is e es)
greedy_next e es (b ∷ bs) is others =
    subst (λ (x : List (List FlowStat)). AreGreedy (first_part (e ∷ es) ∷ x)) (sym (parts_step b bs))
    (part_is e es, full_is e es b bs is, subst AreGreedy (parts_step b bs) others)

are_greedy : (n : ℕ) (es : List FlowStat) → length es ≤ n → AreGreedy (parts_at 0 es)
are_greedy n [] le = subst AreGreedy (sym parts_none) tt
are_greedy zero (e ∷ es) le = absurd (omega (arith, le))
are_greedy (suc n) (e ∷ es) le =
    let rest = behind (e ∷ es) in
    let shorter : length rest ≤ n = omega (arith, le, taken_first e es, length-drop (taken 0 (e ∷ es)) (e ∷ es)) in
    subst AreGreedy (sym (parts_step e es)) (greedy_next e es rest refl (are_greedy n rest shorter))

pub parts_are_greedy : (e : FlowStat) (es : List FlowStat) → AreGreedy (parts (e ∷ es))
parts_are_greedy e es = are_greedy (length (e ∷ es)) (e ∷ es) (omega arith)

pub not_none : (n : ℕ) → (n == 0) ≡ false → 0 < n
not_none zero e = absurd cc
not_none (suc n) e = omega arith
