-- The checksum of a header after a rewrite.
use Rattle.std.proofs.Common.{◌≡◌, ◌<◌, ◌≤◌, ◌+◌, ◌-◌, ◌*◌, ◌/◌, ◌%◌, ◌^◌, ℕ, zero, suc, true, List, length}
use Rattle.std.proofs.Common.{slice_index, Option, Some, None, refl, sym, subst, ap, ◌∙◌, inl, inr, arith}
use Rattle.std.specs.Prelude.{IfSome}
use Rattle.std.specs.Option.{option_map}
use Rattle.of10_actions.specs.Fields.{RewriteOf}
use Rattle.of10_actions.specs.Rewriting.{set_to}
use Rattle.of10_actions.specs.Spelling.{IsBytes}
use Rattle.pkt_bytes.specs.declared.ipv4.Ipv4.{Ipv4}
use Rattle.pkt_bytes.specs.declared.rewriting.Checksum.{Checksum}
use Rattle.std.proofs.lemmas.Bool.{cases_Bool}
use Rattle.pkt_bytes.specs.Checksums.{IsRight, words_sum}
use Rattle.pkt_bytes.specs.Ipv4.{header_end, header_words, ipv4_of}
use Rattle.pkt_bytes.specs.Link.{link_of}
use Rattle.pkt_bytes.proofs.PacketAfter.{Packet, after_of, inside_after, packet_rewritten}
use Rattle.pkt_bytes.proofs.PlainAfter.{short_rewritten}
use Rattle.pkt_bytes.proofs.Layers.{ipv4_is_at, ipv4_of_carries}
use Rattle.pkt_bytes.specs.Numbers.{has, number_at, put, put_if}
use Rattle.pkt_bytes.specs.Rewritten.{address_change, header_checksum, new_checksum, nw_change, rewritten, tos_byte}
use Rattle.pkt_bytes.specs.Rewritten.{tos_change, with_checksum, with_dl, with_ip, with_nw, with_tp, word_change}
use Rattle.pkt_bytes.specs.Touched.{IsOutside, IsRewrite}
use Rattle.pkt_bytes.proofs.Fields.{IsIn, IsNewChecksum, behind-with_dl, front-with_ip, get-with_checksum, get-with_nw}
use Rattle.pkt_bytes.proofs.Fields.{get-with_tp, length-with_nw, length-with_tp, new_checksum-there, nw_dst-with_nw}
use Rattle.pkt_bytes.proofs.Fields.{nw_src-with_nw, tos-with_nw}
use Rattle.pkt_bytes.proofs.Places.{IsBytes-put_if, beside, length-put, length-put_if, number_at-put, number_at-same}
use Rattle.pkt_bytes.proofs.Sums.{change_is, mended-lt, mended_is, right_from, right_is}

-- ---- sums of words
pub words_sum-same : (place n : ℕ) (xs ys : List ℕ)
    → ((k : ℕ) → place ≤ k → k < place + 2 * n → slice_index xs k ≡ slice_index ys k)
    → words_sum place n xs ≡ words_sum place n ys
words_sum-same place zero xs ys h = refl
words_sum-same place (suc n) xs ys h =
    let word = number_at-same place 2 xs ys (λ k lo hi. h k lo (omega arith)) in
    let rest = words_sum-same (place + 2) n xs ys (λ k lo hi. h k (omega arith) (omega arith)) in
    rw (word, rest) refl

pub words_sum-add : (place a b : ℕ) (xs : List ℕ)
    → words_sum place (a + b) xs ≡ words_sum place a xs + words_sum (place + 2 * a) b xs
words_sum-add place zero b xs =
    let n : zero + b ≡ b = omega arith in
    let at : place + 2 * zero ≡ place = omega arith in
    rw (n, at) (omega arith)
words_sum-add place (suc a) b xs =
    let n : suc a + b ≡ suc (a + b) = omega arith in
    let at : place + 2 + 2 * a ≡ place + 2 * suc a = omega arith in
    let rest = words_sum-add (place + 2) a b xs in
    rw (n, rest, at) (omega arith)

word-lt : (place : ℕ) (xs : List ℕ) → IsBytes xs → number_at place 2 xs < 65536
word-lt place xs bytes = let a = bytes place in let b = bytes (suc place) in omega arith

-- the two words of an address
two_words : (place : ℕ) (xs : List ℕ) → IsBytes xs
    → (number_at place 2 xs ≡ number_at place 4 xs / 65536)
    × (number_at (place + 2) 2 xs ≡ number_at place 4 xs % 65536)
two_words place xs bytes =
    let a = bytes place in
    let b = bytes (suc place) in
    let c = bytes (suc (suc place)) in
    let d = bytes (suc (suc (suc place))) in
    let third : slice_index xs (place + 2) ≡ slice_index xs (suc (suc place)) =
    ap (λ (k : ℕ). slice_index xs k) (omega arith) in
    let fourth : slice_index xs (suc (place + 2)) ≡ slice_index xs (suc (suc (suc place))) =
    ap (λ (k : ℕ). slice_index xs k) (omega arith) in
    (omega arith, omega (arith, third, fourth))

-- ---- what changes add
address_is : (place : ℕ) (address : Option ℕ) (xs ys : List ℕ) → IsBytes xs → IsBytes ys
    → number_at place 4 ys ≡ set_to true address (number_at place 4 xs)
    → (q : ℕ) × (address_change place address xs + words_sum place 2 xs ≡ words_sum place 2 ys + 65535 * q)
unfolding address_change
address_is place None xs ys bx by e =
    let old = two_words place xs bx in
    let new = two_words place ys by in
    (0, omega (arith, old.0, old.1, new.0, new.1, e))
address_is place (Some a) xs ys bx by e =
    let new = two_words place ys by in
    let upper = change_is (number_at place 2 xs) (a / 65536) (word-lt place xs bx) in
    let lower = change_is (number_at (place + 2) 2 xs) (a % 65536) (word-lt (place + 2) xs bx) in
    (upper.0 + lower.0, omega (arith, new.0, new.1, e, upper.1, lower.1))

-- the type of service is the lower byte of its word
tos_is : (place : ℕ) (tos : Option ℕ) (xs ys : List ℕ) → IsBytes xs → slice_index ys place ≡ slice_index xs place
    → slice_index ys (place + 1) ≡ set_to true tos (slice_index xs (place + 1))
    → (q : ℕ) × (word_change place (option_map (λ t. slice_index xs place * 256 + t) tos) xs + number_at place 2 xs
    ≡ number_at place 2 ys + 65535 * q)
tos_is place None xs ys bytes first second =
    let was : slice_index xs (suc place) ≡ slice_index xs (place + 1) =
    ap (λ (k : ℕ). slice_index xs k) (omega arith) in
    let now : slice_index ys (suc place) ≡ slice_index ys (place + 1) =
    ap (λ (k : ℕ). slice_index ys k) (omega arith) in
    (0, omega (arith, was, now, first, second))
tos_is place (Some t) xs ys bytes first second =
    let now : slice_index ys (suc place) ≡ slice_index ys (place + 1) =
    ap (λ (k : ℕ). slice_index ys k) (omega arith) in
    let word = change_is (number_at place 2 xs) (slice_index xs place * 256 + t) (word-lt place xs bytes) in
    (word.0, omega (arith, word.1, now, first, second))

-- ---- the words of a header
next_words : (place a b next : ℕ) (xs : List ℕ) → place + 2 * a ≡ next
    → words_sum place (a + b) xs ≡ words_sum place a xs + words_sum next b xs
next_words place a b next xs e = words_sum-add place a b xs ∙ ap (λ (p : ℕ). words_sum place a xs + words_sum p b xs) e

-- the first word, four that stay, the checksum, the addresses, and options
ten_words : (place m : ℕ) (xs : List ℕ) → words_sum place (10 + m) xs
    ≡ words_sum place 1 xs +
    (words_sum (place + 2) 4 xs +
    (words_sum (place + 10) 1 xs +
    (words_sum (place + 12) 2 xs + (words_sum (place + 16) 2 xs + words_sum (place + 20) m xs))))
ten_words place m xs =
    let parts : 10 + m ≡ 1 + (4 + (1 + (2 + (2 + m)))) = omega arith in
    ap (λ (n : ℕ). words_sum place n xs) parts
    ∙ next_words place 1 (4 + (1 + (2 + (2 + m)))) (place + 2) xs (omega arith)
    ∙ ap (λ (t : ℕ). words_sum place 1 xs + t)
    (next_words (place + 2) 4 (1 + (2 + (2 + m))) (place + 10) xs (omega arith)
    ∙ ap (λ (t : ℕ). words_sum (place + 2) 4 xs + t)
    (next_words (place + 10) 1 (2 + (2 + m)) (place + 12) xs (omega arith)
    ∙ ap (λ (t : ℕ). words_sum (place + 10) 1 xs + t) (next_words (place + 12) 2 (2 + m) (place + 16) xs (omega arith)
    ∙ ap (λ (t : ℕ). words_sum (place + 12) 2 xs + t) (next_words (place + 16) 2 m (place + 20) xs (omega arith)))))

one_word : (place : ℕ) (xs : List ℕ) → words_sum place 1 xs ≡ number_at place 2 xs
one_word place xs = omega arith

-- what changes in a header with a right checksum is made up for by the checksum
still_right : (w w' m c c' a a' b b' rest t d e q0 q1 q2 q3 s : ℕ) → t + w ≡ w' + 65535 * q0 → d + a ≡ a' + 65535 * q1
    → e + b ≡ b' + 65535 * q2
    → c' + (t + (d + e)) ≡ c + 65535 * q3 → w + (m + (c + (a + (b + rest)))) ≡ 65535 * (s + 1) → 0 < w'
    → IsRight (w' + (m + (c' + (a' + (b' + rest)))))
still_right w w' m c c' a a' b b' rest t d e q0 q1 q2 q3 s e0 e1 e2 e3 right above =
    right_from (w' + (m + (c' + (a' + (b' + rest))))) (s + 1 + q3 - q0 - q1 - q2) (omega arith) (omega arith)

-- ---- the bytes of a rewritten header
pub IsBytes-with_dl : (r : RewriteOf) (xs : List ℕ) → 14 ≤ length xs → IsBytes xs → IsBytes (with_dl r xs)
unfolding with_dl
IsBytes-with_dl r xs h bytes =
    let first = length-put_if 0 6 r.dl_dst xs (omega arith) in
    IsBytes-put_if 6 6 r.dl_src (put_if 0 6 r.dl_dst xs) (omega arith)
    (IsBytes-put_if 0 6 r.dl_dst xs (omega arith) bytes)

pub IsBytes-with_nw : (ip : Ipv4) (r : RewriteOf) (xs : List ℕ) → ip.place + 20 ≤ length xs → IsBytes xs
    → IsBytes (with_nw ip r xs)
unfolding with_nw
IsBytes-with_nw ip r xs h bytes =
    let tos = tos_byte r.nw_tos (slice_index xs (ip.place + 1)) in
    let inner = put_if (ip.place + 1) 1 tos xs in
    let first = length-put_if (ip.place + 1) 1 tos xs (omega arith) in
    let second = length-put_if (ip.place + 12) 4 r.nw_src inner (omega arith) in
    IsBytes-put_if (ip.place + 16) 4 r.nw_dst (put_if (ip.place + 12) 4 r.nw_src inner) (omega arith)
    (IsBytes-put_if (ip.place + 12) 4 r.nw_src inner (omega arith)
    (IsBytes-put_if (ip.place + 1) 1 tos xs (omega arith) bytes))

-- the bytes of the header but for its checksum are those with the fields replaced
nw_bytes : (ip : Ipv4) (r : RewriteOf) (k : ℕ) (xs : List ℕ) → IsIn ip xs → k < ip.transport
    → IsOutside (ip.place + 10) 2 k
    → slice_index (with_ip ip r xs) k ≡ slice_index (with_nw ip r xs) k
nw_bytes ip r k xs inside hi out =
    front-with_ip ip r k xs inside out (omega arith)
    ∙ get-with_tp ip r k (with_nw ip r xs) (beside r.tp_src (inl hi)) (beside r.tp_dst (inl (omega arith)))

outside_place : (ip : Ipv4) (xs : List ℕ) (k : ℕ) (c : Option Checksum) → IfSome c (IsNewChecksum ip xs)
    → k < ip.transport + 6
    → IfSome c (λ s. IsOutside s.place 2 k)
outside_place ip xs k None h lt = tt
outside_place ip xs k (Some c) h lt = inl (omega (arith, h.0))

header_checksum-lt : (ip : Ipv4) (r : RewriteOf) (xs : List ℕ) → header_checksum ip r xs < 256 ^ 2
unfolding header_checksum
header_checksum-lt ip r xs = mended-lt (number_at (ip.place + 10) 2 xs) (tos_change ip r xs + nw_change ip r xs)

pub checksum-with_ip : (ip : Ipv4) (r : RewriteOf) (xs : List ℕ) → IsIn ip xs
    → number_at (ip.place + 10) 2 (with_ip ip r xs) ≡ header_checksum ip r xs
unfolding with_ip
checksum-with_ip ip r xs inside =
    let header = inside.header in
    let there = inside.there in
    let ws = with_tp ip r (with_nw ip r xs) in
    let long = length-with_tp ip r (with_nw ip r xs) ∙ length-with_nw ip r xs (omega arith) in
    let summed = put (ip.place + 10) 2 (header_checksum ip r xs) ws in
    let same = length-put (ip.place + 10) 2 (header_checksum ip r xs) ws (omega arith) in
    number_at-same (ip.place + 10) 2 (with_checksum (new_checksum ip r xs) summed) summed
    (λ k lo hi. get-with_checksum ip (new_checksum ip r xs) k xs summed (new_checksum-there ip r xs) (same ∙ long)
    (outside_place ip xs k (new_checksum ip r xs) (new_checksum-there ip r xs) (omega arith)))
    ∙ number_at-put (ip.place + 10) 2 (header_checksum ip r xs) ws (omega arith) (header_checksum-lt ip r xs)

-- the sum of the words of a header stays right
pub sum-with_ip : (ip : Ipv4) (r : RewriteOf) (m : ℕ) (xs : List ℕ) → IsRewrite r → IsBytes xs → IsIn ip xs
    → 0 < slice_index xs ip.place
    → ip.place + 2 * (10 + m) ≤ ip.transport → IsRight (words_sum ip.place (10 + m) xs)
    → IsRight (words_sum ip.place (10 + m) (with_ip ip r xs))
unfolding header_checksum tos_change nw_change
sum-with_ip ip r m xs fits bytes inside above short right =
    let header = inside.header in
    let there = inside.there in
    let p = ip.place in
    let ws = with_nw ip r xs in
    let ys = with_ip ip r xs in
    let bw = IsBytes-with_nw ip r xs (omega arith) bytes in
    let first : slice_index ys p ≡ slice_index xs p =
    nw_bytes ip r p xs inside (omega arith) (inl (omega arith))
    ∙ get-with_nw ip r p xs (omega arith) (beside r.nw_tos (inl (omega arith))) (beside r.nw_src (inl (omega arith)))
    (beside r.nw_dst (inl (omega arith))) in
    let second = nw_bytes ip r (p + 1) xs inside (omega arith) (inl (omega arith))
    ∙ tos-with_nw ip r xs fits (omega arith) in
    let stay : words_sum (p + 2) 4 ys ≡ words_sum (p + 2) 4 xs =
    words_sum-same (p + 2) 4 ys xs (λ k lo hi. nw_bytes ip r k xs inside (omega arith) (inl (omega arith))
    ∙ get-with_nw ip r k xs (omega arith) (beside r.nw_tos (inr (omega arith))) (beside r.nw_src (inl (omega arith)))
    (beside r.nw_dst (inl (omega arith)))) in
    let src : words_sum (p + 12) 2 ys ≡ words_sum (p + 12) 2 ws =
    words_sum-same (p + 12) 2 ys ws (λ k lo hi. nw_bytes ip r k xs inside (omega arith) (inr (omega arith))) in
    let dst : words_sum (p + 16) 2 ys ≡ words_sum (p + 16) 2 ws =
    words_sum-same (p + 16) 2 ys ws (λ k lo hi. nw_bytes ip r k xs inside (omega arith) (inr (omega arith))) in
    let options : words_sum (p + 20) m ys ≡ words_sum (p + 20) m xs =
    words_sum-same (p + 20) m ys xs (λ k lo hi. nw_bytes ip r k xs inside (omega arith) (inr (omega arith))
    ∙ get-with_nw ip r k xs (omega arith) (beside r.nw_tos (inr (omega arith))) (beside r.nw_src (inr (omega arith)))
    (beside r.nw_dst (inr (omega arith)))) in
    let tos = tos_is p (tos_byte r.nw_tos (slice_index xs (p + 1))) xs ys bytes first second in
    let from = address_is (p + 12) r.nw_src xs ws bytes bw (nw_src-with_nw ip r xs fits (omega arith)) in
    let to = address_is (p + 16) r.nw_dst xs ws bytes bw (nw_dst-with_nw ip r xs fits (omega arith)) in
    let sum = mended_is (number_at (p + 10) 2 xs) (tos_change ip r xs + nw_change ip r xs)
    (word-lt (p + 10) xs bytes) in
    let was = right_is (words_sum p (10 + m) xs) right in
    let old = sym (ten_words p m xs) ∙ was.1 in
    let now : words_sum p (10 + m) ys ≡ number_at p 2 ys +
    (words_sum (p + 2) 4 xs +
    (header_checksum ip r xs + (words_sum (p + 12) 2 ws + (words_sum (p + 16) 2 ws + words_sum (p + 20) m xs)))) =
    ten_words p m ys
    ∙ (λ i. (one_word p ys) i +
    (stay i + ((one_word (p + 10) ys ∙ checksum-with_ip ip r xs inside) i + (src i + (dst i + options i))))) in
    let above' : 0 < number_at p 2 ys = omega (arith, first, above) in
    let old' : number_at p 2 xs +
    (words_sum (p + 2) 4 xs +
    (number_at (p + 10) 2 xs + (words_sum (p + 12) 2 xs + (words_sum (p + 16) 2 xs + words_sum (p + 20) m xs))))
    ≡ 65535 * (was.0 + 1) =
    (λ i. (sym (one_word p xs)) i +
    (words_sum (p + 2) 4 xs +
    ((sym (one_word (p + 10) xs)) i +
    (words_sum (p + 12) 2 xs + (words_sum (p + 16) 2 xs + words_sum (p + 20) m xs))))) ∙ old in
    subst IsRight (sym now)
    (still_right (number_at p 2 xs) (number_at p 2 ys) (words_sum (p + 2) 4 xs) (number_at (p + 10) 2 xs)
    (header_checksum ip r xs)
    (words_sum (p + 12) 2 xs) (words_sum (p + 12) 2 ws) (words_sum (p + 16) 2 xs) (words_sum (p + 16) 2 ws)
    (words_sum (p + 20) m xs)
    (tos_change ip r xs) (address_change (p + 12) r.nw_src xs) (address_change (p + 16) r.nw_dst xs) tos.0 from.0 to.0
    sum.0 was.0
    tos.1 from.1 to.1 sum.1 old' above')

sum_in_place : (ip : Ipv4) (r : RewriteOf) (xs : List ℕ) → IsRewrite r → IsBytes xs → Packet xs ip
    → IsRight (words_sum ip.place (header_words ip) xs)
    → IsRight (words_sum ip.place (header_words ip) (rewritten r xs))
sum_in_place ip r xs fits bytes p right =
    let a = after_of r xs ip p in
    let zs = with_dl r xs in
    let inside = a.inside in
    let header = inside.header in
    let lo = a.behind in
    let long = a.long in
    let at = ipv4_is_at (link_of xs).payload.place xs ip (ipv4_of_carries xs ip p.is).at in
    let ends : ip.transport ≡ header_end ip.place xs = at.transport_is
    ∙ ap (λ (n : ℕ). header_end n xs) (sym at.place_is) in
    let byte : slice_index zs ip.place ≡ slice_index xs ip.place = behind-with_dl r ip.place xs long lo in
    let above : 0 < slice_index zs ip.place = omega arith in
    let words : header_words ip ≡ 10 + (header_words ip - 10) = omega arith in
    let same : words_sum ip.place (header_words ip) xs ≡ words_sum ip.place (10 + (header_words ip - 10)) zs =
    words_sum-same ip.place (header_words ip) xs zs (λ k l u. sym (behind-with_dl r k xs long (omega arith)))
    ∙ ap (λ (n : ℕ). words_sum ip.place n zs) words in
    let there = sum-with_ip ip r (header_words ip - 10) zs fits (IsBytes-with_dl r xs long bytes)
    (inside_after r xs ip long inside) above (omega arith) (subst IsRight same right) in
    subst IsRight (ap (λ (n : ℕ). words_sum ip.place n (with_ip ip r zs)) (sym words)
    ∙ ap (λ (ys : List ℕ). words_sum ip.place (header_words ip) ys) (sym (packet_rewritten r xs ip p))) there

pub sum_stays : (r : RewriteOf) (xs : List ℕ) (ip : Ipv4) → IsRewrite r → IsBytes xs → ipv4_of xs ≡ Some ip
    → IsRight (words_sum ip.place (header_words ip) xs)
    → IsRight (words_sum ip.place (header_words ip) (rewritten r xs))
sum_stays r xs ip fits bytes is right =
    elim (cases_Bool (has 14 xs)) [
      | inl e ↦ sum_in_place ip r xs fits bytes (record { long = e; is = is }) right
      | inr e ↦ subst IsRight
          (ap (λ (ys : List ℕ). words_sum ip.place (header_words ip) ys) (sym (short_rewritten r xs e))) right
    ]
