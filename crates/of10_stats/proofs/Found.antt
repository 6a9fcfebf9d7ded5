-- A request or a reply that was read is spelled by its bytes, and its numbers are in their ranges.
use Rattle.std.proofs.Common.{◌≡◌, ℕ, zero, suc, ◌≤◌, eqb, eqb-true, List, [], ◌∷◌, ◌++◌, length, drop, Option, Some}
use Rattle.std.proofs.Common.{None, Result, Ok, refl, sym, ap, subst, ◌∙◌, arith}
use Rattle.std.specs.Prelude.{option_map, slice_index}
use Rattle.std.proofs.lemmas.List.{append-nil, drop_all}
use Rattle.std.proofs.lemmas.List.Elements.{All-from_recursion}
use Rattle.std.proofs.lemmas.Option.{cond_some}
use Rattle.byteorder.specs.Endian.{big_bytes}
use Rattle.of10_actions.specs.Reading.{u16_at, u32_at, u64_at}
use Rattle.of10_actions.specs.Spelling.{IsBytes}
use Rattle.of10_actions.proofs.Digits.{IsBytes-drop}
use Rattle.of10_msgs.specs.Reading.{span}
use Rattle.of10_msgs.specs.Spelling.{clear_match}
use Rattle.of10_msgs.proofs.Fields.{split}
use Rattle.of10_msgs.proofs.FoundParts.{byte, clear_twice, length_part, number_lt, part}
use Rattle.of10_msgs.proofs.SpelledBodies.{length_clear}
use Rattle.of10_stats.specs.Kinds.{kind_at, number_of, reply_kind, request_kind, request_length}
use Rattle.of10_stats.specs.Ranges.{IsBody, IsEntry, IsPort, IsRequest, widths}
use Rattle.of10_stats.specs.Reading.{body_at, entry_at, items_at, or_bad_len, port_at, reply_in, reply_with, request_at}
use Rattle.of10_stats.specs.Reading.{request_in, request_of, table_of, texts_of, typed_reply, typed_request}
use Rattle.of10_stats.specs.Spelling.{SpellsBody, SpellsEntry, SpellsPort, SpellsReply, SpellsRequest, entry_size}
use Rattle.of10_stats.specs.Spelling.{port_size, request_match, request_padding, request_with, start}
use Rattle.of10_stats.specs.declared.fault.StatsFault.{StatsFault}
use Rattle.of10_stats.specs.declared.kind.StatsKind.{StatsKind}
use Rattle.of10_stats.specs.declared.kind.StatsKind.TheVariants as kinds
use Rattle.of10_stats.specs.declared.reply.ReplyBody.{ReplyBody}
use Rattle.of10_stats.specs.declared.reply.ReplyBody.TheVariants as bodies
use Rattle.of10_stats.specs.declared.reply.StatsReply.{StatsReply}
use Rattle.of10_stats.specs.declared.request.StatsRequest.{StatsRequest}
use Rattle.of10_stats.proofs.Items.{are_spelled}
use Rattle.of10_stats.proofs.FoundItems.{entry_found, port_found, texts_joined, texts_widths}

-- ---- tests that passed

some_kind : (x y : StatsKind) → Some x ≡ Some y → x ≡ y
some_kind x y e = cc

number_is : (n : ℕ) (k : StatsKind) → kind_at n ≡ Some k → n ≡ number_of k
number_is zero k e = ap number_of (some_kind kinds.Desc k e)
number_is (suc zero) k e = ap number_of (some_kind kinds.Flow k e)
number_is (suc (suc zero)) k e = ap number_of (some_kind kinds.Aggregate k e)
number_is (suc (suc (suc zero))) k e = ap number_of (some_kind kinds.Table k e)
number_is (suc (suc (suc (suc zero)))) k e = ap number_of (some_kind kinds.Port k e)
number_is (suc (suc (suc (suc (suc n))))) k e = absurd cc

ok_is : {A : Type 0} (x y : A) → ◌≡◌ {A = Result A StatsFault} (Ok x) (Ok y) → x ≡ y
ok_is x y e = cc

read_ok : {A : Type 0} (bytes : List ℕ) (o : Option A) (x : A) → or_bad_len bytes o ≡ Ok x → o ≡ Some x
read_ok {A} bytes (Some y) x e = ap (λ (z : A). Some z) (ok_is y x e)
read_ok bytes None x e = absurd cc

map_some : {A B : Type 0} (f : A → B) (o : Option A) (y : B) → option_map f o ≡ Some y
    → (x : A) × (o ≡ Some x) × (f x ≡ y)
map_some f (Some x) y e = (x, refl, cc)
map_some f None y e = absurd cc

-- ---- the start of a body

-- type and flags, and then the rest
start_is : (bytes : List ℕ) → IsBytes bytes → 4 ≤ length bytes
    → bytes ≡ start (u16_at 0 bytes) (u16_at 2 bytes) ++ drop 4 bytes
start_is bytes fits long =
    split 2 0 bytes fits (omega arith)
    ∙ ap (λ (x : List ℕ). big_bytes 2 (u16_at 0 bytes) ++ x) (split 2 2 bytes fits (omega arith))

-- ---- requests

-- what a request that was read says of the bytes behind the flags
record IsRequestOf (k : StatsKind) (rest : List ℕ) (r : StatsRequest) : Type 0 where
  kind : request_kind r ≡ k
  m : List ℕ
  pad : List ℕ
  matched : clear_match m ≡ request_match r
  pad_fits : length pad ≡ request_padding r
  whole : rest ≡ request_with r m pad
  good : IsRequest r

-- a filter, and nothing behind it
filter_whole : (rest : List ℕ) → IsBytes rest → length rest ≡ 44
    → rest ≡ span 0 40 rest ++ (slice_index rest 40 ∷ (span 41 1 rest ++ big_bytes 2 (u16_at 42 rest)))
filter_whole rest fits long =
    let out = u16_at 42 rest in
    let end = split 2 42 rest fits (omega (arith, long))
    ∙ (ap (λ (x : List ℕ). big_bytes 2 out ++ x) (drop_all 44 rest (omega (arith, long)))
    ∙ append-nil (big_bytes 2 out)) in
    let pad = part 1 41 rest ∙ ap (λ (x : List ℕ). span 41 1 rest ++ x) end in
    part 40 0 rest ∙ ap (λ (x : List ℕ). span 0 40 rest ++ x)
    (byte 40 rest (omega (arith, long)) ∙ ap (λ (x : List ℕ). slice_index rest 40 ∷ x) pad)

request_rest : (k : StatsKind) (rest : List ℕ) → IsBytes rest → length rest ≡ request_length k
    → IsRequestOf k rest (request_of k rest)
request_rest kinds.Desc rest fits long =
    record {
      kind = refl;
      m = [];
      pad = [];
      matched = refl;
      pad_fits = refl;
      whole = drop_all 0 rest (omega (arith, long));
      good = tt;
    }
request_rest kinds.Flow rest fits long =
    let m = span 0 40 rest in
    let m_long : length m ≡ 40 = length_part 40 0 rest (omega (arith, long)) in
    record {
      kind = refl;
      m = m;
      pad = span 41 1 rest;
      matched = refl;
      pad_fits = length_part 1 41 rest (omega (arith, long));
      whole = filter_whole rest fits long;
      good = (length_clear m ∙ m_long, clear_twice m m_long, number_lt 2 42 rest fits);
    }
request_rest kinds.Aggregate rest fits long =
    let m = span 0 40 rest in
    let m_long : length m ≡ 40 = length_part 40 0 rest (omega (arith, long)) in
    record {
      kind = refl;
      m = m;
      pad = span 41 1 rest;
      matched = refl;
      pad_fits = length_part 1 41 rest (omega (arith, long));
      whole = filter_whole rest fits long;
      good = (length_clear m ∙ m_long, clear_twice m m_long, number_lt 2 42 rest fits);
    }
request_rest kinds.Table rest fits long =
    record {
      kind = refl;
      m = [];
      pad = [];
      matched = refl;
      pad_fits = refl;
      whole = drop_all 0 rest (omega (arith, long));
      good = tt;
    }
request_rest kinds.Port rest fits long =
    let port = u16_at 0 rest in
    let pad = span 2 6 rest in
    let end = part 6 2 rest ∙ (ap (λ (x : List ℕ). pad ++ x) (drop_all 8 rest (omega (arith, long)))
    ∙ append-nil pad) in
    record {
      kind = refl;
      m = [];
      pad = pad;
      matched = refl;
      pad_fits = length_part 6 2 rest (omega (arith, long));
      whole = split 2 0 rest fits (omega (arith, long)) ∙ ap (λ (x : List ℕ). big_bytes 2 port ++ x) end;
      good = number_lt 2 0 rest fits;
    }

request_known : (bytes : List ℕ) (k : StatsKind) (r : StatsRequest) → IsBytes bytes → 4 ≤ length bytes
    → kind_at (u16_at 0 bytes) ≡ Some k → request_at k (drop 4 bytes) ≡ Some r → SpellsRequest r bytes × IsRequest r
request_known bytes k r fits long kind read =
    let rest = drop 4 bytes in
    let passed = cond_some (eqb (length rest) (request_length k)) (request_of k rest) r read in
    let found = subst (IsRequestOf k rest) passed.1
    (request_rest k rest (IsBytes-drop 4 bytes fits) (eqb-true _ _ passed.0)) in
    let number : u16_at 0 bytes ≡ number_of (request_kind r) = number_is (u16_at 0 bytes) k kind
    ∙ ap number_of (sym found.kind) in
    let whole = start_is bytes fits long
    ∙ ((λ i. start (number i) (u16_at 2 bytes) ++ rest)
    ∙ ap (λ (x : List ℕ). start (number_of (request_kind r)) (u16_at 2 bytes) ++ x) found.whole) in (
      record {
        flags = u16_at 2 bytes;
        m = found.m;
        pad = found.pad;
        flags_fit = number_lt 2 2 bytes fits;
        matched = found.matched;
        pad_fits = found.pad_fits;
        whole = whole;
      },
      found.good,
    )

request_typed : (bytes : List ℕ) (o : Option StatsKind) (r : StatsRequest) → IsBytes bytes → 4 ≤ length bytes
    → kind_at (u16_at 0 bytes) ≡ o → typed_request o bytes ≡ Ok r → SpellsRequest r bytes × IsRequest r
request_typed bytes None r fits long kind read = absurd cc
request_typed bytes (Some k) r fits long kind read =
    request_known bytes k r fits long kind (read_ok bytes (request_at k (drop 4 bytes)) r read)

pub request_is_spelled : (bytes : List ℕ) (r : StatsRequest) → IsBytes bytes → 4 ≤ length bytes
    → request_in bytes ≡ Ok r → SpellsRequest r bytes × IsRequest r
request_is_spelled bytes r fits long read = request_typed bytes (kind_at (u16_at 0 bytes)) r fits long refl read

-- ---- replies

record IsBodyOf (k : StatsKind) (rest : List ℕ) (body : ReplyBody) : Type 0 where
  kind : reply_kind body ≡ k
  spells : SpellsBody body rest
  good : IsBody body

aggregate_rest : (rest : List ℕ) → IsBytes rest → length rest ≡ 24
    → IsBodyOf kinds.Aggregate rest (bodies.Aggregate (u64_at 0 rest) (u64_at 8 rest) (u32_at 16 rest))
aggregate_rest rest fits long =
    let pad = span 20 4 rest in
    let end = part 4 20 rest ∙ (ap (λ (x : List ℕ). pad ++ x) (drop_all 24 rest (omega (arith, long)))
    ∙ append-nil pad) in
    let f2 = split 4 16 rest fits (omega (arith, long)) ∙ ap (λ (x : List ℕ). big_bytes 4 (u32_at 16 rest) ++ x) end in
    let f1 = split 8 8 rest fits (omega (arith, long)) ∙ ap (λ (x : List ℕ). big_bytes 8 (u64_at 8 rest) ++ x) f2 in
    let f0 = split 8 0 rest fits (omega (arith, long)) ∙ ap (λ (x : List ℕ). big_bytes 8 (u64_at 0 rest) ++ x) f1 in
    record {
      kind = refl;
      spells = (pad, length_part 4 20 rest (omega (arith, long)), f0);
      good = (number_lt 8 0 rest fits, number_lt 8 8 rest fits, number_lt 4 16 rest fits);
    }

table_rest : (rest : List ℕ) → IsBytes rest → length rest ≡ 64 → IsBodyOf kinds.Table rest (table_of rest)
unfolding table_of
table_rest rest fits long =
    let pad = span 1 3 rest in
    let name = span 4 32 rest in
    let f6 = split 8 56 rest fits (omega (arith, long))
    ∙ (ap (λ (x : List ℕ). big_bytes 8 (u64_at 56 rest) ++ x) (drop_all 64 rest (omega (arith, long)))
    ∙ append-nil (big_bytes 8 (u64_at 56 rest))) in
    let f5 = split 8 48 rest fits (omega (arith, long)) ∙ ap (λ (x : List ℕ). big_bytes 8 (u64_at 48 rest) ++ x) f6 in
    let f4 = split 4 44 rest fits (omega (arith, long)) ∙ ap (λ (x : List ℕ). big_bytes 4 (u32_at 44 rest) ++ x) f5 in
    let f3 = split 4 40 rest fits (omega (arith, long)) ∙ ap (λ (x : List ℕ). big_bytes 4 (u32_at 40 rest) ++ x) f4 in
    let f2 = split 4 36 rest fits (omega (arith, long)) ∙ ap (λ (x : List ℕ). big_bytes 4 (u32_at 36 rest) ++ x) f3 in
    let f1 = part 32 4 rest ∙ ap (λ (x : List ℕ). name ++ x) f2 in
    let f0 = part 3 1 rest ∙ ap (λ (x : List ℕ). pad ++ x) f1 in
    let whole = byte 0 rest (omega (arith, long)) ∙ ap (λ (x : List ℕ). slice_index rest 0 ∷ x) f0 in
    record {
      kind = refl;
      spells = (pad, length_part 3 1 rest (omega (arith, long)), whole);
      good = (
        length_part 32 4 rest (omega (arith, long)),
        number_lt 4 36 rest fits,
        number_lt 4 40 rest fits,
        number_lt 4 44 rest fits,
        number_lt 8 48 rest fits,
        number_lt 8 56 rest fits,
      );
    }

body_rest : (k : StatsKind) (rest : List ℕ) (body : ReplyBody) → IsBytes rest → body_at k rest ≡ Some body
    → IsBodyOf k rest body
body_rest kinds.Desc rest body fits read =
    let passed = cond_some (eqb (length rest) 1056) (bodies.Desc (texts_of widths rest)) body read in
    let long : length rest ≡ 1056 = eqb-true _ _ passed.0 in
    subst (IsBodyOf kinds.Desc rest) passed.1
    (record {
      kind = refl;
      spells = ([], refl, texts_joined widths rest (sym long));
      good = texts_widths widths rest (omega (arith, long));
    })
body_rest kinds.Flow rest body fits read =
    let m = map_some (λ es. bodies.Flow es) (items_at entry_at entry_size 0 rest) body read in
    let found = are_spelled entry_at entry_size SpellsEntry IsEntry entry_found rest m.0 fits m.1 in
    subst (IsBodyOf kinds.Flow rest) m.2
    (record { kind = refl; spells = found.0; good = All-from_recursion IsEntry m.0 found.1 })
body_rest kinds.Aggregate rest body fits read =
    let passed = cond_some (eqb (length rest) 24) (bodies.Aggregate (u64_at 0 rest) (u64_at 8 rest) (u32_at 16 rest))
    body read in
    subst (IsBodyOf kinds.Aggregate rest) passed.1 (aggregate_rest rest fits (eqb-true _ _ passed.0))
body_rest kinds.Table rest body fits read =
    let passed = cond_some (eqb (length rest) 64) (table_of rest) body read in
    subst (IsBodyOf kinds.Table rest) passed.1 (table_rest rest fits (eqb-true _ _ passed.0))
body_rest kinds.Port rest body fits read =
    let m = map_some (λ ps. bodies.Port ps) (items_at port_at port_size 0 rest) body read in
    let found = are_spelled port_at port_size SpellsPort IsPort port_found rest m.0 fits m.1 in
    subst (IsBodyOf kinds.Port rest) m.2
    (record { kind = refl; spells = found.0; good = All-from_recursion IsPort m.0 found.1 })

reply_known : (bytes : List ℕ) (k : StatsKind) (body : ReplyBody) → IsBytes bytes → 4 ≤ length bytes
    → kind_at (u16_at 0 bytes) ≡ Some k → body_at k (drop 4 bytes) ≡ Some body
    → SpellsReply (reply_with bytes body) bytes × IsBody body
reply_known bytes k body fits long kind read =
    let rest = drop 4 bytes in
    let found = body_rest k rest body (IsBytes-drop 4 bytes fits) read in
    let number : u16_at 0 bytes ≡ number_of (reply_kind body) = number_is (u16_at 0 bytes) k kind
    ∙ ap number_of (sym found.kind) in
    let whole = start_is bytes fits long ∙ (λ i. start (number i) (u16_at 2 bytes) ++ rest) in (
      record {
        flags = u16_at 2 bytes;
        rest = rest;
        flags_fit = number_lt 2 2 bytes fits;
        more = refl;
        body = found.spells;
        whole = whole;
      },
      found.good,
    )

reply_typed : (bytes : List ℕ) (o : Option StatsKind) (r : StatsReply) → IsBytes bytes → 4 ≤ length bytes
    → kind_at (u16_at 0 bytes) ≡ o → typed_reply o bytes ≡ Ok r → SpellsReply r bytes × IsBody r.body
reply_typed bytes None r fits long kind read = absurd cc
reply_typed bytes (Some k) r fits long kind read =
    let m = map_some (reply_with bytes) (body_at k (drop 4 bytes)) r
    (read_ok bytes (option_map (reply_with bytes) (body_at k (drop 4 bytes))) r read) in
    subst (λ (x : StatsReply). SpellsReply x bytes × IsBody x.body) m.2 (reply_known bytes k m.0 fits long kind m.1)

pub reply_is_spelled : (bytes : List ℕ) (r : StatsReply) → IsBytes bytes → 4 ≤ length bytes → reply_in bytes ≡ Ok r
    → SpellsReply r bytes × IsBody r.body
reply_is_spelled bytes r fits long read = reply_typed bytes (kind_at (u16_at 0 bytes)) r fits long refl read
