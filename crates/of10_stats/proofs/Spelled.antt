-- A request or a reply that is spelled is read, and what is written is spelled so.
use Rattle.std.proofs.Common.{◌≡◌, ℕ, ◌+◌, ◌%◌, ◌^◌, ◌<◌, Bool, true, false, eqb, List, [], ◌∷◌, ◌++◌, length, map}
use Rattle.std.proofs.Common.{take, drop, replicate, Option, Some, Ok, refl, sym, ap, subst, ◌∙◌, arith}
use Rattle.std.specs.Prelude.{option_map, slice_index}
use Rattle.std.specs.List.{AllByRecursion, flat_map}
use Rattle.std.proofs.lemmas.Bool.{eq-eqb}
use Rattle.std.proofs.lemmas.List.{length-append, length-replicate, take_at}
use Rattle.std.proofs.lemmas.List.Concat.{flat_map-cons}
use Rattle.std.proofs.lemmas.List.Elements.{recursion_from_All}
use Rattle.byteorder.specs.Endian.{big_bytes, big_number}
use Rattle.of10_actions.specs.Reading.{u16_at}
use Rattle.of10_msgs.specs.Spelling.{clear_match}
use Rattle.of10_msgs.proofs.Fields.{again, byte_past, cell, cells, drop_past}
use Rattle.of10_msgs.proofs.SpelledBodies.{length_clear}
use Rattle.of10_stats.specs.Kinds.{kind_at, number_of, reply_kind, request_kind}
use Rattle.of10_stats.specs.Ranges.{IsBody, IsEntry, IsFilter, IsPort, IsRequest, widths}
use Rattle.of10_stats.specs.Reading.{body_at, entry_at, or_bad_len, port_at, reply_in, reply_with, request_at}
use Rattle.of10_stats.specs.Reading.{request_in, table_of, texts_of, typed_reply, typed_request, when}
use Rattle.of10_stats.specs.Spelling.{SpellsBody, SpellsEach, SpellsEntry, SpellsPort, SpellsReply, SpellsRequest}
use Rattle.of10_stats.specs.Spelling.{body_bytes, body_with, entry_bytes, entry_size, joined, more_flag, port_bytes}
use Rattle.of10_stats.specs.Spelling.{port_size, reply_bytes, request_bytes, request_match, request_padding}
use Rattle.of10_stats.specs.Spelling.{request_with, start}
use Rattle.of10_stats.specs.declared.kind.StatsKind.{StatsKind}
use Rattle.of10_stats.specs.declared.kind.StatsKind.TheVariants as kinds
use Rattle.of10_stats.specs.declared.reply.FlowStat.{FlowStat}
use Rattle.of10_stats.specs.declared.reply.PortStat.{PortStat}
use Rattle.of10_stats.specs.declared.reply.ReplyBody.{ReplyBody}
use Rattle.of10_stats.specs.declared.reply.ReplyBody.TheVariants as bodies
use Rattle.of10_stats.specs.declared.reply.StatsReply.{StatsReply}
use Rattle.of10_stats.specs.declared.request.StatsRequest.{StatsRequest}
use Rattle.of10_stats.specs.declared.request.StatsRequest.TheVariants.{Desc, Flow, Aggregate, Table, Port}
use Rattle.of10_stats.proofs.Items.{are_read}
use Rattle.of10_stats.proofs.Lengths.{length_texts}
use Rattle.of10_stats.proofs.SpelledItems.{entry_again, port_again, texts_again}

-- ---- types

-- a type's number is read as the type, and fits two bytes
kind_is : (k : StatsKind) → kind_at (number_of k) ≡ Some k
kind_is kinds.Desc = refl
kind_is kinds.Flow = refl
kind_is kinds.Aggregate = refl
kind_is kinds.Table = refl
kind_is kinds.Port = refl

kind_small : (k : StatsKind) → number_of k < 256 ^ 2
kind_small kinds.Desc = omega arith
kind_small kinds.Flow = omega arith
kind_small kinds.Aggregate = omega arith
kind_small kinds.Table = omega arith
kind_small kinds.Port = omega arith

when_so : {A : Type 0} (a b : ℕ) (x y : A) → a ≡ b → x ≡ y → when (eqb a b) x ≡ Some y
when_so a b x y same is = (λ i. when (eq-eqb a b same i) (is i))

-- ---- requests

-- what is read of a filter
record IsFound (rest m : List ℕ) (table_id out_port : ℕ) : Type 0 where
  long : length rest ≡ 44
  matched : clear_match (take 40 rest) ≡ m
  table : slice_index rest 40 ≡ table_id
  port : u16_at 42 rest ≡ out_port

filter_again : (m : List ℕ) (table_id out_port : ℕ) (bytes pad : List ℕ) → IsFilter m out_port → clear_match bytes ≡ m
    → length pad ≡ 1 → IsFound (bytes ++ (table_id ∷ (pad ++ big_bytes 2 out_port))) m table_id out_port
filter_again m table_id out_port bytes pad good matched one =
    let p = cell pad one in
    let long : length bytes ≡ 40 = sym (length_clear bytes) ∙ (ap length matched ∙ good.0) in
    let back = table_id ∷ (p.0 ∷ big_bytes 2 out_port) in
    let found : IsFound (bytes ++ back) m table_id out_port = record {
      long = omega (arith, length-append bytes back, long);
      matched = ap clear_match (take_at bytes back 40 long) ∙ matched;
      table = byte_past bytes back 40 0 long;
      port = ap (big_number 2) (drop_past 40 2 bytes back long) ∙ again 2 out_port [] good.2;
    } in
    subst (λ (x : List ℕ). IsFound (bytes ++ (table_id ∷ (x ++ big_bytes 2 out_port))) m table_id out_port) (sym p.1)
    found

request_again : (r : StatsRequest) (m pad : List ℕ) → IsRequest r → clear_match m ≡ request_match r
    → length pad ≡ request_padding r → request_at (request_kind r) (request_with r m pad) ≡ Some r
request_again Desc m pad good matched fits = refl
request_again (Flow n table_id out_port) m pad good matched fits =
    let rest = m ++ (table_id ∷ (pad ++ big_bytes 2 out_port)) in
    let f = filter_again n table_id out_port m pad good matched fits in
    when_so (length rest) 44 (Flow (clear_match (take 40 rest)) (slice_index rest 40) (u16_at 42 rest))
    (Flow n table_id out_port) f.long (λ i. Flow (f.matched i) (f.table i) (f.port i))
request_again (Aggregate n table_id out_port) m pad good matched fits =
    let rest = m ++ (table_id ∷ (pad ++ big_bytes 2 out_port)) in
    let f = filter_again n table_id out_port m pad good matched fits in
    when_so (length rest) 44 (Aggregate (clear_match (take 40 rest)) (slice_index rest 40) (u16_at 42 rest))
    (Aggregate n table_id out_port) f.long (λ i. Aggregate (f.matched i) (f.table i) (f.port i))
request_again Table m pad good matched fits = refl
request_again (Port port_no) m pad good matched fits =
    let rest = big_bytes 2 port_no ++ pad in
    when_so (length rest) 8 (Port (u16_at 0 rest)) (Port port_no) (omega (arith, fits))
    (λ i. Port (again 2 port_no pad good i))

pub request_is_read : (bytes : List ℕ) (r : StatsRequest) → IsRequest r → SpellsRequest r bytes
    → request_in bytes ≡ Ok r
request_is_read bytes r good s =
    let k = request_kind r in
    let rest = request_with r s.m s.pad in
    let whole = start (number_of k) s.flags ++ rest in
    let number : u16_at 0 whole ≡ number_of k = again 2 (number_of k) (big_bytes 2 s.flags ++ rest) (kind_small k) in
    ap request_in s.whole
    ∙ (ap (λ (n : ℕ). typed_request (kind_at n) whole) number
    ∙ (ap (λ (o : Option StatsKind). typed_request o whole) (kind_is k)
    ∙ ap (λ (o : Option StatsRequest). or_bad_len whole o) (request_again r s.m s.pad good s.matched s.pad_fits)))

pub clear_request : (r : StatsRequest) → IsRequest r → clear_match (request_match r) ≡ request_match r
clear_request Desc good = refl
clear_request (Flow m table_id out_port) good = good.1
clear_request (Aggregate m table_id out_port) good = good.1
clear_request Table good = refl
clear_request (Port port_no) good = refl

-- a request that is written is spelled so
pub request_spells : (r : StatsRequest) → IsRequest r → SpellsRequest r (request_bytes r)
request_spells r good = record {
  flags = 0;
  m = request_match r;
  pad = replicate (request_padding r) 0;
  flags_fit = omega arith;
  matched = clear_request r good;
  pad_fits = length-replicate (request_padding r) 0;
  whole = refl;
}

pub written_request : (r : StatsRequest) → IsRequest r → request_in (request_bytes r) ≡ Ok r
written_request r good = request_is_read (request_bytes r) r good (request_spells r good)

-- ---- replies

texts_read : (texts : List (List ℕ)) (rest pad : List ℕ) → map length texts ≡ widths → rest ≡ joined texts
    → body_at kinds.Desc rest ≡ Some (bodies.Desc texts)
texts_read texts rest pad good whole =
    let long : length rest ≡ 1056 = ap length whole ∙ length_texts texts good in
    let read : texts_of widths rest ≡ texts = (λ i. texts_of (sym good i) (whole i)) ∙ texts_again texts in
    when_so (length rest) 1056 (bodies.Desc (texts_of widths rest)) (bodies.Desc texts) long (λ i. bodies.Desc (read i))

aggregate_read : (packets bytes flows : ℕ) (pad : List ℕ) → IsBody (bodies.Aggregate packets bytes flows)
    → length pad ≡ 4 → body_at kinds.Aggregate (body_with (bodies.Aggregate packets bytes flows) pad)
    ≡ Some (bodies.Aggregate packets bytes flows)
aggregate_read packets bytes flows pad good four =
    let end = big_bytes 4 flows ++ pad in
    let rest = big_bytes 8 packets ++ (big_bytes 8 bytes ++ end) in
    when_so (length rest) 24 (bodies.Aggregate (big_number 8 (drop 0 rest)) (big_number 8 (drop 8 rest))
    (big_number 4 (drop 16 rest))) (bodies.Aggregate packets bytes flows) (omega (arith, four))
    (λ i. bodies.Aggregate (again 8 packets (big_bytes 8 bytes ++ end) good.0 i) (again 8 bytes end good.1 i)
    (again 4 flows pad good.2 i))

table_cells : (table_id : ℕ) (name : List ℕ) (wildcards max_entries active lookup matched x y z : ℕ)
    → IsBody (bodies.Table table_id name wildcards max_entries active lookup matched)
    → body_at kinds.Table (body_with (bodies.Table table_id name wildcards max_entries active lookup matched)
    (x ∷ y ∷ z ∷ [])) ≡ Some (bodies.Table table_id name wildcards max_entries active lookup matched)
unfolding table_of
table_cells table_id name wildcards max_entries active lookup matched x y z good =
    let looks = big_bytes 8 lookup ++ big_bytes 8 matched in
    let act = big_bytes 4 active ++ looks in
    let most = big_bytes 4 max_entries ++ act in
    let ends = big_bytes 4 wildcards ++ most in
    let rest = table_id ∷ (x ∷ (y ∷ (z ∷ (name ++ ends)))) in
    let past : (k : ℕ) → drop (32 + k) (name ++ ends) ≡ drop k ends = λ k. drop_past 32 k name ends good.0 in
    let e1 : take 32 (name ++ ends) ≡ name = take_at name ends 32 good.0 in
    let e2 : big_number 4 (drop 32 (name ++ ends)) ≡ wildcards = ap (big_number 4) (past 0)
    ∙ again 4 wildcards most good.1 in
    let e3 : big_number 4 (drop 36 (name ++ ends)) ≡ max_entries = ap (big_number 4) (past 4)
    ∙ again 4 max_entries act good.2 in
    let e4 : big_number 4 (drop 40 (name ++ ends)) ≡ active = ap (big_number 4) (past 8)
    ∙ again 4 active looks good.3 in
    let e5 : big_number 8 (drop 44 (name ++ ends)) ≡ lookup = ap (big_number 8) (past 12)
    ∙ again 8 lookup (big_bytes 8 matched) good.4 in
    let e6 : big_number 8 (drop 52 (name ++ ends)) ≡ matched = ap (big_number 8) (past 20)
    ∙ again 8 matched [] good.5 in
    when_so (length rest) 64 (table_of rest) (bodies.Table table_id name wildcards max_entries active lookup matched)
    (omega (arith, length-append name ends, good.0))
    (λ i. bodies.Table table_id (e1 i) (e2 i) (e3 i) (e4 i) (e5 i) (e6 i))

table_read : (table_id : ℕ) (name : List ℕ) (wildcards max_entries active lookup matched : ℕ) (pad : List ℕ)
    → IsBody (bodies.Table table_id name wildcards max_entries active lookup matched) → length pad ≡ 3
    → body_at kinds.Table (body_with (bodies.Table table_id name wildcards max_entries active lookup matched) pad)
    ≡ Some (bodies.Table table_id name wildcards max_entries active lookup matched)
table_read table_id name wildcards max_entries active lookup matched pad good three =
    let p = cells 2 pad three in
    let q = cells 1 p.1 p.3 in
    let r = cell q.1 q.3 in
    let whole : pad ≡ p.0 ∷ q.0 ∷ r.0 ∷ [] = p.2
    ∙ ap (λ (xs : List ℕ). p.0 ∷ xs) (q.2 ∙ ap (λ (xs : List ℕ). q.0 ∷ xs) r.1) in
    let b : ReplyBody = bodies.Table table_id name wildcards max_entries active lookup matched in
    subst (λ (xs : List ℕ). body_at kinds.Table (body_with b xs) ≡ Some b) (sym whole)
    (table_cells table_id name wildcards max_entries active lookup matched p.0 q.0 r.0 good)

body_again : (body : ReplyBody) (rest : List ℕ) → IsBody body → SpellsBody body rest
    → body_at (reply_kind body) rest ≡ Some body
body_again (bodies.Desc texts) rest good s = texts_read texts rest s.0 good s.2
body_again (bodies.Flow entries) rest good s =
    ap (λ (o : Option (List FlowStat)). option_map (λ es. bodies.Flow es) o)
    (are_read entry_at entry_size SpellsEntry IsEntry entry_again entries rest
    (recursion_from_All IsEntry entries good) s)
body_again (bodies.Aggregate packets bytes flows) rest good s = ap (body_at kinds.Aggregate) s.2
    ∙ aggregate_read packets bytes flows s.0 good s.1
body_again (bodies.Table table_id name wildcards max_entries active lookup matched) rest good s =
    ap (body_at kinds.Table) s.2 ∙ table_read table_id name wildcards max_entries active lookup matched s.0 good s.1
body_again (bodies.Port ports) rest good s =
    ap (λ (o : Option (List PortStat)). option_map (λ ps. bodies.Port ps) o)
    (are_read port_at port_size SpellsPort IsPort port_again ports rest (recursion_from_All IsPort ports good) s)

pub reply_is_read : (bytes : List ℕ) (r : StatsReply) → IsBody r.body → SpellsReply r bytes → reply_in bytes ≡ Ok r
reply_is_read bytes r good s =
    let k = reply_kind r.body in
    let whole = start (number_of k) s.flags ++ s.rest in
    let number : u16_at 0 whole ≡ number_of k = again 2 (number_of k) (big_bytes 2 s.flags ++ s.rest) (kind_small k) in
    let flags : u16_at 2 whole ≡ s.flags = again 2 s.flags s.rest s.flags_fit in
    let more : eqb (u16_at 2 whole % 2) 1 ≡ r.more = ap (λ (n : ℕ). eqb (n % 2) 1) flags ∙ s.more in
    ap reply_in s.whole
    ∙ (ap (λ (n : ℕ). typed_reply (kind_at n) whole) number
    ∙ (ap (λ (o : Option StatsKind). typed_reply o whole) (kind_is k)
    ∙ (ap (λ (o : Option ReplyBody). or_bad_len whole (option_map (reply_with whole) o))
    (body_again r.body s.rest good s.body)
    ∙ (λ i. Ok (record { more = more i; body = r.body })))))

-- ---- what is written

entries_spell : (es : List FlowStat) → AllByRecursion IsEntry es → SpellsEach SpellsEntry es (flat_map entry_bytes es)
entries_spell [] good = refl
entries_spell (e ∷ es) good = (
  entry_bytes e,
  flat_map entry_bytes es,
  flat_map-cons entry_bytes e es,
  record { m = e.m; pad = 0; pads = replicate 6 0; matched = good.0.clear; pads_fit = refl; whole = refl },
  entries_spell es good.1,
)

ports_spell : (ps : List PortStat) → SpellsEach SpellsPort ps (flat_map port_bytes ps)
ports_spell [] = refl
ports_spell (p ∷ ps) = (
  port_bytes p,
  flat_map port_bytes ps,
  flat_map-cons port_bytes p ps,
  record { pad = replicate 6 0; pad_fits = refl; whole = refl },
  ports_spell ps,
)

body_spells : (body : ReplyBody) → IsBody body → SpellsBody body (body_bytes body)
body_spells (bodies.Desc texts) good = ([], refl, refl)
body_spells (bodies.Flow entries) good = entries_spell entries (recursion_from_All IsEntry entries good)
body_spells (bodies.Aggregate packets bytes flows) good = (replicate 4 0, refl, refl)
body_spells (bodies.Table table_id name wildcards max_entries active lookup matched) good = (replicate 3 0, refl, refl)
body_spells (bodies.Port ports) good = ports_spell ports

flag_more : (b : Bool) → eqb (more_flag b % 2) 1 ≡ b
flag_more true = refl
flag_more false = refl

flag_small : (b : Bool) → more_flag b < 2 ^ 16
flag_small true = omega arith
flag_small false = omega arith

-- a reply that is written is spelled so
pub reply_spells : (r : StatsReply) → IsBody r.body → SpellsReply r (reply_bytes r)
reply_spells r good = record {
  flags = more_flag r.more;
  rest = body_bytes r.body;
  flags_fit = flag_small r.more;
  more = flag_more r.more;
  body = body_spells r.body good;
  whole = refl;
}

pub written_reply : (r : StatsReply) → IsBody r.body → reply_in (reply_bytes r) ≡ Ok r
written_reply r good = reply_is_read (reply_bytes r) r good (reply_spells r good)
