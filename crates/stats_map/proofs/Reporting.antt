-- Counts of leaves, and reports.
use Rattle.std.proofs.Common.{◌≡◌, ℕ, ◌+◌, Bool, true, false, cond, List, [], ◌∷◌, refl, sym, ap, subst, ◌∙◌, arith}
use Rattle.std.proofs.Common.{sum_by, nat_lt, true≢false}
use Rattle.std.specs.Prelude.{IfSome, MatchOption, Option, Some, None, is_some}
use Rattle.std.specs.List.{list_any}
use Rattle.std.specs.Map.{lookup, remove_entry, set_value, values_of}
use Rattle.std.proofs.lemmas.Map.Steps.{set_value_same}
use Rattle.cv_io.specs.declared.leaf.Leaf.{Leaf}
use Rattle.switch_meaning.specs.Counts.{Cookie, Numbers, bytes_for, capped, folded_in, names, packets_for}
use Rattle.stats_map.specs.Counting.{Cookies, CountsOf, Place, cookie_at, count, ended, forgot, is_named, known}
use Rattle.stats_map.specs.Counting.{renumbered, reported, reported_on, swept, with_numbers}
use Rattle.stats_map.specs.InsideSums.{Allows, AllowsEach, AreSums, HappenedTo, Sums, seen, sum_at, total_in}
use Rattle.stats_map.specs.declared.counts.Known.TheVariants.{Live, Retired}
use Rattle.stats_map.specs.declared.sum.Event.TheVariants.{Forgotten}
use Rattle.stats_map.specs.declared.sum.Sum.{Sum}
use Rattle.stats_map.proofs.Ending.{sums-forgot, total-forgot}
use Rattle.stats_map.proofs.Rows.{at, seen-as}
use Rattle.stats_map.proofs.Summing.{any-counted, unnamed}

capped-once : (t n m : ℕ) → n ≡ m → capped (t + n) ≡ capped (t + capped m)
capped-once t n m e = omega (arith, e)

capped-none : (n : ℕ) → n ≡ 0 → 0 ≡ capped (0 + capped n)
capped-none n e = omega (arith, e)

module _ (live : Cookies) (sums : Sums) (leaf : Leaf) (a : AreSums (values_of live) sums) where
  -- the count of a leaf that has a sum
  module _ (s : Sum) (e : sum_at leaf sums ≡ Some s) where
    pub count-packets : capped (s.packets + s.live_packets) ≡ (count (seen live sums) leaf).packets
    count-packets =
        let i = a.each leaf s e in
        capped-once s.packets s.live_packets (sum_by (packets_for leaf) (values_of live)) i.live_packets
        ∙ sym
        (ap (λ (o : Option Sum). capped
        ((total_in o).packets + capped (sum_by (packets_for leaf) (values_of live)))) e)

    pub count-bytes : capped (s.bytes + s.live_bytes) ≡ (count (seen live sums) leaf).bytes
    count-bytes =
        let i = a.each leaf s e in
        capped-once s.bytes s.live_bytes (sum_by (bytes_for leaf) (values_of live)) i.live_bytes
        ∙ sym (ap (λ (o : Option Sum). capped ((total_in o).bytes + capped (sum_by (bytes_for leaf) (values_of live))))
        e)

    pub named-some : nat_lt 0 s.live ≡ is_named (seen live sums) leaf
    named-some = ap (nat_lt 0) (a.each leaf s e).live_count ∙ sym (any-counted (names leaf) (values_of live))

  -- of one that has none
  module _ (e : sum_at leaf sums ≡ None) where
    pub named-none : is_named (seen live sums) leaf ≡ false
    named-none = by (list_any (names leaf) (values_of live)) refl
      where
        by : (b : Bool) → list_any (names leaf) (values_of live) ≡ b → b ≡ false
        by true t = absurd (true≢false (sym (a.summed leaf t) ∙ ap is_some e))
        by false t = refl

    pub none-packets : 0 ≡ (count (seen live sums) leaf).packets
    none-packets =
        capped-none (sum_by (packets_for leaf) (values_of live)) (unnamed leaf (values_of live) named-none).1
        ∙ sym
        (ap (λ (o : Option Sum). capped
        ((total_in o).packets + capped (sum_by (packets_for leaf) (values_of live)))) e)

    pub none-bytes : 0 ≡ (count (seen live sums) leaf).bytes
    none-bytes =
        capped-none (sum_by (bytes_for leaf) (values_of live)) (unnamed leaf (values_of live) named-none).2
        ∙ sym (ap (λ (o : Option Sum). capped ((total_in o).bytes + capped (sum_by (bytes_for leaf) (values_of live))))
        e)

  -- a leaf is to be forgotten
  pub allows-forgotten : (leaves : List Leaf) → AllowsEach Forgotten leaves sums
  allows-forgotten leaves q t = by (sum_at q sums)
    where
      by : (o : Option Sum) → IfSome o (Allows Forgotten)
      by None = tt
      by (Some s) = tt

  pub forgot-seen : (sums' : Sums) → HappenedTo Forgotten (leaf ∷ []) sums sums'
      → seen live sums' ≡ forgot leaf (seen live sums)
  forgot-seen sums' h = seen-as live live sums' (forgot leaf (seen live sums)).totals
      (forgot leaf (seen live sums)).forgotten refl (total-forgot leaf (values_of live) sums sums' a h)

  pub forgot-sums : (sums' : Sums) → HappenedTo Forgotten (leaf ∷ []) sums sums' → AreSums (values_of live) sums'
  forgot-sums sums' h = sums-forgot leaf (values_of live) sums sums' a h

-- a written value is found

module _ (p : Place → Bool) where
  pub found-written : (w : Cookie) (es : Cookies) → is_some (lookup p es) ≡ true → lookup p (set_value p es w) ≡ Some w
  found-written w [] t = absurd (true≢false (sym t))
  found-written w (e ∷ es) t = by (p e.0) refl (λ u. found-written w es u)
    where
      by : (b : Bool) → p e.0 ≡ b → (is_some (lookup p es) ≡ true → lookup p (set_value p es w) ≡ Some w)
          → lookup p (set_value p (e ∷ es) w) ≡ Some w
      by true f go = ap (λ b. lookup p (cond b ((e.0, w) ∷ es) (e ∷ set_value p es w))) f
          ∙ ap (λ b. cond b (Some w) (lookup p es)) f
      by false f go =
          ap (λ b. lookup p (cond b ((e.0, w) ∷ es) (e ∷ set_value p es w))) f
          ∙ (ap (λ b. cond b (Some e.1) (lookup p (set_value p es w))) f
          ∙ go (sym (ap (λ b. is_some (cond b (Some e.1) (lookup p es))) f) ∙ t))

  -- and goes as any other
  removed-written : (w : Cookie) (es : Cookies) → remove_entry p (set_value p es w) ≡ remove_entry p es
  removed-written w [] = refl
  removed-written w (e ∷ es) = by (p e.0) refl (removed-written w es)
    where
      by : (b : Bool) → p e.0 ≡ b → remove_entry p (set_value p es w) ≡ remove_entry p es
          → remove_entry p (set_value p (e ∷ es) w) ≡ remove_entry p (e ∷ es)
      by true f rest =
          ap (λ b. remove_entry p (cond b ((e.0, w) ∷ es) (e ∷ set_value p es w))) f
          ∙ (ap (λ b. cond b es ((e.0, w) ∷ remove_entry p es)) f ∙ sym (ap (λ b. cond b es (e ∷ remove_entry p es)) f))
      by false f rest =
          ap (λ b. remove_entry p (cond b ((e.0, w) ∷ es) (e ∷ set_value p es w))) f
          ∙ (ap (λ b. cond b (set_value p es w) (e ∷ remove_entry p (set_value p es w))) f
          ∙ (ap (λ zs. e ∷ zs) rest ∙ sym (ap (λ b. cond b es (e ∷ remove_entry p es)) f)))

  -- a value that is written over another
  written-twice : (w v : Cookie) (es : Cookies) → set_value p (set_value p es w) v ≡ set_value p es v
  written-twice w v [] = refl
  written-twice w v (e ∷ es) = by (p e.0) refl (written-twice w v es)
    where
      by : (b : Bool) → p e.0 ≡ b → set_value p (set_value p es w) v ≡ set_value p es v
          → set_value p (set_value p (e ∷ es) w) v ≡ set_value p (e ∷ es) v
      by true f rest =
          ap (λ b. set_value p (cond b ((e.0, w) ∷ es) (e ∷ set_value p es w)) v) f
          ∙ (ap (λ b. cond b ((e.0, v) ∷ es) ((e.0, w) ∷ set_value p es v)) f
          ∙ sym (ap (λ b. cond b ((e.0, v) ∷ es) (e ∷ set_value p es v)) f))
      by false f rest =
          ap (λ b. set_value p (cond b ((e.0, w) ∷ es) (e ∷ set_value p es w)) v) f
          ∙ (ap (λ b. cond b ((e.0, v) ∷ set_value p es w) (e ∷ set_value p (set_value p es w) v)) f
          ∙ (ap (λ zs. e ∷ zs) rest ∙ sym (ap (λ b. cond b ((e.0, v) ∷ es) (e ∷ set_value p es v)) f)))

-- other numbers, and then the old ones
pub told-back : (place : Place) (c : Cookie) (n : Numbers) (s : CountsOf) → cookie_at place s ≡ Some c
    → reported place c.numbers false (reported place n false s) ≡ s
told-back place c n s e =
    let w : Cookie = with_numbers n c in
    let s1 : CountsOf = renumbered place w s in
    let first : reported place n false s ≡ s1 = ap (λ (o : Option Cookie). reported_on o place n false s) e in
    let there : cookie_at place s1 ≡ Some w = found-written (at place) w s.live (ap is_some e) in
    let second : reported place c.numbers false s1 ≡ renumbered place c s1 =
    ap (λ (o : Option Cookie). reported_on o place c.numbers false s1) there in
    let same : set_value (at place) (set_value (at place) s.live w) c ≡ s.live = written-twice (at place) w c s.live
    ∙ set_value_same (at place) s.live c e in
    ap (reported place c.numbers false) first
    ∙ (second ∙ ap (λ (es : Cookies). record { live = es; totals = s.totals; forgotten = s.forgotten }) same)

-- a report

module _ (place : Place) (n : Numbers) (s s1 : CountsOf)
    (moved : MatchOption (cookie_at place s) (s1 ≡ s) (λ (c : Cookie). s1 ≡ renumbered place (with_numbers n c) s))
  where
    pub report-none : (last : Bool) → false ≡ is_some (cookie_at place s) → s1 ≡ reported place n last s
    report-none last f = by (cookie_at place s) f moved
      where
        by : (o : Option Cookie) → false ≡ is_some o
            → MatchOption o (s1 ≡ s) (λ (c : Cookie). s1 ≡ renumbered place (with_numbers n c) s)
            → s1 ≡ reported_on o place n last s
        by None g m = m
        by (Some c) g m = absurd (true≢false (sym g))

    pub report-polled : true ≡ is_some (cookie_at place s) → s1 ≡ reported place n false s
    report-polled f = by (cookie_at place s) f moved
      where
        by : (o : Option Cookie) → true ≡ is_some o
            → MatchOption o (s1 ≡ s) (λ (c : Cookie). s1 ≡ renumbered place (with_numbers n c) s)
            → s1 ≡ reported_on o place n false s
        by None g m = absurd (true≢false g)
        by (Some c) g m = m

    pub report-last : (s2 : CountsOf) → true ≡ is_some (cookie_at place s)
        → MatchOption (cookie_at place s1) (s2 ≡ s1) (λ (c : Cookie). s2 ≡ ended place c s1)
        → s2 ≡ reported place n true s
    report-last s2 f gone = by (cookie_at place s) refl f moved
      where
        by : (o : Option Cookie) → cookie_at place s ≡ o → true ≡ is_some o
            → MatchOption o (s1 ≡ s) (λ (c : Cookie). s1 ≡ renumbered place (with_numbers n c) s)
            → s2 ≡ reported_on o place n true s
        by None e g m = absurd (true≢false g)
        by (Some c) e g m =
            let w : Cookie = with_numbers n c in
            let there : cookie_at place s1 ≡ Some w = ap (cookie_at place) m
            ∙ found-written (at place) w s.live (ap is_some e) in
            let last : s2 ≡ ended place w s1 =
            subst (λ (o : Option Cookie). MatchOption o (s2 ≡ s1) (λ (c : Cookie). s2 ≡ ended place c s1)) there
            gone in
            last
            ∙ (ap (ended place w) m
            ∙ ap (λ (es : Cookies). swept
            (record { live = es; totals = folded_in s.totals w; forgotten = s.forgotten }))
            (removed-written (at place) w s.live))

pub known-none : (o : Option Cookie) → false ≡ is_some o → Retired ≡ known o
known-none None e = refl
known-none (Some c) e = absurd (true≢false (sym e))

pub known-some : (o : Option Cookie) → true ≡ is_some o → Live ≡ known o
known-some None e = absurd (true≢false e)
known-some (Some c) e = refl
