-- The first of the entries that hold a header is among those of the keys that the index finds.
use Rattle.std.proofs.Common.{◌≡◌, ℕ, ◌+◌, ◌<◌, ◌≤◌, ◌⊎◌, inl, inr, Bool, true, false, cond, ◌&&◌, ◌||◌, List, [], ◌∷◌}
use Rattle.std.proofs.Common.{◌++◌, Some, None, refl, sym, ap, subst, ◌∙◌, arith, append-nil, eq-eqb, eqb-true, lt-ltb}
use Rattle.std.proofs.Common.{true≢false, length, get_or, take}
use Rattle.std.specs.Prelude.{◌==◌, Option, flat_map, nat_lt, option_to_list, if◌then◌else◌}
use Rattle.std.specs.List.{list_any}
use Rattle.std.specs.Option.{option_and_then}
use Rattle.std.proofs.lemmas.Bool.{ltb-true}
use Rattle.std.proofs.lemmas.List.{take_all, take_more}
use Rattle.std.proofs.lemmas.List.Concat.{flat_map-append}
use Rattle.of10_match.specs.Fields.{HeaderOf}
use Rattle.of10_match.specs.Ranges.{IsMatch}
use Rattle.switch_meaning.specs.declared.entry.PhysEntry.{PhysEntry}
use Rattle.switch_meaning.proofs.Items.{fails, join_and, some_injective, split_and}
use Rattle.switch_meaning.proofs.Members.{IsIn, any-passes, from-place, here, in-all, in-either, in-left, in-one}
use Rattle.switch_meaning.proofs.Members.{in-right, passes-any, place}
use Rattle.install_plan.specs.Best.{IsBest, is_above, is_holding}
use Rattle.install_plan.specs.InsideBest.{IsLeading, Leads, before, candidate_at, candidate_if, candidate_of}
use Rattle.install_plan.specs.InsideBest.{candidates, is_before, standing_at}
use Rattle.install_plan.specs.InsideFinder.{AreHeld, AreKnown, Numbers}
use Rattle.install_plan.specs.InsideNumbering.{head}
use Rattle.install_plan.specs.InsideSlots.{AreKept, Fits, Slots, as_is, first, key_of, slot_at, table_by, top}
use Rattle.install_plan.specs.declared.choosing.Candidate.{Candidate}
use Rattle.install_plan.specs.declared.key.Key.{Key}
use Rattle.install_plan.specs.declared.slot.Slot.{Slot}
use Rattle.install_plan.specs.declared.written.Written.{Written}
use Rattle.install_plan.proofs.Cookies.{none-some}
use Rattle.install_plan.proofs.Keyed.{flat-in, found-in, in-flat, in-found, no-items}
use Rattle.install_plan.proofs.Writing.{some-found}

-- no item passes a test
none-passes : {A : Type 0} (test : A → Bool) (xs : List A) → ((x : A) → IsIn x xs → test x ≡ false)
    → list_any test xs ≡ false
none-passes test xs f = fails (list_any test xs) (λ t. let p = any-passes test xs t in
    true≢false (sym p.passes ∙ f p.item p.stands))

-- where none passes each fails
each-fails : {A : Type 0} (test : A → Bool) (xs : List A) → list_any test xs ≡ false → (x : A) → IsIn x xs
    → test x ≡ false
each-fails test xs n x i = fails (test x) (λ t. true≢false (sym (passes-any test i t) ∙ n))

-- what it says that one comes before another
abbrev Before : Candidate → Candidate → Type 0
Before a b = (b.rank < a.rank) ⊎ ((b.rank ≡ a.rank) × (a.cookie < b.cookie))

either : (b c : Bool) → (b || c) ≡ true → (b ≡ true) ⊎ (c ≡ true)
either true c e = inl refl
either false c e = inr e

is-before : (a b : Candidate) → is_before a b ≡ true → Before a b
is-before a b t = by (either (nat_lt b.rank a.rank) ((b.rank == a.rank) && nat_lt a.cookie b.cookie) t)
  where
    by : (nat_lt b.rank a.rank ≡ true) ⊎ (((b.rank == a.rank) && nat_lt a.cookie b.cookie) ≡ true) → Before a b
    by (inl l) = inl (ltb-true b.rank a.rank l)
    by (inr e) = let s = split_and (b.rank == a.rank) (nat_lt a.cookie b.cookie) e in
        inr (eqb-true b.rank a.rank s.0, ltb-true a.cookie b.cookie s.1)

right-true : (b c : Bool) → c ≡ true → (b || c) ≡ true
right-true true c e = refl
right-true false c e = e

before-is : (a b : Candidate) → Before a b → is_before a b ≡ true
before-is a b (inl l) = ap (λ z. z || ((b.rank == a.rank) && nat_lt a.cookie b.cookie)) (lt-ltb b.rank a.rank l)
before-is a b (inr e) =
    right-true (nat_lt b.rank a.rank) ((b.rank == a.rank) && nat_lt a.cookie b.cookie)
    (join_and (b.rank == a.rank) (nat_lt a.cookie b.cookie) (eq-eqb b.rank a.rank e.0) (lt-ltb a.cookie b.cookie e.1))

before-itself : (a : Candidate) → is_before a a ≡ false
before-itself a = fails (is_before a a) (λ t. by (is-before a a t))
  where
    by : Before a a → ⊥
    by (inl l) = omega arith
    by (inr e) = let l : a.cookie < a.cookie = e.1 in omega arith

before-before : (a b c : Candidate) → Before a b → Before b c → Before a c
before-before a b c (inl l) (inl m) = inl (omega arith)
before-before a b c (inl l) (inr e) = let s : c.rank ≡ b.rank = e.0 in inl (omega arith)
before-before a b c (inr e) (inl m) = let s : b.rank ≡ a.rank = e.0 in inl (omega arith)
before-before a b c (inr e) (inr f) =
    let s : b.rank ≡ a.rank = e.0 in
    let t : c.rank ≡ b.rank = f.0 in
    let l : a.cookie < b.cookie = e.1 in
    let m : b.cookie < c.cookie = f.1 in
    inr (t ∙ s, omega arith)

-- one candidate more
module _ (cs : List Candidate) (y : Candidate) where
  abbrev more : List Candidate
  more = cs ++ y ∷ []

  alone : cs ≡ [] → IsLeading more y
  alone n = record {
    stands = place y more (in-right cs (y ∷ []) here);
    none_before = none-passes (λ d. is_before d y) more (λ d i. by d (in-either cs (y ∷ []) i));
  }
    where
      by : (d : Candidate) → IsIn d cs ⊎ IsIn d (y ∷ []) → is_before d y ≡ false
      by d (inl i) = no-items (subst (IsIn d) n i)
      by d (inr i) = ap (λ z. is_before z y) (in-one i) ∙ before-itself y

  module _ (x : Candidate) (l : IsLeading cs x) where
    takes-over : is_before y x ≡ true → IsLeading more y
    takes-over t = record {
      stands = place y more (in-right cs (y ∷ []) here);
      none_before = none-passes (λ d. is_before d y) more (λ d i. by d (in-either cs (y ∷ []) i));
    }
      where
        by : (d : Candidate) → IsIn d cs ⊎ IsIn d (y ∷ []) → is_before d y ≡ false
        by d (inl i) =
            fails (is_before d y) (λ u.
            let ahead = before-is d x (before-before d y x (is-before d y u) (is-before y x t)) in
            true≢false (sym ahead ∙ each-fails (λ z. is_before z x) cs l.none_before d i))
        by d (inr i) = ap (λ z. is_before z y) (in-one i) ∙ before-itself y

    stays : is_before y x ≡ false → IsLeading more x
    stays f = record {
      stands = place x more (in-left (y ∷ []) (from-place x cs l.stands));
      none_before = none-passes (λ d. is_before d x) more (λ d i. by d (in-either cs (y ∷ []) i));
    }
      where
        by : (d : Candidate) → IsIn d cs ⊎ IsIn d (y ∷ []) → is_before d x ≡ false
        by d (inl i) = each-fails (λ z. is_before z x) cs l.none_before d i
        by d (inr i) = ap (λ z. is_before z x) (in-one i) ∙ f

    of-two : (b : Bool) → is_before y x ≡ b → IsLeading more (if b then y else x)
    of-two true t = takes-over t
    of-two false t = stays t

  one-more : (best : Option Candidate) → Leads cs best → Leads more (before best (Some y))
  one-more None n = alone n
  one-more (Some x) l = of-two x l (is_before y x) refl

before-none : (best : Option Candidate) → before best None ≡ best
before-none None = refl
before-none (Some x) = refl

pub leads-more : (cs : List Candidate) (best o : Option Candidate) → Leads cs best
    → Leads (cs ++ option_to_list o) (before best o)
leads-more cs best (Some y) l = one-more cs y best l
leads-more cs best None l = subst (λ b. Leads (cs ++ []) b) (sym (before-none best))
    (subst (λ xs. Leads xs best) (sym (append-nil cs)) l)

-- what stands of a slot, by its first entry
pub top-of : (s : Slot) (e : PhysEntry) → head s.entries ≡ Some e
    → top s ≡ Some (record { entry = e; cookie = s.cookie })
top-of s e t = by s.entries t
  where
    by : (es : List PhysEntry) → head es ≡ Some e → first es s.cookie ≡ Some (record { entry = e; cookie = s.cookie })
    by [] t = none-some t
    by (d ∷ ds) t = ap (λ (z : PhysEntry). Some (record { entry = z; cookie = s.cookie })) (some_injective t)

-- the candidate of one key more
pub leads-next : (slots : Slots) (h : HeaderOf) (keys : List Key) (i : ℕ) (k : Key) (best : Option Candidate)
    → i < length keys → k ≡ get_or keys i k
    → Leads (candidates slots h (take i keys)) best
    → Leads (candidates slots h (take (i + 1) keys)) (before best (candidate_at slots h k))
leads-next slots h keys i k best lt is l =
    let each = λ (q : Key). option_to_list (candidate_at slots h q) in
    let last : each (get_or keys i k) ++ [] ≡ each k = append-nil (each (get_or keys i k)) ∙ ap each (sym is) in
    let all = ap (flat_map each) (take_more keys i k lt)
    ∙ (flat_map-append each (take i keys) (get_or keys i k ∷ [])
    ∙ ap (λ (cs : List Candidate). flat_map each (take i keys) ++ cs) last) in
    subst (λ (cs : List Candidate). Leads cs (before best (candidate_at slots h k))) (sym all)
    (leads-more (candidates slots h (take i keys)) best (candidate_at slots h k) l)

-- of all keys
pub leads-all : (slots : Slots) (h : HeaderOf) (keys : List Key) (i : ℕ) (best : Option Candidate) → length keys ≤ i
    → Leads (candidates slots h (take i keys)) best → Leads (candidates slots h keys) best
leads-all slots h keys i best le l = subst (λ (ks : List Key). Leads (candidates slots h ks) best) (take_all i keys le)
    l

-- what stands of slots, and their candidates
module _ (slots saved : Slots) (numbers : Numbers) (h : HeaderOf) (keys : List Key) (kept : AreKept slots saved)
    (known : AreKnown numbers slots) (held : AreHeld numbers h keys) where
  abbrev standing : List Written
  standing = (table_by as_is slots).standing

  abbrev cs : List Candidate
  cs = candidates slots h keys

  of-option : {A : Type 0} {x : A} (o : Option A) → IsIn x (option_to_list o) → o ≡ Some x
  of-option None i = no-items i
  of-option (Some y) i = ap Some (sym (in-one i))

  first-in : (es : List PhysEntry) (n : ℕ) (w : Written) → first es n ≡ Some w → IsIn w.entry es
  first-in [] n w e = none-some e
  first-in (d ∷ ds) n w e = subst (λ (z : Written). IsIn z.entry (d ∷ ds)) (some_injective e) here

  -- what stands and holds the header is a candidate
  record Weighed (v : Written) : Type 0 where
    key : Key
    stands : IsIn (candidate_of key v) cs

  weighed : (v : Written) → IsIn v standing → is_holding h v ≡ true → Weighed v
  weighed v i t =
      let s = flat-in (λ (p : Key × Slot). option_to_list (top p.1)) v slots i in
      let k = s.from.0 in
      let is : top s.from.1 ≡ Some v = of-option (top s.from.1) s.has in
      let at : slot_at k slots ≡ Some s.from.1 = in-found k s.from.1 slots kept.rise s.stands in
      let fits = in-all (λ (d : PhysEntry). (key_of d ≡ k) × IsMatch d.m)
      (first-in s.from.1.entries s.from.1.cookie v is) (in-all Fits s.stands kept.fit).keys in
      let listed =
      from-place k keys (held k v.entry.m (known k (some-found k slots s.from.1 at))
      (ap (λ (z : Key). z.bytes) (sym fits.0)) fits.1 t) in
      let found : standing_at slots k ≡ Some v = ap (λ o. option_and_then top o) at ∙ is in
      let one : candidate_at slots h k ≡ Some (candidate_of k v) =
      ap (λ o. option_and_then (candidate_if h k) o) found ∙ ap (λ b. cond b (Some (candidate_of k v)) None) t in
      record {
        key = k;
        stands = in-flat (λ q. option_to_list (candidate_at slots h q)) listed
            (subst (λ o. IsIn (candidate_of k v) (option_to_list o)) (sym one) here);
      }

  pub none-holds : Leads cs None → list_any (is_holding h) standing ≡ false
  none-holds n = none-passes (is_holding h) standing
      (λ v i. fails (is_holding h v) (λ t. let c = weighed v i t in
      no-items (subst (IsIn (candidate_of c.key v)) n c.stands)))

  -- where a candidate is from
  record From (c : Candidate) : Type 0 where
    entry : Written
    found : standing_at slots c.key ≡ Some entry
    holds_it : is_holding h entry ≡ true
    is : candidate_of c.key entry ≡ c

  from-if : (c : Candidate) (k : Key) (w : Written) → standing_at slots k ≡ Some w → (b : Bool) → is_holding h w ≡ b
      → cond b (Some (candidate_of k w)) None ≡ Some c → From c
  from-if c k w e true t is =
      let same : candidate_of k w ≡ c = some_injective is in
      let key : k ≡ c.key = ap (λ (z : Candidate). z.key) same in
      record {
        entry = w;
        found = ap (standing_at slots) (sym key)
            ∙ e;
        holds_it = t;
        is = ap (λ z. candidate_of z w) (sym key) ∙ same;
      }
  from-if c k w e false t is = none-some is

  from-key : (c : Candidate) (k : Key) (o : Option Written) → standing_at slots k ≡ o
      → option_and_then (candidate_if h k) o ≡ Some c → From c
  from-key c k None e is = none-some is
  from-key c k (Some w) e is = from-if c k w e (is_holding h w) refl is

  from : (c : Candidate) → IsIn c cs → From c
  from c i =
      let s = flat-in (λ k. option_to_list (candidate_at slots h k)) c keys i in
      from-key c s.from (standing_at slots s.from) refl (of-option (candidate_at slots h s.from) s.has)

  stands-at : (k : Key) (w : Written) (o : Option Slot) → slot_at k slots ≡ o → option_and_then top o ≡ Some w
      → IsIn w standing
  stands-at k w None e is = none-some is
  stands-at k w (Some s) e is =
      in-flat (λ (p : Key × Slot). option_to_list (top p.1)) (found-in k s slots e)
      (subst (λ o. IsIn w (option_to_list o)) (sym is) here)

  pub first-holds : (c : Candidate) → Leads cs (Some c) → IsBest h standing (standing_at slots c.key)
  first-holds c l =
      let f = from c (from-place c cs l.stands) in
      subst (IsBest h standing) (sym f.found) (record {
        stands = place f.entry standing (stands-at c.key f.entry (slot_at c.key slots) refl f.found);
        holds_it = f.holds_it;
        none_above = none-passes (λ v. is_holding h v && is_above v f.entry) standing
            (λ v i. fails (is_holding h v && is_above v f.entry) (λ t. above f v i t));
      })
    where
      above : (f : From c) (v : Written) → IsIn v standing → (is_holding h v && is_above v f.entry) ≡ true → ⊥
      above f v i t =
          let s = split_and (is_holding h v) (is_above v f.entry) t in
          let w = weighed v i s.0 in
          let over : is_before (candidate_of w.key v) c ≡ true = ap (is_before (candidate_of w.key v)) (sym f.is)
          ∙ s.1 in
          true≢false (sym over ∙ each-fails (λ z. is_before z c) cs l.none_before (candidate_of w.key v) w.stands)
