-- The members of an expression that was read: they are of its virtual switch, and those of left operands of `+` only
-- output or send to themselves.
use Rattle.std.proofs.Common.{◌≡◌, ◌∙◌, ℕ, ◌+◌, Bool, true, false, true≢false, not, ◌&&◌, List, [], ◌∷◌, ◌++◌, length}
use Rattle.std.proofs.Common.{map, Option, Some, None, Ok, arith, refl, sym, ap, ap₂, subst}
use Rattle.std.specs.Prelude.{if◌then◌else◌, nat_lt, option_map}
use Rattle.std.specs.List.{AllByRecursion}
use Rattle.policy_expr.specs.Grammar.{Derives, Strength, bare, more_atoms, more_pars, more_seqs, name_of, named}
use Rattle.policy_expr.specs.Grammar.{names_in, nested, one_atom, one_par, one_seq}
use Rattle.policy_expr.specs.Members.{first_left, first_repeated, first_unknown, first_unused, index_of, is_among}
use Rattle.policy_expr.specs.Members.{is_plain, left_leaves, same_name}
use Rattle.policy_expr.specs.Policy.{Policy, member, override, parallel, sequential}
use Rattle.policy_expr.specs.Reading.{reading}
use Rattle.policy_expr.specs.Signs.{Sign, chain, closing, fallback, opening, plus, signs_of}
use Rattle.policy_expr.specs.declared.fault.ExprFault.TheVariants.{ParallelLeft, TooMany, Twice, Unknown, Unused}
use Rattle.policy_expr.specs.declared.member.MemberName.{MemberName}
use Rattle.policy_expr.proofs.Accepted.{reading_accepted}
use Rattle.policy_meaning.specs.CentralFact.{EachLeft, EachMember}
use Rattle.virtual_topology.proofs.Counted.{neither}

-- names -------------------------------------------------------------------------------------------------------------

pub names_append : (xs ys : List Sign) → names_in (xs ++ ys) ≡ names_in xs ++ names_in ys
names_append [] ys = refl
names_append (x ∷ xs) ys =
    ap (λ ns. name_of x ++ ns) (names_append xs ys) ∙ append_three (name_of x) (names_in xs) (names_in ys)
  where
    append_three : (ls ms ns : List (List ℕ)) → ls ++ (ms ++ ns) ≡ (ls ++ ms) ++ ns
    append_three [] ms ns = refl
    append_three (l ∷ ls) ms ns = ap (λ ks. l ∷ ks) (append_three ls ms ns)

no_more : (ns : List (List ℕ)) → ns ++ [] ≡ ns
no_more [] = refl
no_more (n ∷ ns) = ap (λ ms. n ∷ ms) (no_more ns)

pub in_nested : (signs : List Sign) → names_in (opening ∷ (signs ++ closing ∷ [])) ≡ names_in signs
in_nested signs = names_append signs (closing ∷ []) ∙ no_more (names_in signs)

all_parts : {X : Type 0} (P : X → Type 0) (xs ys : List X) → AllByRecursion P (xs ++ ys)
    → AllByRecursion P xs × AllByRecursion P ys
all_parts P [] ys h = (tt, h)
all_parts P (x ∷ xs) ys h = let r = all_parts P xs ys h.1 in ((h.0, r.0), r.1)

-- the first member of a name that is there
found : (P : ℕ → Type 0) (members : List MemberName) (n : List ℕ)
    → AllByRecursion (λ (m : MemberName). P m.index) members
    → is_among (map (λ (m : MemberName). m.name) members) n ≡ true → P (index_of members n)
found P [] n h e = absurd (true≢false (sym e))
found P (m ∷ ms) n h e = by (same_name m.name n) e (found P ms n h.1)
  where
    by : (b : Bool) → (if b then true else is_among (map (λ (m : MemberName). m.name) ms) n) ≡ true
        → (is_among (map (λ (m : MemberName). m.name) ms) n ≡ true → P (index_of ms n))
        → P (if b then m.index else index_of ms n)
    by true t f = h.0
    by false t f = f t

-- a member that is plain is such
abbrev pub IfPlain : (ℕ → Type 0) → MemberName → Type 0
IfPlain P m = m.plain ≡ true → P m.index

found_plain : (P : ℕ → Type 0) (members : List MemberName) (n : List ℕ) → AllByRecursion (IfPlain P) members
    → is_among (map (λ (m : MemberName). m.name) members) n ≡ true → is_plain members n ≡ true
    → P (index_of members n)
found_plain P [] n h e p = absurd (true≢false (sym e))
found_plain P (m ∷ ms) n h e p = by (same_name m.name n) e p (found_plain P ms n h.1)
  where
    by : (b : Bool) → (if b then true else is_among (map (λ (m : MemberName). m.name) ms) n) ≡ true
        → (if b then m.plain else is_plain ms n) ≡ true
        → (is_among (map (λ (m : MemberName). m.name) ms) n ≡ true → is_plain ms n ≡ true → P (index_of ms n))
        → P (if b then m.index else index_of ms n)
    by true t q f = h.0 q
    by false t q f = f t q

-- names that all are there
abbrev pub Known : List MemberName → List ℕ → Type 0
Known members n = is_among (map (λ (m : MemberName). m.name) members) n ≡ true

pub all_known : (members : List MemberName) (ns : List (List ℕ)) → first_unknown members ns ≡ None
    → AllByRecursion (Known members) ns
all_known members [] e = tt
all_known members (n ∷ ns) e =
    by (is_among (map (λ (m : MemberName). m.name) members) n) refl e (all_known members ns)
  where
    by : (b : Bool) → is_among (map (λ (m : MemberName). m.name) members) n ≡ b
        → (if b then first_unknown members ns else Some n) ≡ None
        → (first_unknown members ns ≡ None → AllByRecursion (Known members) ns)
        → AllByRecursion (Known members) (n ∷ ns)
    by true t q f = (t, f q)
    by false t q f = absurd (cc)

known_at : (members : List MemberName) (left right : List Sign) (op : Sign) → name_of op ≡ []
    → AllByRecursion (Known members) (names_in (left ++ op ∷ right))
    → AllByRecursion (Known members) (names_in left) × AllByRecursion (Known members) (names_in right)
known_at members left right op none k =
    all_parts (Known members) (names_in left) (names_in right)
    (subst (AllByRecursion (Known members))
    (names_append left (op ∷ right) ∙ ap (λ ns. names_in left ++ (ns ++ names_in right)) none) k)

-- trees -------------------------------------------------------------------------------------------------------------

-- each member of a tree is one of those that were named
each_named : (P : ℕ → Type 0) (members : List MemberName) → AllByRecursion (λ (m : MemberName). P m.index) members
    → (depth : ℕ) (st : Strength) (signs : List Sign) (p : Policy) → Derives members depth st signs p
    → AllByRecursion (Known members) (names_in signs) → EachMember P p
each_named P members h _ _ _ _ (named depth n) k = found P members n h k.0
each_named P members h _ _ _ _ (nested depth inner p d) k =
    each_named P members h _ _ inner p d (subst (AllByRecursion (Known members)) (in_nested inner) k)
each_named P members h _ _ _ _ (one_atom depth signs p d) k = each_named P members h _ _ signs p d k
each_named P members h _ _ _ _ (one_seq depth signs p d) k = each_named P members h _ _ signs p d k
each_named P members h _ _ _ _ (one_par depth signs p d) k = each_named P members h _ _ signs p d k
each_named P members h _ _ _ _ (more_atoms depth left right a b d e) k =
    let parts = known_at members left right chain refl k in
    (each_named P members h _ _ left a d parts.0, each_named P members h _ _ right b e parts.1)
each_named P members h _ _ _ _ (more_seqs depth left right a b d e) k =
    let parts = known_at members left right plus refl k in
    (each_named P members h _ _ left a d parts.0, each_named P members h _ _ right b e parts.1)
each_named P members h _ _ _ _ (more_pars depth left right a b d e) k =
    let parts = known_at members left right fallback refl k in
    (each_named P members h _ _ left a d parts.0, each_named P members h _ _ right b e parts.1)

-- what is said of leaves that stand in a left operand ---------------------------------------------------------------

length_both : {X : Type 0} (xs ys : List X) → length (xs ++ ys) ≡ length xs + length ys
length_both [] ys = omega arith
length_both (x ∷ xs) ys = let e = length_both xs ys in omega (arith, e)

length_joined : {X Y : Type 0} (ks ls : List X) (ms ns : List Y) → length ks ≡ length ms → length ls ≡ length ns
    → length (ks ++ ls) ≡ length (ms ++ ns)
length_joined ks ls ms ns e f =
    length_both ks ls ∙ (ap₂ (λ (a b : ℕ). a + b) e f ∙ sym (length_both ms ns))

-- a name for each leaf
as_many : (members : List MemberName) (depth : ℕ) (st : Strength) (signs : List Sign) (p : Policy)
    → Derives members depth st signs p → (inside : Bool) → length (left_leaves inside p) ≡ length (names_in signs)
as_many members _ _ _ _ (named depth n) inside = refl
as_many members _ _ _ _ (nested depth inner p d) inside =
    as_many members _ _ inner p d inside ∙ ap length (sym (in_nested inner))
as_many members _ _ _ _ (one_atom depth signs p d) inside = as_many members _ _ signs p d inside
as_many members _ _ _ _ (one_seq depth signs p d) inside = as_many members _ _ signs p d inside
as_many members _ _ _ _ (one_par depth signs p d) inside = as_many members _ _ signs p d inside
as_many members _ _ _ _ (more_atoms depth left right a b d e) inside =
    length_joined (left_leaves inside a) (left_leaves inside b) (names_in left) (names_in right)
    (as_many members _ _ left a d inside) (as_many members _ _ right b e inside)
    ∙ ap length (sym (names_append left (chain ∷ right)))
as_many members _ _ _ _ (more_seqs depth left right a b d e) inside =
    length_joined (left_leaves true a) (left_leaves inside b) (names_in left) (names_in right)
    (as_many members _ _ left a d true) (as_many members _ _ right b e inside)
    ∙ ap length (sym (names_append left (plus ∷ right)))
as_many members _ _ _ _ (more_pars depth left right a b d e) inside =
    length_joined (left_leaves inside a) (left_leaves inside b) (names_in left) (names_in right)
    (as_many members _ _ left a d inside) (as_many members _ _ right b e inside)
    ∙ ap length (sym (names_append left (fallback ∷ right)))

-- no leaf is refused among these and those
split_left : (members : List MemberName) (ks ls : List Bool) (ms ns : List (List ℕ)) → length ks ≡ length ms
    → first_left members (ks ++ ls) (ms ++ ns) ≡ None
    → (first_left members ks ms ≡ None) × (first_left members ls ns ≡ None)
split_left members [] ls [] ns e h = (refl, h)
split_left members [] ls (m ∷ ms) ns e h = absurd (omega (arith, e))
split_left members (k ∷ ks) ls [] ns e h = absurd (omega (arith, e))
split_left members (k ∷ ks) ls (m ∷ ms) ns e h =
    by (k && not (is_plain members m)) h (split_left members ks ls ms ns (omega (arith, e)))
  where
    by : (b : Bool) → (if b then Some m else first_left members (ks ++ ls) (ms ++ ns)) ≡ None
        → (first_left members (ks ++ ls) (ms ++ ns) ≡ None
        → (first_left members ks ms ≡ None) × (first_left members ls ns ≡ None))
        → ((if b then Some m else first_left members ks ms) ≡ None) × (first_left members ls ns ≡ None)
    by true q f = absurd (cc)
    by false q f = f q

plain_first : (b : Bool) (n : List ℕ) → (if true && not b then Some n else None) ≡ None → b ≡ true
plain_first true n e = refl
plain_first false n e = absurd (cc)

split_at : (members : List MemberName) (depth : ℕ) (st : Strength) (left right : List Sign) (op : Sign) (a b : Policy)
    → Derives members depth st left a → (in_a in_b : Bool) → name_of op ≡ []
    → first_left members (left_leaves in_a a ++ left_leaves in_b b) (names_in (left ++ op ∷ right)) ≡ None
    → (first_left members (left_leaves in_a a) (names_in left) ≡ None)
    × (first_left members (left_leaves in_b b) (names_in right) ≡ None)
split_at members depth st left right op a b d in_a in_b none h =
    split_left members (left_leaves in_a a) (left_leaves in_b b) (names_in left) (names_in right)
    (as_many members depth st left a d in_a)
    (subst (λ ns. first_left members (left_leaves in_a a ++ left_leaves in_b b) ns ≡ None)
    (names_append left (op ∷ right) ∙ ap (λ ns. names_in left ++ (ns ++ names_in right)) none) h)

module _ (Q : ℕ → Type 0) (members : List MemberName) (h : AllByRecursion (IfPlain Q) members) where
  -- where all leaves stand in a left operand, all are plain
  all_plain : (depth : ℕ) (st : Strength) (signs : List Sign) (p : Policy) → Derives members depth st signs p
      → AllByRecursion (Known members) (names_in signs)
      → first_left members (left_leaves true p) (names_in signs) ≡ None → EachMember Q p
  all_plain _ _ _ _ (named depth n) k e = found_plain Q members n h k.0 (plain_first (is_plain members n) n e)
  all_plain _ _ _ _ (nested depth inner p d) k e =
      all_plain _ _ inner p d (subst (AllByRecursion (Known members)) (in_nested inner) k)
      (subst (λ ns. first_left members (left_leaves true p) ns ≡ None) (in_nested inner) e)
  all_plain _ _ _ _ (one_atom depth signs p d) k e = all_plain _ _ signs p d k e
  all_plain _ _ _ _ (one_seq depth signs p d) k e = all_plain _ _ signs p d k e
  all_plain _ _ _ _ (one_par depth signs p d) k e = all_plain _ _ signs p d k e
  all_plain _ _ _ _ (more_atoms depth left right a b d f) k e =
      let ks = known_at members left right chain refl k in
      let es = split_at members _ _ left right chain a b d true true refl e in
      (all_plain _ _ left a d ks.0 es.0, all_plain _ _ right b f ks.1 es.1)
  all_plain _ _ _ _ (more_seqs depth left right a b d f) k e =
      let ks = known_at members left right plus refl k in
      let es = split_at members _ _ left right plus a b d true true refl e in
      (all_plain _ _ left a d ks.0 es.0, all_plain _ _ right b f ks.1 es.1)
  all_plain _ _ _ _ (more_pars depth left right a b d f) k e =
      let ks = known_at members left right fallback refl k in
      let es = split_at members _ _ left right fallback a b d true true refl e in
      (all_plain _ _ left a d ks.0 es.0, all_plain _ _ right b f ks.1 es.1)

  lefts_of : (p : Policy) → EachMember Q p → EachLeft Q p
  lefts_of (member i) q = tt
  lefts_of (parallel a b) q = (q.0, lefts_of a q.0, lefts_of b q.1)
  lefts_of (sequential a b) q = (lefts_of a q.0, lefts_of b q.1)
  lefts_of (override a b) q = (lefts_of a q.0, lefts_of b q.1)

  -- and so are those of left operands in any tree
  each_left : (depth : ℕ) (st : Strength) (signs : List Sign) (p : Policy) → Derives members depth st signs p
      → AllByRecursion (Known members) (names_in signs)
      → first_left members (left_leaves false p) (names_in signs) ≡ None → EachLeft Q p
  each_left _ _ _ _ (named depth n) k e = tt
  each_left _ _ _ _ (nested depth inner p d) k e =
      each_left _ _ inner p d (subst (AllByRecursion (Known members)) (in_nested inner) k)
      (subst (λ ns. first_left members (left_leaves false p) ns ≡ None) (in_nested inner) e)
  each_left _ _ _ _ (one_atom depth signs p d) k e = each_left _ _ signs p d k e
  each_left _ _ _ _ (one_seq depth signs p d) k e = each_left _ _ signs p d k e
  each_left _ _ _ _ (one_par depth signs p d) k e = each_left _ _ signs p d k e
  each_left _ _ _ _ (more_atoms depth left right a b d f) k e =
      let ks = known_at members left right chain refl k in
      let es = split_at members _ _ left right chain a b d false false refl e in
      (each_left _ _ left a d ks.0 es.0, each_left _ _ right b f ks.1 es.1)
  each_left _ _ _ _ (more_seqs depth left right a b d f) k e =
      let ks = known_at members left right plus refl k in
      let es = split_at members _ _ left right plus a b d true false refl e in
      let all = all_plain _ _ left a d ks.0 es.0 in
      (all, lefts_of a all, each_left _ _ right b f ks.1 es.1)
  each_left _ _ _ _ (more_pars depth left right a b d f) k e =
      let ks = known_at members left right fallback refl k in
      let es = split_at members _ _ left right fallback a b d false false refl e in
      (each_left _ _ left a d ks.0 es.0, each_left _ _ right b f ks.1 es.1)

-- what was read -----------------------------------------------------------------------------------------------------

pub no_option : {A B : Type 0} (f : A → B) (o : Option A) → option_map f o ≡ None → o ≡ None
no_option f None e = refl
no_option f (Some x) e = absurd (cc)

pub members_read : (P : ℕ → Type 0) (members : List MemberName) (text : List ℕ) (p : Policy)
    → AllByRecursion (λ (m : MemberName). P m.index) members → reading members text ≡ Ok p → EachMember P p
members_read P members text p h e =
    let a = reading_accepted members text p e in
    let ns = names_in (bare (signs_of text)) in
    let first = neither (option_map Unknown (first_unknown members ns)) _ a.rules in
    each_named P members h _ _ (bare (signs_of text)) p a.expression.derives
    (all_known members ns (no_option Unknown (first_unknown members ns) first.0))

pub lefts_read : (Q : ℕ → Type 0) (members : List MemberName) (text : List ℕ) (p : Policy)
    → AllByRecursion (IfPlain Q) members → reading members text ≡ Ok p → EachLeft Q p
lefts_read Q members text p h e =
    let a = reading_accepted members text p e in
    let ns = names_in (bare (signs_of text)) in
    let first = neither (option_map Unknown (first_unknown members ns)) _ a.rules in
    let second = neither (option_map Twice (first_repeated [] ns)) _ first.1 in
    let third = neither (option_map Unused (first_unused ns members)) _ second.1 in
    let fourth = neither (if nat_lt 12 (length ns) then Some (TooMany (length ns)) else None) _ third.1 in
    each_left Q members h _ _ (bare (signs_of text)) p a.expression.derives
    (all_known members ns (no_option Unknown (first_unknown members ns) first.0))
    (no_option ParallelLeft (first_left members (left_leaves false p) ns) fourth.1)
