-- Rules of lists, each two of which are disjoint.
use Rattle.std.proofs.Common.{◌≡◌, ℕ, true, false, ◌⊎◌, inl, inr, List, [], ◌∷◌, ◌++◌, Option, Some, None, refl, ap}
use Rattle.std.proofs.Common.{◌∙◌, sym, eq-eqb, append_assoc}
use Rattle.std.specs.Prelude.{flat_map, filter_map, unwrap_or}
use Rattle.std.specs.List.{AllByRecursion, cons_option}
use Rattle.cv_io.specs.declared.leaf.Leaf.{Leaf}
use Rattle.of10_match.specs.Fields.{HeaderOf, MatchOf}
use Rattle.of10_match.specs.Matching.{both, fits, fits_prefix, holds, overlaps}
use Rattle.of10_match.specs.declared.header.Prefix.{Prefix}
use Rattle.of10_match.proofs.MeetSelf.{overlaps_self}
use Rattle.of10_match.proofs.Twelve.{each-intro}
use Rattle.policy_meaning.specs.Disjoint.{AreDisjoint, Begins, DisjointRulesDiffer}
use Rattle.policy_meaning.specs.LeafFact.{EachPair}
use Rattle.policy_meaning.specs.declared.rule.Rule.{Rule}
use Rattle.policy_meaning.proofs.Booleans.{fails, true_not_false}
use Rattle.policy_meaning.proofs.Lists.{add-none, all-append, all-each, all-filter_map}
use Rattle.policy_meaning.proofs.Meeting.{meet_holds, meet_there}

-- a header that a match holds
address : Option Prefix → ℕ
address None = 0
address (Some p) = p.addr

abbrev sample : MatchOf → HeaderOf
sample m = record {
  in_port = unwrap_or m.in_port 0;
  dl_src = unwrap_or m.dl_src 0;
  dl_dst = unwrap_or m.dl_dst 0;
  dl_vlan = unwrap_or m.dl_vlan 0;
  dl_vlan_pcp = unwrap_or m.dl_vlan_pcp 0;
  dl_type = unwrap_or m.dl_type 0;
  nw_tos = unwrap_or m.nw_tos 0;
  nw_proto = unwrap_or m.nw_proto 0;
  nw_src = address m.nw_src;
  nw_dst = address m.nw_dst;
  tp_src = unwrap_or m.tp_src 0;
  tp_dst = unwrap_or m.tp_dst 0;
}

fits-value : (o : Option ℕ) → fits o (unwrap_or o 0) ≡ true
fits-value None = refl
fits-value (Some v) = eq-eqb v v refl

fits-address : (o : Option Prefix) → fits_prefix o (address o) ≡ true
unfolding address
fits-address None = refl
fits-address (Some p) = eq-eqb _ _ refl

holds-sample : (m : MatchOf) → holds m (sample m) ≡ true
holds-sample m =
    each-intro _ _ _ _ _ _ _ _ _ _ _ _
    (record {
      at_a = fits-value m.in_port;
      at_b = fits-value m.dl_src;
      at_c = fits-value m.dl_dst;
      at_d = fits-value m.dl_vlan;
      at_e = fits-value m.dl_vlan_pcp;
      at_f = fits-value m.dl_type;
      at_g = fits-value m.nw_tos;
      at_h = fits-value m.nw_proto;
      at_i = fits-address m.nw_src;
      at_j = fits-address m.nw_dst;
      at_k = fits-value m.tp_src;
      at_l = fits-value m.tp_dst;
    })

-- a header of both of two matches that overlap
pub record InBoth (m n : MatchOf) : Type 0 where
  pub header : HeaderOf
  pub left : holds m header ≡ true
  pub right : holds n header ≡ true

pub overlapping : (m n : MatchOf) → overlaps m n ≡ true → InBoth m n
overlapping m n o = let w = meet_holds m n (sample (both m n)) (holds-sample (both m n)) o in
    record { header = sample (both m n); left = w.0; right = w.1 }

-- where no header is in both of two, none is in both of two narrower ones
pub narrower : (k : HeaderOf → HeaderOf) (m n p q : MatchOf)
    → ((h : HeaderOf) → holds p h ≡ true → holds m (k h) ≡ true)
    → ((h : HeaderOf) → holds q h ≡ true → holds n (k h) ≡ true) → overlaps m n ≡ false → overlaps p q ≡ false
narrower k m n p q f g o =
    fails (overlaps p q) (λ t. let w = overlapping p q t in
    true_not_false (sym (meet_there m n (k w.header) (f w.header w.left) (g w.header w.right)).1 ∙ o))

pub differ : DisjointRulesDiffer
differ a b d same e =
    true_not_false (sym (overlaps_self a.m)
    ∙ (ap (λ (m : MatchOf). overlaps a.m m) e ∙ d.first ([], same ∙ add-none b.ancestry)))

-- of two lists that one list begins with, one begins with the other
tails : {x y : Leaf} {xs ys : List Leaf} → x ∷ xs ≡ y ∷ ys → xs ≡ ys
tails e = cc

pub heads : {x y : Leaf} {xs ys : List Leaf} → x ∷ xs ≡ y ∷ ys → x ≡ y
heads e = cc

pub either-begins : (xs ys us vs : List Leaf) → xs ++ us ≡ ys ++ vs → Begins xs ys ⊎ Begins ys xs
either-begins [] ys us vs e = inr (ys, refl)
either-begins (x ∷ xs) [] us vs e = inl (x ∷ xs, refl)
either-begins (x ∷ xs) (y ∷ ys) us vs e = by (either-begins xs ys us vs (tails e))
  where
    by : Begins xs ys ⊎ Begins ys xs → Begins (x ∷ xs) (y ∷ ys) ⊎ Begins (y ∷ ys) (x ∷ xs)
    by (inl b) = inl (b.0, let h : x ≡ y = heads e in let t = b.1 in λ i. h i ∷ t i)
    by (inr b) = inr (b.0, let h : y ≡ x = sym (heads e) in let t = b.1 in λ i. h i ∷ t i)

-- what follows a common front
pub cancelled : (xs ys zs : List Leaf) → xs ++ ys ≡ xs ++ zs → ys ≡ zs
cancelled [] ys zs e = e
cancelled (x ∷ xs) ys zs e = cancelled xs ys zs (tails e)

-- where one of two rules begins with the other they are disjoint
disjoint-either : (a b : Rule) → AreDisjoint a b → Begins a.ancestry b.ancestry ⊎ Begins b.ancestry a.ancestry
    → overlaps a.m b.m ≡ false
disjoint-either a b d (inl f) = d.first f
disjoint-either a b d (inr f) = d.second f

-- a rule is made of one, and perhaps of more leaves: it holds headers of that one alone
pub record IsMadeOf (x c : Rule) : Type 0 where
  pub more : List Leaf
  pub leaves : c.ancestry ≡ x.ancestry ++ more
  pub within : (h : HeaderOf) → holds c.m h ≡ true → holds x.m h ≡ true

-- what is made of two disjoint rules is disjoint
pub made-disjoint : (x y c d : Rule) → AreDisjoint x y → IsMadeOf x c → IsMadeOf y d → AreDisjoint c d
made-disjoint x y c d apart p q = record {
  first =
      λ b. under (either-begins x.ancestry y.ancestry p.more (q.more ++ b.0)
      (sym p.leaves ∙ (b.1 ∙ (ap (λ zs. zs ++ b.0) q.leaves ∙ append_assoc y.ancestry q.more b.0))));
  second =
      λ b. under (either-begins x.ancestry y.ancestry (p.more ++ b.0) q.more
      (sym (sym q.leaves ∙ (b.1 ∙ (ap (λ zs. zs ++ b.0) p.leaves ∙ append_assoc x.ancestry p.more b.0)))));
}
  where
    under : Begins x.ancestry y.ancestry ⊎ Begins y.ancestry x.ancestry → overlaps c.m d.m ≡ false
    under e = narrower (λ h. h) x.m y.m c.m d.m p.within q.within (disjoint-either x y apart e)

-- a rule is made of one rule and then of another, whose headers it holds once they are changed
pub record IsMadeAfter (front : List Leaf) (k : HeaderOf → HeaderOf) (x c : Rule) : Type 0 where
  pub leaves : c.ancestry ≡ front ++ x.ancestry
  pub within : (h : HeaderOf) → holds c.m h ≡ true → holds x.m (k h) ≡ true

pub after-disjoint : (front : List Leaf) (k : HeaderOf → HeaderOf) (x y c d : Rule) → AreDisjoint x y
    → IsMadeAfter front k x c → IsMadeAfter front k y d → AreDisjoint c d
after-disjoint front k x y c d apart p q = record {
  first =
      λ b. under
      (apart.first (
        b.0,
        cancelled front x.ancestry (y.ancestry ++ b.0)
            (sym p.leaves ∙ (b.1 ∙ (ap (λ zs. zs ++ b.0) q.leaves ∙ append_assoc front y.ancestry b.0))),
      ));
  second =
      λ b. under
      (apart.second (
        b.0,
        cancelled front y.ancestry (x.ancestry ++ b.0)
            (sym q.leaves ∙ (b.1 ∙ (ap (λ zs. zs ++ b.0) p.leaves ∙ append_assoc front x.ancestry b.0))),
      ));
}
  where
    under : overlaps x.m y.m ≡ false → overlaps c.m d.m ≡ false
    under o = narrower k x.m y.m c.m d.m p.within q.within o

-- lists of which each two items are such
module _ {A : Type 0} (R : A → A → Type 0) where
  pub pairs-append : (xs ys : List A) → EachPair R xs → EachPair R ys → AllByRecursion (λ x. AllByRecursion (R x) ys) xs
      → EachPair R (xs ++ ys)
  pairs-append [] ys p q c = q
  pairs-append (x ∷ xs) ys p q c = (all-append (R x) xs ys p.0 c.0, pairs-append xs ys p.1 q c.1)

module _ {A B : Type 0} (R : A → A → Type 0) (S : B → B → Type 0) where
  -- of what each makes, where G holds of each
  module _ (G : A → Type 0) (g : A → List B) (each : (x : A) → G x → EachPair S (g x)) (cross : (x y : A) → G x → G y
      → R x y → AllByRecursion (λ c. AllByRecursion (S c) (g y)) (g x)) where
    against : (x : A) (ys : List A) → G x → AllByRecursion G ys → AllByRecursion (R x) ys
        → AllByRecursion (λ c. AllByRecursion (S c) (flat_map g ys)) (g x)
    against x [] gx gs r = all-each (λ c. AllByRecursion (S c) []) (g x) (λ c. tt)
    against x (y ∷ ys) gx gs r =
        both-lists (g x) (cross x y gx gs.0 r.0) (against x ys gx gs.1 r.1)
      where
        both-lists : (cs : List B) → AllByRecursion (λ c. AllByRecursion (S c) (g y)) cs
            → AllByRecursion (λ c. AllByRecursion (S c) (flat_map g ys)) cs
            → AllByRecursion (λ c. AllByRecursion (S c) (g y ++ flat_map g ys)) cs
        both-lists [] p q = tt
        both-lists (c ∷ cs) p q = (all-append (S c) (g y) (flat_map g ys) p.0 q.0, both-lists cs p.1 q.1)

    pub pairs-flat_map : (xs : List A) → AllByRecursion G xs → EachPair R xs → EachPair S (flat_map g xs)
    pairs-flat_map [] gs p = tt
    pairs-flat_map (x ∷ xs) gs p = pairs-append S (g x) (flat_map g xs) (each x gs.0) (pairs-flat_map xs gs.1 p.1)
        (against x xs gs.0 gs.1 p.0)

  module _ (G : A → Type 0) (f : A → Option B) (make : (x y : A) (c d : B) → G x → G y → f x ≡ Some c → f y ≡ Some d
      → R x y → S c d) where
    pairs-cons_option : (o : Option B) (ys : List B) → ((c : B) → o ≡ Some c → AllByRecursion (S c) ys) → EachPair S ys
        → EachPair S (cons_option o ys)
    pairs-cons_option None ys up p = p
    pairs-cons_option (Some c) ys up p = (up c refl, p)

    pub pairs-filter_map : (xs : List A) → AllByRecursion G xs → EachPair R xs → EachPair S (filter_map f xs)
    pairs-filter_map [] gs p = tt
    pairs-filter_map (x ∷ xs) gs p =
        pairs-cons_option (f x) (filter_map f xs)
        (λ c e. all-filter_map (λ y. G y × R x y) (S c) f xs (λ y d u q. make x y c d gs.0 q.0 e u q.1)
        (zipped xs gs.1 p.0))
        (pairs-filter_map xs gs.1 p.1)
      where
        zipped : (ys : List A) → AllByRecursion G ys → AllByRecursion (R x) ys → AllByRecursion (λ y. G y × R x y) ys
        zipped [] a b = tt
        zipped (y ∷ ys) a b = ((a.0, b.0), zipped ys a.1 b.1)
