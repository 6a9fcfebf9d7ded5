-- Levels without rules, one after the other.
use Rattle.std.proofs.Common.{◌≡◌, ℕ, zero, suc, ◌+◌, ◌*◌, ◌<◌, ◌≤◌, ◌^◌, true, List, [], ◌∷◌, ◌++◌, ◌⊎◌, inl, inr}
use Rattle.std.proofs.Common.{refl, sym, ap, ◌∙◌, subst, length, get_or, map, drop, arith}
use Rattle.std.specs.Prelude.{max}
use Rattle.std.specs.List.{AllByRecursion}
use Rattle.std.proofs.lemmas.Bool.{cases_lt}
use Rattle.std.proofs.lemmas.List.{at_drop_all, at_drop_more, get_or-map, length-append, length-map}
use Rattle.policy_meaning.specs.Hops.{Fabric, hop_size, peers_size}
use Rattle.policy_meaning.specs.declared.network.Link.{Link}
use Rattle.policy_meaning.proofs.Peers.{positive}
use Rattle.hop_rules.specs.Building.{CanBuild, CanRise, IsEmptyLevel, IsEmptyNode, IsFabric, IsRisen, arrival_stand}
use Rattle.hop_rules.specs.Building.{given_size, no_level, size_at}
use Rattle.hop_rules.specs.Handed.{GivenOf}
use Rattle.hop_rules.specs.Levels.{none_given}
use Rattle.hop_rules.specs.Links.{exit_link}
use Rattle.hop_rules.specs.declared.building.Rising.{Rising}
use Rattle.hop_rules.specs.declared.exits.Exit.{Exit}
use Rattle.hop_rules.specs.declared.exits.LinkEnd.{LinkEnd}
use Rattle.hop_rules.specs.declared.level.Level.{Level}
use Rattle.hop_rules.specs.declared.level.Stand.{Stand}
use Rattle.hop_rules.proofs.Numbering.{past-end, push-before, push-last}

module _ (f : Fabric) (es : List LinkEnd) (gs : List GivenOf) (sizes : List ℕ) (b : IsFabric f es gs sizes) where
  -- the size at the peers, by sizes that are those for n hops
  size-of : (n : ℕ) (next : List ℕ) → ((v : ℕ) → size_at next v ≡ hop_size f n v) → (v : ℕ) → v < length gs
      → size_at (map (given_size next) gs) v ≡ peers_size (hop_size f n) (f.links v)
  size-of n next same v lt =
      get_or-map (given_size next) gs v none_given 1 lt
      ∙ ap (peers_size (size_at next)) (b.links v lt)
      ∙ ap (λ (w : ℕ → ℕ). peers_size w (f.links v)) (λ i u. same u i)

  pub none-risen : (ones : List ℕ) → ((v : ℕ) → size_at ones v ≡ 1) → (r : Rising) → r.levels ≡ []
      → r.peers ≡ map (given_size ones) gs → IsRisen f es (length gs) r
  none-risen ones one r none peers = record {
    levels = λ k lt. absurd (let h = ap length none in omega arith);
    count = ap length peers ∙ length-map gs (given_size ones);
    peers = λ v lt.
        ap (λ (ps : List ℕ). size_at ps v) peers ∙ size-of 0 ones one v lt
        ∙ ap (λ (n : ℕ). peers_size (hop_size f n) (f.links v))
        (let h : 0 ≡ length r.levels = sym (ap length none) in h);
  }

  module _ (r : Rising) (risen : IsRisen f es (length gs) r) (l : Level)
      (stands : l.stands ≡ map (arrival_stand r.peers) es) (nodes : length l.nodes ≡ length l.stands)
      (empty : AllByRecursion (IsEmptyNode true) l.nodes) where
    abbrev n : ℕ
    n = length r.levels

    ports-of : (xs : List LinkEnd) → map (λ (s : Stand). s.at) (map (arrival_stand r.peers) xs)
        ≡ map (λ (e : LinkEnd). e.peer) xs
    ports-of [] = refl
    ports-of (x ∷ xs) = ap (λ z. x.peer ∷ z) (ports-of xs)

    sizes-of : (xs : List LinkEnd) → AllByRecursion (λ (e : LinkEnd). e.peer.v < length gs) xs
        → AllByRecursion (λ (s : Stand). s.size ≡ peers_size (hop_size f n) (f.links s.at.v))
        (map (arrival_stand r.peers) xs)
    sizes-of [] a = tt
    sizes-of (x ∷ xs) a = (risen.peers x.peer.v a.0, sizes-of xs a.1)

    level-empty : IsEmptyLevel f es n l
    level-empty = record {
      ports = ap (map (λ (s : Stand). s.at)) stands ∙ ports-of es;
      sizes = subst (AllByRecursion (λ (s : Stand). s.size ≡ peers_size (hop_size f n) (f.links s.at.v))) (sym stands)
          (sizes-of es b.peers);
      count = nodes;
      empty = empty;
    }

    module _ (next : List ℕ) (many : length next ≡ length sizes) (each : (v : ℕ) → v < length sizes
        → size_at next v ≡ size_at sizes v * size_at r.peers v) where
      next-size : (v : ℕ) → size_at next v ≡ hop_size f (suc n) v
      next-size v = by (cases_lt v (length sizes))
        where
          by : (v < length sizes) ⊎ (length sizes ≤ v) → size_at next v ≡ hop_size f (suc n) v
          by (inl lt) = each v lt ∙ (λ i. b.own_sizes v i * risen.peers v (let c = b.count in omega arith) i)
          by (inr le) =
              past-end 1 next v (let c = many in omega arith)
              ∙ sym (ap (λ (k : ℕ). k * peers_size (hop_size f n) (f.links v))
              (sym (b.own_sizes v) ∙ past-end 1 sizes v le)
              ∙ ap (λ (ls : List Link). 1 * peers_size (hop_size f n) ls) (b.none v (let c = b.count in omega arith)))

      pub one-more : (r' : Rising) → r'.levels ≡ r.levels ++ l ∷ [] → r'.peers ≡ map (given_size next) gs
          → IsRisen f es (length gs) r'
      one-more r' levels peers =
          let longer : length r'.levels ≡ suc n = let h = ap length levels in let k = length-append r.levels (l ∷ []) in
          omega arith in
          record {
            levels = λ k lt. subst (λ (ls : List Level). IsEmptyLevel f es k (get_or ls k no_level)) (sym levels)
                (by k (cases_lt k n) (let h = longer in omega arith));
            count = ap length peers ∙ length-map gs (given_size next);
            peers = λ v lt.
                ap (λ (ps : List ℕ). size_at ps v) peers ∙ size-of (suc n) next next-size v lt
                ∙ ap (λ (m : ℕ). peers_size (hop_size f m) (f.links v)) (sym longer);
          }
        where
          by : (k : ℕ) → (k < n) ⊎ (n ≤ k) → k < suc n → IsEmptyLevel f es k (get_or (r.levels ++ l ∷ []) k no_level)
          by k (inl lt) below = subst (IsEmptyLevel f es k) (sym (push-before no_level r.levels l k lt))
              (risen.levels k lt)
          by k (inr le) below =
              let e : k ≡ n = omega arith in
              subst (IsEmptyLevel f es k) (sym (push-last no_level r.levels l k e))
              (subst (λ (m : ℕ). IsEmptyLevel f es m l) (sym e) level-empty)

-- ---- sizes of peers
-- one exit more, of which the size at the peer is known
pub greatest-more : (w : ℕ → ℕ) (es : List Exit) (i far : ℕ) (e : Exit) → i < length es → e ≡ get_or es i e →
    max (max (w e.peer.v) far) (peers_size w (map exit_link (drop (i + 1) es)))
    ≡ max far (peers_size w (map exit_link (drop i es)))
greatest-more w es i far e lt at =
    let F : List Exit → ℕ = λ xs. peers_size w (map exit_link xs) in
    let here : F (drop i es) ≡ F (get_or es i e ∷ drop (i + 1) es) = at_drop_more F es i e lt in
    let next : F (get_or es i e ∷ drop (i + 1) es) ≡ max (w e.peer.v) (F (drop (i + 1) es)) =
    ap (λ (x : Exit). max (w x.peer.v) (F (drop (i + 1) es))) (sym at) in
    omega arith

pub greatest-one : (w : ℕ → ℕ) (es : List Exit)
    → max 1 (peers_size w (map exit_link es)) ≡ peers_size w (map exit_link es)
greatest-one w es = let h = positive (map (λ (l : Link). w l.peer.v) (map exit_link es)) in omega arith

pub greatest-all : (w : ℕ → ℕ) (es : List Exit) (i far : ℕ) → length es ≤ i → 1 ≤ far
    → max far (peers_size w (map exit_link (drop i es))) ≡ far
greatest-all w es i far le one =
    let F : List Exit → ℕ = λ xs. peers_size w (map exit_link xs) in
    let none : F (drop i es) ≡ 1 = at_drop_all F es i le in
    omega arith

-- a size of 1 more at the end
pub ones-more : (xs : List ℕ) → ((k : ℕ) → size_at xs k ≡ 1) → (k : ℕ) → size_at (xs ++ 1 ∷ []) k ≡ 1
ones-more [] one zero = refl
ones-more [] one (suc k) = refl
ones-more (x ∷ xs) one zero = one 0
ones-more (x ∷ xs) one (suc k) = ones-more xs (λ j. one (suc j)) k

-- the next level fits
pub can-rise : (f : Fabric) (es : List LinkEnd) (gs : List GivenOf) (sizes : List ℕ) (hops level : ℕ) (r : Rising)
    → CanBuild f es gs sizes hops → IsRisen f es (length gs) r → 1 + length r.levels ≡ level → level < hops
    → CanRise f es gs sizes r
can-rise f es gs sizes hops level r c risen e lt =
    record { fabric = c.fabric; risen = risen; fits = λ v. c.fits (suc (length r.levels)) v (omega arith) }

-- what the sizes of one hop more need
pub next-fits : (f : Fabric) (es : List LinkEnd) (gs : List GivenOf) (sizes : List ℕ) (r : Rising)
    → CanRise f es gs sizes r → (v : ℕ) → v < length sizes → size_at sizes v * size_at r.peers v < 2 ^ 64
next-fits f es gs sizes r c v lt =
    let e : size_at sizes v * size_at r.peers v ≡ hop_size f (suc (length r.levels)) v =
    λ i. c.fabric.own_sizes v i * c.risen.peers v (let n = c.fabric.count in omega arith) i in
    subst (λ (k : ℕ). k < 2 ^ 64) (sym e) (c.fits v)
