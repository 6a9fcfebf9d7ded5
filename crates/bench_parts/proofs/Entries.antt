-- The entries of a member make a sound table.
use Rattle.std.proofs.Common.{◌≡◌, ◌==◌, ℕ, ◌<◌, ◌+◌, false, List, [], ◌∷◌, ◌++◌, refl, ap, sym, ◌∙◌, subst, arith}
use Rattle.std.specs.List.{AllByRecursion}
use Rattle.of10_match.specs.Fields.{MatchOf}
use Rattle.of10_match.specs.Matching.{everything, overlaps}
use Rattle.of10_match.specs.Normal.{IsNormal}
use Rattle.of10_actions.specs.Effects.{BuildsUp, EachExtends, TailExtends}
use Rattle.of10_actions.specs.Fields.{RewriteOf}
use Rattle.of10_actions.specs.Rewriting.{Extends, no_rewrite}
use Rattle.of10_actions.specs.declared.effects.Out.{Out}
use Rattle.of10_actions.specs.declared.effects.Tail.{Tail}
use Rattle.of10_actions.specs.declared.effects.Tail.TheVariants.{Nothing}
use Rattle.policy_meaning.specs.LeafFact.{AreApart, EachPair, IsSoundEntry, IsSoundTable}
use Rattle.policy_meaning.specs.declared.leaf.LeafEntry.{LeafEntry}
use Rattle.policy_meaning.proofs.Lists.{all-append, all-map}
use Rattle.policy_meaning.proofs.Normality.{normal-everything}
use Rattle.bench_parts.specs.Entries.{AreEntries, IsEntry, SIZE}

none-set : Extends no_rewrite no_rewrite
none-set = record { dl_src = tt; dl_dst = tt; nw_src = tt; nw_dst = tt; nw_tos = tt; tp_src = tt; tp_dst = tt }

-- effects without outs build up, and so do those of one out that rewrites nothing
pub builds-none : (outs : List Out) (tail : Tail) → outs ≡ [] → BuildsUp (record { outs = outs; tail = tail })
builds-none outs tail o = record {
  outs = subst (λ (z : List Out). EachExtends no_rewrite z) (sym o) tt;
  tail = subst (λ (z : List Out). AllByRecursion (λ (x : Out). TailExtends tail x.rewrite) z) (sym o) tt;
}

pub builds-one : (before outs : List Out) (out : Out) → before ≡ [] → outs ≡ before ++ out ∷ []
    → out.rewrite ≡ no_rewrite
    → BuildsUp (record { outs = outs; tail = Nothing })
builds-one before outs out b p r = let o : outs ≡ out ∷ [] = p ∙ ap (λ (z : List Out). z ++ out ∷ []) b in record {
  outs = subst (λ (z : List Out). EachExtends no_rewrite z) (sym o)
      (subst (λ (x : RewriteOf). Extends x no_rewrite) (sym r) none-set, tt);
  tail = subst (λ (z : List Out). AllByRecursion (λ (x : Out). TailExtends Nothing x.rewrite) z) (sym o) (tt, tt);
}

-- an entry's rank is its level, which is below that of a number
pub record IsBefore (n : ℕ) (e : LeafEntry) : Type 0 where
  pub rank : e.rank ≡ e.level
  pub below : e.level < 2 + n

-- the entries of the numbers below n
pub record AreNumbered (n : ℕ) (es : List LeafEntry) : Type 0 where
  pub sound : AllByRecursion (IsSoundEntry SIZE) es
  pub apart : EachPair AreApart es
  pub before : AllByRecursion (IsBefore n) es

pub none-numbered : (es : List LeafEntry) → es ≡ [] → AreNumbered 0 es
none-numbered es e = subst (AreNumbered 0) (sym e) (record { sound = tt; apart = tt; before = tt })

apart-before : (n : ℕ) (d e : LeafEntry) → IsEntry n e → IsBefore n d → AreApart d e
apart-before n d e i b =
    let r = b.rank in let l = b.below in let s = i.rank in let m = i.level in
    record {
      disjoint = λ same. absurd (omega arith);
      up = λ lt. omega arith;
      down = λ lt. absurd (omega arith);
    }

pairs-more : (es : List LeafEntry) (e : LeafEntry) → EachPair AreApart es
    → AllByRecursion (λ (d : LeafEntry). AreApart d e) es → EachPair AreApart (es ++ e ∷ [])
pairs-more [] e p a = (tt, tt)
pairs-more (d ∷ ds) e p a = (all-append (AreApart d) ds (e ∷ []) p.0 (a.0, tt), pairs-more ds e p.1 a.1)

later : (n : ℕ) (d : LeafEntry) → IsBefore n d → IsBefore (n + 1) d
later n d b = let l = b.below in record { rank = b.rank; below = omega arith }

pub one-numbered : (n : ℕ) (es all : List LeafEntry) (e : LeafEntry) → AreNumbered n es → IsEntry n e
    → all ≡ es ++ e ∷ [] → AreNumbered (n + 1) all
one-numbered n es all e a i p =
    let few = i.few in let rank = i.rank in let level = i.level in
    subst (AreNumbered (n + 1)) (sym p) (record {
      sound = all-append (IsSoundEntry SIZE) es (e ∷ []) a.sound
          (record { above = omega arith; below = omega arith; is_normal = i.is_normal; builds = i.builds }, tt);
      apart =
          pairs-more es e a.apart
          (all-map (IsBefore n) (λ (d : LeafEntry). AreApart d e) es (λ d b. apart-before n d e i b) a.before);
      before = all-append (IsBefore (n + 1)) es (e ∷ []) (all-map (IsBefore n) (IsBefore (n + 1)) es (later n) a.before)
          (record { rank = omega arith; below = omega arith }, tt);
    })

pub sound-table : (member : ℕ) (region : List MatchOf) (visible : List ℕ) (entries : List LeafEntry)
    → AreEntries entries → region ≡ everything ∷ []
    → visible ≡ 1 ∷ 2 ∷ 3 ∷ 4 ∷ []
    → IsSoundTable
    (record { member = member; size = SIZE; region = region; visible = visible; misses = false; entries = entries })
sound-table member region visible entries a r v = record {
  apart = a.apart;
  entries = a.sound;
  room = omega arith;
  boxes = subst (λ (z : List MatchOf). AllByRecursion IsNormal z) (sym r) (normal-everything, tt);
  disjoint = subst (λ (z : List MatchOf). EachPair (λ m n. overlaps m n ≡ false) z) (sym r) (tt, tt);
  visible = subst (λ (z : List ℕ). EachPair (λ p q. (q == p) ≡ false) z) (sym v)
      ((refl, (refl, (refl, tt))), ((refl, (refl, tt)), ((refl, tt), (tt, tt))));
}
