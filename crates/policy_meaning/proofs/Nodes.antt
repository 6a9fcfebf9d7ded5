-- What the rules of a node say.
use Rattle.std.proofs.Common.{◌≡◌, ℕ, zero, suc, ◌*◌, ◌<◌, ◌≤◌, Bool, true, List, Option, Some, None, refl, ap, ◌∙◌}
use Rattle.std.proofs.Common.{arith, sym, subst, eq-eqb}
use Rattle.std.specs.Prelude.{filter_map}
use Rattle.std.specs.List.{AllByRecursion}
use Rattle.of10_match.specs.Fields.{HeaderOf, MatchOf}
use Rattle.of10_match.specs.Matching.{agree, at_port, both, either, fits, holds, overlaps}
use Rattle.of10_actions.specs.Fields.{RewriteOf}
use Rattle.of10_actions.specs.Rewriting.{apply, no_rewrite}
use Rattle.pull_back.specs.Pulling.{can_pull, pulled}
use Rattle.of10_actions.specs.declared.effects.Tail.{Tail}
use Rattle.of10_actions.specs.declared.effects.Tail.TheVariants.{Nothing, Link}
use Rattle.alg_priority.specs.Levels.{concat_level}
use Rattle.policy_meaning.specs.LeafRules.{rule_met}
use Rattle.policy_meaning.specs.Hops.{Fabric, node, hop_size, peers_size, outs_at, at_node, hop_lone, hopped, hop_rule}
use Rattle.policy_meaning.specs.Hops.{leads, hops_on, without_port, last_rule}
use Rattle.policy_meaning.specs.Walk.{Ground, walk, here, nowhere, both_walked, walked_after, arriving, takes}
use Rattle.policy_meaning.specs.Best.{EachAt, Below, IsBest, first, IsSound}
use Rattle.policy_meaning.specs.HopFact.{AreThose, HopSays, IsSoundFabric, HopFact}
use Rattle.policy_meaning.specs.declared.meaning.Meaning.{Meaning}
use Rattle.policy_meaning.specs.declared.network.Onward.{Onward}
use Rattle.policy_meaning.specs.declared.rule.Rule.{Rule}
use Rattle.policy_meaning.specs.declared.walking.Walked.{Walked}
use Rattle.policy_meaning.proofs.Booleans.{split_and, join_and}
use Rattle.policy_meaning.proofs.Lists.{all-flat_map, all-filter_map}
use Rattle.policy_meaning.proofs.BestLemmas.{best_holds, best_most, best_each, at-filter_map, at-below, best-flat_map}
use Rattle.policy_meaning.proofs.BestLemmas.{best-filter_map}
use Rattle.policy_meaning.proofs.Meeting.{meet_there, meet_holds, some_met, is_met, some_pulled, is_pulled}
use Rattle.pull_back.proofs.PulledMatches.{holds-pulled}
use Rattle.of10_match.proofs.NormalMeet.{IsNormal-both}
use Rattle.pull_back.proofs.Normality.{normal-guarded, normal-pulled}
use Rattle.policy_meaning.proofs.Normality.{normal-everything, normal-at_port, normal-without_port}
use Rattle.policy_meaning.proofs.Building.{Rises, rises, builds, rises-at, rises-then, rises-link, rises-ended}
use Rattle.policy_meaning.proofs.Chains.{high}
use Rattle.policy_meaning.proofs.Cells.{narrowed}
use Rattle.policy_meaning.proofs.Peers.{positive, peer-size, leading}
use Rattle.policy_meaning.proofs.Walks.{those-here, those-after, those-both, those-ended}

-- what is kept of the rules of the node of a port
pub record AtPort (at : ℕ) (b : Rule) : Type 0 where
  pub sound : IsSound b
  pub port : fits b.m.in_port at ≡ true

-- a match of a node holds the header at the node's port where its other fields hold
pub port-holds : (m : MatchOf) (h : HeaderOf) (port : ℕ) → fits m.in_port port ≡ true
    → holds m (record h { in_port = port }) ≡ holds (without_port m) h
port-holds m h port e = rw e

-- the rule of two
abbrev pub link_of : ℕ → RewriteOf → Rule → Rule → Rule
link_of size r a b = hopped size r a b (both a.m (pulled r (without_port b.m)))

-- what is known of a rule of two that holds a header
pub record Linked (h : HeaderOf) (size : ℕ) (r : RewriteOf) (to : ℕ) (a x y : Rule) : Type 0 where
  pub left : holds a.m h ≡ true
  pub right : holds x.m (arriving r to h) ≡ true
  pub level : y.level ≡ concat_level a.level x.level size

pub linked-holds : (h : HeaderOf) (k : ℕ) (r : RewriteOf) (to : ℕ) (a x y : Rule) → AtPort to x
    → hop_rule k r a x ≡ Some y → holds y.m h ≡ true → Linked h k r to a x y
linked-holds h k r to a x y g e t =
    let n = without_port x.m in
    let s : (can_pull r n ≡ true) × (overlaps a.m (pulled r n) ≡ true)
    × (link_of k r a x ≡ y) = some_pulled (hopped k r a x) a.m n r y e in
    let u : holds (both a.m (pulled r n)) h ≡ true = ap (λ (z : Rule). holds z.m h) s.2 ∙ t in
    let w = meet_holds a.m (pulled r n) h u s.1 in
    let pull = holds-pulled r n h (normal-guarded n (normal-without_port x.m g.sound.is_normal)) in
    record {
      left = w.0;
      right = port-holds x.m (apply r h) to g.port
          ∙ (sym pull ∙ join_and _ _ w.1 s.0);
      level = sym (ap (λ (z : Rule). z.level) s.2);
    }

pub link-there : (h : HeaderOf) (k : ℕ) (r : RewriteOf) (to : ℕ) (a b : Rule) → AtPort to b → holds a.m h ≡ true
    → holds b.m (arriving r to h) ≡ true → (hop_rule k r a b ≡ Some (link_of k r a b))
    × (holds (both a.m (pulled r (without_port b.m))) h ≡ true)
link-there h k r to a b g p q =
    let n = without_port b.m in
    let pull = holds-pulled r n h (normal-guarded n (normal-without_port b.m g.sound.is_normal)) in
    let s = split_and (holds (pulled r n) h) (can_pull r n) (pull ∙ (sym (port-holds b.m (apply r h) to g.port) ∙ q)) in
    let m = meet_there a.m (pulled r n) h p s.0 in
    (is_pulled (hopped k r a b) a.m n r s.1 m.1, m.0)

-- the rules with the port written
pub at_port-holds : (h : HeaderOf) → holds (at_port h.in_port) h ≡ true
at_port-holds h = rw (eq-eqb h.in_port h.in_port refl)

met-lower : (h : HeaderOf) (n : MatchOf) (k : ℕ) (x y : Rule) → rule_met x n ≡ Some y → holds y.m h ≡ true
    → (holds x.m h ≡ true → x.level < k) → y.level < k
met-lower h n k x y u t low =
    let s = some_met (narrowed x) x.m n y u in
    let w : holds (both x.m n) h ≡ true = ap (λ (z : Rule). holds z.m h) s.1 ∙ t in
    let l : x.level < k = low (meet_holds x.m n h w s.0).0 in
    let e : x.level ≡ y.level = ap (λ (z : Rule). z.level) s.1 in
    omega arith

-- the rules that a node starts from
abbrev pub met_at : ℕ → Rule → Option Rule
met_at port a = rule_met a (at_port port)

pub best-met : (h : HeaderOf) (n : MatchOf) {xs : List Rule} {a : Rule} → AllByRecursion IsSound xs → holds n h ≡ true
    → IsBest h xs a → IsBest h (filter_map (λ x. rule_met x n) xs) (narrowed a (both a.m n))
best-met h n {a = a} g e p =
    let m = meet_there a.m n h (best_holds h p) e in
    best-filter_map h h (λ x. rule_met x n) IsSound (narrowed a (both a.m n)) (is_met (narrowed a) a.m n m.1) m.0
    (λ x y _ u t low. met-lower h n a.level x y u t low) g p

pub fits-met : (o : Option ℕ) (port : ℕ) → agree o (Some port) ≡ true → fits (either o (Some port)) port ≡ true
fits-met None port e = eq-eqb port port refl
fits-met (Some w) port e = e

pub fits-open : (o : Option ℕ) (port : ℕ) → fits o port ≡ true → fits (either o None) port ≡ true
fits-open None port e = refl
fits-open (Some w) port e = e

met-at : (port : ℕ) (x y : Rule) → rule_met x (at_port port) ≡ Some y → IsSound x → AtPort port y
met-at port x y u g =
    let s = some_met (narrowed x) x.m (at_port port) y u in
    let a : AtPort port (narrowed x (both x.m (at_port port))) = record {
      sound = record {
        is_normal = IsNormal-both x.m (at_port port) s.0 g.is_normal (normal-at_port port);
        builds = g.builds;
      };
      port = fits-met x.m.in_port port (split_and _ _ s.0).0;
    } in
    subst (λ (z : Rule). AtPort port z) s.1 a

-- a rule as it stands at the node
stands-at : (v port : ℕ) (a : Rule) → AtPort port a → AtPort port (at_node v port a)
stands-at v port a g = record {
  sound = record {
    is_normal = g.sound.is_normal;
    builds =
        builds (outs_at v port a.outs) a.tail
        (rises-at v port no_rewrite a.outs a.tail (rises a.outs a.tail g.sound.builds));
  };
  port = g.port;
}

lone-at : (port k : ℕ) (a : Rule) → AtPort port a → AtPort port (hop_lone k a)
lone-at port k a g = record {
  sound = record {
    is_normal = g.sound.is_normal;
    builds = builds a.outs Nothing (rises-ended no_rewrite a.outs a.tail (rises a.outs a.tail g.sound.builds));
  };
  port = g.port;
}

linked-at : (port k : ℕ) (r : RewriteOf) (p : ℕ) (to : ℕ) (a x y : Rule) → a.tail ≡ Link r p → AtPort port a
    → AtPort to x → hop_rule k r a x ≡ Some y → AtPort port y
linked-at port k r p to a x y t ga gx e =
    let n = without_port x.m in
    let s : (can_pull r n ≡ true) × (overlaps a.m (pulled r n) ≡ true)
    × (link_of k r a x ≡ y) = some_pulled (hopped k r a x) a.m n r y e in
    let up : Rises no_rewrite a.outs a.tail = rises a.outs a.tail ga.sound.builds in
    let up' : Rises no_rewrite a.outs (Link r p) = rw t at up in
    let b : AtPort port (link_of k r a x) = record {
      sound = record {
        is_normal = IsNormal-both a.m (pulled r n) s.1 ga.sound.is_normal
            (normal-pulled r n (normal-without_port x.m gx.sound.is_normal));
        builds =
            builds _ Nothing (rises-then no_rewrite a.outs r x.outs Nothing (rises-link no_rewrite a.outs r p up')
            (rises-ended no_rewrite x.outs x.tail (rises x.outs x.tail gx.sound.builds)));
      };
      port = fits-open a.m.in_port port ga.port;
    } in
    subst (λ (z : Rule). AtPort port z) s.2 b

module _ (f : Fabric) (means : ℕ → HeaderOf → Meaning) (spread : ℕ → Bool) (has : ℕ → ℕ
    → Bool) (good : IsSoundFabric f means spread has) where
  abbrev ground : Ground
  ground = record { means = means; links = f.links; spread = spread }

  module _ (n v : ℕ) (nodes : (u port : ℕ) → AllByRecursion (AtPort port) (node f n u port)) where
    on-at : (port : ℕ) (x : Rule) → AtPort port x → (k : ℕ) (o : Option Onward) → leads x.tail (f.links v) port ≡ o
        → AllByRecursion (AtPort port) (hops_on o (node f n) k x)
    on-at port x g k None e = (lone-at port k x g, tt)
    on-at port x g k (Some on) e =
        let l = leading x.tail (f.links v) port on e in
        all-filter_map (AtPort on.place.port) (AtPort port) (hop_rule k on.rewrite x)
        (node f n on.place.v on.place.port)
        (λ b y e gb. linked-at port k on.rewrite l.by on.place.port x b y l.tail g gb e)
        (nodes on.place.v on.place.port)

  -- each rule of a node is sound, and fits its port
  pub node-at : (n u port : ℕ) → AllByRecursion (AtPort port) (node f n u port)
  node-at zero u port = (
    record {
      sound = record { is_normal = normal-everything; builds = record { outs = tt; tail = tt } };
      port = refl;
    },
    tt,
  )
  node-at (suc n) u port =
      all-flat_map (AtPort port) (AtPort port)
      (λ (a : Rule). hops_on (leads a.tail (f.links u) port) (node f n) (peers_size (hop_size f n) (f.links u))
      (at_node u port a))
      (filter_map (met_at port) (f.rules u))
      (λ x g. on-at n u (node-at n) port (at_node u port x) (stands-at u port x g)
      (peers_size (hop_size f n) (f.links u)) (leads x.tail (f.links u) port) refl)
      (all-filter_map IsSound (AtPort port) (met_at port) (f.rules u) (λ x y e g. met-at port x y e g) (good.sound u))

  module _ (n v : ℕ) (h : HeaderOf) (before : (u : ℕ) (k : HeaderOf) → has u k.in_port ≡ true
      → takes (spread u) k ≡ true → HopSays k (node f n u k.in_port) (hop_size f n u) (walk ground n u k)) where
    abbrev over : ℕ
    over = peers_size (hop_size f n) (f.links v)

    -- what goes on is taken where it comes to
    at-peer : (t : Tail) (on : Onward) → leads t (f.links v) h.in_port ≡ Some on
        → HopSays (arriving on.rewrite on.place.port h) (node f n on.place.v on.place.port) (hop_size f n on.place.v)
        (walk ground n on.place.v (arriving on.rewrite on.place.port h))
    at-peer t on e =
        let l = leading t (f.links v) h.in_port on e in
        let g = good.peers v l.by on.place l.peer in
        before on.place.v (arriving on.rewrite on.place.port h) g.0 (rw (g.1))

    peer-below : (t : Tail) (on : Onward) → leads t (f.links v) h.in_port ≡ Some on → hop_size f n on.place.v ≤ over
    peer-below t on e = let l = leading t (f.links v) h.in_port on e in
        peer-size (hop_size f n) (f.links v) l.by on.place l.peer

    bounded : (t : Tail) (on : Onward) → leads t (f.links v) h.in_port ≡ Some on
        → EachAt (arriving on.rewrite on.place.port h) (Below over) (node f n on.place.v on.place.port)
    bounded t on e =
        let s = at-peer t on e in let k = arriving on.rewrite on.place.port h in
        at-below k (hop_size f n on.place.v) over (node f n on.place.v on.place.port) (peer-below t on e)
        (best_most k s.best (hop_size f n on.place.v) s.below)

    module _ (x : Rule) (P : Rule → Type 0) (lone : holds x.m h ≡ true → P (hop_lone over x))
        (chain : (r : RewriteOf) (to : ℕ) (b y : Rule) → Linked h over r to x b y → b.level < over → P y) where
      hop-part : (o : Option Onward) → leads x.tail (f.links v) h.in_port ≡ o → EachAt h P (hops_on o (node f n) over x)
      hop-part None e = (lone, tt)
      hop-part (Some on) e =
          at-filter_map h (arriving on.rewrite on.place.port h) (hop_rule over on.rewrite x) (AtPort on.place.port)
          (Below over) P (node f n on.place.v on.place.port)
          (λ b y gb u t low. let c = linked-holds h over on.rewrite on.place.port x b y gb u t in
          chain on.rewrite on.place.port b y c (low c.right))
          (node-at n on.place.v on.place.port) (bounded x.tail on e)

    -- what a rule makes
    abbrev makes : Rule → List Rule
    makes a = hops_on (leads a.tail (f.links v) h.in_port) (node f n) over (at_node v h.in_port a)

    over-positive : 0 < over
    over-positive = positive _

    lower : (k : ℕ) (x : Rule) → (holds x.m h ≡ true → x.level < k) → EachAt h (Below (k * over)) (makes x)
    lower k x lt =
        hop-part (at_node v h.in_port x) (Below (k * over)) (λ e. high x.level k over 0 (lt e) over-positive)
        (λ r to b y c l. let at = c.level in let up = high x.level k over b.level (lt c.left) l in omega arith)
        (leads x.tail (f.links v) h.in_port) refl

    module _ (ok : has v h.in_port ≡ true) (in_ : takes (spread v) h ≡ true) where
      abbrev base : Rule
      base = narrowed (good.says v h ok).rule (both (good.says v h ok).rule.m (at_port h.in_port))

      base-best : IsBest h (filter_map (met_at h.in_port) (f.rules v)) base
      base-best = best-met h (at_port h.in_port) (good.sound v) (at_port-holds h) (good.says v h ok).best

      base-at : AtPort h.in_port base
      base-at = best_each h (AtPort h.in_port) base-best
          (all-filter_map IsSound (AtPort h.in_port) (met_at h.in_port) (f.rules v)
          (λ x y e g. met-at h.in_port x y e g) (good.sound v))

      abbrev Said : Type 0
      Said = HopSays h (node f (suc n) v h.in_port) (hop_size f (suc n) v) (walk ground (suc n) v h)

      -- the outs of the virtual switch
      abbrev own : Walked
      own = here v h.in_port base.outs

      ends : leads base.tail (f.links v) h.in_port ≡ None → both_walked own nowhere ≡ walk ground (suc n) v h
      ends e = rw (in_, ← (good.says v h ok).means, e)

      goes-on : (on : Onward) → leads base.tail (f.links v) h.in_port ≡ Some on
          → both_walked own (walked_after on.rewrite (walk ground n on.place.v (arriving on.rewrite on.place.port h)))
          ≡ walk ground (suc n) v h
      goes-on on e = rw (in_, ← (good.says v h ok).means, e)

      -- the same as it stands at the node
      abbrev stood : Rule
      stood = at_node v h.in_port base

      linked-lower : (r : RewriteOf) (to : ℕ) (b x y : Rule) → AtPort to x → hop_rule over r stood x ≡ Some y
          → holds y.m h ≡ true → (holds x.m (arriving r to h) ≡ true → x.level < b.level)
          → y.level < concat_level base.level b.level over
      linked-lower r to b x y gx z w low =
          let c = linked-holds h over r to stood x y gx z w in
          let l : x.level < b.level = low c.right in
          let at = c.level in
          omega arith

      step : (o : Option Onward) → leads base.tail (f.links v) h.in_port ≡ o → Said
      step None e = record {
        rule = hop_lone over stood;
        best = best-flat_map h makes (hop_lone over stood) (rw e (first (best_holds h base-best) tt))
            (λ x lt. at-below h (base.level * over) (concat_level base.level 0 over) (makes x) (omega arith)
            (lower base.level x lt)) base-best;
        below = high base.level (f.sizes v) over 0 (good.says v h ok).below over-positive;
        outs = subst (AreThose stood.outs) (ends e) (those-ended stood.outs own (those-here v h.in_port base.outs));
        sound = (lone-at h.in_port over stood (stands-at v h.in_port base base-at)).sound;
      }
      step (Some on) e =
          let l = leading base.tail (f.links v) h.in_port on e in
          let k = arriving on.rewrite on.place.port h in
          let s = at-peer base.tail on e in
          let gs = best_each k (AtPort on.place.port) s.best (node-at n on.place.v on.place.port) in
          let there = link-there h over on.rewrite on.place.port stood s.rule gs (best_holds h base-best)
          (best_holds k s.best) in
          let bound : s.rule.level < over = let low = s.below in let le = peer-below base.tail on e in omega arith in
          record {
            rule = link_of over on.rewrite stood s.rule;
            best = best-flat_map h makes (link_of over on.rewrite stood s.rule)
                (rw e (best-filter_map h k (hop_rule over on.rewrite stood) (AtPort on.place.port)
                (link_of over on.rewrite stood s.rule) there.0 there.1
                (λ x y gx z w low. linked-lower on.rewrite on.place.port s.rule x y gx z w low)
                (node-at n on.place.v on.place.port) s.best))
                (λ x lt. at-below h (base.level * over) (concat_level base.level s.rule.level over) (makes x)
                (omega arith) (lower base.level x lt)) base-best;
            below = high base.level (f.sizes v) over s.rule.level (good.says v h ok).below bound;
            outs = subst (AreThose (link_of over on.rewrite stood s.rule).outs) (goes-on on e)
                (those-both stood.outs _ own (walked_after on.rewrite (walk ground n on.place.v k))
                (those-here v h.in_port base.outs)
                (those-after on.rewrite s.rule.outs (walk ground n on.place.v k) s.outs));
            sound =
                (linked-at h.in_port over on.rewrite l.by on.place.port stood s.rule
                (link_of over on.rewrite stood s.rule) l.tail (stands-at v h.in_port base base-at) gs there.0).sound;
          }

  pub hop-says : (n v : ℕ) (h : HeaderOf) → has v h.in_port ≡ true → takes (spread v) h ≡ true
      → HopSays h (node f n v h.in_port) (hop_size f n v) (walk ground n v h)
  hop-says zero v h ok i = record {
    rule = last_rule;
    best = first refl tt;
    below = omega arith;
    outs = record { ports = refl; tellings = refl };
    sound = record { is_normal = normal-everything; builds = record { outs = tt; tail = tt } };
  }
  hop-says (suc n) v h ok i = step n v h (λ u k o t. hop-says n u k o t) ok i
      (leads (good.says v h ok).rule.tail (f.links v) h.in_port) refl

pub hop_fact : HopFact
hop_fact f means spread has good n v h ok i = hop-says f means spread has good n v h ok i
