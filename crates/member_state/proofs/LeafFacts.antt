-- A member's leaf table is as composition and agreement ask.
use Rattle.std.proofs.Common.{◌≡◌, ◌≢◌, ◌∙◌, ℕ, ◌+◌, ◌<◌, ◌≤◌, ◌^◌, ◌==◌, Bool, true, false, ◌&&◌, ◌||◌, List, [], ◌∷◌}
use Rattle.std.proofs.Common.{◌++◌, map, Option, Some, None, is_some, IfSome, IsTrue, All, refl, sym, ap, ap₂, subst}
use Rattle.std.proofs.Common.{arith, true≢false, eqb-true, eq-eqb}
use Rattle.std.specs.List.{AllByRecursion, IsDistinct, list_any}
use Rattle.std.proofs.lemmas.List.Elements.{All-from_recursion, recursion_from_All}
use Rattle.of10_match.specs.Fields.{MatchOf}
use Rattle.of10_match.specs.Matching.{overlaps}
use Rattle.of10_match.specs.Normal.{IsNormal}
use Rattle.of10_match.proofs.Commuting.{overlaps-comm}
use Rattle.of10_actions.specs.Actions.{IsInRange}
use Rattle.of10_actions.specs.Effects.{effects_of}
use Rattle.of10_actions.specs.declared.effects.Out.{Out}
use Rattle.of10_actions.specs.declared.effects.PortView.{PortView}
use Rattle.of10_actions.proofs.Building.{builds-up}
use Rattle.grants.specs.Granted.{IsGranted, IsGrantedMatch, IsServed}
use Rattle.grants.specs.Ports.{sees}
use Rattle.grants.specs.Rows.{grants, kind_of}
use Rattle.grants.specs.declared.grant.Grant.{Grant}
use Rattle.level_map.specs.Levels.{FollowsRanks, IsLevelling, Levels, level_of}
use Rattle.level_map.proofs.Properties.{follows}
use Rattle.member_table.specs.Entries.{identity_of, is_near}
use Rattle.member_table.specs.Sound as tables
use Rattle.member_table.specs.Tables.{TableOf, has_rank}
use Rattle.member_table.specs.declared.entry.Entry.{Entry}
use Rattle.packet_map.specs.Networks.{leaf_entry}
use Rattle.packet_map.proofs.Finding.{sees-port}
use Rattle.policy_meaning.specs.Disjoint.{IsTableOfMember}
use Rattle.policy_meaning.specs.Fitting.{IsFittingTable}
use Rattle.policy_meaning.specs.Leaf.{has_port}
use Rattle.policy_meaning.specs.LeafFact.{AreApart, EachPair, IsSoundEntry, IsSoundTable}
use Rattle.policy_meaning.specs.Ranged.{AllInRange, EntriesInRange}
use Rattle.policy_meaning.specs.CentralFact.{ArePlain}
use Rattle.policy_meaning.specs.declared.leaf.LeafEntry.{LeafEntry}
use Rattle.policy_meaning.specs.declared.leaf.LeafTable.{LeafTable}
use Rattle.policy_meaning.proofs.Lists.{all-map, all-mapped, all-zip}
use Rattle.agreement.specs.Premises.{GoesWithin, KeepsTo, NamesOne}
use Rattle.member_state.specs.Leaves.{leaf_of, level_or_zero, levels_of}
use Rattle.member_state.specs.Sound.{AreWithin, IsSoundGrant, IsSoundLeaf, NamesNoPort}
use Rattle.member_state.specs.States.{IsSoundState, MemberStateOf}
use Rattle.member_state.proofs.LeafEffects.{effects_plain, effects_range, effects_within}
use Rattle.member_state.proofs.Lists.{or_left, or_right}

-- a level that is there
level_there : (o : Option ℕ) → is_some o ≡ true → o ≡ Some (level_or_zero o)
level_there None e = absurd (true≢false (sym e))
level_there (Some level) e = refl

-- each entry's rank is that of an entry
own_ranks : (all es : List Entry) → ((q : ℕ) → list_any (has_rank q) es ≡ true → list_any (has_rank q) all ≡ true)
    → AllByRecursion (λ (e : Entry). list_any (has_rank e.rank) all ≡ true) es
own_ranks all [] h = tt
own_ranks all (e ∷ es) h = (
  h e.rank (or_left (e.rank == e.rank) (list_any (has_rank e.rank) es) (eq-eqb e.rank e.rank refl)),
  own_ranks all
      es (λ q t. h q (or_right (has_rank q e) (list_any (has_rank q) es) t)),
)

module _ (i : ℕ) (g : Grant) (x : MemberStateOf) (good : IsSoundGrant g) (state : IsSoundState x) where
  levelled : AllByRecursion (λ (e : Entry). is_some (level_of x.levels e.rank) ≡ true) x.table.entries
  levelled =
      all-map (λ (e : Entry). list_any (has_rank e.rank) x.table.entries ≡ true)
      (λ (e : Entry). is_some (level_of x.levels e.rank) ≡ true) x.table.entries
      (λ e t. state.kept.ranks e.rank ∙ t)
      (own_ranks x.table.entries x.table.entries (λ q t. t))

  order : FollowsRanks x.levels
  order = follows x.levels state.kept.levels.rising

  higher : (d e : Entry) → is_some (level_of x.levels d.rank) ≡ true → is_some (level_of x.levels e.rank) ≡ true
      → d.rank < e.rank → level_or_zero (level_of x.levels d.rank) < level_or_zero (level_of x.levels e.rank)
  higher d e p q less = order.in_order d.rank e.rank _ _ less (level_there (level_of x.levels d.rank) p)
      (level_there (level_of x.levels e.rank) q)

  apart_pair : (d e : Entry) → tables.AreApart d e → is_some (level_of x.levels d.rank) ≡ true
      → is_some (level_of x.levels e.rank) ≡ true → AreApart (leaf_entry (levels_of x.levels) i g.ports d)
      (leaf_entry (levels_of x.levels) i g.ports e)
  apart_pair d e a p q = record {
    disjoint = λ s. overlaps-comm d.normal e.normal
        ∙ (ap (λ b. b && overlaps e.normal d.normal) (sym (eq-eqb e.rank d.rank (sym s))) ∙ a);
    up = higher d e p q;
    down = higher e d q p;
  }

  apart_all : (es : List Entry) → tables.EachPair tables.AreApart es
      → AllByRecursion (λ (e : Entry). is_some (level_of x.levels e.rank) ≡ true) es
      → EachPair AreApart (map (leaf_entry (levels_of x.levels) i g.ports) es)
  apart_all [] a l = tt
  apart_all (e ∷ es) a l = (
    all-mapped (λ (d : Entry). tables.AreApart e d × (is_some (level_of x.levels d.rank) ≡ true))
        (AreApart (leaf_entry (levels_of x.levels) i g.ports e)) (leaf_entry (levels_of x.levels) i g.ports) es
        (λ d h. apart_pair e d h.0 l.0 h.1)
        (all-zip (tables.AreApart e) (λ (d : Entry). is_some (level_of x.levels d.rank) ≡ true) es a.0 l.1),
    apart_all es a.1 l.1,
  )

  within_levels : (e : Entry) → is_some (level_of x.levels e.rank) ≡ true
      → (2 ≤ level_or_zero (level_of x.levels e.rank)) × (level_or_zero (level_of x.levels e.rank) < x.levels.size)
  within_levels e p = order.within e.rank _ (level_there (level_of x.levels e.rank) p)

  sound_entry : (e : Entry) → tables.IsAsWritten e → is_some (level_of x.levels e.rank) ≡ true
      → IsSoundEntry x.levels.size (leaf_entry (levels_of x.levels) i g.ports e)
  sound_entry e w p =
      let l = within_levels e p in
      record {
        above = omega (arith, l.0);
        below = l.1;
        is_normal = w.normal;
        builds = builds-up g.ports i e.actions (effects_of g.ports i e.actions) refl;
      }

  all_entries : AllByRecursion (λ (e : Entry). tables.IsAsWritten e × (is_some (level_of x.levels e.rank) ≡ true))
      x.table.entries
  all_entries = all-zip tables.IsAsWritten (λ (e : Entry). is_some (level_of x.levels e.rank) ≡ true) x.table.entries
      state.table.written levelled

  sound_table : IsSoundTable (leaf_of i g x)
  sound_table = record {
    apart = apart_all x.table.entries state.table.apart levelled;
    entries = all-mapped (λ (e : Entry). tables.IsAsWritten e × (is_some (level_of x.levels e.rank) ≡ true))
        (IsSoundEntry x.levels.size) (leaf_entry (levels_of x.levels) i g.ports) x.table.entries
        (λ e h. sound_entry e h.0 h.1) all_entries;
    room = omega (arith, state.kept.levels.size_from);
    boxes = good.boxes;
    disjoint = good.disjoint;
    visible = good.visible;
  }

  fits_table : IsFittingTable (leaf_of i g x)
  fits_table = record {
    room = omega (arith, state.kept.levels.size_from);
    levels = All-from_recursion (λ (e : LeafEntry). e.level < x.levels.size) (leaf_of i g x).entries
        (all-mapped (λ (e : Entry). is_some (level_of x.levels e.rank) ≡ true)
        (λ (e : LeafEntry). e.level < x.levels.size) (leaf_entry (levels_of x.levels) i g.ports) x.table.entries
        (λ e p. (within_levels e p).1) levelled);
    serials = All-from_recursion (λ (e : LeafEntry). 2 + e.serial < 2 ^ 64) (leaf_of i g x).entries
        (all-mapped (λ (e : Entry). (0 < e.serial) × (e.serial < x.table.next))
        (λ (e : LeafEntry). 2 + e.serial < 2 ^ 64) (leaf_entry (levels_of x.levels) i g.ports) x.table.entries
        (λ e given. let l : e.serial < x.table.next = given.1 in let f : x.table.next + 1 < 2 ^ 64 =
        state.table.fits in omega arith) state.table.given);
  }

  ranged : EntriesInRange (leaf_of i g x)
  ranged =
      all-mapped tables.IsAsWritten (λ (e : LeafEntry). AllInRange e.effects.outs e.effects.tail)
      (leaf_entry (levels_of x.levels) i g.ports) x.table.entries
      (λ e w. effects_range g.ports i e.actions (recursion_from_All IsInRange e.actions w.actions)) state.table.written

  differ : (es : List Entry) → IsDistinct ◌==◌ (map (λ (e : Entry). e.serial) es)
      → EachPair (λ (d e : LeafEntry). d.serial ≢ e.serial) (map (leaf_entry (levels_of x.levels) i g.ports) es)
  unfolding IsDistinct
  differ [] d = tt
  differ (e ∷ es) d = (others es d.0, differ es d.1)
    where
      others : (rest : List Entry)
          → AllByRecursion (λ n. (e.serial == n) ≡ false) (map (λ (y : Entry). y.serial) rest)
          → AllByRecursion (λ (y : LeafEntry). e.serial ≢ y.serial)
          (map (leaf_entry (levels_of x.levels) i g.ports) rest)
      others [] a = tt
      others (y ∷ ys) a = (λ s. true≢false (sym (eq-eqb e.serial y.serial s) ∙ a.0), others ys a.1)

  is_of_member : IsTableOfMember i (leaf_of i g x)
  is_of_member = record {
    member = refl;
    orderly = record {
      serials = differ x.table.entries state.table.once;
      boxes = good.disjoint;
      visible = good.visible;
    };
    normal = record {
      entries = all-mapped tables.IsAsWritten (λ (e : LeafEntry). IsNormal e.m)
          (leaf_entry (levels_of x.levels) i g.ports) x.table.entries (λ e w. w.normal) state.table.written;
      boxes = good.boxes;
    };
  }

  goes_within : AllByRecursion
      (λ (e : LeafEntry). AllByRecursion (λ (o : Out). GoesWithin g.ports.v o.dest) e.effects.outs)
      (leaf_of i g x).entries
  goes_within =
      all-mapped tables.IsAsWritten
      (λ (e : LeafEntry). AllByRecursion (λ (o : Out). GoesWithin g.ports.v o.dest) e.effects.outs)
      (leaf_entry (levels_of x.levels) i g.ports) x.table.entries
      (λ e w. effects_within g.ports i e.actions) state.table.written

  pub leaf_is_sound : IsSoundLeaf i g x
  leaf_is_sound = record {
    sound = sound_table;
    fits = fits_table;
    in_range = ranged;
    of_member = is_of_member;
    within = goes_within;
  }

-- ports among those that are visible
among : (ports visible : List ℕ) → AllByRecursion (λ p. has_port ports p ≡ true) visible → (q : ℕ)
    → has_port visible q ≡ true → has_port ports q ≡ true
among ports [] a q h = absurd (true≢false (sym h))
among ports (p ∷ ps) a q h = by (λ t. among ports ps a.1 q t) (p == q) refl h
  where
    by : (has_port ps q ≡ true → has_port ports q ≡ true) → (b : Bool) → (p == q) ≡ b → (b || has_port ps q) ≡ true
        → has_port ports q ≡ true
    by more true e t = ap (has_port ports) (sym (eqb-true p q e)) ∙ a.0
    by more false e t = more t

pub leaf_keeps_to : (i : ℕ) (g : Grant) (v : PortView) (x : MemberStateOf) (ports : List ℕ) → IsSoundGrant g
    → AreWithin g v x → AllByRecursion (λ p. has_port ports p ≡ true) (g.ports.outside ++ g.ports.links)
    → KeepsTo ports (leaf_of i g x)
leaf_keeps_to i g v x ports good within visible = record {
  visible = visible;
  region = all-map NamesNoPort (NamesOne ports) g.regions
      (λ m n. let P : Option ℕ → Type 0 = λ o. IfSome o (λ p. has_port ports p ≡ true) in subst P (sym n) tt)
      good.portless;
  entries = all-mapped (λ (e : Entry). IsGranted g v e.normal e.actions) (λ (e : LeafEntry). NamesOne ports e.m)
      (leaf_entry (levels_of x.levels) i g.ports) x.table.entries (λ e w. named e.normal.in_port w.match_.in_port)
      within;
}
  where
    named : (o : Option ℕ) → IfSome o (λ p. IsTrue (sees g.ports p)) → IfSome o (λ p. has_port ports p ≡ true)
    named None h = tt
    named (Some p) h = among ports (g.ports.outside ++ g.ports.links) visible p (sees-port g p ∙ h)

pub leaf_is_plain : (i : ℕ) (g : Grant) (v : PortView) (x : MemberStateOf) → IsSoundGrant g → g.actions < 4
    → AreWithin g v x → AllByRecursion (λ (e : LeafEntry). ArePlain e.effects.outs e.effects.tail)
    (leaf_of i g x).entries
leaf_is_plain i g v x good few within =
    all-mapped (λ (e : Entry). IsGranted g v e.normal e.actions)
    (λ (e : LeafEntry). ArePlain e.effects.outs e.effects.tail) (leaf_entry (levels_of x.levels) i g.ports)
    x.table.entries
    (λ e w. effects_plain g v few good.numbers i e.actions
    (all-zip (λ a. IsTrue (grants g (kind_of true g v a))) (IsServed true g v) e.actions w.actions.kinds
    w.actions.outputs)) within
