-- The first of the entries that stand on a switch and hold a packet is its best entry.
use Rattle.std.proofs.Common.{◌≡◌, ℕ, ◌<◌, ◌≤◌, ◌⊎◌, inl, inr, arith, Bool, true, false, ◌&&◌, ◌||◌, List, [], ◌∷◌, map}
use Rattle.std.proofs.Common.{Option, Some, None, refl, ap, ◌∙◌, sym, subst, Contains}
use Rattle.std.specs.Prelude.{◌==◌, not, nat_lt}
use Rattle.std.specs.List.{AllByRecursion, list_any}
use Rattle.std.proofs.lemmas.Bool.{ltb-false}
use Rattle.of10_match.specs.Fields.{HeaderOf}
use Rattle.of10_match.specs.Matching.{holds}
use Rattle.install_plan.specs.Best.{IsBest, IsFirst, is_above, is_holding, rank_of as rank_written}
use Rattle.install_plan.specs.Tables.{entry_of}
use Rattle.install_plan.specs.declared.written.Written.{Written}
use Rattle.policy_meaning.proofs.Booleans.{some_injective}
use Rattle.switch_meaning.specs.Keys.{displaces, flow_of, installed, passes_over, passing}
use Rattle.switch_meaning.specs.MayUse.{IsUsable, MayUse, rank_of}
use Rattle.switch_meaning.specs.declared.entry.FlowEntry.{FlowEntry}
use Rattle.switch_meaning.specs.declared.entry.PhysEntry.{PhysEntry}
use Rattle.switch_meaning.specs.declared.wiring.Outside.{Outside}
use Rattle.switch_meaning.proofs.Gate.{best-is-installed}
use Rattle.switch_meaning.proofs.Items.{all-filter}
use Rattle.agreement.specs.Entries.{entries_of, table_of}
use Rattle.agreement.specs.Premises.{IsSoundSetting}
use Rattle.agreement.specs.Seeing.{comes_by}
use Rattle.agreement.specs.declared.state.Setting.{Setting}
use Rattle.agreement.proofs.SwitchEntries.{all-fit}
use Rattle.used_entries.specs.Traced.{HasTracedEntry, IsTraced, Stands, UsedEntriesAreTraced}
use Rattle.used_entries.proofs.BestTraced.{best_entries_traced}
use Rattle.used_entries.proofs.Standing.{BestOrBelow, all-into, all-out, all-sorted, among, at-one, best-or-below}
use Rattle.used_entries.proofs.Standing.{of-sorted}

-- what holds of all entries holds of the installed ones
all-installed : (P : PhysEntry → Type 0) (es : List PhysEntry) → AllByRecursion P es → AllByRecursion P (installed es)
all-installed P es a =
    all-filter P (λ (e : PhysEntry). not (list_any (λ (d : PhysEntry). displaces d e) (passing es))) (passing es)
    (all-filter P (λ (e : PhysEntry). not (list_any (λ (d : PhysEntry). passes_over d e) es)) es a)

abbrev Fails : HeaderOf → Written → Type 0
Fails h w = holds w.entry.m h ≡ false

none-holds : (h : HeaderOf) (ws : List Written) → list_any (is_holding h) ws ≡ false → AllByRecursion (Fails h) ws
none-holds h [] e = tt
none-holds h (w ∷ ws) e = by (holds w.entry.m h) refl e (none-holds h ws)
  where
    by : (b : Bool) → holds w.entry.m h ≡ b → (b || list_any (is_holding h) ws) ≡ false
        → (list_any (is_holding h) ws ≡ false → AllByRecursion (Fails h) ws) → AllByRecursion (Fails h) (w ∷ ws)
    by true f e rest = cc
    by false f e rest = (f, rest e)

-- an entry that isn't above another one in rank
not-ranked : (v w : Written) → is_above v w ≡ false → rank_written v.entry ≤ rank_written w.entry
not-ranked v w e = by (nat_lt (rank_written w.entry) (rank_written v.entry)) refl e
  where
    by : (b : Bool) → nat_lt (rank_written w.entry) (rank_written v.entry) ≡ b
        → (b || ((rank_written w.entry == rank_written v.entry) && nat_lt v.cookie w.cookie)) ≡ false
        → rank_written v.entry ≤ rank_written w.entry
    by true f e = cc
    by false f e = ltb-false (rank_written w.entry) (rank_written v.entry) f

-- a higher one doesn't hold the header
abbrev NoHigher : HeaderOf → Written → Written → Type 0
NoHigher h w v = holds v.entry.m h ≡ true → rank_written v.entry ≤ rank_written w.entry

abbrev is_higher : HeaderOf → Written → Written → Bool
is_higher h w v = is_holding h v && is_above v w

none-above : (h : HeaderOf) (w : Written) (ws : List Written) → list_any (is_higher h w) ws ≡ false
    → AllByRecursion (NoHigher h w) ws
none-above h w [] e = tt
none-above h w (v ∷ vs) e = by (holds v.entry.m h) (is_above v w) refl refl e (none-above h w vs)
  where
    by : (b c : Bool) → holds v.entry.m h ≡ b → is_above v w ≡ c → ((b && c) || list_any (is_higher h w) vs) ≡ false
        → (list_any (is_higher h w) vs ≡ false → AllByRecursion (NoHigher h w) vs)
        → AllByRecursion (NoHigher h w) (v ∷ vs)
    by true true f g e rest = cc
    by true false f g e rest = (λ _. not-ranked v w g, rest e)
    by false c f g e rest = (λ p. cc, rest e)

module _ (s : Setting) (good : IsSoundSetting s) (v : ℕ) (o : Outside) (h : HeaderOf) (known : HasTracedEntry s v o h)
    (standing : List Written) (stands : Stands s o.at.switch standing) where
  abbrev k : HeaderOf
  k = comes_by o.at.port h

  abbrev es : List PhysEntry
  es = entries_of s o.at.switch

  -- what holds of what stands holds of what is installed
  of-standing : (P : PhysEntry → Type 0) → AllByRecursion (λ (w : Written). P w.entry) standing
      → AllByRecursion P (installed es)
  of-standing P a = of-sorted P (installed es) (subst (AllByRecursion P) stands (all-into entry_of P standing a))

  to-standing : (P : PhysEntry → Type 0) → AllByRecursion P (installed es)
      → AllByRecursion (λ (w : Written). P w.entry) standing
  to-standing P a = all-out entry_of P standing (subst (AllByRecursion P) (sym stands) (all-sorted P (installed es) a))

  uses : (flow : Option FlowEntry) → MayUse (table_of s o.at.switch) k flow → flow ≡ Some (flow_of known.entry)
  uses flow may = best-is-installed es k known.entry known.best (all-fit s good o.at.switch) flow may

  never-none : list_any (is_holding k) standing ≡ false → None ≡ Some (flow_of known.entry)
  never-none e =
      uses None
      (all-into flow_of (λ (d : FlowEntry). holds d.m k ≡ false) (installed es)
      (of-standing (λ (d : PhysEntry). holds d.m k ≡ false) (none-holds k standing e)))

  module _ (w : Written) (first : IsFirst k standing w) where
    usable : IsUsable (table_of s o.at.switch) k (flow_of w.entry)
    usable = record {
      stands = at-one (λ (w : Written). Contains (map flow_of (installed es)) (flow_of w.entry)) standing w first.stands
          (to-standing (λ e. Contains (map flow_of (installed es)) (flow_of e)) (among (installed es)));
      holds_it = first.holds_it;
      highest = inl (all-into flow_of (λ (d : FlowEntry). holds d.m k ≡ true
          → rank_of d ≤ rank_of (flow_of w.entry)) (installed es)
          (of-standing (λ (d : PhysEntry). holds d.m k ≡ true → rank_written d ≤ rank_written w.entry)
          (none-above k w standing first.none_above)));
    }

    is-best : w.entry ≡ known.entry
    is-best =
        let same : flow_of w.entry ≡ flow_of known.entry = some_injective (uses (Some (flow_of w.entry)) usable) in
        let level : w.entry.priority ≡ known.entry.priority = ap (λ (f : FlowEntry). f.priority) same in
        by level (at-one (λ (w : Written). BestOrBelow k known.entry w.entry) standing w first.stands
        (to-standing (BestOrBelow k known.entry)
        (all-installed (BestOrBelow k known.entry) es (best-or-below k known.best))) first.holds_it)
      where
        by : w.entry.priority ≡ known.entry.priority
            → (w.entry ≡ known.entry) ⊎ (w.entry.priority < known.entry.priority) → w.entry ≡ known.entry
        by level (inl is) = is
        by level (inr lt) = absurd (omega (arith, level, lt))

    traced : IsTraced s v o h (Some w)
    traced = record {
      written = w;
      is = refl;
      ancestry = ap (λ (e : PhysEntry). e.ancestry) is-best ∙ known.ancestry;
      only = λ flow may. uses flow may ∙ ap (λ (e : PhysEntry). Some (flow_of e)) (sym is-best);
    }

  by-used : (used : Option Written) → IsBest k standing used → IsTraced s v o h used
  by-used None none = let never : None ≡ Some (flow_of known.entry) = never-none none in cc
  by-used (Some w) first = traced w first

pub used_entries_traced : UsedEntriesAreTraced
used_entries_traced s good v o h at standing stands used best =
    by-used s good v o h (best_entries_traced s good v o h at) standing stands used best
