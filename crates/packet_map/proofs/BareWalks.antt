-- What walks don't look at, and the entry that a table finds.
use Rattle.std.proofs.Common.{◌≡◌, ℕ, Bool, true, false, List, Option, Some, None, refl, ap, ◌∙◌, sym}
use Rattle.std.specs.Prelude.{map, slice_get, option_map, if◌then◌else◌}
use Rattle.std.proofs.lemmas.Option.{slice_get-map}
use Rattle.of10_match.specs.Fields.{HeaderOf}
use Rattle.of10_match.specs.Matching.{holds}
use Rattle.of10_actions.specs.declared.effects.PortView.{PortView}
use Rattle.member_table.specs.Best.{best_entry as best_of_table}
use Rattle.member_table.specs.declared.entry.Entry.{Entry}
use Rattle.policy_meaning.specs.Leaf.{best_entry, by_entry, is_inside, leaf_meaning, outside}
use Rattle.policy_meaning.specs.Meaning.{evaluate}
use Rattle.policy_meaning.specs.Networks.{ground_of, switch_links, switch_meaning, switch_spread, table_meaning}
use Rattle.policy_meaning.specs.Switches.{SwitchOf}
use Rattle.policy_meaning.specs.Walk.{Ground, walk}
use Rattle.policy_meaning.specs.declared.leaf.LeafEntry.{LeafEntry}
use Rattle.policy_meaning.specs.declared.leaf.LeafTable.{LeafTable}
use Rattle.policy_meaning.specs.declared.meaning.Meaning.{Meaning}
use Rattle.policy_meaning.specs.declared.network.Network.{Network}
use Rattle.policy_meaning.proofs.Highest.{highest-map}
use Rattle.packet_map.specs.Bare.{BestIsTheLeafs, WalksAreBare, bare, bare_entry, bare_switch, bare_table}
use Rattle.packet_map.specs.Networks.{LevelsOf, leaf_entry}

-- of a table's entries
module _ (levels : LevelsOf) (i : ℕ) (view : PortView) (h : HeaderOf) where
  abbrev of : Entry → LeafEntry
  of e = leaf_entry levels i view e

  pub best-of : (es : List Entry) → best_entry (map of es) h ≡ option_map of (best_of_table es h)
  best-of es = highest-map of (λ (e : LeafEntry). holds e.m h) (λ (e : LeafEntry). e.rank) es

pub best_is_the_leafs : BestIsTheLeafs
best_is_the_leafs levels i view es h = best-of levels i view h es

-- of entries without levels
module _ (h : HeaderOf) where
  pub best-bare : (es : List LeafEntry) → best_entry (map bare_entry es) h ≡ option_map bare_entry (best_entry es h)
  best-bare es = highest-map bare_entry (λ (e : LeafEntry). holds e.m h) (λ (e : LeafEntry). e.rank) es

  by-bare : (t : LeafTable) (o : Option LeafEntry) → by_entry (bare_table t) (option_map bare_entry o) ≡ by_entry t o
  by-bare t None = refl
  by-bare t (Some e) = refl

  leaf-by : (t : LeafTable) (b : Bool)
      → (if b then by_entry (bare_table t) (best_entry (map bare_entry t.entries) h) else outside)
      ≡ (if b then by_entry t (best_entry t.entries h) else outside)
  leaf-by t true = rw (best-bare t.entries) (by-bare t (best_entry t.entries h))
  leaf-by t false = refl

  pub leaf-bare : (t : LeafTable) → leaf_meaning (bare_table t) h ≡ leaf_meaning t h
  leaf-bare t = leaf-by t (is_inside t h)

  meaning-by : (o : Option LeafTable) → table_meaning (option_map bare_table o) h ≡ table_meaning o h
  meaning-by None = refl
  meaning-by (Some t) = leaf-bare t

  pub meaning-bare : (tables : List LeafTable) (i : ℕ)
      → table_meaning (slice_get (map bare_table tables) i) h ≡ table_meaning (slice_get tables i) h
  meaning-bare tables i = rw slice_get-map (meaning-by (slice_get tables i))

module _ (net : Network) where
  means-by : (o : Option SwitchOf) (h : HeaderOf)
      → switch_meaning (bare net).tables (option_map bare_switch o) h ≡ switch_meaning net.tables o h
  means-by None h = refl
  means-by (Some s) h = ap (λ (leaf : ℕ → HeaderOf → Meaning). evaluate leaf s.expr h)
      (λ j i k. meaning-bare k net.tables i j)

  means-bare : (v : ℕ) (h : HeaderOf)
      → switch_meaning (bare net).tables (slice_get (bare net).switches v) h
      ≡ switch_meaning net.tables (slice_get net.switches v) h
  means-bare v h = rw slice_get-map (means-by (slice_get net.switches v) h)

  links-by : (o : Option SwitchOf) → switch_links (option_map bare_switch o) ≡ switch_links o
  links-by None = refl
  links-by (Some s) = refl

  links-bare : (v : ℕ) → switch_links (slice_get (bare net).switches v) ≡ switch_links (slice_get net.switches v)
  links-bare v = rw slice_get-map (links-by (slice_get net.switches v))

  spread-by : (o : Option SwitchOf) → switch_spread (option_map bare_switch o) ≡ switch_spread o
  spread-by None = refl
  spread-by (Some s) = refl

  spread-bare : (v : ℕ) → switch_spread (slice_get (bare net).switches v) ≡ switch_spread (slice_get net.switches v)
  spread-bare v = rw slice_get-map (spread-by (slice_get net.switches v))

  ground-bare : ground_of (bare net) ≡ ground_of net
  ground-bare = λ j. record {
    means = λ v h. means-bare v h j;
    links = λ v. links-bare v j;
    spread = λ v. spread-bare v j;
  }

pub walks_are_bare : WalksAreBare
walks_are_bare a b e n v h =
    let to = λ (g : Ground). walk g n v h in
    ap to (sym (ground-bare a)) ∙ (ap (λ (net : Network). to (ground_of net)) e ∙ ap to (ground-bare b))
