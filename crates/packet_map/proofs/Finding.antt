-- What is found by number: members, virtual switches and links.
use Rattle.std.proofs.Common.{Bor, ◌≡◌, ℕ, ◌+◌, ◌<◌, ◌^◌, arith, Bool, true, false, ◌&&◌, List, [], ◌∷◌, ◌++◌, Option}
use Rattle.std.proofs.Common.{Some, None, refl, ap, ap₂, ◌∙◌, sym, subst}
use Rattle.std.specs.Prelude.{filter_map, find, slice_get, option_map, if◌then◌else◌, ◌==◌, zip, IfSome, cond, All}
use Rattle.std.specs.Map.{lookup}
use Rattle.std.specs.Option.{option_copied}
use Rattle.std.specs.List.{AllByRecursion, cons_option, enumerate_from}
use Rattle.std.proofs.lemmas.Bool.Decides.{Decides-eqb}
use Rattle.std.proofs.lemmas.List.Folds.{list_any-append}
use Rattle.std.proofs.lemmas.Option.{get_or_from_slice_get, slice_get-map, slice_get_within}
use Rattle.of10_match.specs.Fields.{HeaderOf}
use Rattle.of10_match.specs.Matching.{holds}
use Rattle.of10_match.proofs.Prefixes.{eqb-flip}
use Rattle.of10_actions.specs.Actions.{AreInRange}
use Rattle.of10_actions.specs.Ports.{AreRising}
use Rattle.grants.specs.declared.grant.Grant.{Grant}
use Rattle.grants.specs.Ports.{sees}
use Rattle.member_table.specs.Best.{best_entry}
use Rattle.member_table.specs.Entries.{has_serial}
use Rattle.member_table.specs.Sound.{IsAsWritten, IsSound}
use Rattle.member_table.specs.Tables.{Held, TableOf}
use Rattle.member_table.specs.declared.entry.Entry.{Entry}
use Rattle.member_table.proofs.Keyed.{each_found}
use Rattle.policy_expr.specs.declared.expr.Expr.{Expr}
use Rattle.policy_meaning.proofs.Highest.{highest-each}
use Rattle.policy_meaning.proofs.Lists.{all-map}
use Rattle.policy_meaning.specs.Hops.{peer_of}
use Rattle.policy_meaning.specs.Leaf.{has_port}
use Rattle.policy_meaning.specs.declared.network.Link.{Link}
use Rattle.policy_meaning.specs.declared.network.Place.{Place}
use Rattle.virtual_topology.specs.Rows.{Spot, same_spot}
use Rattle.virtual_topology.specs.Wires.{Joint, both_ways, link_joints, peer_of as peer_in_plan}
use Rattle.virtual_topology.specs.declared.plan.TopologyPlan.{TopologyPlan}
use Rattle.packet_map.specs.Networks.{leaf_table, link_from, links_of, no_levels, numbered_switch, numbered_table}
use Rattle.packet_map.specs.Networks.{switches_of, tables_of}
use Rattle.packet_map.specs.Rising.{SeesRising}
use Rattle.packet_map.proofs.Lists.{at-enumerated, at-zipped, two}

-- a member's table by its number
module _ (grants : List Grant) (tables : List Held) (i : ℕ) where
  at-number : slice_get (tables_of grants tables) i
      ≡ option_map numbered_table
      (option_map (λ (x : Grant × Held). (i, x)) (two (slice_get grants i) (slice_get tables i)))
  at-number =
      slice_get-map numbered_table (enumerate_from 0 (zip grants tables)) i
      ∙ ap (option_map numbered_table) (at-enumerated 0 i i (zip grants tables) (omega arith)
      ∙ ap (option_map (λ (x : Grant × Held). (i, x))) (at-zipped grants tables i))

  pub table-there : (g : Grant) (t : Held) → slice_get grants i ≡ Some g → slice_get tables i ≡ Some t
      → slice_get (tables_of grants tables) i ≡ Some (leaf_table no_levels i g t.table.entries)
  table-there g t e f = at-number ∙ rw (e, f) refl

  pub no-grant : slice_get grants i ≡ None → slice_get (tables_of grants tables) i ≡ None
  no-grant e = at-number ∙ rw e refl

  no-table-by : (o : Option Grant) → slice_get grants i ≡ o → slice_get tables i ≡ None
      → slice_get (tables_of grants tables) i ≡ None
  no-table-by None e f = no-grant e
  no-table-by (Some g) e f = at-number ∙ rw (e, f) refl

  pub no-table : slice_get tables i ≡ None → slice_get (tables_of grants tables) i ≡ None
  no-table f = no-table-by (slice_get grants i) refl f

-- a virtual switch by its number
pub switch-at : (plan : TopologyPlan) (exprs : List Expr) (v : ℕ) (o : Option Expr) → slice_get exprs v ≡ o
    → slice_get (switches_of plan exprs) v ≡ option_map (λ e. numbered_switch plan (v, e)) o
switch-at plan exprs v o f =
    slice_get-map (numbered_switch plan) (enumerate_from 0 exprs) v
    ∙ (ap (option_map (numbered_switch plan)) (at-enumerated 0 v v exprs (omega arith)) ∙ rw f (by o))
  where
    by : (o : Option Expr) → option_map (numbered_switch plan) (option_map (λ (e : Expr). (v, e)) o)
        ≡ option_map (λ e. numbered_switch plan (v, e)) o
    by None = refl
    by (Some e) = refl

-- where a link leads
abbrev pub place_of : Spot → Place
place_of s = record { v = s.0; port = s.1 }

link-next : (v p : ℕ) (j : Joint) (ls : List Link) (o : Option Spot) → peer_of ls p ≡ option_map place_of o → (a : Bool)
    → (j.0.0 == v) ≡ a → (b : Bool) → (j.0.1 == p) ≡ b →
    peer_of (cons_option (if a then Some (record { port = j.0.1; peer = place_of j.1 }) else None) ls) p
    ≡ option_map place_of (if a && b then Some j.1 else o)
link-next v p j ls o e true f true g = rw g refl
link-next v p j ls o e true f false g = rw g e
link-next v p j ls o e false f b g = e

pub link-found : (v p : ℕ) (js : List Joint)
    → peer_of (filter_map (link_from v) js) p ≡ option_map place_of (lookup (same_spot (v, p)) js)
link-found v p [] = refl
link-found v p (j ∷ js) =
    let e = link-next v p j (filter_map (link_from v) js) (lookup (same_spot (v, p)) js) (link-found v p js)
    (j.0.0 == v) refl (j.0.1 == p) refl in
    e ∙ ap₂ (λ a b. option_map place_of (cond (a && b) (Some j.1) (lookup (same_spot (v, p)) js))) (eqb-flip j.0.0 v)
    (eqb-flip j.0.1 p)

pub peer-found : (plan : TopologyPlan) (v p : ℕ)
    → peer_of (links_of plan v) p ≡ option_map place_of (peer_in_plan plan v p)
peer-found plan v p = link-found v p (both_ways (link_joints plan))

-- whether a member sees the port
pub sees-port : (g : Grant) (p : ℕ) → has_port (g.ports.outside ++ g.ports.links) p ≡ sees g.ports p
sees-port g p = list_any-append (λ q. q == p) g.ports.outside g.ports.links

-- what is true of each entry is true of the best one
each-best : (P : Entry → Type 0) (h : HeaderOf) (es : List Entry) → AllByRecursion P es → IfSome (best_entry es h) P
each-best P h es each = highest-each P (λ (e : Entry). holds e.normal h) (λ (e : Entry). e.rank) es each

-- the entry of the best one's number is the best one
pub best-found : (t : TableOf) (h : HeaderOf) (s : ℕ) → IsSound t
    → Some s ≡ option_map (λ (e : Entry). e.serial) (best_entry t.entries h)
    → find (has_serial s) t.entries ≡ best_entry t.entries h
best-found t h s sound f = by (best_entry t.entries h) refl
    (each-best (λ e. find (has_serial e.serial) t.entries ≡ Some e) h t.entries
    (each_found ◌==◌ Decides-eqb (λ (e : Entry). e.serial) t.entries sound.once)) f
  where
    by : (o : Option Entry) → best_entry t.entries h ≡ o → IfSome o (λ e. find (has_serial e.serial) t.entries ≡ Some e)
        → Some s ≡ option_map (λ (e : Entry). e.serial) o → find (has_serial s) t.entries ≡ o
    by None e p f = cc
    by (Some d) e p f = let same : s ≡ d.serial = cc in ap (λ k. find (has_serial k) t.entries) same ∙ p

-- what is true of each entry is true of the one that is answered
pub copied-each : (P : Entry → Type 0) (o : Option (Bor Entry)) (b : Option Entry) → option_copied o ≡ b → IfSome b P
    → IfSome o (λ e. P e.now)
copied-each P None b e p = tt
copied-each P (Some x) b e p = subst (λ z. IfSome z P) (sym e) p

pub best-in_range : (t : TableOf) (h : HeaderOf) → IsSound t
    → IfSome (best_entry t.entries h) (λ e. AreInRange e.actions)
best-in_range t h sound = each-best (λ e. AreInRange e.actions) h t.entries
    (all-map IsAsWritten (λ e. AreInRange e.actions) t.entries (λ e w. w.actions) sound.written)

pub best-numbered : (t : TableOf) (h : HeaderOf) → IsSound t
    → IfSome (best_entry t.entries h) (λ e. 2 + e.serial < 2 ^ 64)
best-numbered t h sound =
    each-best (λ e. 2 + e.serial < 2 ^ 64) h t.entries
    (all-map (λ e. (0 < e.serial) × (e.serial < t.next)) (λ e. 2 + e.serial < 2 ^ 64) t.entries
    (λ e g. let l : e.serial < t.next = g.1 in let f : t.next + 1 < 2 ^ 64 = sound.fits in omega arith) sound.given)

-- a member's ports are listed in rising order, as all are
pub rising-at : (gs : List Grant) (i : ℕ) (g : Grant) → All SeesRising gs → slice_get gs i ≡ Some g → AreRising g.ports
rising-at gs i g all e =
    let s : SeesRising g = subst SeesRising (get_or_from_slice_get gs i g g e) (all i g (slice_get_within gs i g e)) in
    s.ports
