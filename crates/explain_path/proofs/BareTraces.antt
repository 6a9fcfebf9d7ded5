-- What traces don't look at.
use Rattle.std.proofs.Common.{◌≡◌, ℕ, zero, suc, Bool, true, false, List, [], ◌∷◌, ◌++◌, Option, Some, None, refl, ap}
use Rattle.std.proofs.Common.{ap₂, ◌∙◌, sym}
use Rattle.std.specs.Prelude.{map, slice_get, option_map, if◌then◌else◌}
use Rattle.std.proofs.lemmas.Option.{slice_get-map}
use Rattle.of10_match.specs.Fields.{HeaderOf}
use Rattle.of10_actions.specs.Rewriting.{apply}
use Rattle.policy_expr.specs.Policy.{Policy, member, parallel, sequential, override}
use Rattle.policy_meaning.specs.Hops.{leads}
use Rattle.policy_meaning.specs.Leaf.{best_entry, is_inside}
use Rattle.policy_meaning.specs.Meaning.{evaluate}
use Rattle.policy_meaning.specs.Switches.{SwitchOf}
use Rattle.policy_meaning.specs.Walk.{takes}
use Rattle.policy_meaning.specs.declared.leaf.LeafEntry.{LeafEntry}
use Rattle.policy_meaning.specs.declared.leaf.LeafTable.{LeafTable}
use Rattle.policy_meaning.specs.declared.meaning.Meaning.{Meaning}
use Rattle.policy_meaning.specs.declared.network.Network.{Network}
use Rattle.packet_map.specs.Bare.{bare, bare_entry, bare_switch, bare_table}
use Rattle.packet_map.proofs.BareWalks.{best-bare, meaning-bare}
use Rattle.explain_path.specs.Bare.{TracesAreBare}
use Rattle.explain_path.specs.Traces.{asked, asked_after, asked_member, asked_over, does, entry_kind, hop_trace, trace}
use Rattle.explain_path.specs.Traces.{traced_at, traced_on}
use Rattle.explain_path.specs.declared.trace.HopTrace.{HopTrace}

kind-by : (o : Option LeafEntry) → entry_kind (option_map bare_entry o) ≡ entry_kind o
kind-by None = refl
kind-by (Some e) = refl

kind-if : (t : LeafTable) (h : HeaderOf) (b : Bool)
    → (if b then entry_kind (best_entry (map bare_entry t.entries) h) else 0)
    ≡ (if b then entry_kind (best_entry t.entries h) else 0)
kind-if t h true = ap entry_kind (best-bare h t.entries) ∙ kind-by (best_entry t.entries h)
kind-if t h false = refl

member-bare : (i : ℕ) (o : Option LeafTable) (h : HeaderOf)
    → asked_member i (option_map bare_table o) h ≡ asked_member i o h
member-bare i None h = refl
member-bare i (Some t) h = ap (λ kind. record { member = t.member; kind = kind; used = true })
    (kind-if t h (is_inside t h))

module _ (tables : List LeafTable) where
  does-bare : (e : Policy) (h : HeaderOf) → does (map bare_table tables) e h ≡ does tables e h
  does-bare e h = ap (λ (leaf : ℕ → HeaderOf → Meaning). evaluate leaf e h) (λ j i k. meaning-bare k tables i j)

  asked-bare : (e : Policy) (h : HeaderOf) → asked (map bare_table tables) e h ≡ asked tables e h
  asked-bare (member i) h =
      ap (λ (o : Option LeafTable). asked_member i o h ∷ []) (slice_get-map bare_table tables i)
      ∙ ap (λ l. l ∷ []) (member-bare i (slice_get tables i) h)
  asked-bare (parallel a b) h = ap₂ (λ x y. x ++ y) (asked-bare a h) (asked-bare b h)
  asked-bare (sequential a b) h = λ j. asked-bare a h j ++ asked_after (does-bare a h j).tail
      (λ r. asked-bare b (apply r h) j)
  asked-bare (override a b) h = λ j. asked_over (does-bare a h j).touched (asked-bare a h j) (asked-bare b h j)

  hop-bare : (s : SwitchOf) (v : ℕ) (h : HeaderOf)
      → hop_trace (map bare_table tables) s.expr v h ≡ hop_trace tables s.expr v h
  hop-bare s v h = λ j. record { v = v; port = h.in_port; leaves = asked-bare s.expr h j }

  at-bare : (o : Option SwitchOf) (v : ℕ) (h : HeaderOf) (one other : ℕ → HeaderOf → List HopTrace)
      → ((u : ℕ) (k : HeaderOf) → one u k ≡ other u k) →
      traced_at (map bare_table tables) (option_map bare_switch o) v h one ≡ traced_at tables o v h other
  at-bare None v h one other same = refl
  at-bare (Some s) v h one other same = λ j.
      if takes s.spread h
      then hop-bare s v h j ∷ traced_on (leads (does-bare s.expr h j).tail s.links h.in_port) (λ u k. same u k j) h
      else []

module _ (net : Network) where
  trace-bare : (n v : ℕ) (h : HeaderOf) → trace (bare net) n v h ≡ trace net n v h
  trace-bare zero v h = refl
  trace-bare (suc n) v h =
      ap (λ (o : Option SwitchOf). traced_at (bare net).tables o v h (trace (bare net) n))
      (slice_get-map bare_switch net.switches v)
      ∙ at-bare net.tables (slice_get net.switches v) v h (trace (bare net) n) (trace net n) (λ u k. trace-bare n u k)

pub traces_are_bare : TracesAreBare
traces_are_bare a b e n v h = sym (trace-bare a n v h)
    ∙ (ap (λ (net : Network). trace net n v h) e ∙ trace-bare b n v h)
