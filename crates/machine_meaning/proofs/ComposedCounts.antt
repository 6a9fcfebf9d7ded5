-- What composing does to cookies and counts, while numbers are left.
use Rattle.std.proofs.Common.{◌≡◌, ◌∙◌, ℕ, suc, ◌+◌, ◌-◌, ◌<◌, ◌≤◌, ◌^◌, ◌⊎◌, inl, inr, ⊎_elim, Bool, true, false}
use Rattle.std.proofs.Common.{List, [], ◌∷◌, map, Option, Some, None, if◌then◌else◌, arith, refl, ap, subst, eq-eqb}
use Rattle.std.specs.Prelude.{fold, option_map, slice_get, zip}
use Rattle.std.specs.Option.{option_map_or}
use Rattle.std.specs.List.{AllByRecursion, enumerate_from}
use Rattle.agreement.specs.Entries.{entries_of}
use Rattle.agreement.specs.declared.state.Setting.{Setting}
use Rattle.cv_io.specs.declared.leaf.Leaf.{Leaf}
use Rattle.install_plan.specs.Tables.{after}
use Rattle.install_plan.specs.declared.written.Written.{Written}
use Rattle.member_table.specs.Tables.{TableOf}
use Rattle.member_table.specs.declared.entry.Entry.{Entry}
use Rattle.policies.specs.Policies.{PolicyOf}
use Rattle.policies.specs.declared.policy.MemberItem.{MemberItem}
use Rattle.policy_meaning.specs.declared.leaf.LeafEntry.{LeafEntry}
use Rattle.policy_meaning.proofs.Lists.{all-mapped}
use Rattle.stats_map.specs.Counting.{is_named}
use Rattle.switch_meaning.specs.Keys.{installed}
use Rattle.switch_meaning.specs.declared.entry.PhysEntry.{PhysEntry}
use Rattle.switch_state.specs.Messages.{switch_messages}
use Rattle.switch_state.specs.Sending.{Sending, send_all}
use Rattle.machine_meaning.specs.Batches.{batch_between, coming, next_after}
use Rattle.machine_meaning.specs.Composing.{compose, compose_at, compose_on, write}
use Rattle.machine_meaning.specs.Counted.{leaf_at}
use Rattle.machine_meaning.specs.Drafts.{Draft}
use Rattle.machine_meaning.specs.Lists.{places}
use Rattle.machine_meaning.specs.Sessions.{is_switch, standing_of}
use Rattle.machine_meaning.specs.Settings.{setting_of, table_of}
use Rattle.machine_meaning.specs.States.{MemberOf, State, SwitchOf}
use Rattle.machine_meaning.proofs.Ancestries.{EachLeaf}
use Rattle.machine_meaning.proofs.CountWrites.{next_rises}
use Rattle.machine_meaning.proofs.EntryLeaves.{OfEntry, installed_leaves}
use Rattle.machine_meaning.proofs.KeptCookies.{AreKeptCookies}
use Rattle.machine_meaning.proofs.KeptLeaves.{entries_in}
use Rattle.machine_meaning.proofs.Moves.{numbered}
use Rattle.machine_meaning.proofs.SentKnown.{messages_sent}
use Rattle.machine_meaning.proofs.Tallies.{one}
use Rattle.machine_meaning.proofs.Unchanged.{all_weaker}
use Rattle.machine_meaning.proofs.Views.{View, view_of}
use Rattle.machine_meaning.proofs.WrittenCookies.{coming_holds, installs, written_cookies}

-- the leaves of tables ----------------------------------------------------------------------------------------------

-- a leaf is one of an entry in a table, if it is one of an entry
abbrev pub IsInTable : List MemberOf → Leaf → Type 0
IsInTable members leaf = (n k : ℕ) → leaf ≡ leaf_at n k → 0 < numbered k (entries_in members n)

each_numbered : (es : List Entry) → AllByRecursion (λ (e : Entry). 0 < numbered e.serial es) es
each_numbered [] = tt
each_numbered (e ∷ es) = (
  let c = ap one (eq-eqb e.serial e.serial refl) in omega (arith, c),
  all_weaker (λ (d : Entry). 0 < numbered d.serial es) (λ (d : Entry). 0 < numbered d.serial (e ∷ es))
      (λ d lt. omega (arith, lt)) es (each_numbered es),
)

module _ (ms : List MemberOf) where
  low_leaf : (i kind : ℕ) → kind < 2 → IsInTable ms (record { member = i; kind = kind })
  low_leaf i kind lt n k e = let same = ap (λ (l : Leaf). l.kind) e in absurd (omega (arith, same, lt))

  entry_leaf : (i : ℕ) (x : MemberOf) → slice_get ms i ≡ Some x → (serial : ℕ)
      → 0 < numbered serial x.kept.table.entries → IsInTable ms (record { member = i; kind = 2 + serial })
  entry_leaf i x at serial lt n k e =
      let member = ap (λ (l : Leaf). l.member) e in
      let kind = ap (λ (l : Leaf). l.kind) e in
      let same : serial ≡ k = omega (arith, kind) in
      let there = ap (λ (o : Option MemberOf). numbered serial (option_map_or (λ (t : TableOf). t.entries)
      (option_map (λ (y : MemberOf). y.kept.table) o) [])) at in
      subst (λ (j : ℕ). 0 < numbered k (entries_in ms j)) member
      (subst (λ (q : ℕ). 0 < numbered q (entries_in ms i)) same (omega (arith, there, lt)))

  tables_leaves : (j : ℕ) (items : List MemberItem) (xs : List MemberOf)
      → ((i : ℕ) (x : MemberOf) → slice_get xs i ≡ Some x → slice_get ms (j + i) ≡ Some x)
      → AllByRecursion (EachLeaf (IsInTable ms)) (map table_of (enumerate_from j (zip items xs)))
  tables_leaves j [] [] h = tt
  tables_leaves j [] (x ∷ xs) h = tt
  tables_leaves j (m ∷ items) [] h = tt
  tables_leaves j (m ∷ items) (x ∷ xs) h = (
    record {
      outside = low_leaf j 0 (omega arith);
      miss = low_leaf j 1 (omega arith);
      entries =
          all-mapped (λ (e : Entry). 0 < numbered e.serial x.kept.table.entries)
          (λ (e : LeafEntry). IsInTable ms (record { member = j; kind = 2 + e.serial })) _ x.kept.table.entries
          (λ e lt. entry_leaf j x there e.serial lt) (each_numbered x.kept.table.entries);
    },
    tables_leaves (j + 1) items xs
        (λ i y e. ap (slice_get ms) (let f : (j + 1) + i ≡ j + suc i = omega arith in f) ∙ h (suc i) y e),
  )
    where
      there : slice_get ms j ≡ Some x
      there = ap (slice_get ms) (let f : j ≡ j + 0 = omega arith in f) ∙ h 0 x refl

pub setting_leaves : (p : PolicyOf) (s : State) (n : ℕ)
    → AllByRecursion (OfEntry (IsInTable s.members)) (installed (entries_of (setting_of p s) n))
setting_leaves p s n =
    installed_leaves (IsInTable s.members) (setting_of p s)
    (tables_leaves s.members 0 p.members s.members
    (λ i x e. ap (slice_get s.members) (let f : 0 + i ≡ i = omega arith in f) ∙ e)) n

-- composing ---------------------------------------------------------------------------------------------------------

fits_after : (next : ℕ) (ws : List Written) → next < 2 ^ 64 → next_after next ws < 2 ^ 64
fits_after next [] h = h
fits_after next (w ∷ ws) h = fits_after (after next) ws (omega arith)

-- what is written to switches so far, against a view
pub record AreWritten (P : Leaf → Type 0) (v : View) (d : Draft) : Type 0 where
  pub members : d.state.members ≡ v.members
  pub owed : d.state.owed ≡ v.owed
  pub cookies : AreKeptCookies d.state.standing d.state.switches d.state.counts d.state.next_cookie
  pub fits : d.state.next_cookie < 2 ^ 64
  pub named : (leaf : Leaf) → is_named d.state.counts leaf ≡ true → (is_named v.counts leaf ≡ true) ⊎ P leaf
  pub more : (leaf : Leaf) → is_named v.counts leaf ≡ true → is_named d.state.counts leaf ≡ true
  pub totals : (leaf : Leaf) → d.state.counts.totals leaf ≡ v.counts.totals leaf
  pub forgotten : (leaf : Leaf) → d.state.counts.forgotten leaf ≡ v.counts.forgotten leaf

-- the next cookie doesn't fall
record Rises (d e : Draft) : Type 0 where
  up : d.state.next_cookie ≤ e.state.next_cookie
  fits : e.state.next_cookie < 2 ^ 64

module _ (setting : Setting) where
  one_rises : (d : Draft) (n : ℕ) → d.state.next_cookie < 2 ^ 64 → Rises d (compose_at setting d n)
  one_rises d n fits = by (slice_get d.state.switches n)
    where
      wanted : List PhysEntry
      wanted = installed (entries_of setting n)

      by : (o : Option SwitchOf) → Rises d (compose_on n o wanted d)
      by None = record { up = omega arith; fits = fits }
      by (Some x) = up x.outbox.up
        where
          up : (u : Bool) → Rises d
              (if u then write n x wanted (batch_between d.state.next_cookie (standing_of d.state n) wanted) d else d)
          up true =
              let ws = coming d.state.next_cookie (standing_of d.state n) wanted in
              record {
                up = next_rises d.state.next_cookie ws fits;
                fits = fits_after d.state.next_cookie ws fits;
              }
          up false = record { up = omega arith; fits = fits }

  all_rise : (ns : List ℕ) (d : Draft) → d.state.next_cookie < 2 ^ 64 → Rises d (fold (compose_at setting) d ns)
  all_rise [] d fits = record { up = omega arith; fits = fits }
  all_rise (n ∷ ns) d fits =
      let first = one_rises d n fits in
      let rest = all_rise ns (compose_at setting d n) first.fits in
      let a = first.up in
      let b = rest.up in
      record { up = omega (arith, a, b); fits = rest.fits }

module _ (P : Leaf → Type 0) (v : View) (setting : Setting)
    (leaves : (n : ℕ) → AllByRecursion (OfEntry P) (installed (entries_of setting n))) where
  one_written : (d : Draft) (n : ℕ) → AreWritten P v d → (compose_at setting d n).state.next_cookie < 2 ^ 64 - 1
      → AreWritten P v (compose_at setting d n)
  one_written d n h left = by (slice_get d.state.switches n) refl left
    where
      wanted : List PhysEntry
      wanted = installed (entries_of setting n)

      stood : List Written
      stood = standing_of d.state n

      next : ℕ
      next = d.state.next_cookie

      one_more : (x : SwitchOf) → slice_get d.state.switches n ≡ Some x → x.outbox.up ≡ true
          → next_after next (coming next stood wanted) < 2 ^ 64 - 1
          → AreWritten P v (write n x wanted (batch_between next stood wanted) d)
      one_more x at up left =
          let begun : Sending = record { known = x.known; messages = [] } in
          let sent = messages_sent (is_switch n d.begun) (batch_between next stood wanted) begun
          (h.cookies.sides n x at).xid in
          let known =
          (send_all (switch_messages (is_switch n d.begun) (batch_between next stood wanted)) begun).known in
          let s = d.state in
          let i = installs s.standing s.switches s.counts next h.cookies h.fits n x at up wanted known sent left in
          record {
            members = h.members;
            owed = h.owed;
            cookies =
                written_cookies s.standing s.switches s.counts next h.cookies h.fits n x at up wanted known sent left;
            fits = fits_after next (coming next stood wanted) h.fits;
            named = λ leaf t. ⊎_elim (λ u. h.named leaf u)
                (λ u. inr (coming_holds P stood wanted (leaves n) leaf u)) (i.named leaf t);
            more = λ leaf t. i.more leaf (h.more leaf t);
            totals = λ leaf. i.totals leaf ∙ h.totals leaf;
            forgotten = λ leaf. i.forgotten leaf ∙ h.forgotten leaf;
          }

      by : (o : Option SwitchOf) → slice_get d.state.switches n ≡ o
          → (compose_on n o wanted d).state.next_cookie < 2 ^ 64 - 1 → AreWritten P v (compose_on n o wanted d)
      by None at left = h
      by (Some x) at left = up x.outbox.up refl left
        where
          up : (u : Bool) → x.outbox.up ≡ u
              → (if u then write n x wanted (batch_between next stood wanted) d else d).state.next_cookie < 2 ^ 64 - 1
              → AreWritten P v (if u then write n x wanted (batch_between next stood wanted) d else d)
          up true e left = one_more x at e left
          up false e left = h

  all_written : (ns : List ℕ) (d : Draft) → AreWritten P v d
      → (fold (compose_at setting) d ns).state.next_cookie < 2 ^ 64 - 1
      → AreWritten P v (fold (compose_at setting) d ns)
  all_written [] d h left = h
  all_written (n ∷ ns) d h left =
      let first = one_rises setting d n h.fits in
      let rest = all_rise setting ns (compose_at setting d n) first.fits in
      let up = rest.up in
      all_written ns (compose_at setting d n) (one_written d n h (omega (arith, up, left))) left

pub composed_written : (p : PolicyOf) (d : Draft)
    → AreKeptCookies d.state.standing d.state.switches d.state.counts d.state.next_cookie
    → d.state.next_cookie < 2 ^ 64 → (compose p d).state.next_cookie < 2 ^ 64 - 1
    → AreWritten (IsInTable d.state.members) (view_of d.state) (compose p d)
composed_written p d h fits left =
    all_written (IsInTable d.state.members) (view_of d.state) (setting_of p d.state) (setting_leaves p d.state)
    (places d.state.switches) d
    (record {
      members = refl;
      owed = refl;
      cookies = h;
      fits = fits;
      named = λ leaf t. inl t;
      more = λ leaf t. t;
      totals = λ leaf. refl;
      forgotten = λ leaf. refl;
    }) left

-- the next cookie as composing begins
pub composed_rises : (p : PolicyOf) (d : Draft) → d.state.next_cookie < 2 ^ 64
    → d.state.next_cookie ≤ (compose p d).state.next_cookie
composed_rises p d fits = (all_rise (setting_of p d.state) (places d.state.switches) d fits).up
