-- What is true of each state of a machine.
use Rattle.std.specs.Prelude.{◌≡◌, ◌==◌, ℕ, ◌^◌, ◌<◌, ◌≤◌, Bool, true, false, None, Some, IfSome, Ok, List, [], All}
use Rattle.std.specs.Prelude.{length, map, is_some, slice_get, ◌||◌, zip, ◌+◌, ◌-◌, ◌++◌}
use Rattle.std.specs.List.{AllByRecursion, IsDistinct, list_any}
use Rattle.std.specs.List.Sorted.{IsStrictlySortedBy}
use Rattle.std.specs.Map.{keys_of}
use Rattle.std.specs.Option.{option_map_or}
use Rattle.agreement.specs.Entries.{entries_of}
use Rattle.cv_io.specs.Leaves.{same_leaf}
use Rattle.cv_io.specs.declared.leaf.Who.TheVariants.{Member, Switch}
use Rattle.install_plan.specs.Tables.{entry_of}
use Rattle.install_plan.specs.declared.written.Written.{Written}
use Rattle.member_state.specs.Sound.{AreWithin}
use Rattle.member_state.specs.States.{IsSoundState as IsSoundTable}
use Rattle.member_table.specs.declared.entry.Entry.{Entry}
use Rattle.of10_actions.specs.Actions.{FitsTypes}
use Rattle.of10_match.specs.Ranges.{IsMatch}
use Rattle.outbox.specs.Outboxes.{OutboxOf}
use Rattle.policy_expr.specs.Policy.{Policy}
use Rattle.policies.specs.Exprs.{exprs_of}
use Rattle.policies.specs.Policies.{PolicyOf, plan}
use Rattle.policies.specs.Widths.{too_wide_in}
use Rattle.policies.specs.declared.policy.MemberItem.{MemberItem}
use Rattle.stats_map.specs.Counting.{cookie_at, is_named, place_cmp}
use Rattle.switch_meaning.specs.Batches.{by_key}
use Rattle.switch_meaning.specs.Keys.{installed}
use Rattle.switch_state.specs.Known.{is_outstanding, nothing_known}
use Rattle.virtual_topology.specs.declared.plan.VirtualItem.{VirtualItem}
use Rattle.machine_meaning.specs.Counted.{is_one_of, leaf_at, leaf_of, leaves_of}
use Rattle.machine_meaning.specs.Names.{all_ports, virtual_of}
use Rattle.machine_meaning.specs.Sessions.{is_up, standing_of}
use Rattle.machine_meaning.specs.Settings.{setting_of}
use Rattle.machine_meaning.specs.States.{MemberOf, State, SwitchOf}
use Rattle.waitings.specs.Waitings.{asker_of}
use Rattle.waitings.specs.declared.state.Asker.{Asker}
use Rattle.machine_meaning.specs.declared.state.Owed.{Owed}
use Rattle.waitings.specs.declared.state.Part.{Part}
use Rattle.waitings.specs.declared.state.Waiting.{Waiting}

-- a virtual switch with another text of its expression
abbrev pub with_text : VirtualItem × List ℕ → VirtualItem
with_text (x, text) = record x { expr = text }

-- the expressions are those of some texts at the policy's virtual switches, and there are levels enough for them
pub record AreExpressions (p : PolicyOf) (exprs : List Policy) : Type 0 where
  pub texts : List (List ℕ)
  pub long : length texts ≡ length p.virtuals
  pub read : exprs_of (map with_text (zip p.virtuals texts)) p.members ≡ Ok exprs
  pub fit : too_wide_in (plan p) p.members exprs p.hops ≡ None

-- the values of an entry are in their ranges, as they are where its message was read from bytes
pub record IsTyped (e : Entry) : Type 0 where
  pub match_in_range : IsMatch e.normal
  pub actions : All FitsTypes e.actions

-- and so are those of each entry of a member
abbrev pub AreTyped : MemberOf → Type 0
AreTyped x = AllByRecursion IsTyped x.kept.table.entries

-- nothing waits for a session that isn't up
abbrev pub IsOutbox : OutboxOf → Type 0
IsOutbox o = o.up ≡ false → o.waiting ≡ []

-- a member's table is sound, each of its entries is within the grant, and it has the limit and the levels of the policy
pub record IsSoundMember (p : PolicyOf) (m : MemberItem) (x : MemberOf) : Type 0 where
  pub outbox : IsOutbox x.outbox
  pub sound : IsSoundTable x.kept
  pub within : AreWithin m.grant (all_ports p (virtual_of m)) x.kept
  pub limit : x.kept.table.limit ≡ m.entries
  pub few : length x.kept.table.entries ≤ m.entries
  pub size : x.kept.levels.size ≡ 2 ^ m.bits

-- an entry with the cookie stands
abbrev pub stands : List Written → ℕ → Bool
stands standing cookie = list_any (λ (w : Written). w.cookie == cookie) standing

-- the cookie was written in the present round of a switch
abbrev pub IsOfRound : SwitchOf → ℕ → Written → Type 0
IsOfRound x next w = (x.known.first ≤ w.cookie) × (w.cookie < next)

-- What stands on a switch that is up is what the setting gives. Cookies of its round were written before the next one,
-- and each of them stands once, or was deleted and isn't reported, or neither.
pub record IsSoundSwitch (p : PolicyOf) (s : State) (n : ℕ) (x : SwitchOf) : Type 0 where
  pub outbox : IsOutbox x.outbox
  pub down : x.outbox.up ≡ false → (x.known ≡ nothing_known 0) × (standing_of s n ≡ [])
  pub gives : x.outbox.up ≡ true → map entry_of (standing_of s n) ≡ by_key (installed (entries_of (setting_of p s) n))
  pub begun : x.known.first ≤ s.next_cookie
  pub cookies : AllByRecursion (IsOfRound x s.next_cookie) (standing_of s n)
  pub deleted : AllByRecursion (λ cookie. cookie < s.next_cookie) x.known.deleted
  pub once : IsDistinct ◌==◌ (map (λ (w : Written). w.cookie) (standing_of s n) ++ x.known.deleted)
  pub xid : x.known.xid < 2 ^ 32

-- who waits is up
abbrev pub IsUpAsker : State → Asker → Type 0
IsUpAsker s a = is_up s (Member a.member) ≡ true

-- something is waited for, at switches that are up, and by a member that is up, if by one
pub record IsSoundWaiting (s : State) (w : Waiting) : Type 0 where
  pub some : 0 < length w.parts
  pub parts : AllByRecursion (λ (part : Part). is_up s (Switch part.switch) ≡ true) w.parts
  pub asker : IfSome (asker_of w.purpose) (IsUpAsker s)

-- what is owed can't go yet
abbrev pub IsSoundOwed : State → Owed → Type 0
IsSoundOwed s o = is_named s.counts (leaf_of o.member o.entry) ≡ true

-- an entry with the cookie stands on the switch of a number, or was deleted and isn't reported
abbrev pub matters_at : State → ℕ → ℕ → Bool
matters_at s n cookie =
    stands (standing_of s n) cookie
    || option_map_or (λ (x : SwitchOf). is_outstanding x.known cookie) (slice_get s.switches n) false

-- an entry of a member matters: it is in the member's table, or its FLOW_REMOVED is owed
abbrev pub is_counted : State → ℕ → ℕ → Bool
is_counted s n serial = is_one_of (leaves_of s) (leaf_at n serial)

-- the serial number that the next entry of a member gets
abbrev pub next_of : State → ℕ → ℕ
next_of s n = option_map_or (λ (x : MemberOf). x.kept.table.next) (slice_get s.members n) 0

-- Counts are of the cookies that matter, and no other. They name entries that were there. An entry that matters isn't
-- to be forgotten. One that doesn't is to be, if a cookie names it, and else there is no total of it.
pub record AreSoundCounts (s : State) : Type 0 where
  pub sorted : IsStrictlySortedBy place_cmp (keys_of s.counts.live)
  pub live : (n cookie : ℕ) → is_some (cookie_at (n, cookie) s.counts) ≡ matters_at s n cookie
  pub once : IsDistinct same_leaf (leaves_of s)
  pub given : (n serial : ℕ) → is_named s.counts (leaf_at n serial) ≡ true → serial < next_of s n
  pub kept : (n serial : ℕ) → is_counted s n serial ≡ true → s.counts.forgotten (leaf_at n serial) ≡ false
  pub going :
      (n serial : ℕ) → is_counted s n serial ≡ false
      → s.counts.forgotten (leaf_at n serial) ≡ is_named s.counts (leaf_at n serial)
  pub gone :
      (n serial : ℕ) → is_counted s n serial ≡ false → is_named s.counts (leaf_at n serial) ≡ false
      → s.counts.totals (leaf_at n serial) ≡ record { packets = 0; bytes = 0 }

-- numbers are left: cookies, and serial numbers of entries
pub record HasNumbers (s : State) : Type 0 where
  pub cookies : s.next_cookie < 2 ^ 64 - 1
  pub serials : AllByRecursion (λ (x : MemberOf). x.kept.table.next + 1 < 2 ^ 64) s.members

-- what the setting of a state asks of it: expressions over the policy's members, and their tables
pub record AreSoundTables (p : PolicyOf) (s : State) : Type 0 where
  pub exprs : AreExpressions p s.exprs
  pub all_members : length s.members ≡ length p.members
  pub members :
      (n : ℕ) (m : MemberItem) (x : MemberOf) → slice_get p.members n ≡ Some m → slice_get s.members n ≡ Some x
      → IsSoundMember p m x

-- what is true of each state
pub record IsSoundState (p : PolicyOf) (s : State) : Type 0 where
  pub exprs : AreExpressions p s.exprs
  pub all_members : length s.members ≡ length p.members
  pub all_switches : length s.switches ≡ length p.switches
  pub all_standing : length s.standing ≡ length p.switches
  pub members :
      (n : ℕ) (m : MemberItem) (x : MemberOf) → slice_get p.members n ≡ Some m → slice_get s.members n ≡ Some x
      → IsSoundMember p m x
  pub typed : AllByRecursion AreTyped s.members
  pub switches : (n : ℕ) (x : SwitchOf) → slice_get s.switches n ≡ Some x → IsSoundSwitch p s n x
  pub counts : AreSoundCounts s
  pub waiting : AllByRecursion (IsSoundWaiting s) s.waiting
  pub owed : AllByRecursion (IsSoundOwed s) s.owed
  pub written : (0 < s.next_cookie) × (s.next_cookie < 2 ^ 64)
