-- A doubt is decided.
use Rattle.std.proofs.Common.{◌≡◌, ◌∙◌, ℕ, ◌<◌, ◌≤◌, Bool, true, false, List, [], ◌∷◌, ◌++◌, Option, Some, None}
use Rattle.std.proofs.Common.{refl, sym, ap, ap₂, arith}
use Rattle.std.specs.Prelude.{find, fold, if◌then◌else◌, nat_lt, slice_get}
use Rattle.std.proofs.lemmas.Bool.Decides.{nat_tests}
use Rattle.member_state.specs.Changes.{touched, without}
use Rattle.member_table.specs.Entries.{has_serial}
use Rattle.member_table.specs.declared.entry.Entry.{Entry}
use Rattle.machine_meaning.specs.Counted.{count_of}
use Rattle.machine_meaning.specs.Drafts.{Draft}
use Rattle.event_ends.specs.InsideSettling.{decided_in}
use Rattle.machine_meaning.specs.Lists.{changed_at}
use Rattle.machine_meaning.specs.Removing.{owing, with_kept}
use Rattle.machine_meaning.specs.Settling.{all_decided, decided_on, entries_at, with_risen, without_idle}
use Rattle.machine_meaning.specs.States.{MemberOf}
use Rattle.machine_meaning.specs.declared.state.Owed.{Owed}
use Rattle.waitings.specs.declared.state.Doubt.{Doubt}

-- the entry that is in doubt
abbrev entry_in : Draft → Doubt → Option Entry
entry_in d doubt = find (has_serial doubt.serial) (entries_at (slice_get d.state.members doubt.member))

-- it went meanwhile
pub none_decided : (d : Draft) (doubt : Doubt) (e : Option Entry) → e ≡ entry_in d doubt → e ≡ None
    → d ≡ decided_in d doubt
none_decided d doubt e found none =
    ap (λ (o : Option Entry). record d { state = decided_on o doubt d.state }) (sym none ∙ found)

-- its count rose
pub risen_decided : (d : Draft) (doubt : Doubt) (o : Option Entry) (e : Entry) (packets : ℕ) (ms : List MemberOf)
    → o ≡ entry_in d doubt → o ≡ Some e → packets ≡ (count_of d.state doubt.member doubt.serial).packets
    → doubt.packets < packets
    → ms ≡ changed_at doubt.member (with_kept (touched doubt.serial d.state.moment)) d.state.members
    → record d { state = record d.state { members = ms } } ≡ decided_in d doubt
risen_decided d doubt o e packets ms found some counted more is =
    let rose : nat_lt doubt.packets (count_of d.state doubt.member doubt.serial).packets ≡ true =
    ap (nat_lt doubt.packets) (sym counted)
    ∙ (let h : nat_lt doubt.packets packets ≡ true = grind (arith, nat_tests) in h) in
    ap (λ (ms : List MemberOf). record d { state = record d.state { members = ms } }) is
    ∙ (ap (λ (b : Bool). record d { state = if b then with_risen doubt d.state else without_idle doubt e d.state })
    (sym rose)
    ∙ ap (λ (o : Option Entry). record d { state = decided_on o doubt d.state }) (sym some ∙ found))

-- it didn't
pub idle_decided : (d : Draft) (doubt : Doubt) (o : Option Entry) (e : Entry) (packets : ℕ) (ms : List MemberOf)
    (owed : List Owed)
    → o ≡ entry_in d doubt → o ≡ Some e → packets ≡ (count_of d.state doubt.member doubt.serial).packets
    → packets ≤ doubt.packets
    → ms ≡ changed_at doubt.member (with_kept (without doubt.serial)) d.state.members
    → owed ≡ d.state.owed ++ owing doubt.member 0 d.state.moment (e ∷ [])
    → record d { state = record d.state { members = ms; owed = owed } } ≡ decided_in d doubt
idle_decided d doubt o e packets ms owed found some counted few is owes =
    let stood : nat_lt doubt.packets (count_of d.state doubt.member doubt.serial).packets ≡ false =
    ap (nat_lt doubt.packets) (sym counted)
    ∙ (let h : nat_lt doubt.packets packets ≡ false = grind (arith, nat_tests) in h) in
    ap₂ (λ (ms : List MemberOf) (os : List Owed). record d { state = record d.state { members = ms; owed = os } })
    is owes
    ∙ (ap (λ (b : Bool). record d { state = if b then with_risen doubt d.state else without_idle doubt e d.state })
    (sym stood)
    ∙ ap (λ (o : Option Entry). record d { state = decided_on o doubt d.state }) (sym some ∙ found))

-- doubt by doubt
pub each_decided : (d : Draft) (doubts : List Doubt) → fold decided_in d doubts ≡ all_decided doubts d
each_decided d [] = refl
each_decided d (x ∷ xs) = each_decided (decided_in d x) xs
