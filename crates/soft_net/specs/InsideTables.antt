-- What a table keeps inside.
use Rattle.std.specs.Prelude.{◌≡◌, ℕ, ◌<◌, true, false, List, [], ◌∷◌, map, Option, MatchOption}
use Rattle.std.specs.BTreeMap.{is_at as is_at_key}
use Rattle.std.specs.List.{AllByRecursion, list_any}
use Rattle.std.specs.Map.{remove_entry}
use Rattle.std.specs.Ordering.{nat_cmp}
use Rattle.std.specs.Prelude.{IsPermutation, Some, None, find, option_to_list, ◌++◌, if◌then◌else◌}
use Rattle.match_index.specs.Items.{has_id}
use Rattle.match_index.specs.InsideGroups.{SameItems}
use Rattle.match_index.specs.declared.item.Item.{Item}
use Rattle.of10_stats.specs.declared.reply.FlowStat.{FlowStat}
use Rattle.soft_net.specs.Answers.{removal_of, stat}
use Rattle.soft_net.specs.Entries.{IsAsWritten, has_serial, is_at, item_of, outputs_to}
use Rattle.soft_net.specs.declared.answer.Answer.{Answer}
use Rattle.soft_net.specs.declared.entry.Key.{Key}
use Rattle.soft_net.specs.declared.entry.SoftEntry.{SoftEntry}

-- an entry under its number
abbrev pub under_serial : SoftEntry → ℕ × SoftEntry
under_serial e = (e.serial, e)

-- the entries of pairs
abbrev pub entries_in : List (ℕ × SoftEntry) → List SoftEntry
entries_in ps = map (λ (p : ℕ × SoftEntry). p.1) ps

-- each number is above those before it
abbrev pub AreRising : List SoftEntry → Type 0
AreRising [] = Unit {0}
AreRising (e ∷ es) = AllByRecursion (λ d. e.serial < d.serial) es × AreRising es

-- a key without a number is no entry's; that of a number is the key of the entry of this number alone
abbrev pub IsKeyed : Option ℕ → Key → List SoftEntry → Type 0
IsKeyed number k es = MatchOption number (AllByRecursion (λ e. is_at k e ≡ false) es)
    (λ s. AllByRecursion (λ e. is_at k e ≡ has_serial s e) es × (list_any (has_serial s) es ≡ true))

-- the pairs without that of a number, if one is given
abbrev pub less_entries : Option ℕ → List (ℕ × SoftEntry) → List (ℕ × SoftEntry)
less_entries None ps = ps
less_entries (Some s) ps = remove_entry (is_at_key (nat_cmp s)) ps

-- the second list has the items of the first but that of a number, if one is given
abbrev pub HasLess : Option ℕ → List Item → List Item → Type 0
HasLess None xs ys = ys ≡ xs
HasLess (Some s) xs ys = IsPermutation xs (option_to_list (find (has_id s) xs) ++ ys)

-- entries stand under their numbers, which rise and are below the next one, and the index has their matches
pub record IsListing (pairs : List (ℕ × SoftEntry)) (items : List Item) (next : ℕ) : Type 0 where
  pub listed : pairs ≡ map under_serial (entries_in pairs)
  pub rising : AreRising (entries_in pairs)
  pub below : AllByRecursion (λ (e : SoftEntry). e.serial < next) (entries_in pairs)
  pub ranked : SameItems items (map item_of (entries_in pairs))
  pub written : AllByRecursion IsAsWritten (entries_in pairs)

-- and keys find their numbers
pub record IsKept (pairs : List (ℕ × SoftEntry)) (number : Key → Option ℕ) (items : List Item) (next : ℕ) : Type 0 where
  pub listing : IsListing pairs items next
  pub keyed : (k : Key) → IsKeyed (number k) k (entries_in pairs)

-- ---- what is told of an entry, if there is one

-- its number, where it has an OUTPUT to the port
abbrev pub number_if : ℕ → Option SoftEntry → List ℕ
number_if out_port None = []
number_if out_port (Some e) = if outputs_to out_port e then e.serial ∷ [] else []

-- the FLOW_REMOVED that tells that it went
abbrev pub removal_if : Option SoftEntry → List Answer
removal_if None = []
removal_if (Some e) = removal_of e

-- its statistics
abbrev pub stat_if : Option SoftEntry → List FlowStat
stat_if None = []
stat_if (Some e) = stat e ∷ []
