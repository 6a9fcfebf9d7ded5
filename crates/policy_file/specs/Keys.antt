-- The keys of a policy file: which may stand, which have to, and in which version.
use Rattle.std.specs.Prelude.{ℕ, Bool, true, false, codes, List, [], ◌∷◌, Option, Some, None}
use Rattle.policy_file.specs.declared.keys.ItemKind.{ItemKind}
use Rattle.policy_file.specs.declared.keys.ItemKind.TheVariants.{Switch, Cable, Virtual, Link, Member}
use Rattle.policy_file.specs.declared.keys.Version.{Version}
use Rattle.policy_file.specs.declared.keys.Version.TheVariants.{One, Two}

-- a key, whether it has to stand, and the one version in which it may, if not in each
pub record Row : Type 0 where
  pub key : List ℕ
  pub needed : Bool
  pub only : Option Version

abbrev pub needed : List ℕ → Row
needed key = record { key = key; needed = true; only = None }

abbrev pub optional : List ℕ → Row
optional key = record { key = key; needed = false; only = None }

abbrev pub only_in : Version → List ℕ → Row
only_in version key = record { key = key; needed = false; only = Some version }

-- the keys of the file itself
abbrev pub top_rows : List Row
top_rows =
    optional (codes "cable") ∷ optional (codes "hops") ∷ optional (codes "link") ∷ optional (codes "listen") ∷
    optional (codes "member") ∷ optional (codes "rounds") ∷ only_in Two (codes "standby") ∷ optional (codes "switch") ∷
    needed (codes "version") ∷ optional (codes "virtual") ∷ []

-- the keys of an item
abbrev pub item_rows : ItemKind → List Row
item_rows Switch = needed (codes "dpid") ∷ needed (codes "name") ∷ needed (codes "ports") ∷ []
item_rows Cable = needed (codes "a") ∷ needed (codes "b") ∷ []
item_rows Virtual = needed (codes "dpid") ∷ needed (codes "expr") ∷ needed (codes "name") ∷ needed (codes "ports") ∷ []
item_rows Link = needed (codes "a") ∷ needed (codes "b") ∷ []
item_rows Member =
    optional (codes "actions") ∷ optional (codes "address") ∷ needed (codes "bits") ∷ needed (codes "controller") ∷
    optional (codes "entries") ∷ optional (codes "match") ∷ optional (codes "misses") ∷ optional (codes "packet_out") ∷
    optional (codes "ports") ∷ only_in One (codes "region") ∷ only_in Two (codes "regions") ∷ needed (codes "virtual")
    ∷ []

-- the top key that lists the items
abbrev pub kind_key : ItemKind → List ℕ
kind_key Switch = codes "switch"
kind_key Cable = codes "cable"
kind_key Virtual = codes "virtual"
kind_key Link = codes "link"
kind_key Member = codes "member"

-- the kinds of item, in the order in which they are looked through
abbrev pub item_kinds : List ItemKind
item_kinds = Switch ∷ Cable ∷ Virtual ∷ Link ∷ Member ∷ []
