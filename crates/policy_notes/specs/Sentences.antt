-- What a fault of a policy file says to the operator: what was written, and what would be right.
use Rattle.std.specs.Prelude.{ℕ, Bool, true, false, ◌+◌, ◌==◌, ◌++◌, List, [], ◌∷◌, Option, Some, None, codes, decimal}
use Rattle.std.specs.Prelude.{if◌then◌else◌}
use Rattle.inner_paths.specs.declared.fault.PathFault.{PathFault}
use Rattle.inner_paths.specs.declared.fault.PathFault.TheVariants as path
use Rattle.policies.specs.Showing.{shown}
use Rattle.policies.specs.declared.fault.PolicyFault.{PolicyFault}
use Rattle.policies.specs.declared.fault.PolicyFault.TheVariants.{Long, Syntax, Key, Missing, Value, Expr, Topology}
use Rattle.policies.specs.declared.fault.PolicyFault.TheVariants.{Paths, TooWide, Memory}
use Rattle.policy_expr.specs.declared.fault.ExprFault.{ExprFault}
use Rattle.policy_expr.specs.declared.fault.ExprFault.TheVariants as expr
use Rattle.policy_file.specs.Keys.{kind_key}
use Rattle.policy_file.specs.declared.keys.ItemKind.{ItemKind}
use Rattle.policy_file.specs.declared.keys.ItemKind.TheVariants.{Switch, Cable, Virtual, Link, Member}
use Rattle.policy_notes.specs.Allowed.{allowed, keys, rows_in, version_text}
use Rattle.policy_notes.specs.Names.{is_item, is_kind, key_in}
use Rattle.policy_notes.specs.declared.places.Place.{Place}
use Rattle.virtual_topology.specs.declared.fault.TopologyFault.{TopologyFault}
use Rattle.virtual_topology.specs.declared.fault.TopologyFault.TheVariants as topology

-- a kind of item, as a sentence names it
unfoldable pub item_noun : Option ItemKind → List ℕ
item_noun (Some kind) = codes "no key of a " ++ shown (kind_key kind)
item_noun None = codes "no top key"

-- what there is, where something else is named
unfoldable pub there_is : List ℕ → List ℕ
there_is [] = []
there_is (c ∷ names) = codes "; there is " ++ (c ∷ names)

-- what is written behind a name, where that is known
unfoldable pub is_written : List ℕ → List ℕ
is_written [] = []
is_written (c ∷ text) = codes " = " ++ (c ∷ text)

-- a key that may not stand there
unfoldable pub key_sentence : Place → List ℕ → List ℕ
key_sentence place name =
    (((((item_noun place.item ++ codes " is called ") ++ shown (key_in name)) ++ codes "; ") ++ version_text place.version)
    ++ codes "there are ") ++ keys place.version (rows_in place.item)

-- a key that is missing
unfoldable pub missing_sentence : Place → List ℕ → List ℕ
missing_sentence place name = (name ++ codes " is missing: it is ") ++ allowed place.item (key_in name)

-- why a value can't stand there: it is another's, or not such as is wanted
unfoldable pub why_not : Place → List ℕ → List ℕ
why_not place name =
    if place.taken then codes ": another one has it"
    else (codes ": has to be " ++ (allowed place.item (key_in name) ++ there_is place.others))

-- a top key that lists no tables
unfoldable pub tables_sentence : List ℕ → List ℕ
tables_sentence name = codes ": has to be a list of tables, each under [[" ++ (name ++ codes "]]")

-- what is wrong with a value: a top key lists no tables, or the value isn't such
unfoldable pub value_fault : Place → List ℕ → List ℕ
value_fault place name = if is_kind name then tables_sentence name else why_not place name

-- a value can't stand there, or an item is one too many
unfoldable pub value_sentence : Place → List ℕ → List ℕ
value_sentence place name =
    name ++ (if is_item name then codes ": at most 32 members" else (is_written place.written ++ value_fault place name))

-- a name between words
abbrev pub between : List ℕ → List ℕ → List ℕ → List ℕ
between before name behind = (before ++ name) ++ behind

-- an expression
unfoldable pub expr_sentence : Place → List ℕ → ExprFault → List ℕ
expr_sentence place name (expr.Syntax at) =
    between (codes "character ") (decimal (at + 1)) (codes " can't stand there, or the text ends too soon")
expr_sentence place name (expr.Unknown other) = between other (codes " is no member of ") name ++ there_is place.others
expr_sentence place name (expr.Twice other) = between [] other (codes " stands twice")
expr_sentence place name (expr.Unused other) = between (codes "member ") other (codes " has to stand in it")
expr_sentence place name (expr.TooMany leaves) = between [] (decimal leaves) (codes " members, of at most 12")
expr_sentence place name (expr.ParallelLeft other) =
    between [] other (codes " stands left of +, so it may have no actions but output and controller")
expr_sentence place name expr.Memory = codes "out of memory"

-- an expression can't be so
unfoldable pub expression_sentence : Place → List ℕ → ExprFault → List ℕ
expression_sentence place name fault =
    name ++ (codes ", expr" ++ (is_written place.written ++ (codes ": " ++ expr_sentence place name fault)))

-- the shape of links and cables, by where the port stands
unfoldable pub shape_sentence : Option ItemKind → List ℕ
shape_sentence (Some Cable) = codes "a cable joins ports of two switches"
shape_sentence (Some Link) = codes "a link joins link ports of two virtual switches"
shape_sentence (Some Switch) = codes "this link port is an end of no link"
shape_sentence (Some Virtual) = codes "this link port is an end of no link"
shape_sentence (Some Member) = codes "this link port is an end of no link"
shape_sentence None = codes "a link or a cable can't be so"

-- what there are too many of, by where and by the limit
unfoldable pub many_noun : Option ItemKind → Bool → List ℕ
many_noun (Some Cable) few = codes " cables"
many_noun (Some Link) few = codes " links"
many_noun (Some Switch) true = codes " switches"
many_noun (Some Virtual) true = codes " virtual switches"
many_noun (Some Member) true = codes " switches"
many_noun None true = codes " switches"
many_noun (Some Switch) false = codes " ports"
many_noun (Some Virtual) false = codes " ports"
many_noun (Some Member) false = codes " ports"
many_noun None false = codes " ports"

-- a topology can't be so
unfoldable pub topology_sentence : Place → TopologyFault → List ℕ
topology_sentence place (topology.PortTwice name) = between (codes "port ") name (codes " is used twice")
topology_sentence place (topology.Unknown name) = between (codes "there is no port ") name []
topology_sentence place (topology.LinkShape name) = name ++ (codes ": " ++ shape_sentence place.item)
topology_sentence place (topology.Mixed name) =
    between [] name (codes ": virtual switches that links join have to lie on one switch")
topology_sentence place (topology.TooMany name limit) =
    name ++ (codes ": at most " ++ (decimal limit ++ many_noun place.item (limit == 16)))
topology_sentence place topology.Memory = codes "out of memory"

-- there are no paths
unfoldable pub paths_sentence : PathFault → List ℕ
paths_sentence (path.Unreachable from to) =
    between (codes "no cables lead from ") from (codes " to ")
    ++ between [] to (codes ", where one virtual switch has ports")
paths_sentence path.Memory = codes "out of memory"

-- a virtual switch needs too many levels
unfoldable pub wide_sentence : List ℕ → ℕ → ℕ → List ℕ
wide_sentence name needed limit =
    name ++ (codes " needs " ++ (decimal needed ++ (codes " levels of priority over all hops, of "
    ++ (decimal limit ++ codes ": fewer bits, or fewer hops"))))

-- what the reader of TOML says
unfoldable pub syntax_sentence : Place → List ℕ
syntax_sentence place = codes "not TOML: " ++ place.written

-- what a fault says
abbrev pub sentence_of : Place → PolicyFault → List ℕ
sentence_of place Long = codes "more than 1,048,576 bytes"
sentence_of place Syntax = syntax_sentence place
sentence_of place (Key name) = key_sentence place name
sentence_of place (Missing name) = missing_sentence place name
sentence_of place (Value name) = value_sentence place name
sentence_of place (Expr name fault) = expression_sentence place name fault
sentence_of place (Topology fault) = topology_sentence place fault
sentence_of place (Paths fault) = paths_sentence fault
sentence_of place (TooWide name needed limit) = wide_sentence name needed limit
sentence_of place Memory = codes "out of memory"
