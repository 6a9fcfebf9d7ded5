-- What is known of connections in memory.
use Rattle.std.specs.Prelude.{ℕ, true, List, [], ◌∷◌, Option, Some, None, if◌then◌else◌}
use Rattle.outside.specs.Connections.{Connection, is_same}
use Rattle.outside.specs.declared.links.Endpoint.{Endpoint}
use Rattle.outside.specs.declared.mem_links.MemEnd.{MemEnd}

-- the connections of inputs in memory, none of which fails
abbrev pub connections : List (List ℕ) → List Connection
connections [] = []
connections (input ∷ inputs) = record { bytes = input; is_reliable = true } ∷ connections inputs

-- the item of an endpoint: the first one
abbrev pub end_of : List MemEnd → Endpoint → Option MemEnd
end_of [] end = None
end_of (item ∷ ends) end = if is_same item.end end then Some item else end_of ends end

-- the inputs of the item, or none
abbrev pub inputs_of : Option MemEnd → List (List ℕ)
inputs_of None = []
inputs_of (Some item) = item.inputs

-- the calls of the item's dial that are to fail, or none
abbrev pub fails_of : Option MemEnd → List ℕ
fails_of None = []
fails_of (Some item) = item.fails

-- what is known of a dial in memory: the inputs that are left, the calls that are to fail, how many were made and
-- failed
pub record DialOf : Type 0 where
  pub inputs : List (List ℕ)
  pub fails : List ℕ
  pub made : ℕ
  pub faults : ℕ

-- what is known of links in memory: the endpoints, the calls that are to fail, how many were made, failed, and found no
-- memory
pub record LinksOf : Type 0 where
  pub ends : List MemEnd
  pub fails : List ℕ
  pub made : ℕ
  pub faults : ℕ
  pub wants : ℕ
