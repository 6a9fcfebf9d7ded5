-- Traces don't look at levels, nor at whether a virtual switch is all of its physical one.
use Rattle.std.specs.Prelude.{◌≡◌, ℕ}
use Rattle.of10_match.specs.Fields.{HeaderOf}
use Rattle.policy_meaning.specs.declared.network.Network.{Network}
use Rattle.packet_map.specs.Bare.{bare}
use Rattle.explain_path.specs.Traces.{trace}

-- networks that differ in nothing else have the same traces
abbrev pub TracesAreBare : Type 0
TracesAreBare = (a b : Network) → bare a ≡ bare b → (n v : ℕ) (h : HeaderOf) → trace a n v h ≡ trace b n v h
