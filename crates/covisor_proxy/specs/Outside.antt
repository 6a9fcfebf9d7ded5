-- What is told and counted of all that is outside, at a moment.
use Rattle.std.specs.Prelude.{◌≡◌, ℕ, Bool, true, List, Option}
use Rattle.outside.specs.Connections.{Connection}
use Rattle.outside.specs.declared.files.MemFile.{MemFile}
use Rattle.outside.specs.declared.links.Endpoint.{Endpoint}
use Rattle.covisor_proxy.specs.Outcomes.{Moment, moment}

-- what the files hold and what the connections of an endpoint are, where these are told; whether its dial never fails;
-- how many calls failed of the files, of the links and of the spawner; and what a replay reads, writes and counts
pub record Outside : Type 0 where
  pub files : Option (List MemFile)
  pub fails : ℕ
  pub told : Endpoint → Option (List Connection)
  pub reliable : Endpoint → Bool
  pub dials : ℕ
  pub spawns : ℕ
  pub now : Moment

abbrev pub outside_of : (files : Option (List MemFile)) (fails : ℕ) (left : Option (List ℕ)) (reads : ℕ)
    (held : Option (List ℕ)) (writes : ℕ) (told : Endpoint → Option (List Connection)) (reliable : Endpoint → Bool)
    (dials spawns steps : ℕ) → Outside
outside_of files fails left reads held writes told reliable dials spawns steps = record {
  files = files;
  fails = fails;
  told = told;
  reliable = reliable;
  dials = dials;
  spawns = spawns;
  now = moment left reads held writes steps;
}

-- no dial ever fails
abbrev pub NeverFail : Outside → Type 0
NeverFail outside = (end : Endpoint) → outside.reliable end ≡ true
