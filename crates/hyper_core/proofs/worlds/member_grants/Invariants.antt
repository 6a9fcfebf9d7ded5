use Rattle.std.proofs.Common.{◌≡◌, map, take}
use Rattle.hyper_core.specs.Worlds.{grant_of}
use Rattle.hyper_core.proofs.worlds.member_grants.Given as goal

abbrev pub invariant-loop-item : goal.invariant-loop-item
invariant-loop-item l = l.grants ≡ map grant_of (take l.item-index l.items)
