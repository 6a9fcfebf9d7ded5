use Rattle.std.proofs.Common.{◌≡◌, ◌++◌, map, drop}
use Rattle.std.specs.Option.{option_map}
use Rattle.policy_file.specs.Values.{each_of, virtual_port}
use Rattle.policy_file.proofs.words.each_virtual_port.Given as goal

abbrev pub invariant-loop-word : goal.invariant-loop-word
invariant-loop-word l =
    option_map (λ ys. l.ports ++ ys) (each_of virtual_port (map (λ w. w.now) (drop l.word-index l.words)))
    ≡ each_of virtual_port (map (λ w. w.now) l.words)
