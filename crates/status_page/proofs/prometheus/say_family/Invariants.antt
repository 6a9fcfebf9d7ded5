use Rattle.std.proofs.Common.{◌≡◌, ◌++◌, take}
use Rattle.std.specs.List.{flat_map}
use Rattle.status_page.specs.Measures.{help_of, kind_of, name_of}
use Rattle.status_page.specs.Metrics.{head_of, sample_of}
use Rattle.status_page.proofs.prometheus.say_family.Given as goal

abbrev pub invariant-loop-endpoint : goal.invariant-loop-endpoint
invariant-loop-endpoint l = l.text ≡ l.fn.text ++ head_of (name_of l.measure) (help_of l.measure) (kind_of l.measure) ++ flat_map (sample_of l.measure) (take l.endpoint-index l.endpoints)
