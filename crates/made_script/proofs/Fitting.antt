-- The messages of a script can be written.
use Rattle.std.proofs.Common.{◌≡◌, ◌<◌, ◌^◌, ℕ, ◌+◌, Bool, true, false, List, [], ◌∷◌, length, refl, arith}
use Rattle.std.proofs.Common.{length-append}
use Rattle.std.specs.Prelude.{if◌then◌else◌}
use Rattle.std.proofs.lemmas.Bool.{le-leb}
use Rattle.std.proofs.lemmas.List.Elements.{All-from_recursion}
use Rattle.of10_actions.specs.Actions.{AreInRange, IsInRange}
use Rattle.of10_actions.specs.Spelling.{spellings}
use Rattle.of10_actions.specs.declared.action.Action.{Action}
use Rattle.of10_actions.specs.declared.action.Action.TheVariants.{Output}
use Rattle.of10_match.specs.Fields.{MatchOf}
use Rattle.of10_match.specs.Wildcards.{match_bytes}
use Rattle.of10_msgs.specs.Ranges.{CanWrite}
use Rattle.of10_msgs.specs.Spelling.{body_bytes, flow_mod_fields}
use Rattle.made_script.specs.Script.{addition, counts, from_net, is_monitor, message_of, net_of, port_of, routes}
use Rattle.made_script.specs.Script.{to_net}

match_long : (m : MatchOf) → length (match_bytes m) ≡ 40
match_long m = refl

addition_long : (k : ℕ) (m : MatchOf) (actions : List Action)
    → length (body_bytes (addition k m actions).body) ≡ 64 + length (spellings actions)
unfolding body_bytes flow_mod_fields
addition_long k m actions = rw length-append (omega (arith, match_long m))

-- an addition whose actions are in range, and fit
addition_fits : (k : ℕ) (m : MatchOf) (actions : List Action) → AreInRange actions
    → 72 + length (spellings actions) < 2 ^ 16 → CanWrite (addition k m actions).body
addition_fits k m actions in_range fits =
    let size = addition_long k m actions in
    record { long = le-leb 72 _ (omega (arith, size)); fits = omega (arith, size, fits); in_range = (refl, in_range) }

-- the message of each number
message_by : (monitors : Bool) (k d : ℕ) → CanWrite (if monitors then counts k d else routes k d).body
message_by true k d = addition_fits k (from_net (net_of d)) [] (All-from_recursion IsInRange [] tt) (omega arith)
message_by false k d =
    let action = Output (port_of d) 0 in
    addition_fits k (to_net (net_of d)) (action ∷ []) (All-from_recursion IsInRange (action ∷ []) (tt, tt))
    (omega arith)

pub message_fits : (k d : ℕ) → CanWrite (message_of k d).body
message_fits k d = message_by (is_monitor k) k d
