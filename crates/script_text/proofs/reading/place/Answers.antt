use Rattle.std.proofs.Common.{◌≡◌, ◌+◌, List, ℕ, Some, Ok, take, drop, drop-drop, sym, ap, ◌∙◌, arith}
use Rattle.script_text.specs.Numbers.{number_in}
use Rattle.script_text.specs.Reading.{◌>>=◌, number_or_fault, place_about, switch_in}
use Rattle.script_text.specs.declared.fault.LineFault.TheVariants.{Name}
use Rattle.script_text.proofs.Digits.{number_is}
use Rattle.script_text.proofs.reading.place.Goals as goal

pub overflow_cast-result : goal.overflow_cast-result
overflow_cast-result c =
    omega (
      arith,
      (number_is 65535 c.split_at-2.result.1.now c.in-Some-decimal_number.port
          (sym c.in-Some-decimal_number.ensures)).1,
    )

pub returns : goal.returns
returns c =
    let word = c.args.word.now in
    let at = c.in-Some.at in
    let rest : c.split_at-2.result.1.now ≡ drop (at + 1) word = c.split_at-2.ensures.back
    ∙ (ap (drop 1) c.split_at.ensures.back ∙ drop-drop 1 at word) in
    let port : number_in 65535 (drop (at + 1) word) ≡ Some c.in-Some-decimal_number.port =
    ap (number_in 65535) (sym rest) ∙ sym c.in-Some-decimal_number.ensures in
    let switch : switch_in (take at word) ≡ Ok c.in_ok-switch.switch = ap switch_in (sym c.split_at.ensures.front)
    ∙ sym c.in_ok-switch.ensures in
    sym (ap (place_about word) (sym c.in-Some.ensures.place)
    ∙ (λ i. number_or_fault Name (port i) >>= λ p. switch i >>= λ s. Ok (s, p)))
