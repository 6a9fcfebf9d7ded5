use Rattle.std.proofs.Common.{◌≡◌, ◌≤◌, Some, sym, arith}
use Rattle.script_text.specs.Numbers.{number_in}
use Rattle.script_text.proofs.Digits.{number_is}
use Rattle.command_line.proofs.forms.read_count.Goals as goal

pub overflow_cast-result : goal.overflow_cast-result
overflow_cast-result c =
    let read : number_in 2000 c.args.word.now ≡ Some c.in-Some.count = sym c.in-Some.ensures in
    let most : c.in-Some.count ≤ 2000 = (number_is 2000 c.args.word.now c.in-Some.count read).1 in
    omega (arith, most)
