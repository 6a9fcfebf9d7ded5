-- What holds in any case holds of what a result says.
use Rattle.std.specs.Prelude.{Result, Ok, Err, OnErr, OnOk}

-- what holds in any case holds where memory is wanted, and where there is a result
pub in_any_case : {T E P : Type 0} (r : Result T E) → P → OnErr r P
in_any_case (Ok x) p = tt
in_any_case (Err e) p = p

pub in_ok_case : {T E P : Type 0} (r : Result T E) → P → OnOk r P
in_ok_case (Ok x) p = p
in_ok_case (Err e) p = tt
