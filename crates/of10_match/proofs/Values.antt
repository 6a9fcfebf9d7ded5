-- What holds of the values of two matches holds of those of their meet.
use Rattle.std.proofs.Common.{Bool, true, false, Option, Some, None}
use Rattle.std.specs.Prelude.{IfSome, if◌then◌else◌}
use Rattle.std.specs.Bool.{then_some}
use Rattle.std.specs.Option.{option_or}
use Rattle.of10_match.specs.Matching.{longer, is_longer}
use Rattle.of10_match.specs.declared.header.Prefix.{Prefix}

pub if_some_or : {A : Type 0} (P : A → Type 0) (x y : Option A) → IfSome x P → IfSome y P → IfSome (option_or x y) P
if_some_or P None y p q = q
if_some_or P (Some v) y p q = p

if_some_either : (P : Prefix → Type 0) (b : Bool) (w v : Prefix) → P v → P w → IfSome (if b then Some w else Some v) P
if_some_either P true w v p q = q
if_some_either P false w v p q = p

pub if_some_longer : (P : Prefix → Type 0) (x y : Option Prefix) → IfSome x P → IfSome y P → IfSome (longer x y) P
if_some_longer P None y p q = q
if_some_longer P (Some v) None p q = p
if_some_longer P (Some v) (Some w) p q = if_some_either P (is_longer w v) w v p q

pub if_some_then : {A : Type 0} (P : A → Type 0) (b : Bool) (x : A) → P x → IfSome (then_some b x) P
if_some_then P true x p = p
if_some_then P false x p = tt
