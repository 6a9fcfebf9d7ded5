-- What holds of the value of a success.
use Rattle.std.proofs.Common.{Result, Ok, Err, IfOk, OnErr, OnOk}

pub if_ok : {A E : Type 0} (P Q : A → Type 0) (r : Result A E) → ((a : A) → P a → Q a) → IfOk r P → IfOk r Q
if_ok P Q (Ok a) f h = f a h
if_ok P Q (Err e) f h = tt

pub if_ok_both : {A E : Type 0} (P R Q : A → Type 0) (r : Result A E) → ((a : A) → P a → R a → Q a) → IfOk r P
    → IfOk r R → IfOk r Q
if_ok_both P R Q (Ok a) f h g = f a h g
if_ok_both P R Q (Err e) f h g = tt

pub on_ok : {A E : Type 0} (P Q : Type 0) (r : Result A E) → (P → Q) → OnOk r P → OnOk r Q
on_ok P Q (Ok a) f h = f h
on_ok P Q (Err e) f h = tt

pub on_err : {A E : Type 0} (P Q : Type 0) (r : Result A E) → (P → Q) → OnErr r P → OnErr r Q
on_err P Q (Ok a) f h = tt
on_err P Q (Err e) f h = f h
