-- Facts on what a call answered.
use Rattle.clfs_race.proofs.Words.{Ok, Err, Result}
use Rattle.std.specs.Prelude.{OnOk, OnErr}

pub on_ok : {T E : Type 0} (answer : Result T E) (P Q : Type 0) → (P → Q) → OnOk answer P → OnOk answer Q
on_ok (Ok x) P Q more is = more is
on_ok (Err e) P Q more is = tt

pub on_err : {T E : Type 0} (answer : Result T E) (P : Type 0) → P → OnErr answer P
on_err (Ok x) P is = tt
on_err (Err e) P is = is
