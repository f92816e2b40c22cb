-- Facts of tests and options.
use Rattle.clfs_cells_laws.proofs.Words.{◌≡◌, Bool, true, false, MatchBool}

pub where_not : (b : Bool) (A B : Type 0) → b ≡ false → MatchBool b A B → B
where_not true A B e x = absurd (cc e)
where_not false A B e x = x

pub where_so : (b : Bool) (A B : Type 0) → b ≡ true → MatchBool b A B → A
where_so true A B e x = x
where_so false A B e x = absurd (cc e)
