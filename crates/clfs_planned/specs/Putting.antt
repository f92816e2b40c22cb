-- Bytes that are put where there is room. It stands here since a trait's law can cite definitions alone.
use Rattle.std.specs.Prelude.{◌≡◌, ◌≢◌, ℕ, ◌+◌, ◌<◌, ◌≤◌, true, false, List, length}
use Rattle.std.proofs.Common.{eqb, leb, cond, ap, arith}
use Rattle.std.proofs.lemmas.Bool.{le-leb}
use Rattle.std.proofs.lemmas.Bool.Decides.{nat_tests}
use Rattle.clfs_disk.specs.Files.{overwritten}
use Rattle.clfs_planned.specs.Moments.{put}

pub here : (f : ℕ) → eqb f f ≡ true
here f = grind (arith, nat_tests)

pub apart_is : (f file : ℕ) → f ≢ file → eqb f file ≡ false
apart_is f file apart = grind (arith, nat_tests)

pub put_is : (at : ℕ) (bytes old : List ℕ) → at + length bytes ≤ length old → put at bytes old ≡ overwritten old at bytes
put_is at bytes old room = ap (λ b. cond b (overwritten old at bytes) old) (le-leb _ _ room)

pub put_none : (at : ℕ) (bytes old : List ℕ) → length old < at + length bytes → put at bytes old ≡ old
put_none at bytes old past = let no : leb (at + length bytes) (length old) ≡ false = grind (arith, nat_tests) in
    ap (λ b. cond b (overwritten old at bytes) old) no
