-- How long the words of a line are.
use Rattle.std.proofs.Common.{◌≡◌, ℕ, ◌+◌, ◌^◌, ◌<◌, ◌≤◌, List, ◌++◌, length, length-append, replicate, arith, inl, inr}
use Rattle.std.specs.Prelude.{◌==◌}
use Rattle.std.specs.Fmt.{decimal}
use Rattle.std.proofs.lemmas.Bool.{cases_Bool}
use Rattle.std.proofs.lemmas.Fmt.{length-decimal-le}
use Rattle.std.proofs.lemmas.List.{length-replicate}
use Rattle.hex.specs.Hex.{lower_digits}
use Rattle.hex.proofs.HexLemmas.{length-encode_with}
use Rattle.clfs_lsn.specs.Words.{data_text}

-- a number of 32 bits
pub decimal_short : (n : ℕ) → n < 2 ^ 32 → length (decimal n) ≤ 10
decimal_short n small = length-decimal-le 10 n (omega arith) (omega arith) (omega arith)

-- a client
pub client_short : (n : ℕ) → n ≤ 4 → length (decimal n) ≤ 1
client_short n small = length-decimal-le 1 n (omega arith) (omega arith) (omega arith)

-- the most data of a line
pub same_short : (size byte : ℕ) → size ≤ 400 → length (data_text (replicate size byte)) ≤ 800
same_short size byte small = elim (cases_Bool (length (replicate size byte) == 0)) [
  | inl none ↦ rw none (omega arith)
  | inr some ↦
      let digits = length-encode_with lower_digits (replicate size byte) in
      let many : length (replicate size byte) ≡ size = length-replicate size byte in
      rw some (omega arith)
]

-- a text with more at its end
pub more_short : (out more after : List ℕ) (before many most : ℕ) → length out ≤ before → length more ≤ many → before + many ≤ most → after ≡ out ++ more
    → length after ≤ most
more_short out more after before many most first second all is = rw is (simp length-append (omega arith))
