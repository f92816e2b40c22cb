-- A group that is written after the open blocks of a file.
use Rattle.clfs_physical.proofs.Words.{◌⊎◌, inl, inr, ⊎_elim, ℕ, ◌+◌, List, ◌++◌, ◌∙◌, Files, TornIn, DiskState, Leaves, IsBehind, HasBlocks, SameLengths}
use Rattle.clfs_physical.proofs.Words.{HasGroup, HasNone}
use Rattle.clfs_container.specs.Writing.{OthersStay}
use Rattle.clfs_physical.proofs.Lengths.{torn_lengths, lengths_then}
use Rattle.clfs_physical.proofs.Joining.{leaves_both}

others_then : (file : ℕ) (a b c : Files) → OthersStay file a b → OthersStay file b c → OthersStay file a c
others_then file a b c first second other apart = second other apart ∙ first other apart

-- while the body is written
pub none_yet : (sectors file : ℕ) (blocks : List (List ℕ)) (rest at n : ℕ) (more : List (List ℕ)) (left : ℕ) (old : Files) (a b : DiskState)
    → Leaves (λ image. IsBehind sectors file blocks rest at image × OthersStay file old image) a b
    → Leaves (TornIn file (at + 1) n old) a b
    → Leaves (λ image. HasNone sectors file blocks rest at old image ⊎ HasGroup sectors file blocks more left old image) a b
none_yet sectors file blocks rest at n more left old a b keeps torn =
    leaves_both (λ image. IsBehind sectors file blocks rest at image × OthersStay file old image) (TornIn file (at + 1) n old)
    (λ image. HasNone sectors file blocks rest at old image ⊎ HasGroup sectors file blocks more left old image) a b
    (λ image kept within. inl (record { behind = kept.0; others = kept.1; lengths = torn_lengths file (at + 1) n old image within }))
    keeps torn

-- while the gate is opened
pub all_or_none : (sectors file : ℕ) (blocks : List (List ℕ)) (rest at : ℕ) (more : List (List ℕ)) (left : ℕ) (old mid : Files) (b c : DiskState)
    → OthersStay file old mid → SameLengths old mid
    → Leaves (λ image. (IsBehind sectors file blocks rest at image ⊎ HasBlocks sectors file (blocks ++ more) left image) × OthersStay file mid image) b c
    → Leaves (TornIn file at 1 mid) b c
    → Leaves (λ image. HasNone sectors file blocks rest at old image ⊎ HasGroup sectors file blocks more left old image) b c
all_or_none sectors file blocks rest at more left old mid b c others lengths opens torn =
    leaves_both (λ image. (IsBehind sectors file blocks rest at image ⊎ HasBlocks sectors file (blocks ++ more) left image) × OthersStay file mid image)
    (TornIn file at 1 mid)
    (λ image. HasNone sectors file blocks rest at old image ⊎ HasGroup sectors file blocks more left old image) b c
    (λ image either within.
    let apart = others_then file old mid image others either.1 in
    let long = lengths_then old mid image lengths (torn_lengths file at 1 mid image within) in
    ⊎_elim (λ (behind : IsBehind sectors file blocks rest at image). inl (record { behind = behind; others = apart; lengths = long }))
    (λ (has : HasBlocks sectors file (blocks ++ more) left image). inr (record { blocks_are = has; others = apart; lengths = long })) either.0)
    opens torn

-- after both
pub has_group : (sectors file at n : ℕ) (blocks more : List (List ℕ)) (left : ℕ) (old mid new : Files)
    → OthersStay file old mid → TornIn file (at + 1) n old mid → TornIn file at 1 mid new
    → HasBlocks sectors file (blocks ++ more) left new × OthersStay file mid new → HasGroup sectors file blocks more left old new
has_group sectors file at n blocks more left old mid new others first second has = record {
  blocks_are = has.0;
  others = others_then file old mid new others has.1;
  lengths = lengths_then old mid new (torn_lengths file (at + 1) n old mid first) (torn_lengths file at 1 mid new second);
}
