-- Three records by their heads, and the bases of two streams.
use Rattle.std.specs.Prelude.{ℕ, ◌==◌, if◌then◌else◌, List, [], ◌∷◌}
use Rattle.clfs_lsn.specs.Lsn.{null_lsn, lsn_number}
use Rattle.clfs_lsn.specs.declared.entry.Head.{Head}
use Rattle.clfs_lsn.specs.declared.entry.Kind.TheVariants.{Plain, Restart}

-- a record of 10 bytes of stream 1
abbrev pub first_head : Head
first_head = record {
  lsn = lsn_number 1 0 0;
  stream = 1;
  kind = Plain;
  previous = null_lsn;
  undo_next = null_lsn;
  new_base = null_lsn;
  len = 10;
}

-- one of 100 bytes of stream 2, in the same block, with a link to a record of stream 1
abbrev pub second_head : Head
second_head = record {
  lsn = lsn_number 1 0 1;
  stream = 2;
  kind = Plain;
  previous = lsn_number 1 0 0;
  undo_next = null_lsn;
  new_base = null_lsn;
  len = 100;
}

-- a restart area of 960 bytes of stream 1, in the next block
abbrev pub third_head : Head
third_head = record {
  lsn = lsn_number 1 512 0;
  stream = 1;
  kind = Restart;
  previous = lsn_number 1 0 0;
  undo_next = null_lsn;
  new_base = null_lsn;
  len = 960;
}

-- all three
abbrev pub three_heads : List Head
three_heads = first_head ∷ second_head ∷ third_head ∷ []

-- the bases of streams 1 and 2
abbrev pub bases_of : ℕ → ℕ → ℕ → ℕ
bases_of first second stream = if stream == 1 then first else second
