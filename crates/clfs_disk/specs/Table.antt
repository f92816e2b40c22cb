-- Files that are kept as a list, one element for each.
use Rattle.std.specs.Prelude.{ℕ, List, [], map, slice_index_or, Vec}
use Rattle.std.specs.declared.alloc.Global.{Global}
use Rattle.clfs_disk.specs.Files.{Files}

-- What a part of each element holds. A file past the list's end is empty.
abbrev pub files_by : {A : Type 0} → (A → List ℕ) → List A → Files
files_by part elements file = slice_index_or (map part elements) file []

-- The files that vectors hold.
abbrev pub files_of : List (Vec ℕ Global) → Files
files_of = files_by (λ bytes. bytes.items)
