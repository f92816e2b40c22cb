-- What the definitions alone answer to a script.
use Rattle.std.specs.Prelude.{ℕ, ◌*◌, List, ◌++◌, codes, replicate}
use Rattle.clfs_model.specs.State.{first}
use Rattle.clfs_model.specs.Lines.{lines_of}
use Rattle.clfs_model.specs.Run.{replies_of}
use Rattle.clfs_model.specs.Text.{output_of}
use Rattle.clfs_operations.specs.Answered.{requests_of}

-- the text of the replies to a script's lines where nothing happens and memory suffices
abbrev pub replies_to : List ℕ → List ℕ
replies_to script = let requests = requests_of (lines_of script) in output_of requests (replies_of first requests)

-- the line of an append of so many zero bytes
abbrev pub zeros_line : ℕ → List ℕ
zeros_line count = codes "1 append 1 " ++ (replicate (2 * count) 48 ++ codes " 0:0:0 0:0:0\n")
