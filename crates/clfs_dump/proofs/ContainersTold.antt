-- What is told of containers and of logs, over files that are the same.
use Rattle.clfs_dump.proofs.Words.{ℕ, List, Option, Result, subst, Shape, Row, Files, Unchanged, container_line, blocks_told, container_told, DumpRefusal}
use Rattle.clfs_dump.proofs.Words.{Selection}
use Rattle.clfs_dump.specs.Telling.{behind_lines}
use Rattle.clfs_dump.proofs.Walks.{PrintsTold}

-- a container that was printed of files is printed of those that hold the same
pub told_still : (selection : Selection) (rows : List Row) (shape : Shape) (now first : Files) (id number : ℕ) → Unchanged first now
    → (a b : Option (List ℕ)) (r : Result ℕ DumpRefusal)
    → PrintsTold a b (container_told selection rows shape now id number) r → PrintsTold a b (container_told selection rows shape first id number) r
told_still selection rows shape now first id number same a b r printed =
    subst (λ (file : List ℕ). PrintsTold a b (behind_lines (container_line id number) (blocks_told selection rows shape id file shape.container_sectors 0)) r)
    (same number) printed
