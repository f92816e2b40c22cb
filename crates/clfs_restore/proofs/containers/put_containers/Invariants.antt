use Rattle.clfs_restore.proofs.Words.{◌≡◌, ℕ, ◌+◌, ◌*◌, ◌≤◌, List, ◌++◌, length, map, take, None, vec_len, flat_map, TellsContents, shape_of, piece_bytes}
use Rattle.clfs_restore.proofs.Words.{Reads, AreReadable, pieces_from}
use Rattle.std.proofs.Common.{◌^◌}
use Rattle.clfs_restore.proofs.containers.put_containers.Given as goal

abbrev pub invariant-loop-i : goal.invariant-loop-i
invariant-loop-i g l =
    let first = g.D.Disk.state l.fn.manager.1 in
    record {
      judge : l.judge ≡ record { shape = shape_of l.fn.image; streams = length l.fn.image.streams };
      room : vec_len l.piece ≡ 512 * l.fn.image.container_sectors;
      before : l.draft.before ≡ l.fn.draft.before;
      short : length l.draft.archive ≤ length l.fn.draft.archive + l.i * 2 ^ 30;
      reads : Reads None l.fn.manager.0 l.manager.0 first (g.D.Disk.state l.manager.1);
      blocks : TellsContents first → (blocks : ℕ → List (List ℕ))
          → AreReadable (shape_of l.fn.image) (length l.fn.image.streams) l.fn.from first.files l.fn.numbers blocks
          → l.draft.archive ≡ l.fn.draft.archive ++ flat_map piece_bytes (pieces_from l.fn.from (map blocks (take l.i l.fn.numbers)));
    }
