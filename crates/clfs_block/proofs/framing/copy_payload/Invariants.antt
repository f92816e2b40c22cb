use Rattle.clfs_block.proofs.Words.{◌≡◌, ◌+◌, ◌-◌, ◌%◌, ◌≤◌, ◌++◌, length, vec_capacity, place_of, payload_from}
use Rattle.clfs_lsn.specs.Format.{sector_payload}
use Rattle.clfs_block.proofs.framing.copy_payload.Given as goal

abbrev pub invariant-loop-part : goal.invariant-loop-part
invariant-loop-part l =
    let done = l.fn.count - l.rest in
    record {
      some : l.rest ≤ l.fn.count;
      place : l.place ≡ place_of (l.fn.from + done);
      sector : (l.fn.from + done) % sector_payload + l.part ≡ sector_payload;
      so_far : l.out.items ≡ l.fn.out.items ++ payload_from l.fn.from done l.fn.block;
      room : length l.fn.out.items + l.fn.count ≤ vec_capacity l.out;
    }

abbrev pub decreases-loop-part : goal.decreases-loop-part
decreases-loop-part l = l.rest
