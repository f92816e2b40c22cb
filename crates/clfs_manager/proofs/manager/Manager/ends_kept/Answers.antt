use Rattle.clfs_manager.proofs.Words.{◌≡◌, ◌∙◌, ℕ, ◌*◌, ◌≤◌, arith, true, false, length, refl, subst, sym, Some, nat_le, heads_from, State, block_start}
use Rattle.clfs_manager.proofs.Words.{heads_of, BlockEnd, KeepsFew, HasForgotten, Holds, hold_start, Log}
use Rattle.std.proofs.lemmas.List.Sums.{count_by-le-length, length-filter}
use Rattle.clfs_archive.specs.Blocks.{blocks_from, sealed_lasts}
use Rattle.clfs_manager.specs.Memory.{lasts_needed}
use Rattle.clfs_manager.proofs.KeptHeads.{seen}
use Rattle.clfs_manager.proofs.manager.Manager.ends_kept.Goals as goal

low_is : (s : State) (log : Log) → Holds s log → HasForgotten s log → log.tables.low ≡ hold_start s
low_is s log holds forgotten = omega (arith, holds.low, forgotten.low)

-- the ends from the hold's container on are just those that are needed
needed : (s : State) (log : Log) → Holds s log → HasForgotten s log
    → length (blocks_from log.tables.low log.archive.blocks) ≡ length (heads_from log.tables.low (sealed_lasts (block_start s.place) (heads_of s)))
    → length (blocks_from log.tables.low log.archive.blocks) ≡ length (lasts_needed s)
needed s log holds forgotten are =
    subst (λ (n : ℕ). length (blocks_from log.tables.low log.archive.blocks) ≡ length (heads_from n (sealed_lasts (block_start s.place) (heads_of s))))
    (low_is s log holds forgotten) are

few : (s : State) (log : Log) (count : ℕ) → HasForgotten s log → count ≡ length log.archive.blocks
    → length (blocks_from log.tables.low log.archive.blocks) ≡ length (lasts_needed s) → count ≤ 2 * length (lasts_needed s)
few s log count forgotten is are = omega (arith, is, forgotten.ends, are)

all : (s : State) (log : Log) (count : ℕ) → count ≡ length log.archive.blocks
    → length (blocks_from log.tables.low log.archive.blocks) ≡ length (lasts_needed s) → length (lasts_needed s) ≤ count
all s log count is are =
    let test : BlockEnd → _ = λ (block : BlockEnd). nat_le log.tables.low block.last in
    omega (arith, is, are, length-filter test log.archive.blocks, count_by-le-length test log.archive.blocks)

pub returns : goal.returns
returns g c =
    let log : Log = c.self.inside.log in
    let s : State = log.state.value in
    let opened = c.self.invariant.whole c.if-self.false in
    let are = needed s log opened.memory opened.forgotten
    (c.len.ensures.sealed log.tables.low log.tables.low (block_start s.place) (heads_of s) (omega arith) opened.memory.sealed) in
    seen (λ (t : State). KeepsFew t true (length (lasts_needed t)) (Some c.len.result)) (s, c.self.inside.disk) c.args.self.now c.self.view_is (record {
      there = λ _. refl;
      all = all s log c.len.result c.len.ensures.value are;
      few = few s log c.len.result opened.forgotten c.len.ensures.value are;
      broken = λ broken. let wrong : false ≡ true = sym (c.self.invariant.broken ∙ c.if-self.false) ∙ broken in absurd (cc wrong);
    })
