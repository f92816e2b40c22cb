use Rattle.clfs_block.proofs.Words.{◌≡◌, ◌-◌, eqb, address, address_in, first_failing}
use Rattle.clfs_block.proofs.decoder.first_wrong_sector.Given as goal

-- the first wrong sector from here on is the first of all
abbrev pub invariant-loop-sector : goal.invariant-loop-sector
invariant-loop-sector l =
    first_failing (λ i. eqb (address_in l.bytes i) (address l.fn.start i)) l.sector (l.count - l.sector)
    ≡ first_failing (λ i. eqb (address_in l.bytes i) (address l.fn.start i)) 0 l.count
