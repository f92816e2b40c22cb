use Rattle.clfs_block.proofs.Words.{◌≡◌, ◌+◌, ◌*◌, ℕ, true, false, eqb, sym, ◌∙◌, ap, arith, address, address_in}
use Rattle.clfs_block.proofs.Searches.{passes_on, fails_here}
use Rattle.clfs_block.proofs.decoder.first_wrong_sector.Goals as goal

pub loop-sector-preserved : goal.loop-sector-preserved
loop-sector-preserved c =
    let i = c.loop-sector.sector in
    let start = c.args.start in
    let bytes = c.args.bytes.now in
    let is : c.number-first.result + 512 * i ≡ address start i =
    omega (arith, c.number-first.ensures, c.from_parts.ensures, c.container.ensures.value, c.offset.ensures.value) in
    let right : eqb (address_in bytes i) (address start i) ≡ true =
    ap (λ (n : ℕ). eqb (address_in bytes i) n) (sym is) ∙ sym c.has_address.ensures ∙ c.if-not-has_address.false in
    passes_on (λ k. eqb (address_in bytes k) (address start k)) i c.args.count c.loop-sector-test.true right ∙ c.loop-sector.invariant

pub returns-then-not-has_address-clause-exact : goal.returns-then-not-has_address-clause-exact
returns-then-not-has_address-clause-exact c =
    let i = c.loop-sector.sector in
    let start = c.args.start in
    let bytes = c.args.bytes.now in
    let is : c.number-first.result + 512 * i ≡ address start i =
    omega (arith, c.number-first.ensures, c.from_parts.ensures, c.container.ensures.value, c.offset.ensures.value) in
    let wrong : eqb (address_in bytes i) (address start i) ≡ false =
    ap (λ (n : ℕ). eqb (address_in bytes i) n) (sym is) ∙ sym c.has_address.ensures ∙ c.if-not-has_address.true in
    sym (fails_here (λ k. eqb (address_in bytes k) (address start k)) i c.args.count c.loop-sector-test.true wrong) ∙ c.loop-sector.invariant
