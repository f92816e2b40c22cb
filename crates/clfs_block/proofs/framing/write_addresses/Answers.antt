use Rattle.clfs_block.proofs.Words.{◌≡◌, ◌+◌, ◌*◌, ◌<◌, ◌≤◌, ◌^◌, ⊎_elim, ℕ, List, length, get_or, drop, sym, ◌∙◌, ap, subst, arith, cases_lt, cases_eq}
use Rattle.clfs_block.proofs.Words.{get_or-drop, drop-drop, little_number, address, address_in}
use Rattle.clfs_block.proofs.Splices.{length-spliced, spliced_below, spliced_above, number_spliced, take_spliced, same_address}
use Rattle.clfs_block.proofs.framing.write_addresses.Goals as goal

pub loop-sector-preserved : goal.loop-sector-preserved
loop-sector-preserved c =
    let from = c.args.from in
    let s = c.loop-sector.sector in
    let kept = c.loop-sector.invariant in
    let old = c.loop-sector.buffer.items in
    let new = c.put_number.new.out.items in
    let first = c.number-first.result in
    let at = from + 512 * s + 504 in
    let number = first + 512 * s in
    let lt : s < c.args.count = c.loop-sector-test.true in
    let room : at + 8 ≤ length old = omega (arith, lt, kept.size) in
    let put = c.put_number.ensures.items in
    let is : number ≡ address c.args.start s = omega (arith, c.number-first.ensures, c.from_parts.ensures, c.container.ensures.value, c.offset.ensures.value) in
    let small : number < 2 ^ 64 = omega (
      arith,
      c.number-first.ensures,
      c.from_parts.ensures,
      c.container.type_inv,
      c.offset.ensures.value,
      c.requires.container,
      lt,
      c.requires.count,
    ) in
    -- a byte of the block that isn't one of the eight is as it was
    let below : (k : ℕ) → k < 512 * s + 504 → get_or (drop from new) k 0 ≡ get_or (drop from old) k 0 =
    λ k low. get_or-drop from new k 0 ∙ spliced_below old at number room new put (from + k) (omega (arith, low)) ∙ sym (get_or-drop from old k 0) in
    let above : (k : ℕ) → 512 * s + 512 ≤ k → get_or (drop from new) k 0 ≡ get_or (drop from old) k 0 =
    λ k high. get_or-drop from new k 0 ∙ spliced_above old at number room new put (from + k) (omega (arith, high)) ∙ sym (get_or-drop from old k 0) in
    let index : from + (512 * s + 504) ≡ at = omega arith in
    let there : address_in (drop from new) s ≡ number =
    ap (λ (l : List ℕ). little_number 8 l) (drop-drop (512 * s + 504) from new ∙ ap (λ (n : ℕ). drop n new) index)
    ∙ number_spliced old at number room new put small in
    record {
      size = length-spliced old at number room new put ∙ kept.size;
      before = take_spliced old at number room new put from (omega arith) ∙ kept.before;
      payload = λ k lt. ⊎_elim
          (λ (low : k < 512 * s + 504). below k low)
          (λ (high : 512 * s + 504 ≤ k). above k (omega (arith, high, lt)))
          (cases_lt k (512 * s + 504)) ∙ kept.payload k lt;
      done = λ i until. ⊎_elim
          (λ (here : i ≡ s). subst (λ (j : ℕ). address_in (drop from new) j ≡ address c.args.start j) (sym here) (there ∙ is))
          (λ apart. same_address (drop from new) (drop from old) i (λ k from to. below k (omega (arith, until, apart, to)))
          ∙ kept.done i (omega (arith, until, apart)))
          (cases_eq i s);
      capacity = c.put_number.ensures.capacity ∙ kept.capacity;
    }
