use Rattle.clfs_block.proofs.Words.{◌≡◌, ◌+◌, ◌-◌, ◌*◌, ◌++◌, ◌∙◌, ℕ, List, length, take, drop, replicate, sym, ap, arith, length-drop, take-append-drop}
use Rattle.clfs_block.proofs.Words.{drop-append-le, take-append-le, place_of, head_bytes}
use Rattle.clfs_block.proofs.Sealing.{spells}
use Rattle.clfs_block.proofs.framing.seal_block.Goals as goal

pub returns-clause-sealed : goal.returns-clause-sealed
returns-clause-sealed c =
    let from = c.args.from in
    let old = c.args.buffer.now.items in
    let own : List ℕ = drop from old in
    let used = c.args.used in
    let count = c.sectors_of-count.result in
    let place = c.requires.place in
    let m = from + 512 * count - c.len.result in
    let zeros : List ℕ = replicate m 0 in
    let long : length own ≡ place_of used = omega (arith, place, length-drop from old) in
    let padded : drop from c.push_zeros.new.out.items ≡ own ++ zeros =
    ap (λ (l : List ℕ). drop from l) c.push_zeros.ensures.items ∙ drop-append-le from old zeros (omega (arith, place)) in
    let header = head_bytes c.args.gate count c.args.records used in
    let headed : drop from c.write_header.new.buffer.items ≡ header ++ drop 16 (own ++ zeros) =
    c.write_header.ensures.block ∙ ap (λ (l : List ℕ). c.header_of.result ++ drop 16 l) padded
    ∙ ap (λ (l : List ℕ). l ++ drop 16 (own ++ zeros)) c.header_of.ensures in
    let last = c.write_addresses.new.buffer.items in
    let before : take from last ≡ take from old =
    c.write_addresses.ensures.before ∙ c.write_header.ensures.before ∙ ap (λ (l : List ℕ). take from l) c.push_zeros.ensures.items
    ∙ take-append-le from old zeros (omega (arith, place)) in (
      drop from last,
      sym (take-append-drop from last) ∙ ap (λ (l : List ℕ). l ++ drop from last) before,
      spells c.args.start c.args.gate c.args.records used count m own (drop from c.write_header.new.buffer.items) (drop from last) long c.requires.header
          c.sectors_of-count.ensures headed (omega (arith, c.write_addresses.ensures.length, length-drop from last)) c.write_addresses.ensures.payload
          c.write_addresses.ensures.addresses,
    )
