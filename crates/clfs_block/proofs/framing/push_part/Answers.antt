use Rattle.clfs_block.proofs.Words.{◌≡◌, ◌++◌, ℕ, List, length, get_or, drop, replicate, ap, ◌∙◌, arith, length-append, length-drop, get_or_append_left}
use Rattle.clfs_block.proofs.Words.{drop-append-le, place_of}
use Rattle.clfs_block.proofs.Frames.{payload_pushed}
use Rattle.clfs_block.proofs.framing.push_part.Goals as goal

pub returns-then-used-part-eq-PAYLOAD-clause-payload : goal.returns-then-used-part-eq-PAYLOAD-clause-payload
returns-then-used-part-eq-PAYLOAD-clause-payload c =
    let from = c.args.from in
    let old = c.args.buffer.now.items in
    let part = c.args.part.now in
    let place = c.requires.place in
    let own : List ℕ = drop from old in
    let long : length own ≡ place_of c.args.used = omega (arith, place, length-drop from old) in
    let parted : c.push_reserved.new.out.items ≡ old ++ part = c.push_reserved.ensures.items in
    let padded : c.push_zeros.new.out.items ≡ c.push_reserved.new.out.items ++ replicate 8 0 = c.push_zeros.ensures.items in
    let whole : drop from c.push_zeros.new.out.items ≡ own ++ part ++ replicate 8 0 =
    ap (λ (l : List ℕ). drop from l) (padded ∙ ap (λ (l : List ℕ). l ++ replicate 8 0) parted)
    ∙ drop-append-le from (old ++ part) (replicate 8 0) (omega (arith, place, length-append old part))
    ∙ ap (λ (l : List ℕ). l ++ replicate 8 0) (drop-append-le from old part (omega (arith, place))) in
    payload_pushed c.args.used own part (drop from c.push_zeros.new.out.items) long c.requires.sector
    (λ k lt. ap (λ (l : List ℕ). get_or l k 0) whole ∙ get_or_append_left (own ++ part) (replicate 8 0) 0 k (omega (arith, lt, length-append own part)))

pub returns-else-used-part-eq-PAYLOAD-clause-payload : goal.returns-else-used-part-eq-PAYLOAD-clause-payload
returns-else-used-part-eq-PAYLOAD-clause-payload c =
    let from = c.args.from in
    let old = c.args.buffer.now.items in
    let part = c.args.part.now in
    let place = c.requires.place in
    let own : List ℕ = drop from old in
    let long : length own ≡ place_of c.args.used = omega (arith, place, length-drop from old) in
    payload_pushed c.args.used own part (drop from c.push_reserved.new.out.items) long c.requires.sector
    (λ k lt. ap (λ (l : List ℕ). get_or (drop from l) k 0) c.push_reserved.ensures.items
    ∙ ap (λ (l : List ℕ). get_or l k 0) (drop-append-le from old part (omega (arith, place))))
