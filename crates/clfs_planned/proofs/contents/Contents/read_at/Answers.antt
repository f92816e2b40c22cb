use Rattle.std.proofs.Common.{rules, ◌≡◌, ◌∙◌, ◌+◌, ◌≤◌, ◌-◌, ◌++◌, ℕ, List, length, length-append, min, take, drop, replicate, ap, arith}
use Rattle.std.proofs.lemmas.List.{take-append-le}
use Rattle.clfs_planned.proofs.Fronts.{read_in_parts}
use Rattle.clfs_planned.proofs.contents.Contents.read_at.Goals as goal

pub returns-clause-bytes : goal.returns-clause-bytes
returns-clause-bytes c =
    let self = c.args.self.now in
    let count = c.min-count.result in
    let found = c.read_front-found.result in
    let out = c.read_front-found.new.out in
    let within : c.args.at + count ≤ self.len = search rules in
    let is : found ≡ min count (length self.front.items - c.args.at) = search rules in
    let room : length out ≡ count = search rules in
    let few : found ≤ length out = omega (arith, is, room) in
    let copied : take found (out ++ drop count c.args.out.now) ≡ take found (drop c.args.at self.front.items) =
    take-append-le found out (drop count c.args.out.now) few ∙ c.read_front-found.ensures.bytes
    ∙ ap (λ (l : List ℕ). take found (drop c.args.at l)) c.deref.ensures.value in
    let zeros : c.fill_with_zeros.new.out ≡ replicate (count - found) 0 = search rules in
    read_in_parts self.front.items (out ++ drop count c.args.out.now) c.fill_with_zeros.new.out _ self.len c.args.at count found self.fits within is
    (omega (arith, few, length-append out (drop count c.args.out.now))) copied zeros
