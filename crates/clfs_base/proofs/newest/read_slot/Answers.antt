use Rattle.clfs_base.proofs.Words.{◌≡◌, ◌-◌, ◌++◌, min, ℕ, List, length, take, drop, ap, sym, ◌∙◌, arith, length-drop, take_at, slot_place, slot_of}
use Rattle.std.proofs.lemmas.List.{take_min}
use Rattle.clfs_base.proofs.newest.read_slot.Goals as goal

-- what a read found, in a buffer that was cut off after it
cut_off : (n len place slot : ℕ) (out tail base : List ℕ) → len ≡ 16384 → length out ≡ 16384 → place ≡ slot_place slot → n ≡ min 16384 (length base - place)
    → take n out ≡ take n (drop place base) → take n (take len (out ++ tail)) ≡ slot_of base slot
cut_off n len place slot out tail base len_is size place_is n_is same =
    let xs : List ℕ = drop place base in
    let count : n ≡ min 16384 (length xs) = omega (arith, n_is, length-drop place base) in
    ap (λ (l : List ℕ). take n l) (take_at out tail len (size ∙ sym len_is)) ∙ same ∙ ap (λ (k : ℕ). take k xs) count ∙ take_min 16384 xs
    ∙ ap (λ (k : ℕ). take 16384 (drop k base)) place_is

pub returns-clause-bytes : goal.returns-clause-bytes
returns-clause-bytes g c tells =
    let found = c.in_ok-count.ensures.found tells in
    let room : length c.deref_mut.result.now ≡ 16384 = omega (arith, c.deref_mut.ensures.len, c.in_ok-resize.ensures.len) in
    c.truncate.ensures.items
    ∙ cut_off c.in_ok-count.count c.resize.new.self.len c.slot_place.result c.args.slot c.read.new.out _ ((g.D.Disk.state c.args.disk.now).files 0)
    c.in_ok-resize.ensures.len (c.read.auto.out ∙ room) c.slot_place.ensures (found.0 ∙ ap (λ (k : ℕ). min k (length ((g.D.Disk.state c.args.disk.now).files 0) - c.slot_place.result)) room) found.1
