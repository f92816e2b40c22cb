use Rattle.clfs_base.proofs.Words.{◌≡◌, ℕ, ◌+◌, ◌-◌, ◌≤◌, min, ◌||◌, eqb, ltb, List, length, get_or, take, drop, ◌∙◌, ap, arith, length-drop, nat_tests}
use Rattle.clfs_base.proofs.Words.{length-take, get_or-take, get_or-drop, slot_place, front_of}
use Rattle.clfs_base.proofs.newest.front_of_bytes.Goals as goal

same_short : (a n b p : ℕ) → a ≡ min n (b - p) → 3 ≤ n → ltb a 3 ≡ ltb b (p + 3)
same_short a n b p is some = grind (arith, nat_tests)

-- the front of a slot's bytes is that of the slot
front_here : (base : List ℕ) (slot n : ℕ) → 3 ≤ n → front_of (take n (drop (slot_place slot) base)) 0 ≡ front_of base slot
front_here base slot n some =
    let p = slot_place slot in
    let xs : List ℕ = drop p base in
    let here : p + 0 ≡ p = omega arith in
    let gate : get_or (take n xs) 0 0 ≡ get_or base p 0 =
    get_or-take n xs 0 0 (omega (arith, some)) ∙ get_or-drop p base 0 0 ∙ ap (λ (k : ℕ). get_or base k 0) here in
    let turn : get_or (take n xs) 2 0 ≡ get_or base (p + 2) 0 = get_or-take n xs 2 0 (omega (arith, some)) ∙ get_or-drop p base 2 0 in
    let size : length (take n xs) ≡ min n (length base - p) = omega (arith, length-take n xs, length-drop p base) in
    let short = same_short (length (take n xs)) n (length base) p size some in
    λ i. record { is_open = eqb (gate i) 165; is_wrong_turn = short i || ltb 2 (turn i); turn = turn i }

pub returns-clause-in_file : goal.returns-clause-in_file
returns-clause-in_file c base slot n some is =
    c.front_in.ensures ∙ ap (λ (l : List ℕ). front_of l 0) is ∙ front_here base slot n some
