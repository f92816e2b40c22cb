-- Bytes that are all 0.
use Rattle.clfs_block.proofs.Words.{◌≡◌, ℕ, zero, suc, ◌+◌, ◌-◌, ◌<◌, ◌≤◌, true, ◌&&◌, eqb, List, length, take, drop, get_or, None, sym, ◌∙◌, ap, arith, refl}
use Rattle.clfs_block.proofs.Words.{ne_eqb, get_or-take, get_or-drop, length-take-le, list_all, first_failing}
use Rattle.std.proofs.Common.{bit_or}
use Rattle.std.proofs.lemmas.List.{length-drop}
use Rattle.std.proofs.lemmas.List.Folds.{list_all_more}
use Rattle.std.proofs.lemmas.List.Recursion.{and_at}
use Rattle.std.proofs.lemmas.Nat.{le_or_l}
use Rattle.std.specs.List.{slice_range}
use Rattle.clfs_block.proofs.Searches.{none_fails}

-- two numbers joined are 0 where both are
joined_zero : (a b : ℕ) → eqb (bit_or a b) 0 ≡ (eqb a 0 && eqb b 0)
joined_zero zero b = refl
joined_zero (suc a) b =
    ne_eqb (bit_or (suc a) b) 0 (λ e. omega (arith, e, le_or_l (suc a) b))
    ∙ ap (λ other. other && eqb b 0) (sym (ne_eqb (suc a) 0 (λ e. omega (arith, e))))

-- one more byte is joined
pub joined_more : (bytes : List ℕ) (joined i : ℕ) → i < length bytes → eqb joined 0 ≡ list_all (λ byte. eqb byte 0) (take i bytes)
    → eqb (bit_or joined (get_or bytes i 0)) 0 ≡ list_all (λ byte. eqb byte 0) (take (i + 1) bytes)
joined_more bytes joined i lt so_far =
    joined_zero joined (get_or bytes i 0)
    ∙ ap (λ b. b && eqb (get_or bytes i 0) 0) so_far
    ∙ sym (list_all_more (λ byte. eqb byte 0) bytes i 0 lt)

-- where all bytes of a range are 0, none is another
pub none_other : (bytes : List ℕ) (from end : ℕ) → from ≤ end → end ≤ length bytes
    → list_all (λ byte. eqb byte 0) (slice_range bytes from end) ≡ true
    → first_failing (λ at. eqb (get_or bytes at 0) 0) from (end - from) ≡ None
none_other bytes from end le whole zeros =
    let part : List ℕ = slice_range bytes from end in
    let long : length part ≡ end - from = length-take-le (end - from) (drop from bytes) (omega (arith, le, whole, length-drop from bytes)) in
    none_fails (λ at. eqb (get_or bytes at 0) 0) from (end - from) (λ j low high.
    let k : ℕ = j - from in
    let inside : k < end - from = omega (arith, low, high) in
    let here : get_or part k 0 ≡ get_or bytes j 0 =
    get_or-take (end - from) (drop from bytes) k 0 inside
    ∙ get_or-drop from bytes k 0
    ∙ ap (λ (n : ℕ). get_or bytes n 0) (omega (arith, low)) in
    ap (λ (b : ℕ). eqb b 0) (sym here)
    ∙ and_at (λ (bs : List ℕ). list_all (λ byte. eqb byte 0) bs) (λ byte. eqb byte 0) refl (λ _ _. refl) part k 0 (omega (arith, long, inside)) zeros)
