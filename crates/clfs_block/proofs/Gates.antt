-- The gate of a block, and what the block says in its first bytes.
use Rattle.clfs_block.proofs.Words.{◌≡◌, ℕ, zero, suc, ◌+◌, ◌*◌, ◌^◌, ◌<◌, ◌≤◌, List, ◌∷◌, get_or, drop, refl, sym, ◌∙◌, ap, arith, length-drop, get_or-drop}
use Rattle.clfs_block.proofs.Words.{sectors, place_of, used_bytes, used_payload, SpellsBlock}
use Rattle.clfs_block.proofs.Frames.{get_or-payload_of, payload_is}
use Rattle.clfs_block.proofs.Splices.{same_address}

behind_gate : (gate : ℕ) (block : List ℕ) (k : ℕ) → 1 ≤ k → get_or (gate ∷ drop 1 block) k 0 ≡ get_or block k 0
behind_gate gate block zero some = absurd (omega (arith, some))
behind_gate gate block (suc k) some = get_or-drop 1 block k 0 ∙ ap (λ (n : ℕ). get_or block n 0) (omega arith)

-- a block stays one with another gate
pub regated : (start old new records : ℕ) (content block : List ℕ) → SpellsBlock start old records content block
    → SpellsBlock start new records content (new ∷ drop 1 block)
regated start old new records content block spells = record {
  whole = omega (arith, spells.whole, length-drop 1 block);
  used = sym (payload_is (used_bytes content) (new ∷ drop 1 block) (used_payload new records content) (omega arith) each);
  zeros = λ p past until. behind_gate new block (place_of p) (omega (arith, past)) ∙ spells.zeros p past until;
  addresses = λ i lt. same_address (new ∷ drop 1 block) block i (λ k from until. behind_gate new block k (omega (arith, from))) ∙ spells.addresses i lt;
}
  where
    each : (p : ℕ) → p < used_bytes content → get_or (used_payload new records content) p 0 ≡ get_or (new ∷ drop 1 block) (place_of p) 0
    each zero lt = refl
    each (suc p) lt = ap (λ (l : List ℕ). get_or l (suc p) 0) (sym spells.used) ∙ get_or-payload_of (used_bytes content) block (suc p) lt
        ∙ sym (behind_gate new block (place_of (suc p)) (omega arith))

first_bytes : (start gate records : ℕ) (content block : List ℕ) → SpellsBlock start gate records content block → (p : ℕ) → p < 16
    → get_or block p 0 ≡ get_or (used_payload gate records content) p 0
first_bytes start gate records content block spells p lt =
    let place : place_of p ≡ p = omega (arith, lt) in
    sym (ap (λ (k : ℕ). get_or block k 0) place) ∙ sym (get_or-payload_of (used_bytes content) block p (omega (arith, lt))) ∙ ap
    (λ (l : List ℕ). get_or l p 0) spells.used

pub gate_is : (start gate records : ℕ) (content block : List ℕ) → SpellsBlock start gate records content block → get_or block 0 0 ≡ gate
gate_is start gate records content block spells = first_bytes start gate records content block spells 0 (omega arith)

pub sectors_are : (start gate records : ℕ) (content block : List ℕ) → SpellsBlock start gate records content block → sectors (used_bytes content) < 2 ^ 16
    → get_or block 2 0 + 256 * get_or block 3 0 ≡ sectors (used_bytes content)
sectors_are start gate records content block spells few =
    omega (arith, few, first_bytes start gate records content block spells 2 (omega arith), first_bytes start gate records content block spells 3 (omega arith))
