-- What a write to one node leaves of the tree.
use Rattle.std.proofs.Common.{◌≡◌, ℕ, ◌+◌, ◌-◌, ◌*◌, ◌/◌, ◌<◌, refl, sym, ap, ◌∙◌, inl, inr, arith, List, [], ◌∷◌, length, zero, suc, Option, Some, get_or, set, slice_get}
use Rattle.std.specs.Option.{option_and_then}
use Rattle.std.proofs.lemmas.Bool.{cases_eq}
use Rattle.std.proofs.lemmas.List.{length-set}
use Rattle.std.proofs.lemmas.Option.{slice_get_read}
use Rattle.clfs_tail.specs.declared.tree.Node.{Node}
use Rattle.clfs_tail.specs.Tree.{lesser, first_at, least_at, least_below, IsTree, IsTreeBut}

got_other : (nodes : List Node) (at k : ℕ) (node : Node) → (k ≡ at → ⊥) → slice_get (set nodes at node) k ≡ slice_get nodes k
got_other [] at k node other = refl
got_other (first ∷ nodes) zero zero node other = absurd (other refl)
got_other (first ∷ nodes) zero (suc k) node other = refl
got_other (first ∷ nodes) (suc at) zero node other = refl
got_other (first ∷ nodes) (suc at) (suc k) node other = got_other nodes at k node (λ same. other (ap suc same))

got_same : (nodes : List Node) (at : ℕ) (node : Node) → at < length nodes → slice_get (set nodes at node) at ≡ Some node
got_same [] at node inside = absurd (omega (arith, inside))
got_same (first ∷ nodes) zero node inside = refl
got_same (first ∷ nodes) (suc at) node inside = got_same nodes at node (omega (arith, inside))

-- a node with another least one below it
abbrev pub with_least : Node → Option ℕ → Node
with_least node least = record { first = node.first; least = least }

first_stays : (nodes : List Node) (at k : ℕ) (node : Node) (least : Option ℕ) → at < length nodes → slice_get nodes at ≡ Some node
    → first_at (set nodes at (with_least node least)) k ≡ first_at nodes k
first_stays nodes at k node least inside is = elim (cases_eq k at) [
  | inl same ↦
      rw same (ap (option_and_then (λ (n : Node). n.first)) (got_same nodes at (with_least node least) inside)
      ∙ sym (ap (option_and_then (λ (n : Node). n.first)) is))
  | inr other ↦ ap (option_and_then (λ (n : Node). n.first)) (got_other nodes at k (with_least node least) other)
]

least_other : (nodes : List Node) (at k : ℕ) (node : Node) → (k ≡ at → ⊥) → least_at (set nodes at node) k ≡ least_at nodes k
least_other nodes at k node other = ap (option_and_then (λ (n : Node). n.least)) (got_other nodes at k node other)

-- the least by the children is as it was where neither child was written
below_stays : (nodes : List Node) (at k : ℕ) (node : Node) (least : Option ℕ) → at < length nodes → slice_get nodes at ≡ Some node
    → (2 * k + 1 ≡ at → ⊥) → (2 * k + 2 ≡ at → ⊥) → least_below (set nodes at (with_least node least)) k ≡ least_below nodes k
below_stays nodes at k node least inside is left right =
    let first = first_stays nodes at k node least inside is in
    let one = least_other nodes at (2 * k + 1) (with_least node least) left in
    let other = least_other nodes at (2 * k + 2) (with_least node least) right in
    ap (λ f. lesser f (lesser (least_at (set nodes at (with_least node least)) (2 * k + 1)) (least_at (set nodes at (with_least node least)) (2 * k + 2)))) first
    ∙ ap (λ l. lesser (first_at nodes k) (lesser l (least_at (set nodes at (with_least node least)) (2 * k + 2)))) one
    ∙ ap (λ l. lesser (first_at nodes k) (lesser (least_at nodes (2 * k + 1)) l)) other

-- Once a node has the least of its subtree again, only its parent may lack it.
pub right_but_parent : (nodes : List Node) (at parent : ℕ) (node : Node) (least : Option ℕ) → at < length nodes → node ≡ get_or nodes at node
    → least ≡ least_below nodes at → IsTreeBut nodes at → ((k : ℕ) → (k ≡ parent → ⊥) → (2 * k + 1 ≡ at → ⊥) × (2 * k + 2 ≡ at → ⊥))
    → IsTreeBut (set nodes at (with_least node least)) parent
right_but_parent nodes at parent node least inside read is tree children = λ place within other.
    let got = slice_get_read nodes (length nodes) at node refl inside read in
    let apart = children place other in
    let stays = below_stays nodes at place node least inside got apart.0 apart.1 in
    let before : place < length nodes = omega (arith, length-set nodes at (with_least node least)) in
    elim (cases_eq place at) [
      | inl same ↦
          let here : least_at (set nodes at (with_least node least)) place ≡ least
          = rw same (ap (option_and_then (λ (n : Node). n.least)) (got_same nodes at (with_least node least) inside)) in
          here ∙ is ∙ ap (least_below nodes) (sym same) ∙ sym stays
      | inr elsewhere ↦ least_other nodes at place (with_least node least) elsewhere ∙ tree place before elsewhere ∙ sym stays
    ]

pub right_above : (nodes : List Node) (at : ℕ) (node : Node) (least : Option ℕ) → 0 < at → at < length nodes → node ≡ get_or nodes at node
    → least ≡ least_below nodes at → IsTreeBut nodes at → IsTreeBut (set nodes at (with_least node least)) ((at - 1) / 2)
right_above nodes at node least some inside read is tree =
    right_but_parent nodes at ((at - 1) / 2) node least inside read is tree (λ k other. (λ same. other (omega arith), λ same. other (omega arith)))

-- The root has no parent.
pub right_at_root : (nodes : List Node) (node : Node) (least : Option ℕ) → 0 < length nodes → node ≡ get_or nodes 0 node
    → least ≡ least_below nodes 0 → IsTreeBut nodes 0 → IsTree (set nodes 0 (with_least node least))
right_at_root nodes node least inside read is tree = λ place within.
    right_but_parent nodes 0 (place + 1) node least inside read is tree (λ k other. (λ same. omega arith, λ same. omega arith)) place within (λ same. omega arith)

first_other : (nodes : List Node) (at k : ℕ) (node : Node) → (k ≡ at → ⊥) → first_at (set nodes at node) k ≡ first_at nodes k
first_other nodes at k node other = ap (option_and_then (λ (n : Node). n.first)) (got_other nodes at k node other)

-- a node with another LSN of its own
abbrev pub with_first : Node → Option ℕ → Node
with_first node first = record { first = first; least = node.least }

least_stays : (nodes : List Node) (at k : ℕ) (node : Node) (first : Option ℕ) → at < length nodes → slice_get nodes at ≡ Some node
    → least_at (set nodes at (with_first node first)) k ≡ least_at nodes k
least_stays nodes at k node first inside is = elim (cases_eq k at) [
  | inl same ↦
      rw same (ap (option_and_then (λ (n : Node). n.least)) (got_same nodes at (with_first node first) inside)
      ∙ sym (ap (option_and_then (λ (n : Node). n.least)) is))
  | inr other ↦ least_other nodes at k (with_first node first) other
]

-- A stream's own LSN that changes leaves the tree right but at its node.
pub right_but_there : (nodes : List Node) (at : ℕ) (node : Node) (first : Option ℕ) → at < length nodes → node ≡ get_or nodes at node → IsTree nodes
    → IsTreeBut (set nodes at (with_first node first)) at
right_but_there nodes at node first inside read tree = λ place within other.
    let got = slice_get_read nodes (length nodes) at node refl inside read in
    let before : place < length nodes = omega (arith, length-set nodes at (with_first node first)) in
    let stays = λ (k : ℕ). least_stays nodes at k node first inside got in
    stays place ∙ tree place before
    ∙ ap (λ f. lesser f (lesser (least_at nodes (2 * place + 1)) (least_at nodes (2 * place + 2)))) (sym (first_other nodes at place (with_first node first) other))
    ∙ ap (λ l. lesser (first_at (set nodes at (with_first node first)) place) (lesser l (least_at nodes (2 * place + 2)))) (sym (stays (2 * place + 1)))
    ∙ ap (λ l. lesser (first_at (set nodes at (with_first node first)) place) (lesser (least_at (set nodes at (with_first node first)) (2 * place + 1)) l))
    (sym (stays (2 * place + 2)))
