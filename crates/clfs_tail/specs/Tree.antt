-- The tree of the first live LSNs, in one list.
use Rattle.std.specs.Prelude.{◌≡◌, ℕ, ◌+◌, ◌*◌, ◌<◌, min, List, length, map, Option, Some, None, slice_get}
use Rattle.std.specs.Option.{option_and_then}
use Rattle.clfs_tail.specs.declared.tree.Node.{Node}

-- the lesser of two LSNs, or the one that there is
abbrev pub lesser : Option ℕ → Option ℕ → Option ℕ
lesser None b = b
lesser (Some a) None = Some a
lesser (Some a) (Some b) = Some (min a b)

-- the streams' own first live LSNs
abbrev pub firsts_of : List Node → List (Option ℕ)
firsts_of nodes = map (λ (node : Node). node.first) nodes

-- the own one at a place
abbrev pub first_at : List Node → ℕ → Option ℕ
first_at nodes place = option_and_then (λ (node : Node). node.first) (slice_get nodes place)

-- the least of a subtree, as the node at its place has it
abbrev pub least_at : List Node → ℕ → Option ℕ
least_at nodes place = option_and_then (λ (node : Node). node.least) (slice_get nodes place)

-- the least of a subtree, by the node's own and its children
abbrev pub least_below : List Node → ℕ → Option ℕ
least_below nodes place = lesser (first_at nodes place) (lesser (least_at nodes (2 * place + 1)) (least_at nodes (2 * place + 2)))

-- each node has the least of its subtree
abbrev pub IsTree : List Node → Type 0
IsTree nodes = (place : ℕ) → place < length nodes → least_at nodes place ≡ least_below nodes place

-- each node but the one at a place has it
abbrev pub IsTreeBut : List Node → ℕ → Type 0
IsTreeBut nodes but = (place : ℕ) → place < length nodes → (place ≡ but → ⊥) → least_at nodes place ≡ least_below nodes place
