-- Least numbers of lists, and what the root of the tree has.
use Rattle.std.proofs.Common.{◌≡◌, ℕ, ◌+◌, ◌*◌, ◌/◌, ◌<◌, ◌≤◌, ◌⊎◌, refl, sym, ap, ◌∙◌, inl, inr, arith, List, [], ◌∷◌, ◌++◌, length, zero, suc, Option, Some, None, get_or, min}
use Rattle.std.specs.Prelude.{fold}
use Rattle.std.specs.List.{filter_map}
use Rattle.std.specs.Option.{option_to_list, unwrap_or}
use Rattle.std.proofs.lemmas.Bool.{cases_lt}
use Rattle.std.proofs.lemmas.Option.{slice_get_past}
use Rattle.clfs_lsn.specs.Heads.{least_or}
use Rattle.clfs_tail.specs.declared.tree.Node.{Node}
use Rattle.clfs_tail.specs.Tree.{lesser, first_at, firsts_of, least_at, IsTree}

-- there is an LSN, and it is at most this number
pub record UpTo (found : Option ℕ) (n : ℕ) : Type 0 where
  pub value : ℕ
  pub is : found ≡ Some value
  pub up_to : value ≤ n

pub lesser_left : (a b : Option ℕ) (n : ℕ) → UpTo a n → UpTo (lesser a b) n
lesser_left None b n up = absurd (let is = up.is in cc)
lesser_left (Some a) None n up = up
lesser_left (Some a) (Some b) n up = record {
  value = min a b;
  is = refl;
  up_to = let same : a ≡ up.value = (let is = up.is in cc) in omega (arith, same, up.up_to);
}

pub lesser_right : (a b : Option ℕ) (n : ℕ) → UpTo b n → UpTo (lesser a b) n
lesser_right None b n up = up
lesser_right (Some a) None n up = absurd (let is = up.is in cc)
lesser_right (Some a) (Some b) n up = record {
  value = min a b;
  is = refl;
  up_to = let same : b ≡ up.value = (let is = up.is in cc) in omega (arith, same, up.up_to);
}

-- the lesser of two is one of them
pub lesser_one : (a b : Option ℕ) (n : ℕ) → lesser a b ≡ Some n → (a ≡ Some n) ⊎ (b ≡ Some n)
lesser_one None b n is = inr is
lesser_one (Some a) None n is = inl is
lesser_one (Some a) (Some b) n is = elim (cases_lt a b) [
  | inl less ↦ let least : min a b ≡ a = omega arith in inl (ap Some (sym least) ∙ is)
  | inr other ↦ let least : min a b ≡ b = omega arith in inr (ap Some (sym least) ∙ is)
]

-- the root has no more than any node
pub root_up_to : (fuel k n : ℕ) (nodes : List Node) → IsTree nodes → k ≤ fuel → k < length nodes → UpTo (least_at nodes k) n → UpTo (least_at nodes 0) n
root_up_to fuel zero n nodes tree enough inside up = up
root_up_to zero (suc k) n nodes tree enough inside up = absurd (omega (arith, enough))
root_up_to (suc fuel) (suc k) n nodes tree enough inside up =
    let parent = k / 2 in
    let within : k / 2 < length nodes = omega (arith, inside) in
    let left = least_at nodes (2 * (k / 2) + 1) in
    let right = least_at nodes (2 * (k / 2) + 2) in
    let child : UpTo (lesser left right) n = elim (cases_lt (2 * (k / 2)) k) [
      | inl less ↦
          let same : suc k ≡ 2 * (k / 2) + 2 = omega arith in
          lesser_right left right n (rw same at up)
      | inr not_less ↦
          let same : suc k ≡ 2 * (k / 2) + 1 = omega arith in
          lesser_left left right n (rw same at up)
    ] in
    root_up_to fuel (k / 2) n nodes tree (omega (arith, enough)) within
    (rw (tree (k / 2) within) (lesser_right (first_at nodes (k / 2)) (lesser left right) n child))

none_past : (nodes : List Node) (k n : ℕ) → length nodes ≤ k → least_at nodes k ≡ Some n → ⊥
none_past nodes k n past is =
    let none = slice_get_past nodes k past in
    let some = rw none at is in
    cc

-- what a node has is one of the streams' own
pub one_of_them : (fuel k n : ℕ) (nodes : List Node) → IsTree nodes → length nodes ≤ k + fuel → least_at nodes k ≡ Some n
    → (j : ℕ) × (first_at nodes j ≡ Some n)
one_of_them zero k n nodes tree enough is = absurd (none_past nodes k n (omega (arith, enough)) is)
one_of_them (suc fuel) k n nodes tree enough is = elim (cases_lt k (length nodes)) [
  | inr past ↦ absurd (none_past nodes k n (omega (arith, past)) is)
  | inl inside ↦ elim (lesser_one (first_at nodes k) (lesser (least_at nodes (2 * k + 1)) (least_at nodes (2 * k + 2))) n (sym (tree k inside) ∙ is)) [
    | inl own ↦ (k, own)
    | inr child ↦ elim (lesser_one (least_at nodes (2 * k + 1)) (least_at nodes (2 * k + 2)) n child) [
      | inl left ↦ one_of_them fuel (2 * k + 1) n nodes tree (omega (arith, enough)) left
      | inr right ↦ one_of_them fuel (2 * k + 2) n nodes tree (omega (arith, enough)) right
    ]
  ]
]

first_is : (nodes : List Node) (j : ℕ) → get_or (firsts_of nodes) j None ≡ first_at nodes j
first_is [] j = refl
first_is (node ∷ nodes) zero = refl
first_is (node ∷ nodes) (suc j) = first_is nodes j

within_of_some : (nodes : List Node) (j n : ℕ) → first_at nodes j ≡ Some n → j < length nodes
within_of_some [] j n is = absurd (cc)
within_of_some (node ∷ nodes) zero n is = omega arith
within_of_some (node ∷ nodes) (suc j) n is = omega (arith, within_of_some nodes j n is)

-- An LSN is the least of the first live ones: none where none is live.
pub record IsLeastOf (least : Option ℕ) (firsts : List (Option ℕ)) : Type 0 where
  pub below : (j n : ℕ) → get_or firsts j None ≡ Some n → UpTo least n
  pub one : (n : ℕ) → least ≡ Some n → (j : ℕ) × (get_or firsts j None ≡ Some n)

pub root_is_least : (nodes : List Node) → IsTree nodes → IsLeastOf (least_at nodes 0) (firsts_of nodes)
root_is_least nodes tree = record {
  below = λ j n is.
      let own : first_at nodes j ≡ Some n = sym (first_is nodes j) ∙ is in
      let inside = within_of_some nodes j n own in
      let up : UpTo (first_at nodes j) n = record { value = n; is = own; up_to = omega arith } in
      root_up_to j j n nodes tree (omega arith) inside (rw (tree j inside) (lesser_left (first_at nodes j) _ n up));
  one = λ n is.
      let found = one_of_them (length nodes) 0 n nodes tree (omega arith) is in
      (found.0, first_is nodes found.0 ∙ found.1);
}

-- a number is one of a list
abbrev pub IsAmong : ℕ → List ℕ → Type 0
IsAmong n [] = ⊥
IsAmong n (m ∷ ms) = (n ≡ m) ⊎ IsAmong n ms

-- A number is the least of a list: none where the list is empty.
pub record IsLeastIn (least : Option ℕ) (ns : List ℕ) : Type 0 where
  pub below : (n : ℕ) → IsAmong n ns → UpTo least n
  pub one : (n : ℕ) → least ≡ Some n → IsAmong n ns

fold_up_to : (first n : ℕ) (ns : List ℕ) → IsAmong n (first ∷ ns) → fold min first ns ≤ n
fold_up_to first n [] among = elim among [
  | inl same ↦ omega (arith, same)
  | inr none ↦ absurd none
]
fold_up_to first n (m ∷ ms) among = elim among [
  | inl same ↦ omega (arith, same, fold_up_to (min first m) (min first m) ms (inl refl))
  | inr rest ↦ elim rest [
    | inl same ↦ omega (arith, same, fold_up_to (min first m) (min first m) ms (inl refl))
    | inr further ↦ fold_up_to (min first m) n ms (inr further)
  ]
]

fold_is_among : (first : ℕ) (ns : List ℕ) → IsAmong (fold min first ns) (first ∷ ns)
fold_is_among first [] = inl refl
fold_is_among first (m ∷ ms) = elim (fold_is_among (min first m) ms) [
  | inr further ↦ inr (inr further)
  | inl least ↦ elim (cases_lt first m) [
    | inl less ↦ inl (least ∙ omega (arith, less))
    | inr other ↦ inr (inl (least ∙ omega (arith, other)))
  ]
]

pub least_is : (least : Option ℕ) (other : ℕ) (ns : List ℕ) → IsLeastIn least ns → unwrap_or least other ≡ least_or other ns
least_is None other [] is = refl
least_is (Some m) other [] is = absurd (is.one m refl)
least_is None other (n ∷ ns) is = absurd (let up = is.below n (inl refl) in let there = up.is in cc)
least_is (Some m) other (n ∷ ns) is =
    let up = is.below (fold min n ns) (fold_is_among n ns) in
    let same : m ≡ up.value = (let there = up.is in cc) in
    let down = fold_up_to n m ns (is.one m refl) in
    omega (arith, same, up.up_to, down)

-- with an archive tail beside the others
pub with_tail : (tail least : Option ℕ) (ns : List ℕ) → IsLeastIn least ns → IsLeastIn (lesser tail least) (option_to_list tail ++ ns)
with_tail None least ns is = is
with_tail (Some tail) least ns is = record {
  below = λ n among. elim among [
    | inl same ↦ lesser_left (Some tail) least n (record { value = tail; is = refl; up_to = omega (arith, same) })
    | inr rest ↦ lesser_right (Some tail) least n (is.below n rest)
  ];
  one = λ n there. elim (lesser_one (Some tail) least n there) [
    | inl own ↦ inl (let same : n ≡ tail = cc in same)
    | inr others ↦ inr (is.one n others)
  ];
}

place_of_first : (firsts : List (Option ℕ)) (n : ℕ) → IsAmong n (filter_map (λ first. first) firsts) → (j : ℕ) × (get_or firsts j None ≡ Some n)
place_of_first [] n among = absurd among
place_of_first (None ∷ firsts) n among = let found = place_of_first firsts n among in (suc found.0, found.1)
place_of_first (Some first ∷ firsts) n among = elim among [
  | inl same ↦ (0, ap Some (sym same))
  | inr rest ↦ let found = place_of_first firsts n rest in (suc found.0, found.1)
]

first_is_among : (firsts : List (Option ℕ)) (j n : ℕ) → get_or firsts j None ≡ Some n → IsAmong n (filter_map (λ first. first) firsts)
first_is_among [] j n is = absurd (cc)
first_is_among (None ∷ firsts) zero n is = absurd (cc)
first_is_among (Some first ∷ firsts) zero n is = inl (let same : n ≡ first = cc in same)
first_is_among (None ∷ firsts) (suc j) n is = first_is_among firsts j n is
first_is_among (Some first ∷ firsts) (suc j) n is = inr (first_is_among firsts j n is)

pub least_of_firsts : (least : Option ℕ) (firsts : List (Option ℕ)) → IsLeastOf least firsts → IsLeastIn least (filter_map (λ first. first) firsts)
least_of_firsts least firsts is = record {
  below = λ n among. let found = place_of_first firsts n among in is.below found.0 n found.1;
  one = λ n there. let found = is.one n there in first_is_among firsts found.0 n found.1;
}

-- the least of the first live LSNs: none where none is live
abbrev pub least_first : List (Option ℕ) → Option ℕ
least_first [] = None
least_first (first ∷ firsts) = lesser first (least_first firsts)

first_up : (firsts : List (Option ℕ)) (j n : ℕ) → get_or firsts j None ≡ Some n → UpTo (least_first firsts) n
first_up [] j n is = absurd (cc)
first_up (first ∷ firsts) zero n is = lesser_left first (least_first firsts) n (record { value = n; is = is; up_to = omega arith })
first_up (first ∷ firsts) (suc j) n is = lesser_right first (least_first firsts) n (first_up firsts j n is)

first_there : (firsts : List (Option ℕ)) (n : ℕ) → least_first firsts ≡ Some n → (j : ℕ) × (get_or firsts j None ≡ Some n)
first_there [] n is = absurd (cc)
first_there (first ∷ firsts) n is = elim (lesser_one first (least_first firsts) n is) [
  | inl own ↦ (0, own)
  | inr others ↦ let found = first_there firsts n others in (suc found.0, found.1)
]

pub least_first_is : (firsts : List (Option ℕ)) → IsLeastOf (least_first firsts) firsts
least_first_is firsts = record { below = first_up firsts; one = first_there firsts }
