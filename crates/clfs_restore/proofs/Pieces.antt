-- The containers of an archive as they come one after the other.
use Rattle.clfs_restore.proofs.Words.{◌≡◌, ℕ, zero, suc, ◌+◌, ◌<◌, ◌≤◌, List, [], ◌∷◌, ◌++◌, length, take, drop, map, get_or, Result, Ok, Err, refl, sym, ◌∙◌}
use Rattle.clfs_restore.proofs.Words.{ap, subst, arith, flat_map, length-take-le, get_or-drop, length-drop, little_bytes, LogEntry, Shape, Files, AreWhole}
use Rattle.clfs_restore.proofs.Words.{total, stored_in, stored_records, LoadRefusal, piece_bytes, AreReadable, pieces_from}
use Rattle.std.specs.List.{range_with_len, zip}
use Rattle.std.proofs.Math.Seq.{take-suc}
use Rattle.std.proofs.lemmas.Grind.{flat_map-append}
use Rattle.std.proofs.lemmas.List.{map-append}
use Rattle.clfs_block.specs.Records.{◌>>=◌}
use Rattle.clfs_archive_form.specs.Drafting.{container_bytes}

abbrev Blocks : Type 0
Blocks = List (List ℕ)

-- the pieces of containers are their ids and their blocks in pairs
pub in_pairs : (id : ℕ) (bs : List Blocks) → zip (range_with_len id (length bs)) bs ≡ pieces_from id bs
in_pairs id [] = refl
in_pairs id (b ∷ bs) = ap (λ (l : List (ℕ × Blocks)). (id, b) ∷ l) (in_pairs (id + 1) bs)

pub length-pieces : (id : ℕ) (bs : List Blocks) → length (pieces_from id bs) ≡ length bs
length-pieces id [] = refl
length-pieces id (b ∷ bs) = ap suc (length-pieces (id + 1) bs)

-- those after the first
pub drop-pieces : (n id : ℕ) (bs : List Blocks) → drop n (pieces_from id bs) ≡ pieces_from (id + n) (drop n bs)
drop-pieces zero id bs = ap (λ (k : ℕ). pieces_from k bs) (omega arith)
drop-pieces (suc n) id [] = refl
drop-pieces (suc n) id (b ∷ bs) = drop-pieces n (id + 1) bs ∙ ap (λ (k : ℕ). pieces_from k (drop n bs)) (omega arith)

-- one more of them
pub more_pieces : (id : ℕ) (bs : List Blocks) (b : Blocks) → pieces_from id (bs ++ b ∷ []) ≡ pieces_from id bs ++ (id + length bs, b) ∷ []
more_pieces id [] b = ap (λ (k : ℕ). (k, b) ∷ []) (omega arith)
more_pieces id (c ∷ bs) b = ap (λ (l : List (ℕ × Blocks)). (id, c) ∷ l)
    (more_pieces (id + 1) bs b ∙ ap (λ (k : ℕ). pieces_from (id + 1) bs ++ (k, b) ∷ []) (omega arith))

-- the archive's bytes of a container more
pub one_more : (from : ℕ) (blocks : ℕ → Blocks) (numbers : List ℕ) (i : ℕ) → i < length numbers
    → flat_map piece_bytes (pieces_from from (map blocks (take (i + 1) numbers)))
    ≡ flat_map piece_bytes (pieces_from from (map blocks (take i numbers))) ++ piece_bytes (from + i, blocks (get_or numbers i 0))
one_more from blocks numbers i within =
    let n = get_or numbers i 0 in
    let taken : take (i + 1) numbers ≡ take i numbers ++ n ∷ [] = ap (λ (k : ℕ). take k numbers) (add_one i) ∙ take-suc numbers i 0 within in
    let mapped : map blocks (take (i + 1) numbers) ≡ map blocks (take i numbers) ++ blocks n ∷ [] =
    ap (map blocks) taken ∙ map-append blocks (take i numbers) (n ∷ []) in
    let len : length (map blocks (take i numbers)) ≡ i = length-mapped blocks (take i numbers) ∙ length-take-le i numbers (omega (arith, within)) in
    ap (λ (l : List Blocks). flat_map piece_bytes (pieces_from from l)) mapped
    ∙ ap (flat_map piece_bytes) (more_pieces from (map blocks (take i numbers)) (blocks n))
    ∙ flat_map-append piece_bytes (pieces_from from (map blocks (take i numbers))) _
    ∙ ap (λ (k : ℕ). flat_map piece_bytes (pieces_from from (map blocks (take i numbers))) ++ (piece_bytes (from + k, blocks n) ++ [])) len
    ∙ ap (λ (l : List ℕ). flat_map piece_bytes (pieces_from from (map blocks (take i numbers))) ++ l) (nothing_more (piece_bytes (from + i, blocks n)))
  where
    add_one : (i : ℕ) → i + 1 ≡ suc i
    add_one i = omega arith

    length-mapped : (blocks : ℕ → Blocks) (l : List ℕ) → length (map blocks l) ≡ length l
    length-mapped blocks [] = refl
    length-mapped blocks (x ∷ l) = ap suc (length-mapped blocks l)

    nothing_more : (l : List ℕ) → l ++ [] ≡ l
    nothing_more [] = refl
    nothing_more (x ∷ l) = ap (λ (m : List ℕ). x ∷ m) (nothing_more l)

-- a container's bytes by the bytes of its blocks
pub piece_is : (id end : ℕ) (here : Blocks) (piece : List ℕ) → end ≡ total here → end ≤ length piece → take end piece ≡ flat_map (λ (block : List ℕ). block) here
    → container_bytes id (take end piece) ≡ piece_bytes (id, here)
piece_is id end here piece ends within is =
    ap (λ (k : ℕ). little_bytes 4 id ++ (little_bytes 4 k ++ take end piece)) (length-take-le end piece within ∙ ends)
    ∙ ap (λ (l : List ℕ). little_bytes 4 id ++ (little_bytes 4 (total here) ++ l)) is

-- what is read of one of some containers
read_split : (a b : Result (List LogEntry) LoadRefusal) (entries : List LogEntry)
    → (a >>= λ (here : List LogEntry). (b >>= λ (others : List LogEntry). Ok (here ++ others))) ≡ Ok entries
    → ((here : List LogEntry) × (a ≡ Ok here)) × ((others : List LogEntry) × (b ≡ Ok others))
read_split (Ok here) (Ok others) entries is = ((here, refl), (others, refl))
read_split (Ok here) (Err refusal) entries is = absurd (cc is)
read_split (Err refusal) b entries is = absurd (cc is)

pub read_at : (shape : Shape) (streams id : ℕ) (blocks : ℕ → Blocks) (numbers : List ℕ) (entries : List LogEntry)
    → stored_records shape streams id (map blocks numbers) ≡ Ok entries → (i : ℕ) → i < length numbers
    → (here : List LogEntry) × (stored_in shape streams (id + i) 0 (blocks (get_or numbers i 0)) ≡ Ok here)
read_at shape streams id blocks [] entries is i within = absurd (omega (arith, within))
read_at shape streams id blocks (n ∷ numbers) entries is zero within =
    let s = read_split (stored_in shape streams id 0 (blocks n)) (stored_records shape streams (id + 1) (map blocks numbers)) entries is in
    subst (λ (k : ℕ). (here : List LogEntry) × (stored_in shape streams k 0 (blocks n) ≡ Ok here)) (omega arith) s.0
read_at shape streams id blocks (n ∷ numbers) entries is (suc i) within =
    let s = read_split (stored_in shape streams id 0 (blocks n)) (stored_records shape streams (id + 1) (map blocks numbers)) entries is in
    let next = read_at shape streams (id + 1) blocks numbers s.1.0 s.1.1 i (omega (arith, within)) in
    subst (λ (k : ℕ). (here : List LogEntry) × (stored_in shape streams k 0 (blocks (get_or numbers i 0)) ≡ Ok here)) (omega arith) next

-- the containers from one of the listed ones on
pub readable_from : (shape : Shape) (streams first n : ℕ) (files : Files) (numbers : List ℕ) (blocks : ℕ → Blocks) (entries : List LogEntry)
    → ((i : ℕ) → i < length numbers → AreWhole shape.container_sectors (files (get_or numbers i 0)) (blocks (get_or numbers i 0)))
    → stored_records shape streams first (map blocks numbers) ≡ Ok entries
    → AreReadable shape streams (first + n) files (drop n numbers) blocks
readable_from shape streams first n files numbers blocks entries whole read =
    record {
      whole = λ i within.
          subst (λ (k : ℕ). AreWhole shape.container_sectors (files k) (blocks k)) (sym (get_or-drop n numbers i 0))
          (whole (n + i) (omega (arith, within, length-drop n numbers)));
      read = λ i within.
          let at = read_at shape streams first blocks numbers entries read (n + i) (omega (arith, within, length-drop n numbers)) in
          subst (λ (k : ℕ). (here : List LogEntry) × (stored_in shape streams (first + n + i) 0 (blocks k) ≡ Ok here)) (sym (get_or-drop n numbers i 0))
          (subst (λ (k : ℕ). (here : List LogEntry) × (stored_in shape streams k 0 (blocks (get_or numbers (n + i) 0)) ≡ Ok here)) (omega arith) at);
    }
