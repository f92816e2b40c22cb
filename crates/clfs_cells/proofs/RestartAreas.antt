-- A restart area's data: the numbers of the cells, and then the last number of a transaction.
use Rattle.clfs_cells.proofs.Words.{◌≡◌, ℕ, ◌*◌, ◌≤◌, List, [], ◌++◌, length, take, drop, Option, Some, sym, ap, subst, ◌∙◌, arith, length-drop}
use Rattle.clfs_cells.proofs.Words.{take-append-drop, flat_map, drop_all, length-take, length-take-le, little_bytes, little_number, IsRead}
use Rattle.clfs_cells.proofs.Words.{little_number-reads_back, little_from-lt, numbers_in}
use Rattle.std.proofs.Common.{length-append}
use Rattle.std.proofs.Common.{append-nil}
use Rattle.std.proofs.lemmas.Bool.{eq-eqb}
use Rattle.std.proofs.lemmas.List.{take_at, drop_at}
use borrow.Rule.Slice.PartMut.{put_mid, post_of}
use Rattle.clfs_cells.specs.declared.checkpoint.Checkpoint.{Checkpoint}
use Rattle.clfs_cells.specs.Layout.{checkpoint_bytes, checkpoint_of, IsCheckpoint}
use Rattle.clfs_cells.proofs.Actions.{guarded, equal}
use Rattle.clfs_cells.proofs.Numbers.{IsBytes, IsBytes-drop, four, read_one_by_one, numbers_in_front, length-numbers_in, numbers_fit, spelled_is_read}
use Rattle.clfs_cells.proofs.Numbers.{length-spelled, read_is_spelled}

-- the two parts of the data, written one after the other
pub parts_joined : (cells zeros last : List ℕ) (n : ℕ) → length cells ≡ 256 → length zeros ≡ 4
    → last ≡ little_bytes 4 n ++ drop 4 (take 4 (drop 256 (cells ++ zeros))) → put_mid 256 4 (cells ++ zeros) last ≡ cells ++ little_bytes 4 n
parts_joined cells zeros last n long short is =
    let behind : drop 256 (cells ++ zeros) ≡ zeros = drop_at cells zeros 256 long in
    let none : post_of 256 4 (cells ++ zeros) ≡ [] = ap (λ (l : List ℕ). drop 4 l) behind ∙ drop_all 4 zeros (omega (arith, short)) in
    let only : last ≡ little_bytes 4 n =
    is ∙ ap (λ (l : List ℕ). little_bytes 4 n ++ l) (drop_all 4 (take 4 (drop 256 (cells ++ zeros))) (omega (arith, length-take 4 (drop 256 (cells ++ zeros)))))
    ∙ append-nil (little_bytes 4 n) in
    ap (λ (l : List ℕ). l ++ (last ++ post_of 256 4 (cells ++ zeros))) (take_at cells zeros 256 long)
    ∙ ap (λ (l : List ℕ). cells ++ (last ++ l)) none ∙ ap (λ (l : List ℕ). cells ++ l) (append-nil last ∙ only)

-- the cells that were read of the first part are those of the whole data
pub cells_read : (cells front bytes : List ℕ) → length cells ≡ 32 → 256 ≤ length bytes → front ≡ take 256 bytes → IsRead little_number 8 front cells
    → cells ≡ numbers_in 32 bytes
cells_read cells front bytes size long is read =
    let all : take 256 bytes ++ drop 256 bytes ≡ bytes = take-append-drop 256 bytes in
    let whole : 8 * 32 ≤ length (take 256 bytes) = omega (arith, length-take-le 256 bytes long) in
    read_one_by_one cells front read ∙ ap (λ (n : ℕ). numbers_in n front) size ∙ ap (λ (l : List ℕ). numbers_in 32 l) is
    ∙ sym (numbers_in_front 32 (take 256 bytes) (drop 256 bytes) whole) ∙ ap (λ (l : List ℕ). numbers_in 32 l) all

made : List ℕ → ℕ → Checkpoint
made cells last = record { cells = cells; last = last }

answered : List ℕ → ℕ → Option Checkpoint
answered cells last = Some (record { cells = cells; last = last })

-- what was read of data of the right length
pub read_whole : (cells front back bytes : List ℕ) (last : ℕ) → length cells ≡ 32 → length bytes ≡ 260 → front ≡ take 256 bytes → back ≡ drop 256 bytes
    → IsRead little_number 8 front cells → last ≡ little_number 4 back
    → checkpoint_of bytes ≡ Some (record { cells = cells; last = last })
unfolding answered
read_whole cells front back bytes last size long front_is back_is read last_is =
    let cells_are = cells_read cells front bytes size (omega (arith, long)) front_is read in
    let is : last ≡ little_number 4 (drop 256 bytes) = last_is ∙ ap (λ (l : List ℕ). little_number 4 l) back_is in
    rw (eq-eqb (length bytes) 260 long) (ap (λ (l : List ℕ). answered l (little_number 4 (drop 256 bytes))) (sym cells_are) ∙ ap (answered cells) (sym is))

pub length-checkpoint_bytes : (c : Checkpoint) → IsCheckpoint c → length (checkpoint_bytes c) ≡ 260
length-checkpoint_bytes c is =
    omega (arith, length-append (flat_map (little_bytes 8) c.cells) (little_bytes 4 c.last), length-spelled c.cells, is.cells)

-- what is spelled is read
pub read_back : (c : Checkpoint) → IsCheckpoint c → checkpoint_of (checkpoint_bytes c) ≡ Some c
unfolding answered
read_back c is =
    let front = flat_map (little_bytes 8) c.cells in
    let cells : numbers_in 32 (checkpoint_bytes c) ≡ c.cells =
    ap (λ (n : ℕ). numbers_in n (checkpoint_bytes c)) (sym is.cells) ∙ spelled_is_read c.cells (little_bytes 4 c.last) is.values in
    let behind : drop 256 (checkpoint_bytes c) ≡ little_bytes 4 c.last =
    drop_at front (little_bytes 4 c.last) 256 (omega (arith, length-spelled c.cells, is.cells)) in
    let last : little_number 4 (drop 256 (checkpoint_bytes c)) ≡ c.last =
    ap (λ (l : List ℕ). little_number 4 l) behind ∙ little_number-reads_back 4 c.last [] (omega (arith, is.last)) in
    rw (eq-eqb (length (checkpoint_bytes c)) 260 (length-checkpoint_bytes c is))
    (ap (λ (l : List ℕ). answered l (little_number 4 (drop 256 (checkpoint_bytes c)))) cells ∙ ap (answered c.cells) last)

-- what is read is spelled so
pub written_back : (bytes : List ℕ) (c : Checkpoint) → IsBytes bytes → checkpoint_of bytes ≡ Some c → (bytes ≡ checkpoint_bytes c) × IsCheckpoint c
unfolding made
written_back bytes c fits e =
    let guard = guarded _ _ _ e in
    let size : length bytes ≡ 260 = equal (length bytes) 260 guard.0 in
    let back = drop 256 bytes in
    let same : made (numbers_in 32 bytes) (little_number 4 back) ≡ c = some_is _ _ guard.1 in
    let behind : back ≡ little_bytes 4 (little_number 4 back) =
    four back (omega (arith, size, length-drop 256 bytes)) (IsBytes-drop 256 bytes fits)
    ∙ ap (λ (l : List ℕ). little_bytes 4 (little_number 4 back) ++ l) (drop_all 4 back (omega (arith, size, length-drop 256 bytes)))
    ∙ append-nil (little_bytes 4 (little_number 4 back)) in
    let whole : bytes ≡ checkpoint_bytes (made (numbers_in 32 bytes) (little_number 4 back)) =
    read_is_spelled 32 bytes (omega (arith, size)) fits ∙ ap (λ (l : List ℕ). flat_map (little_bytes 8) (numbers_in 32 bytes) ++ l) behind in
    let fit : IsCheckpoint (made (numbers_in 32 bytes) (little_number 4 back)) = record {
      cells = length-numbers_in 32 bytes;
      values = numbers_fit 32 bytes fits;
      last = omega (arith, little_from-lt 0 4 back (IsBytes-drop 256 bytes fits));
    } in (whole ∙ ap checkpoint_bytes same, subst IsCheckpoint same fit)
  where
    some_is : (x y : Checkpoint) → Some x ≡ Some y → x ≡ y
    some_is x y e = cc e
