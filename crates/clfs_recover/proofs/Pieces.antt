-- What a piece that was read ahead has of its file.
use Rattle.clfs_recover.proofs.Words.{◌≡◌, inl, inr, ⊎_elim, ℕ, ◌+◌, ◌-◌, ◌<◌, ◌≤◌, List, length, take, drop, Result, Ok, Err, sym, ◌∙◌, ap, subst, arith}
use Rattle.clfs_recover.proofs.Words.{length-drop, drop-take, drop-drop, drop_all, take_all, length-take, OnOk, cases_lt, IsFrontOf, Piece, Shows}
use Rattle.clfs_recover.specs.Fronts.{Reaches}

-- the bytes of a piece from a place on are a front of those of its file
pub shown_front : (file : List ℕ) (piece : Piece) (at least : ℕ) → Shows file piece → Reaches at least piece
    → IsFrontOf least (drop at file) (drop (at - piece.from) piece.bytes)
shown_front file piece at least shows reach =
    let k = at - piece.from in
    let n = length piece.bytes in
    let front = drop k piece.bytes in
    let place : piece.from + k ≡ at = omega (arith, reach.0) in
    let size : length front ≡ n - k = length-drop k piece.bytes in
    let behind : drop k (drop piece.from file) ≡ drop at file = drop-drop k piece.from file ∙ ap (λ (m : ℕ). drop m file) place in
    let is : front ≡ take (n - k) (drop at file) = ap (drop k) shows.is ∙ cut k n (drop piece.from file) ∙ ap (take (n - k)) behind in record {
      is = is ∙ ap (λ (m : ℕ). take m (drop at file)) (sym size);
      long = ⊎_elim (λ (near : k + least ≤ n). inr (omega (arith, near, size)))
          (λ (short : n < piece.room). ⊎_elim (λ (full : piece.room ≤ n). absurd (omega (arith, short, full)))
          (λ (all : length file ≤ piece.from + n). inl (is ∙ take_all (n - k) (drop at file) (omega (arith, all, place, length-drop at file)))) shows.full)
          reach.1;
    }
  where
    cut : (k n : ℕ) (l : List ℕ) → drop k (take n l) ≡ take (n - k) (drop k l)
    cut k n l = ⊎_elim
        (λ (few : n < k). drop_all k (take n l) (omega (arith, few, length-take n l))
        ∙ sym (ap (λ (m : ℕ). take m (drop k l)) (none few)))
        (λ (le : k ≤ n). ap (λ (m : ℕ). drop k (take m l)) (sym (whole le)) ∙ drop-take k (n - k) l)
        (cases_lt n k)
      where
        none : n < k → n - k ≡ 0
        none lt = omega (arith, lt)

        whole : k ≤ n → k + (n - k) ≡ n
        whole le = omega (arith, le)

-- A piece shows a file still, where the bytes of that are named otherwise.
pub shows_still : (file same : List ℕ) (old new : Piece) → file ≡ same → (Shows file old → Shows file new) → Shows same old → Shows same new
shows_still file same old new e still shows = subst (λ (l : List ℕ). Shows l new) e (still (subst (λ (l : List ℕ). Shows l old) (sym e) shows))

-- And so what it has from a place on is a front of the file's bytes there.
pub front_still : (file same : List ℕ) (old new : Piece) (at least : ℕ) (front : List ℕ) → file ≡ same → (Shows file old → Shows file new) → Shows same old
    → Reaches at least new → front ≡ drop (at - new.from) new.bytes → IsFrontOf least (drop at same) front
front_still file same old new at least front e still shows reach is =
    subst (λ (l : List ℕ). IsFrontOf least (drop at same) l) (sym is) (shown_front same new at least (shows_still file same old new e still shows) reach)

-- A piece reaches where it was just read.
pub read_reaches : {T E : Type 0} (r : Result T E) (at least : ℕ) (piece : Piece) → OnOk r (piece.from ≡ at) → length piece.bytes ≤ piece.room
    → least ≤ piece.room → OnOk r (Reaches at least piece)
read_reaches (Ok value) at least piece place few room = (
  omega (arith, place),
  ⊎_elim (λ (short : length piece.bytes < piece.room). inr short) (λ (full : piece.room ≤ length piece.bytes). inl (omega (arith, full, room, place)))
      (cases_lt (length piece.bytes) piece.room),
)
read_reaches (Err e) at least piece place few room = tt
