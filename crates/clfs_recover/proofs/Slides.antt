-- A piece that slides on shows its file still: what it keeps is the front of what is there, and what is read goes on after it.
use Rattle.clfs_recover.proofs.Words.{nat_le, ◌≡◌, inl, inr, ⊎_elim, ℕ, true, false, zero, suc, ◌+◌, ◌-◌, ◌<◌, ◌≤◌, List, [], ◌∷◌, ◌++◌, length, take, drop}
use Rattle.clfs_recover.proofs.Words.{refl, sym, ◌∙◌, ap, subst, arith, length-drop, drop-drop, drop-take, drop_all, take_at, take-take, length-take}
use Rattle.clfs_recover.proofs.Words.{cases_lt, leb-true, found_count, Piece, Shows}
use Rattle.std.specs.Prelude.{if◌then◌else◌}
use Rattle.std.proofs.lemmas.List.{take-append-le, length-append}
use Rattle.clfs_recover.proofs.Pieces.{shown_front}

-- of two lists, so many of the first and then of the second
take_both : (k c : ℕ) (a b : List ℕ) → length a ≡ k → take (k + c) (a ++ b) ≡ a ++ take c b
take_both k c [] b long = let e : k + c ≡ c = omega (arith, long) in ap (λ (n : ℕ). take n b) e
take_both k c (x ∷ a) b long =
    let e : k + c ≡ suc (length a + c) = omega (arith, long) in
    ap (λ (n : ℕ). take n (x ∷ (a ++ b))) e ∙ ap (λ (l : List ℕ). x ∷ l) (take_both (length a) c a b refl)

-- of no bytes there are none
take_none : (n : ℕ) → take {A = ℕ} n [] ≡ []
take_none zero = refl
take_none (suc n) = refl

-- the first ones, and those after them
take_on : (k c : ℕ) (l : List ℕ) → take k l ++ take c (drop k l) ≡ take (k + c) l
take_on zero c l = let e : c ≡ 0 + c = omega arith in ap (λ (n : ℕ). take n l) e
take_on (suc k) c [] = take_none c ∙ sym (take_none (suc k + c))
take_on (suc k) c (x ∷ l) =
    let e : suc (k + c) ≡ suc k + c = omega arith in
    ap (λ (m : List ℕ). x ∷ m) (take_on k c l) ∙ ap (λ (n : ℕ). take n (x ∷ l)) e

-- a front is as long as it is
pub own_length : (n : ℕ) (l : List ℕ) → take n l ≡ take (length (take n l)) l
own_length zero l = refl
own_length (suc n) [] = refl
own_length (suc n) (x ∷ l) = ap (λ (m : List ℕ). x ∷ m) (own_length n l)

module _ (file kept out post : List ℕ) (at next k count room : ℕ) where
  -- the piece that was kept and read on
  abbrev on : List ℕ
  on = take (k + count) (kept ++ (out ++ post))

  pub slid_shows : length kept ≡ k → k ≤ room → length out ≡ room - k → next ≡ at + k → kept ≡ take k (drop at file)
      → count ≡ found_count file next (room - k) → take count out ≡ take count (drop next file)
      → Shows file (record { from = at; bytes = on; room = room })
  slid_shows long within size place front found read = record {
    is = there ∙ own_length (k + count) (drop at file) ∙ ap (λ (l : List ℕ). take (length l) (drop at file)) (sym there);
    full = ⊎_elim (λ (few : length file - next < room - k). inr (omega (arith, few, found, place, counted, in_file)))
        (λ (all : room - k ≤ length file - next). inl (omega (arith, all, found, counted, within))) (cases_lt (length file - next) (room - k));
  }
    where
      there : on ≡ take (k + count) (drop at file)
      there =
          let fits : count ≤ length out = omega (arith, found, size) in
          let behind : drop next file ≡ drop k (drop at file) = ap (λ (n : ℕ). drop n file) place ∙ sym (drop-drop k at file) in
          take_both k count kept (out ++ post) long
          ∙ (λ i. front i ++ (take-append-le count out post fits ∙ read ∙ ap (take count) behind) i)
          ∙ take_on k count (drop at file)

      in_file : k ≤ length file - at
      in_file = omega (arith, sym long ∙ ap length front ∙ length-take k (drop at file), length-drop at file)

      counted : length on ≡ k + count
      counted = omega (arith, ap length there ∙ length-take (k + count) (drop at file), length-drop at file, found, place, in_file)

  -- so it is with bytes after it that are cut off
  pub slid_within : (from : ℕ) (rest : List ℕ) → from ≡ at → length kept ≡ k → k ≤ room → length out ≡ room - k → next ≡ at + k → kept ≡ take k (drop at file)
      → count ≡ found_count file next (room - k) → take count out ≡ take count (drop next file)
      → Shows file (record { from = from; bytes = take (k + count) (take room ((kept ++ (out ++ post)) ++ rest)); room = room })
  slid_within from rest is long within size place front found read =
      let few : k + count ≤ room = omega (arith, found, within) in
      let whole : take (k + count) (kept ++ (out ++ post)) ≡ take (k + count) (take room ((kept ++ (out ++ post)) ++ rest)) =
      sym (take-take (k + count) room ((kept ++ (out ++ post)) ++ rest) few
      ∙ take-append-le (k + count) (kept ++ (out ++ post)) rest (omega (arith, length-append kept (out ++ post), length-append out post, long, size, found))) in
      subst (λ (n : ℕ). Shows file (record { from = n; bytes = take (k + count) (take room ((kept ++ (out ++ post)) ++ rest)); room = room })) (sym is)
      (subst (λ (l : List ℕ). Shows file (record { from = at; bytes = l; room = room })) whole (slid_shows long within size place front found read))

-- what a piece has from a place on, and how many bytes that is
abbrev pub kept_of : Piece → ℕ → List ℕ
kept_of piece at = if nat_le piece.from at then drop (at - piece.from) piece.bytes else []

abbrev pub kept_count : Piece → ℕ → ℕ
kept_count piece at = if nat_le piece.from at then length (drop (at - piece.from) piece.bytes) else 0

-- the last bytes of a piece, moved to the front of others, are those
pub moved_front : (piece : Piece) (at count k : ℕ) (buffer rest : List ℕ) → piece.bytes ≡ take count buffer → count ≤ length buffer → k ≡ kept_count piece at
    → take k (take (count - (count - k)) (drop (count - k) buffer) ++ rest) ≡ kept_of piece at
moved_front piece at count k buffer rest has whole is = (elim (nat_le piece.from at) as (λ b. k ≡ (if b then length (drop (at - piece.from) piece.bytes) else 0)
    → take k (take (count - (count - k)) (drop (count - k) buffer) ++ rest) ≡ (if b then drop (at - piece.from) piece.bytes else [])) [
      | true ↦ λ kept. from_place kept
      | false ↦ λ none. ap (λ (n : ℕ). take n (take (count - (count - k)) (drop (count - k) buffer) ++ rest)) none
    ]) is
  where
    n : ℕ
    n = at - piece.from

    from_place : k ≡ length (drop n piece.bytes) → take k (take (count - (count - k)) (drop (count - k) buffer) ++ rest) ≡ drop n piece.bytes
    from_place kept =
        let size : k ≡ count - n = omega (arith, kept, length-drop n piece.bytes, ap length has, length-take count buffer, whole) in
        let few : count - (count - k) ≡ k = omega (arith, size) in
        let front : List ℕ = take (count - (count - k)) (drop (count - k) buffer) in
        let long : length front ≡ k =
        omega (arith, length-take (count - (count - k)) (drop (count - k) buffer), length-drop (count - k) buffer, whole, few, size) in
        take_at front rest k long ∙ ap (λ (m : ℕ). take m (drop (count - k) buffer)) few
        ∙ ⊎_elim (λ (past : count < n).
        let none : k ≡ 0 = omega (arith, size, past) in
        ap (λ (m : ℕ). take m (drop (count - k) buffer)) none
        ∙ sym (drop_all n piece.bytes (omega (arith, ap length has, length-take count buffer, past))))
        (λ (le : n ≤ count).
        let skipped : count - k ≡ n = omega (arith, size, le) in
        let all : n + k ≡ count = omega (arith, size, le) in
        ap (λ (m : ℕ). take k (drop m buffer)) skipped ∙ sym (drop-take n k buffer) ∙ ap (λ (m : ℕ). drop n (take m buffer)) all
        ∙ ap (drop n) (sym has))
        (cases_lt count n)

-- what a piece has from a place on is the front of what its file has there
pub kept_front : (file : List ℕ) (piece : Piece) (at : ℕ) → Shows file piece → kept_of piece at ≡ take (length (kept_of piece at)) (drop at file)
kept_front file piece at shows = (elim (nat_le piece.from at) as (λ b. nat_le piece.from at ≡ b
    → (if b then drop (at - piece.from) piece.bytes else []) ≡ take (length (if b then drop (at - piece.from) piece.bytes else [])) (drop at file)) [
      | true ↦ λ le. from_place (leb-true piece.from at le)
      | false ↦ λ lt. refl
    ]) refl
  where
    from_place : piece.from ≤ at → drop (at - piece.from) piece.bytes ≡ take (length (drop (at - piece.from) piece.bytes)) (drop at file)
    from_place le = ⊎_elim (λ (past : length piece.bytes < at - piece.from).
        let none = drop_all (at - piece.from) piece.bytes (omega (arith, past)) in
        none ∙ ap (λ (l : List ℕ). take (length l) (drop at file)) (sym none))
        (λ (within : at - piece.from ≤ length piece.bytes). (shown_front file piece at 0 shows (le, inl (omega (arith, within)))).is)
        (cases_lt (length piece.bytes) (at - piece.from))
