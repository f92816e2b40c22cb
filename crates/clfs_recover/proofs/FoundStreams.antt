-- The streams of rows with bases, by their numbers.
use Rattle.clfs_recover.proofs.Words.{◌≡◌, ◌≢◌, ℕ, zero, suc, ◌-◌, ◌<◌, ◌≤◌, not, eqb, ltb, ◌&&◌, List, [], ◌∷◌, length, get_or, Option, Some, None, refl}
use Rattle.clfs_recover.proofs.Words.{sym, ◌∙◌, ap, subst, arith, All, position_or_len, ne_eqb, le-ltb, position_or_len_is, slice_get-get_or, pass_check, Row}
use Rattle.clfs_recover.proofs.Words.{row_in, State, Stream, base_of, name_fault, streams_with}
use Rattle.std.specs.Prelude.{AllPairs, IsSome}
use Rattle.std.specs.Option.{option_map_or}
use Rattle.std.proofs.lemmas.Bool.{and_left, not_from_true}
use Rattle.std.proofs.lemmas.List.Sums.{AllPass-from_list_all}
use Rattle.clfs_lsn.specs.Names.{is_name_byte}
use Rattle.clfs_base.specs.Spelling.{IsName, AreRows}
use Rattle.clfs_model.specs.State.{stream_at}

-- the stream of a row with a base
abbrev pub stream_of : List Row → List ℕ → ℕ → Stream
stream_of rows bases i = record { name = (row_in rows i).name; base = get_or bases i 0 }

pub length-streams_with : (rows : List Row) (bases : List ℕ) → length bases ≡ length rows → length (streams_with rows bases) ≡ length rows
length-streams_with [] bases same = refl
length-streams_with (row ∷ rows) [] same = absurd (omega (arith, same))
length-streams_with (row ∷ rows) (base ∷ bases) same = let rest = length-streams_with rows bases (omega (arith, same)) in omega (arith, rest)

pub stream_in : (rows : List Row) (bases : List ℕ) (i : ℕ) (d : Stream) → length bases ≡ length rows → i < length rows
    → get_or (streams_with rows bases) i d ≡ stream_of rows bases i
stream_in [] bases i d same lt = absurd (omega (arith, lt))
stream_in (row ∷ rows) [] i d same lt = absurd (omega (arith, same))
stream_in (row ∷ rows) (base ∷ bases) zero d same lt = refl
stream_in (row ∷ rows) (base ∷ bases) (suc i) d same lt = stream_in rows bases i d (omega (arith, same)) (omega (arith, lt))

module _ (rows : List Row) (bases : List ℕ) (same : length bases ≡ length rows) where
  -- what is so of each row with its base is so of all streams
  pub all_streams : (P : Stream → Type 0) → ((i : ℕ) → i < length rows → P (stream_of rows bases i)) → All P (streams_with rows bases)
  all_streams P each i d lt =
      let here : i < length rows = omega (arith, lt, length-streams_with rows bases same) in
      subst P (sym (stream_in rows bases i d same here)) (each i here)

  -- different rows are different streams
  pub different_streams : (room : ℕ) → AreRows room rows → AllPairs (λ (a b : Stream). a.name ≢ b.name) (streams_with rows bases)
  different_streams room are i j d lt within equal =
      let there : j < length rows = omega (arith, within, length-streams_with rows bases same) in
      let first = ap (λ (s : Stream). s.name) (stream_in rows bases i d same (omega (arith, lt, there))) in
      let second = ap (λ (s : Stream). s.name) (stream_in rows bases j d same there) in
      are.different i j lt there (sym first ∙ equal ∙ second)

  -- a state with these streams has those from 1 on, with their bases
  module _ (s : State) (are : s.streams ≡ streams_with rows bases) where
    pub stream_there : (number : ℕ) → 1 ≤ number → number ≤ length rows → stream_at s number ≡ Some (stream_of rows bases (number - 1))
    stream_there number some few =
        let long = ap length are in
        let at = slice_get-get_or s.streams (number - 1) (stream_of rows bases (number - 1))
        (omega (arith, some, few, long, length-streams_with rows bases same)) in
        let is = ap (λ (l : List Stream). get_or l (number - 1) (stream_of rows bases (number - 1))) are
        ∙ stream_in rows bases (number - 1) (stream_of rows bases (number - 1)) same (omega (arith, some, few)) in
        rw (ne_eqb number 0 (λ none. omega (arith, none, some))) (at ∙ ap (λ (x : Stream). Some x) is)

    pub has_stream : (number : ℕ) → 1 ≤ number → number ≤ length rows → IsSome (stream_at s number)
    has_stream number some few = subst IsSome (sym (stream_there number some few)) refl

    pub base_there : (number : ℕ) → 1 ≤ number → number ≤ length rows → base_of s number ≡ get_or bases (number - 1) 0
    base_there number some few = ap (λ (found : Option Stream). option_map_or (λ (stream : Stream). stream.base) found 0) (stream_there number some few)

-- a name that a row may have is legal
pub legal_name : (name : List ℕ) → IsName 64 name → name_fault name ≡ None
legal_name name is =
    let bad : ℕ = position_or_len (λ b. not (is_name_byte b)) name in
    let pass = AllPass-from_list_all is_name_byte name is.bytes in
    let far : bad ≡ length name = position_or_len_is (λ b. not (is_name_byte b)) name (length name) 0 (omega arith)
    (λ k lt. not_from_true (is_name_byte (get_or name k 0)) (pass k 0 lt)) (λ lt. absurd (omega (arith, lt))) in
    pass_check (eqb (length name) 0) 0 _ (ne_eqb (length name) 0 (λ none. omega (arith, none, is.some)))
    (pass_check (ltb bad (length name) && ltb bad 64) bad _ (and_left (ltb bad (length name)) (ltb bad 64) (le-ltb bad (length name) (omega (arith, far))))
    (pass_check (ltb 64 (length name)) 64 None (le-ltb 64 (length name) is.few) refl))
