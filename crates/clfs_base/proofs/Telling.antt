-- What a slot that is right tells without its image.
use Rattle.clfs_base.proofs.Words.{◌≡◌, ℕ, ◌<◌, ◌≤◌, Bool, true, false, cond, leb, ltb, List, length, map, Option, Some, None, slice_get, refl, sym, ◌∙◌, ap}
use Rattle.clfs_base.proofs.Words.{arith, ⊎_elim, ◌&&◌, cases_lt, length-map-range_with_len, get_or-map-range_with_len, range_with_len, Layout, numbers_of}
use Rattle.clfs_base.proofs.Words.{fields, most_dedicated, numbers_for, file_in, row_of, slot_fault, image_of}
use Rattle.std.proofs.lemmas.Bool.{lt-ltb, le-ltb}
use Rattle.std.proofs.lemmas.Option.{slice_get-get_or, slice_get_past}
use Rattle.clfs_base.proofs.Searches.{both_none}
use Rattle.clfs_base.proofs.Chains.{chained}
use Rattle.clfs_base.proofs.Ranges.{all_pass, pass_right}
use Rattle.clfs_base.proofs.Taken.{flag_back}

-- the element at a place of a list that is made by places
pub at_place : {X : Type 0} (f : ℕ → X) (n i : ℕ) → cond (ltb i n) (Some (f i)) None ≡ slice_get (map f (range_with_len 0 n)) i
at_place {X} f n i = ⊎_elim
    (λ (lt : i < n). ap (λ (b : Bool). if_so b) (lt-ltb i n lt)
    ∙ sym (slice_get-get_or xs i (f i) (omega (arith, lt, size)) ∙ ap (λ (x : X). some x) (get_or-map-range_with_len f 0 n i i (f i) lt (omega arith))))
    (λ (le : n ≤ i). ap (λ (b : Bool). if_so b) (le-ltb i n le) ∙ sym (slice_get_past xs i (omega (arith, le, size))))
    (cases_lt i n)
  where
    xs : List X
    xs = map f (range_with_len 0 n)

    size : length xs ≡ n
    size = length-map-range_with_len f 0 n

    some : X → Option X
    some x = Some x

    if_so : Bool → Option X
    if_so b = cond b (Some (f i)) None

at_most_one : (layout : Layout) (streams number : ℕ) → number ≤ most_dedicated layout streams → number ≤ 1
at_most_one layout streams number le = by (layout.has_dedicated && leb streams 1) le
  where
    by : (b : Bool) → number ≤ cond b 1 0 → number ≤ 1
    by true le = le
    by false le = omega (arith, le)

-- the numbers of its image are those that stand in its fields
pub same_numbers : (layout : Layout) (bytes : List ℕ) → slot_fault layout bytes ≡ None → numbers_for (image_of layout bytes) ≡ numbers_of bytes
same_numbers layout bytes none =
    let n = numbers_of bytes in
    let a = both_none _ _ (sym (chained layout bytes n refl) ∙ none) in
    let r = (pass_right layout n bytes (all_pass bytes (fields layout n) a.0)).0 in
    let zero_is : 0 ≡ n.zero = sym r.zero_is in
    let files_size = length-map-range_with_len (file_in bytes) 0 n.listed in
    let rows_size = length-map-range_with_len (row_of layout bytes) 0 n.streams in
    let archiving_is = flag_back n.archiving r.archiving in
    let automatic_is = flag_back n.automatic r.automatic in
    let dedicated_is = flag_back n.dedicated (at_most_one layout n.streams n.dedicated r.dedicated) in
    λ k. record n {
      zero = zero_is k;
      listed = files_size k;
      streams = rows_size k;
      archiving = archiving_is k;
      automatic = automatic_is k;
      dedicated = dedicated_is k;
    }
