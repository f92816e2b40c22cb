-- The base copy of a restored log is one that a log can have.
use Rattle.clfs_archive_form.proofs.Words.{◌≡◌, ℕ, zero, suc, ◌+◌, ◌-◌, ◌<◌, ◌≤◌, min, List, [], ◌∷◌, ◌++◌, length, take, drop, get_or, refl, sym, ◌∙◌, ap}
use Rattle.clfs_archive_form.proofs.Words.{subst, append_assoc, arith, range_with_len, get_or-map, length-map, length-take-le, length-range_with_len}
use Rattle.clfs_archive_form.proofs.Words.{container_of, BaseImage, Row, IsImage, current, flag, row_in, kept_count, lowered_rows, restored_copy}
use Rattle.std.proofs.Common.{set}
use Rattle.std.proofs.Math.Seq.{take-suc, drop-cons, get_or-append_seam, set-append_seam}
use Rattle.std.proofs.lemmas.List.{map-append}
use Rattle.std.proofs.lemmas.List.FromFn.{get_or-range_with_len}
use Rattle.clfs_base.specs.Layout.{version_two, most_dedicated}
use Rattle.clfs_base.specs.Spelling.{IsName}

abbrev pub no_row : Row
no_row = record { name = []; base = 0 }

abbrev lowered : ℕ → Row → Row
lowered e row = record row { base = min row.base e }

pub row_push : (a n : ℕ) → range_with_len a (suc n) ≡ range_with_len a n ++ (a + n) ∷ []
row_push a zero = ap (λ (k : ℕ). k ∷ []) (omega arith)
row_push a (suc n) = ap (λ (l : List ℕ). a ∷ l) (row_push (a + 1) n ∙ ap (λ (k : ℕ). range_with_len (a + 1) n ++ k ∷ []) (omega arith))

pub one_file_more : (number : ℕ) (files : List ℕ) → 1 ≤ number → files ≡ range_with_len 1 (number - 1) → files ++ number ∷ [] ≡ range_with_len 1 (number + 1 - 1)
one_file_more number files some is =
    ap (λ (l : List ℕ). l ++ number ∷ []) is ∙ ap (λ (k : ℕ). range_with_len 1 (number - 1) ++ k ∷ []) (last number some) ∙ sym (row_push 1 (number - 1))
    ∙ ap (range_with_len 1) (next number some)
  where
    last : (number : ℕ) → 1 ≤ number → number ≡ 1 + (number - 1)
    last number some = omega (arith, some)

    next : (number : ℕ) → 1 ≤ number → suc (number - 1) ≡ number + 1 - 1
    next number some = omega (arith, some)

pub copy_fits : (image : BaseImage) (up_to e : ℕ) → IsImage (current image) → image.first ≤ container_of up_to
    → container_of up_to < image.first + length image.files → IsImage (restored_copy image up_to e)
copy_fits image up_to e fits low high =
    let n : ℕ = kept_count image up_to in
    let count : length (range_with_len 1 n) ≡ n = length-range_with_len 1 n in
    let rows : length (lowered_rows e image.streams) ≡ length image.streams = length-map image.streams (lowered e) in record {
      version = refl;
      turn = omega arith;
      shape = fits.shape;
      some_containers = fits.some_containers;
      containers_made = omega arith;
      few_made = omega (arith, fits.containers_made, fits.few_made);
      first = fits.first;
      some_listed = omega (arith, count, low);
      few_listed = omega (arith, count, high, fits.few_listed);
      last_id = omega (arith, count, high, fits.last_id);
      maximum = fits.maximum;
      minimum = fits.minimum;
      growth = fits.growth;
      tail = omega (arith, fits.tail);
      dedicated = subst (λ (k : ℕ). flag image.dedicated ≤ most_dedicated version_two k) (sym rows) fits.dedicated;
      files = record {
        from_one = λ i lt. subst (λ (k : ℕ). 1 ≤ k) (sym (number i (omega (arith, lt, count)))) (omega arith);
        to_last = λ i lt. subst (λ (k : ℕ). k ≤ image.containers) (sym (number i (omega (arith, lt, count)))) (omega (arith, lt, count, high, fits.few_listed));
        different = λ i j before lt same.
            let a = number i (omega (arith, before, lt, count)) in let b = number j (omega (arith, lt, count)) in omega (arith, before, same, a, b);
      };
      few_streams = omega (arith, rows, fits.few_streams);
      rows = record {
        named = λ i lt. subst (λ (row : Row). IsName 64 row.name) (sym (row_at i (omega (arith, lt, rows)))) (fits.rows.named i (omega (arith, lt, rows)));
        different = λ i j before lt same.
            fits.rows.different i j before (omega (arith, lt, rows))
            (sym (ap (λ (row : Row). row.name) (row_at i (omega (arith, before, lt, rows)))) ∙ same ∙ ap (λ (row : Row). row.name) (row_at j (omega (arith, lt, rows))));
        bases = λ i lt. subst (λ (row : Row). row.base < 18446744073709551616) (sym (row_at i (omega (arith, lt, rows)))) (low_base (row_in image.streams i).base (fits.rows.bases i (omega (arith, lt, rows))));
      };
    }
  where
    number : (i : ℕ) → i < kept_count image up_to → get_or (range_with_len 1 (kept_count image up_to)) i 0 ≡ 1 + i
    number i lt = get_or-range_with_len 1 (kept_count image up_to) i 0 lt

    row_at : (i : ℕ) → i < length image.streams → row_in (lowered_rows e image.streams) i ≡ lowered e (row_in image.streams i)
    row_at i lt = get_or-map (lowered e) image.streams i (record { name = []; base = 0 }) (record { name = []; base = 0 }) lt

    low_base : (base : ℕ) → base < 18446744073709551616 → min base e < 18446744073709551616
    low_base base small = omega (arith, small)

-- one row more has been lowered
pub one_row_more : (e i : ℕ) (old : List Row) → i < length old
    → set (lowered_rows e (take i old) ++ drop i old) i (lowered e (get_or old i no_row)) ≡ lowered_rows e (take (i + 1) old) ++ drop (i + 1) old
one_row_more e i old within =
    let x : Row = get_or old i no_row in
    let front : List Row = lowered_rows e (take i old) in
    let long : length front ≡ i = length-map (take i old) (lowered e) ∙ length-take-le i old (omega (arith, within)) in
    let next : i + 1 ≡ suc i = omega arith in
    let more : lowered_rows e (take (suc i) old) ≡ front ++ lowered e x ∷ [] =
    ap (lowered_rows e) (take-suc old i no_row within) ∙ map-append (lowered e) (take i old) (x ∷ []) in
    ap (λ (l : List Row). set (front ++ l) i (lowered e x)) (drop-cons old i no_row within)
    ∙ ap (λ (k : ℕ). set (front ++ x ∷ drop (suc i) old) k (lowered e x)) (sym long)
    ∙ set-append_seam front x (drop (suc i) old) (lowered e x)
    ∙ sym (append_assoc front (lowered e x ∷ []) (drop (suc i) old))
    ∙ ap (λ (l : List Row). l ++ drop (suc i) old) (sym more)
    ∙ ap (λ (k : ℕ). lowered_rows e (take k old) ++ drop k old) (sym next)

pub item_is : (e i : ℕ) (old : List Row) (d : Row) → i < length old → get_or (lowered_rows e (take i old) ++ drop i old) i d ≡ get_or old i no_row
item_is e i old d within =
    let x : Row = get_or old i no_row in
    let front : List Row = lowered_rows e (take i old) in
    let long : length front ≡ i = length-map (take i old) (lowered e) ∙ length-take-le i old (omega (arith, within)) in
    ap (λ (l : List Row). get_or (front ++ l) i d) (drop-cons old i no_row within)
    ∙ ap (λ (k : ℕ). get_or (front ++ x ∷ drop (suc i) old) k d) (sym long) ∙ get_or-append_seam front x (drop (suc i) old) d

-- one row more is written
pub row_written : (e i base : ℕ) (old items : List Row) (there here : Row) → i < length old → items ≡ lowered_rows e (take i old) ++ drop i old
    → there ≡ get_or items i there → here ≡ get_or items i here → base ≡ min there.base e
    → set items i (record here { base = base }) ≡ lowered_rows e (take (i + 1) old) ++ drop (i + 1) old
row_written e i base old items there here within is there_is here_is base_is =
    let x : Row = get_or old i no_row in
    let a : there ≡ x = there_is ∙ ap (λ (l : List Row). get_or l i there) is ∙ item_is e i old there within in
    let b : here ≡ x = here_is ∙ ap (λ (l : List Row). get_or l i here) is ∙ item_is e i old here within in
    let low : base ≡ min x.base e = base_is ∙ ap (λ (row : Row). min row.base e) a in
    let same : record here { base = base } ≡ lowered e x = (λ j. record (b j) { base = low j }) in
    ap (λ (row : Row). set items i row) same ∙ ap (λ (l : List Row). set l i (lowered e x)) is ∙ one_row_more e i old within
