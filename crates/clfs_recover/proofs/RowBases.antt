-- The bases of a copy's rows and those that records move, where a row, a stream or a record more changes them.
use Rattle.clfs_recover.proofs.Words.{◌≡◌, ◌≢◌, inl, inr, ⊎_elim, ℕ, zero, suc, ◌+◌, ◌-◌, ◌<◌, ◌≤◌, false, eqb, max, List, [], ◌∷◌, ◌++◌, length, get_or, set}
use Rattle.clfs_recover.proofs.Words.{map, refl, sym, ◌∙◌, ap, subst, arith, length-append, length-set, get_or-set_same, get_or-set_other, All}
use Rattle.clfs_recover.proofs.Words.{AllByRecursion, fold, filter, cases_Bool, cases_eq, ne_eqb, get_or-append_seam, ext_get_or, map-append}
use Rattle.clfs_recover.proofs.Words.{get_or_append_left, filter-append, recursion_from_All, fold-append, LogEntry, Row, row_in, Stream, set_base}
use Rattle.clfs_recover.proofs.Words.{streams_with, base_with, bases_with}
use Rattle.std.proofs.lemmas.List.{set-get_or}
use Rattle.clfs_recover.proofs.FoundBases.{new_bases, greatest_first, greatest_above, greatest_below}
use Rattle.clfs_recover.proofs.FoundStreams.{length-streams_with, stream_in}
use Rattle.clfs_recover.proofs.Raising.{is_of, base_at, length-bases_with}

-- ---- streams with other bases

-- moving a stream's base changes the stream of its number
pub set_base_is : (streams : List Stream) (k base : ℕ) (d : Stream) → k < length streams
    → set_base (k + 1) base streams ≡ set streams k (record (get_or streams k d) { base = base })
set_base_is [] k base d lt = absurd (omega (arith, lt))
set_base_is (stream ∷ streams) zero base d lt = refl
set_base_is (stream ∷ streams) (suc k) base d lt =
    let other : eqb (suc k + 1) 1 ≡ false = ne_eqb (suc k + 1) 1 (λ same. omega (arith, same)) in
    let less : suc k + 1 - 1 ≡ k + 1 = omega arith in
    rw other (ap (λ (n : ℕ). stream ∷ set_base n base streams) less ∙ ap (λ (l : List Stream). stream ∷ l) (set_base_is streams k base d (omega (arith, lt))))

-- rows and bases of which one is changed
pub streams_set : (rows : List Row) (bases : List ℕ) (k : ℕ) (row : Row) (base : ℕ) → length bases ≡ length rows → k < length rows
    → streams_with (set rows k row) (set bases k base) ≡ set (streams_with rows bases) k (record { name = row.name; base = base })
streams_set [] bases k row base same lt = absurd (omega (arith, lt))
streams_set (first ∷ rows) [] k row base same lt = absurd (omega (arith, same))
streams_set (first ∷ rows) (b ∷ bases) zero row base same lt = refl
streams_set (first ∷ rows) (b ∷ bases) (suc k) row base same lt =
    ap (λ (l : List Stream). record { name = first.name; base = b } ∷ l) (streams_set rows bases k row base (omega (arith, same)) (omega (arith, lt)))

-- a row that keeps its name
pub streams_moved : (rows : List Row) (bases : List ℕ) (k : ℕ) (row : Row) (base : ℕ) → length bases ≡ length rows → k < length rows
    → row.name ≡ (row_in rows k).name
    → streams_with (set rows k row) (set bases k base) ≡ set_base (k + 1) base (streams_with rows bases)
streams_moved rows bases k row base same lt name =
    let none : Stream = record { name = []; base = 0 } in
    let here = stream_in rows bases k none same lt in
    streams_set rows bases k row base same lt
    ∙ (λ i. set (streams_with rows bases) k (record { name = (name ∙ sym (ap (λ (s : Stream). s.name) here)) i; base = base }))
    ∙ sym (set_base_is (streams_with rows bases) k base none (let long = length-streams_with rows bases same in omega (arith, long, lt)))

-- rows that stay
pub streams_raised : (rows : List Row) (bases : List ℕ) (k base : ℕ) → length bases ≡ length rows → k < length rows
    → streams_with rows (set bases k base) ≡ set_base (k + 1) base (streams_with rows bases)
streams_raised rows bases k base same lt =
    let none : Row = record { name = []; base = 0 } in
    sym (ap (λ (l : List Row). streams_with l (set bases k base)) (set-get_or rows k none))
    ∙ streams_moved rows bases k (row_in rows k) base same lt refl

-- one stream more
pub streams_more : (rows : List Row) (bases : List ℕ) (row : Row) (base : ℕ) → length bases ≡ length rows
    → streams_with (rows ++ row ∷ []) (bases ++ base ∷ []) ≡ streams_with rows bases ++ record { name = row.name; base = base } ∷ []
streams_more [] [] row base same = refl
streams_more [] (b ∷ bases) row base same = absurd (omega (arith, same))
streams_more (first ∷ rows) [] row base same = absurd (omega (arith, same))
streams_more (first ∷ rows) (b ∷ bases) row base same =
    ap (λ (l : List Stream). record { name = first.name; base = b } ∷ l) (streams_more rows bases row base (omega (arith, same)))

-- ---- the bases of rows that change

-- a row's base that is at least what the records make of it is the stream's
pub bases_set : (rows : List Row) (entries : List LogEntry) (k : ℕ) (row : Row) → k < length rows → base_with rows entries k ≤ row.base
    → bases_with (set rows k row) entries ≡ set (bases_with rows entries) k row.base
bases_set rows entries k row lt least =
    let other : List Row = set rows k row in
    let none : Row = record { name = []; base = 0 } in
    let long : length other ≡ length rows = length-set rows k row in
    let old_long = length-bases_with rows entries in
    let new_long = length-bases_with other entries in
    ext_get_or 0 (bases_with other entries) (set (bases_with rows entries) k row.base)
    (new_long ∙ long ∙ sym (length-set (bases_with rows entries) k row.base ∙ old_long))
    (λ i within.
    let near : i < length rows = omega (arith, within, new_long, long) in
    let at = base_at other entries i (omega (arith, near, long)) in
    ⊎_elim
    (λ (same : i ≡ k).
    let here : row_in other i ≡ row = ap (λ (n : ℕ). row_in other n) same ∙ get_or-set_same rows k row none lt in
    let below = greatest_below row.base row.base (new_bases i entries) (omega arith)
    (lower (row_in rows i).base row.base (new_bases i entries) (subst (λ (n : ℕ). base_with rows entries n ≤ row.base) (sym same) least)) in
    let above = greatest_first row.base (new_bases i entries) in
    let is : fold max row.base (new_bases i entries) ≡ row.base = omega (arith, below, above) in
    at ∙ ap (λ (r : Row). fold max r.base (new_bases i entries)) here ∙ is
    ∙ sym (ap (λ (n : ℕ). get_or (set (bases_with rows entries) k row.base) n 0) same
    ∙ get_or-set_same (bases_with rows entries) k row.base 0 (omega (arith, lt, old_long))))
    (λ (apart : i ≢ k).
    at ∙ ap (λ (r : Row). fold max r.base (new_bases i entries)) (get_or-set_other rows k i row none apart)
    ∙ sym (get_or-set_other (bases_with rows entries) k i row.base 0 apart ∙ base_at rows entries i near))
    (cases_eq i k))
  where
    lower : (first bound : ℕ) (ns : List ℕ) → fold max first ns ≤ bound → AllByRecursion (λ m. m ≤ bound) ns
    lower first bound ns le = each ns (greatest_above first ns)
      where
        each : (ms : List ℕ) → AllByRecursion (λ m. m ≤ fold max first ns) ms → AllByRecursion (λ m. m ≤ bound) ms
        each [] all = tt
        each (m ∷ ms) all = (omega (arith, all.0, le), each ms all.1)

-- no record of a stream that isn't there yet
none_of_new : (n : ℕ) (entries : List LogEntry) → AllByRecursion (λ (entry : LogEntry). entry.stream ≤ n) entries → new_bases n entries ≡ []
none_of_new n [] all = refl
none_of_new n (entry ∷ entries) all =
    rw (ne_eqb entry.stream (n + 1) (λ same. let few = all.0 in omega (arith, same, few))) (none_of_new n entries all.1)

-- a stream more has its row's base
pub bases_more_rows : (rows : List Row) (entries : List LogEntry) (row : Row) → AllByRecursion (λ (entry : LogEntry). entry.stream ≤ length rows) entries
    → bases_with (rows ++ row ∷ []) entries ≡ bases_with rows entries ++ row.base ∷ []
bases_more_rows rows entries row few =
    let all : List Row = rows ++ row ∷ [] in
    let none : Row = record { name = []; base = 0 } in
    let long : length all ≡ length rows + 1 = length-append rows (row ∷ []) in
    let old_long = length-bases_with rows entries in
    let new_long = length-bases_with all entries in
    ext_get_or 0 (bases_with all entries) (bases_with rows entries ++ row.base ∷ [])
    (let more = length-append (bases_with rows entries) (row.base ∷ []) in omega (arith, new_long, long, more, old_long))
    (λ i within.
    let near : i < length rows + 1 = omega (arith, within, new_long, long) in
    let at = base_at all entries i (omega (arith, near, long)) in
    ⊎_elim
    (λ (last : i ≡ length rows).
    let here : row_in all i ≡ row = ap (λ (n : ℕ). row_in all n) last ∙ get_or-append_seam rows row [] none in
    let nothing : new_bases i entries ≡ [] = ap (λ (n : ℕ). new_bases n entries) last ∙ none_of_new (length rows) entries few in
    at ∙ ap (λ (r : Row). fold max r.base (new_bases i entries)) here ∙ ap (fold max row.base) nothing
    ∙ sym (ap (λ (n : ℕ). get_or (bases_with rows entries ++ row.base ∷ []) n 0) (last ∙ sym old_long)
    ∙ get_or-append_seam (bases_with rows entries) row.base [] 0))
    (λ (other : i ≢ length rows).
    let front : i < length rows = omega (arith, near, other) in
    at ∙ ap (λ (r : Row). fold max r.base (new_bases i entries)) (get_or_append_left rows (row ∷ []) none i front)
    ∙ sym (get_or_append_left (bases_with rows entries) (row.base ∷ []) 0 i (omega (arith, front, old_long)) ∙ base_at rows entries i front))
    (cases_eq i (length rows)))

-- ---- records without new bases

zeros_stay : (n : ℕ) (ns : List ℕ) → AllByRecursion (λ m. m ≡ 0) ns → fold max n ns ≡ n
zeros_stay n [] all = refl
zeros_stay n (m ∷ ms) all = ap (λ (k : ℕ). fold max k ms) (let none = all.0 in let same : max n m ≡ n = omega (arith, none) in same) ∙ zeros_stay n ms all.1

zero_bases : (i : ℕ) (entries : List LogEntry) → AllByRecursion (λ (entry : LogEntry). entry.new_base ≡ 0) entries
    → AllByRecursion (λ m. m ≡ 0) (new_bases i entries)
zero_bases i [] all = tt
zero_bases i (entry ∷ entries) all = elim (cases_Bool (is_of i entry)) [
  | inl here ↦ rw here (all.0, zero_bases i entries all.1)
  | inr other ↦ rw other (zero_bases i entries all.1)
]

pub bases_stay : (rows : List Row) (entries others : List LogEntry) → All (λ (entry : LogEntry). entry.new_base ≡ 0) others
    → bases_with rows (entries ++ others) ≡ bases_with rows entries
bases_stay rows entries others zeros =
    let first_long = length-bases_with rows (entries ++ others) in
    let second_long = length-bases_with rows entries in
    ext_get_or 0 (bases_with rows (entries ++ others)) (bases_with rows entries) (first_long ∙ sym second_long)
    (λ i within.
    let near : i < length rows = omega (arith, within, first_long) in
    let base = (row_in rows i).base in
    base_at rows (entries ++ others) i near
    ∙ ap (λ (l : List LogEntry). fold max base (map (λ (x : LogEntry). x.new_base) l)) (filter-append (is_of i) entries others)
    ∙ ap (λ (l : List ℕ). fold max base l) (map-append (λ (x : LogEntry). x.new_base) (filter (is_of i) entries) (filter (is_of i) others))
    ∙ fold-append max base (new_bases i entries) (new_bases i others)
    ∙ zeros_stay (base_with rows entries i) (new_bases i others)
    (zero_bases i others (recursion_from_All (λ (entry : LogEntry). entry.new_base ≡ 0) others zeros))
    ∙ sym (base_at rows entries i near))
