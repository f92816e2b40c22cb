-- The bases of streams, record by record.
use Rattle.clfs_recover.proofs.Words.{◌≡◌, ◌≢◌, ⊎_elim, ℕ, ◌+◌, ◌-◌, ◌<◌, ◌≤◌, Bool, true, false, cond, eqb, max, List, [], ◌∷◌, ◌++◌, length, get_or, set}
use Rattle.clfs_recover.proofs.Words.{map, refl, sym, ◌∙◌, ap, arith, get_or-set_other, get_or-set_same, length-set, fold, filter, ext_get_or, map-append}
use Rattle.clfs_recover.proofs.Words.{length-map, get_or-map, filter-append, fold-append, length-map-range_with_len, cases_eq, eq-eqb, ne_eqb, LogEntry, Row}
use Rattle.clfs_recover.proofs.Words.{row_in, base_with, bases_with, raised}
use Rattle.std.proofs.lemmas.List.FromFn.{get_or-map-range_with_len}

new_base_of : LogEntry → ℕ
new_base_of entry = entry.new_base

abbrev pub is_of : ℕ → LogEntry → Bool
is_of i entry = eqb entry.stream (i + 1)

-- a base with one record more
base_more : (rows : List Row) (before : List LogEntry) (e : LogEntry) (i : ℕ)
    → base_with rows (before ++ e ∷ []) i ≡ cond (is_of i e) (max (base_with rows before i) e.new_base) (base_with rows before i)
base_more rows before e i =
    let base = (row_in rows i).base in
    ap (λ (l : List LogEntry). fold max base (map (λ (x : LogEntry). x.new_base) l)) (filter-append (is_of i) before (e ∷ []))
    ∙ ap (λ (l : List ℕ). fold max base l) (map-append (λ (x : LogEntry). x.new_base) (filter (is_of i) before) (filter (is_of i) (e ∷ [])))
    ∙ fold-append max base (map (λ (x : LogEntry). x.new_base) (filter (is_of i) before)) (map (λ (x : LogEntry). x.new_base) (filter (is_of i) (e ∷ [])))
    ∙ last (is_of i e)
  where
    last : (b : Bool) → fold max (base_with rows before i) (map (λ (x : LogEntry). x.new_base) (cond b (e ∷ []) []))
        ≡ cond b (max (base_with rows before i) e.new_base) (base_with rows before i)
    last true = refl
    last false = refl

pub length-bases_with : (rows : List Row) (entries : List LogEntry) → length (bases_with rows entries) ≡ length rows
length-bases_with rows entries = length-map-range_with_len (base_with rows entries) 0 (length rows)

pub base_at : (rows : List Row) (entries : List LogEntry) (i : ℕ) → i < length rows → get_or (bases_with rows entries) i 0 ≡ base_with rows entries i
base_at rows entries i lt = get_or-map-range_with_len (base_with rows entries) 0 (length rows) i i 0 lt (omega arith)

-- A record raises the base of its stream and no other.
pub bases_more : (rows : List Row) (before : List LogEntry) (e : LogEntry) → 1 ≤ e.stream → e.stream ≤ length rows
    → raised (bases_with rows before) e.stream e.new_base ≡ bases_with rows (before ++ e ∷ [])
bases_more rows before e some few =
    let old = bases_with rows before in
    let at = e.stream - 1 in
    let now = max (get_or old at 0) e.new_base in
    ext_get_or 0 (set old at now) (bases_with rows (before ++ e ∷ []))
    (length-set old at now ∙ length-bases_with rows before ∙ sym (length-bases_with rows (before ++ e ∷ [])))
    (λ i lt.
    let near : i < length rows = omega (arith, lt, length-set old at now, length-bases_with rows before) in
    let more = base_at rows (before ++ e ∷ []) i near ∙ base_more rows before e i in
    let here = base_at rows before i near in
    ⊎_elim
    (λ (same : i ≡ at).
    let test : is_of i e ≡ true = eq-eqb e.stream (i + 1) (omega (arith, same, some)) in
    let there : at < length old = omega (arith, near, same, length-bases_with rows before) in
    ap (λ (k : ℕ). get_or (set old at now) k 0) same ∙ get_or-set_same old at now 0 there
    ∙ ap (λ (k : ℕ). max (get_or old k 0) e.new_base) (sym same) ∙ ap (λ (n : ℕ). max n e.new_base) here
    ∙ sym (more ∙ ap (λ b. cond b (max (base_with rows before i) e.new_base) (base_with rows before i)) test))
    (λ (other : i ≢ at).
    let test : is_of i e ≡ false = ne_eqb e.stream (i + 1) (λ is. other (omega (arith, is))) in
    get_or-set_other old at i now 0 other ∙ here
    ∙ sym (more ∙ ap (λ b. cond b (max (base_with rows before i) e.new_base) (base_with rows before i)) test))
    (cases_eq i at))

-- without records the bases are those of the rows
pub first_bases : (rows : List Row) → map (λ (row : Row). row.base) rows ≡ bases_with rows []
first_bases rows = ext_get_or 0 (map (λ (row : Row). row.base) rows) (bases_with rows [])
    (length-map rows (λ (row : Row). row.base) ∙ sym (length-bases_with rows []))
    (λ i lt.
    let near : i < length rows = omega (arith, lt, length-map rows (λ (row : Row). row.base)) in
    get_or-map (λ (row : Row). row.base) rows i (record { name = []; base = 0 }) 0 near ∙ sym (base_at rows [] i near))
