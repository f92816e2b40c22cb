-- Where the last block of a log ends, by the records of the log and by its blocks.
use Rattle.clfs_archive_form.proofs.Words.{inl, inr, ◌≡◌, ℕ, ◌+◌, ◌-◌, ◌*◌, ◌%◌, ◌<◌, ◌≤◌, Bool, true, false, cond, eqb, ◌&&◌, List, [], ◌∷◌, ◌++◌, length}
use Rattle.clfs_archive_form.proofs.Words.{filter, Option, Some, None, Result, Ok, refl, sym, ◌∙◌, ap, subst, append_assoc, append-nil, arith, option_map_or}
use Rattle.clfs_archive_form.proofs.Words.{eq-eqb, eqb-true, ne_eqb, filter-append, lsn_number, container_of, offset_of, size, sectors, BaseFits, LogEntry}
use Rattle.clfs_archive_form.proofs.Words.{Shape, block_sectors, total, AreReadAsWritten, ◌>>=◌, told_as, block_records, FitFrom, stored_in, damage_at}
use Rattle.clfs_archive_form.proofs.Words.{LoadRefusal, AreExact, end_of_last}
use Rattle.std.specs.List.{last_or, sum_by}
use Rattle.std.proofs.lemmas.Bool.{cases_Bool}
use Rattle.std.proofs.lemmas.List.Sums.{sum_by-cons}
use Rattle.clfs_lsn.specs.declared.entry.Kind.{Kind}
use Rattle.clfs_lsn.specs.declared.entry.Kind.TheVariants.{Plain, Restart}
use Rattle.clfs_model.specs.Archive.{is_in_block, block_payload, end_of_block}
use Rattle.clfs_archive_form.proofs.KeptEnds.{AreBelow, below_both, below_higher, row_below}
use Rattle.clfs_archive_form.proofs.ReadRecords.{ReadsFit, HasRead, has_read, taken_bytes, bound, one_value, told_value}

abbrev right : List LogEntry → Result (List LogEntry) LoadRefusal
right entries = Ok entries

abbrev read_both : List LogEntry → Result (List LogEntry) LoadRefusal → Result (List LogEntry) LoadRefusal
read_both entries read = read >>= (λ (others : List LogEntry). Ok (entries ++ others))

-- no record moves a base above itself
abbrev pub HaveLowBases : List LogEntry → Type 0
HaveLowBases [] = Unit {0}
HaveLowBases (e ∷ es) = (e.new_base ≤ e.lsn) × HaveLowBases es

pub bases_both : (a b : List LogEntry) → HaveLowBases a → HaveLowBases b → HaveLowBases (a ++ b)
bases_both [] b first next = next
bases_both (e ∷ a) b first next = (first.0, bases_both a b first.1 next)

low_base : (kind : Kind) (lsn base : ℕ) → BaseFits kind lsn base → base ≤ lsn
low_base Plain lsn base fits = omega (arith, fits)
low_base Restart lsn base fits = fits

row_bases : (lsn streams : ℕ) (es : List LogEntry) → FitFrom lsn streams es → HaveLowBases es
row_bases lsn streams [] fit = tt
row_bases lsn streams (e ∷ es) fit = (omega (arith, low_base e.kind lsn e.new_base fit.0.new_base, fit.0.at), row_bases (lsn + 1) streams es fit.1)

-- ---- which records are in a block

not_in : (x lsn : ℕ) → (container_of x ≡ container_of lsn → offset_of x ≡ offset_of lsn → ⊥) → is_in_block x lsn ≡ false
not_in x lsn apart = elim (cases_Bool (eqb (container_of x) (container_of lsn))) [
  | inl on ↦ ap (λ (b : Bool). b && eqb (offset_of x) (offset_of lsn)) on
      ∙ ne_eqb (offset_of x) (offset_of lsn) (λ same. apart (eqb-true (container_of x) (container_of lsn) on) same)
  | inr off ↦ ap (λ (b : Bool). b && eqb (offset_of x) (offset_of lsn)) off
]

is_in : (x lsn : ℕ) → container_of x ≡ container_of lsn → offset_of x ≡ offset_of lsn → is_in_block x lsn ≡ true
is_in x lsn one two =
    ap (λ (b : Bool). b && eqb (offset_of x) (offset_of lsn)) (eq-eqb (container_of x) (container_of lsn) one) ∙ eq-eqb (offset_of x) (offset_of lsn) two

abbrev in_block : ℕ → LogEntry → Bool
in_block lsn entry = is_in_block entry.lsn lsn

none_in : (id offset k : ℕ) (es : List LogEntry) → offset % 512 ≡ 0 → offset ≤ 8388608 → k < 512 → AreBelow (lsn_number id offset 0) es
    → filter (in_block (lsn_number id offset 0 + k)) es ≡ []
none_in id offset k [] whole few near are = refl
none_in id offset k (e ∷ es) whole few near are =
    ap (λ (b : Bool). cond b (e ∷ filter (in_block (lsn_number id offset 0 + k)) es) (filter (in_block (lsn_number id offset 0 + k)) es))
    (not_in e.lsn (lsn_number id offset 0 + k) (λ one two. omega (arith, one, two, are.0, whole, few, near)))
    ∙ none_in id offset k es whole few near are.1

all_in : (id offset k : ℕ) (streams lsn : ℕ) (es : List LogEntry) → offset % 512 ≡ 0 → offset ≤ 8388608 → k < 512 → FitFrom lsn streams es
    → lsn_number id offset 0 ≤ lsn → lsn + length es ≤ lsn_number id offset 0 + 511 → filter (in_block (lsn_number id offset 0 + k)) es ≡ es
all_in id offset k streams lsn [] whole few near fit from to = refl
all_in id offset k streams lsn (e ∷ es) whole few near fit from to =
    ap (λ (b : Bool). cond b (e ∷ filter (in_block (lsn_number id offset 0 + k)) es) (filter (in_block (lsn_number id offset 0 + k)) es))
    (is_in e.lsn (lsn_number id offset 0 + k) (omega (arith, fit.0.at, whole, few, near, from, to)) (omega (arith, fit.0.at, whole, few, near, from, to)))
    ∙ ap (λ (l : List LogEntry). e ∷ l) (all_in id offset k streams (lsn + 1) es whole few near fit.1 (omega (arith, from)) (omega (arith, to)))

taken : (es : List LogEntry) → sum_by (λ (entry : LogEntry). size (length entry.bytes)) es ≡ taken_bytes es
taken [] = refl
taken (e ∷ es) = sum_by-cons (λ (entry : LogEntry). size (length entry.bytes)) e es ∙ ap (λ (n : ℕ). size (length e.bytes) + n) (taken es)

-- ---- the last record

abbrev AllEnd : (LogEntry → ℕ) → ℕ → List LogEntry → Type 0
AllEnd f v [] = Unit {0}
AllEnd f v (e ∷ es) = (f e ≡ v) × AllEnd f v es

last_ends : (f : LogEntry → ℕ) (v : ℕ) (e : LogEntry) (es : List LogEntry) → f e ≡ v → AllEnd f v es → option_map_or f (last_or (Some e) es) 0 ≡ v
last_ends f v e [] is all = is
last_ends f v e (next ∷ es) is all = last_ends f v next es all.0 all.1

last_of : (f : LogEntry → ℕ) (v : ℕ) (es : List LogEntry) → 1 ≤ length es → AllEnd f v es → option_map_or f (last_or None es) 0 ≡ v
last_of f v [] some all = absurd (omega (arith, some))
last_of f v (e ∷ es) some all = last_ends f v e es all.0 all.1

last_behind : (o : Option LogEntry) (a b : List LogEntry) → 1 ≤ length b → last_or o (a ++ b) ≡ last_or None b
last_behind o [] [] some = absurd (omega (arith, some))
last_behind o [] (e ∷ b) some = refl
last_behind o (e ∷ a) b some = last_behind (Some e) a b some

module _ (written : AreReadAsWritten) (fits : ReadsFit) (shape : Shape) (small : shape.block_sectors ≤ 128) (few : shape.container_sectors ≤ 16384) (streams id : ℕ) where
  -- the records of a block end with it
  own_ends : (offset : ℕ) (before es : List LogEntry) (block : List ℕ) → offset % 512 ≡ 0 → offset ≤ 8388608 → AreBelow (lsn_number id offset 0) before
      → HasRead shape streams (lsn_number id offset 0) es block → (lsn : ℕ) (more : List LogEntry) → FitFrom lsn streams more
      → lsn_number id offset 0 ≤ lsn → lsn + length more ≤ lsn_number id offset 0 + 511
      → AllEnd (λ (e : LogEntry). end_of_block (before ++ es) e.lsn) (offset + 512 * block_sectors block) more
  own_ends offset before es block whole low are has lsn [] fit from to = tt
  own_ends offset before es block whole low are has lsn (e ∷ more) fit from to =
      let start : ℕ = lsn_number id offset 0 in
      let k : ℕ = lsn - start in
      let at : e.lsn ≡ start + k = omega (arith, fit.0.at, from) in
      let near : k < 512 = omega (arith, to, from) in
      let here : filter (in_block (start + k)) (before ++ es) ≡ es =
      filter-append (in_block (start + k)) before es ∙ ap (λ (l : List LogEntry). l ++ filter (in_block (start + k)) es) (none_in id offset k before whole low near are)
      ∙ all_in id offset k streams start es whole low near has.fit (omega arith) (omega (arith, has.few)) in
      let sum : block_payload (before ++ es) (start + k) ≡ 16 + taken_bytes es =
      ap (λ (l : List LogEntry). 16 + sum_by (λ (entry : LogEntry). size (length entry.bytes)) l) here ∙ ap (λ (n : ℕ). 16 + n) (taken es) in
      let count : sectors (block_payload (before ++ es) (start + k)) ≡ block_sectors block = ap sectors sum ∙ has.sectors_are in
      let place : offset_of (start + k) ≡ offset = omega (arith, whole, low, near) in (
        ap (end_of_block (before ++ es)) at ∙ ends place count,
        own_ends offset before es block whole low are has (lsn + 1) more fit.1 (omega (arith, from)) (omega (arith, to)),
      )
    where
      ends : {a b c d : ℕ} → a ≡ b → c ≡ d → a + 512 * c ≡ b + 512 * d
      ends p q = omega (arith, p, q)

  -- a block after which no other follows
  alone_ends : (offset : ℕ) (block : List ℕ) (before es more : List LogEntry) → offset % 512 ≡ 0 → offset ≤ 512 * shape.container_sectors
      → AreBelow (lsn_number id offset 0) before → length block ≡ 512 * block_sectors block → HasRead shape streams (lsn_number id offset 0) es block → more ≡ []
      → (end_of_last (before ++ (es ++ more)) (es ++ more) ≡ offset + (length block + 0)) × (1 ≤ length (es ++ more))
  alone_ends offset block before es more whole within are exact has none =
      let all : es ++ more ≡ es = ap (λ (l : List LogEntry). es ++ l) none ∙ append-nil es in
      let ends = last_of (λ (e : LogEntry). end_of_block (before ++ es) e.lsn) (offset + 512 * block_sectors block) es has.some
      (own_ends offset before es block whole (omega (arith, within, few)) are has (lsn_number id offset 0) es has.fit (omega arith) (omega (arith, has.few))) in
      subst (λ (l : List LogEntry). (end_of_last (before ++ l) l ≡ offset + (length block + 0)) × (1 ≤ length l)) (sym all)
      (ends ∙ end_is exact, has.some)
    where
      end_is : length block ≡ 512 * block_sectors block → offset + 512 * block_sectors block ≡ offset + (length block + 0)
      end_is exact = omega (arith, exact)

  -- a block after which others follow
  more_end : (offset len rest : ℕ) (before es more : List LogEntry) → 1 ≤ length more → end_of_last ((before ++ es) ++ more) more ≡ offset + len + rest
      → (end_of_last (before ++ (es ++ more)) (es ++ more) ≡ offset + (len + rest)) × (1 ≤ length (es ++ more))
  more_end offset len rest before es more some is = (
    ap (λ (o : Option LogEntry). option_map_or (λ (e : LogEntry). end_of_block (before ++ (es ++ more)) e.lsn) o 0) (last_behind None es more some)
        ∙ ap (λ (l : List LogEntry). end_of_last l more) (sym (append_assoc before es more)) ∙ is ∙ sum,
    omega (arith, length_both es more, some),
  )
    where
      sum : offset + len + rest ≡ offset + (len + rest)
      sum = omega arith

      length_both : (a b : List LogEntry) → length (a ++ b) ≡ length a + length b
      length_both [] b = omega arith
      length_both (x ∷ a) b = omega (arith, length_both a b)

  pub ends_at : (offset : ℕ) (block : List ℕ) (blocks : List (List ℕ)) (before entries : List LogEntry) → offset % 512 ≡ 0 → offset ≤ 512 * shape.container_sectors
      → AreBelow (lsn_number id offset 0) before → AreExact (block ∷ blocks) → stored_in shape streams id offset (block ∷ blocks) ≡ Ok entries
      → (end_of_last (before ++ entries) entries ≡ offset + total (block ∷ blocks)) × (1 ≤ length entries)
  ends_at offset block [] before entries whole within are exact is =
      let start : ℕ = lsn_number id offset 0 in
      let first = bound (told_as (damage_at id offset) (block_records shape streams start block))
      (λ (es : List LogEntry). read_both es (stored_in shape streams id (offset + length block) [])) entries is in
      let next = bound (stored_in shape streams id (offset + length block) []) (λ (others : List LogEntry). Ok (first.first ++ others)) entries first.then in
      let has = has_read written fits shape small streams start first.first block
      (told_value (damage_at id offset) (block_records shape streams start block) first.first first.is) in
      let same = one_value (right (first.first ++ next.first)) (first.first ++ next.first) entries refl next.then in
      subst (λ (l : List LogEntry). (end_of_last (before ++ l) l ≡ offset + total (block ∷ [])) × (1 ≤ length l)) same
      (alone_ends offset block before first.first next.first whole within are exact.0 has (sym (one_value (right []) [] next.first refl next.is)))
  ends_at offset block (other ∷ blocks) before entries whole within are exact is =
      let start : ℕ = lsn_number id offset 0 in
      let first = bound (told_as (damage_at id offset) (block_records shape streams start block))
      (λ (es : List LogEntry). read_both es (stored_in shape streams id (offset + length block) (other ∷ blocks))) entries is in
      let next = bound (stored_in shape streams id (offset + length block) (other ∷ blocks)) (λ (others : List LogEntry). Ok (first.first ++ others)) entries first.then in
      let has = has_read written fits shape small streams start first.first block
      (told_value (damage_at id offset) (block_records shape streams start block) first.first first.is) in
      let same = one_value (right (first.first ++ next.first)) (first.first ++ next.first) entries refl next.then in
      let beyond : offset + length block ≤ 512 * shape.container_sectors = omega (arith, exact.0, has.left, has.some_sectors, whole, within, few) in
      let later : AreBelow (lsn_number id (offset + length block) 0) (before ++ first.first) =
      below_both (lsn_number id (offset + length block) 0) before first.first (below_higher start (lsn_number id (offset + length block) 0) before (omega arith) are)
      (row_below start streams (lsn_number id (offset + length block) 0) first.first has.fit (omega (arith, has.few, exact.0, has.some_sectors))) in
      let rest = ends_at (offset + length block) other blocks (before ++ first.first) next.first (omega (arith, exact.0, whole)) beyond later exact.1 next.is in
      subst (λ (l : List LogEntry). (end_of_last (before ++ l) l ≡ offset + total (block ∷ other ∷ blocks)) × (1 ≤ length l)) same
      (more_end offset (length block) (total (other ∷ blocks)) before first.first next.first rest.1 rest.0)

  -- the records of blocks lie below their end, and move no base above themselves
  pub stored_below : (offset : ℕ) (blocks : List (List ℕ)) (entries : List LogEntry) → AreExact blocks → stored_in shape streams id offset blocks ≡ Ok entries
      → AreBelow (lsn_number id (offset + total blocks) 0) entries × HaveLowBases entries
  stored_below offset [] entries exact is =
      subst (λ (l : List LogEntry). AreBelow (lsn_number id (offset + 0) 0) l × HaveLowBases l) (one_value (right []) [] entries refl is) (tt, tt)
  stored_below offset (block ∷ blocks) entries exact is =
      let start : ℕ = lsn_number id offset 0 in
      let end : ℕ = lsn_number id (offset + (length block + total blocks)) 0 in
      let first = bound (told_as (damage_at id offset) (block_records shape streams start block))
      (λ (es : List LogEntry). read_both es (stored_in shape streams id (offset + length block) blocks)) entries is in
      let next = bound (stored_in shape streams id (offset + length block) blocks) (λ (others : List LogEntry). Ok (first.first ++ others)) entries first.then in
      let has = has_read written fits shape small streams start first.first block
      (told_value (damage_at id offset) (block_records shape streams start block) first.first first.is) in
      let rest = stored_below (offset + length block) blocks next.first exact.1 next.is in
      subst (λ (l : List LogEntry). AreBelow end l × HaveLowBases l) (one_value (right (first.first ++ next.first)) (first.first ++ next.first) entries refl next.then) (
        below_both end first.first next.first (row_below start streams end first.first has.fit (omega (arith, has.few, exact.0, has.some_sectors)))
            (below_higher (lsn_number id (offset + length block + total blocks) 0) end next.first (omega arith) rest.0),
        bases_both first.first next.first (row_bases start streams first.first has.fit) rest.1,
      )
