-- What is read of blocks and of containers, part by part.
use Rattle.clfs_recover.proofs.Words.{◌≡◌, ℕ, zero, suc, ◌+◌, ◌*◌, ◌^◌, ◌<◌, ◌≤◌, eqb, ltb, ◌||◌, List, [], ◌∷◌, ◌++◌, length, drop, Option, None, Result, Ok}
use Rattle.clfs_recover.proofs.Words.{refl, sym, ◌∙◌, ap, subst, arith, append_assoc, ltb-false, le-ltb, or_parts, or_from, append-nil, lsn_number, IsShape}
use Rattle.clfs_recover.proofs.Words.{size, unless_wrong, unless_ok, pass_check, pass_guard, record_at, LogEntry, Shape, total, place_of, payload_of}
use Rattle.clfs_recover.proofs.Words.{frame_at, rest_at, AreReadAsWritten, BlockHead, BlockRefusal, ◌>>=◌, told_as, records_from, block_records, damage_at}
use Rattle.clfs_recover.proofs.Words.{FitFrom, stored_in, stored_records, stored_end}
use Rattle.clfs_lsn.specs.Checks.{no_fault, guard_ok}
use Rattle.clfs_lsn.specs.Spelling.{Header, header_of, header_fault, filling_fault, entry_of}
use Rattle.clfs_block.specs.declared.head.BlockRefusal.TheVariants as blocks
use Rattle.clfs_recover.specs.Logs.{HaveRecords, all_records}
use Rattle.clfs_recover.proofs.Binding.{Records, read, bound, one_value, told_value}
use Rattle.clfs_recover.proofs.Writings.{ReadsRecords, HaveSizes, block_written}

-- the bytes of two lists of blocks
pub total-append : (front more : List (List ℕ)) → total (front ++ more) ≡ total front + total more
total-append [] more = omega arith
total-append (block ∷ others) more = let rest = total-append others more in omega (arith, rest)

-- ---- blocks

-- blocks one after the other, and those after them, have their records
pub records_both : (shape : Shape) (streams id offset : ℕ) (groups : List (List LogEntry)) (front : List (List ℕ)) (others : List (List LogEntry))
    (more : List (List ℕ)) → HaveRecords shape streams id offset groups front → HaveRecords shape streams id (offset + total front) others more
    → HaveRecords shape streams id offset (groups ++ others) (front ++ more)
records_both shape streams id offset [] [] others more have behind =
    let same : offset + 0 ≡ offset = omega arith in
    subst (λ (n : ℕ). HaveRecords shape streams id n others more) same behind
records_both shape streams id offset [] (block ∷ front) others more have behind = absurd have
records_both shape streams id offset (entries ∷ groups) [] others more have behind = absurd have
records_both shape streams id offset (entries ∷ groups) (block ∷ front) others more have behind =
    let sum : offset + (length block + total front) ≡ offset + length block + total front = omega arith in (
      have.0,
      records_both shape streams id (offset + length block) groups front others more have.1
          (subst (λ (n : ℕ). HaveRecords shape streams id n others more) sum behind),
    )

-- and are read as these
pub written_read : AreReadAsWritten → ReadsRecords → HaveSizes → (shape : Shape) (streams id : ℕ) → IsShape shape → streams < 2 ^ 16 → id < 2 ^ 32
    → (offset : ℕ) (groups : List (List LogEntry)) (front : List (List ℕ)) → offset + total front ≤ 512 * shape.container_sectors
    → HaveRecords shape streams id offset groups front → stored_in shape streams id offset front ≡ Ok (all_records groups)
written_read written reads sized shape streams id good few_streams small offset [] [] within have = refl
written_read written reads sized shape streams id good few_streams small offset [] (block ∷ front) within have = absurd have
written_read written reads sized shape streams id good few_streams small offset (entries ∷ groups) [] within have = absurd have
written_read written reads sized shape streams id good few_streams small offset (entries ∷ groups) (block ∷ front) within have =
    let one = block_written written reads sized shape streams (lsn_number id offset 0) entries block few_streams
    (omega (arith, small, within, good.largest_container)) have.0 in
    let rest = written_read written reads sized shape streams id good few_streams small (offset + length block) groups front (omega (arith, within)) have.1 in
    λ i. told_as (damage_at id offset) (one i) >>= λ (es : List LogEntry). (rest i >>= λ (others : List LogEntry). Ok (es ++ others))

module _ (shape : Shape) (streams : ℕ) where
  -- what is read of blocks, and of those after them
  pub read_behind : (id offset : ℕ) (front more : List (List ℕ)) (entries others : List LogEntry) → stored_in shape streams id offset front ≡ Ok entries
      → stored_in shape streams id (offset + total front) more ≡ Ok others → stored_in shape streams id offset (front ++ more) ≡ Ok (entries ++ others)
  read_behind id offset [] more entries others is behind =
      let none = one_value (read []) [] entries refl is in
      let same : offset + 0 ≡ offset = omega arith in
      subst (λ (es : List LogEntry). stored_in shape streams id offset more ≡ Ok (es ++ others)) none
      (subst (λ (n : ℕ). stored_in shape streams id n more ≡ Ok others) same behind)
  read_behind id offset (block ∷ front) more entries others is behind =
      let first = bound (told_as (damage_at id offset) (block_records shape streams (lsn_number id offset 0) block)) (λ (es : List LogEntry).
      stored_in shape streams id (offset + length block) front >>= λ (rest : List LogEntry). Ok (es ++ rest)) entries is in
      let next = bound (stored_in shape streams id (offset + length block) front) (λ (rest : List LogEntry). Ok (first.first ++ rest)) entries first.then in
      let sum : offset + (length block + total front) ≡ offset + length block + total front = omega arith in
      let rest = read_behind id (offset + length block) front more next.first others next.is
      (subst (λ (n : ℕ). stored_in shape streams id n more ≡ Ok others) sum behind) in
      let joined : first.first ++ (next.first ++ others) ≡ entries ++ others =
      sym (append_assoc first.first next.first others)
      ∙ ap (λ (es : List LogEntry). es ++ others) (one_value (read (first.first ++ next.first)) (first.first ++ next.first) entries refl next.then) in
      (λ i. first.is i >>= λ (es : List LogEntry). (rest i >>= λ (more : List LogEntry). Ok (es ++ more))) ∙ ap read joined

  -- ---- containers

  -- what is read of containers, and of those after them
  pub containers_both : (id : ℕ) (front more : List (List (List ℕ))) (entries others : List LogEntry) → stored_records shape streams id front ≡ Ok entries
      → stored_records shape streams (id + length front) more ≡ Ok others → stored_records shape streams id (front ++ more) ≡ Ok (entries ++ others)
  containers_both id [] more entries others is behind =
      let none = one_value (read []) [] entries refl is in
      let same : id + 0 ≡ id = omega arith in
      subst (λ (es : List LogEntry). stored_records shape streams id more ≡ Ok (es ++ others)) none
      (subst (λ (n : ℕ). stored_records shape streams n more ≡ Ok others) same behind)
  containers_both id (here ∷ front) more entries others is behind =
      let first = bound (stored_in shape streams id 0 here) (λ (es : List LogEntry).
      stored_records shape streams (id + 1) front >>= λ (rest : List LogEntry). Ok (es ++ rest)) entries is in
      let next = bound (stored_records shape streams (id + 1) front) (λ (rest : List LogEntry). Ok (first.first ++ rest)) entries first.then in
      let sum : id + length (here ∷ front) ≡ id + 1 + length front = omega arith in
      let rest = containers_both (id + 1) front more next.first others next.is
      (subst (λ (n : ℕ). stored_records shape streams n more ≡ Ok others) sum behind) in
      let joined : first.first ++ (next.first ++ others) ≡ entries ++ others =
      sym (append_assoc first.first next.first others)
      ∙ ap (λ (es : List LogEntry). es ++ others) (one_value (read (first.first ++ next.first)) (first.first ++ next.first) entries refl next.then) in
      (λ i. first.is i >>= λ (es : List LogEntry). (rest i >>= λ (more : List LogEntry). Ok (es ++ more))) ∙ ap read joined

  -- what is read of all of them comes of both parts
  pub record AreParted (id : ℕ) (front more : List (List (List ℕ))) (all : List LogEntry) : Type 0 where
    pub entries : List LogEntry
    pub others : List LogEntry
    pub first : stored_records shape streams id front ≡ Ok entries
    pub behind : stored_records shape streams (id + length front) more ≡ Ok others
    pub is : entries ++ others ≡ all

  pub parted : (id : ℕ) (front more : List (List (List ℕ))) (all : List LogEntry) → stored_records shape streams id (front ++ more) ≡ Ok all
      → AreParted id front more all
  parted id [] more all is =
      let same : id ≡ id + 0 = omega arith in record {
        entries = [];
        others = all;
        first = refl;
        behind = subst (λ (n : ℕ). stored_records shape streams n more ≡ Ok all) same is;
        is = refl;
      }
  parted id (here ∷ front) more all is =
      let first = bound (stored_in shape streams id 0 here) (λ (es : List LogEntry).
      stored_records shape streams (id + 1) (front ++ more) >>= λ (rest : List LogEntry). Ok (es ++ rest)) all is in
      let next = bound (stored_records shape streams (id + 1) (front ++ more)) (λ (rest : List LogEntry). Ok (first.first ++ rest)) all first.then in
      let rest = parted (id + 1) front more next.first next.is in
      let sum : id + 1 + length front ≡ id + length (here ∷ front) = omega arith in record {
        entries = first.first ++ rest.entries;
        others = rest.others;
        first = λ i. first.is i >>= λ (es : List LogEntry). (rest.first i >>= λ (more : List LogEntry). Ok (es ++ more));
        behind = subst (λ (n : ℕ). stored_records shape streams n more ≡ Ok rest.others) sum rest.behind;
        is = append_assoc first.first rest.entries rest.others ∙ ap (λ (es : List LogEntry). first.first ++ es) rest.is
            ∙ one_value (read (first.first ++ next.first)) (first.first ++ next.first) all refl next.then;
      }

  -- more blocks after those of the last container
  pub read_in_last : (id : ℕ) (front : List (List (List ℕ))) (here more : List (List ℕ)) (entries others : List LogEntry)
      → stored_records shape streams id (front ++ here ∷ []) ≡ Ok entries
      → stored_in shape streams (id + length front) (total here) more ≡ Ok others
      → stored_records shape streams id (front ++ (here ++ more) ∷ []) ≡ Ok (entries ++ others)
  read_in_last id front here more entries others is behind =
      let parts = parted id front (here ∷ []) entries is in
      let last = bound (stored_in shape streams (id + length front) 0 here) (λ (es : List LogEntry). Ok (es ++ [])) parts.others parts.behind in
      let none : 0 + total here ≡ total here = omega arith in
      let read_more = read_behind (id + length front) 0 here more last.first others last.is
      (subst (λ (n : ℕ). stored_in shape streams (id + length front) n more ≡ Ok others) (sym none) behind) in
      let alone : stored_records shape streams (id + length front) ((here ++ more) ∷ []) ≡ Ok (last.first ++ others) =
      ap (λ (r : Records). r >>= λ (es : List LogEntry). read (es ++ [])) read_more ∙ ap read (append-nil (last.first ++ others)) in
      let own : last.first ≡ parts.others =
      sym (append-nil last.first) ∙ one_value (read (last.first ++ [])) (last.first ++ []) parts.others refl last.then in
      let joined : parts.entries ++ (last.first ++ others) ≡ entries ++ others =
      ap (λ (es : List LogEntry). parts.entries ++ (es ++ others)) own ∙ sym (append_assoc parts.entries parts.others others)
      ∙ ap (λ (es : List LogEntry). es ++ others) parts.is in
      containers_both id front ((here ++ more) ∷ []) parts.entries (last.first ++ others) parts.first alone ∙ ap read joined

  -- a container more, without blocks
  pub read_with_empty : (id : ℕ) (front : List (List (List ℕ))) (entries : List LogEntry) → stored_records shape streams id front ≡ Ok entries
      → stored_records shape streams id (front ++ [] ∷ []) ≡ Ok entries
  read_with_empty id front entries is = containers_both id front ([] ∷ []) entries [] is refl ∙ ap read (append-nil entries)

-- the bytes of the blocks of the last of some containers
pub end_of_last : (front : List (List (List ℕ))) (here : List (List ℕ)) → stored_end (front ++ here ∷ []) ≡ total here
end_of_last [] here = refl
end_of_last (first ∷ []) here = refl
end_of_last (first ∷ second ∷ front) here = end_of_last (second ∷ front) here

-- ---- more streams

-- a header that is right in a log of some streams is so in one of more
header_more : (lsn streams more : ℕ) (h : Header) → streams ≤ more → header_fault lsn streams h ≡ None → header_fault lsn more h ≡ None
header_more lsn streams more h le is =
    let first = no_fault (eqb h.stream 0 || ltb streams h.stream) 4 _ is in
    let parts = or_parts (eqb h.stream 0) (ltb streams h.stream) first.0 in
    let low : h.stream ≤ streams = ltb-false streams h.stream parts.1 in
    pass_check (eqb h.stream 0 || ltb more h.stream) 4 _ (or_from (eqb h.stream 0) (ltb more h.stream) parts.0 (le-ltb more h.stream (omega (arith, low, le)))) first.1

record_more : (lsn streams more : ℕ) (bytes : List ℕ) (x : LogEntry × ℕ) → streams ≤ more → record_at lsn streams bytes ≡ Ok x → record_at lsn more bytes ≡ Ok x
unfolding record_at
record_more lsn streams more bytes x le is =
    let h = header_of bytes in
    let rest : Result (LogEntry × ℕ) ℕ = unless_wrong (λ at. at) (filling_fault h.len bytes) (Ok (entry_of lsn bytes, size h.len)) in
    let a = guard_ok (ltb (length bytes) 32) 0 _ x is in
    let b = guard_ok (ltb (length bytes) (size h.len)) 0 _ x a.1 in
    let c = unless_ok (λ at. at) (header_fault lsn streams h) rest x b.1 in
    pass_guard (ltb (length bytes) 32) 0 _ (Ok x) a.0 (pass_guard (ltb (length bytes) (size h.len)) 0 _ (Ok x) b.0
    (ap (λ (o : Option ℕ). unless_wrong (λ at. at) o rest) (header_more lsn streams more h le c.0) ∙ c.1))

module _ (shape : Shape) (streams more : ℕ) (le : streams ≤ more) where
  -- records that fit a log of some streams fit one of more
  fit_more : (lsn : ℕ) (entries : List LogEntry) → FitFrom lsn streams entries → FitFrom lsn more entries
  fit_more lsn [] fit = tt
  fit_more lsn (entry ∷ entries) fit = (
    record {
      at = fit.0.at;
      some_stream = fit.0.some_stream;
      stream = let few = fit.0.stream in omega (arith, few, le);
      bytes = fit.0.bytes;
      previous = fit.0.previous;
      undo_next = fit.0.undo_next;
      new_base = fit.0.new_base;
    },
    fit_more (lsn + 1) entries fit.1,
  )

  pub have_more : (id offset : ℕ) (groups : List (List LogEntry)) (front : List (List ℕ)) → HaveRecords shape streams id offset groups front
      → HaveRecords shape more id offset groups front
  have_more id offset [] [] have = tt
  have_more id offset [] (block ∷ front) have = absurd have
  have_more id offset (entries ∷ groups) [] have = absurd have
  have_more id offset (entries ∷ groups) (block ∷ front) have = (
    record {
      some = have.0.some;
      few = have.0.few;
      fit = fit_more (lsn_number id offset 0) entries have.0.fit;
      count = have.0.count;
      spelled = have.0.spelled;
    },
    have_more id (offset + length block) groups front have.1,
  )

  records_more : (payload : List ℕ) (count lsn p : ℕ) (entries : List LogEntry) → records_from streams payload count lsn p ≡ Ok entries
      → records_from more payload count lsn p ≡ Ok entries
  records_more payload zero lsn p entries is = is
  records_more payload (suc count) lsn p entries is =
      let first = bound (told_as (λ at. place_of (p + at)) (record_at lsn streams (drop p payload)))
      (λ (x : LogEntry × ℕ). records_from streams payload count (lsn + 1) (p + x.1) >>= λ (es : List LogEntry). Ok (x.0 ∷ es)) entries is in
      let rest = bound (records_from streams payload count (lsn + 1) (p + first.first.1)) (λ (es : List LogEntry). Ok (first.first.0 ∷ es)) entries first.then in
      let here = record_more lsn streams more (drop p payload) first.first le
      (told_value (λ at. place_of (p + at)) (record_at lsn streams (drop p payload)) first.first first.is) in
      let others = records_more payload count (lsn + 1) (p + first.first.1) rest.first rest.is in
      ap (λ (r : Result (LogEntry × ℕ) ℕ). told_as (λ at. place_of (p + at)) r >>= λ (x : LogEntry × ℕ).
      (records_from more payload count (lsn + 1) (p + x.1) >>= λ (es : List LogEntry). Ok (x.0 ∷ es))) here
      ∙ ap (λ (r : Result (List LogEntry) ℕ). r >>= λ (es : List LogEntry). Ok (first.first.0 ∷ es)) others ∙ rest.then

  block_more : (start : ℕ) (block : List ℕ) (entries : List LogEntry) → block_records shape streams start block ≡ Ok entries
      → block_records shape more start block ≡ Ok entries
  unfolding block_records
  block_more start block entries is =
      let framed = bound (frame_at shape start block) (λ (head : BlockHead).
      told_as blocks.BadByte (records_from streams (payload_of head.used block) head.records start 16) >>= λ (es : List LogEntry).
      (rest_at block head >>= λ (clean : BlockHead). Ok es)) entries is in
      let head : BlockHead = framed.first in
      let payload : List ℕ = payload_of head.used block in
      let found = bound (told_as blocks.BadByte (records_from streams payload head.records start 16))
      (λ (es : List LogEntry). rest_at block head >>= λ (clean : BlockHead). Ok es) entries framed.then in
      let same = records_more payload head.records start 16 found.first
      (told_value blocks.BadByte (records_from streams payload head.records start 16) found.first found.is) in
      ap (λ (r : Result BlockHead BlockRefusal). r >>= λ (head : BlockHead).
      (told_as blocks.BadByte (records_from more (payload_of head.used block) head.records start 16) >>= λ (es : List LogEntry).
      (rest_at block head >>= λ (clean : BlockHead). Ok es))) framed.is
      ∙ ap (λ (r : Result (List LogEntry) ℕ). told_as blocks.BadByte r >>= λ (es : List LogEntry). (rest_at block head >>= λ (clean : BlockHead). Ok es)) same
      ∙ found.then

  stored_in_more : (id offset : ℕ) (here : List (List ℕ)) (entries : List LogEntry) → stored_in shape streams id offset here ≡ Ok entries
      → stored_in shape more id offset here ≡ Ok entries
  stored_in_more id offset [] entries is = is
  stored_in_more id offset (block ∷ here) entries is =
      let first = bound (told_as (damage_at id offset) (block_records shape streams (lsn_number id offset 0) block)) (λ (es : List LogEntry).
      stored_in shape streams id (offset + length block) here >>= λ (rest : List LogEntry). Ok (es ++ rest)) entries is in
      let next = bound (stored_in shape streams id (offset + length block) here) (λ (rest : List LogEntry). Ok (first.first ++ rest)) entries first.then in
      let one = block_more (lsn_number id offset 0) block first.first
      (told_value (damage_at id offset) (block_records shape streams (lsn_number id offset 0) block) first.first first.is) in
      let rest = stored_in_more id (offset + length block) here next.first next.is in
      (λ i. told_as (damage_at id offset) (one i) >>= λ (es : List LogEntry). (rest i >>= λ (others : List LogEntry). Ok (es ++ others))) ∙ next.then

  pub stored_more : (id : ℕ) (containers : List (List (List ℕ))) (entries : List LogEntry) → stored_records shape streams id containers ≡ Ok entries
      → stored_records shape more id containers ≡ Ok entries
  stored_more id [] entries is = is
  stored_more id (here ∷ others) entries is =
      let first = bound (stored_in shape streams id 0 here) (λ (es : List LogEntry).
      stored_records shape streams (id + 1) others >>= λ (rest : List LogEntry). Ok (es ++ rest)) entries is in
      let next = bound (stored_records shape streams (id + 1) others) (λ (rest : List LogEntry). Ok (first.first ++ rest)) entries first.then in
      let one = stored_in_more id 0 here first.first first.is in
      let rest = stored_more (id + 1) others next.first next.is in
      (λ i. one i >>= λ (es : List LogEntry). (rest i >>= λ (others : List LogEntry). Ok (es ++ others))) ∙ next.then
