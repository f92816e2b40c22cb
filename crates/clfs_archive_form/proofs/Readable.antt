-- The containers of archives that were read can be read in the log of the last copy.
use Rattle.clfs_archive_form.proofs.Words.{◌≡◌, ℕ, zero, suc, ◌+◌, ◌-◌, ◌*◌, ◌%◌, ◌<◌, ◌≤◌, Bool, true, false, cond, ltb, leb, eqb, List, [], ◌∷◌, ◌++◌}
use Rattle.clfs_archive_form.proofs.Words.{length, reverse, get_or, Some, Result, Ok, Err, refl, sym, ◌∙◌, ap, subst, arith, All, find, ltb-false, All-cons}
use Rattle.clfs_archive_form.proofs.Words.{All-nil, lsn_number, container_of, LogEntry, Shape, BaseImage, ◌>>=◌, told_as, block_records, stored_in, shape_of}
use Rattle.clfs_archive_form.proofs.Words.{damage_at, LoadRefusal, Stored, InputRefusal, wanted_count, rest_there, just_there, number_there, is_length}
use Rattle.clfs_archive_form.proofs.Words.{length_there, records_there, damage_told, part_of, blocks_in, container_there, containers_there, containers_len}
use Rattle.clfs_archive_form.proofs.Words.{later_demands, TakesContainers, Suits, IsReadableAs, AreReadable}
use Rattle.std.specs.Prelude.{OnOk}
use Rattle.std.proofs.lemmas.Bool.{and_parts, leb-true}
use Rattle.std.proofs.lemmas.List.{get_or-reverse, length-reverse}
use Rattle.std.proofs.lemmas.List.Elements.{All-append, All-weaker}
use Rattle.clfs_archive_form.specs.Containers.{whole_there}
use Rattle.clfs_archive_form.proofs.ReadRecords.{bound, one_value, told_value}

-- what a test lets through
tested : {A : Type 0} (b : Bool) (value : A) (at : ℕ) (other : A) → cond b (Ok value) (Err at) ≡ Ok other → b ≡ true
tested true value at other is = refl
tested false value at other is = absurd (cc is)

refused : {A : Type 0} (b : Bool) (value : A) (at : ℕ) (other : A) → cond b (Err at) (Ok value) ≡ Ok other → b ≡ false
refused true value at other is = absurd (cc is)
refused false value at other is = refl

tested_value : {A : Type 0} (b : Bool) (value : A) (at : ℕ) (other : A) → cond b (Ok value) (Err at) ≡ Ok other → value ≡ other
tested_value true value at other is = cc is
tested_value false value at other is = absurd (cc is)

abbrev stored_as : ℕ → ℕ → ℕ → Stored
stored_as id at len = record { container = id; at = at; len = len }

abbrev right : Stored → Result Stored ℕ
right stored = Ok stored

module _ (bytes : List ℕ) (image : BaseImage) where
  one_readable : (id at : ℕ) (stored : Stored) → container_there (shape_of image) (length image.streams) bytes id at ≡ Ok stored → IsReadableAs bytes image stored
  unfolding container_there
  one_readable id at stored is =
      let number = bound (just_there bytes at id) (λ (n : ℕ). length_there (shape_of image) bytes (at + 4) >>= λ (len : ℕ).
      (records_there (shape_of image) (length image.streams) id bytes (at + 8) len >>= λ (entries : List LogEntry).
      (whole_there bytes (at + 8) len >>= λ (whole : ℕ). Ok (stored_as id (at + 8) len)))) stored is in
      let length_is = bound (length_there (shape_of image) bytes (at + 4)) (λ (len : ℕ).
      records_there (shape_of image) (length image.streams) id bytes (at + 8) len >>= λ (entries : List LogEntry).
      (whole_there bytes (at + 8) len >>= λ (whole : ℕ). Ok (stored_as id (at + 8) len))) stored number.then in
      let len : ℕ = length_is.first in
      let entries = bound (records_there (shape_of image) (length image.streams) id bytes (at + 8) len) (λ (entries : List LogEntry).
      whole_there bytes (at + 8) len >>= λ (whole : ℕ). Ok (stored_as id (at + 8) len)) stored length_is.then in
      let whole = bound (whole_there bytes (at + 8) len) (λ (whole : ℕ). right (stored_as id (at + 8) len)) stored entries.then in
      let of_len = bound (number_there bytes (at + 4)) (λ (n : ℕ). cond (is_length (shape_of image) n) (Ok n) (Err (at + 4))) len length_is.is in
      let fits = tested (is_length (shape_of image) of_len.first) of_len.first (at + 4) len of_len.then in
      let same = tested_value (is_length (shape_of image) of_len.first) of_len.first (at + 4) len of_len.then in
      let parts = and_parts (eqb (of_len.first % 512) 0) (leb of_len.first (512 * image.container_sectors)) fits in
      let most = leb-true of_len.first (512 * image.container_sectors) parts.1 in
      let there = ltb-false (length bytes) (at + 8 + len) (refused (ltb (length bytes) (at + 8 + len)) len (length bytes) whole.first whole.is) in
      subst (IsReadableAs bytes image) (one_value (right (stored_as id (at + 8) len)) (stored_as id (at + 8) len) stored refl whole.then) (record {
        there = there;
        within = omega (arith, most, same);
        entries = entries.first;
        read = told_value (damage_told (at + 8)) (stored_in (shape_of image) (length image.streams) id 0 (blocks_in (part_of bytes (at + 8) len))) entries.first entries.is;
      })

  all_readable : (count id at : ℕ) (more : List Stored) → containers_there (shape_of image) (length image.streams) bytes count id at ≡ Ok more
      → AreReadable bytes image more
  all_readable zero id at more is = subst (AreReadable bytes image) (one_value none [] more refl is) (All-nil (IsReadableAs bytes image))
    where
      none : Result (List Stored) ℕ
      none = Ok []
  all_readable (suc count) id at more is =
      let first = bound (container_there (shape_of image) (length image.streams) bytes id at) (λ (stored : Stored).
      containers_there (shape_of image) (length image.streams) bytes count (id + 1) (at + 8 + stored.len) >>= λ (others : List Stored). Ok (stored ∷ others)) more is in
      let next = bound (containers_there (shape_of image) (length image.streams) bytes count (id + 1) (at + 8 + first.first.len))
      (λ (others : List Stored). all_right (first.first ∷ others)) more first.then in
      subst (AreReadable bytes image) (one_value (all_right (first.first ∷ next.first)) (first.first ∷ next.first) more refl next.then)
      (All-cons (IsReadableAs bytes image) first.first next.first (one_readable id at first.first first.is)
      (all_readable count (id + 1) (at + 8 + first.first.len) next.first next.is))
    where
      all_right : List Stored → Result (List Stored) ℕ
      all_right l = Ok l

  rest_readable : (at : ℕ) (more : List Stored) → rest_there image bytes at ≡ Ok more → AreReadable bytes image more
  unfolding rest_there
  rest_readable at more is =
      let count = bound (just_there bytes (at + 16391) (wanted_count image)) (λ (count : ℕ).
      containers_there (shape_of image) (length image.streams) bytes count (container_of image.tail) (at + 16395)) more is in
      all_readable count.first (container_of image.tail) (at + 16395) more count.then

  -- and so are those of before with those that were taken in
  pub readable_more : (at : ℕ) (old new : List Stored) (result : Result ℕ InputRefusal)
      → TakesContainers result old new (λ more. at + 16395 + containers_len more) (rest_there image bytes at)
      → OnOk result (AreReadable bytes image old → AreReadable bytes image new)
  readable_more at old new (Ok end) takes = λ before. subst (AreReadable bytes image) (sym takes.2)
      (All-append (IsReadableAs bytes image) old takes.0 before (rest_readable at takes.0 takes.1))
  readable_more at old new (Err refusal) takes = tt

-- ---- in a later log

abbrev pub ReadMore : Type 0
ReadMore = (shape : Shape) (streams more start : ℕ) (bytes : List ℕ) (records : List LogEntry) → streams ≤ more
    → block_records shape streams start bytes ≡ Ok records → block_records shape more start bytes ≡ Ok records

abbrev entries_right : List LogEntry → Result (List LogEntry) LoadRefusal
entries_right entries = Ok entries

stored_more : ReadMore → (shape : Shape) (streams more id : ℕ) → streams ≤ more → (offset : ℕ) (blocks : List (List ℕ)) (entries : List LogEntry)
    → stored_in shape streams id offset blocks ≡ Ok entries → stored_in shape more id offset blocks ≡ Ok entries
stored_more reads shape streams more id le offset [] entries is = is
stored_more reads shape streams more id le offset (block ∷ blocks) entries is =
    let first = bound (told_as (damage_at id offset) (block_records shape streams (lsn_number id offset 0) block)) (λ (es : List LogEntry).
    stored_in shape streams id (offset + length block) blocks >>= λ (others : List LogEntry). Ok (es ++ others)) entries is in
    let next = bound (stored_in shape streams id (offset + length block) blocks) (λ (others : List LogEntry). Ok (first.first ++ others)) entries first.then in
    let own = reads shape streams more (lsn_number id offset 0) block first.first le
    (told_value (damage_at id offset) (block_records shape streams (lsn_number id offset 0) block) first.first first.is) in
    let rest = stored_more reads shape streams more id le (offset + length block) blocks next.first next.is in
    (λ i. told_as (damage_at id offset) (own i) >>= λ (es : List LogEntry). (rest i >>= λ (others : List LogEntry). Ok (es ++ others))) ∙ next.then

-- what can be read in a log can be read in one of the same shape with no fewer streams
pub readable_later : ReadMore → (bytes : List ℕ) (before image : BaseImage) (containers : List Stored) → Suits (later_demands before) image
    → AreReadable bytes before containers → AreReadable bytes image containers
readable_later reads bytes before image containers suits readable =
    All-weaker (IsReadableAs bytes before) (IsReadableAs bytes image) one containers readable
  where
    block : before.block_sectors ≡ image.block_sectors
    block = omega (arith, suits.block_sectors.0, suits.block_sectors.1)

    container : before.container_sectors ≡ image.container_sectors
    container = omega (arith, suits.container_sectors.0, suits.container_sectors.1)

    shape : shape_of before ≡ shape_of image
    shape i = record { block_sectors = block i; container_sectors = container i }

    one : (stored : Stored) → IsReadableAs bytes before stored → IsReadableAs bytes image stored
    one stored is = record {
      there = is.there;
      within = omega (arith, is.within, container);
      entries = is.entries;
      read = subst (λ (s : Shape). stored_in s (length image.streams) stored.container 0 (blocks_in (part_of bytes stored.at stored.len)) ≡ Ok is.entries) shape
          (stored_more reads (shape_of before) (length before.streams) (length image.streams) stored.container suits.streams.0 0 (blocks_in (part_of bytes stored.at stored.len))
          is.entries is.read);
    }

-- ---- the last copy of a container

module _ (test : Stored → Bool) (P : Stored → Type 0) where
  found_in : (l : List Stored) → ((k : ℕ) (d : Stored) → k < length l → P (get_or l k d)) → (stored : Stored) → find test l ≡ Some stored
      → P stored × (test stored ≡ true)
  found_in [] all stored is = absurd (cc is)
  found_in (x ∷ l) all stored is = pick (test x) refl is (λ found. found_in l (λ k d lt. all (suc k) d (omega (arith, lt))) stored found)
    where
      pick : (b : Bool) → test x ≡ b → cond b (Some x) (find test l) ≡ Some stored → (find test l ≡ Some stored → P stored × (test stored ≡ true))
          → P stored × (test stored ≡ true)
      pick true on found later =
          let same : x ≡ stored = cc found in (subst P same (all 0 x (omega arith)), ap test (sym same) ∙ on)
      pick false off found later = later found

  pub found_last : (l : List Stored) → All P l → (stored : Stored) → find test (reverse l) ≡ Some stored → P stored × (test stored ≡ true)
  found_last l all stored is = found_in (reverse l) (λ k d lt.
      let long : length (reverse l) ≡ length l = length-reverse l in
      subst P (sym (get_or-reverse l k d (omega (arith, lt, long)))) (all (length l - 1 - k) d (omega (arith, lt, long)))) stored is
