-- What is read part by part, against the definition of the whole.
use Rattle.clfs_archive_form.proofs.Words.{◌≡◌, ℕ, zero, suc, ◌+◌, ◌-◌, ◌*◌, ◌/◌, ◌<◌, ◌≤◌, List, [], ◌∷◌, ◌++◌, length, drop, Some, Result, Ok, Err, refl}
use Rattle.clfs_archive_form.proofs.Words.{sym, ◌∙◌, ap, subst, append_assoc, append-nil, arith, length-drop, length-take, lt-ltb, le-ltb, container_of}
use Rattle.clfs_archive_form.proofs.Words.{LogEntry, Shape, Demands, BaseImage, Row, ◌>>=◌, told_as, RefusesAs, stored_in, shape_of, LoadRefusal, Archive}
use Rattle.clfs_archive_form.proofs.Words.{Stored, InputRefusal, UpToInvalid, just_there, length_there, records_there, part_of, blocks_in, damage_told}
use Rattle.clfs_archive_form.proofs.Words.{container_there, containers_there, containers_len, magic_there, copy_there, rest_there, wanted_count}
use Rattle.clfs_archive_form.proofs.Words.{archive_there, archives_in, first_demands, later_demands, Judging, RefusesAt, LieWithin, TakesContainers}
use Rattle.clfs_recover.specs.declared.refusal.LoadRefusal.TheVariants as loading
use Rattle.clfs_archive_form.specs.declared.refusal.InputRefusal.TheVariants.{NotAnArchive, Gap, NoMemory}
use Rattle.clfs_archive_form.specs.Archives.{archives_behind, with_later, joined_from, joined}
use Rattle.clfs_archive_form.specs.Reading.{refusal_told}

-- what is refused first is refused of the whole
pub refused_first : {A B : Type 0} (refusal : InputRefusal) (read : Result A ℕ) (next : A → Result B ℕ) → RefusesAt refusal read → RefusesAt refusal (read >>= next)
refused_first (NotAnArchive at) read next is = ap (λ r. r >>= next) is
refused_first (Gap container) read next is = is
refused_first (UpToInvalid low high) read next is = is
refused_first NoMemory read next is = tt

-- and so is what is refused after what was read
pub refused_next : {A B : Type 0} (refusal : InputRefusal) (read : Result A ℕ) (next : A → Result B ℕ) (value : A) → read ≡ Ok value
    → RefusesAt refusal (next value) → RefusesAt refusal (read >>= next)
refused_next {A} {B} refusal read next value is refused = subst (λ (r : Result A ℕ). RefusesAt {Y = B} refusal (r >>= next)) (sym is) refused

-- a refusal is told of what is the same
pub refused_same : {A : Type 0} (refusal : InputRefusal) (read other : Result A ℕ) → read ≡ other → RefusesAt refusal other → RefusesAt refusal read
refused_same {A} refusal read other is refused = subst (λ (r : Result A ℕ). RefusesAt refusal r) (sym is) refused

-- a wrong block is told at its byte of the input
pub tells : (from : ℕ) (refusal : LoadRefusal) (read : Result (List LogEntry) LoadRefusal) → RefusesAs refusal read
    → RefusesAt (refusal_told from refusal) (told_as (damage_told from) read)
tells from loading.NoBase read is = absurd is
tells from (loading.Damaged container offset at) read is = ap (told_as (damage_told from)) is
tells from loading.DiskFault read is = tt
tells from loading.NoMemory read is = tt

-- ---- one container

module _ (shape : Shape) (streams : ℕ) (bytes : List ℕ) (id at : ℕ) where
  pub no_id : (refusal : InputRefusal) → RefusesAt refusal (just_there bytes at id) → RefusesAt refusal (container_there shape streams bytes id at)
  unfolding container_there
  no_id refusal is = refused_first refusal (just_there bytes at id) _ is

  module _ (number : ℕ) (has_id : just_there bytes at id ≡ Ok number) where
    pub no_length : (refusal : InputRefusal) → RefusesAt refusal (length_there shape bytes (at + 4)) → RefusesAt refusal (container_there shape streams bytes id at)
    unfolding container_there
    no_length refusal is = refused_next refusal (just_there bytes at id) _ number has_id (refused_first refusal (length_there shape bytes (at + 4)) _ is)

    module _ (len : ℕ) (has_length : length_there shape bytes (at + 4) ≡ Ok len) where
      pub no_blocks : (refusal : LoadRefusal) → RefusesAs refusal (stored_in shape streams id 0 (blocks_in (part_of bytes (at + 8) len)))
          → RefusesAt (refusal_told (at + 8) refusal) (container_there shape streams bytes id at)
      unfolding container_there
      no_blocks refusal is =
          refused_next (refusal_told (at + 8) refusal) (just_there bytes at id) _ number has_id
          (refused_next (refusal_told (at + 8) refusal) (length_there shape bytes (at + 4)) _ len has_length
          (refused_first (refusal_told (at + 8) refusal) (records_there shape streams id bytes (at + 8) len) _
          (tells (at + 8) refusal (stored_in shape streams id 0 (blocks_in (part_of bytes (at + 8) len))) is)))

      module _ (entries : List LogEntry) (right : stored_in shape streams id 0 (blocks_in (part_of bytes (at + 8) len)) ≡ Ok entries) where
        records : records_there shape streams id bytes (at + 8) len ≡ Ok entries
        records = ap (told_as (damage_told (at + 8))) right

        pub is_cut : at + 8 ≤ length bytes → length (part_of bytes (at + 8) len) < len → container_there shape streams bytes id at ≡ Err (length bytes)
        unfolding container_there
        is_cut within short =
            let cut : length bytes < at + 8 + len = omega (arith, within, short, length-take len (drop (at + 8) bytes), length-drop (at + 8) bytes) in
            rw (has_id, has_length, records, lt-ltb (length bytes) (at + 8 + len) cut) refl

        pub is_there : at + 8 ≤ length bytes → len ≤ length (part_of bytes (at + 8) len)
            → (container_there shape streams bytes id at ≡ Ok (record { container = id; at = at + 8; len = len })) × (at + 8 + len ≤ length bytes)
        unfolding container_there
        is_there within long =
            let whole : at + 8 + len ≤ length bytes = omega (arith, within, long, length-take len (drop (at + 8) bytes), length-drop (at + 8) bytes) in
            (rw (has_id, has_length, records, le-ltb (length bytes) (at + 8 + len) whole) refl, whole)

-- ---- containers one after the other

-- more containers after some
abbrev pub after : List Stored → Result (List Stored) ℕ → Result (List Stored) ℕ
after more read = read >>= (λ (others : List Stored). Ok (more ++ others))

stored_right : List Stored → Result (List Stored) ℕ
stored_right l = Ok l

after_none : (r : Result (List Stored) ℕ) → r ≡ after [] r
after_none (Ok l) = refl
after_none (Err at) = refl

after_one : (more : List Stored) (stored : Stored) (r : Result (List Stored) ℕ)
    → after more (r >>= (λ (others : List Stored). Ok (stored ∷ others))) ≡ after (more ++ stored ∷ []) r
unfolding stored_right
after_one more stored (Ok l) = ap stored_right (sym (append_assoc more (stored ∷ []) l))
after_one more stored (Err at) = refl

len_more : (more : List Stored) (stored : Stored) → containers_len (more ++ stored ∷ []) ≡ containers_len more + 8 + stored.len
len_more [] stored = omega arith
len_more (first ∷ more) stored = omega (arith, len_more more stored)

-- So many containers were taken in, up to a place.
pub record TakenTo (shape : Shape) (streams : ℕ) (bytes : List ℕ) (count first at : ℕ) (old now : List Stored) (i end : ℕ) : Type 0 where
  pub more : List Stored
  pub there : now ≡ old ++ more
  pub ends : end ≡ at + containers_len more
  pub same : containers_there shape streams bytes count first at ≡ after more (containers_there shape streams bytes (count - i) (first + i) end)

module _ (shape : Shape) (streams : ℕ) (bytes : List ℕ) (count first at : ℕ) (old : List Stored) where
  pub none_taken : TakenTo shape streams bytes count first at old old 0 at
  none_taken = let all : count ≡ count - 0 = omega arith in let here : first ≡ first + 0 = omega arith in record {
    more = [];
    there = sym (append-nil old);
    ends = omega arith;
    same = after_none (containers_there shape streams bytes count first at)
        ∙ ap (λ (n : ℕ). after [] (containers_there shape streams bytes n first at)) all ∙ ap (λ (n : ℕ). after [] (containers_there shape streams bytes (count - 0) n at)) here;
  }

  module _ (now : List Stored) (i end : ℕ) (taken : TakenTo shape streams bytes count first at old now i end) where
    one_more : i < count → containers_there shape streams bytes (count - i) (first + i) end
        ≡ container_there shape streams bytes (first + i) end
        >>= (λ (stored : Stored). containers_there shape streams bytes (count - (i + 1)) (first + (i + 1)) (end + 8 + stored.len)
        >>= (λ (others : List Stored). Ok (stored ∷ others)))
    one_more more =
        let e : count - i ≡ suc (count - (i + 1)) = omega (arith, more) in
        ap (λ (n : ℕ). containers_there shape streams bytes n (first + i) end) e
        ∙ ap (λ (n : ℕ). container_there shape streams bytes (first + i) end
        >>= (λ (stored : Stored). containers_there shape streams bytes (count - (i + 1)) n (end + 8 + stored.len) >>= (λ (others : List Stored). Ok (stored ∷ others))))
        (omega arith)

    pub no_container : (refusal : InputRefusal) → i < count → RefusesAt refusal (container_there shape streams bytes (first + i) end)
        → RefusesAt refusal (containers_there shape streams bytes count first at)
    no_container refusal more is =
        refused_same refusal (containers_there shape streams bytes count first at) _ (taken.same ∙ ap (after taken.more) (one_more more))
        (refused_first refusal _ _ (refused_first refusal (container_there shape streams bytes (first + i) end) _ is))

    pub takes_one : (stored : Stored) (new : List Stored) (next : ℕ) → i < count → container_there shape streams bytes (first + i) end ≡ Ok stored
        → new ≡ now ++ stored ∷ [] → next ≡ end + 8 + stored.len → TakenTo shape streams bytes count first at old new (i + 1) next
    takes_one stored new next more is pushed behind = record {
      more = taken.more ++ stored ∷ [];
      there = pushed ∙ ap (λ (l : List Stored). l ++ stored ∷ []) taken.there ∙ append_assoc old taken.more (stored ∷ []);
      ends = omega (arith, behind, taken.ends, len_more taken.more stored);
      same = taken.same ∙ ap (after taken.more) (one_more more)
          ∙ ap (λ (r : Result Stored ℕ). after taken.more (r
          >>= (λ (stored : Stored). containers_there shape streams bytes (count - (i + 1)) (first + (i + 1)) (end + 8 + stored.len) >>= (λ (others : List Stored). Ok (stored ∷ others))))) is
          ∙ after_one taken.more stored (containers_there shape streams bytes (count - (i + 1)) (first + (i + 1)) (end + 8 + stored.len))
          ∙ ap (λ (n : ℕ). after (taken.more ++ stored ∷ []) (containers_there shape streams bytes (count - (i + 1)) (first + (i + 1)) n)) (sym behind);
    }

    pub all_taken : count ≤ i → (more : List Stored) × (containers_there shape streams bytes count first at ≡ Ok more) × (now ≡ old ++ more) × (end ≡ at + containers_len more)
    unfolding stored_right
    all_taken all =
        let none : count - i ≡ 0 = omega (arith, all) in (
          taken.more,
          taken.same ∙ ap (λ (n : ℕ). after taken.more (containers_there shape streams bytes n (first + i) end)) none ∙ ap stored_right (append-nil taken.more),
          taken.there,
          taken.ends,
        )

-- one more container lies within the bytes
pub lie_more : (bytes : ℕ) (containers : List Stored) (stored : Stored) → LieWithin bytes containers → stored.at + stored.len ≤ bytes
    → LieWithin bytes (containers ++ stored ∷ [])
lie_more bytes [] stored lie here = (here, lie)
lie_more bytes (first ∷ others) stored lie here = (lie.0, lie_more bytes others stored lie.1 here)

-- ---- an archive

module _ (image : BaseImage) (bytes : List ℕ) (at : ℕ) where
  pub no_count : (refusal : InputRefusal) → RefusesAt refusal (just_there bytes (at + 16391) (wanted_count image)) → RefusesAt refusal (rest_there image bytes at)
  unfolding rest_there
  no_count refusal is = refused_first refusal (just_there bytes (at + 16391) (wanted_count image)) _ is

  pub rest_is : (count : ℕ) → just_there bytes (at + 16391) (wanted_count image) ≡ Ok count
      → rest_there image bytes at ≡ containers_there (shape_of image) (length image.streams) bytes count (container_of image.tail) (at + 16395)
  unfolding rest_there
  rest_is count is = rw is refl

module _ (demands : Demands) (bytes : List ℕ) (at : ℕ) where
  pub no_letters : (refusal : InputRefusal) → RefusesAt refusal (magic_there bytes at) → RefusesAt refusal (archive_there demands bytes at)
  unfolding archive_there
  no_letters refusal is = refused_first refusal (magic_there bytes at) _ is

  module _ (start : ℕ) (letters : magic_there bytes at ≡ Ok start) where
    pub no_copy : (refusal : InputRefusal) → RefusesAt refusal (copy_there demands bytes at) → RefusesAt refusal (archive_there demands bytes at)
    unfolding archive_there
    no_copy refusal is = refused_next refusal (magic_there bytes at) _ start letters (refused_first refusal (copy_there demands bytes at) _ is)

    module _ (image : BaseImage) (copy : copy_there demands bytes at ≡ Ok image) where
      pub no_rest : (refusal : InputRefusal) → RefusesAt refusal (rest_there image bytes at) → RefusesAt refusal (archive_there demands bytes at)
      unfolding archive_there
      no_rest refusal is =
          refused_next refusal (magic_there bytes at) _ start letters
          (refused_next refusal (copy_there demands bytes at) _ image copy (refused_first refusal (rest_there image bytes at) _ is))

      pub archive_is : (more : List Stored) (end : ℕ) → rest_there image bytes at ≡ Ok more → end ≡ at + 16395 + containers_len more
          → archive_there demands bytes at ≡ Ok (record { image = image; containers = more }, end)
      unfolding archive_there
      archive_is more end is behind = rw (letters, copy, is, behind) refl

-- what the judge of an archive's containers goes by
abbrev pub judging : BaseImage → List Row → Judging
judging image rows = record { shape = shape_of image; streams = length rows }

-- the containers that were taken in are those that follow the copy
pub takes_rest : (image : BaseImage) (bytes : List ℕ) (at count first : ℕ) (judge : Judging) (old new : List Stored) (result : Result ℕ InputRefusal)
    → just_there bytes (at + 16391) (wanted_count image) ≡ Ok count → judge ≡ judging image image.streams → first ≡ container_of image.tail
    → TakesContainers result old new (λ more. at + 16395 + containers_len more) (containers_there judge.shape judge.streams bytes count first (at + 16395))
    → TakesContainers result old new (λ more. at + 16395 + containers_len more) (rest_there image bytes at)
takes_rest image bytes at count first judge old new result has by from takes =
    let same = rest_is image bytes at count has
    ∙ ap (λ (j : Judging). containers_there j.shape j.streams bytes count (container_of image.tail) (at + 16395)) (sym by)
    ∙ ap (λ (n : ℕ). containers_there judge.shape judge.streams bytes count n (at + 16395)) (sym from) in
    subst (λ (r : Result (List Stored) ℕ). TakesContainers result old new (λ more. at + 16395 + containers_len more) r) (sym same) takes

-- ---- archives one after the other

-- more archives after some
abbrev pub archives_after : List Archive → Result (List Archive) ℕ → Result (List Archive) ℕ
archives_after archives read = read >>= (λ (others : List Archive). Ok (archives ++ others))

archives_right : List Archive → Result (List Archive) ℕ
archives_right l = Ok l

first_of_all : (first : Archive) (r : Result (List Archive) ℕ) → r >>= (λ (others : List Archive). Ok (first ∷ others)) ≡ archives_after (first ∷ []) r
first_of_all first (Ok l) = refl
first_of_all first (Err at) = refl

one_behind : (archives : List Archive) (next : Archive) (r : Result (List Archive) ℕ)
    → archives_after archives (r >>= (λ (others : List Archive). Ok (next ∷ others))) ≡ archives_after (archives ++ next ∷ []) r
unfolding archives_right
one_behind archives next (Ok l) = ap archives_right (sym (append_assoc archives (next ∷ []) l))
one_behind archives next (Err at) = refl

joined_more : (archive : Archive) (others : List Archive) (next : Archive)
    → joined_from archive (others ++ next ∷ []) ≡ with_later (joined_from archive others) next
joined_more archive [] next = refl
joined_more archive (later ∷ others) next = joined_more (with_later archive later) others next

joined_next : (archives : List Archive) (whole next : Archive) → joined archives ≡ Some whole → joined (archives ++ next ∷ []) ≡ Some (with_later whole next)
joined_next [] whole next is = absurd (cc is)
joined_next (archive ∷ others) whole next is =
    let e : joined_from archive others ≡ whole = cc is in
    ap (λ (a : Archive). Some a) (joined_more archive others next) ∙ ap (λ (a : Archive). Some (with_later a next)) e

abbrev as_archive : BaseImage → List Stored → Archive
as_archive image containers = record { image = image; containers = containers }

-- Archives were read up to a place, and taken together they are these.
pub record ReadTo (bytes : List ℕ) (image : BaseImage) (containers : List Stored) (at : ℕ) : Type 0 where
  pub archives : List Archive
  pub most : ℕ
  pub enough : length bytes < at + 16395 * most
  pub taken : joined archives ≡ Some (record { image = image; containers = containers })
  pub same : archives_in bytes ≡ archives_after archives (archives_behind most image bytes at)

module _ (bytes : List ℕ) where
  pub first_refused : (refusal : InputRefusal) → RefusesAt refusal (archive_there first_demands bytes 0) → RefusesAt refusal (archives_in bytes)
  unfolding archives_in
  first_refused refusal is = refused_first refusal (archive_there first_demands bytes 0) _ is

  pub first_read : (image : BaseImage) (containers : List Stored) (at : ℕ)
      → archive_there first_demands bytes 0 ≡ Ok (record { image = image; containers = containers }, at) → 16395 ≤ at → ReadTo bytes image containers at
  unfolding archives_in
  first_read image containers at is least = record {
    archives = record { image = image; containers = containers } ∷ [];
    most = length bytes / 16395;
    enough = omega (arith, least);
    taken = refl;
    same = rw is (first_of_all (record { image = image; containers = containers }) (archives_behind (length bytes / 16395) image bytes at));
  }

  none_from : (image : BaseImage) (at : ℕ) → length bytes ≤ at → (n : ℕ) → archives_behind n image bytes at ≡ Ok []
  none_from image at end zero = refl
  none_from image at end (suc n) = rw (le-ltb at (length bytes) end) refl

  -- an archive up to the end is the only one
  pub read_alone : (image : BaseImage) (containers : List Stored) (at : ℕ)
      → archive_there first_demands bytes 0 ≡ Ok (record { image = image; containers = containers }, at) → length bytes ≤ at
      → archives_in bytes ≡ Ok (as_archive image containers ∷ [])
  unfolding archives_in
  read_alone image containers at is end = rw (is, none_from image at end (length bytes / 16395)) refl

  module _ (image : BaseImage) (containers : List Stored) (at : ℕ) (read : ReadTo bytes image containers at) where
    pub all_read : length bytes ≤ at → (archives : List Archive) × (archives_in bytes ≡ Ok archives) × (joined archives ≡ Some (record { image = image; containers = containers }))
    unfolding archives_right
    all_read end =
        (read.archives, read.same ∙ ap (archives_after read.archives) (none_from image at end read.most) ∙ ap archives_right (append-nil read.archives), read.taken)

    next_behind : at < length bytes → (n : ℕ) × (read.most ≡ n + 1) × (archives_behind read.most image bytes at
        ≡ archive_there (later_demands image) bytes at
        >>= (λ (next : Archive × ℕ). archives_behind n next.0.image bytes next.1 >>= (λ (others : List Archive). Ok (next.0 ∷ others))))
    next_behind more = by_most read.most read.enough
      where
        by_most : (n : ℕ) → length bytes < at + 16395 * n → (m : ℕ) × (n ≡ m + 1) × (archives_behind n image bytes at
            ≡ archive_there (later_demands image) bytes at
            >>= (λ (next : Archive × ℕ). archives_behind m next.0.image bytes next.1 >>= (λ (others : List Archive). Ok (next.0 ∷ others))))
        by_most zero few = absurd (omega (arith, few, more))
        by_most (suc m) few = (m, omega arith, rw (lt-ltb at (length bytes) more) refl)

    pub next_refused : (refusal : InputRefusal) → at < length bytes → RefusesAt refusal (archive_there (later_demands image) bytes at) → RefusesAt refusal (archives_in bytes)
    next_refused refusal more is =
        let t = next_behind more in
        refused_same refusal (archives_in bytes) _ (read.same ∙ ap (archives_after read.archives) t.2)
        (refused_first refusal _ _ (refused_first refusal (archive_there (later_demands image) bytes at) _ is))

    pub next_read : (later : BaseImage) (found all : List Stored) (end : ℕ) → at < length bytes
        → archive_there (later_demands image) bytes at ≡ Ok (record { image = later; containers = found }, end) → all ≡ containers ++ found
        → at + 16395 ≤ end → ReadTo bytes later all end
    next_read later found all end more is together least =
        let t = next_behind more in
        let next : Archive = record { image = later; containers = found } in record {
          archives = read.archives ++ next ∷ [];
          most = t.0;
          enough = omega (arith, read.enough, t.1, least);
          taken = joined_next read.archives (record { image = image; containers = containers }) next read.taken
              ∙ ap (λ (l : List Stored). Some (as_archive later l)) (sym together);
          same = read.same ∙ ap (archives_after read.archives) t.2
              ∙ ap (λ (r : Result (Archive × ℕ) ℕ). archives_after read.archives (r
              >>= (λ (next : Archive × ℕ). archives_behind t.0 next.0.image bytes next.1 >>= (λ (others : List Archive). Ok (next.0 ∷ others))))) is
              ∙ one_behind read.archives next (archives_behind t.0 later bytes end);
        }
