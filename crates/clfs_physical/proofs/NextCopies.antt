-- That the next copy is one that a log can have.
use Rattle.clfs_physical.proofs.Words.{◌≡◌, ◌≢◌, ⊎_elim, ℕ, ◌+◌, ◌-◌, ◌<◌, ◌≤◌, max, Bool, true, false, List, [], ◌∷◌, ◌++◌, length, drop, refl, sym, ◌∙◌, ap}
use Rattle.clfs_physical.proofs.Words.{subst, arith, length-drop, length-append, get_or-append, get_or-append_seam, cases_lt, cases_eq, get_or-drop}
use Rattle.clfs_physical.proofs.Words.{BaseImage, Row, IsImage, AreFiles, current, Change, with_next_turn, listed_from, with_stream, with_containers, changed}
use Rattle.clfs_physical.proofs.Words.{next_copy}
use Rattle.std.proofs.Common.{◌^◌}
use Rattle.std.proofs.lemmas.List.{get_or-set_same, get_or-set_other, length-set}
use Rattle.clfs_base.specs.Layout.{version_two, layout_of, most_dedicated}
use Rattle.clfs_base.specs.Spelling.{AreRows, IsName, row_in, flag}
use Rattle.clfs_lsn.specs.Limits.{longest_name}
use Rattle.clfs_physical.specs.declared.change.Change.TheVariants as changes
use Rattle.clfs_physical.specs.Changes.{with_base, Suits, CanHave, IsNewRow}

-- files of a list without its front, of which as many were made or more
fewer_files : (made more gone : ℕ) (files : List ℕ) → made ≤ more → AreFiles made files → AreFiles more (drop gone files)
fewer_files made more gone files le are = record {
  from_one = λ i within. omega (arith, get_or-drop gone files i 0, are.from_one (gone + i) (near i within));
  to_last = λ i within. omega (arith, le, get_or-drop gone files i 0, are.to_last (gone + i) (near i within));
  different = λ i j below within same. are.different (gone + i) (gone + j) (omega (arith, below)) (near j within)
      (sym (get_or-drop gone files i 0) ∙ same ∙ get_or-drop gone files j 0);
}
  where
    near : (i : ℕ) → i < length (drop gone files) → gone + i < length files
    near i within = omega (arith, within, length-drop gone files)

listed_image : (first : ℕ) (image : BaseImage) → IsImage (current image) → image.first ≤ first → first + 1 ≤ image.first + length image.files
    → IsImage (listed_from first (with_next_turn image))
listed_image first image is from some = record {
  version = is.version;
  turn = omega arith;
  shape = is.shape;
  some_containers = is.some_containers;
  containers_made = is.containers_made;
  few_made = is.few_made;
  first = omega (arith, is.first, from);
  some_listed = omega (arith, length-drop (first - image.first) image.files, from, some);
  few_listed = omega (arith, length-drop (first - image.first) image.files, is.few_listed);
  last_id = omega (arith, length-drop (first - image.first) image.files, is.last_id, from, some);
  maximum = is.maximum;
  minimum = is.minimum;
  growth = is.growth;
  tail = is.tail;
  dedicated = is.dedicated;
  files = fewer_files image.files_made image.files_made (first - image.first) image.files (omega arith) is.files;
  few_streams = is.few_streams;
  rows = is.rows;
}

-- the rows keep their names
name_same : (stream base : ℕ) (rows : List Row) (i : ℕ) → i < length rows → (row_in (with_base stream base rows) i).name ≡ (row_in rows i).name
name_same stream base rows i within = ⊎_elim
    (λ (same : i ≡ stream - 1). subst (λ (k : ℕ). (row_in (with_base stream base rows) k).name ≡ (row_in rows k).name) (sym same)
    (ap (λ (r : Row). r.name) (get_or-set_same rows (stream - 1) _ _ (omega (arith, within, same)))))
    (λ (apart : i ≢ stream - 1). ap (λ (r : Row). r.name) (get_or-set_other rows (stream - 1) i _ _ apart))
    (cases_eq i (stream - 1))

base_rows : (room stream base : ℕ) (rows : List Row) → base < 2 ^ 64 → AreRows room rows → AreRows room (with_base stream base rows)
base_rows room stream base rows fits are = record {
  named = λ i within. subst (IsName room) (sym (name_same stream base rows i (near i within))) (are.named i (near i within));
  different = λ i j below within same. are.different i j below (near j within)
      (sym (name_same stream base rows i (omega (arith, below, near j within))) ∙ same ∙ name_same stream base rows j (near j within));
  bases = λ i within. ⊎_elim
      (λ (same : i ≡ stream - 1). subst (λ (k : ℕ). (row_in (with_base stream base rows) k).base < 2 ^ 64) (sym same)
      (subst (λ (r : Row). r.base < 2 ^ 64) (sym (get_or-set_same rows (stream - 1) _ _ (omega (arith, near i within, same)))) fits))
      (λ (apart : i ≢ stream - 1). subst (λ (r : Row). r.base < 2 ^ 64) (sym (get_or-set_other rows (stream - 1) i _ _ apart)) (are.bases i (near i within)))
      (cases_eq i (stream - 1));
}
  where
    near : (i : ℕ) → i < length (with_base stream base rows) → i < length rows
    near i within = omega (arith, within, length-set rows (stream - 1) (record (row_in rows (stream - 1)) { base = base }))

changed_image : (change : Change) (image : BaseImage) → IsImage image → Suits change image → IsImage (changed change image)
changed_image changes.Listing image is suits = is
changed_image (changes.Base stream base) image is suits = record {
  version = is.version;
  turn = is.turn;
  shape = is.shape;
  some_containers = is.some_containers;
  containers_made = is.containers_made;
  few_made = is.few_made;
  first = is.first;
  some_listed = is.some_listed;
  few_listed = is.few_listed;
  last_id = is.last_id;
  maximum = is.maximum;
  minimum = is.minimum;
  growth = is.growth;
  tail = is.tail;
  dedicated = subst (λ (count : ℕ). flag image.dedicated ≤ most_dedicated (layout_of image.version) count)
      (sym (length-set image.streams (stream - 1) (record (row_in image.streams (stream - 1)) { base = base }))) is.dedicated;
  files = is.files;
  few_streams = omega (arith, is.few_streams, length-set image.streams (stream - 1) (record (row_in image.streams (stream - 1)) { base = base }));
  rows = base_rows _ stream base image.streams suits.2 is.rows;
}
changed_image (changes.Archive archiving tail) image is suits = record {
  version = is.version;
  turn = is.turn;
  shape = is.shape;
  some_containers = is.some_containers;
  containers_made = is.containers_made;
  few_made = is.few_made;
  first = is.first;
  some_listed = is.some_listed;
  few_listed = is.few_listed;
  last_id = is.last_id;
  maximum = is.maximum;
  minimum = is.minimum;
  growth = is.growth;
  tail = suits;
  dedicated = is.dedicated;
  files = is.files;
  few_streams = is.few_streams;
  rows = is.rows;
}
changed_image (changes.Policies automatic maximum minimum growth) image is suits = record {
  version = is.version;
  turn = is.turn;
  shape = is.shape;
  some_containers = is.some_containers;
  containers_made = is.containers_made;
  few_made = is.few_made;
  first = is.first;
  some_listed = is.some_listed;
  few_listed = is.few_listed;
  last_id = is.last_id;
  maximum = suits.0;
  minimum = suits.1;
  growth = suits.2;
  tail = is.tail;
  dedicated = is.dedicated;
  files = is.files;
  few_streams = is.few_streams;
  rows = is.rows;
}

-- a change leaves the version
pub changed_version : (change : Change) (image : BaseImage) → (changed change image).version ≡ image.version
changed_version changes.Listing image = refl
changed_version (changes.Base stream base) image = refl
changed_version (changes.Archive archiving tail) image = refl
changed_version (changes.Policies automatic maximum minimum growth) image = refl

suits_listed : (first : ℕ) (change : Change) (image : BaseImage) → Suits change image → Suits change (listed_from first (with_next_turn image))
suits_listed first changes.Listing image suits = suits
suits_listed first (changes.Base stream base) image suits = suits
suits_listed first (changes.Archive archiving tail) image suits = suits
suits_listed first (changes.Policies automatic maximum minimum growth) image suits = suits

pub next_image : (first : ℕ) (change : Change) (image : BaseImage) → IsImage (current image) → image.first ≤ first
    → first + 1 ≤ image.first + length image.files → Suits change image → IsImage (next_copy first change image)
next_image first change image is from some suits =
    changed_image change (listed_from first (with_next_turn image)) (listed_image first image is from some) (suits_listed first change image suits)

pub containers_image : (containers first : ℕ) (image : BaseImage) → IsImage (current image) → image.first ≤ first
    → first + 1 ≤ image.first + length image.files → CanHave containers first image
    → IsImage (with_containers containers (next_copy first changes.Listing image))
containers_image containers first image is from some can = record {
  version = is.version;
  turn = omega arith;
  shape = is.shape;
  some_containers = can.some;
  containers_made = omega arith;
  few_made = omega (arith, is.few_made, can.few);
  first = omega (arith, is.first, from);
  some_listed = omega (arith, length-drop (first - image.first) image.files, from, some);
  few_listed = omega (arith, length-drop (first - image.first) image.files, can.listed, from, some);
  last_id = omega (arith, length-drop (first - image.first) image.files, is.last_id, from, some);
  maximum = is.maximum;
  minimum = is.minimum;
  growth = is.growth;
  tail = is.tail;
  dedicated = is.dedicated;
  files = fewer_files image.files_made (max image.files_made containers) (first - image.first) image.files (omega arith) is.files;
  few_streams = is.few_streams;
  rows = is.rows;
}

-- ---- one stream more

row_before : (rows : List Row) (row : Row) (i : ℕ) → i < length rows → row_in (rows ++ row ∷ []) i ≡ row_in rows i
row_before rows row i within = get_or-append rows (row ∷ []) (record { name = []; base = 0 }) i within

row_last : (rows : List Row) (row : Row) (i : ℕ) → length rows ≤ i → i < length (rows ++ row ∷ []) → row_in (rows ++ row ∷ []) i ≡ row
row_last rows row i above within =
    ap (λ (k : ℕ). row_in (rows ++ row ∷ []) k) at_end ∙ get_or-append_seam rows row [] (record { name = []; base = 0 })
  where
    at_end : i ≡ length rows
    at_end = omega (arith, above, within, length-append rows (row ∷ []))

more_rows : (rows : List Row) (row : Row) (image : BaseImage) → rows ≡ image.streams → IsNewRow row image → AreRows longest_name rows → AreRows longest_name (rows ++ row ∷ [])
more_rows rows row image same new are = record {
  named = λ i within. ⊎_elim
      (λ (below : i < length rows). subst (λ (r : Row). IsName longest_name r.name) (sym (row_before rows row i below)) (are.named i below))
      (λ (above : length rows ≤ i). subst (λ (r : Row). IsName longest_name r.name) (sym (row_last rows row i above within)) new.name)
      (cases_lt i (length rows));
  different = λ i j below within alike. ⊎_elim
      (λ (both : j < length rows).
      let early : i < length rows = omega (arith, below, both) in
      are.different i j below both
      (sym (ap (λ (r : Row). r.name) (row_before rows row i early)) ∙ alike ∙ ap (λ (r : Row). r.name) (row_before rows row j both)))
      (λ (last : length rows ≤ j).
      let early : i < length rows = omega (arith, below, last, within, length-append rows (row ∷ [])) in
      new.other i (subst (λ (l : List Row). i < length l) same early)
      (subst (λ (l : List Row). (row_in l i).name ≡ row.name) same
      (sym (ap (λ (r : Row). r.name) (row_before rows row i early)) ∙ alike ∙ ap (λ (r : Row). r.name) (row_last rows row j last within))))
      (cases_lt j (length rows));
  bases = λ i within. ⊎_elim
      (λ (below : i < length rows). subst (λ (r : Row). r.base < 2 ^ 64) (sym (row_before rows row i below)) (are.bases i below))
      (λ (above : length rows ≤ i). subst (λ (r : Row). r.base < 2 ^ 64) (sym (row_last rows row i above within)) new.base)
      (cases_lt i (length rows));
}

flag_small : (on : Bool) → flag on ≤ 1
flag_small true = omega arith
flag_small false = omega arith

still_alone : (row : Row) (image : BaseImage) → IsNewRow row image
    → flag image.dedicated ≤ most_dedicated version_two (length (image.streams ++ row ∷ []))
still_alone row image new = by image.dedicated refl
  where
    by : (b : Bool) → image.dedicated ≡ b → flag image.dedicated ≤ most_dedicated version_two (length (image.streams ++ row ∷ []))
    by true is =
        subst (λ (l : List Row). flag image.dedicated ≤ most_dedicated version_two (length (l ++ row ∷ []))) (sym (new.alone is)) (flag_small image.dedicated)
    by false is =
        subst (λ (b : Bool). flag b ≤ most_dedicated version_two (length (image.streams ++ row ∷ []))) (sym is) (omega arith)

pub stream_image : (first : ℕ) (row : Row) (image : BaseImage) → IsImage (current image) → image.first ≤ first
    → first + 1 ≤ image.first + length image.files → IsNewRow row image
    → IsImage (with_stream row (next_copy first changes.Listing image))
stream_image first row image before from some new =
    let is = listed_image first image before from some in
    record {
      version = is.version;
      turn = is.turn;
      shape = is.shape;
      some_containers = is.some_containers;
      containers_made = is.containers_made;
      few_made = is.few_made;
      first = is.first;
      some_listed = is.some_listed;
      few_listed = is.few_listed;
      last_id = is.last_id;
      maximum = is.maximum;
      minimum = is.minimum;
      growth = is.growth;
      tail = is.tail;
      dedicated = still_alone row image new;
      files = is.files;
      few_streams = omega (arith, length-append image.streams (row ∷ []), new.few);
      rows = more_rows image.streams row image refl new before.rows;
    }
