-- A log with a group of blocks more, and with a container more.
use Rattle.clfs_recover.proofs.Words.{◌≡◌, ◌≢◌, ℕ, suc, ◌+◌, ◌-◌, ◌*◌, ◌<◌, ◌≤◌, cond, eqb, List, [], ◌∷◌, ◌++◌, length, get_or, take, map, None, Ok, refl}
use Rattle.clfs_recover.proofs.Words.{sym, ◌∙◌, ap, subst, arith, length-append, All, eq-eqb, ne_eqb, cond-true, take_more, take_all, take_at, length-take}
use Rattle.clfs_recover.proofs.Words.{get_or-take, get_or-map, map-append, length-map, All-push, All-append, All-take, frontier, LogEntry, Place, total}
use Rattle.clfs_recover.proofs.Words.{BaseImage, IsImage, shape_of, image_fault, stored_in, stored_records, stored_end, stored_place, IsLogWith, HaveMore}
use Rattle.clfs_recover.proofs.Words.{HaveEmpty, file_at_end}
use Rattle.std.proofs.lemmas.Bool.{cond-false}
use Rattle.clfs_recover.proofs.ReadStored.{total-append, read_in_last, read_with_empty, end_of_last}
use Rattle.clfs_recover.proofs.StoredLogs.{fault_fits, fits_right}

-- blocks that are told by a test of the file's number
pub more_by_file : (image : BaseImage) (more : List (List ℕ)) (old : ℕ → List (List ℕ))
    → HaveMore image more old (λ (file : ℕ). cond (eqb file (file_at_end image)) (old (file_at_end image) ++ more) (old file))
more_by_file image more old = record {
  last = cond-true (eqb (file_at_end image) (file_at_end image)) (old (file_at_end image) ++ more) (old (file_at_end image))
      (eq-eqb (file_at_end image) (file_at_end image) refl);
  others = λ file other.
      cond-false (eqb file (file_at_end image)) (old (file_at_end image) ++ more) (old file) (ne_eqb file (file_at_end image) other);
}

pub empty_by_file : (image : BaseImage) (file : ℕ) (old : ℕ → List (List ℕ))
    → ((i : ℕ) → i < length image.files → get_or image.files i 0 ≢ file)
    → HaveEmpty image file old (λ (other : ℕ). cond (eqb other file) [] (old other))
empty_by_file image file old unlisted = record {
  unlisted = unlisted;
  empty = cond-true (eqb file file) [] (old file) (eq-eqb file file refl);
  others = λ other apart. cond-false (eqb other file) [] (old other) (ne_eqb other file apart);
}

-- equal values at each number of a list are equal lists
pub map_as : {X : Type 0} (f g : ℕ → X) (numbers : List ℕ) → ((i : ℕ) → i < length numbers → f (get_or numbers i 0) ≡ g (get_or numbers i 0))
    → map f numbers ≡ map g numbers
map_as f g [] same = refl
map_as f g (number ∷ numbers) same =
    let here : f number ≡ g number = same 0 (omega arith) in
    let rest = map_as f g numbers (λ i lt. same (suc i) (omega (arith, lt))) in
    λ i. here i ∷ rest i

-- a copy that fits records fits those that go further
pub fits_further : (image : BaseImage) (lsn further : ℕ) → lsn ≤ further → image_fault image lsn ≡ None → image_fault image further ≡ None
fits_further image lsn further le right =
    let fits = fault_fits image lsn right in
    fits_right image further (record {
      rows = λ i lt. let low = fits.rows i lt in omega (arith, low, le);
      tail = λ on. let within = fits.tail on in let low = within.0 in (omega (arith, low, le), within.1);
    })

-- a copy that lists one file more
abbrev with_file : ℕ → BaseImage → BaseImage
with_file file image = record image { files = image.files ++ file ∷ [] }

module _ (image : BaseImage) (file : ℕ) (old new : ℕ → List (List ℕ)) (have : HaveEmpty image file old new) where
  empty_are : map new (image.files ++ file ∷ []) ≡ map old image.files ++ [] ∷ []
  empty_are =
      let front = map_as new old image.files (λ i lt. have.others (get_or image.files i 0) (have.unlisted i lt)) in
      map-append new image.files (file ∷ []) ∙ (λ i. front i ++ have.empty i ∷ [])

  pub place_next : stored_place (with_file file image) (map new (image.files ++ file ∷ []))
      ≡ record { container = image.first + length image.files; offset = 0; used = 0; records = 0 }
  place_next =
      let long : length (image.files ++ file ∷ []) ≡ length image.files + 1 = length-append image.files (file ∷ []) in
      let container : image.first + length (image.files ++ file ∷ []) - 1 ≡ image.first + length image.files = omega (arith, long) in
      let end : stored_end (map new (image.files ++ file ∷ [])) ≡ 0 = ap stored_end empty_are ∙ end_of_last (map old image.files) [] in
      λ i. record { container = container i; offset = end i; used = 0; records = 0 }

module _ (image : BaseImage) (good : IsImage image) where
  abbrev count : ℕ
  count = length image.files

  abbrev last : ℕ
  last = file_at_end image

  -- the files before the last
  abbrev before : List ℕ
  before = take (count - 1) image.files

  files_are : image.files ≡ before ++ last ∷ []
  files_are =
      let all : count - 1 + 1 ≡ count = omega (arith, good.some_listed) in
      sym (take_all count image.files (omega arith)) ∙ sym (ap (λ (n : ℕ). take n image.files) all)
      ∙ take_more image.files (count - 1) 0 (omega (arith, good.some_listed))

  length-before : length before ≡ count - 1
  length-before = let long = length-take (count - 1) image.files in omega (arith, long)

  -- none of them is the last
  before_apart : (i : ℕ) → i < length before → get_or before i 0 ≢ last
  before_apart i lt same =
      let near : i < count - 1 = omega (arith, lt, length-before) in
      good.files.different i (count - 1) near (omega (arith, good.some_listed)) (sym (get_or-take (count - 1) image.files i 0 near) ∙ same)

  -- the blocks in the listed files, the last apart
  listed_are : (blocks : ℕ → List (List ℕ)) → map blocks image.files ≡ map blocks before ++ blocks last ∷ []
  listed_are blocks = ap (map blocks) files_are ∙ map-append blocks before (last ∷ [])

  pub end_is : (blocks : ℕ → List (List ℕ)) → stored_end (map blocks image.files) ≡ total (blocks last)
  end_is blocks = ap stored_end (listed_are blocks) ∙ end_of_last (map blocks before) (blocks last)

  -- ---- a group of blocks more

  module _ (old new : ℕ → List (List ℕ)) (more : List (List ℕ)) (have : HaveMore image more old new) where
    more_are : map new image.files ≡ map old before ++ (old last ++ more) ∷ []
    more_are =
        let front = map_as new old before (λ i lt. have.others (get_or before i 0) (before_apart i lt)) in
        listed_are new ∙ (λ i. front i ++ have.last i ∷ [])

    pub place_more : stored_place image (map new image.files)
        ≡ record (stored_place image (map old image.files)) { offset = total (old last) + total more }
    place_more =
        let end : stored_end (map new image.files) ≡ total (old last) + total more =
        end_is new ∙ ap total have.last ∙ total-append (old last) more in
        λ i. record (stored_place image (map old image.files)) { offset = end i }

    pub log_more : (entries others : List LogEntry) → total (new last) ≤ 512 * image.container_sectors
        → stored_in (shape_of image) (length image.streams) (image.first + count - 1) (total (old last)) more ≡ Ok others
        → IsLogWith image (map old image.files) entries → IsLogWith image (map new image.files) (entries ++ others)
    log_more entries others within read with =
        let Fits : List (List ℕ) → Type 0 = λ here. total here ≤ 512 * image.container_sectors in
        let streams : ℕ = length image.streams in
        let shape = shape_of image in
        let long : length (map old before) ≡ count - 1 = length-map before old ∙ length-before in
        let at : image.first + count - 1 ≡ image.first + length (map old before) = omega (arith, long, good.some_listed) in
        let was : stored_records shape streams image.first (map old before ++ old last ∷ []) ≡ Ok entries =
        subst (λ (l : List (List (List ℕ))). stored_records shape streams image.first l ≡ Ok entries) (listed_are old) with.read in
        let is = read_in_last shape streams image.first (map old before) (old last) more entries others was
        (subst (λ (k : ℕ). stored_in shape streams k (total (old last)) more ≡ Ok others) at read) in
        let old_end = end_is old in
        let new_end : stored_end (map new image.files) ≡ total (old last) + total more = ap (λ (p : Place). p.offset) place_more in record {
          within =
              let front : List (List (List ℕ)) = map old before in
              subst (All Fits) (sym (listed_are new)) (All-append Fits (map new before) (new last ∷ [])
              (subst (All Fits) (sym (map_as new old before (λ i lt. have.others (get_or before i 0) (before_apart i lt))))
              (all_front Fits front (old last ∷ []) (subst (All Fits) (listed_are old) with.within)))
              (All-push Fits [] (new last) (λ k d lt. absurd (omega (arith, lt))) within));
          read = subst (λ (l : List (List (List ℕ))). stored_records shape streams image.first l ≡ Ok (entries ++ others)) (sym more_are) is;
          right = fits_further image (frontier (stored_place image (map old image.files))) (frontier (stored_place image (map new image.files)))
              (omega (arith, old_end, new_end)) with.right;
        }
      where
        all_front : (P : List (List ℕ) → Type 0) (front rest : List (List (List ℕ))) → All P (front ++ rest) → All P front
        all_front P front rest all = subst (All P) (take_at front rest (length front) refl) (All-take P (length front) (front ++ rest) all)

  -- ---- a container more

  module _ (file : ℕ) (old new : ℕ → List (List ℕ)) (have : HaveEmpty image file old new) where
    abbrev next : BaseImage
    next = with_file file image

    pub log_next : (entries : List LogEntry) → IsLogWith image (map old image.files) entries → IsLogWith next (map new next.files) entries
    log_next entries with =
        let Fits : List (List ℕ) → Type 0 = λ here. total here ≤ 512 * image.container_sectors in
        let streams : ℕ = length image.streams in
        let shape = shape_of image in
        let end = end_is old in
        let room : total (old last) ≤ 512 * image.container_sectors =
        subst Fits (get_or-map old image.files (count - 1) 0 [] (omega (arith, good.some_listed)))
        (with.within (count - 1) [] (omega (arith, length-map image.files old, good.some_listed))) in
        let further : frontier (stored_place image (map old image.files)) ≤ frontier (stored_place next (map new next.files)) =
        let place = ap frontier (place_next image file old new have) in omega (arith, place, end, room, good.shape.largest_container, good.some_listed) in record {
          within = subst (All Fits) (sym (empty_are image file old new have)) (All-push Fits (map old image.files) [] with.within (omega arith));
          read = subst (λ (l : List (List (List ℕ))). stored_records shape streams image.first l ≡ Ok entries) (sym (empty_are image file old new have))
              (read_with_empty shape streams image.first (map old image.files) entries with.read);
          right = fits_further image (frontier (stored_place image (map old image.files))) (frontier (stored_place next (map new next.files))) further with.right;
        }
