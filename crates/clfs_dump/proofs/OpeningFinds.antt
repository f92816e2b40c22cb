-- What is told of containers and of logs, against what opening finds there.
use Rattle.clfs_dump.proofs.Words.{◌≡◌, inl, inr, ⊎_elim, ℕ, zero, suc, ◌+◌, ◌-◌, ◌*◌, ◌/◌, ◌^◌, ◌<◌, ◌≤◌, cond, List, [], ◌∷◌, ◌++◌, length, drop, Option}
use Rattle.clfs_dump.proofs.Words.{Some, None, Result, Ok, Err, refl, sym, ◌∙◌, ap, subst, arith, append-nil, drop-drop, cases_lt, lt-leb, le-leb}
use Rattle.clfs_dump.proofs.Words.{unless_wrong, lsn_number, frontier, IsShape, LogEntry, Shape, Files, newest_of, BaseImage, Row, NewestRefusal}
use Rattle.clfs_dump.proofs.Words.{block_sectors, frame_at, AreJudgedAlone, AreReadAsWritten, ◌>>=◌, told_as, block_records, block_same, BlockHead}
use Rattle.clfs_dump.proofs.Words.{BlockRefusal, without_copy, damage_at, shape_of, slot_offset, LoadRefusal, Damaged, Told, only, followed_by, then_told}
use Rattle.clfs_dump.proofs.Words.{block_told, behind_block, blocks_told, container_told, listed_told, place_at, log_end, image_told, copy_told, files_told}
use Rattle.clfs_dump.proofs.Words.{Selection}
use Rattle.std.proofs.lemmas.List.{length-take-le}
use Rattle.clfs_base.specs.Checks.{image_at}
use Rattle.clfs_base.specs.Slots.{slot_of, used_slot, copy_in, copy_of}
use Rattle.clfs_container.specs.OpenBlocks.{Opens, Ends, total}
use Rattle.clfs_block.specs.declared.head.BlockRefusal.TheVariants as blocks
use Rattle.clfs_recover.specs.Files.{AreListed, FindsBehind, Finds}
use Rattle.clfs_recover.specs.Walk.{Container, end_at, blocks_end, blocks_records, container_records, listed_records, last_end, place_behind, image_fault}
use Rattle.clfs_recover.specs.Walk.{parts_with, walked}
use Rattle.clfs_recover.specs.declared.parts.Parts.{Parts}
use Rattle.clfs_dump.proofs.BlockMatches.{sectors_said, block_matches}
use Rattle.clfs_dump.proofs.BlockTold.{told_refused, block_ends}
use Rattle.clfs_dump.proofs.Walks.{ended, begun}

abbrev Records : Type 0
Records = Result (List LogEntry) LoadRefusal

-- records with others after them, or the first refusal
abbrev joined : Records → Records → Records
joined r s = r >>= λ (entries : List LogEntry). (s >>= λ (others : List LogEntry). Ok (entries ++ others))

-- What is told ends at this byte, and has these records, or ends with the refusal that reading gives.
abbrev Matches : Told ℕ → Records → ℕ → Type 0
Matches told (Ok entries) end = (told.found ≡ Ok end) × (told.records ≡ entries)
Matches told (Err refusal) end = told.found ≡ Err refusal

module _ {S : Type 0} (first : Told S) (next : S → Told ℕ) where
  then_found : (value : S) → first.found ≡ Ok value → (then_told first next).found ≡ (next value).found
  then_found value is = ap (λ (f : Result S LoadRefusal). (followed_by first.text first.records f next).found) is

  then_records : (value : S) → first.found ≡ Ok value → (then_told first next).records ≡ first.records ++ (next value).records
  then_records value is = ap (λ (f : Result S LoadRefusal). (followed_by first.text first.records f next).records) is

  matches_then : (value : S) (own : List LogEntry) (s : Records) (end : ℕ) → first.found ≡ Ok value → first.records ≡ own → Matches (next value) s end
      → Matches (then_told first next) (joined (Ok own) s) end
  matches_then value own (Ok others) end is has rest =
      (then_found value is ∙ rest.0, then_records value is ∙ (λ i. has i ++ rest.1 i))
  matches_then value own (Err refusal) end is has rest = then_found value is ∙ rest

  matches_stop : (refusal : LoadRefusal) (s : Records) (end : ℕ) → first.found ≡ Err refusal → Matches (then_told first next) (joined (Err refusal) s) end
  matches_stop refusal s end is = ap (λ (f : Result S LoadRefusal). (followed_by first.text first.records f next).found) is

-- ---- the blocks of a container

module _ (judged : AreJudgedAlone) (written : AreReadAsWritten) (selection : Selection) (rows : List Row) (shape : Shape) (good : IsShape shape) where
  module _ (id : ℕ) (file : List ℕ) where
    abbrev here : ℕ → ℕ → Told ℕ
    here n offset = blocks_told selection rows shape id file n offset

    abbrev block_here : ℕ → Told (Option ℕ)
    block_here offset = block_told selection rows shape id offset (drop offset file)

    abbrev behind_here : ℕ → ℕ → Option ℕ → Told ℕ
    behind_here n offset = behind_block (λ behind. here n behind) offset

    -- where no open block begins
    at_end : (n left offset : ℕ) → 512 * shape.container_sectors ≡ 512 * left + offset → left ≤ n → Ends left (drop offset file)
        → Matches (here n offset) (blocks_end shape id (drop offset file) offset) offset
    at_end n left offset sum le ends = elim (cases_lt offset (512 * shape.container_sectors)) [
      | inr far ↦
          subst (λ (t : Told ℕ). Matches t (blocks_end shape id (drop offset file) offset) offset) (sym (ended selection rows shape id file n offset far))
          (subst (λ (r : Records). Matches (only (Ok offset)) r offset)
          (sym (ap (λ b. cond b (read []) (end_at id offset (frame_at shape (lsn_number id offset 0) (drop offset file))))
          (le-leb shape.container_sectors (offset / 512) (omega (arith, far))))) (refl, refl))
      | inl near ↦ by_count n le near
    ]
      where
        read : List LogEntry → Records
        read entries = Ok entries

        bytes : List ℕ
        bytes = drop offset file

        none_begins : offset < 512 * shape.container_sectors → (head : BlockHead) → frame_at shape (lsn_number id offset 0) (drop offset file) ≡ Ok head → ⊥
        none_begins near head e =
            let frame = written.holds shape (lsn_number id offset 0) (drop offset file) head e in
            let said : head.sectors ≡ block_sectors (drop offset file) = ap (λ (h : BlockHead). h.sectors) frame.numbers ∙ sectors_said (drop offset file) in
            let lies = block_ends written shape id offset (drop offset file) head good (omega (arith, sum)) near e in
            ⊎_elim (λ (none : left ≡ 0). omega (arith, none, near, sum))
            (λ more. ⊎_elim (λ closed. closed frame.gate)
            (λ more. ⊎_elim (λ (none : block_sectors (drop offset file) ≡ 0). omega (arith, none, frame.some, said))
            (λ more. ⊎_elim (λ (many : left < block_sectors (drop offset file)). omega (arith, many, lies.1, said, sum))
            (λ (short : length (drop offset file) < 512 * block_sectors (drop offset file)). omega (arith, short, frame.whole, said)) more) more) more) ends

        by_count : (n : ℕ) → left ≤ n → offset < 512 * shape.container_sectors
            → Matches (here n offset) (blocks_end shape id (drop offset file) offset) offset
        by_count zero le near = absurd (omega (arith, le, near, sum))
        by_count (suc m) le near =
            subst (λ (t : Told ℕ). Matches t (blocks_end shape id (drop offset file) offset) offset) (sym (begun selection rows shape id file m offset near))
            (subst (λ (r : Records). Matches (then_told (block_here offset) (behind_here m offset)) r offset)
            (sym (ap (λ b. cond b (read []) (end_at id offset (frame_at shape (lsn_number id offset 0) (drop offset file))))
            (lt-leb shape.container_sectors (offset / 512) (omega (arith, near)))))
            (by_frame (frame_at shape (lsn_number id offset 0) (drop offset file)) refl))
          where
            by_frame : (r : Result BlockHead BlockRefusal) → frame_at shape (lsn_number id offset 0) (drop offset file) ≡ r
                → Matches (then_told (block_here offset) (behind_here m offset)) (end_at id offset r) offset
            by_frame (Ok head) e = absurd (none_begins near head e)
            by_frame (Err blocks.Closed) e =
                let told = told_refused selection rows shape id offset (drop offset file) blocks.Closed e in (
                  ap (λ (t : Told (Option ℕ)). (then_told t (behind_here m offset)).found) told,
                  ap (λ (t : Told (Option ℕ)). (then_told t (behind_here m offset)).records) told,
                )
            by_frame (Err (blocks.BadByte at)) e =
                ap (λ (t : Told (Option ℕ)). (then_told t (behind_here m offset)).found)
                (told_refused selection rows shape id offset (drop offset file) (blocks.BadByte at) e)
            by_frame (Err blocks.NoMemory) e =
                ap (λ (t : Told (Option ℕ)). (then_told t (behind_here m offset)).found)
                (told_refused selection rows shape id offset (drop offset file) blocks.NoMemory e)

    -- open blocks one after the other, and what stands after them
    blocks_match : (open_blocks : List (List ℕ)) (n left offset rest : ℕ) → 512 * shape.container_sectors ≡ 512 * left + offset → left ≤ n
        → Opens left (drop offset file) open_blocks rest → Ends rest (drop (offset + total open_blocks) file)
        → Matches (here n offset) (blocks_records shape (length rows) id (drop (offset + total open_blocks) file) offset open_blocks) (offset + total open_blocks)
    blocks_match [] n left offset rest sum le opens ends =
        let zero_more : offset ≡ offset + 0 = omega arith in
        subst (λ (k : ℕ). Matches (here n offset) (blocks_end shape id (drop k file) offset) k) zero_more
        (at_end n left offset sum le (subst (λ (k : ℕ). Ends k (drop offset file)) (sym opens)
        (subst (λ (k : ℕ). Ends rest (drop k file)) (sym zero_more) ends)))
    blocks_match (block ∷ others) n left offset rest sum le opens ends =
        by_count (λ m left offset sum le opens ends. blocks_match others m left offset rest sum le opens ends) n le
      where
        bytes : List ℕ
        bytes = drop offset file

        by_count : ((m left offset : ℕ) → 512 * shape.container_sectors ≡ 512 * left + offset → left ≤ m → Opens left (drop offset file) others rest
            → Ends rest (drop (offset + total others) file)
            → Matches (here m offset) (blocks_records shape (length rows) id (drop (offset + total others) file) offset others) (offset + total others))
            → (n : ℕ) → left ≤ n
            → Matches (here n offset) (blocks_records shape (length rows) id (drop (offset + total (block ∷ others)) file) offset (block ∷ others))
            (offset + total (block ∷ others))
        by_count go_on zero le = let begins = opens.0 in absurd (omega (arith, le, begins.some, begins.fits))
        by_count go_on (suc m) le =
            let begins = opens.0 in
            let near : offset < 512 * shape.container_sectors = omega (arith, sum, begins.some, begins.fits) in
            subst (λ (t : Told ℕ). Matches t (blocks_records shape (length rows) id (drop (offset + total (block ∷ others)) file) offset (block ∷ others))
            (offset + total (block ∷ others))) (sym (begun selection rows shape id file m offset near))
            (by_read (block_records shape (length rows) (lsn_number id offset 0) (drop offset file)) refl)
          where
            count : ℕ
            count = block_sectors (drop offset file)

            same : block_records shape (length rows) (lsn_number id offset 0) block ≡ block_records shape (length rows) (lsn_number id offset 0) (drop offset file)
            same =
                let begins = opens.0 in
                let said = sectors_said (drop offset file) in
                ap (λ (l : List ℕ). block_records shape (length rows) (lsn_number id offset 0) l) begins.is
                ∙ block_same judged written.holds shape (length rows) (lsn_number id offset 0) (drop offset file) (512 * block_sectors (drop offset file))
                (record { first = omega (arith, begins.some); all = inl (omega (arith, said)) })

            long : length block ≡ 512 * block_sectors (drop offset file)
            long = let begins = opens.0 in ap length begins.is ∙ length-take-le (512 * block_sectors (drop offset file)) (drop offset file) begins.whole

            rest_here : Records
            rest_here = blocks_records shape (length rows) id (drop (offset + total (block ∷ others)) file) (offset + length block) others

            more : Matches (here m (offset + 512 * block_sectors (drop offset file)))
                (blocks_records shape (length rows) id (drop (offset + total (block ∷ others)) file) (offset + length block) others)
                (offset + total (block ∷ others))
            more =
                let begins = opens.0 in
                let on : offset + length block ≡ offset + 512 * block_sectors (drop offset file) = omega (arith, long) in
                let all : offset + 512 * block_sectors (drop offset file) + total others ≡ offset + (length block + total others) = omega (arith, long) in
                let join : drop (512 * block_sectors (drop offset file)) (drop offset file) ≡ drop (offset + 512 * block_sectors (drop offset file)) file =
                drop-drop (512 * block_sectors (drop offset file)) offset file in
                subst (λ (k : ℕ). Matches (here m (offset + 512 * block_sectors (drop offset file)))
                (blocks_records shape (length rows) id (drop (offset + total (block ∷ others)) file) k others) (offset + total (block ∷ others))) (sym on)
                (subst (λ (k : ℕ). Matches (here m (offset + 512 * block_sectors (drop offset file)))
                (blocks_records shape (length rows) id (drop k file) (offset + 512 * block_sectors (drop offset file)) others) k) all
                (go_on m (left - block_sectors (drop offset file)) (offset + 512 * block_sectors (drop offset file))
                (omega (arith, sum, begins.fits)) (omega (arith, le, begins.some))
                (subst (λ (l : List ℕ). Opens (left - block_sectors (drop offset file)) l others rest) join opens.1)
                (subst (λ (k : ℕ). Ends rest (drop k file)) (sym all) ends)))

            by_read : (r : Result (List LogEntry) BlockRefusal) → block_records shape (length rows) (lsn_number id offset 0) (drop offset file) ≡ r
                → Matches (then_told (block_here offset) (behind_here m offset))
                (blocks_records shape (length rows) id (drop (offset + total (block ∷ others)) file) offset (block ∷ others)) (offset + total (block ∷ others))
            by_read (Ok entries) e =
                let matched = block_matches written selection rows shape id offset (drop offset file) opens.0.gate (Ok entries) e in
                subst (λ (r : Result (List LogEntry) BlockRefusal). Matches (then_told (block_here offset) (behind_here m offset))
                (joined (told_as (damage_at id offset) r) rest_here) (offset + total (block ∷ others))) (sym (same ∙ e))
                (matches_then (block_here offset) (behind_here m offset) (Some (block_sectors (drop offset file))) entries rest_here
                (offset + total (block ∷ others)) matched.0 matched.1 more)
            by_read (Err refusal) e =
                let matched = block_matches written selection rows shape id offset (drop offset file) opens.0.gate (Err refusal) e in
                subst (λ (r : Result (List LogEntry) BlockRefusal). Matches (then_told (block_here offset) (behind_here m offset))
                (joined (told_as (damage_at id offset) r) rest_here) (offset + total (block ∷ others))) (sym (same ∙ e))
                (matches_stop (block_here offset) (behind_here m offset) (damage_at id offset refusal) rest_here (offset + total (block ∷ others)) matched)

  -- ---- the containers of a log

  -- where they end, after one that ends at an offset
  abbrev end_behind : ℕ → List Container → ℕ
  end_behind end [] = end
  end_behind end (container ∷ containers) = last_end (container ∷ containers)

  ends_on : (container : Container) (others : List Container) → end_behind (total container.blocks) others ≡ last_end (container ∷ others)
  ends_on container [] = refl
  ends_on container (other ∷ others) = refl

  ends_none : (listed : List Container) → end_behind 0 listed ≡ last_end listed
  ends_none [] = refl
  ends_none (container ∷ others) = refl

  module _ (files : Files) where
    container_match : (id number : ℕ) (container : Container) → container.bytes ≡ files number
        → (rest : ℕ) → Opens shape.container_sectors container.bytes container.blocks rest → Ends rest (drop (total container.blocks) container.bytes)
        → Matches (container_told selection rows shape files id number) (container_records shape (length rows) id container) (total container.blocks)
    container_match id number container is rest opens ends =
        let none : 0 + total container.blocks ≡ total container.blocks = omega arith in
        let all : 512 * shape.container_sectors ≡ 512 * shape.container_sectors + 0 = omega arith in
        let matched = subst (λ (k : ℕ). Matches (blocks_told selection rows shape id (files number) shape.container_sectors 0)
        (blocks_records shape (length rows) id (drop k (files number)) 0 container.blocks) k) none
        (blocks_match id (files number) container.blocks shape.container_sectors shape.container_sectors 0 rest all (omega arith)
        (subst (λ (l : List ℕ). Opens shape.container_sectors l container.blocks rest) is opens)
        (subst (λ (k : ℕ). Ends rest (drop k (files number))) (sym none) (subst (λ (l : List ℕ). Ends rest (drop (total container.blocks) l)) is ends))) in
        lined (subst (λ (l : List ℕ). Matches (blocks_told selection rows shape id (files number) shape.container_sectors 0)
        (blocks_records shape (length rows) id (drop (total container.blocks) l) 0 container.blocks) (total container.blocks)) (sym is) matched)
      where
        lined : Matches (blocks_told selection rows shape id (files number) shape.container_sectors 0) (container_records shape (length rows) id container)
            (total container.blocks)
            → Matches (container_told selection rows shape files id number) (container_records shape (length rows) id container) (total container.blocks)
        lined = by_read (container_records shape (length rows) id container)
          where
            by_read : (r : Records) → Matches (blocks_told selection rows shape id (files number) shape.container_sectors 0) r (total container.blocks)
                → Matches (container_told selection rows shape files id number) r (total container.blocks)
            by_read (Ok entries) m = m
            by_read (Err refusal) m = m

    listed_match : (numbers : List ℕ) (listed : List Container) (id end : ℕ) → AreListed shape.container_sectors files numbers listed
        → Matches (listed_told selection rows shape files id end numbers) (listed_records shape (length rows) id listed) (end_behind end listed)
    listed_match [] [] id end are = (refl, refl)
    listed_match [] (container ∷ others) id end are = absurd are
    listed_match (number ∷ numbers) [] id end are = absurd are
    listed_match (number ∷ numbers) (container ∷ others) id end are =
        by_read (λ stop. listed_match numbers others (id + 1) stop are.2) (container_records shape (length rows) id container) (container_match id number container are.0 are.1.0 are.1.1 are.1.2)
      where
        by_read : ((stop : ℕ) → Matches (listed_told selection rows shape files (id + 1) stop numbers) (listed_records shape (length rows) (id + 1) others)
            (end_behind stop others)) → (r : Records) → Matches (container_told selection rows shape files id number) r (total container.blocks)
            → Matches (then_told (container_told selection rows shape files id number) (λ stop. listed_told selection rows shape files (id + 1) stop numbers))
            (joined r (listed_records shape (length rows) (id + 1) others)) (last_end (container ∷ others))
        by_read others_match (Ok own) matched =
            matches_then (container_told selection rows shape files id number) (λ stop. listed_told selection rows shape files (id + 1) stop numbers)
            (total container.blocks) own (listed_records shape (length rows) (id + 1) others) (last_end (container ∷ others)) matched.0 matched.1
            (subst (λ (k : ℕ). Matches (listed_told selection rows shape files (id + 1) (total container.blocks) numbers)
            (listed_records shape (length rows) (id + 1) others) k) (ends_on container others)
            (others_match (total container.blocks)))
        by_read others_match (Err refusal) matched =
            matches_stop (container_told selection rows shape files id number) (λ stop. listed_told selection rows shape files (id + 1) stop numbers) refusal
            (listed_records shape (length rows) (id + 1) others) (last_end (container ∷ others)) matched

-- ---- a log

-- What is told ends where the log does and has its records, or ends with the refusal of opening.
abbrev Meets : Told ℕ → Result Parts LoadRefusal → Type 0
Meets told (Ok parts) = (told.found ≡ Ok (frontier parts.place)) × (told.records ≡ parts.entries)
Meets told (Err refusal) = told.found ≡ Err refusal

module _ (judged : AreJudgedAlone) (written : AreReadAsWritten) (selection : Selection) (files : Files) where
  image_meets : (slot : ℕ) (image : BaseImage) (listed : List Container) → IsShape (shape_of image)
      → AreListed image.container_sectors files image.files listed → Meets (image_told selection files slot image) (walked slot image listed)
  image_meets slot image listed good are =
      by_read (listed_records (shape_of image) (length image.streams) image.first listed)
      (subst (λ (k : ℕ). Matches told (listed_records (shape_of image) (length image.streams) image.first listed) k)
      (ends_none judged written selection image.streams (shape_of image) good listed)
      (listed_match judged written selection image.streams (shape_of image) good files image.files listed image.first 0 are))
    where
      told : Told ℕ
      told = listed_told selection image.streams (shape_of image) files image.first 0 image.files

      next : ℕ → Told ℕ
      next end = only (log_end slot image (frontier (place_at image end)))

      by_fault : (entries : List LogEntry) (o : Option ℕ) → image_fault image (frontier (place_behind image listed)) ≡ o
          → told.found ≡ Ok (last_end listed) → told.records ≡ entries
          → Meets (image_told selection files slot image)
          (unless_wrong (λ at. Damaged 0 (slot_offset slot) at) o (Ok (parts_with slot image listed entries)))
      by_fault entries None e found records = (
        then_found told next (last_end listed) found
            ∙ ap (λ (w : Option ℕ). unless_wrong (λ at. Damaged 0 (slot_offset slot) at) w (Ok (frontier (place_behind image listed)))) e,
        then_records told next (last_end listed) found ∙ append-nil told.records ∙ records,
      )
      by_fault entries (Some at) e found records =
          then_found told next (last_end listed) found
          ∙ ap (λ (w : Option ℕ). unless_wrong (λ at. Damaged 0 (slot_offset slot) at) w (Ok (frontier (place_behind image listed)))) e

      by_read : (r : Records) → Matches told r (last_end listed)
          → Meets (image_told selection files slot image)
          (r >>= λ (entries : List LogEntry). unless_wrong (λ at. Damaged 0 (slot_offset slot) at) (image_fault image (frontier (place_behind image listed)))
          (Ok (parts_with slot image listed entries)))
      by_read (Ok entries) matched = by_fault entries (image_fault image (frontier (place_behind image listed))) refl matched.0 matched.1
      by_read (Err refusal) matched = matches_stop told next refusal (Ok []) 0 matched

abbrev copy_there : ℕ × BaseImage → Result (ℕ × BaseImage) NewestRefusal
copy_there x = Ok x

-- the image of the newest copy is one that was read
image_read : (base : List ℕ) (slot : ℕ) (image : BaseImage) → newest_of base ≡ Ok (slot, image) → (bytes : List ℕ) × (image_at bytes ≡ Ok image)
image_read base slot image is = by_slot (used_slot base) is
  where
    one_copy : (x y : ℕ × BaseImage) → copy_there x ≡ copy_there y → x ≡ y
    one_copy x y e = cc e

    by_image : (s : ℕ) (bytes : List ℕ) (r : Result BaseImage ℕ) → image_at bytes ≡ r → copy_in s r ≡ Ok (slot, image) → (bytes : List ℕ) × (image_at bytes ≡ Ok image)
    by_image s bytes (Ok other) e found =
        let same : other ≡ image = ap (λ (x : ℕ × BaseImage). x.1) (one_copy (s, other) (slot, image) found) in (bytes, e ∙ ap (λ (i : BaseImage). Ok i) same)
    by_image s bytes (Err at) e found = absurd (cc found)

    by_slot : (u : Result ℕ NewestRefusal) → copy_of base u ≡ Ok (slot, image) → (bytes : List ℕ) × (image_at bytes ≡ Ok image)
    by_slot (Ok s) found = by_image s (slot_of base s) (image_at (slot_of base s)) refl found
    by_slot (Err refusal) found = absurd (cc found)

-- what is read of bytes has a shape that a log can have
abbrev pub HasShape : Type 0
HasShape = (bytes : List ℕ) (image : BaseImage) → image_at bytes ≡ Ok image → IsShape (shape_of image) × (image.first + length image.files ≤ 2 ^ 32)

-- What is told of files is what opening finds in them.
pub found_meets : AreJudgedAlone → AreReadAsWritten → HasShape → (selection : Selection) (files : Files) (found : Result Parts LoadRefusal)
    → Finds files found → Meets (files_told selection files) found
found_meets judged written shapes selection files found finds = by_copy (newest_of (files 0)) refl finds
  where
    by_copy : (r : Result (ℕ × BaseImage) NewestRefusal) → newest_of (files 0) ≡ r → FindsBehind files found r → Meets (copy_told selection files r) found
    by_copy (Err refusal) e is = subst (λ (f : Result Parts LoadRefusal). Meets (only (Err (without_copy refusal))) f) (sym is) refl
    by_copy (Ok (slot, image)) e finds =
        let read = image_read (files 0) slot image e in
        subst (λ (f : Result Parts LoadRefusal). Meets (image_told selection files slot image) f) (sym finds.2)
        (image_meets judged written selection files slot image finds.0 (shapes read.0 image read.1).0 finds.1)
