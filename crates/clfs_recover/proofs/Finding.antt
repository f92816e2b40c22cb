-- What the walk finds after a base copy, and that every file has one list of open blocks.
use Rattle.clfs_recover.proofs.Words.{◌≡◌, ◌≢◌, inl, inr, ⊎_elim, ℕ, zero, suc, ◌+◌, ◌-◌, ◌*◌, ◌<◌, ◌≤◌, List, [], ◌∷◌, length, get_or, take, drop, Result}
use Rattle.clfs_recover.proofs.Words.{Ok, Err, refl, sym, ◌∙◌, ap, subst, arith, IfOk, IfErr, length-take-le, drop-drop, cases_eq, cases_lt, frontier}
use Rattle.clfs_recover.proofs.Words.{unless_wrong, LogEntry, Files, Unchanged, block_sectors, Ends, AreOpen, total, BaseImage, NewestRefusal, newest_of}
use Rattle.clfs_recover.proofs.Words.{◌>>=◌, Container, shape_of, listed_records, place_behind, image_fault, slot_offset, parts_with, walked, AreListed}
use Rattle.clfs_recover.proofs.Words.{without_copy, FindsBehind, Finds, RefusesAs, parts_of, Walked, LoadRefusal, NoBase, Damaged, DiskFault, NoMemory}
use Rattle.clfs_base.specs.declared.refusal.NewestRefusal.TheVariants as newest
use Rattle.clfs_base.specs.Decoding.{GivesNewest}
use Rattle.clfs_recover.specs.Opening.{IsWalked, IsRefused}

-- ---- after a base copy

-- what the records of the listed containers are refused for
pub walk_refused : (slot : ℕ) (image : BaseImage) (listed : List Container) (refusal : LoadRefusal)
    → RefusesAs refusal (listed_records (shape_of image) (length image.streams) image.first listed) → RefusesAs refusal (walked slot image listed)
walk_refused slot image listed NoBase is = is
walk_refused slot image listed (Damaged container offset at) is =
    ap (λ (r : Result (List LogEntry) LoadRefusal). r >>= λ (entries : List LogEntry).
    unless_wrong (λ at. Damaged 0 (slot_offset slot) at) (image_fault image (frontier (place_behind image listed)))
    (Ok (parts_with slot image listed entries))) is
walk_refused slot image listed DiskFault is = tt
walk_refused slot image listed NoMemory is = tt

-- ---- open blocks

-- bytes have a list of open blocks
pub open_exist : (fuel left : ℕ) (bytes : List ℕ) → left ≤ fuel → (blocks : List (List ℕ)) × AreOpen left bytes blocks
open_exist zero left bytes le = ([], (left, refl, inl (omega (arith, le))))
open_exist (suc fuel) left bytes le =
    ⊎_elim (λ (none : left ≡ 0). ends (inl none))
    (λ (some : left ≢ 0). ⊎_elim
    (λ (gate : get_or bytes 0 0 ≡ 165). ⊎_elim (λ (none : block_sectors bytes ≡ 0). ends (inr (inr (inl none))))
    (λ (counted : block_sectors bytes ≢ 0). ⊎_elim (λ (many : left < block_sectors bytes). ends (inr (inr (inr (inl many)))))
    (λ (fits : block_sectors bytes ≤ left). ⊎_elim
    (λ (short : length bytes < 512 * block_sectors bytes). ends (inr (inr (inr (inr short)))))
    (λ (whole : 512 * block_sectors bytes ≤ length bytes). more (open_exist fuel) gate counted fits whole)
    (cases_lt (length bytes) (512 * block_sectors bytes)))
    (cases_lt left (block_sectors bytes))) (cases_eq (block_sectors bytes) 0))
    (λ (closed : get_or bytes 0 0 ≢ 165). ends (inr (inl closed)))
    (cases_eq (get_or bytes 0 0) 165)) (cases_eq left 0)
  where
    ends : Ends left bytes → (blocks : List (List ℕ)) × AreOpen left bytes blocks
    ends e = ([], (left, refl, e))

    more : ((left : ℕ) (bytes : List ℕ) → left ≤ fuel → (blocks : List (List ℕ)) × AreOpen left bytes blocks) → get_or bytes 0 0 ≡ 165 → block_sectors bytes ≢ 0 → block_sectors bytes ≤ left → 512 * block_sectors bytes ≤ length bytes
        → (blocks : List (List ℕ)) × AreOpen left bytes blocks
    more rest_of gate counted fits whole =
        let size : ℕ = 512 * block_sectors bytes in
        let rest = rest_of (left - block_sectors bytes) (drop size bytes) (omega (arith, counted, le)) in
        let block = take size bytes in
        let long : length block ≡ size = length-take-le size bytes whole in
        let place : drop (total rest.0) (drop size bytes) ≡ drop (total (block ∷ rest.0)) bytes =
        drop-drop (total rest.0) size bytes ∙ ap (λ (k : ℕ). drop (k + total rest.0) bytes) (sym long) in (
          block ∷ rest.0,
          (
            rest.1.0,
            (record { gate = gate; some = omega (arith, counted); fits = fits; whole = whole; is = refl }, rest.1.1),
            subst (λ (l : List ℕ). Ends rest.1.0 l) place rest.1.2,
          ),
        )

-- files with these numbers are listed containers
pub lists_exist : (sectors : ℕ) (files : Files) (numbers : List ℕ) → (listed : List Container) × AreListed sectors files numbers listed
lists_exist sectors files [] = ([], tt)
lists_exist sectors files (number ∷ numbers) =
    let one = open_exist sectors sectors (files number) (omega arith) in
    let others = lists_exist sectors files numbers in
    (record { bytes = files number; blocks = one.0 } ∷ others.0, (refl, one.1, others.1))

-- and so they are in files that hold the same
pub listed_same : (sectors : ℕ) (files same : Files) (numbers : List ℕ) (listed : List Container) → Unchanged files same
    → AreListed sectors files numbers listed → AreListed sectors same numbers listed
listed_same sectors files same [] [] e are = tt
listed_same sectors files same [] (container ∷ containers) e are = absurd are
listed_same sectors files same (number ∷ numbers) [] e are = absurd are
listed_same sectors files same (number ∷ numbers) (container ∷ containers) e are =
    (are.0 ∙ sym (e number), are.1, listed_same sectors files same numbers containers e are.2)

-- ---- what opening finds

abbrev no_image : NewestRefusal → Result (ℕ × BaseImage) NewestRefusal
no_image refusal = Err refusal

refused_by : (files : Files) (refusal : NewestRefusal) → newest_of (files 0) ≡ Err refusal → Finds files (Err (without_copy refusal))
refused_by files refusal is = subst (λ (r : Result (ℕ × BaseImage) NewestRefusal). FindsBehind files (Err (without_copy refusal)) r) (sym is) refl

-- a base file without a newest copy
pub no_copy : (files : Files) (refusal : NewestRefusal) → GivesNewest (no_image refusal) (newest_of (files 0)) → IsRefused files (without_copy refusal)
no_copy files newest.NoBase is = is
no_copy files (newest.BadByte slot at) is = refused_by files (newest.BadByte slot at) is
no_copy files newest.DiskFault is = tt
no_copy files newest.NoMemory is = tt

-- a copy, and the walk after it
pub by_copy : (has : List LogEntry → Type 0) (files : Files) (slot : ℕ) (image : BaseImage) (result : Result Walked LoadRefusal)
    → newest_of (files 0) ≡ Ok (slot, image)
    → IfOk result (λ walked. (entries : List LogEntry) × has entries × Finds files (Ok (parts_of walked entries)))
    → ((listed : List Container) → AreListed image.container_sectors files image.files listed
    → IfErr result (λ refusal. RefusesAs refusal (walked slot image listed)))
    → IsWalked has files result
by_copy has files slot image (Ok walk) is found refused = found
by_copy has files slot image (Err refusal) is found refused = by_refusal refusal (refused listed.0 listed.1)
  where
    listed : (listed : List Container) × AreListed image.container_sectors files image.files listed
    listed = lists_exist image.container_sectors files image.files

    by_refusal : (refusal : LoadRefusal) → RefusesAs refusal (walked slot image listed.0) → IsRefused files refusal
    by_refusal NoBase refuses = absurd refuses
    by_refusal (Damaged container offset at) refuses =
        subst (λ (r : Result (ℕ × BaseImage) NewestRefusal). FindsBehind files (Err (Damaged container offset at)) r) (sym is)
        (listed.0, listed.1, sym refuses)
    by_refusal DiskFault refuses = tt
    by_refusal NoMemory refuses = tt
