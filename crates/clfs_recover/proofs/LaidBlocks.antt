-- Records that were read from blocks lie in blocks one after the other, as those of a state that files hold.
use Rattle.clfs_recover.proofs.Words.{◌≡◌, ◌⊎◌, inl, inr, ℕ, ◌+◌, ◌*◌, ◌/◌, ◌%◌, ◌<◌, ◌≤◌, List, [], ◌∷◌, ◌++◌, length, refl, sym, ◌∙◌, ap, subst, arith}
use Rattle.clfs_recover.proofs.Words.{AllByRecursion, eq-eqb, ne_eqb, lsn_number, container_of, offset_of, sequence_of, IsShape, size, sectors, IsWithin}
use Rattle.clfs_recover.proofs.Words.{block_end, FitsAt, LogEntry, Place, Shape, block_sectors, behind, behind_all, LiesBehind, LieInBlocks, FitFrom}
use Rattle.clfs_lsn.specs.Place.{begun}
use Rattle.clfs_recover.proofs.Containers.{left_here}
use Rattle.clfs_recover.proofs.ReadBlocks.{taken_bytes, HasRead}

-- ---- records with rising LSNs

-- The LSNs of records rise from one on, and all lie below another.
abbrev pub RiseWithin : ℕ → ℕ → List LogEntry → Type 0
RiseWithin low high [] = low ≤ high
RiseWithin low high (entry ∷ entries) = (low ≤ entry.lsn) × RiseWithin (entry.lsn + 1) high entries

-- they rise from every lower one on too
rise_lower : (lower low high : ℕ) (entries : List LogEntry) → lower ≤ low → RiseWithin low high entries → RiseWithin lower high entries
rise_lower lower low high [] le rise = omega (arith, le, rise)
rise_lower lower low high (entry ∷ entries) le rise = (omega (arith, le, rise.0), rise.1)

-- and below every higher one
rise_higher : (low high higher : ℕ) (entries : List LogEntry) → high ≤ higher → RiseWithin low high entries → RiseWithin low higher entries
rise_higher low high higher [] le rise = omega (arith, le, rise)
rise_higher low high higher (entry ∷ entries) le rise = (rise.0, rise_higher (entry.lsn + 1) high higher entries le rise.1)

-- and those after rise on
pub rise_both : (low mid next high : ℕ) (front rest : List LogEntry) → RiseWithin low mid front → mid ≤ next → RiseWithin next high rest
    → RiseWithin low high (front ++ rest)
rise_both low mid next high [] rest rise le more = rise_lower low next high rest (omega (arith, rise, le)) more
rise_both low mid next high (entry ∷ entries) rest rise le more = (rise.0, rise_both (entry.lsn + 1) mid next high entries rest rise.1 le more)

-- ---- records that lie after a place

-- The next block begins at this byte of this container: right after the last one, or at the first byte of a further container.
abbrev pub BeginsAt : Place → ℕ → ℕ → Type 0
BeginsAt place id offset = ((place.container ≡ id) × (offset ≡ 512 * block_end place)) ⊎ ((place.container < id) × (offset ≡ 0))

-- each record fits its own LSN in a log of so many streams
abbrev pub FitTheirs : ℕ → List LogEntry → Type 0
FitTheirs streams = AllByRecursion (λ (entry : LogEntry). FitsAt entry.lsn streams entry)

-- Records lie in blocks after a place, their LSNs rising from one on, and the next block begins at this byte of this container.
pub record AreLaid (shape : Shape) (streams : ℕ) (place : Place) (low id end : ℕ) (entries : List LogEntry) : Type 0 where
  pub laid : LieInBlocks shape place entries
  pub next : BeginsAt (behind_all place entries) id end
  pub rise : RiseWithin low (lsn_number id end 0) entries
  pub fit : FitTheirs streams entries
  pub whole : end % 512 ≡ 0
  pub within : end ≤ 512 * shape.container_sectors

-- the place after the records of two lists
pub behind_both : (place : Place) (front rest : List LogEntry) → behind_all place (front ++ rest) ≡ behind_all (behind_all place front) rest
behind_both place [] rest = refl
behind_both place (entry ∷ entries) rest = behind_both (behind place entry) entries rest

laid_both : (shape : Shape) (place : Place) (front rest : List LogEntry) → LieInBlocks shape place front → LieInBlocks shape (behind_all place front) rest
    → LieInBlocks shape place (front ++ rest)
laid_both shape place [] rest laid more = more
laid_both shape place (entry ∷ entries) rest laid more = (laid.0, (laid.1.0, laid_both shape (behind place entry) entries rest laid.1.1 more))

pub fit_both : (streams : ℕ) (front rest : List LogEntry) → FitTheirs streams front → FitTheirs streams rest → FitTheirs streams (front ++ rest)
fit_both streams [] rest fit more = more
fit_both streams (entry ∷ entries) rest fit more = (fit.0, fit_both streams entries rest fit.1 more)

-- what lies after what lies after a place
pub laid_on : (shape : Shape) (streams : ℕ) (place : Place) (low id mid next further end : ℕ) (front rest : List LogEntry)
    → AreLaid shape streams place low id mid front → lsn_number id mid 0 ≤ next → AreLaid shape streams (behind_all place front) next further end rest
    → AreLaid shape streams place low further end (front ++ rest)
laid_on shape streams place low id mid next further end front rest one le other = record {
  laid = laid_both shape place front rest one.laid other.laid;
  next = subst (λ (p : Place). BeginsAt p further end) (sym (behind_both place front rest)) other.next;
  rise = rise_both low (lsn_number id mid 0) next (lsn_number further end 0) front rest one.rise le other.rise;
  fit = fit_both streams front rest one.fit other.fit;
  whole = other.whole;
  within = other.within;
}

-- ---- a block

-- the place in a block that begins at this sector of this container
abbrev in_block : ℕ → ℕ → ℕ → ℕ → Place
in_block id sector used records = record { container = id; offset = 512 * sector; used = used; records = records }

-- a place in a block is within its container where the whole block is
in_block_within : (shape : Shape) (id sector used records all : ℕ) → 1 ≤ id → 1 ≤ records → records ≤ 511 → 16 ≤ used → used ≤ all
    → sectors all ≤ shape.block_sectors → sector + sectors all ≤ shape.container_sectors → IsWithin shape (in_block id sector used records)
in_block_within shape id sector used records all some_id some few header le largest left = record {
  container = some_id;
  offset = omega arith;
  end = omega (arith, le, left);
  block = inr (record { some_records = some; few_records = few; some_sectors = omega (arith, header); few_sectors = omega (arith, le, largest) });
}

module _ (shape : Shape) (streams id sector all : ℕ) (some_id : 1 ≤ id) (largest : sectors all ≤ shape.block_sectors)
    (left : sector + sectors all ≤ shape.container_sectors) where
  abbrev start : ℕ
  start = lsn_number id (512 * sector) 0

  -- the records after so many of a block
  record AreJoined (used records : ℕ) (entries : List LogEntry) : Type 0 where
    laid : LieInBlocks shape (in_block id sector used records) entries
    last : behind_all (in_block id sector used records) entries ≡ in_block id sector all (records + length entries)
    rise : RiseWithin (start + records) (start + 512) entries
    fit : FitTheirs streams entries

  joined : (used records : ℕ) (entries : List LogEntry) → 16 ≤ used → 1 ≤ records → records + length entries ≤ 511 → used + taken_bytes entries ≡ all
      → FitFrom (start + records) streams entries → AreJoined used records entries
  joined used records [] header some few sum fits = record {
    laid = tt;
    last = let none : records ≡ records + 0 = omega arith in let same : used ≡ all = omega (arith, sum) in
        λ i. in_block id sector (same i) (none i);
    rise = omega (arith, few);
    fit = tt;
  }
  joined used records (entry ∷ entries) header some few sum fits =
      let n : ℕ = size (length entry.bytes) in
      let at : entry.lsn ≡ start + records = fits.0.at in
      let place : Place = in_block id sector used records in
      let next : Place = in_block id sector (used + n) (records + 1) in
      let joins : behind place entry ≡ next =
      rw (ne_eqb (sequence_of entry.lsn) 0 (λ none. omega (arith, at, some, few, none))) refl in
      let following : start + records + 1 ≡ start + (records + 1) = omega arith in
      let rest = joined (used + n) (records + 1) entries (omega (arith, header)) (omega arith) (omega (arith, few)) (omega (arith, sum))
      (subst (λ (l : ℕ). FitFrom l streams entries) following fits.1) in
      let above : start + (records + 1) ≡ entry.lsn + 1 = omega (arith, at) in
      let count : records + 1 + length entries ≡ records + (1 + length entries) = omega arith in record {
        laid = (
          inl (some, omega (arith, at)),
          (
            subst (IsWithin shape) (sym joins)
                (in_block_within shape id sector (used + n) (records + 1) all some_id (omega arith) (omega (arith, few)) (omega (arith, header)) (omega (arith, sum))
                largest left),
            subst (λ (p : Place). LieInBlocks shape p entries) (sym joins) rest.laid,
          ),
        );
        last = ap (λ (p : Place). behind_all p entries) joins ∙ rest.last
            ∙ (let more : records + 1 + length entries ≡ records + length (entry ∷ entries) = omega arith in ap (in_block id sector all) more);
        rise = (omega (arith, at), subst (λ (l : ℕ). RiseWithin l (start + 512) entries) above rest.rise);
        fit = (subst (λ (l : ℕ). FitsAt l streams entry) (sym at) fits.0, rest.fit);
      }

  -- the first record of a block begins it, after a place
  module _ (place : Place) (low : 512 * sector ≤ 8388608) (begins : BeginsAt place id (512 * sector)) where
    begun_behind : (entry : LogEntry) → entry.lsn ≡ start → behind place entry ≡ in_block id sector (16 + size (length entry.bytes)) 1
    begun_behind entry at =
        let first : sequence_of entry.lsn ≡ 0 = omega (arith, at) in
        let container : container_of entry.lsn ≡ id = omega (arith, at, low) in
        let of_sector : offset_of entry.lsn / 512 ≡ sector = omega (arith, at, low) in
        rw (eq-eqb (sequence_of entry.lsn) 0 first) (λ i. begun (container i) (of_sector i) (length entry.bytes))

    lies_behind : (entry : LogEntry) → entry.lsn ≡ start → LiesBehind place entry
    lies_behind entry at = by_begin begins
      where
        by_begin : BeginsAt place id (512 * sector) → LiesBehind place entry
        by_begin (inl here) = inr (inl (omega (arith, at, here.0, here.1)))
        by_begin (inr further) =
            let container : container_of entry.lsn ≡ id = omega (arith, at, low) in
            inr (inr (omega (arith, container, further.0), omega (arith, at, container, further.1)))

    begun_laid : (entry : LogEntry) (entries : List LogEntry) → 1 + length entries ≤ 511 → 16 + taken_bytes (entry ∷ entries) ≡ all
        → FitFrom start streams (entry ∷ entries) → AreLaid shape streams place start id (512 * (sector + sectors all)) (entry ∷ entries)
    begun_laid entry entries few sum fits =
        let n : ℕ = size (length entry.bytes) in
        let at : entry.lsn ≡ start = fits.0.at in
        let begun_is = begun_behind entry at in
        let rest = joined (16 + n) 1 entries (omega arith) (omega arith) few (omega (arith, sum)) fits.1 in
        let some : 1 ≤ sectors all = omega (arith, sum) in
        let last = ap (λ (p : Place). behind_all p entries) begun_is ∙ rest.last in
        let end : 512 * (sector + sectors all) ≡ 512 * block_end (in_block id sector all (1 + length entries)) = omega arith in
        let above : start + 1 ≡ entry.lsn + 1 = omega (arith, at) in record {
          laid = (
            lies_behind entry at,
            (
              subst (IsWithin shape) (sym begun_is)
                  (in_block_within shape id sector (16 + n) 1 all some_id (omega arith) (omega arith) (omega arith) (omega (arith, sum)) largest left),
              subst (λ (p : Place). LieInBlocks shape p entries) (sym begun_is) rest.laid,
            ),
          );
          next = subst (λ (p : Place). BeginsAt p id (512 * (sector + sectors all))) (sym last) (inl (refl, end));
          rise = rise_higher start (start + 512) (lsn_number id (512 * (sector + sectors all)) 0) (entry ∷ entries) (omega (arith, some))
              (omega (arith, at), subst (λ (l : ℕ). RiseWithin l (start + 512) entries) above rest.rise);
          fit = (subst (λ (l : ℕ). FitsAt l streams entry) (sym at) fits.0, rest.fit);
          whole = omega arith;
          within = omega (arith, left);
        }

-- the records of a block that begins at an offset of its container, after a place
pub block_laid : (shape : Shape) (streams id offset : ℕ) (place : Place) (entries : List LogEntry) (block : List ℕ) → IsShape shape → 1 ≤ id
    → offset % 512 ≡ 0 → offset ≤ 512 * shape.container_sectors → BeginsAt place id offset → HasRead shape streams (lsn_number id offset 0) entries block
    → AreLaid shape streams place (lsn_number id offset 0) id (offset + 512 * block_sectors block) entries
block_laid shape streams id offset place [] block good some_id whole near begins read = absurd (omega (arith, read.some))
block_laid shape streams id offset place (entry ∷ entries) block good some_id whole near begins read =
    let sector : ℕ = offset / 512 in
    let all : ℕ = 16 + taken_bytes (entry ∷ entries) in
    let at : 512 * sector ≡ offset = omega (arith, whole) in
    let left = left_here shape id offset whole (omega (arith, near, good.largest_container)) in
    let end : 512 * (sector + sectors all) ≡ offset + 512 * block_sectors block = omega (arith, whole, read.sectors_are) in
    let laid = begun_laid shape streams id sector all some_id (omega (arith, read.sectors_are, read.largest))
    (omega (arith, read.sectors_are, read.left, left, read.some_sectors)) place (omega (arith, at, near, good.largest_container))
    (subst (BeginsAt place id) (sym at) begins) entry entries (omega (arith, read.few)) refl
    (subst (λ (o : ℕ). FitFrom (lsn_number id o 0) streams (entry ∷ entries)) (sym at) read.fit) in
    subst (λ (n : ℕ). AreLaid shape streams place (lsn_number id offset 0) id n (entry ∷ entries)) end
    (subst (λ (o : ℕ). AreLaid shape streams place (lsn_number id o 0) id (512 * (sector + sectors all)) (entry ∷ entries)) at laid)
