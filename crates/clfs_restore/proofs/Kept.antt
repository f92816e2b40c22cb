-- What the files of a restored log's containers hold.
use Rattle.clfs_restore.proofs.Words.{inl, inr, ⊎_elim, ◌≡◌, ◌≢◌, ◌⊎◌, ℕ, ◌+◌, ◌-◌, ◌*◌, ◌<◌, ◌≤◌, List, [], ◌∷◌, ◌++◌, length, drop, get_or, Option, Some}
use Rattle.clfs_restore.proofs.Words.{None, Result, Ok, Err, refl, sym, ◌∙◌, ap, subst, append_assoc, arith, container_of, LogEntry, Shape, Files, AreWhole}
use Rattle.clfs_restore.proofs.Words.{total, stored_in, shape_of, LoadRefusal, Archive, below, HoldsKept, IsPiece, AreFilled}
use Rattle.std.proofs.Common.{append-nil}
use Rattle.std.specs.Option.{option_map_or}
use Rattle.std.proofs.Math.ListN.{get_or-append}
use Rattle.std.proofs.lemmas.List.{length-append}
use Rattle.clfs_lsn.specs.Size.{IsShape}
use Rattle.clfs_disk.specs.Files.{WrittenIn}
use Rattle.clfs_archive_form.specs.declared.archive.Stored.{Stored}
use Rattle.clfs_archive_form.specs.Containers.{blocks_in, part_of}
use Rattle.clfs_archive_form.specs.Kept.{StandIn, AreBlocksWith}
use Rattle.clfs_archive_form.specs.Restoring.{last_copy, blocks_at}
use Rattle.clfs_archive_form.specs.Written.{IsReadable}

one_value : (r : Result (List LogEntry) LoadRefusal) (a b : List LogEntry) → r ≡ Ok a → r ≡ Ok b → a ≡ b
one_value (Ok x) a b p q = (let first : x ≡ a = cc in let other : x ≡ b = cc in sym first ∙ other)
one_value (Err e) a b p q = absurd (cc p)

-- the blocks in the bytes of a container's last copy
pub blocks_there : (bytes : List ℕ) (archive : Archive) (id : ℕ)
    → blocks_in (option_map_or (λ (stored : Stored). part_of bytes stored.at stored.len) (last_copy archive.containers id) []) ≡ blocks_at bytes archive id
blocks_there bytes archive id = either (last_copy archive.containers id)
  where
    either : (o : Option Stored) → blocks_in (option_map_or (λ (stored : Stored). part_of bytes stored.at stored.len) o [])
        ≡ option_map_or (λ (stored : Stored). blocks_in (part_of bytes stored.at stored.len)) o []
    either None = refl
    either (Some stored) = refl

abbrev pub AreShort : Type 0
AreShort = (shape : Shape) (streams id : ℕ) (entries : List LogEntry) (bytes : List ℕ) (blocks : List (List ℕ)) → IsShape shape
    → StandIn shape streams id entries bytes blocks → (length bytes ≤ 512 * shape.container_sectors) × (total blocks ≡ length bytes)

abbrev pub AreOpenRows : Type 0
AreOpenRows = (shape : Shape) (streams id : ℕ) (entries : List LogEntry) (bytes more : List ℕ) (blocks : List (List ℕ)) → IsShape shape
    → StandIn shape streams id entries bytes blocks → (length bytes ≡ 512 * shape.container_sectors) ⊎ ((0 < length more) × (get_or more 0 0 ≢ 165))
    → AreWhole shape.container_sectors (bytes ++ more) blocks

module _ (are_short : AreShort) (are_open : AreOpenRows) (bytes : List ℕ) (archive : Archive) (up_to id : ℕ) (is_shape : IsShape (shape_of archive.image))
    (entries : List LogEntry)
    (read : stored_in (shape_of archive.image) (length archive.image.streams) id 0 (blocks_at bytes archive id) ≡ Ok entries) where
  -- blocks, and a gate where a sector is left
  pub piece_is : (kept gate : List ℕ) → AreBlocksWith (shape_of archive.image) (length archive.image.streams) id (below up_to entries) kept
      → (length kept ≡ 512 * archive.image.container_sectors) ⊎ ((0 < length gate) × (get_or gate 0 0 ≢ 165))
      → length kept + length gate ≤ 512 * archive.image.container_sectors → IsPiece bytes archive up_to id (kept ++ gate) (length kept)
  piece_is kept gate are ends room =
      let shape : Shape = shape_of archive.image in
      let streams : ℕ = length archive.image.streams in
      let short = are_short shape streams id (below up_to entries) kept are.0 is_shape are.1 in record {
        blocks = are.0;
        read = λ es is. subst (λ (l : List LogEntry). stored_in shape streams id 0 are.0 ≡ Ok (below up_to l))
            (one_value (stored_in shape streams id 0 (blocks_at bytes archive id)) entries es read is) are.1.read;
        exact = are.1.exact;
        whole = λ more. subst (λ (l : List ℕ). AreWhole shape.container_sectors l are.0) (sym (append_assoc kept gate more))
            (are_open shape streams id (below up_to entries) kept (gate ++ more) are.0 is_shape are.1 (behind more));
        ends = short.1;
        short = omega (arith, room, length-append kept gate);
      }
    where
      behind : (more : List ℕ) → (length kept ≡ 512 * archive.image.container_sectors) ⊎ ((0 < length (gate ++ more)) × (get_or (gate ++ more) 0 0 ≢ 165))
      behind more = ⊎_elim (λ (full : length kept ≡ 512 * archive.image.container_sectors). inl full)
          (λ (closed : (0 < length gate) × (get_or gate 0 0 ≢ 165)).
          inr (omega (arith, closed.0, length-append gate more), λ is. closed.1 (sym (get_or-append gate more 0 0 closed.0) ∙ is))) ends

  -- a container that is full of blocks
  pub piece_full : (kept piece : List ℕ) → piece ≡ kept → AreBlocksWith (shape_of archive.image) (length archive.image.streams) id (below up_to entries) kept
      → 512 * archive.image.container_sectors ≤ length piece → IsPiece bytes archive up_to id piece (length piece)
  piece_full kept piece is are full =
      let shape : Shape = shape_of archive.image in
      let short = are_short shape (length archive.image.streams) id (below up_to entries) kept are.0 is_shape are.1 in
      let long : length kept ≡ 512 * archive.image.container_sectors = omega (arith, short.0, full, ap length is) in
      let all : kept ++ [] ≡ piece = append-nil kept ∙ sym is in
      subst (λ (n : ℕ). IsPiece bytes archive up_to id piece n) (sym (ap length is))
      (subst (λ (l : List ℕ). IsPiece bytes archive up_to id l (length kept)) all (piece_is kept [] are (inl long) (omega (arith, long))))

  -- and one that isn't
  pub piece_open : (kept before piece : List ℕ) → before ≡ kept → piece ≡ before ++ 0 ∷ []
      → AreBlocksWith (shape_of archive.image) (length archive.image.streams) id (below up_to entries) kept
      → length before < 512 * archive.image.container_sectors → IsPiece bytes archive up_to id piece (length before)
  piece_open kept before piece is pushed are room =
      subst (λ (n : ℕ). IsPiece bytes archive up_to id piece n) (sym (ap length is))
      (subst (λ (l : List ℕ). IsPiece bytes archive up_to id l (length kept)) (ap (λ (l : List ℕ). l ++ 0 ∷ []) (sym is) ∙ sym pushed)
      (piece_is kept (0 ∷ []) are (inr (omega arith, λ same. absurd (omega (arith, same)))) (omega (arith, room, ap length is))))

-- what was put into an empty piece
pub piece_kept : (bytes : List ℕ) (archive : Archive) (up_to id : ℕ) (readable : IsReadable bytes archive id) (shape : Shape) (streams : ℕ) (blocks before out : List ℕ)
    → shape ≡ shape_of archive.image → streams ≡ length archive.image.streams
    → blocks ≡ option_map_or (λ (stored : Stored). part_of bytes stored.at stored.len) (last_copy archive.containers id) [] → before ≡ []
    → ((entries : List LogEntry) → stored_in shape streams id 0 (blocks_in blocks) ≡ Ok entries
    → (kept : List ℕ) × (out ≡ before ++ kept) × AreBlocksWith shape streams id (below up_to entries) kept)
    → AreBlocksWith (shape_of archive.image) (length archive.image.streams) id (below up_to readable.0) out
piece_kept bytes archive up_to id readable shape streams blocks before out shape_is streams_is blocks_are empty put =
    let there : blocks_in blocks ≡ blocks_at bytes archive id = ap blocks_in blocks_are ∙ blocks_there bytes archive id in
    let read : stored_in shape streams id 0 (blocks_in blocks) ≡ Ok readable.0 =
    ap (λ (s : Shape). stored_in s streams id 0 (blocks_in blocks)) shape_is ∙ ap (λ (n : ℕ). stored_in (shape_of archive.image) n id 0 (blocks_in blocks)) streams_is
    ∙ ap (stored_in (shape_of archive.image) (length archive.image.streams) id 0) there ∙ readable.1 in
    let kept = put readable.0 read in
    let all : out ≡ kept.0 = kept.1 ∙ ap (λ (l : List ℕ). l ++ kept.0) empty in
    subst (λ (l : List ℕ). AreBlocksWith (shape_of archive.image) (length archive.image.streams) id (below up_to readable.0) l) (sym all)
    (subst (λ (n : ℕ). AreBlocksWith (shape_of archive.image) n id (below up_to readable.0) kept.0) streams_is
    (subst (λ (s : Shape). AreBlocksWith s streams id (below up_to readable.0) kept.0) shape_is kept.2))

-- ---- files

-- a piece that was written
pub holds_written : (bytes : List ℕ) (archive : Archive) (up_to i end : ℕ) (piece : List ℕ) (old new : Files)
    → IsPiece bytes archive up_to (archive.image.first + i) piece end → WrittenIn (i + 1) 0 piece old new → HoldsKept bytes archive up_to new i end
holds_written bytes archive up_to i end piece old new is written =
    let number : 1 + i ≡ i + 1 = omega arith in record {
      blocks = is.blocks;
      read = is.read;
      exact = is.exact;
      whole = subst (λ (n : ℕ). AreWhole archive.image.container_sectors (new n) is.blocks) (sym number)
          (subst (λ (l : List ℕ). AreWhole archive.image.container_sectors l is.blocks) (sym written.here) (is.whole (drop (0 + length piece) (old (i + 1)))));
      ends = is.ends;
    }

-- a file that stays
pub holds_still : (bytes : List ℕ) (archive : Archive) (up_to i end : ℕ) (old new : Files) → new (1 + i) ≡ old (1 + i)
    → HoldsKept bytes archive up_to old i end → HoldsKept bytes archive up_to new i end
holds_still bytes archive up_to i end old new same holds = record {
  blocks = holds.blocks;
  read = holds.read;
  exact = holds.exact;
  whole = subst (λ (l : List ℕ). AreWhole archive.image.container_sectors l holds.blocks) (sym same) holds.whole;
  ends = holds.ends;
}

pub filled_still : (bytes : List ℕ) (archive : Archive) (up_to end : ℕ) (old new : Files) → ((file : ℕ) → 1 ≤ file → new file ≡ old file)
    → AreFilled bytes archive up_to old end → AreFilled bytes archive up_to new end
filled_still bytes archive up_to end old new same filled = record {
  fronts = λ i within.
      let holds = filled.fronts i within in (holds.0, holds_still bytes archive up_to i holds.0 old new (same (1 + i) (omega arith)) holds.1);
  last = holds_still bytes archive up_to (container_of up_to - archive.image.first) end old new (same (1 + (container_of up_to - archive.image.first)) (omega arith)) filled.last;
}
