-- Blocks that stand one after the other are open blocks.
use Rattle.clfs_archive_form.proofs.Words.{inl, inr, ⊎_elim, ◌≡◌, ◌≢◌, ◌⊎◌, ℕ, ◌+◌, ◌-◌, ◌*◌, ◌/◌, ◌%◌, ◌<◌, ◌≤◌, List, [], ◌∷◌, ◌++◌, length, take, drop}
use Rattle.clfs_archive_form.proofs.Words.{get_or, Ok, refl, sym, ◌∙◌, ap, subst, append_assoc, arith, get_or-append, take-append_seam, drop-append_seam}
use Rattle.clfs_archive_form.proofs.Words.{length-append, lsn_number, IsShape, LogEntry, Shape, block_sectors, Opens, EndsCleanly, AreWhole, total}
use Rattle.clfs_archive_form.proofs.Words.{AreReadAsWritten, ◌>>=◌, told_as, block_records, stored_in, damage_at, in_a_row, AreExact, StandIn}
use Rattle.clfs_archive_form.proofs.CutBlocks.{row_len}
use Rattle.clfs_archive_form.proofs.ReadRecords.{ReadsFit, has_read, bound, told_value}

module _ (written : AreReadAsWritten) (fits : ReadsFit) (shape : Shape) (is_shape : IsShape shape) (streams id : ℕ) where
  -- the blocks open what stands there
  opens : (offset : ℕ) (blocks : List (List ℕ)) (entries : List LogEntry) (more : List ℕ) → offset % 512 ≡ 0 → offset ≤ 512 * shape.container_sectors
      → AreExact blocks → stored_in shape streams id offset blocks ≡ Ok entries
      → (rest : ℕ) × Opens (shape.container_sectors - offset / 512) (in_a_row blocks ++ more) blocks rest × (offset + total blocks + 512 * rest ≡ 512 * shape.container_sectors)
  opens offset [] entries more whole within exact is = (shape.container_sectors - offset / 512, refl, omega (arith, whole, within))
  opens offset (block ∷ blocks) entries more whole within exact is =
      let first = bound (told_as (damage_at id offset) (block_records shape streams (lsn_number id offset 0) block))
      (λ (es : List LogEntry). stored_in shape streams id (offset + length block) blocks >>= λ (others : List LogEntry). Ok (es ++ others)) entries is in
      let next = bound (stored_in shape streams id (offset + length block) blocks) (λ (others : List LogEntry). Ok (first.first ++ others)) entries first.then in
      let has = has_read written fits shape is_shape.largest_block streams (lsn_number id offset 0) first.first block
      (told_value (damage_at id offset) (block_records shape streams (lsn_number id offset 0) block) first.first first.is) in
      let bytes : List ℕ = (block ++ in_a_row blocks) ++ more in
      let others : List ℕ = in_a_row blocks ++ more in
      let all : bytes ≡ block ++ others = append_assoc block (in_a_row blocks) more in
      let n : ℕ = block_sectors block in
      let len : length block ≡ 512 * n = exact.0 in
      let long : length bytes ≡ length block + length others = ap length all ∙ length-append block others in
      let byte : (k : ℕ) → k < length block → get_or bytes k 0 ≡ get_or block k 0 =
      (λ k lt. ap (λ (l : List ℕ). get_or l k 0) all ∙ get_or-append block others 0 k lt) in
      let said : block_sectors bytes ≡ n = omega (arith, byte 2 (omega (arith, len, has.some_sectors)), byte 3 (omega (arith, len, has.some_sectors))) in
      let left : n ≤ shape.container_sectors - offset / 512 = omega (arith, has.left, whole, within, is_shape.largest_container) in
      let size : 512 * block_sectors bytes ≡ length block = omega (arith, said, len) in
      let rest = opens (offset + length block) blocks next.first more (omega (arith, whole, len)) (omega (arith, len, left, whole, within)) exact.1 next.is in
      let fewer : shape.container_sectors - (offset + length block) / 512 ≡ shape.container_sectors - offset / 512 - block_sectors bytes = omega (arith, said, len, whole) in
      let behind : drop (512 * block_sectors bytes) bytes ≡ others = ap (λ (k : ℕ). drop k bytes) size ∙ ap (drop (length block)) all ∙ drop-append_seam block others in (
        rest.0,
        (
          record {
            gate = byte 0 (omega (arith, len, has.some_sectors)) ∙ has.gate;
            some = omega (arith, said, has.some_sectors);
            fits = omega (arith, said, left);
            whole = omega (arith, size, long);
            is = sym (ap (λ (k : ℕ). take k bytes) size ∙ ap (take (length block)) all ∙ take-append_seam block others);
          },
          subst (λ (l : List ℕ). Opens (shape.container_sectors - offset / 512 - block_sectors bytes) l blocks rest.0) (sym behind)
              (subst (λ (k : ℕ). Opens k others blocks rest.0) fewer rest.1),
        ),
        omega (arith, rest.2),
      )

  module _ (entries : List LogEntry) (bytes : List ℕ) (blocks : List (List ℕ)) (stand : StandIn shape streams id entries bytes blocks) where
    size : length bytes ≡ total blocks
    size = ap length stand.is ∙ row_len blocks

    pub row_short : (length bytes ≤ 512 * shape.container_sectors) × (total blocks ≡ length bytes)
    row_short = let found = opens 0 blocks entries [] refl (omega arith) stand.exact stand.read in (omega (arith, size, found.2), sym size)

    pub row_open : (more : List ℕ) → (length bytes ≡ 512 * shape.container_sectors) ⊎ ((0 < length more) × (get_or more 0 0 ≢ 165))
        → AreWhole shape.container_sectors (bytes ++ more) blocks
    row_open more ends =
        let found = opens 0 blocks entries more refl (omega arith) stand.exact stand.read in
        let all : in_a_row blocks ++ more ≡ bytes ++ more = ap (λ (l : List ℕ). l ++ more) (sym stand.is) in
        let first : shape.container_sectors - 0 / 512 ≡ shape.container_sectors = omega arith in
        let behind : drop (total blocks) (bytes ++ more) ≡ more = ap (λ (k : ℕ). drop k (bytes ++ more)) (sym size) ∙ drop-append_seam bytes more in (
          found.0,
          subst (λ (l : List ℕ). Opens shape.container_sectors l blocks found.0) all
              (subst (λ (k : ℕ). Opens k (in_a_row blocks ++ more) blocks found.0) first found.1),
          subst (λ (l : List ℕ). EndsCleanly found.0 l) (sym behind) (⊎_elim
              (λ (full : length bytes ≡ 512 * shape.container_sectors). inl (omega (arith, full, size, found.2)))
              (λ (closed : (0 < length more) × (get_or more 0 0 ≢ 165)). inr closed) ends),
        )
