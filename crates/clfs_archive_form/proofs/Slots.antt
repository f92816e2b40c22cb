-- The base copy of an archive, from what was decided of its slot.
use Rattle.clfs_archive_form.proofs.Words.{⊎_elim, ◌≡◌, ℕ, ◌+◌, ◌-◌, ◌*◌, ◌%◌, ◌<◌, ◌≤◌, Bool, true, false, cond, ltb, List, length, take, drop, Option, None}
use Rattle.clfs_archive_form.proofs.Words.{Result, Ok, refl, sym, ◌∙◌, ap, subst, arith, get_or-take, get_or-drop, length-take, length-drop, lt-ltb, le-ltb}
use Rattle.clfs_archive_form.proofs.Words.{cases_lt, Demands, BaseImage, image_of, fault_within, Meets, layout_in, number_at, AreBytes, told_as, copy_there}
use Rattle.clfs_archive_form.proofs.Words.{Suits, first_listed, with_tail, slot_in}
use Rattle.std.proofs.Math.ListN.{get_or-eq_default}
use Rattle.clfs_lsn.specs.Checks.{unless_wrong}
use Rattle.clfs_base.specs.Checks.{is_short}
use Rattle.clfs_archive_form.specs.Copies.{count_in, field_width, row_width, width_at, copy_told, copy_judged}

module _ (bytes : List ℕ) (at wrong : ℕ) (slot : List ℕ) (width : ℕ) (here : slot ≡ slot_in bytes at) (wide : width ≡ width_at slot wrong) where
  test : (b : Bool) → is_short slot wrong width ≡ b → is_short (slot_in bytes at) wrong (width_at (slot_in bytes at) wrong) ≡ b
  test b is = subst (λ (l : List ℕ). is_short l wrong (width_at l wrong) ≡ b) here (subst (λ (n : ℕ). is_short slot wrong n ≡ b) wide is)

  -- what is cut short is told at the end
  pub told_at_end : length slot < wrong + width → length bytes ≡ copy_told bytes at wrong
  told_at_end short = sym (ap (λ (b : Bool). cond b (length bytes) (at + 7 + wrong)) (test true (lt-ltb (length slot) (wrong + width) short)))

  -- and else at its own byte
  pub told_there : wrong + width ≤ length slot → at + 7 + wrong ≡ copy_told bytes at wrong
  told_there long = sym (ap (λ (b : Bool). cond b (length bytes) (at + 7 + wrong)) (test false (le-ltb (length slot) (wrong + width) long)))

image_right : BaseImage → Result BaseImage ℕ
image_right image = Ok image

-- a copy in which nothing is wrong
pub copy_right : (asked demands : Demands) (bytes : List ℕ) (at : ℕ) (slot : List ℕ) (image : BaseImage) → slot ≡ slot_in bytes at
    → demands ≡ with_tail slot asked → fault_within demands (layout_in slot) slot ≡ None → image ≡ image_of (layout_in slot) slot
    → copy_there asked bytes at ≡ Ok image
unfolding copy_there image_right
copy_right asked demands bytes at slot image here asks none is =
    let judged : copy_judged asked slot ≡ Ok image =
    ap (λ (d : Demands). unless_wrong (λ at. at) (fault_within d (layout_in slot) slot) (image_right (image_of (layout_in slot) slot))) (sym asks)
    ∙ ap (λ (f : Option ℕ). unless_wrong (λ at. at) f (image_right (image_of (layout_in slot) slot))) none ∙ ap image_right (sym is) in
    ap (told_as (copy_told bytes at)) (subst (λ (l : List ℕ). copy_judged asked l ≡ Ok image) here judged)

module _ (slot : List ℕ) (at : ℕ) (behind : 64 ≤ at) where
  of_tests : (a b c d : Bool) (n : ℕ) → ltb at 64 ≡ a → ltb at (64 + 2 * count_in slot 20) ≡ b → ltb at 576 ≡ c → ltb at (576 + 80 * count_in slot 22) ≡ d
      → cond a (field_width slot at) (cond b 2 (cond c 1 (cond d (row_width slot at ((at - 576) % 80)) 1))) ≡ n → width_at slot at ≡ n
  of_tests a b c d n p q r s is =
      ap (λ (a : Bool). cond a (field_width slot at) (cond (ltb at (64 + 2 * count_in slot 20)) 2 (cond (ltb at 576) 1
      (cond (ltb at (576 + 80 * count_in slot 22)) (row_width slot at ((at - 576) % 80)) 1)))) p
      ∙ ap (λ (b : Bool). cond a (field_width slot at) (cond b 2 (cond (ltb at 576) 1 (cond (ltb at (576 + 80 * count_in slot 22)) (row_width slot at ((at - 576) % 80)) 1)))) q
      ∙ ap (λ (c : Bool). cond a (field_width slot at) (cond b 2 (cond c 1 (cond (ltb at (576 + 80 * count_in slot 22)) (row_width slot at ((at - 576) % 80)) 1)))) r
      ∙ ap (λ (d : Bool). cond a (field_width slot at) (cond b 2 (cond c 1 (cond d (row_width slot at ((at - 576) % 80)) 1)))) s ∙ is

  -- the number of a file has two bytes
  pub of_file : at < 64 + 2 * count_in slot 20 → width_at slot at ≡ 2
  of_file lt =
      of_tests false true (ltb at 576) (ltb at (576 + 80 * count_in slot 22)) 2 (le-ltb at 64 behind) (lt-ltb at (64 + 2 * count_in slot 20) lt) refl refl refl

  module _ (past : 64 + 2 * count_in slot 20 ≤ at) (rows : 576 ≤ at) where
    -- in a row it hangs on the byte of the row
    pub of_row : at < 576 + 80 * count_in slot 22 → width_at slot at ≡ row_width slot at ((at - 576) % 80)
    of_row lt =
        of_tests false false false true (row_width slot at ((at - 576) % 80)) (le-ltb at 64 behind) (le-ltb at (64 + 2 * count_in slot 20) past) (le-ltb at 576 rows)
        (lt-ltb at (576 + 80 * count_in slot 22) lt) refl

    -- and after the rows each byte stands alone
    pub of_end : 576 + 80 * count_in slot 22 ≤ at → width_at slot at ≡ 1
    of_end le =
        of_tests false false false false 1 (le-ltb at 64 behind) (le-ltb at (64 + 2 * count_in slot 20) past) (le-ltb at 576 rows)
        (le-ltb at (576 + 80 * count_in slot 22) le) refl

-- a part of bytes is bytes
pub part_of_bytes : (bytes : List ℕ) (from len : ℕ) → AreBytes bytes → AreBytes (take len (drop from bytes))
part_of_bytes bytes from len are i = ⊎_elim
    (λ (lt : i < len). let e = get_or-take len (drop from bytes) i 0 lt ∙ get_or-drop from bytes i 0 in omega (arith, e, are (from + i)))
    (λ (le : len ≤ i).
    let short : length (take len (drop from bytes)) ≤ i = omega (arith, le, length-take len (drop from bytes)) in
    omega (arith, get_or-eq_default (take len (drop from bytes)) 0 short))
    (cases_lt i len)

-- a slot whose body has all its bytes is there whole
pub whole_slot : (bytes : List ℕ) (at : ℕ) (slot body : List ℕ) → slot ≡ slot_in bytes at → take 16383 (drop 1 slot) ≡ body → length body ≡ 16383
    → at + 16391 ≤ length bytes
whole_slot bytes at slot body here is all =
    let of_body : length (take 16383 (drop 1 slot)) ≡ 16383 = ap length is ∙ all in
    let of_slot : length slot ≡ length (take 16384 (drop (at + 7) bytes)) = ap length here in
    omega (arith, of_body, of_slot, length-take 16383 (drop 1 slot), length-drop 1 slot, length-take 16384 (drop (at + 7) bytes), length-drop (at + 7) bytes)

-- a copy that is as asked has no tail below its first listed container
pub suits : (demands : Demands) (slot body : List ℕ) (image : BaseImage) → image ≡ image_of (layout_in slot) slot → take 16383 (drop 1 slot) ≡ body
    → length body ≡ 16383 → Meets (with_tail slot demands) image → Suits demands image
suits demands slot body image is there all meets =
    let of_body : length (take 16383 (drop 1 slot)) ≡ 16383 = ap length there ∙ all in
    let long : 20 ≤ length slot = omega (arith, of_body, length-take 16383 (drop 1 slot), length-drop 1 slot) in
    let first : first_listed slot ≡ image.first =
    ap (λ (b : Bool). cond b 0 (number_at 16 4 slot)) (le-ltb (length slot) 20 long) ∙ sym (ap (λ (x : BaseImage). x.first) is) in record {
      block_sectors = meets.block_sectors;
      container_sectors = meets.container_sectors;
      streams = meets.streams;
      tail = omega (arith, first, meets.tail.0);
    }
