-- Images and the bytes that spell them.
use Rattle.clfs_base.proofs.Words.{◌≡◌, ℕ, ◌+◌, ◌^◌, ◌<◌, ◌≤◌, Bool, true, false, eqb, cond, List, [], ◌∷◌, ◌++◌, length, get_or, take, drop, None, Result}
use Rattle.clfs_base.proofs.Words.{Ok, Err, refl, sym, ◌∙◌, ap, subst, arith, length-drop, take-append-drop, take_at, drop_more, length-take, BaseImage}
use Rattle.clfs_base.proofs.Words.{BaseRefusal, version_one, version_two, layout_of, layout_in, most_dedicated, IsImage, row_in, flag, spelled, IsShape}
use Rattle.clfs_base.proofs.Words.{unless_ok, slot_fault, image_of, image_at, Gives}
use Rattle.std.proofs.Common.{IfOk}
use Rattle.clfs_base.specs.declared.refusal.BaseRefusal.TheVariants as refusals
use Rattle.clfs_base.specs.Spelling.{FitsOne, current}
use Rattle.clfs_base.proofs.Spelled.{length-spelled}
use Rattle.clfs_base.proofs.Taken.{IsBytes, HaveSmallBases, limits_hold, image_may_be, read_is_spelled}
use Rattle.clfs_base.proofs.Copies.{layout_fits, written}

pub found : (bytes : List ℕ) → IsBytes bytes → slot_fault (layout_in bytes) bytes ≡ None
    → IsImage (image_of (layout_in bytes) bytes) × (take 16383 (drop 1 bytes) ≡ spelled (image_of (layout_in bytes) bytes))
found bytes fits none =
    let layout = layout_in bytes in
    let image = image_of layout bytes in
    let s = read_is_spelled layout bytes (layout_fits image.version) fits none in (
      s.image,
      ap (λ (l : List ℕ). take 16383 l) s.spelled_is
          ∙ take_at (spelled image) (drop 16384 bytes) 16383 (length-spelled layout image (layout_fits image.version) s.image),
    )

-- what was read of bytes
pub image_is : (bytes : List ℕ) (image : BaseImage) → image_at bytes ≡ Ok image
    → (slot_fault (layout_in bytes) bytes ≡ None) × (image_of (layout_in bytes) bytes ≡ image)
image_is bytes image is =
    let layout = layout_in bytes in
    let parts = unless_ok (λ (at : ℕ). at) (slot_fault layout bytes) (Ok (image_of layout bytes)) image is in (parts.0, cc parts.1)

pub read : (bytes : List ℕ) (image : BaseImage) → IsBytes bytes → image_at bytes ≡ Ok image
    → IsImage image × (take 16383 (drop 1 bytes) ≡ spelled image)
read bytes image fits is =
    let here = image_is bytes image is in
    subst (λ (i : BaseImage). IsImage i × (take 16383 (drop 1 bytes) ≡ spelled i)) here.1 (found bytes fits here.0)

-- bytes that spell an image are read as it
pub spelled_read : (bytes : List ℕ) (image : BaseImage) → IsImage image → take 16383 (drop 1 bytes) ≡ spelled image → image_at bytes ≡ Ok image
spelled_read bytes image fits is =
    let rest : List ℕ = drop 16383 (drop 1 bytes) in
    let size : length (take 16383 (drop 1 bytes)) ≡ 16383 =
    ap (λ (l : List ℕ). length l) is ∙ length-spelled (layout_of image.version) image (layout_fits image.version) fits in
    let there : 0 < length bytes = omega (arith, size, length-take 16383 (drop 1 bytes), length-drop 1 bytes) in
    written image (get_or bytes 0 0) rest bytes fits
    (drop_more bytes 0 0 there ∙ ap (λ (l : List ℕ). get_or bytes 0 0 ∷ l)
    (sym (take-append-drop 16383 (drop 1 bytes)) ∙ ap (λ (l : List ℕ). l ++ rest) is))

-- what is read has a shape that there is, and ids that fit four bytes
pub read_limits : (bytes : List ℕ) (image : BaseImage) → image_at bytes ≡ Ok image
    → IsShape (record { block_sectors = image.block_sectors; container_sectors = image.container_sectors }) × (image.first + length image.files ≤ 2 ^ 32)
read_limits bytes image is =
    let here = image_is bytes image is in
    subst (λ (i : BaseImage). IsShape (record { block_sectors = i.block_sectors; container_sectors = i.container_sectors })
    × (i.first + length i.files ≤ 2 ^ 32)) here.1 (limits_hold (layout_in bytes) bytes here.0)

-- and is one that there may be, where its bases are numbers of eight bytes
pub read_may_be : (bytes : List ℕ) (image : BaseImage) → HaveSmallBases image.streams → image_at bytes ≡ Ok image → IsImage image
read_may_be bytes image small is =
    let here = image_is bytes image is in
    subst (λ (i : BaseImage). IsImage i) here.1
    (image_may_be (layout_in bytes) bytes here.0 (subst (λ (i : BaseImage). HaveSmallBases i.streams) (sym here.1) small))

abbrev answered : BaseImage → Result BaseImage ℕ
answered image = Ok image

ok_is : (a b : BaseImage) → answered a ≡ answered b → a ≡ b
ok_is a b e = cc e

pub one_image : (a b : BaseImage) → IsImage a → IsImage b → spelled a ≡ spelled b → a ≡ b
one_image a b fits_a fits_b same =
    let bytes : List ℕ = 0 ∷ (spelled a ++ []) in
    let first = written a 0 [] bytes fits_a refl in
    let second = written b 0 [] bytes fits_b (ap (λ (l : List ℕ). 0 ∷ (l ++ [])) same) in
    ok_is a b (sym first ∙ second)

pub if_found : (r : Result BaseImage BaseRefusal) (bytes : List ℕ) → IsBytes bytes
    → Gives r (slot_fault (layout_in bytes) bytes) (image_of (layout_in bytes) bytes)
    → IfOk r (λ image. IsImage image × (take 16383 (drop 1 bytes) ≡ spelled image))
if_found (Ok image) bytes fits gives =
    subst (λ (i : BaseImage). IsImage i × (take 16383 (drop 1 bytes) ≡ spelled i)) (sym gives.1) (found bytes fits gives.0)
if_found (Err e) bytes fits gives = tt

pub if_written : (r : Result BaseImage BaseRefusal) (bytes : List ℕ) (image : BaseImage)
    → Gives r (slot_fault (layout_in bytes) bytes) (image_of (layout_in bytes) bytes) → image_at bytes ≡ Ok image → Gives r None image
if_written (Ok x) bytes image gives is = (refl, gives.1 ∙ (image_is bytes image is).1)
if_written (Err refusals.NoMemory) bytes image gives is = tt
if_written (Err (refusals.BadByte at)) bytes image gives is = sym (image_is bytes image is).0 ∙ gives

-- ---- the versions

-- the second version has room for what the first one has
few_more : (b : Bool) (count : ℕ) → count ≤ (cond b version_one version_two).most_streams → count ≤ version_two.most_streams
few_more true count le = omega (arith, le)
few_more false count le = le

long_more : (b : Bool) (len : ℕ) → len ≤ (cond b version_one version_two).longest_name → len ≤ version_two.longest_name
long_more true len le = omega (arith, le)
long_more false len le = le

dedicated_more : (b : Bool) (number streams : ℕ) → number ≤ most_dedicated (cond b version_one version_two) streams
    → number ≤ most_dedicated version_two streams
dedicated_more true number streams le = omega (arith, le)
dedicated_more false number streams le = le

pub may_be_current : (image : BaseImage) → IsImage image → IsImage (current image)
may_be_current image i =
    let first = eqb image.version 1 in
    record {
      version = refl;
      turn = i.turn;
      shape = i.shape;
      some_containers = i.some_containers;
      containers_made = i.containers_made;
      few_made = i.few_made;
      first = i.first;
      some_listed = i.some_listed;
      few_listed = i.few_listed;
      last_id = i.last_id;
      maximum = i.maximum;
      minimum = i.minimum;
      growth = i.growth;
      tail = i.tail;
      dedicated = dedicated_more first (flag image.dedicated) (length image.streams) i.dedicated;
      files = i.files;
      few_streams = few_more first (length image.streams) i.few_streams;
      rows = record {
        named = λ k lt.
            let name = i.rows.named k lt in
            record { some = name.some; few = long_more first (length (row_in image.streams k).name) name.few; bytes = name.bytes };
        different = i.rows.different;
        bases = i.rows.bases;
      };
    }

no_flag : (on : Bool) → flag on ≤ 0 → on ≡ false
no_flag true le = absurd (omega (arith, le))
no_flag false le = refl

flag_none : (on : Bool) → on ≡ false → flag on ≤ 0
flag_none on is = subst (λ (b : Bool). flag b ≤ 0) (sym is) (omega arith)

pub fits_one : (image : BaseImage) → IsImage (record image { version = 1 }) → FitsOne image
fits_one image i = record {
  dedicated = no_flag image.dedicated i.dedicated;
  few_streams = i.few_streams;
  names = λ k lt. (i.rows.named k lt).few;
}

pub may_be_one : (image : BaseImage) → IsImage image → FitsOne image → IsImage (record image { version = 1 })
may_be_one image i f = record {
  version = refl;
  turn = i.turn;
  shape = i.shape;
  some_containers = i.some_containers;
  containers_made = i.containers_made;
  few_made = i.few_made;
  first = i.first;
  some_listed = i.some_listed;
  few_listed = i.few_listed;
  last_id = i.last_id;
  maximum = i.maximum;
  minimum = i.minimum;
  growth = i.growth;
  tail = i.tail;
  dedicated = flag_none image.dedicated f.dedicated;
  files = i.files;
  few_streams = f.few_streams;
  rows = record {
    named = λ k lt. let name = i.rows.named k lt in record { some = name.some; few = f.names k lt; bytes = name.bytes };
    different = i.rows.different;
    bases = i.rows.bases;
  };
}
