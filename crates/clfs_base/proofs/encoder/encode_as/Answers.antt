use Rattle.clfs_base.proofs.Words.{◌≡◌, ◌*◌, ◌≤◌, ℕ, List, ◌++◌, length, sym, ap, refl, ◌∙◌, arith, length-take-le, flat_map, Numbers, BaseImage, Row, fields}
use Rattle.clfs_base.proofs.Words.{numbers_for, filled, field_bytes, number_bytes, spelled_row}
use Rattle.clfs_base.proofs.Filling.{parts_joined, length-filled, length-all_pieces}
use Rattle.clfs_base.proofs.encoder.encode_as.Goals as goal

pub slice_bounds-put_fields-end-2 : goal.slice_bounds-put_fields-end-2
slice_bounds-put_fields-end-2 c = sym (length-take-le 63 c.args.out.now (omega (arith, c.requires.length)))

pub put_fields-requires : goal.put_fields-requires
put_fields-requires c = length-take-le 63 c.args.out.now (omega (arith, c.requires.length))

pub returns : goal.returns
returns c =
    let layout = c.args.layout.now in
    let image : BaseImage = record c.args.image.now { version = layout.version } in
    let fits = c.requires.image in
    let front : c.put_fields.new.out ≡ filled 63 (flat_map field_bytes (fields layout (numbers_for image))) =
    c.put_fields.ensures ∙ ap (λ (n : Numbers). filled 63 (flat_map field_bytes (fields layout n))) c.numbers_for.ensures in
    let middle : c.put_files.new.out ≡ filled 512 (flat_map number_bytes image.files) =
    c.put_files.ensures ∙ ap (λ (l : List ℕ). filled 512 (flat_map number_bytes l)) c.as_slice.ensures in
    let back : c.put_rows.new.out ≡ filled 15808 (flat_map (spelled_row layout.longest_name) image.streams) =
    c.put_rows.ensures ∙ ap (λ (l : List Row). filled 15808 (flat_map (spelled_row layout.longest_name) l)) c.as_slice-2.ensures in
    let few : 2 * length image.files ≤ 512 = omega (arith, fits.few_listed, fits.containers_made, fits.few_made) in
    let size : length (flat_map number_bytes image.files) ≤ 512 =
    omega (arith, few, length-all_pieces number_bytes 2 0 image.files (λ k lt. refl)) in
    parts_joined c.put_fields.new.out c.put_files.new.out c.put_rows.new.out c.args.out.now
    (ap (λ (l : List ℕ). length l) front)
    (ap (λ (l : List ℕ). length l) middle ∙ length-filled 512 (flat_map number_bytes image.files) size)
    ∙ ap (λ (l : List ℕ). l ++ (c.put_files.new.out ++ c.put_rows.new.out)) front
    ∙ ap (λ (l : List ℕ). filled 63 (flat_map field_bytes (fields layout (numbers_for image))) ++ (l ++ c.put_rows.new.out)) middle
    ∙ ap (λ (l : List ℕ). filled 63 (flat_map field_bytes (fields layout (numbers_for image))) ++ (filled 512 (flat_map number_bytes image.files) ++ l)) back
