use Rattle.clfs_recover.proofs.Words.{inl, inr, ◌≡◌, ℕ, List, [], length, map, Some, None, vec_len, sym, ◌∙◌, ap, subst, arith, err_from_is_err_and, frontier}
use Rattle.clfs_recover.proofs.Words.{Place, TellsContents, Row, shape_of, listed_records, image_fault, AreListed, RefusesAs, TellsBlock}
use Rattle.clfs_recover.proofs.Raising.{first_bases, length-bases_with}
use Rattle.clfs_recover.proofs.Finding.{walk_refused}
use Rattle.clfs_recover.proofs.OpenedLogs.{taken_by_image, is_fault, fits_records}
use Rattle.clfs_recover.proofs.opening.walk_image.Goals as goal

abbrev bases_of : List Row → List ℕ
bases_of rows = map (λ (row : Row). row.base) rows

pub returns-in_err-end-clause-refused : goal.returns-in_err-end-clause-refused
returns-in_err-end-clause-refused g c tells has listed are =
    let p = err_from_is_err_and c.from_residual-in_err-end.result c.from_residual-in_err-end.ensures.1 in
    let image = c.args.image in
    let rows = image.streams in
    let moved = c.in_ok-bases.ensures ∙ ap (λ (l : List Row). bases_of l) c.as_slice.ensures ∙ first_bases rows in
    let streams : vec_len c.in_ok-bases.bases ≡ length rows = omega (arith, ap length moved, length-bases_with rows []) in
    let are_there = subst (λ (l : List ℕ). AreListed image.container_sectors (g.D.Disk.state c.args.disk.now).files l listed) (sym c.as_slice-files.ensures) are in
    rw (p.1, p.2) (walk_refused c.args.slot image listed c.in_err-end.field-0.0
    (subst (λ (n : ℕ). RefusesAs c.in_err-end.field-0.0 (listed_records (shape_of image) n image.first listed)) streams
    (c.in_err-end.ensures.refused tells rows [] listed (record { records = has; moved = moved }) are_there)))

pub returns-in-Some-clause-refused : goal.returns-in-Some-clause-refused
returns-in-Some-clause-refused g c tells has listed are =
    let disk = g.D.Disk.state c.args.disk.now in
    let image = c.args.image in
    let moved = c.in_ok-bases.ensures ∙ ap (λ (l : List Row). bases_of l) c.as_slice.ensures ∙ first_bases image.streams in
    let streams : vec_len c.in_ok-bases.bases ≡ length image.streams = omega (arith, ap length moved, length-bases_with image.streams []) in
    let taken = taken_by_image (g.G.Gatherer.has c.gather_listed.new.gatherer) (TellsContents disk) disk.files c.args.slot image
    c.gather_listed.new.bases.items c.in_ok-end.end (vec_len c.in_ok-bases.bases) c.as_slice-files.result.now streams c.as_slice-files.ensures
    (c.in_ok-end.ensures.taken image.streams [] (record { records = has; moved = moved })) in
    let wrong : image_fault image (frontier c.place_behind-place.result) ≡ Some c.in-Some.at =
    sym (ap (image_fault image) c.frontier.ensures) ∙ sym c.wrong_image.ensures ∙ c.in-Some.is in
    rw c.damaged_slot.ensures (is_fault (g.G.Gatherer.has c.gather_listed.new.gatherer) (TellsContents disk) disk.files c.args.slot image
    c.open_blocks_are_one_list.ensures.one c.open_blocks_are_one_list.ensures.whole tells c.gather_listed.new.bases.items c.place_behind-place.result
    c.in_ok-end.end taken c.place_behind-place.ensures c.in-Some.at wrong listed are)

pub returns-clause-log : goal.returns-clause-log
returns-clause-log g c has =
    let disk = g.D.Disk.state c.args.disk.now in
    let image = c.args.image in
    let moved = c.in_ok-bases.ensures ∙ ap (λ (l : List Row). bases_of l) c.as_slice.ensures ∙ first_bases image.streams in
    let streams : vec_len c.in_ok-bases.bases ≡ length image.streams = omega (arith, ap length moved, length-bases_with image.streams []) in
    let taken = taken_by_image (g.G.Gatherer.has c.gather_listed.new.gatherer) (TellsContents disk) disk.files c.args.slot image
    c.gather_listed.new.bases.items c.in_ok-end.end (vec_len c.in_ok-bases.bases) c.as_slice-files.result.now streams c.as_slice-files.ensures
    (c.in_ok-end.ensures.taken image.streams [] (record { records = has; moved = moved })) in
    let right : image_fault image (frontier c.place_behind-place.result) ≡ None =
    sym (ap (image_fault image) c.frontier.ensures) ∙ sym c.wrong_image.ensures ∙ c.in_default.is in
    fits_records (g.G.Gatherer.has c.gather_listed.new.gatherer) (TellsContents disk) disk.files c.args.slot image c.requires.slot c.requires.image
    c.from_vec.result c.gather_listed.new.bases.items c.place_behind-place.result c.in_ok-end.end taken c.from_vec.ensures c.place_behind-place.ensures right

pub returns-in_err-end-clause-told : goal.returns-in_err-end-clause-told
returns-in_err-end-clause-told g c has =
    let p = err_from_is_err_and c.from_residual-in_err-end.result c.from_residual-in_err-end.ensures.1 in
    let image = c.args.image in
    let rows = image.streams in
    let moved = c.in_ok-bases.ensures ∙ ap (λ (l : List Row). bases_of l) c.as_slice.ensures ∙ first_bases rows in
    let streams : vec_len c.in_ok-bases.bases ≡ length rows = omega (arith, ap length moved, length-bases_with rows []) in
    rw (p.1, p.2) (inl (subst (λ (n : ℕ). TellsBlock (shape_of image) n image.first (length image.files) c.in_err-end.field-0.0) streams
    (subst (λ (l : List ℕ). TellsBlock (shape_of image) (vec_len c.in_ok-bases.bases) image.first (length l) c.in_err-end.field-0.0) c.as_slice-files.ensures
    (c.in_err-end.ensures.told rows [] (record { records = has; moved = moved })))))

pub returns-in-Some-clause-told : goal.returns-in-Some-clause-told
returns-in-Some-clause-told g c has =
    let image = c.args.image in
    let wrong : image_fault image (frontier c.place_behind-place.result) ≡ Some c.in-Some.at =
    sym (ap (image_fault image) c.frontier.ensures) ∙ sym c.wrong_image.ensures ∙ c.in-Some.is in
    inr (record {
      place = c.place_behind-place.result;
      last = let e = ap (λ (p : Place). p.container) c.place_behind-place.ensures in omega (arith, e, c.requires.image.some_listed);
      at = c.in-Some.at;
      wrong = wrong;
      told = c.damaged_slot.ensures;
    })
