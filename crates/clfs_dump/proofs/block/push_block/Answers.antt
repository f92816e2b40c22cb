use Rattle.clfs_dump.proofs.Words.{◌≡◌, ℕ, ◌+◌, List, length, Ok, Err, sym, ap, ◌∙◌, subst, arith, lsn_number, frame_at, records_from, LoadRefusal, Told}
use Rattle.std.specs.Prelude.{Result, Option}
use Rattle.clfs_dump.proofs.BlockTold.{none_wrong, one_wrong, told_refused, found_wrong, found_rest, found_whole}
use Rattle.clfs_dump.proofs.block.push_block.Goals as goal

abbrev refused : LoadRefusal → Result (Option ℕ) LoadRefusal
refused refusal = Err refusal

pub returns-in-Err-clause-found : goal.returns-in-Err-clause-found
returns-in-Err-clause-found c =
    let start = lsn_number c.args.place.now.container c.args.place.now.offset 0 in
    let zero : start + 0 ≡ start = omega arith in
    c.end_of.ensures 0
    ∙ sym (ap (λ (t : Told (Option ℕ)). t.found)
    (told_refused c.args.selection.now c.args.rows.now c.args.shape.now c.args.place.now.container c.args.place.now.offset c.args.bytes.now c.in-Err.refusal
    (ap (λ (s : ℕ). frame_at c.args.shape.now s c.args.bytes.now) (sym (c.lsn.ensures ∙ zero)) ∙ sym c.check_frame.ensures.exact ∙ c.in-Err.is)))

pub returns-in-Some-clause-found : goal.returns-in-Some-clause-found
returns-in-Some-clause-found c =
    let start = lsn_number c.args.place.now.container c.args.place.now.offset 0 in
    let zero : start + 0 ≡ start = omega arith in
    let head = c.in-Ok.head in
    let filled = c.as_slice.ensures ∙ c.in_ok-fill_payload.ensures.ok in
    let framed = ap (λ (s : ℕ). frame_at c.args.shape.now s c.args.bytes.now) (sym (c.lsn.ensures ∙ zero)) ∙ sym c.check_frame.ensures.exact ∙ c.in-Ok.is in
    let read = subst (λ (l : List ℕ). records_from (length c.args.rows.now) l head.records start 16 ≡ Err c.in-Some.at) filled
    (one_wrong (records_from (length c.args.rows.now) c.as_slice.result.now head.records start 16) c.in-Some.at (sym c.in_ok-wrong.ensures.wrong ∙ c.in-Some.is)) in
    ap refused c.damaged.ensures
    ∙ sym (found_wrong c.args.selection.now c.args.rows.now c.args.shape.now c.args.place.now.container c.args.place.now.offset c.args.bytes.now head framed
    c.in-Some.at read)

pub returns-in-Ok-check_rest-clause-found : goal.returns-in-Ok-check_rest-clause-found
returns-in-Ok-check_rest-clause-found c =
    let start = lsn_number c.args.place.now.container c.args.place.now.offset 0 in
    let zero : start + 0 ≡ start = omega arith in
    let head = c.in-Ok.head in
    let filled = c.as_slice.ensures ∙ c.in_ok-fill_payload.ensures.ok in
    let framed = ap (λ (s : ℕ). frame_at c.args.shape.now s c.args.bytes.now) (sym (c.lsn.ensures ∙ zero)) ∙ sym c.check_frame.ensures.exact ∙ c.in-Ok.is in
    let read = none_wrong (records_from (length c.args.rows.now) c.as_slice.result.now head.records start 16) (sym c.in_ok-wrong.ensures.wrong ∙ c.in_default.is) in
    sym (found_whole c.args.selection.now c.args.rows.now c.args.shape.now c.args.place.now.container c.args.place.now.offset c.args.bytes.now head framed
    read.0 (subst (λ (l : List ℕ). records_from (length c.args.rows.now) l head.records start 16 ≡ Ok read.0) filled read.1) c.in-Ok-check_rest.field-0
    (sym c.check_rest.ensures ∙ c.in-Ok-check_rest.is))

pub returns-in-Err-check_rest-clause-found : goal.returns-in-Err-check_rest-clause-found
returns-in-Err-check_rest-clause-found c =
    let start = lsn_number c.args.place.now.container c.args.place.now.offset 0 in
    let zero : start + 0 ≡ start = omega arith in
    let head = c.in-Ok.head in
    let filled = c.as_slice.ensures ∙ c.in_ok-fill_payload.ensures.ok in
    let framed = ap (λ (s : ℕ). frame_at c.args.shape.now s c.args.bytes.now) (sym (c.lsn.ensures ∙ zero)) ∙ sym c.check_frame.ensures.exact ∙ c.in-Ok.is in
    let read = none_wrong (records_from (length c.args.rows.now) c.as_slice.result.now head.records start 16) (sym c.in_ok-wrong.ensures.wrong ∙ c.in_default.is) in
    c.end_of-in-Err-check_rest.ensures head.sectors
    ∙ sym (found_rest c.args.selection.now c.args.rows.now c.args.shape.now c.args.place.now.container c.args.place.now.offset c.args.bytes.now head framed
    read.0 (subst (λ (l : List ℕ). records_from (length c.args.rows.now) l head.records start 16 ≡ Ok read.0) filled read.1) c.in-Err-check_rest.refusal
    (sym c.check_rest.ensures ∙ c.in-Err-check_rest.is))
