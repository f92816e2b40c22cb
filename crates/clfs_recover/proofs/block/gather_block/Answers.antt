use Rattle.clfs_recover.proofs.Words.{◌≡◌, ℕ, List, vec_len, Ok, sym, ◌∙◌, subst, err_from_is_err_and, lsn_number, told_as, records_from, RefusesAs, Damaged}
use Rattle.clfs_recover.proofs.Words.{block_refused, block_read}
use Rattle.clfs_block.specs.declared.head.BlockRefusal.TheVariants.{Closed}
use Rattle.clfs_recover.proofs.Blocks.{frame_refusal, records_refusal, rest_refusal, told_records}
use Rattle.clfs_recover.proofs.block.gather_block.Goals as goal

pub returns-in_err-head-clause-exact : goal.returns-in_err-head-clause-exact
returns-in_err-head-clause-exact g c rows before taken =
    let p = err_from_is_err_and c.from_residual.result c.from_residual.ensures.1 in
    rw (p.1, p.2) (frame_refusal (g.G.Gatherer.has c.args.gatherer.now) rows c.args.bases.now.items before c.args.place.now.container c.args.place.now.offset
    c.args.shape.now _ _ c.args.bytes.now c.in_err-head.field-0.0 c.in_err-head.ensures.exact)

pub returns-in_default-clause-exact : goal.returns-in_default-clause-exact
returns-in_default-clause-exact g c rows before taken =
    let start = lsn_number c.args.place.now.container c.args.place.now.offset 0 in
    (block_refused c.args.shape.now (vec_len c.args.bases.now) start c.args.bytes.now Closed (rw c.in_default.is at c.in_ok-head.ensures.exact), taken)

pub returns-in_err-gather_records-clause-exact : goal.returns-in_err-gather_records-clause-exact
returns-in_err-gather_records-clause-exact g c rows before taken =
    let p = err_from_is_err_and c.from_residual-in_err-gather_records.result c.from_residual-in_err-gather_records.ensures.1 in
    let start = lsn_number c.args.place.now.container c.args.place.now.offset 0 in
    let streams = vec_len c.args.bases.now in
    let head = c.in-Some.head in
    let filled = c.as_slice.ensures ∙ c.in_ok-fill_payload.ensures.ok in
    let refused = subst (λ (l : List ℕ). RefusesAs c.in_err-gather_records.field-0.0
    (told_as (λ at. Damaged c.args.place.now.container c.args.place.now.offset at) (records_from streams l head.records start 16))) filled
    (c.in_err-gather_records.ensures.exact rows before taken) in
    rw (p.1, p.2) (records_refusal (g.G.Gatherer.has c.gather_records.new.gatherer) rows c.gather_records.new.bases.items before c.args.place.now.container
    c.args.place.now.offset c.args.shape.now streams start c.args.bytes.now head (rw c.in-Some.is at c.in_ok-head.ensures.exact)
    c.in_err-gather_records.field-0.0 refused)

pub returns-in-Err-clause-exact : goal.returns-in-Err-clause-exact
returns-in-Err-clause-exact g c rows before taken =
    let start = lsn_number c.args.place.now.container c.args.place.now.offset 0 in
    let streams = vec_len c.args.bases.now in
    let head = c.in-Some.head in
    let filled = c.as_slice.ensures ∙ c.in_ok-fill_payload.ensures.ok in
    let read = c.in_ok-gather_records.ensures.exact rows before taken in
    let right = subst (λ (l : List ℕ). records_from streams l head.records start 16 ≡ Ok read.0) filled
    (told_records c.args.place.now.container c.args.place.now.offset read.0 (records_from streams c.as_slice.result.now head.records start 16) read.1) in
    rw c.refused.ensures.exact (rest_refusal (g.G.Gatherer.has c.gather_records.new.gatherer) rows c.gather_records.new.bases.items before
    c.args.place.now.container c.args.place.now.offset c.args.shape.now streams start c.args.bytes.now head
    (rw c.in-Some.is at c.in_ok-head.ensures.exact) read.0 c.in-Err.refusal right (sym c.check_rest.ensures ∙ c.in-Err.is))

pub returns-clause-exact : goal.returns-clause-exact
returns-clause-exact g c rows before taken =
    let start = lsn_number c.args.place.now.container c.args.place.now.offset 0 in
    let streams = vec_len c.args.bases.now in
    let head = c.in-Some.head in
    let filled = c.as_slice.ensures ∙ c.in_ok-fill_payload.ensures.ok in
    let read = c.in_ok-gather_records.ensures.exact rows before taken in
    let right = subst (λ (l : List ℕ). records_from streams l head.records start 16 ≡ Ok read.0) filled
    (told_records c.args.place.now.container c.args.place.now.offset read.0 (records_from streams c.as_slice.result.now head.records start 16) read.1) in (
      read.0,
      block_read c.args.shape.now streams start c.args.bytes.now head (rw c.in-Some.is at c.in_ok-head.ensures.exact) read.0
          right c.in_default-check_rest.field-0 (sym c.check_rest.ensures ∙ c.in_default-check_rest.is),
      read.2,
    )
