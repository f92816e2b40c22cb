use Rattle.clfs_buffers.proofs.Words.{◌≡◌, ℕ, ◌+◌, List, drop, Option, Some, None, Result, Ok, Err, sym, ◌∙◌, ap, subst, arith, err_from_is_err_and}
use Rattle.clfs_buffers.proofs.Words.{slice_get, ok_or, sequence_of, LogEntry, told_as, block_records, BlockPlace, block_place, first_lsn, refused_at, HaveLsns}
use Rattle.std.specs.Option.{option_copied}
use Rattle.clfs_lsn.specs.Lsn.{offset_of}
use Rattle.clfs_buffers.specs.Reading.{Gives}
use Rattle.clfs_buffers.specs.Buffered.{IsRead}
use Rattle.clfs_buffers.proofs.Fronts.{told_ok}
use Rattle.clfs_buffers.proofs.Changes.{kept_is, not_both, not_some, one_block, found_lsns, used_stays, joined_stays, joined_is}
use Rattle.clfs_buffers.proofs.buffers.Buffers.read.Goals as goal

-- what is found at a position is the record there
at_position : (found : Option LogEntry) (entry : LogEntry) → ok_or {E = ℕ} found 4 ≡ Ok entry → found ≡ Some entry
at_position None entry e = absurd (cc e)
at_position (Some other) entry e = cc e

-- a record at its LSN's position of its block has that LSN
own_lsn : (records : List LogEntry) (lsn sequence : ℕ) (place : BlockPlace) (entry : LogEntry) → place ≡ block_place lsn → HaveLsns (first_lsn place) records
    → sequence ≡ sequence_of lsn → ok_or {E = ℕ} (slice_get records sequence) 4 ≡ Ok entry → entry.lsn ≡ lsn
own_lsn records lsn sequence place entry is lsns same found =
    let at : entry.lsn ≡ first_lsn place + sequence = lsns sequence entry (at_position (slice_get records sequence) entry found) in
    let first = ap first_lsn is in
    omega (arith, at, first, same)

pub returns-in_err-entry-clause-read : goal.returns-in_err-entry-clause-read
returns-in_err-entry-clause-read g c none =
    absurd (not_both c.args.self.now (block_place c.args.lsn) c.in-Some.block.now
    (kept_is c.self.inside.table c.args.self.now c.of-place.result (block_place c.args.lsn) (Some c.in-Some.block.now) c.self.view_is
    c.of-place.ensures.place (sym (ap option_copied c.in-Some.is) ∙ c.peek.ensures)) none)

pub invariant_of-self : goal.invariant_of-self
invariant_of-self g c = used_stays c.self.inside.most c.self.inside.table c.promote.new.self c.of-place.result c.self.invariant c.promote.ensures.entries

pub returns-in-Some-clause-read : goal.returns-in-Some-clause-read
returns-in-Some-clause-read g c none =
    absurd (not_both c.args.self.now (block_place c.args.lsn) c.in-Some.block.now
    (kept_is c.self.inside.table c.args.self.now c.of-place.result (block_place c.args.lsn) (Some c.in-Some.block.now) c.self.view_is
    c.of-place.ensures.place (sym (ap option_copied c.in-Some.is) ∙ c.peek.ensures)) none)

pub returns-in-Some-clause-joins : goal.returns-in-Some-clause-joins
returns-in-Some-clause-joins g c none =
    absurd (not_both c.args.self.now (block_place c.args.lsn) c.in-Some.block.now
    (kept_is c.self.inside.table c.args.self.now c.of-place.result (block_place c.args.lsn) (Some c.in-Some.block.now) c.self.view_is
    c.of-place.ensures.place (sym (ap option_copied c.in-Some.is) ∙ c.peek.ensures)) none)

pub returns-in-Some-clause-calls : goal.returns-in-Some-clause-calls
returns-in-Some-clause-calls g c none =
    absurd (not_both c.args.self.now (block_place c.args.lsn) c.in-Some.block.now
    (kept_is c.self.inside.table c.args.self.now c.of-place.result (block_place c.args.lsn) (Some c.in-Some.block.now) c.self.view_is
    c.of-place.ensures.place (sym (ap option_copied c.in-Some.is) ∙ c.peek.ensures)) none)

pub returns-in-Some-clause-lsn : goal.returns-in-Some-clause-lsn
returns-in-Some-clause-lsn g c = own_lsn c.in-Some.block.now c.args.lsn c.sequence.result c.of-place.result c.in_ok-entry.entry c.of-place.ensures.place
    (found_lsns c.self.inside.most c.self.inside.table c.of-place.result c.in-Some.block.now c.self.invariant (sym c.peek.ensures ∙ ap option_copied c.in-Some.is))
    c.sequence.ensures.value c.in_ok-entry.ensures.exact

pub returns-in_err-entry-clause-kept : goal.returns-in_err-entry-clause-kept
returns-in_err-entry-clause-kept g c records is =
    let p = err_from_is_err_and c.from_residual.result c.from_residual.ensures.1 in
    let same : c.in-Some.block.now ≡ records = one_block c.args.self.now (block_place c.args.lsn) c.in-Some.block.now records
    (kept_is c.self.inside.table c.args.self.now c.of-place.result (block_place c.args.lsn) (Some c.in-Some.block.now) c.self.view_is
    c.of-place.ensures.place (sym (ap option_copied c.in-Some.is) ∙ c.peek.ensures)) is in
    rw (p.1, p.2) (subst (λ (r : Result LogEntry ℕ). Gives {A = LogEntry} (Err c.in_err-entry.field-0.0) r)
    (λ i. ok_or (slice_get (same i) (c.sequence.ensures.value i)) 4) c.in_err-entry.ensures.exact)

pub returns-in-Some-clause-kept : goal.returns-in-Some-clause-kept
returns-in-Some-clause-kept g c records is =
    let same : c.in-Some.block.now ≡ records = one_block c.args.self.now (block_place c.args.lsn) c.in-Some.block.now records
    (kept_is c.self.inside.table c.args.self.now c.of-place.result (block_place c.args.lsn) (Some c.in-Some.block.now) c.self.view_is
    c.of-place.ensures.place (sym (ap option_copied c.in-Some.is) ∙ c.peek.ensures)) is in
    sym (λ i. ok_or {E = ℕ} (slice_get (same i) (c.sequence.ensures.value i)) 4) ∙ c.in_ok-entry.ensures.exact

pub returns-in_err-block-clause-quiet : goal.returns-in_err-block-clause-quiet
returns-in_err-block-clause-quiet g c some = absurd (not_some c.args.self.now (block_place c.args.lsn) (kept_is c.self.inside.table c.args.self.now c.of-place.result (block_place c.args.lsn) None c.self.view_is
    c.of-place.ensures.place (sym (ap option_copied c.in_default.is) ∙ c.peek.ensures)) some)

pub returns-in_err-entry-2-clause-quiet : goal.returns-in_err-entry-2-clause-quiet
returns-in_err-entry-2-clause-quiet g c some = absurd (not_some c.args.self.now (block_place c.args.lsn) (kept_is c.self.inside.table c.args.self.now c.of-place.result (block_place c.args.lsn) None c.self.view_is
    c.of-place.ensures.place (sym (ap option_copied c.in_default.is) ∙ c.peek.ensures)) some)

pub returns-in_err-keep-clause-quiet : goal.returns-in_err-keep-clause-quiet
returns-in_err-keep-clause-quiet g c some = absurd (not_some c.args.self.now (block_place c.args.lsn) (kept_is c.self.inside.table c.args.self.now c.of-place.result (block_place c.args.lsn) None c.self.view_is
    c.of-place.ensures.place (sym (ap option_copied c.in_default.is) ∙ c.peek.ensures)) some)

pub returns-clause-used : goal.returns-clause-used
returns-clause-used g c some = absurd (not_some c.args.self.now (block_place c.args.lsn) (kept_is c.self.inside.table c.args.self.now c.of-place.result (block_place c.args.lsn) None c.self.view_is
    c.of-place.ensures.place (sym (ap option_copied c.in_default.is) ∙ c.peek.ensures)) some)

pub returns-clause-quiet : goal.returns-clause-quiet
returns-clause-quiet g c some = absurd (not_some c.args.self.now (block_place c.args.lsn) (kept_is c.self.inside.table c.args.self.now c.of-place.result (block_place c.args.lsn) None c.self.view_is
    c.of-place.ensures.place (sym (ap option_copied c.in_default.is) ∙ c.peek.ensures)) some)

pub returns-in_err-entry-2-clause-kept : goal.returns-in_err-entry-2-clause-kept
returns-in_err-entry-2-clause-kept g c records is = absurd (not_both c.args.self.now (block_place c.args.lsn) records is (kept_is c.self.inside.table c.args.self.now c.of-place.result (block_place c.args.lsn) None c.self.view_is
    c.of-place.ensures.place (sym (ap option_copied c.in_default.is) ∙ c.peek.ensures)))

pub returns-clause-kept : goal.returns-clause-kept
returns-clause-kept g c records is = absurd (not_both c.args.self.now (block_place c.args.lsn) records is (kept_is c.self.inside.table c.args.self.now c.of-place.result (block_place c.args.lsn) None c.self.view_is
    c.of-place.ensures.place (sym (ap option_copied c.in_default.is) ∙ c.peek.ensures)))

pub invariant_of-self-2 : goal.invariant_of-self-2
invariant_of-self-2 g c = joined_stays c.self.inside.most c.self.inside.table c.keep.new.table c.of-place.result c.in_ok-block.block c.self.invariant c.in_ok-block.ensures.lsns
    c.in_ok-keep.ensures.ok

pub returns-clause-lsn : goal.returns-clause-lsn
returns-clause-lsn g c = own_lsn c.in_ok-block.block c.args.lsn c.sequence-2.result c.of-place.result c.in_ok-entry-2.entry c.of-place.ensures.place
    c.in_ok-block.ensures.lsns c.sequence-2.ensures.value c.in_ok-entry-2.ensures.exact

pub returns-clause-joins : goal.returns-clause-joins
returns-clause-joins g c none =
    let is = c.of-place.ensures.place in
    let block = c.in_ok-block.block in
    let file = (g.D.Disk.state c.args.disk.now).files c.args.file in record {
      records = block;
      kept = joined_is c.self.inside.table c.keep.new.table c.args.self.now c.of-place.result (block_place c.args.lsn) block c.self.view_is is
          c.in_ok-keep.ensures.ok;
      found = sym (λ i. ok_or {E = ℕ} (slice_get block (c.sequence-2.ensures.value i)) 4) ∙ c.in_ok-entry-2.ensures.exact;
      read = subst (λ (p : BlockPlace). IsRead c.args.shape.now c.args.streams p block) is c.in_ok-block.ensures.read;
      same = λ tells. told_ok (block_records c.args.shape.now c.args.streams (first_lsn (block_place c.args.lsn)) (drop (offset_of c.args.lsn) file)) block
          (sym (λ i. told_as refused_at (block_records c.args.shape.now c.args.streams (first_lsn (is i)) (drop (is i).offset file)))
          ∙ c.in_ok-block.ensures.exact tells);
    }
