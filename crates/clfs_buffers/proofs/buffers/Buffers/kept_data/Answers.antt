use Rattle.clfs_buffers.proofs.Words.{◌≡◌, ℕ, List, Option, Some, None, sym, ◌∙◌, ap, subst, option_map, slice_get, sequence_of, LogEntry, block_place, kept_at}
use Rattle.std.specs.Option.{option_and_then}
use Rattle.std.specs.Prelude.{IfOk}
use Rattle.std.specs.Map.Iter.{deref_pair}
use Rattle.clfs_buffers.proofs.Changes.{kept_is, used_stays, first_is, none_is}
use Rattle.clfs_buffers.proofs.buffers.Buffers.kept_data.Goals as goal

-- the data of the record at an LSN among those of its block
abbrev bytes_at : ℕ → Option (List LogEntry) → Option (List ℕ)
bytes_at lsn block = option_map (λ (e : LogEntry). e.bytes) (option_and_then (λ (records : List LogEntry). slice_get records (sequence_of lsn)) block)

pub invariant_of-self : goal.invariant_of-self
invariant_of-self c = used_stays c.self.inside.most c.self.inside.table c.promote.new.self c.of-place.result c.self.invariant c.promote.ensures.entries

pub invariant_of-self-2 : goal.invariant_of-self-2
invariant_of-self-2 c = used_stays c.self.inside.most c.self.inside.table c.promote.new.self c.of-place.result c.self.invariant c.promote.ensures.entries

pub returns-then-not-promote-clause-exact : goal.returns-then-not-promote-clause-exact
returns-then-not-promote-clause-exact c = sym (ap (bytes_at c.args.lsn) (kept_is c.self.inside.table c.args.self.now c.of-place.result (block_place c.args.lsn) None
    c.self.view_is c.of-place.ensures.place (none_is _ c.if-not-promote.ensures.value)))

pub returns-in_default-clause-exact : goal.returns-in_default-clause-exact
returns-in_default-clause-exact c = sym (ap (bytes_at c.args.lsn) (kept_is c.self.inside.table c.args.self.now c.of-place.result (block_place c.args.lsn) None
    c.self.view_is c.of-place.ensures.place
    (first_is c.self.inside.table c.promote.new.self c.of-place.result None c.if-not-promote.ensures.value c.promote.ensures.entries
    (sym (ap (option_map deref_pair) c.in_default.is) ∙ c.peek_mru.ensures))))

pub returns-clause-exact : goal.returns-clause-exact
returns-clause-exact c =
    let kept : kept_at (block_place c.args.lsn) c.args.self.now ≡ Some c.in-Some.block.now =
    kept_is c.self.inside.table c.args.self.now c.of-place.result (block_place c.args.lsn) (Some c.in-Some.block.now) c.self.view_is c.of-place.ensures.place
    (first_is c.self.inside.table c.promote.new.self c.of-place.result (Some (c.in-Some.field-0-0.now, c.in-Some.block.now)) c.if-not-promote.ensures.value
    c.promote.ensures.entries c.in-Some.ensures) in
    subst (λ (found : Option (List ℕ)). IfOk c.data_at.result (λ bytes. bytes ≡ found))
    (ap (λ (n : ℕ). option_map (λ (e : LogEntry). e.bytes) (slice_get c.in-Some.block.now n)) c.sequence.ensures.value ∙ sym (ap (bytes_at c.args.lsn) kept))
    c.data_at.ensures.exact
