use Rattle.clfs_manager.proofs.Words.{◌≡◌, ℕ, ◌+◌, ◌*◌, ◌≤◌, sym, ap, subst, ◌∙◌, arith, inl, inr, List, length, All, Ok, IsOk, IsShape, IsImage, current}
use Rattle.clfs_manager.proofs.Words.{LogEntry, Place, Shape, total, Leaves, State, Newest, Blocks, Stores, IsGroupOf, Queued, HaveMore, file_at_end}
use Rattle.clfs_manager.proofs.Words.{all_records, shape_of, unflushed, BeginsAt, HasGroup, SendsGroup, Log}
use Rattle.std.proofs.Common.{◌⊎◌}
use Rattle.std.specs.Prelude.{◌-◌, ◌/◌}
use Rattle.clfs_container.specs.Writing.{IsGroup}
use Rattle.clfs_physical.specs.Stored.{Waits, with_group}
use Rattle.clfs_queue.specs.Queued.{seal}
use Rattle.clfs_recover.specs.Stored.{stored_in}
use Rattle.clfs_manager.proofs.ClosedPlace.{closed_place, flush_is, is_ended, is_closed_of, begins_at}
use Rattle.clfs_manager.proofs.Crashes.{ok_is}
use Rattle.clfs_manager.proofs.FlushedLog.{few_streams, total_append}
use Rattle.clfs_manager.proofs.GroupRecords.{AreOfStreams, groups_of}
use Rattle.clfs_manager.proofs.log.Log.send_group.Goals as goal

pub returns-clause-group : goal.returns-clause-group
returns-clause-group g c =
    let before : Log = c.requires.ended.before in
    let were = c.requires.ended.ended in
    subst (λ (n : Newest). SendsGroup (IsOk c.flush.result) (g.D.Disk.state c.args.disk.now) (g.D.Disk.state c.flush.new.disk) c.args.self.now.state.value n) (sym were.physical)
    (subst (λ (t : State). SendsGroup (IsOk c.flush.result) (g.D.Disk.state c.args.disk.now) (g.D.Disk.state c.flush.new.disk) t before.physical)
    (sym (ap (λ t. t.value) were.state)) (λ blocks stored.
    let old = c.requires.ended.before in
    let s : State = old.state.value in
    let firm = c.requires.ended.laid in
    let holds = firm.holds in
    let ended = c.requires.ended.ended in
    let q = is_ended old.queue in
    let newest : c.args.self.now.physical ≡ old.physical = ended.physical in
    let image = old.physical.image in
    let at = c.group-at.result.0 in
    let body = c.group-at.result.1.now in
    let group : IsGroupOf (seal old.queue) at body = subst (λ (u : Queued). IsGroupOf u at body) ended.queue c.group-at.ensures in
    let more = group.blocks in
    let after : Blocks = with_group image more blocks in
    let is_image : IsImage image = subst (λ (n : Newest). IsImage n.image) newest c.image-newest.ensures.image in
    let is_current : IsImage (current image) = subst (λ (n : Newest). IsImage (current n.image)) newest c.image-newest.ensures.current in
    let begins = begins_at s old.queue at body firm.laid holds.place holds.waiting group in
    let closed = is_closed_of s.shape s.place firm.laid.ranges.place in
    let end : at + total more ≡ (closed_place s.place).offset = group.end ∙ ap (λ (p : Place). p.offset) (q.place ∙ ap closed_place holds.place) in
    let here : total (blocks (file_at_end image)) ≡ at = sym (c.groups_come_behind_the_last_block.ensures.at image blocks is_image)
    ∙ ap (λ (t : State). t.place.offset) stored.state ∙ begins.offset in
    let have : HaveMore image more blocks after = c.groups_come_behind_the_last_block.ensures.by_file image more blocks in
    let waits_in : All (λ (entry : LogEntry). entry.stream ≤ length image.streams) (seal old.queue).records =
    subst (AreOfStreams (length image.streams)) (sym (q.records ∙ holds.records)) (few_streams s (length image.streams) firm.laid holds.rows) in
    let groups = groups_of (seal old.queue).shape (length image.streams) (seal old.queue).place.container at (seal old.queue).waiting (seal old.queue).records more
    waits_in group.waiting in
    let shape : (seal old.queue).shape ≡ shape_of image = q.shape ∙ holds.shape ∙ sym holds.image_shape in
    let id : (seal old.queue).place.container ≡ image.first + length image.files - 1 =
    omega (arith, ap (λ (p : Place). p.container) (q.place ∙ ap closed_place holds.place), closed.container, holds.listed) in
    let low : at + total more ≤ 512 * (seal old.queue).shape.container_sectors =
    omega (arith, end, closed.low, ap (λ (n : Shape). n.container_sectors) (q.shape ∙ holds.shape)) in
    let own_read : stored_in (seal old.queue).shape (length image.streams) (seal old.queue).place.container at more ≡ Ok (all_records groups.0) =
    c.blocks_are_read_in_order.ensures.written (seal old.queue).shape (length image.streams) (seal old.queue).place.container at groups.0 more
    (subst IsShape (sym shape) is_image.shape) (omega (arith, is_current.few_streams)) (omega (arith, id, is_image.last_id)) low groups.1.1 in
    let records : all_records groups.0 ≡ unflushed s = groups.1.0 ∙ q.records ∙ holds.records in
    let F : Shape → ℕ → ℕ → Type 0 = λ sh i o. stored_in sh (length image.streams) i o more ≡ Ok (unflushed s) in
    let read : F (shape_of image) (image.first + length image.files - 1) (total (blocks (file_at_end image))) =
    subst (λ (sh : Shape). F sh (image.first + length image.files - 1) (total (blocks (file_at_end image)))) shape
    (subst (λ (i : ℕ). F (seal old.queue).shape i (total (blocks (file_at_end image)))) id
    (subst (λ (o : ℕ). F (seal old.queue).shape (seal old.queue).place.container o) (sym here) (own_read ∙ ap (λ (es : List LogEntry). Ok es) records))) in
    let within : total (after (file_at_end image)) ≤ 512 * image.container_sectors =
    omega (arith, ap total have.last, total_append (blocks (file_at_end image)) more, here, low, ap (λ (n : Shape). n.container_sectors) shape) in
    let has : HasGroup s image blocks after stored.entries = record {
      more = more;
      have = have;
      log = c.groups_come_behind_the_last_block.ensures.log image blocks after more stored.entries (unflushed s) is_image have within read stored.log;
      begins = subst (BeginsAt s) (sym here) begins;
      end = ap (λ (n : ℕ). n + total more) here ∙ end ∙ sym (ap (λ (t : State). t.place.offset) (flush_is s));
    } in
    let long : (seal old.queue).shape.container_sectors ≡ image.container_sectors = ap (λ (n : Shape). n.container_sectors) shape in
    let waits : Waits image blocks at body more = elim group.bytes [
      | inl none ↦ inl none
      | inr some ↦ inr (record {
        place = here;
        left = (seal old.queue).shape.container_sectors - (seal old.queue).place.offset / 512;
        group = subst (λ (n : ℕ). IsGroup (n - at / 512) body more ((seal old.queue).shape.container_sectors - (seal old.queue).place.offset / 512)) long some.group;
      })
    ] in
    let waits_here : Waits c.args.self.now.physical.image blocks at body more = subst (λ (n : Newest). Waits n.image blocks at body more) (sym newest) waits in (
      after,
      (
        has,
        (
          λ fine tells whole stores.
              subst (λ (n : Newest). Stores whole n (with_group n.image more blocks) (g.D.Disk.state c.flush.new.disk).files) newest
              (ok_is c.flush.result fine c.flush.ensures.written tells whole blocks more
              (subst (λ (n : Newest). Stores whole n blocks (g.D.Disk.state c.args.disk.now).files) (sym newest) stores) waits_here),
          λ settled whole stores.
              subst (λ (n : Newest). Leaves (λ image. Stores whole n blocks image ⊎ Stores whole n (with_group n.image more blocks) image)
              (g.D.Disk.state c.args.disk.now) (g.D.Disk.state c.flush.new.disk)) newest
              (c.flush.ensures.moments settled whole blocks more
              (subst (λ (n : Newest). Stores whole n blocks (g.D.Disk.state c.args.disk.now).files) (sym newest) stores) waits_here),
        ),
      ),
    )))

pub returns-clause-lengths : goal.returns-clause-lengths
returns-clause-lengths g c = c.flush.ensures.lengths

pub returns-clause-calls : goal.returns-clause-calls
returns-clause-calls g c = record {
  settled = c.flush.ensures.settled;
  time = c.flush.ensures.time;
  cause = c.flush.ensures.cause;
  steady = λ steady made.
      let ended = c.requires.ended.ended in
      let firm = c.requires.ended.laid in
      let old : Log = c.requires.ended.before in
      let long : old.physical.image.container_sectors ≡ c.args.self.now.queue.shape.container_sectors =
      ap (λ (n : Shape). n.container_sectors) (firm.holds.image_shape ∙ sym firm.holds.shape ∙ sym (is_ended old.queue).shape ∙ ap (λ (q : Queued). q.shape) (sym ended.queue)) in
      elim c.group-at.ensures.bytes [
        | inl none ↦ let nothing = c.flush.ensures.nothing none.0 in (nothing.0, ap (λ d. (g.D.Disk.state d).faults) nothing.1)
        | inr some ↦ c.flush.ensures.steady steady made (rw ended.physical (omega (arith, some.within, long)))
      ];
}
