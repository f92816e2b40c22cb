use Rattle.clfs_manager.proofs.Words.{length, refl, sym, ap, ◌∙◌, arith, Newest, Queued, shape_of}
use Rattle.clfs_manager.proofs.log.open_log.Goals as goal

pub open_records-requires-clause-fit : goal.open_records-requires-clause-fit
open_records-requires-clause-fit c = c.opened_parts_fit.ensures.tables

pub returns : goal.returns
returns c = record {
  state = ap (λ told. told.value) c.forget_low.ensures.same.state ∙ c.pick-state.ensures;
  holds = c.forget_low.ensures.sound.holds;
  newest = c.forget_low.ensures.same.physical ∙ c.in_ok-physical.ensures;
  kept = c.forget_low.ensures.same.buffers ∙ c.in_ok-blocks.ensures.kept;
  whole = c.forget_low.ensures.same.broken;
  forgotten = c.forget_low.ensures.forgotten;
}

pub forget_low-requires : goal.forget_low-requires
forget_low-requires c =
    let fits = c.opened_parts_fit.ensures in
    let queue = c.in_ok-blocks.ensures.queue in
    let has = c.in_ok-records.ensures in
    let told = c.pick-state.ensures in
    record {
      sound = record {
        valid = rw told fits.valid;
        storable = rw told fits.storable;
        unbroken = refl;
        whole = ap (λ u. u.broken) told;
        holds = rw told (record {
          shape = ap (λ (q : Queued). q.shape) queue;
          buffers = ap (λ (q : Queued). q.buffers) queue;
          place = ap (λ (q : Queued). q.place) queue;
          waiting = ap (λ (q : Queued). q.waiting) queue;
          records = ap (λ (q : Queued). q.records) queue ∙ sym fits.flushed;
          streams = has.streams;
          heads = has.heads;
          low = omega (arith, has.low);
          areas = c.new.ensures;
          archive = has.tail;
          sealed = rw has.low has.blocks;
          room = λ some. absurd (omega (arith, some, fits.closed.1));
          policies = c.policies_in-policies.ensures;
          containers = ap (λ (n : Newest). n.image.containers) c.in_ok-physical.ensures;
          image_shape = ap (λ (n : Newest). shape_of n.image) c.in_ok-physical.ensures;
          dedicated = ap (λ (n : Newest). n.image.dedicated) c.in_ok-physical.ensures;
          rows = ap (λ (n : Newest). length n.image.streams) c.in_ok-physical.ensures ∙ sym fits.streams;
          listed = rw c.in_ok-physical.ensures fits.listed;
          needed = rw c.in_ok-physical.ensures fits.needed;
        });
      };
    }
