use Rattle.clfs_txn.proofs.Words.{◌≡◌, ap, refl, true, ◌∙◌, Ok, Err, IsErrOf, Memory}
use Rattle.clfs_model.specs.declared.refusal.Refusal.TheVariants as log_refusals
use Rattle.clfs_model.specs.declared.reply.Reply.TheVariants as log_replies
use Rattle.clfs_txn.proofs.LoadSteps.{leaves_records, making, opening, stream_refused}
use Rattle.clfs_txn.proofs.LoadParts.{answered_whole, area_then, no_damage, on_ok, was_whole, with_its_stream}
use Rattle.clfs_txn.proofs.Quiet.{QuietLaws}
use Rattle.clfs_txn.proofs.Written.{no_fault, of_ok, of_same}
use Rattle.clfs_txn.proofs.loading.make_area.Goals as goal

pub create_area-requires-clause-whole : goal.create_area-requires-clause-whole
create_area-requires-clause-whole g c =
    let laws : QuietLaws = record { unbroken = c.unbroken_stays.ensures.calls; broken = c.broken_stays.ensures.calls } in
    answered_whole laws true _ _ _ log_replies.Stream (Ok c.in-Ok.stream) _ (λ n same. cc same) (λ _. refl) (c.in-Ok.ensures.step true)

pub returns-in-Ok-clause-step : goal.returns-in-Ok-clause-step
returns-in-Ok-clause-step g c = λ told rest.
    area_then told _ _ _ _ rest c.in-Ok.stream c.create_area.result (c.in-Ok.ensures.step told) (c.create_area.ensures.step told) c.create_area.ensures.memory

pub returns-in-Ok-clause-memory : goal.returns-in-Ok-clause-memory
returns-in-Ok-clause-memory g c = with_its_stream _ _ c.create_area.result c.create_area.ensures.memory

pub returns-in-Ok-clause-writes : goal.returns-in-Ok-clause-writes
returns-in-Ok-clause-writes g c =
    let laws : QuietLaws = record { unbroken = c.unbroken_stays.ensures.calls; broken = c.broken_stays.ensures.calls } in
    let whole = answered_whole laws true _ _ _ log_replies.Stream (Ok c.in-Ok.stream) _ (λ n same. cc same) (λ _. refl) (c.in-Ok.ensures.step true) in
    rw c.create_area.ensures.disk (of_ok (IsErrOf c.create_area.result log_refusals.DiskFault) _ _ c.in-Ok.stream
    (no_fault true _ _ _ (λ (m : Memory). log_replies.Area m.area) c.create_area.result _ whole refl (c.create_area.ensures.step true))
    c.in-Ok.ensures.writes)

pub returns-in-Ok-clause-was_whole : goal.returns-in-Ok-clause-was_whole
returns-in-Ok-clause-was_whole g c =
    let laws : QuietLaws = record { unbroken = c.unbroken_stays.ensures.calls; broken = c.broken_stays.ensures.calls } in
    on_ok c.create_area.result _ (was_whole laws true _ _ _ log_replies.Stream (Ok c.in-Ok.stream) _ (λ n same. cc same) (c.in-Ok.ensures.step true))

pub returns-in-Ok-clause-whole : goal.returns-in-Ok-clause-whole
returns-in-Ok-clause-whole g c =
    let laws : QuietLaws = record { unbroken = c.unbroken_stays.ensures.calls; broken = c.broken_stays.ensures.calls } in
    answered_whole laws true _ _ _ (λ (m : Memory). log_replies.Area m.area) c.create_area.result _ (λ m same. cc same) (λ _. refl) (c.create_area.ensures.step true)

pub returns-in-Ok-clause-records : goal.returns-in-Ok-clause-records
returns-in-Ok-clause-records g c =
    on_ok c.create_area.result _ (leaves_records true _ _ _ _ _ _ (making _ _ _) (c.create_area.ensures.step true)
    ∙ leaves_records true _ _ _ _ _ _ (opening _) (c.in-Ok.ensures.step true))

pub returns-in-Ok-clause-no_damage : goal.returns-in-Ok-clause-no_damage
returns-in-Ok-clause-no_damage g c = λ container offset at.
    no_damage true _ _ _ (λ (m : Memory). log_replies.Area m.area) c.create_area.result _ container offset at refl (c.create_area.ensures.step true)

pub returns-in-Err-clause-step : goal.returns-in-Err-clause-step
returns-in-Err-clause-step g c = λ told rest. stream_refused told _ _ _ rest c.in-Err.refusal (c.in-Err.ensures.step told)

pub returns-in-Err-clause-writes : goal.returns-in-Err-clause-writes
returns-in-Err-clause-writes g c = of_same _ _ c.in-Err.refusal c.in-Err.ensures.writes

pub returns-in-Err-clause-no_damage : goal.returns-in-Err-clause-no_damage
returns-in-Err-clause-no_damage g c = λ container offset at is.
    no_damage true _ _ _ log_replies.Stream (Err c.in-Err.refusal) _ container offset at refl (c.in-Err.ensures.step true) (let same : c.in-Err.refusal ≡ log_refusals.Damaged container offset at = cc is in ap (λ r. Err r) same)

pub returns-in-Ok-clause-moments : goal.returns-in-Ok-clause-moments
returns-in-Ok-clause-moments g c = rw c.create_area.ensures.disk c.in-Ok.ensures.moments

pub returns-in-Err-clause-moments : goal.returns-in-Err-clause-moments
returns-in-Err-clause-moments g c = c.in-Err.ensures.moments
