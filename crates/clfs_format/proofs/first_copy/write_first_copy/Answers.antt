use Rattle.std.proofs.Common.{sym, subst, ◌∙◌}
use Rattle.std.specs.Prelude.{IsOk, IsTrue}
use Rattle.std.proofs.lemmas.Result.{on_err_weaker, on_ok_weaker}
use Rattle.clfs_disk.specs.Files.{Files, TornIn}
use Rattle.clfs_disk.specs.State.{Nature}
use Rattle.clfs_base.specs.Writing.{NoneOrFirst}
use Rattle.clfs_format.proofs.Joining.{in_err, later_from, later_then, leaves_then, leaves_weaker, raised_twice, rises_then, torn_lengths}
use Rattle.clfs_format.proofs.Copies.{first_fits_in, first_is, gate_fits_in, newest_from, none_yet, none_or_first}
use Rattle.clfs_format.proofs.first_copy.write_first_copy.Goals as goal

pub returns-in_err-write_body-clause-moments : goal.returns-in_err-write_body-clause-moments
returns-in_err-write_body-clause-moments g c settled image fits is none =
    let old : Files = (g.D.Disk.state c.args.disk.now).files in
    leaves_weaker (TornIn 0 1 16383 old) (NoneOrFirst 0 image old) _ _ (λ files torn. none_yet image old files none torn)
    (c.calls_join.ensures.left_by_writes 0 1 16383 c.args.disk.now c.write_body.new.disk settled c.write_body.ensures.time)

pub returns-clause-written : goal.returns-clause-written
returns-clause-written g c = on_ok_weaker c.open_slot.result
    (λ first tells image fits is none.
    newest_from image _ _ _ c.write_body.ensures.torn
    (first (subst (λ (n : Nature). IsTrue n.tells_contents) (sym c.write_body.ensures.time.nature) tells) image
    (first_is image c.args.body.now _ _ fits is none c.write_body.ensures.torn (c.in_ok-write_body.ensures.body tells))))
    c.open_slot.ensures.first

pub returns-clause-moments : goal.returns-clause-moments
returns-clause-moments g c settled image fits is none =
    let old : Files = (g.D.Disk.state c.args.disk.now).files in
    let mid : Files = (g.D.Disk.state c.write_body.new.disk).files in
    let written = leaves_weaker (TornIn 0 1 16383 old) (NoneOrFirst 0 image old) _ _ (λ files torn. none_yet image old files none torn)
    (c.calls_join.ensures.left_by_writes 0 1 16383 c.args.disk.now c.write_body.new.disk settled c.write_body.ensures.time) in
    let filled = first_is image c.args.body.now old mid fits is none c.write_body.ensures.torn (c.in_ok-write_body.ensures.body settled.honest.0) in
    leaves_then (NoneOrFirst 0 image old) _ _ _ written
    (leaves_weaker (NoneOrFirst 0 image mid) (NoneOrFirst 0 image old) _ _ (λ files either. none_or_first image old mid files c.write_body.ensures.torn either)
    (c.open_slot.ensures.first_moments (c.in_ok-write_body.ensures.settled settled.honest) image filled))

pub returns-in_err-write_body-clause-lengths : goal.returns-in_err-write_body-clause-lengths
returns-in_err-write_body-clause-lengths g c = torn_lengths _ _ _ _ c.write_body.ensures.torn

pub returns-in_err-write_body-clause-time : goal.returns-in_err-write_body-clause-time
returns-in_err-write_body-clause-time g c = later_from _ _ _ c.write_body.ensures.time

pub returns-in_err-write_body-clause-cause : goal.returns-in_err-write_body-clause-cause
returns-in_err-write_body-clause-cause g c = in_err _ _ c.in_err-write_body.ensures.cause

pub returns-in_err-write_body-clause-steady : goal.returns-in_err-write_body-clause-steady
returns-in_err-write_body-clause-steady g c = λ steady long.
    let wrong = subst (λ r. IsOk r) c.in_err-write_body.was (c.write_body.ensures.steady steady (first_fits_in _ long)).0 in
    absurd (cc wrong)

pub returns-clause-settled : goal.returns-clause-settled
returns-clause-settled g c = on_ok_weaker c.open_slot.result (λ settled honest. settled (c.in_ok-write_body.ensures.settled honest).honest) c.open_slot.ensures.settled

pub returns-clause-lengths : goal.returns-clause-lengths
returns-clause-lengths g c = λ file. torn_lengths _ _ _ _ c.open_slot.ensures.torn file ∙ torn_lengths _ _ _ _ c.write_body.ensures.torn file

pub returns-clause-time : goal.returns-clause-time
returns-clause-time g c = later_then _ _ _ (later_from _ _ _ c.write_body.ensures.time) (later_from _ _ _ c.open_slot.ensures.time)

pub returns-clause-calls : goal.returns-clause-calls
returns-clause-calls g c = on_ok_weaker c.open_slot.result (λ more. raised_twice 2 2 _ _ _ c.in_ok-write_body.ensures.calls more) c.open_slot.ensures.calls

pub returns-clause-cause : goal.returns-clause-cause
returns-clause-cause g c = on_err_weaker c.open_slot.result (λ rises. rises_then _ _ _ c.write_body.ensures.time.faults rises) c.open_slot.ensures.cause

pub returns-clause-steady : goal.returns-clause-steady
returns-clause-steady g c = λ steady long.
    let first = c.write_body.ensures.steady steady (first_fits_in _ long) in
    let then = c.open_slot.ensures.steady (subst (λ (n : Nature). IsTrue n.steady) (sym c.write_body.ensures.time.nature) steady)
    (gate_fits_in _ _ c.write_body.ensures.torn.here.same_length long) in
    (then.0, then.1 ∙ first.1)
