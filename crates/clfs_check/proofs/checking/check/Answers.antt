use Rattle.std.proofs.Common.{◌∙◌, sym, ap}
use Rattle.clfs_recover.specs.Opening.{parts_of}
use Rattle.clfs_recover.specs.Walk.{shape_of}
use Rattle.clfs_recover.specs.Whole.{are_long}
use Rattle.clfs_check.proofs.Faults.{faults_told}
use Rattle.clfs_check.proofs.Lengths.{long_files}
use Rattle.clfs_check.proofs.Readings.{settled_still, tells_still}
use Rattle.clfs_check.proofs.Reports.{small_place, few_records, few_blocks, reports, reports_log}
use Rattle.clfs_check.proofs.checking.check.Goals as goal

pub report_of-requires-clause-image : goal.report_of-requires-clause-image
report_of-requires-clause-image g c =
    let opened = c.in_ok-walked.ensures.log (c.new-counts.ensures.records, c.new-counts.ensures.blocks) in opened.2.log.image

pub report_of-requires-clause-place : goal.report_of-requires-clause-place
report_of-requires-clause-place g c =
    let opened = c.in_ok-walked.ensures.log (c.new-counts.ensures.records, c.new-counts.ensures.blocks) in
    let parts = parts_of c.in_ok-walked.walked opened.0 in
    let files = c.logs_are_found_in_files.ensures.found parts opened.2.log in
    let lies = c.opened_copies_fit.ensures.within files.0 parts files.1 in
    small_place (shape_of parts.image) parts.place opened.2.log.image.shape lies.0 lies.1

pub returns-clause-exact : goal.returns-clause-exact
returns-clause-exact g c tells =
    let first = g.D.Disk.state c.args.disk.now in
    let mid = g.D.Disk.state c.walk.new.disk in
    let opened = c.in_ok-walked.ensures.log (c.new-counts.ensures.records, c.new-counts.ensures.blocks) in
    let entries = opened.0 in
    let parts = parts_of c.in_ok-walked.walked entries in
    let found = opened.2.found tells in
    let few = c.logs_have_few_records.ensures parts opened.2.log in
    let stored = c.logs_are_copies_and_blocks.ensures.found first.files parts found in
    let still = tells_still first mid c.in_ok-walked.ensures.time tells in
    let slot = c.in_ok-walked.walked.slot in
    reports first.files parts stored.0 c.walk.new.gatherer.blocks c.in_ok-whole.whole c.report_of.result
    (c.report_of.ensures entries (few_records c.walk.new.gatherer.records entries opened.1.0 few)) found stored.1
    (few_blocks c.walk.new.gatherer.blocks entries opened.1.1 few ∙ c.blocks_begin_with_sequence_0.ensures.found first.files parts stored.0 found stored.1)
    (c.in_ok-whole.ensures.exact slot still ∙ long_files first.files mid.files slot parts.image c.in_ok-walked.ensures.same
    ∙ sym (ap (are_long first.files) (c.opened_copies_fit.ensures.newest first.files parts found)))
    (c.whole_files_pass_the_test.ensures.passes first.files) (c.whole_files_pass_the_test.ensures.tells first.files)

pub returns-clause-log : goal.returns-clause-log
returns-clause-log g c =
    let opened = c.in_ok-walked.ensures.log (c.new-counts.ensures.records, c.new-counts.ensures.blocks) in
    let entries = opened.0 in
    let parts = parts_of c.in_ok-walked.walked entries in
    let few = c.logs_have_few_records.ensures parts opened.2.log in
    reports_log parts opened.2.log c.walk.new.gatherer.blocks c.in_ok-whole.whole c.report_of.result
    (c.report_of.ensures entries (few_records c.walk.new.gatherer.records entries opened.1.0 few))
    (few_blocks c.walk.new.gatherer.blocks entries opened.1.1 few ∙ c.blocks_begin_with_sequence_0.ensures.known parts opened.2.log)

pub returns-clause-settled : goal.returns-clause-settled
returns-clause-settled g c honest =
    settled_still g.D.Disk.state c.calls_join.ensures c.walk.new.disk c.are_whole.new.disk (c.in_ok-walked.ensures.settled honest)
    c.in_ok-whole.ensures.reads.time c.in_ok-whole.ensures.reads.same

pub returns-in_err-whole-clause-place : goal.returns-in_err-whole-clause-place
returns-in_err-whole-clause-place g c = faults_told c.from_residual-in_err-whole.result c.from_residual-in_err-whole.ensures.1
