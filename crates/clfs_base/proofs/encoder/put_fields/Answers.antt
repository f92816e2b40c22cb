use Rattle.clfs_base.proofs.Tables.{fields_more}
use Rattle.clfs_base.proofs.encoder.put_fields.Goals as goal

pub loop-field-preserved : goal.loop-field-preserved
loop-field-preserved c =
    fields_more c.args.layout.now c.args.n.now c.fields-table.result c.loop-field.field-index c.loop-field.out c.put.new.out c.fields-table.ensures
    c.loop-field-test.true c.loop-field.invariant c.put.ensures
