use Rattle.std.proofs.Common.{◌∙◌, ◌+◌, arith, ap, sym, length}
use Rattle.std.proofs.lemmas.List.{length_push}
use Rattle.clfs_tables.specs.Tables.{Tabled}
use Rattle.clfs_tables.proofs.TableSteps.{firsts_by, heads_by, row_added, same_bases}
use Rattle.clfs_tables.proofs.tables.Tables.add_stream.Goals as goal

pub invariant_of-self : goal.invariant_of-self
invariant_of-self c =
    let v = c.self.invariant in
    let i = c.self.inside in
    let few = ap (λ (t : Tabled). length t.streams) c.self.view_is in
    record {
      few = rw (c.add.ensures, length_push) (omega (arith, few, c.requires.few));
      rows_long = rw (c.add.ensures, c.push_reserved.ensures.items) (length_push i.rows.items _ ∙ ap (λ n. n + 1) v.rows_long ∙ sym (length_push i.streams.streams _));
      firsts_long = rw (c.add.ensures, c.add-2.ensures.firsts) (length_push i.tail.firsts _ ∙ ap (λ n. n + 1) v.firsts_long ∙ sym (length_push i.streams.streams _));
      heads = rw c.add.ensures (heads_by i.low i.streams.streams _ i.heads.value (λ k. rw (same_bases i.streams.streams c.args.name k) (omega arith)) v.heads);
      firsts = rw c.add.ensures (firsts_by c.add-2.new.self.firsts _ _ i.heads.value (same_bases i.streams.streams c.args.name) (c.add-2.ensures.told _ i.heads.value v.firsts));
      rows = rw (c.add.ensures, c.push_reserved.ensures.items)
          (row_added i.streams.streams c.args.name i.low i.heads.value i.rows.items _ i.tail.firsts v.rows_long v.firsts_long v.firsts v.rows
          (c.new.ensures.base ∙ c.null.ensures) (c.new-2.ensures.base ∙ c.null-2.ensures) c.new.ensures.heads c.new-2.ensures.heads);
    }
