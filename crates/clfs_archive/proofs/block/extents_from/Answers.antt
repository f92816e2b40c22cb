use Rattle.std.proofs.Common.{◌≡◌, ◌+◌, ◌-◌, ◌≤◌, ◌∙◌, sym, ap, arith}
use Rattle.std.specs.List.{filter_map, range_with_len}
use Rattle.clfs_lsn.specs.Lsn.{container_of}
use Rattle.clfs_model.specs.Heads.{container_extent}
use Rattle.std.proofs.lemmas.List.{append-nil}
use Rattle.clfs_archive.proofs.Extents.{one_more}
use Rattle.clfs_archive.proofs.block.extents_from.Goals as goal
use Rattle.clfs_archive.proofs.block.extents_from.Goals.{in-Some+in_ok-push, in_default}

pub loop-container-preserved : goal.loop-container-preserved
loop-container-preserved c =
    let up : container_of c.args.tail ≤ c.loop-container.container = omega arith in
    record {
      so_far = λ heads are.
          let more = one_more (container_extent c.args.stable c.args.tail heads) (container_of c.args.tail) c.loop-container.container up in
          let before = c.loop-container.invariant.so_far heads are in
          elim c.match-extent_in.branch [
            | in-Some+in_ok-push w ↦
                let extent = w.in-Some.ensures heads are in
                let pushed = w.in_ok-push.ensures.items in
                rw (w.extents-is, pushed, before, more, ← extent)
            | in_default w ↦
                let extent = rw w.in_default.is at (c.extent_in.ensures heads are) in
                let none = sym extent in
                rw (w.extents-is, before, more, none) (sym (append-nil _))
          ];
      none = λ past. omega (arith, past);
    }

pub returns : goal.returns
returns c = λ heads are.
    let long : c.loop-container.container - container_of c.args.tail ≡ c.args.last + 1 - container_of c.args.tail = grind arith in
    c.loop-container.invariant.so_far heads are
    ∙ ap (λ n. filter_map (container_extent c.args.stable c.args.tail heads) (range_with_len (container_of c.args.tail) n)) long
