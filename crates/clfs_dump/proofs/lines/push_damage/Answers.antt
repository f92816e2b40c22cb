use Rattle.clfs_dump.proofs.Words.{◌++◌, codes, on_ok_weaker, number_after}
use Rattle.clfs_dump.proofs.Written.{put_before}
use Rattle.clfs_dump.proofs.lines.push_damage.Goals as goal

pub returns : goal.returns
returns c = on_ok_weaker c.extend_from_slice.result
    (λ e. put_before c.args.out.now c.push_number.new.out c.extend_from_slice.new.self (number_after (codes "damage container ") c.args.container) (number_after (codes " offset ") c.args.offset ++ (number_after (codes " byte ") c.args.at ++ (codes "\n"))) (c.in_ok-push_number.ensures)
    (put_before c.push_number.new.out c.push_number-2.new.out c.extend_from_slice.new.self (number_after (codes " offset ") c.args.offset) (number_after (codes " byte ") c.args.at ++ (codes "\n")) (c.in_ok-push_number-2.ensures)
    (put_before c.push_number-2.new.out c.push_number-3.new.out c.extend_from_slice.new.self (number_after (codes " byte ") c.args.at) (codes "\n") (c.in_ok-push_number-3.ensures)
    (e))))
    c.extend_from_slice.ensures.ok
