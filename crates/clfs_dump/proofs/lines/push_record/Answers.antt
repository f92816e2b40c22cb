use Rattle.clfs_dump.proofs.Words.{◌++◌, codes, on_ok_weaker}
use Rattle.clfs_record.specs.Decoding.{entry_with}
use Rattle.clfs_dump.specs.Lines.{record_front, record_links, data_part}
use Rattle.clfs_dump.proofs.Written.{put_before}
use Rattle.clfs_dump.proofs.lines.push_record.Goals as goal

pub returns : goal.returns
returns c = on_ok_weaker c.extend_from_slice.result
    (λ e. put_before c.args.out.now c.push_record_front.new.out c.extend_from_slice.new.self (record_front (entry_with c.args.head.now c.args.bytes.now)) (record_links (entry_with c.args.head.now c.args.bytes.now) ++ (data_part c.args.form c.args.bytes.now ++ (codes "\n"))) (c.in_ok-push_record_front.ensures c.args.bytes.now)
    (put_before c.push_record_front.new.out c.push_record_links.new.out c.extend_from_slice.new.self (record_links (entry_with c.args.head.now c.args.bytes.now)) (data_part c.args.form c.args.bytes.now ++ (codes "\n")) (c.in_ok-push_record_links.ensures c.args.bytes.now)
    (put_before c.push_record_links.new.out c.push_part.new.out c.extend_from_slice.new.self (data_part c.args.form c.args.bytes.now) (codes "\n") (c.in_ok-push_part.ensures)
    (e))))
    c.extend_from_slice.ensures.ok
