use Rattle.clfs_dump.proofs.Words.{◌++◌, length, codes, on_ok_weaker, number_after}
use Rattle.clfs_dump.proofs.Written.{put_before}
use Rattle.clfs_dump.proofs.lines.push_sizes.Goals as goal

pub returns : goal.returns
returns c = on_ok_weaker c.push_number-6.result
    (λ e. put_before c.args.out.now c.push_number.new.out c.push_number-6.new.out (number_after (codes "log block ") c.args.image.now.block_sectors) (number_after (codes " container ") c.args.image.now.container_sectors ++ (number_after (codes " containers ") c.args.image.now.containers ++ (number_after (codes " files ") c.args.image.now.files_made ++ (number_after (codes " listed ") (length c.args.image.now.files) ++ (number_after (codes " streams ") (length c.args.image.now.streams)))))) (c.in_ok-push_number.ensures)
    (put_before c.push_number.new.out c.push_number-2.new.out c.push_number-6.new.out (number_after (codes " container ") c.args.image.now.container_sectors) (number_after (codes " containers ") c.args.image.now.containers ++ (number_after (codes " files ") c.args.image.now.files_made ++ (number_after (codes " listed ") (length c.args.image.now.files) ++ (number_after (codes " streams ") (length c.args.image.now.streams))))) (c.in_ok-push_number-2.ensures)
    (put_before c.push_number-2.new.out c.push_number-3.new.out c.push_number-6.new.out (number_after (codes " containers ") c.args.image.now.containers) (number_after (codes " files ") c.args.image.now.files_made ++ (number_after (codes " listed ") (length c.args.image.now.files) ++ (number_after (codes " streams ") (length c.args.image.now.streams)))) (c.in_ok-push_number-3.ensures)
    (put_before c.push_number-3.new.out c.push_number-4.new.out c.push_number-6.new.out (number_after (codes " files ") c.args.image.now.files_made) (number_after (codes " listed ") (length c.args.image.now.files) ++ (number_after (codes " streams ") (length c.args.image.now.streams))) (c.in_ok-push_number-4.ensures)
    (put_before c.push_number-4.new.out c.push_number-5.new.out c.push_number-6.new.out (number_after (codes " listed ") (length c.args.image.now.files)) (number_after (codes " streams ") (length c.args.image.now.streams)) (rw c.as_slice.ensures at c.in_ok-push_number-5.ensures)
    (e))))))
    (rw c.as_slice-2.ensures at c.push_number-6.ensures)
