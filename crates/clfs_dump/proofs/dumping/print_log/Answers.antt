use Rattle.clfs_dump.proofs.Words.{ℕ, List, [], ◌++◌, Ok, Err, sym, ◌∙◌, subst, err_from_is_err_and, frontier, Row, shape_of, stream_lines, only, then_told}
use Rattle.clfs_dump.proofs.Words.{listed_told, place_at, log_end, as_dump}
use Rattle.clfs_dump.specs.Lines.{log_line}
use Rattle.clfs_dump.proofs.Walks.{PrintsTold}
use Rattle.clfs_dump.proofs.PrintedParts.{prints_behind, prints_no_more, prints_first, prints_next, prints_refusal}
use Rattle.clfs_dump.proofs.Written.{appends_none, front_of_all, front_longer}
use Rattle.clfs_dump.proofs.dumping.print_log.Goals as goal

pub returns-in_err-print_text-clause-told : goal.returns-in_err-print_text-clause-told
returns-in_err-print_text-clause-told g c tells =
    let p = err_from_is_err_and c.from_residual.result c.from_residual.ensures.1 in
    let image = c.args.image.now in
    let lines = log_line c.args.slot image ++ stream_lines 1 image.streams in
    let listed = listed_told c.args.selection.now image.streams (shape_of image) (g.D.Disk.state c.args.disk.now).files image.first 0 image.files in
    let rest = then_told listed (λ end. only (log_end c.args.slot image (frontier (place_at image end)))) in
    rw (p.1, p.2) (prints_no_more (g.K.Sink.written c.args.sink.now) (g.K.Sink.written c.print_text.new.sink) lines rest.text tt rest.found
    c.in_err-print_text.field-0.0 (c.in_err-print_text.ensures.told lines c.image_text.ensures))

pub returns-in_err-piece-clause-told : goal.returns-in_err-piece-clause-told
returns-in_err-piece-clause-told g c tells =
    let p = err_from_is_err_and c.from_residual-in_err-piece.result c.from_residual-in_err-piece.ensures.1 in
    let image = c.args.image.now in
    let lines = log_line c.args.slot image ++ stream_lines 1 image.streams in
    let listed = listed_told c.args.selection.now image.streams (shape_of image) (g.D.Disk.state c.args.disk.now).files image.first 0 image.files in
    let rest = then_told listed (λ end. only (log_end c.args.slot image (frontier (place_at image end)))) in
    let a = g.K.Sink.written c.args.sink.now in
    let b = g.K.Sink.written c.print_text.new.sink in
    rw (p.1, p.2) (front_longer a b lines rest.text (front_of_all a b lines (c.in_ok-print_text.ensures.told lines c.image_text.ensures).0))

pub returns-in_err-end-clause-told : goal.returns-in_err-end-clause-told
returns-in_err-end-clause-told g c tells =
    let p = err_from_is_err_and c.from_residual-in_err-end.result c.from_residual-in_err-end.ensures.1 in
    let image = c.args.image.now in
    let files = (g.D.Disk.state c.args.disk.now).files in
    let lines = log_line c.args.slot image ++ stream_lines 1 image.streams in
    let listed = listed_told c.args.selection.now image.streams (shape_of image) files image.first 0 image.files in
    let rest = then_told listed (λ end. only (log_end c.args.slot image (frontier (place_at image end)))) in
    let a = g.K.Sink.written c.args.sink.now in
    let b = g.K.Sink.written c.print_text.new.sink in
    let d = g.K.Sink.written c.print_listed.new.sink in
    let printed = subst (λ (rows : List Row). PrintsTold {T = ℕ} b d (listed_told c.args.selection.now rows (shape_of image) files image.first 0 image.files) (Err c.in_err-end.field-0.0))
    c.as_slice-rows.ensures
    (subst (λ (numbers : List ℕ). PrintsTold {T = ℕ} b d (listed_told c.args.selection.now c.as_slice-rows.result.now (shape_of image) files image.first 0 numbers) (Err c.in_err-end.field-0.0))
    c.as_slice-files.ensures (c.in_err-end.ensures.told tells)) in
    rw (p.1, p.2) (prints_behind a b d lines rest.text rest.found (Err c.in_err-end.field-0.0) (c.in_ok-print_text.ensures.told lines c.image_text.ensures).0
    (prints_first b d listed (λ end. only (log_end c.args.slot image (frontier (place_at image end)))) c.in_err-end.field-0.0 printed))

pub returns-in_err-log_end-clause-told : goal.returns-in_err-log_end-clause-told
returns-in_err-log_end-clause-told g c tells =
    let p = err_from_is_err_and c.from_residual-in_err-log_end.result c.from_residual-in_err-log_end.ensures.1 in
    let image = c.args.image.now in
    let files = (g.D.Disk.state c.args.disk.now).files in
    let lines = log_line c.args.slot image ++ stream_lines 1 image.streams in
    let listed = listed_told c.args.selection.now image.streams (shape_of image) files image.first 0 image.files in
    let rest = then_told listed (λ end. only (log_end c.args.slot image (frontier (place_at image end)))) in
    let a = g.K.Sink.written c.args.sink.now in
    let b = g.K.Sink.written c.print_text.new.sink in
    let d = g.K.Sink.written c.print_listed.new.sink in
    let printed = subst (λ (rows : List Row). PrintsTold {T = ℕ} b d (listed_told c.args.selection.now rows (shape_of image) files image.first 0 image.files) (Ok c.in_ok-end.end))
    c.as_slice-rows.ensures
    (subst (λ (numbers : List ℕ). PrintsTold {T = ℕ} b d (listed_told c.args.selection.now c.as_slice-rows.result.now (shape_of image) files image.first 0 numbers) (Ok c.in_ok-end.end))
    c.as_slice-files.ensures (c.in_ok-end.ensures.told tells)) in
    let refusal = c.in_err-log_end.field-0.0 in
    rw (p.1, p.2) (prints_behind a b d lines rest.text rest.found (Err (as_dump refusal)) (c.in_ok-print_text.ensures.told lines c.image_text.ensures).0
    (prints_next b d listed (λ end. only (log_end c.args.slot image (frontier (place_at image end)))) c.in_ok-end.end d (Err (as_dump refusal)) printed
    (prints_refusal d d [] (log_end c.args.slot image (frontier (place_at image c.in_ok-end.end))) refusal (appends_none d)
    (sym c.log_end.ensures ∙ c.in_err-log_end.was))))

pub returns-clause-told : goal.returns-clause-told
returns-clause-told g c tells =
    let image = c.args.image.now in
    let files = (g.D.Disk.state c.args.disk.now).files in
    let lines = log_line c.args.slot image ++ stream_lines 1 image.streams in
    let listed = listed_told c.args.selection.now image.streams (shape_of image) files image.first 0 image.files in
    let rest = then_told listed (λ end. only (log_end c.args.slot image (frontier (place_at image end)))) in
    let a = g.K.Sink.written c.args.sink.now in
    let b = g.K.Sink.written c.print_text.new.sink in
    let d = g.K.Sink.written c.print_listed.new.sink in
    let printed = subst (λ (rows : List Row). PrintsTold {T = ℕ} b d (listed_told c.args.selection.now rows (shape_of image) files image.first 0 image.files) (Ok c.in_ok-end.end))
    c.as_slice-rows.ensures
    (subst (λ (numbers : List ℕ). PrintsTold {T = ℕ} b d (listed_told c.args.selection.now c.as_slice-rows.result.now (shape_of image) files image.first 0 numbers) (Ok c.in_ok-end.end))
    c.as_slice-files.ensures (c.in_ok-end.ensures.told tells)) in
    prints_behind a b d lines rest.text rest.found (Ok c.in_ok-log_end.field-0) (c.in_ok-print_text.ensures.told lines c.image_text.ensures).0
    (prints_next b d listed (λ end. only (log_end c.args.slot image (frontier (place_at image end)))) c.in_ok-end.end d (Ok c.in_ok-log_end.field-0) printed
    (appends_none d, sym c.log_end.ensures ∙ c.in_ok-log_end.was))
