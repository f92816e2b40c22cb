use Rattle.clfs_base.proofs.Words.{ℕ, ◌≤◌, List, sym, ap, subst, ◌∙◌, Row, Numbers, most_containers, files_in, rows_of, image_with}
use Rattle.clfs_base.proofs.AskedFields.{few_asked}
use Rattle.clfs_base.proofs.decoder.decode_as.Goals as goal

pub read_files-requires : goal.read_files-requires
read_files-requires c =
    subst (λ (n : Numbers). n.listed ≤ most_containers) (sym c.numbers_of-numbers.ensures)
    (few_asked c.args.demands.now c.args.layout.now c.args.bytes.now (sym c.fault_within.ensures ∙ c.in_default.is))

pub returns : goal.returns
returns c =
    let bytes = c.args.bytes.now in
    let n = c.numbers_of-numbers.result in (
      sym c.fault_within.ensures ∙ c.in_default.is,
      c.image.ensures ∙ ap (λ (l : List ℕ). image_with n l c.in_ok-streams.streams) c.in_ok-files.ensures
          ∙ ap (λ (r : List Row). image_with n (files_in bytes n.listed) r) c.in_ok-streams.ensures
          ∙ ap (λ (k : Numbers). image_with k (files_in bytes k.listed) (rows_of c.args.layout.now bytes k.streams)) c.numbers_of-numbers.ensures,
    )
