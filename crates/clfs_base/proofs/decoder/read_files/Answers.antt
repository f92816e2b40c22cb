use Rattle.clfs_base.proofs.Words.{◌≡◌, ◌∷◌, ◌++◌, [], ℕ, List, length, ap, sym, ◌∙◌, arith, length-map-range_with_len, map-range_with_len_more, number_at}
use Rattle.clfs_base.proofs.Words.{file_in, files_in}
use Rattle.clfs_base.proofs.decoder.read_files.Goals as goal

pub push-requires : goal.push-requires
push-requires c =
    let bytes = c.args.bytes.now in
    let so_far : length c.loop-i.files ≡ c.loop-i.i =
    ap (λ (l : List ℕ). length l) c.loop-i.invariant ∙ length-map-range_with_len (file_in bytes) 0 c.loop-i.i in
    omega (arith, so_far, c.requires, c.loop-i-test.true)

pub loop-i-preserved : goal.loop-i-preserved
loop-i-preserved c =
    let i = c.loop-i.i in
    let bytes = c.args.bytes.now in
    let here : c.number_2.result ≡ file_in bytes i = c.number_2.ensures ∙ ap (λ (at : ℕ). number_at at 2 bytes) c.file_place.ensures in
    c.push.ensures ∙ ap (λ (l : List ℕ). l ++ c.number_2.result ∷ []) c.loop-i.invariant
    ∙ ap (λ (n : ℕ). files_in bytes i ++ n ∷ []) here ∙ sym (map-range_with_len_more (file_in bytes) 0 i i (omega arith))

pub returns : goal.returns
returns c =
    let last : c.loop-i.i ≡ c.args.listed = omega (arith, c.loop-i-test.false, c.loop-i.auto.i-end) in
    c.loop-i.invariant ∙ ap (files_in c.args.bytes.now) last
