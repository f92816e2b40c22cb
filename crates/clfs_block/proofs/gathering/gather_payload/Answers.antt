use Rattle.clfs_block.proofs.Words.{◌≡◌, ◌+◌, ◌-◌, ◌≤◌, ◌++◌, ℕ, List, length, take, drop, sym, ◌∙◌, ap, arith, append_assoc, length-drop, drop_at, drop-drop}
use Rattle.clfs_block.proofs.Words.{length-take-le, place_of, payload_from}
use Rattle.std.proofs.lemmas.List.{take_at}
use Rattle.clfs_block.proofs.Frames.{length-payload_from, payload_more}
use Rattle.clfs_block.proofs.gathering.gather_payload.Goals as goal

module _ (front piece old out : List ℕ) (at : ℕ) (is : out ≡ front ++ drop at old) (size : length front ≡ at) where
  -- a piece that is put after a front of bytes goes on with it
  put_behind : take at out ++ (piece ++ drop (at + length piece) out) ≡ (front ++ piece) ++ drop (at + length piece) old
  put_behind =
      let n = length piece in
      ap (λ (l : List ℕ). take at l ++ (piece ++ drop (at + n) l)) is
      ∙ ap (λ (l : List ℕ). l ++ (piece ++ drop (at + n) (front ++ drop at old))) (take_at front (drop at old) at size)
      ∙ ap (λ (l : List ℕ). front ++ (piece ++ l))
      (sym (drop-drop n at (front ++ drop at old)) ∙ ap (λ (l : List ℕ). drop n l) (drop_at front (drop at old) at size) ∙ drop-drop n at old)
      ∙ sym (append_assoc front piece (drop (at + n) old))

pub put_bytes-requires : goal.put_bytes-requires
put_bytes-requires c =
    let block = c.args.block.now in
    let place = place_of c.loop-at.at in
    omega (
      arith,
      c.min-part.ensures,
      c.requires.room,
      c.loop-at.auto.out,
      c.loop-at-test.true,
      length-take-le (place + c.min-part.result - place) (drop place block)
          (omega (arith, length-drop place block, c.min-part.ensures, c.loop-at-test.true, c.requires.whole)),
    )

pub loop-at-preserved : goal.loop-at-preserved
loop-at-preserved c =
    let at = c.loop-at.at in
    let block = c.args.block.now in
    let old = c.args.out.now in
    let part = c.min-part.result in
    let kept = c.loop-at.invariant in
    let front : List ℕ = payload_from 0 at block in
    let piece : List ℕ = take part (drop (place_of at) block) in
    let fits : place_of at + part ≤ length block = omega (arith, c.min-part.ensures, c.loop-at-test.true, c.requires.whole) in
    let size : length piece ≡ part = length-take-le part (drop (place_of at) block) (omega (arith, length-drop (place_of at) block, fits)) in
    let from_zero : at ≡ 0 + at = omega arith in
    let part_is : place_of at + part - place_of at ≡ part = omega arith in
    record {
      high = omega (arith, c.min-part.ensures, c.loop-at-test.true);
      so_far = c.put_bytes.ensures
          ∙ ap (λ (k : ℕ). take at c.loop-at.out ++ (take k (drop (place_of at) block) ++ drop (at + length (take k (drop (place_of at) block))) c.loop-at.out)) part_is
          ∙ put_behind front piece old c.loop-at.out at kept.so_far (length-payload_from 0 at block)
          ∙ ap (λ (k : ℕ). (front ++ piece) ++ drop (at + k) old) size
          ∙ ap (λ (k : ℕ). (front ++ take part (drop (place_of k) block)) ++ drop (at + part) old) from_zero
          ∙ ap (λ (l : List ℕ). l ++ drop (at + part) old) (payload_more 0 at part block (omega (arith, c.min-part.ensures)) (omega (arith, fits)));
    }
