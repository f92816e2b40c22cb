use Rattle.clfs_queue.proofs.Words.{◌≡◌, ◌+◌, ◌++◌, ◌∙◌, ℕ, List, length, drop, replicate, refl, sym, ap, arith, append_assoc, size, header_bytes, filling}
use Rattle.clfs_queue.proofs.Words.{LogEntry, payload_of, placed_record}
use Rattle.clfs_queue.proofs.writing.push_record.Goals as goal

pub returns-clause-payload : goal.returns-clause-payload
returns-clause-payload c = λ lsn.
    let from = c.args.from in
    let used = c.args.used in
    let bytes = c.args.bytes.now in
    let entry : LogEntry = placed_record lsn c.args.fields.now bytes in
    let first : List ℕ = payload_of used (drop from c.args.buffer.now.items) in
    let header : c.spell_header-header.result ≡ header_bytes entry = c.spell_header-header.ensures lsn bytes refl in
    let b1 : List ℕ = drop from c.push_payload.new.buffer.items in
    let b2 : List ℕ = drop from c.push_payload-2.new.buffer.items in
    let b3 : List ℕ = drop from c.push_filling.new.buffer.items in
    let long : length c.spell_header-header.result ≡ 32 = omega (arith, ap (λ (l : List ℕ). length l) header) in
    let one : payload_of (used + 32) b1 ≡ first ++ header_bytes entry =
    ap (λ (n : ℕ). payload_of (used + n) b1) (sym long) ∙ c.push_payload.ensures.payload ∙ ap (λ (l : List ℕ). first ++ l) header in
    let two : payload_of (used + 32 + length bytes) b2 ≡ first ++ header_bytes entry ++ bytes =
    c.push_payload-2.ensures.payload ∙ ap (λ (l : List ℕ). l ++ bytes) one in
    let zeros : List ℕ = replicate (filling (length bytes)) 0 in
    let three : payload_of (used + 32 + length bytes + filling (length bytes)) b3 ≡ first ++ header_bytes entry ++ bytes ++ zeros =
    c.push_filling.ensures.payload ∙ ap (λ (l : List ℕ). l ++ zeros) two in
    let count : used + size (length bytes) ≡ used + 32 + length bytes + filling (length bytes) = omega arith in
    ap (λ (n : ℕ). payload_of n b3) count ∙ three ∙ append_assoc (first ++ header_bytes entry) bytes zeros ∙ append_assoc first (header_bytes entry) (bytes ++ zeros)
