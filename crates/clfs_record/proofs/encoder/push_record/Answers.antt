use Rattle.std.proofs.Common.{◌≡◌, ◌++◌, ℕ, ◌+◌, ◌-◌, List, length, replicate, ap, ◌∙◌, append_assoc}
use Rattle.clfs_lsn.specs.Format.{record_header}
use Rattle.clfs_lsn.specs.Spelling.{header_bytes, filling}
use Rattle.clfs_record.proofs.encoder.push_record.Goals as goal

-- three parts that were added one after the other
regroup : (old header content : List ℕ) (n : ℕ) (x y z : List ℕ) → x ≡ old ++ header → y ≡ x ++ content → z ≡ y ++ replicate n 0
    → z ≡ old ++ (header ++ (content ++ replicate n 0))
regroup old header content n x y z p q r =
    r ∙ ap (λ (l : List ℕ). l ++ replicate n 0) (q ∙ ap (λ (l : List ℕ). l ++ content) p)
    ∙ append_assoc (old ++ header) content (replicate n 0) ∙ append_assoc old header (content ++ replicate n 0)

pub returns-clause-ok : goal.returns-clause-ok
returns-clause-ok c =
    let e = c.args.entry.now in
    let kept : c.reserve.new.self.items ≡ c.args.out.now.items = c.reserve.ensures.items in
    let header : c.push_reserved.new.out.items ≡ c.reserve.new.self.items ++ c.header_of.result = c.push_reserved.ensures.items in
    let content : c.push_reserved-2.new.out.items ≡ c.push_reserved.new.out.items ++ c.as_slice-data.result.now = c.push_reserved-2.ensures.items in
    let zeros : c.push_zeros.new.out.items ≡ c.push_reserved-2.new.out.items ++ replicate (c.size_of_record-size.result - (record_header + length c.as_slice-data.result.now)) 0 =
    c.push_zeros.ensures.items in
    let same : c.as_slice-data.result.now ≡ e.bytes = c.as_slice-data.ensures in
    let count : c.size_of_record-size.result - (record_header + length c.as_slice-data.result.now) ≡ filling (length e.bytes) =
    ap (λ (n : ℕ). n - (record_header + length c.as_slice-data.result.now)) c.size_of_record-size.ensures
    ∙ ap (λ (l : List ℕ). filling (length l)) same in
    regroup c.args.out.now.items (header_bytes e) e.bytes (filling (length e.bytes))
    c.push_reserved.new.out.items c.push_reserved-2.new.out.items c.push_zeros.new.out.items
    (header ∙ ap (λ (l : List ℕ). l ++ c.header_of.result) kept ∙ ap (λ (l : List ℕ). c.args.out.now.items ++ l) c.header_of.ensures)
    (content ∙ ap (λ (l : List ℕ). c.push_reserved.new.out.items ++ l) same)
    (zeros ∙ ap (λ (n : ℕ). c.push_reserved-2.new.out.items ++ replicate n 0) count)
