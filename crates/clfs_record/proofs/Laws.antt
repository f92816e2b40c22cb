-- What is read is spelled so, and what is spelled so is read.
use Rattle.std.proofs.Common.{◌≡◌, ℕ, ◌+◌, ◌<◌, ◌≤◌, ◌^◌, max, List, [], ◌++◌, length, take, drop, replicate, cond, eqb, not, Option}
use Rattle.std.proofs.Common.{None, Result, Ok}
use Rattle.std.proofs.Common.{refl, sym, ◌∙◌, ap, subst, arith, append_assoc, length-append, length-drop, take-append-drop}
use Rattle.std.specs.Option.{option_map}
use Rattle.std.specs.List.{position}
use Rattle.std.proofs.lemmas.List.{take_at, drop_at, length-take-le, drop-drop, length-replicate, append_cancel_left}
use Rattle.std.proofs.lemmas.Bool.{ltb-false, le-ltb}
use Rattle.byteorder.specs.Numbers.{little_number-reads_back, little_from-lt}
use Rattle.clfs_lsn.specs.Format.{record_header}
use Rattle.clfs_lsn.specs.Size.{size}
use Rattle.clfs_lsn.specs.declared.entry.Kind.{Kind}
use Rattle.clfs_lsn.specs.declared.entry.Kind.TheVariants.{Plain, Restart}
use Rattle.clfs_lsn.specs.declared.entry.LogEntry.{LogEntry}
use Rattle.clfs_lsn.specs.Spelling.{kind_byte, filling, record_bytes, BaseFits, FitsAt, Header, header_of, header_fault, filling_fault}
use Rattle.clfs_lsn.specs.Spelling.{entry_of, record_at}
use Rattle.clfs_lsn.specs.Checks.{unless_wrong, unless_ok, guard_ok, pass_guard}
use Rattle.clfs_record.proofs.Checks.{right, passes, kind_back, kind_kept, base_back, all_zero, zeros_pass, mapped_none}
use Rattle.clfs_record.proofs.Headers.{IsBytes, header_spelled, header_takes}

abbrev answered : LogEntry × ℕ → Result (LogEntry × ℕ) ℕ
answered x = Ok x

-- the four checks that a record passes
pub record_read : (lsn streams : ℕ) (bytes : List ℕ) → record_header ≤ length bytes → size (header_of bytes).len ≤ length bytes
    → header_fault lsn streams (header_of bytes) ≡ None
    → filling_fault (header_of bytes).len bytes ≡ None → record_at lsn streams bytes ≡ answered (entry_of lsn bytes, size (header_of bytes).len)
unfolding record_at
record_read lsn streams bytes long whole header zeros =
    pass_guard _ 0 _ _ (le-ltb (length bytes) record_header long)
    (pass_guard _ 0 _ _ (le-ltb (length bytes) (size (header_of bytes).len) whole)
    (ap (λ (o : Option ℕ). unless_wrong (λ at. at) o (unless_wrong (λ at. at) (filling_fault (header_of bytes).len bytes)
    (answered (entry_of lsn bytes, size (header_of bytes).len)))) header
    ∙ ap (λ (o : Option ℕ). unless_wrong (λ at. at) o (answered (entry_of lsn bytes, size (header_of bytes).len))) zeros))

pub length-record_bytes : (entry : LogEntry) → length (record_bytes entry) ≡ size (length entry.bytes)
length-record_bytes entry = omega (
  arith,
  length-append entry.bytes (replicate (filling (length entry.bytes)) 0),
  length-replicate {A = ℕ}
      (filling (length entry.bytes)) 0,
)

header_for : LogEntry → Header
header_for e = record { len = length e.bytes; stream = e.stream; kind = kind_byte e.kind; zero = 0; previous = e.previous; undo_next = e.undo_next; new_base = e.new_base }

-- a record's bytes are its header's, its data and its filling
spelled : (e : LogEntry) (rest : List ℕ) → record_bytes e ++ rest ≡ header_spelled (header_for e) (e.bytes ++ (replicate (filling (length e.bytes)) 0 ++ rest))
unfolding header_spelled header_for
spelled e rest = ap (λ (l : List ℕ). header_spelled (header_for e) l) (append_assoc e.bytes (replicate (filling (length e.bytes)) 0) rest)

-- a header's numbers before data of its length are a record's
joined : (lsn : ℕ) (h : Header) (bytes rest : List ℕ) (e : LogEntry) → length bytes ≡ h.len → kind_byte (cond (eqb h.kind 1) Plain Restart) ≡ h.kind
    → h.zero ≡ 0
    → e ≡ record {
      lsn = lsn;
      stream = h.stream;
      kind = cond
          (eqb h.kind 1) Plain Restart;
      previous = h.previous;
      undo_next = h.undo_next;
      new_base = h.new_base;
      bytes = bytes;
    }
    → header_spelled h (bytes ++ (replicate (filling h.len) 0 ++ rest)) ≡ record_bytes e ++ rest
unfolding header_spelled header_for
joined lsn h bytes rest e size_is kind_is zero_is is =
    ap (λ (n : ℕ). header_spelled (record h { len = n }) (bytes ++ (replicate (filling n) 0 ++ rest))) (sym size_is)
    ∙ ap (λ (k : ℕ). header_spelled (record h { len = length bytes; kind = k }) (bytes ++ (replicate (filling (length bytes)) 0 ++ rest))) (sym kind_is)
    ∙ ap (λ (z : ℕ). header_spelled (record h { len = length bytes; kind = kind_byte (cond (eqb h.kind 1) Plain Restart); zero = z })
    (bytes ++ (replicate (filling (length bytes)) 0 ++ rest))) zero_is
    ∙ sym (ap (λ (x : LogEntry). header_spelled (header_for x) (x.bytes ++ (replicate (filling (length x.bytes)) 0 ++ rest))) is)
    ∙ sym (spelled e rest)

-- what stands after a header is its data, its filling and what follows
body_splits : (len : ℕ) (body : List ℕ) → take (filling len) (drop len body) ≡ replicate (filling len) 0
    → body ≡ take len body ++ (replicate (filling len) 0 ++ drop (filling len) (drop len body))
body_splits len body zeros =
    sym (ap (λ (l : List ℕ). take len body ++ l)
    (ap (λ (l : List ℕ). l ++ drop (filling len) (drop len body)) (sym zeros) ∙ take-append-drop (filling len) (drop len body))
    ∙ take-append-drop len body)

read_is : (x y : LogEntry × ℕ) → answered x ≡ answered y → x ≡ y
read_is x y e = cc e

-- what is read lies whole in the bytes
pub read_whole : (lsn streams : ℕ) (bytes : List ℕ) (x : LogEntry × ℕ) → record_at lsn streams bytes ≡ Ok x → size (header_of bytes).len ≤ length bytes
unfolding record_at
read_whole lsn streams bytes x is =
    let a = guard_ok _ _ _ _ is in
    let b = guard_ok _ _ _ _ a.1 in
    let long : record_header ≤ length bytes = ltb-false _ _ a.0 in
    ltb-false _ _ b.0

-- what is read is a record that fits, where its length is a number of four bytes
pub read_fits : (lsn streams : ℕ) (bytes : List ℕ) (x : LogEntry × ℕ) → (header_of bytes).len < 2 ^ 32 → record_at lsn streams bytes ≡ Ok x
    → FitsAt lsn streams x.0 × (x.1 ≡ size (length x.0.bytes)) × (x.1 ≤ length bytes)
unfolding record_at
read_fits lsn streams bytes x small is =
    let h = header_of bytes in
    let whole = read_whole lsn streams bytes x is in
    let a = guard_ok _ _ _ _ is in
    let b = guard_ok _ _ _ _ a.1 in
    let c = unless_ok (λ at. at) _ _ _ b.1 in
    let d = unless_ok (λ at. at) _ _ _ c.1 in
    let long : record_header ≤ length bytes = ltb-false _ _ a.0 in
    let fits_in : size h.len ≤ length bytes = ltb-false _ _ b.0 in
    let good = right lsn streams h c.0 in
    let clean : position (λ b. not (eqb b 0)) (take (filling h.len) (drop (record_header + h.len) bytes)) ≡ None = mapped_none _ _ d.0 in
    let body = drop record_header bytes in
    let data_size : length (take h.len body) ≡ h.len = length-take-le h.len body (omega (arith, whole, length-drop record_header bytes)) in
    subst (λ (y : LogEntry × ℕ). FitsAt lsn streams y.0 × (y.1 ≡ size (length y.0.bytes)) × (y.1 ≤ length bytes)) (read_is _ _ d.1) (
      record {
        at = refl;
        some_stream = good.some_stream;
        stream = good.stream;
        bytes = omega (arith, data_size, small);
        previous = good.previous;
        undo_next = good.undo_next;
        new_base = base_back h.kind h.new_base lsn good.base;
      },
      sym (ap size data_size),
      whole,
    )

-- bytes that aren't larger numbers spell what is read from them
pub found : (lsn streams : ℕ) (bytes : List ℕ) (x : LogEntry × ℕ) → IsBytes bytes → record_at lsn streams bytes ≡ Ok x
    → (take x.1 bytes ≡ record_bytes x.0) × FitsAt lsn streams x.0
unfolding record_at
found lsn streams bytes x fits is =
    let h = header_of bytes in
    let body = drop record_header bytes in
    let a = guard_ok _ _ _ _ is in
    let b = guard_ok _ _ _ _ a.1 in
    let c = unless_ok (λ at. at) _ _ _ b.1 in
    let d = unless_ok (λ at. at) _ _ _ c.1 in
    let long : record_header ≤ length bytes = ltb-false _ _ a.0 in
    let whole : size h.len ≤ length bytes = ltb-false _ _ b.0 in
    let good = right lsn streams h c.0 in
    let clean : position (λ b. not (eqb b 0)) (take (filling h.len) (drop (record_header + h.len) bytes)) ≡ None = mapped_none _ _ d.0 in
    let n = filling h.len in
    let long_body : h.len + n ≤ length body = omega (arith, whole, length-drop record_header bytes) in
    let data_size : length (take h.len body) ≡ h.len = length-take-le h.len body (omega (arith, long_body)) in
    let zeros : take n (drop h.len body) ≡ replicate n 0 =
    ap (λ (l : List ℕ). take n l) (drop-drop h.len record_header bytes) ∙ all_zero (take n (drop (record_header + h.len) bytes)) clean
    ∙ ap (λ (k : ℕ). replicate k 0) (length-take-le n (drop (record_header + h.len) bytes)
    (omega (arith, long_body, length-drop record_header bytes, length-drop (record_header + h.len) bytes))) in
    let all : bytes ≡ record_bytes (entry_of lsn bytes) ++ drop n (drop h.len body) =
    header_takes bytes long fits ∙ ap (header_spelled h) (body_splits h.len body zeros)
    ∙ joined lsn h (take h.len body) (drop n (drop h.len body)) (entry_of lsn bytes) data_size (kind_back h.kind good.kind) good.zero_is refl in
    let x_is : (entry_of lsn bytes, size h.len) ≡ x = read_is _ _ d.1 in (
      subst (λ (y : LogEntry × ℕ). take y.1 bytes ≡ record_bytes y.0) x_is
          (ap (λ (l : List ℕ). take (size h.len) l) all
          ∙ take_at (record_bytes (entry_of lsn bytes)) (drop n (drop h.len body)) (size h.len) (length-record_bytes (entry_of lsn bytes) ∙ ap size data_size)),
      (read_fits lsn streams bytes x (omega (arith, little_from-lt 0 4 bytes fits)) is).0,
    )

-- ---- and back

same_header : (lsn streams : ℕ) (e : LogEntry) (rest : List ℕ) → FitsAt lsn streams e → lsn < 2 ^ 64 → streams < 2 ^ 16
    → header_of (record_bytes e ++ rest) ≡ header_for e
unfolding header_for
same_header lsn streams e rest fits lsn_small streams_small =
    let len_is = little_number-reads_back 4 (length e.bytes) [] (omega (arith, fits.bytes)) in
    let stream_is = little_number-reads_back 2 e.stream [] (omega (arith, fits.stream, streams_small)) in
    let previous_is = little_number-reads_back 8 e.previous [] (omega (arith, fits.previous, lsn_small)) in
    let undo_is = little_number-reads_back 8 e.undo_next [] (omega (arith, fits.undo_next, lsn_small)) in
    let base_is = little_number-reads_back 8 e.new_base [] (base_small e.kind e.new_base fits.new_base) in
    λ i. record { len = len_is i; stream = stream_is i; kind = kind_byte e.kind; zero = 0; previous = previous_is i; undo_next = undo_is i; new_base = base_is i }
  where
    base_small : (kind : Kind) (base : ℕ) → BaseFits kind lsn base → base < 256 ^ 8
    base_small Plain base is = omega (arith, is)
    base_small Restart base le = omega (arith, le, lsn_small)

pub only : (lsn streams : ℕ) (e : LogEntry) (rest bytes : List ℕ) → FitsAt lsn streams e → lsn < 2 ^ 64 → streams < 2 ^ 16 → bytes ≡ record_bytes e ++ rest
    → record_at lsn streams bytes ≡ Ok (e, size (length e.bytes))
unfolding header_for
only lsn streams e rest bytes fits lsn_small streams_small is =
    let len = length e.bytes in
    let zeros : List ℕ = replicate (filling len) 0 in
    let h_is : header_of bytes ≡ header_for e = ap header_of is ∙ same_header lsn streams e rest fits lsn_small streams_small in
    let len_is : (header_of bytes).len ≡ len = ap (λ (h : Header). h.len) h_is in
    let long : length bytes ≡ size len + length rest = ap (λ (l : List ℕ). length l) is ∙ length-append (record_bytes e) rest ∙ ap
    (λ (k : ℕ). k + length rest) (length-record_bytes e) in
    let body_is : drop record_header bytes ≡ e.bytes ++ (zeros ++ rest) = ap (λ (l : List ℕ). drop record_header l) is ∙ append_assoc e.bytes zeros rest in
    let data_is : take len (drop record_header bytes) ≡ e.bytes = ap (λ (l : List ℕ). take len l) body_is ∙ take_at e.bytes (zeros ++ rest) len refl in
    let fill_is : take (filling len) (drop (record_header + len) bytes) ≡ zeros =
    ap (λ (l : List ℕ). take (filling len) l) (sym (drop-drop len record_header bytes) ∙ ap (λ (l : List ℕ). drop len l) body_is
    ∙ drop_at e.bytes (zeros ++ rest) len refl)
    ∙ take_at zeros rest (filling len) (length-replicate (filling len) 0) in
    let clean : filling_fault len bytes ≡ None =
    ap (λ (l : List ℕ). option_map (λ at. record_header + len + at) (position (λ b. not (eqb b 0)) l)) fill_is
    ∙ ap (λ (o : Option ℕ). option_map (λ at. record_header + len + at) o) (zeros_pass (filling len)) in
    let right : header_fault lsn streams (header_of bytes) ≡ None = ap (header_fault lsn streams) h_is
    ∙ passes lsn streams len e.stream e.kind e.previous e.undo_next e.new_base fits.some_stream fits.stream fits.previous fits.undo_next fits.new_base in
    let same : entry_of lsn bytes ≡ e = same_entry h_is (ap (λ (n : ℕ). take n (drop record_header bytes)) len_is ∙ data_is) (sym fits.at) in
    record_read lsn streams bytes (omega (arith, long)) (omega (arith, long, len_is)) right (subst (λ (n : ℕ). filling_fault n bytes ≡ None) (sym len_is) clean)
    ∙ ap (λ (x : LogEntry). answered (x, size (header_of bytes).len)) same ∙ ap (λ (n : ℕ). answered (e, size n)) len_is
  where
    same_entry : header_of bytes ≡ header_for e → take (header_of bytes).len (drop record_header bytes) ≡ e.bytes → lsn ≡ e.lsn → entry_of lsn bytes ≡ e
    same_entry h_is data_is at = λ i. record {
      lsn = at i;
      stream = (h_is i).stream;
      kind = (ap (λ (k : ℕ). cond (eqb k 1) Plain Restart) (ap (λ (h : Header). h.kind) h_is) ∙ kind_kept e.kind) i;
      previous = (h_is i).previous;
      undo_next = (h_is i).undo_next;
      new_base = (h_is i).new_base;
      bytes = data_is i;
    }

-- spellings of two records at one LSN with the same bytes are the same record's
pub one_spelling : (lsn streams others : ℕ) (a b : LogEntry) (x y : List ℕ) → lsn < 2 ^ 64 → streams < 2 ^ 16 → others < 2 ^ 16
    → FitsAt lsn streams a → FitsAt lsn others b → record_bytes a ++ x ≡ record_bytes b ++ y → (a ≡ b) × (x ≡ y)
one_spelling lsn streams others a b x y lsn_small streams_small others_small fits_a fits_b same =
    let most = max streams others in
    let one = only lsn most a x (record_bytes a ++ x) (record {
      at = fits_a.at;
      some_stream = fits_a.some_stream;
      stream =
          omega (arith, fits_a.stream);
      bytes = fits_a.bytes;
      previous = fits_a.previous;
      undo_next = fits_a.undo_next;
      new_base = fits_a.new_base;
    })
    lsn_small (omega (arith, streams_small, others_small)) refl in
    let other = only lsn most b y (record_bytes a ++ x) (record {
      at = fits_b.at;
      some_stream = fits_b.some_stream;
      stream =
          omega (arith, fits_b.stream);
      bytes = fits_b.bytes;
      previous = fits_b.previous;
      undo_next = fits_b.undo_next;
      new_base = fits_b.new_base;
    })
    lsn_small (omega (arith, streams_small, others_small)) same in
    let is : a ≡ b = ap (λ (z : LogEntry × ℕ). z.0) (read_is _ _ (sym one ∙ other)) in
    (is, append_cancel_left (record_bytes b) x y (ap (λ (e : LogEntry). record_bytes e ++ x) (sym is) ∙ same))
