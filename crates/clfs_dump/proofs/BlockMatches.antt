-- What is told of a block, against what reading its records gives.
use Rattle.clfs_dump.proofs.Words.{◌≡◌, ℕ, zero, suc, ◌+◌, ◌*◌, cond, List, [], ◌∷◌, length, get_or, drop, Option, Some, None, Result, Ok, Err, refl, sym}
use Rattle.clfs_dump.proofs.Words.{◌∙◌, ap, arith, unless_wrong, lsn_number, record_at, LogEntry, Shape, Row, block_sectors, payload_of, frame_at, sectors_at}
use Rattle.clfs_dump.proofs.Words.{rest_at, AreReadAsWritten, ◌>>=◌, told_as, records_from, block_records, BlockHead, BlockRefusal, damage_at, Told, met_with}
use Rattle.clfs_dump.proofs.Words.{records_met, block_end, framed_told, block_told, Selection}
use Rattle.std.proofs.Common.{Bool, true, false, not, eqb, ltb}
use Rattle.std.proofs.lemmas.List.{get_or-drop}
use Rattle.std.proofs.lemmas.Bool.{eq-eqb}
use Rattle.clfs_block.specs.Frame.{place_of}
use Rattle.clfs_block.specs.Checks.{head_of, head_fault, wrong_sector, address_place, other_byte, payload_place}
use Rattle.clfs_block.specs.RecordLaws.{block_framed, block_refused}
use Rattle.clfs_block.specs.declared.head.BlockRefusal.TheVariants as blocks
use Rattle.clfs_dump.proofs.BlockTold.{told_refused}

-- ---- answers that come of earlier ones

-- where a later answer is a value, the earlier one was
pub record IsBound {A B E : Type 0} (r : Result A E) (next : A → Result B E) (value : B) : Type 0 where
  pub first : A
  pub is : r ≡ Ok first
  pub then : next first ≡ Ok value

pub bound : {A B E : Type 0} (r : Result A E) (next : A → Result B E) (value : B) → (r >>= next) ≡ Ok value → IsBound r next value
bound (Ok a) next value e = record { first = a; is = refl; then = e }
bound (Err x) next value e = absurd (cc e)

told_value : {A E F : Type 0} (told : E → F) (r : Result A E) (value : A) → told_as told r ≡ Ok value → r ≡ Ok value
told_value told (Ok a) value e = cc e
told_value told (Err x) value e = absurd (cc e)

-- ---- the records of a block

abbrev read : List LogEntry → Result (List LogEntry) ℕ
read entries = Ok entries

none_left : (b : Bool) (entries : List LogEntry) → cond b (read []) (Err 8) ≡ Ok entries → [] ≡ entries
none_left true entries e = cc e
none_left false entries e = absurd (cc e)

-- Where all records of a block are read, they are those that are met.
pub all_met : (streams : ℕ) (payload : List ℕ) (count lsn p : ℕ) (entries : List LogEntry) → records_from streams payload count lsn p ≡ Ok entries
    → records_met streams payload count lsn p ≡ entries
all_met streams payload zero lsn p entries is = none_left (eqb p (length payload)) entries is
all_met streams payload (suc n) lsn p entries is =
    by_record (λ size es. all_met streams payload n (lsn + 1) (p + size) es) (record_at lsn streams (drop p payload)) is
  where
    by_record : ((size : ℕ) (es : List LogEntry) → records_from streams payload n (lsn + 1) (p + size) ≡ Ok es
        → records_met streams payload n (lsn + 1) (p + size) ≡ es) → (r : Result (LogEntry × ℕ) ℕ)
        → (told_as (λ at. place_of (p + at)) r >>= λ (x : LogEntry × ℕ).
        (records_from streams payload n (lsn + 1) (p + x.1) >>= λ (es : List LogEntry). Ok (x.0 ∷ es))) ≡ Ok entries
        → met_with (λ size. records_met streams payload n (lsn + 1) (p + size)) r ≡ entries
    by_record others_met (Err at) e = absurd (cc e)
    by_record others_met (Ok (entry, size)) e =
        let more = bound (records_from streams payload n (lsn + 1) (p + size)) (λ (es : List LogEntry). Ok (entry ∷ es)) entries e in
        let rest = others_met size more.first more.is in
        let whole : entry ∷ more.first ≡ entries = cc more.then in
        ap (λ (l : List LogEntry). entry ∷ l) rest ∙ whole

-- ---- gates

-- the sectors that a block says to have
pub sectors_said : (bytes : List ℕ) → (head_of bytes).sectors ≡ block_sectors bytes
sectors_said bytes =
    let a = get_or-drop 2 bytes 0 0 ∙ ap (λ (k : ℕ). get_or bytes k 0) (plus 2 0 2 refl) in
    let b = get_or-drop 2 bytes 1 0 ∙ ap (λ (k : ℕ). get_or bytes k 0) (plus 2 1 3 refl) in
    omega (arith, a, b)
  where
    plus : (a b c : ℕ) → a + b ≡ c → a + b ≡ c
    plus a b c e = e

abbrev refused : BlockRefusal → Result BlockHead BlockRefusal
refused refusal = Err refusal

abbrev answered : BlockHead → Result BlockHead BlockRefusal
answered head = Ok head

past_test : (b : Bool) (at : ℕ) (r : Result BlockHead BlockRefusal) → cond b (Err (blocks.BadByte at)) r ≡ Err blocks.Closed → r ≡ Err blocks.Closed
past_test true at r e = absurd (cc e)
past_test false at r e = e

past_check : (o : Option ℕ) (r : Result BlockHead BlockRefusal) → unless_wrong blocks.BadByte o r ≡ Err blocks.Closed → r ≡ Err blocks.Closed
past_check None r e = e
past_check (Some at) r e = absurd (cc e)

past_gate : (b : Bool) (r : Result BlockHead BlockRefusal) → b ≡ false → cond b (Err blocks.Closed) r ≡ Err blocks.Closed → r ≡ Err blocks.Closed
past_gate true r p e = absurd (cc p)
past_gate false r p e = e

-- a block after an open gate isn't refused for a closed one
pub closed_gate : (shape : Shape) (start : ℕ) (bytes : List ℕ) → get_or bytes 0 0 ≡ 165 → frame_at shape start bytes ≡ Err blocks.Closed → ⊥
unfolding frame_at sectors_at
closed_gate shape start bytes gate e =
    let sum = (head_of bytes).sectors in
    let checked : Result BlockHead BlockRefusal =
    unless_wrong blocks.BadByte (address_place (wrong_sector start bytes sum)) (answered (head_of bytes)) in
    let whole : Result BlockHead BlockRefusal = cond (ltb (length bytes) (512 * sum)) (refused (blocks.BadByte (length bytes))) checked in
    let header : Result BlockHead BlockRefusal = unless_wrong blocks.BadByte (head_fault shape start bytes) whole in
    let first : Result BlockHead BlockRefusal = cond (ltb (length bytes) 512) (refused (blocks.BadByte (length bytes))) header in
    let a = past_test (eqb (length bytes) 0) 0 (cond (not (eqb (get_or bytes 0 0) 165)) (refused blocks.Closed) first) e in
    let b = past_gate (not (eqb (get_or bytes 0 0) 165)) first (ap not (eq-eqb (get_or bytes 0 0) 165 gate)) a in
    let c = past_test (ltb (length bytes) 512) (length bytes) header b in
    let d = past_check (head_fault shape start bytes) whole c in
    let f = past_test (ltb (length bytes) (512 * sum)) (length bytes) checked d in
    let h = past_check (address_place (wrong_sector start bytes sum)) (answered (head_of bytes)) f in
    cc h

-- nor is one for what is after its records
rest_has_no_gate : (bytes : List ℕ) (head : BlockHead) → rest_at bytes head ≡ Err blocks.Closed → ⊥
rest_has_no_gate bytes head is = by_place (payload_place (other_byte bytes head.used head.sectors)) is
  where
    by_place : (o : Option ℕ) → unless_wrong blocks.BadByte o (Ok head) ≡ Err blocks.Closed → ⊥
    by_place None e = cc e
    by_place (Some at) e = cc e

gate_behind : (r : Result (List LogEntry) ℕ) (s : Result BlockHead BlockRefusal)
    → (told_as blocks.BadByte r >>= λ (entries : List LogEntry). (s >>= λ (clean : BlockHead). Ok entries)) ≡ Err blocks.Closed → s ≡ Err blocks.Closed
gate_behind (Err k) s e = absurd (cc e)
gate_behind (Ok entries) (Ok head) e = absurd (cc e)
gate_behind (Ok entries) (Err refusal) e = (let same : refusal ≡ blocks.Closed = cc e in ap refused same)

-- ---- a block

abbrev unread : BlockRefusal → Result (List LogEntry) BlockRefusal
unread refusal = Err refusal

module _ (written : AreReadAsWritten) (selection : Selection) (rows : List Row) (shape : Shape) (container offset : ℕ) (bytes : List ℕ) where
  abbrev start : ℕ
  start = lsn_number container offset 0

  abbrev told : Told (Option ℕ)
  told = block_told selection rows shape container offset bytes

  -- what is told of a block after an open gate, by what reading it gives
  abbrev pub MatchesBlock : Result (List LogEntry) BlockRefusal → Type 0
  MatchesBlock (Ok entries) = (told.found ≡ Ok (Some (block_sectors bytes))) × (told.records ≡ entries)
  MatchesBlock (Err refusal) = told.found ≡ Err (damage_at container offset refusal)

  pub block_matches : get_or bytes 0 0 ≡ 165 → (r : Result (List LogEntry) BlockRefusal) → block_records shape (length rows) start bytes ≡ r → MatchesBlock r
  block_matches gate r is = by_frame (frame_at shape start bytes) refl r is
    where
      refused_end : (refusal : BlockRefusal) → (refusal ≡ blocks.Closed → ⊥) → block_end container offset 0 (Err refusal) ≡ Err (damage_at container offset refusal)
      refused_end blocks.Closed not_closed = absurd (not_closed refl)
      refused_end (blocks.BadByte at) not_closed = refl
      refused_end blocks.NoMemory not_closed = refl

      read_end : (n : ℕ) (refusal : BlockRefusal) → (refusal ≡ blocks.Closed → ⊥) → block_end container offset n (Err refusal) ≡ Err (damage_at container offset refusal)
      read_end n blocks.Closed not_closed = absurd (not_closed refl)
      read_end n (blocks.BadByte at) not_closed = refl
      read_end n blocks.NoMemory not_closed = refl

      one_refusal : (a b : BlockRefusal) → unread a ≡ unread b → a ≡ b
      one_refusal a b e = cc e

      no_value : (a : BlockRefusal) (entries : List LogEntry) → unread a ≡ Ok entries → ⊥
      no_value a entries e = cc e

      by_frame : (f : Result BlockHead BlockRefusal) → frame_at shape start bytes ≡ f → (r : Result (List LogEntry) BlockRefusal)
          → block_records shape (length rows) start bytes ≡ r → MatchesBlock r
      by_frame (Err refusal) e (Ok entries) read_is =
          absurd (no_value refusal entries (sym (block_refused shape (length rows) start bytes refusal e) ∙ read_is))
      by_frame (Err refusal) e (Err other) read_is =
          let same : refusal ≡ other = one_refusal refusal other (sym (block_refused shape (length rows) start bytes refusal e) ∙ read_is) in
          ap (λ (t : Told (Option ℕ)). t.found) (told_refused selection rows shape container offset bytes refusal e)
          ∙ refused_end refusal (λ closed. closed_gate shape start bytes gate (e ∙ ap refused closed))
          ∙ ap (λ (b : BlockRefusal). Err (damage_at container offset b)) same
      by_frame (Ok head) e (Ok entries) read_is =
          let frame = written.holds shape start bytes head e in
          let said : head.sectors ≡ block_sectors bytes = ap (λ (h : BlockHead). h.sectors) frame.numbers ∙ sectors_said bytes in
          let whole = sym (block_framed shape (length rows) start bytes head e) ∙ read_is in
          let taken = bound (told_as blocks.BadByte (records_from (length rows) (payload_of head.used bytes) head.records start 16))
          (λ (es : List LogEntry). rest_at bytes head >>= λ (clean : BlockHead). Ok es) entries whole in
          let behind = bound (rest_at bytes head) (λ (clean : BlockHead). Ok taken.first) entries taken.then in
          let same : taken.first ≡ entries = cc behind.then in
          let right = told_value blocks.BadByte (records_from (length rows) (payload_of head.used bytes) head.records start 16) taken.first taken.is in (
            ap (λ (r : Result BlockHead BlockRefusal). (framed_told selection rows shape container offset bytes r).found) e
                ∙ ap (λ (r : Result (List LogEntry) BlockRefusal). block_end container offset head.sectors r) read_is
                ∙ ap (λ (n : ℕ). Ok (Some n)) said,
            ap (λ (r : Result BlockHead BlockRefusal). (framed_told selection rows shape container offset bytes r).records) e
                ∙ all_met (length rows) (payload_of head.used bytes) head.records start 16 taken.first right ∙ same,
          )
      by_frame (Ok head) e (Err refusal) read_is =
          let whole = sym (block_framed shape (length rows) start bytes head e) ∙ read_is in
          ap (λ (r : Result BlockHead BlockRefusal). (framed_told selection rows shape container offset bytes r).found) e
          ∙ ap (λ (r : Result (List LogEntry) BlockRefusal). block_end container offset head.sectors r) read_is
          ∙ read_end head.sectors refusal (λ closed. rest_has_no_gate bytes head
          (gate_behind (records_from (length rows) (payload_of head.used bytes) head.records start 16) (rest_at bytes head)
          (whole ∙ ap (λ (b : BlockRefusal). Err b) closed)))
