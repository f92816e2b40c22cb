-- What a block is judged by: itself and a front of what begins with it, its gate, and the sectors that are left for it.
use Rattle.clfs_recover.proofs.Words.{◌≡◌, inr, ⊎_elim, ℕ, ◌+◌, ◌-◌, ◌*◌, ◌/◌, ◌%◌, ◌^◌, ◌<◌, ◌≤◌, Bool, true, false, cond, not, eqb, ltb, List, [], ◌∷◌}
use Rattle.clfs_recover.proofs.Words.{length, get_or, Option, Some, None, Result, Ok, Err, refl, sym, ◌∙◌, ap, arith, eq-eqb, lsn_number, IsShape}
use Rattle.clfs_recover.proofs.Words.{unless_wrong, LogEntry, Shape, block_sectors, payload_of, head_of, left_from, frame_at, sectors_at, rest_at, IsEnough}
use Rattle.clfs_recover.proofs.Words.{AreJudgedAlone, AreReadAsWritten, BlockHead, BlockRefusal, ◌>>=◌, told_as, records_from, block_records, block_refused}
use Rattle.clfs_recover.proofs.Words.{block_framed, block_same, IsFrontOf}
use Rattle.std.proofs.lemmas.List.{get_or-drop}
use Rattle.clfs_block.specs.Checks.{head_fault, wrong_sector, address_place}
use Rattle.clfs_block.specs.declared.head.BlockRefusal.TheVariants as blocks
use Rattle.clfs_recover.proofs.Blocks.{rest_has_no_gate}

abbrev BlockRecords : Type 0
BlockRecords = Result (List LogEntry) BlockRefusal

abbrev refused : BlockRefusal → Result BlockHead BlockRefusal
refused refusal = Err refusal

abbrev answered : BlockHead → Result BlockHead BlockRefusal
answered head = Ok head

abbrev no_records : BlockRefusal → BlockRecords
no_records refusal = Err refusal

-- ---- a block and a front of what begins with it

module _ (judged : AreJudgedAlone) (written : AreReadAsWritten) (shape : Shape) (streams start : ℕ) where
  module _ (some : 1 ≤ shape.block_sectors) (all front : List ℕ) (is : IsFrontOf (512 * shape.block_sectors) all front) where
    front_enough : 512 * shape.block_sectors ≤ length front → IsEnough shape all (length front)
    front_enough long = record { first = omega (arith, long, some); all = inr long }

    pub front_frame : frame_at shape start front ≡ frame_at shape start all
    front_frame = ⊎_elim (λ (e : front ≡ all). ap (frame_at shape start) e)
        (λ long. ap (frame_at shape start) is.is ∙ judged.frame shape start all (length front) (front_enough long)) is.long

    pub front_block : block_records shape streams start front ≡ block_records shape streams start all
    front_block = ⊎_elim (λ (e : front ≡ all). ap (block_records shape streams start) e)
        (λ long. ap (block_records shape streams start) is.is ∙ block_same judged written.holds shape streams start all (length front) (front_enough long)) is.long

-- the sectors that a block says to have
pub sectors_said : (bytes : List ℕ) → (head_of bytes).sectors ≡ block_sectors bytes
sectors_said bytes =
    let a = get_or-drop 2 bytes 0 0 ∙ ap (λ (k : ℕ). get_or bytes k 0) (plus 2 0 2 refl) in
    let b = get_or-drop 2 bytes 1 0 ∙ ap (λ (k : ℕ). get_or bytes k 0) (plus 2 1 3 refl) in
    omega (arith, a, b)
  where
    plus : (a b c : ℕ) → a + b ≡ c → a + b ≡ c
    plus a b c e = e

-- a block after an open gate isn't refused for a closed one
past_test : (b : Bool) (at : ℕ) (r : Result BlockHead BlockRefusal) → cond b (Err (blocks.BadByte at)) r ≡ Err blocks.Closed → r ≡ Err blocks.Closed
past_test true at r e = absurd (cc e)
past_test false at r e = e

past_check : (o : Option ℕ) (r : Result BlockHead BlockRefusal) → unless_wrong blocks.BadByte o r ≡ Err blocks.Closed → r ≡ Err blocks.Closed
past_check None r e = e
past_check (Some at) r e = absurd (cc e)

past_gate : (b : Bool) (r : Result BlockHead BlockRefusal) → b ≡ false → cond b (Err blocks.Closed) r ≡ Err blocks.Closed → r ≡ Err blocks.Closed
past_gate true r p e = absurd (cc p)
past_gate false r p e = e

pub closed_gate : (shape : Shape) (start : ℕ) (bytes : List ℕ) → get_or bytes 0 0 ≡ 165 → frame_at shape start bytes ≡ Err blocks.Closed → ⊥
unfolding frame_at sectors_at
closed_gate shape start bytes gate e =
    let sum = (head_of bytes).sectors in
    let checked : Result BlockHead BlockRefusal =
    unless_wrong blocks.BadByte (address_place (wrong_sector start bytes sum)) (answered (head_of bytes)) in
    let whole : Result BlockHead BlockRefusal = cond (ltb (length bytes) (512 * sum)) (refused (blocks.BadByte (length bytes))) checked in
    let header : Result BlockHead BlockRefusal = unless_wrong blocks.BadByte (head_fault shape start bytes) whole in
    let first : Result BlockHead BlockRefusal = cond (ltb (length bytes) 512) (refused (blocks.BadByte (length bytes))) header in
    let a = past_test (eqb (length bytes) 0) 0 (cond (not (eqb (get_or bytes 0 0) 165)) (refused blocks.Closed) first) e in
    let b = past_gate (not (eqb (get_or bytes 0 0) 165)) first (ap not (eq-eqb (get_or bytes 0 0) 165 gate)) a in
    let c = past_test (ltb (length bytes) 512) (length bytes) header b in
    let d = past_check (head_fault shape start bytes) whole c in
    let f = past_test (ltb (length bytes) (512 * sum)) (length bytes) checked d in
    let h = past_check (address_place (wrong_sector start bytes sum)) (answered (head_of bytes)) f in
    cc h

-- and where there is no byte the gate is no closed one
unread_byte : (bytes : List ℕ) (more : Result BlockHead BlockRefusal)
    → cond (eqb (length bytes) 0) (refused (blocks.BadByte 0)) more ≡ Err blocks.Closed → 0 < length bytes
unread_byte [] more e = absurd (cc e)
unread_byte (byte ∷ bytes) more e = omega arith

pub unread_gate : (shape : Shape) (start : ℕ) (bytes : List ℕ) → frame_at shape start bytes ≡ Err blocks.Closed → 0 < length bytes
unfolding frame_at
unread_gate shape start bytes e = unread_byte bytes _ e

-- the sectors that are left from an offset on
pub left_here : (shape : Shape) (id offset : ℕ) → offset % 512 ≡ 0 → offset < 2 ^ 32 → left_from shape (lsn_number id offset 0) ≡ shape.container_sectors - offset / 512
left_here shape id offset whole small =
    let e : (id * 2 ^ 32 + offset + 0) % 2 ^ 32 / 512 * 512 / 512 ≡ offset / 512 = omega (arith, whole, small) in
    ap (λ (n : ℕ). shape.container_sectors - n) e

pub one_refusal : (a b : BlockRefusal) → no_records a ≡ no_records b → a ≡ b
one_refusal a b e = cc e

gate_behind : (r : Result (List LogEntry) ℕ) (s : Result BlockHead BlockRefusal)
    → (told_as blocks.BadByte r >>= λ (entries : List LogEntry). (s >>= λ (clean : BlockHead). Ok entries)) ≡ no_records blocks.Closed → s ≡ Err blocks.Closed
gate_behind (Err k) s e = absurd (cc e)
gate_behind (Ok entries) (Ok head) e = absurd (cc e)
gate_behind (Ok entries) (Err refusal) e = cc e

-- a block that is refused for a closed gate has one
pub frame_closed : (shape : Shape) (streams start : ℕ) (bytes : List ℕ) → block_records shape streams start bytes ≡ Err blocks.Closed
    → frame_at shape start bytes ≡ Err blocks.Closed
frame_closed shape streams start bytes is = by_answer (frame_at shape start bytes) refl
  where
    by_answer : (r : Result BlockHead BlockRefusal) → frame_at shape start bytes ≡ r → frame_at shape start bytes ≡ Err blocks.Closed
    by_answer (Err refusal) e = e ∙ ap refused (one_refusal refusal blocks.Closed (sym (block_refused shape streams start bytes refusal e) ∙ is))
    by_answer (Ok head) e = absurd (rest_has_no_gate bytes head
        (gate_behind (records_from streams (payload_of head.used bytes) head.records start 16) (rest_at bytes head)
        (sym (block_framed shape streams start bytes head e) ∙ is)))

-- ---- a block in its container

-- a block whose frame is right ends within its container
pub block_end : AreReadAsWritten → (shape : Shape) (id offset : ℕ) (bytes : List ℕ) (head : BlockHead) → IsShape shape → offset % 512 ≡ 0
    → offset < 512 * shape.container_sectors → frame_at shape (lsn_number id offset 0) bytes ≡ Ok head
    → (1 ≤ head.sectors) × (offset + 512 * head.sectors ≤ 512 * shape.container_sectors)
block_end written shape id offset bytes head good whole near is =
    let frame = written.holds shape (lsn_number id offset 0) bytes head is in
    let left = left_here shape id offset whole (omega (arith, near, good.largest_container)) in
    (frame.some, omega (arith, frame.left, left, whole, near))
