-- The blocks of a log lie one after the other after each change of its records and its place.
use Rattle.clfs_laws.proofs.Words.{◌≡◌, ℕ, ◌+◌, ◌-◌, ◌<◌, ◌≤◌, ◌^◌, Bool, true, false, refl, sym, ap, ◌∙◌, subst, inl, inr, arith, List, [], ◌∷◌, ◌++◌}
use Rattle.clfs_laws.proofs.Words.{length, Some, None, nat_lt, ◌==◌, cases_Bool, ltb-true, nat_tests, own, IsWithin, block_end, joins, begins_here}
use Rattle.clfs_laws.proofs.Words.{left_sectors, Place, Shape, LogEntry, Draft, State, Area, area_of, set_base, free, reserved, with_containers, grown}
use Rattle.clfs_laws.proofs.Words.{flushed, seal, flush, next_lsn, put, need_of, spend_if, hold_sizes, seal_if, flush_if, plain_record, appended}
use Rattle.clfs_laws.proofs.Words.{append_refusal, restart_refusal, flushed_to, restart_record, restarted, rebased, before_all, behind_all, LieInBlocks}
use Rattle.clfs_laws.proofs.Words.{GoesOnAt, HasBlocks, IsValid, HasSpaceLaws}
use Rattle.clfs_laws.proofs.OwnSectors.{own_fits}
use Rattle.clfs_laws.proofs.BlockOrder.{behind_more, laid_push, next_goes_on, sealed_goes_on}
use Rattle.clfs_laws.proofs.SoundJoins.{IsJoining}
use Rattle.clfs_laws.proofs.ValidPlaces.{IsSound, sound_of}
use Rattle.clfs_laws.proofs.ValidPuts.{TakesRecord, placed, after_by, put_by, sound_put}
use Rattle.clfs_laws.proofs.ValidSettings.{valid_grown, grown_is}
use Rattle.clfs_laws.proofs.ValidAppends.{MayJoin, spent, spend_first, may_append, allowed}
use Rattle.clfs_laws.proofs.ValidRestarts as of_restarts

-- a state of the same shape, records and place
pub blocks_as : (s t : State) → t.shape ≡ s.shape → t.records ≡ s.records → t.place ≡ s.place → HasBlocks s → HasBlocks t
blocks_as s t shape records place blocks =
    let F : Shape → Type 0 = λ sh. LieInBlocks sh before_all t.records in
    let G : List LogEntry → Type 0 = λ entries. LieInBlocks s.shape before_all entries in
    let H : Place → Type 0 = λ p. GoesOnAt (behind_all before_all t.records) p in
    let I : List LogEntry → Type 0 = λ entries. GoesOnAt (behind_all before_all entries) s.place in
    record {
      laid = subst F (sym shape) (subst G (sym records) blocks.laid);
      place = subst H (sym place) (subst I (sym records) blocks.place);
      container = omega (arith, blocks.container, ap (λ (p : Place). p.container) place);
    }

-- a record that needs a further container finds one that has an id
pub next_id : (s : State) (n : ℕ) → IsSound s → TakesRecord s n → begins_here s.shape s.place n ≡ false → s.place.container + 1 < 2 ^ 32
next_id s n sound takes beyond =
    let long = own_fits s.shape.block_sectors n sound.ranges.shape.some_sectors takes.short in
    let left : s.shape.container_sectors - block_end s.place < own n = grind (arith, nat_tests, beyond) in
    next_one s n (omega (arith, long, left)) takes.room
  where
    next_one : (s : State) (n : ℕ) → left_sectors s.shape s.place - (s.shape.block_sectors - 1) ≡ 0 → reserved s + own n ≤ free s
        → s.place.container + 1 < 2 ^ 32
    next_one s n none room = grind (arith, none, room)

-- the container of the place after a record has an id
id_by : (s : State) (n : ℕ) (joining beginning : Bool) → begins_here s.shape s.place n ≡ beginning → IsSound s → TakesRecord s n
    → s.place.container < 2 ^ 32
    → (after_by joining beginning s.place n).1.container < 2 ^ 32
id_by s n true beginning is sound takes low = low
id_by s n false true is sound takes low = low
id_by s n false false is sound takes low = next_id s n sound takes is

-- sealing and putting leave the shape
pub seal_shape : (s : State) → (seal s).shape ≡ s.shape
seal_shape s = elim (cases_Bool (nat_lt 0 s.place.records)) [ inl some ↦ rw some refl | inr none ↦ rw none refl ]

put_by_shape : (joining beginning : Bool) (s : State) (entry : LogEntry) → (put_by joining beginning s entry).shape ≡ s.shape
put_by_shape true beginning s entry = refl
put_by_shape false true s entry = seal_shape s
put_by_shape false false s entry = seal_shape s

pub put_shape : (s : State) (entry : LogEntry) → (put s entry).shape ≡ s.shape
put_shape s entry = put_by_shape (joins s.shape s.place (length entry.bytes)) (begins_here s.shape s.place (length entry.bytes)) s entry

-- nor does it become a dedicated log, or stop being one
pub seal_dedicated : (s : State) → (seal s).dedicated ≡ s.dedicated
seal_dedicated s = elim (cases_Bool (nat_lt 0 s.place.records)) [ inl some ↦ rw some refl | inr none ↦ rw none refl ]

put_by_dedicated : (joining beginning : Bool) (s : State) (entry : LogEntry) → (put_by joining beginning s entry).dedicated ≡ s.dedicated
put_by_dedicated true beginning s entry = refl
put_by_dedicated false true s entry = seal_dedicated s
put_by_dedicated false false s entry = seal_dedicated s

pub put_dedicated : (s : State) (entry : LogEntry) → (put s entry).dedicated ≡ s.dedicated
put_dedicated s entry = put_by_dedicated (joins s.shape s.place (length entry.bytes)) (begins_here s.shape s.place (length entry.bytes)) s entry

-- a record that is put lies after the others
pub blocks_put : HasSpaceLaws → (s : State) (entry : LogEntry) → IsSound s → TakesRecord s (length entry.bytes)
    → IsJoining s (placed entry (next_lsn s (length entry.bytes)))
    → HasBlocks s → HasBlocks (put s entry)
blocks_put space s entry sound takes joining blocks =
    let n = length entry.bytes in
    let t : State = put s entry in
    let e : LogEntry = placed entry (next_lsn s n) in
    let is = sound_put space s entry sound takes joining in
    let last : Place = behind_all before_all s.records in
    let on = next_goes_on s.shape last s.place e sound.ranges.shape sound.ranges.place blocks.place refl in
    let shape : t.shape ≡ s.shape = put_shape s entry in
    let W : Shape → Type 0 = λ sh. IsWithin sh t.place in
    let within : IsWithin s.shape t.place = subst W shape is.sound.ranges.place in
    let L : Shape → Type 0 = λ sh. LieInBlocks sh before_all (s.records ++ e ∷ []) in
    record {
      laid = subst L (sym shape) (laid_push s.shape before_all s.records e blocks.laid on.lies (subst (IsWithin s.shape) (sym on.is) within));
      place = inl (sym (behind_more before_all s.records (e ∷ []) ∙ on.is));
      container = id_by s n (joins s.shape s.place n) (begins_here s.shape s.place n) refl sound takes blocks.container;
    }

-- a log that is sealed, or flushed
pub blocks_seal : (s : State) → HasBlocks s → HasBlocks (seal s)
blocks_seal s blocks = elim (cases_Bool (nat_lt 0 s.place.records)) [
  | inl some ↦
      let one : 1 ≤ s.place.records = omega (arith, ltb-true 0 s.place.records some) in
      let last : Place = behind_all before_all s.records in
      rw some (record { laid = blocks.laid; place = sealed_goes_on s.shape last s.place one blocks.place; container = blocks.container })
  | inr none ↦ rw none blocks
]

pub blocks_flush : (s : State) → HasBlocks s → HasBlocks (flush s)
blocks_flush s blocks = blocks_as (seal s) (flush s) refl refl refl (blocks_seal s blocks)

pub blocks_seal_if : (asked : Bool) (s : State) → HasBlocks s → HasBlocks (seal_if asked s)
blocks_seal_if true s blocks = blocks_seal s blocks
blocks_seal_if false s blocks = blocks

blocks_flush_if : (asked : Bool) (s : State) → HasBlocks s → HasBlocks (flush_if asked s)
blocks_flush_if true s blocks = blocks_flush s blocks
blocks_flush_if false s blocks = blocks

pub blocks_flushed_to : (s : State) (lsn : ℕ) → HasBlocks s → HasBlocks (flushed_to s lsn)
blocks_flushed_to s lsn blocks = elim (cases_Bool (nat_lt lsn (flushed s))) [
  | inl below ↦ rw below blocks
  | inr above ↦ rw above (blocks_flush s blocks)
]

-- a log that grows, spends and holds
pub blocks_grown : (s : State) (need : ℕ) → HasBlocks s → HasBlocks (grown s need)
blocks_grown s need blocks = subst HasBlocks (sym (grown_is s need)) (blocks_as s (with_containers (grown s need).containers s) refl refl refl blocks)

pub blocks_spent : (is_reserved : Bool) (area : Area) (n : ℕ) (s : State) → HasBlocks s → HasBlocks (spend_if is_reserved area n s)
blocks_spent false area n s blocks = blocks
blocks_spent true area n s blocks = blocks_as s (spend_if true area n s) refl refl refl blocks

pub blocks_hold : (area : Area) (sizes : List ℕ) (s : State) → HasBlocks s → HasBlocks (hold_sizes area sizes s)
blocks_hold area [] s blocks = blocks
blocks_hold area (size ∷ sizes) s blocks = blocks_as s (hold_sizes area (size ∷ sizes) s) refl refl refl blocks

-- a record that is put through an area
blocks_joined : HasSpaceLaws → (s : State) (client number : ℕ) (area : Area) (entry : LogEntry) (is_reserved : Bool) (more : ℕ) → IsValid s
    → MayJoin s client number area entry is_reserved more → HasBlocks s → HasBlocks (spend_if is_reserved area (length entry.bytes) (put s entry))
blocks_joined space s client number area entry is_reserved more valid may blocks =
    let n = length entry.bytes in
    let some = spent s client number area entry is_reserved more valid may in
    let v : State = spend_if is_reserved area n s in
    let has = some.1.0 in
    let takes : TakesRecord v n = record { short = has.short; room = omega (arith, has.room) } in
    subst HasBlocks (spend_first is_reserved area n s entry)
    (blocks_put space v entry (sound_of v has.valid) takes has.joining (blocks_spent is_reserved area n s blocks))

-- an append that isn't refused
pub blocks_appended : HasSpaceLaws → (s : State) (client number : ℕ) (area : Area) (draft : Draft) (is_reserved : Bool) (sizes : List ℕ) → IsValid s
    → area_of s client number ≡ Some area → append_refusal s area draft is_reserved sizes ≡ None → HasBlocks s
    → HasBlocks (appended s area draft is_reserved sizes)
blocks_appended space s client number area draft is_reserved sizes valid there none blocks =
    let need = need_of is_reserved (length draft.bytes) sizes in
    let u : State = grown s need in
    let valid_u : IsValid u = valid_grown space s need valid in
    let may =
    may_append s client number area draft is_reserved sizes u refl (grown_is s need) valid valid_u there (allowed s area draft is_reserved sizes none) in
    let joined = blocks_joined space u client number area (plain_record area draft) is_reserved _ valid_u may (blocks_grown s need blocks) in
    blocks_flush_if draft.flush _ (blocks_seal_if draft.seal _ (blocks_hold area sizes _ joined))

-- a new base
pub blocks_rebased : (stream base : ℕ) (s : State) → HasBlocks s → HasBlocks (rebased stream base s)
blocks_rebased stream base s blocks = elim (cases_Bool (base == 0)) [
  | inl none ↦ rw none blocks
  | inr some ↦ rw some (blocks_as s (record s { streams = set_base stream base s.streams }) refl refl refl blocks)
]

-- a restart area that isn't refused
pub blocks_restarted : HasSpaceLaws → (s : State) (client number : ℕ) (area : Area) (bytes : List ℕ) (base : ℕ) (is_reserved : Bool) → IsValid s
    → area_of s client number ≡ Some area → restart_refusal s area bytes base is_reserved ≡ None → HasBlocks s
    → HasBlocks (restarted s area bytes base is_reserved)
blocks_restarted space s client number area bytes base is_reserved valid there none blocks =
    let need = need_of is_reserved (length bytes) [] in
    let u : State = grown s need in
    let valid_u : IsValid u = valid_grown space s need valid in
    let may = of_restarts.may_restart s client number area bytes base is_reserved u refl (grown_is s need) valid valid_u there
    (of_restarts.allowed s area bytes base is_reserved none) in
    let joined = blocks_joined space u client number area (restart_record s area bytes base) is_reserved _ valid_u may (blocks_grown s need blocks) in
    blocks_rebased area.stream base _ (blocks_flush _ joined)
