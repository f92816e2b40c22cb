-- One call of the log on an area that is known: how it goes if nothing refuses it, and what it leaves.
use Rattle.clfs_cells_laws.proofs.Words.{◌≡◌, ◌⊎◌, ℕ, zero, suc, ◌+◌, ◌-◌, ◌<◌, ◌≤◌, Bool, true, false, refl, sym, subst, ap, ◌∙◌, inl, inr, arith, List, []}
use Rattle.clfs_cells_laws.proofs.Words.{◌∷◌, ◌++◌, length, Option, Some, None, All, ◌&&◌, ◌==◌, find, nat_lt, slice_get, AllByRecursion, option_map}
use Rattle.clfs_cells_laws.proofs.Words.{option_map_or, option_or, cases_Bool, eq-eqb, ne_eqb, recursion_from_All, find-append, null_lsn, frontier, own}
use Rattle.clfs_cells_laws.proofs.Words.{LogEntry, Stream, Call, Draft, Refusal, Happened, Reply, Area, State, answer, flushed, appended, next_lsn}
use Rattle.clfs_cells_laws.proofs.Words.{plain_record, put, with_less_held, refusal, free, grown, grown_if, reserved, area_of, base_of, change_area}
use Rattle.clfs_cells_laws.proofs.Words.{change_first, is_area, Step, Comes, IsDamaged, calls_disk, reads_disk, takes_memory, with_broken, IsRecord, IsValid}
use Rattle.clfs_cells_laws.proofs.Words.{Checkpoint, TxnRecord, IsTxnRecord, checkpoint_bytes, checkpoint_of, txn_bytes, txn_record_of, from_outside}
use Rattle.clfs_cells_laws.proofs.Words.{IsLiveRecord}
use Rattle.std.proofs.lemmas.List.{append_cancel_left}
use Rattle.clfs_model.specs.declared.call.Call.TheVariants as calls
use Rattle.clfs_model.specs.declared.refusal.Refusal.TheVariants as refusals
use Rattle.clfs_model.specs.declared.reply.Reply.TheVariants as replies
use Rattle.clfs_model.specs.Flush.{block_start, first_or}
use Rattle.clfs_model.specs.Put.{flush_if, seal_if}
use Rattle.clfs_model.specs.Valid.{IsWaiting}
use Rattle.clfs_cells.specs.Layout.{IsCheckpoint}
use Rattle.clfs_cells_laws.proofs.FirstRestart.{KeepsLists, keeps_flush, keeps_grown, keeps_ready, keeps_same}
use Rattle.clfs_cells_laws.proofs.Grown.{base_same}
use Rattle.clfs_cells_laws.proofs.Ways.{Way, came, damaged, faulted, lacked, refused}

-- ---- what other laws say of a step

pub record Laws : Type 0 where
  pub adds : (told : Bool) (s : State) (client : ℕ) (call : Call) (happened : Happened) (reply : Reply) (t : State) → IsValid s
      → Step told s client call happened reply t
      → (more : List LogEntry) × (t.records ≡ s.records ++ more) × All (λ (entry : LogEntry). frontier s.place ≤ entry.lsn) more
  pub keeps : (told : Bool) (s : State) (client : ℕ) (call : Call) (happened : Happened) (reply : Reply) (t : State) → IsValid s
      → Step told s client call happened reply t → IsValid t
  pub space : (s : State) (client number : ℕ) (area : Area) (draft : Draft) (of_free of_reserved need : ℕ)
      → IsValid s → area_of s client number ≡ Some area → own (length draft.bytes) ≤ area.held
      → refusal s client (calls.Append number draft true []) ≡ Some (refusals.Full of_free of_reserved need) → ⊥
  pub containers : (s : State) (client number : ℕ) (area : Area) (draft : Draft) (have : ℕ)
      → IsValid s → area_of s client number ≡ Some area → own (length draft.bytes) ≤ area.held
      → refusal s client (calls.Append number draft true []) ≡ Some (refusals.NotEnoughContainers have) → ⊥
  pub spelled_row : (r : TxnRecord) → IsTxnRecord r → txn_record_of (txn_bytes r) ≡ Some r
  pub spelled_restart : (c : Checkpoint) → IsCheckpoint c → checkpoint_of (checkpoint_bytes c) ≡ Some c

-- ---- how a call goes that isn't refused

pub data Went (told : Bool) (s : State) (client : ℕ) (call : Call) (reply : Reply) (mid : State) : Type 0 where
  gave : Comes told (flushed s) (answer s client call) reply mid → Went told s client call reply mid
  kept : takes_memory call ≡ true → reply ≡ replies.Refused refusals.NoMemory → mid ≡ s → Went told s client call reply mid
  broke : (calls_disk s call ≡ true) ⊎ (reads_disk call ≡ true) → (given : Refusal) → from_outside given ≡ true → reply ≡ replies.Refused given → mid ≡ with_broken s
      → Went told s client call reply mid

pub damage_of : (reply : Reply) → IsDamaged reply → (given : Refusal) × (from_outside given ≡ true) × (reply ≡ replies.Refused given)
damage_of (replies.Refused (refusals.Damaged container offset byte)) is = (refusals.Damaged container offset byte, refl, refl)
damage_of _ is = absurd is

pub went : (told : Bool) (s : State) (client : ℕ) (call : Call) (reply : Reply) (mid : State) → refusal s client call ≡ None → Way told s client call reply mid
    → Went told s client call reply mid
went told s client call reply mid none (lacked takes is same) = kept takes is same
went told s client call reply mid none (came _ comes) = gave comes
went told s client call reply mid none (refused first is _ _) = let both : None ≡ Some first = sym none ∙ is in absurd (cc both)
went told s client call reply mid none (faulted by is same) = broke (inl by) refusals.DiskFault refl is same
went told s client call reply mid none (damaged by is same) = let d = damage_of reply is in broke (inr by) d.0 d.1 d.2 same

-- ---- an area that a call changed

-- a change that leaves an area's client and number
pub record KeepsName (change : Area → Area) : Type 0 where
  pub client : (area : Area) → (change area).client ≡ area.client
  pub number : (area : Area) → (change area).number ≡ area.number

pub find_changed : (change : Area → Area) → KeepsName change → (client number : ℕ) (areas : List Area)
    → find (is_area client number) (change_first (is_area client number) change areas) ≡ option_map change (find (is_area client number) areas)
find_changed change keeps client number [] = refl
find_changed change keeps client number (area ∷ areas) = elim (cases_Bool (is_area client number area)) [
  | inl here ↦
      let named : is_area client number (change area) ≡ true = rw (keeps.client area, keeps.number area) here in rw (here, named) refl
  | inr there ↦ rw (there) (rw there (find_changed change keeps client number areas))
]

pub area_after : (s t : State) (client number : ℕ) (area : Area) (change : Area → Area) → KeepsName change → area_of s client number ≡ Some area
    → t.areas ≡ change_first (is_area client number) change s.areas → area_of t client number ≡ Some (change area)
area_after s t client number area change keeps is areas =
    ap (λ (l : List Area). find (is_area client number) l) areas ∙ find_changed change keeps client number s.areas ∙ ap (option_map change) is

-- ---- an append of what the area holds

pub record Appended (s : State) (area : Area) (draft : Draft) (t : State) : Type 0 where
  pub records : t.records ≡ s.records ++ record (plain_record area draft) { lsn = next_lsn s (length draft.bytes) } ∷ []
  pub streams : t.streams ≡ s.streams
  pub broken : t.broken ≡ s.broken
  pub areas : t.areas ≡ change_first (is_area area.client area.number) (with_less_held (own (length draft.bytes))) s.areas

keeps_flush_if : (asked : Bool) (s : State) → KeepsLists s (flush_if asked s)
keeps_flush_if true s = keeps_flush s
keeps_flush_if false s = keeps_same s

next_grown_if : (test : Bool) (s : State) (wanted n : ℕ) → next_lsn (grown_if test s wanted) n ≡ next_lsn s n
next_grown_if true s wanted n = refl
next_grown_if false s wanted n = refl

pub next_grown : (s : State) (need n : ℕ) → next_lsn (grown s need) n ≡ next_lsn s n
unfolding grown
next_grown s need n = next_grown_if (s.automatic && nat_lt (free s) (reserved s + need)) s (reserved s + need) n

pub appended_is : (s : State) (area : Area) (draft : Draft) (t : State) → draft.seal ≡ false → t ≡ appended s area draft true [] → Appended s area draft t
appended_is s area draft t no_seal is =
    let n : ℕ = length draft.bytes in
    let g : State = grown s 0 in
    let x : State = change_area (with_less_held (own n)) area.client area.number (put g (plain_record area draft)) in
    let same : t ≡ flush_if draft.flush x = is ∙ ap (λ (b : Bool). flush_if draft.flush (seal_if b x)) no_seal in
    let last = keeps_flush_if draft.flush x in
    let ready = keeps_ready g n in
    let grew = keeps_grown s 0 in
    record {
      records = ap (λ (u : State). u.records) same ∙ last.records
          ∙ ap (λ (l : List LogEntry). l ++ record (plain_record area draft) { lsn = next_lsn g n } ∷ []) grew.records
          ∙ ap (λ (lsn : ℕ). s.records ++ record (plain_record area draft) { lsn = lsn } ∷ []) (next_grown s 0 n);
      streams = ap (λ (u : State). u.streams) same ∙ last.streams ∙ ready.streams ∙ grew.streams;
      broken = ap (λ (u : State). u.broken) same ∙ last.broken ∙ ready.broken ∙ grew.broken;
      areas = ap (λ (u : State). u.areas) same ∙ last.areas
          ∙ ap (λ (l : List Area). change_first (is_area area.client area.number) (with_less_held (own n)) l) (ready.areas ∙ grew.areas);
    }

-- ---- where a new record stands

none_found : (lsn : ℕ) (entries : List LogEntry) → AllByRecursion (λ (entry : LogEntry). entry.lsn < lsn) entries → find (λ (entry : LogEntry). entry.lsn == lsn) entries ≡ None
none_found lsn [] below = refl
none_found lsn (entry ∷ entries) below =
    let less : entry.lsn < lsn = below.0 in rw (ne_eqb entry.lsn lsn (λ e. omega (arith, e, less))) (none_found lsn entries below.1)

pub below_all : (s : State) (bound : ℕ) (entries : List LogEntry) → frontier s.place ≤ bound → AllByRecursion (IsRecord s) entries
    → AllByRecursion (λ (entry : LogEntry). entry.lsn < bound) entries
below_all s bound [] le all = tt
below_all s bound (entry ∷ entries) le all = let below = all.0.below in (omega (arith, le, below), below_all s bound entries le all.1)

get_has : {X : Type 0} (P : X → Type 0) (xs : List X) (k : ℕ) (x : X) → slice_get xs k ≡ Some x → AllByRecursion P xs → P x
get_has P [] k x is all = absurd (cc is)
get_has P (a ∷ xs) zero x is all = let same : a ≡ x = cc is in subst P same all.0
get_has P (a ∷ xs) (suc k) x is all = get_has P xs k x is all.1

-- the flushed LSN isn't above the frontier
first_below : (s : State) (waiting : List ℕ) → AllByRecursion (IsWaiting s) waiting → first_or (block_start s.place) waiting ≤ block_start s.place
first_below s [] all = omega arith
first_below s (w ∷ waiting) all = let low = all.0.below in omega (arith, low)

pub flushed_within : (s : State) → IsValid s → flushed s ≤ frontier s.place
flushed_within s valid =
    let low = first_below s s.waiting (recursion_from_All (IsWaiting s) s.waiting valid.waiting.blocks) in
    omega (arith, low)

-- nor is a stream's base
pub base_within : (s : State) (stream : ℕ) → IsValid s → base_of s stream ≤ flushed s
base_within s stream valid = elim (cases_Bool (stream == 0)) [
  | inl null ↦ let none : base_of s stream ≡ null_lsn = rw null refl in subst (λ (b : ℕ). b ≤ flushed s) (sym none) (omega arith)
  | inr some ↦
      let at : base_of s stream ≡ option_map_or (λ (x : Stream). x.base) (slice_get s.streams (stream - 1)) null_lsn = rw some refl in
      subst (λ (b : ℕ). b ≤ flushed s) (sym at) (go (slice_get s.streams (stream - 1)) refl)
]
  where
    go : (o : Option Stream) → slice_get s.streams (stream - 1) ≡ o → option_map_or (λ (x : Stream). x.base) o null_lsn ≤ flushed s
    go None is = omega arith
    go (Some x) is = get_has (λ (x : Stream). x.base ≤ flushed s) s.streams (stream - 1) x is
        (recursion_from_All (λ (x : Stream). x.base ≤ flushed s) s.streams valid.stable.bases)

-- a record that joined the others, at or above the frontier
pub joined_live : (s t : State) (entry : LogEntry) → IsValid s → frontier s.place ≤ entry.lsn → t.records ≡ s.records ++ entry ∷ [] → t.streams ≡ s.streams
    → (is : IsLiveRecord t entry.stream entry.lsn) × (is.entry ≡ entry)
joined_live s t entry valid above records streams =
    let none : find (λ (e : LogEntry). e.lsn == entry.lsn) s.records ≡ None
    = none_found entry.lsn s.records (below_all s entry.lsn s.records above (recursion_from_All (IsRecord s) s.records valid.records.records)) in
    let here : find (λ (e : LogEntry). e.lsn == entry.lsn) (entry ∷ []) ≡ Some entry = rw (eq-eqb entry.lsn entry.lsn refl) refl in
    let there : find (λ (e : LogEntry). e.lsn == entry.lsn) t.records ≡ Some entry
    = ap (λ (l : List LogEntry). find (λ (e : LogEntry). e.lsn == entry.lsn) l) records
    ∙ find-append (λ (e : LogEntry). e.lsn == entry.lsn) s.records (entry ∷ [])
    ∙ ap (λ (o : Option LogEntry). option_or o (find (λ (e : LogEntry). e.lsn == entry.lsn) (entry ∷ []))) none ∙ here in
    let low = base_within s entry.stream valid in
    let high = flushed_within s valid in
    let base = base_same s t entry.stream streams in
    (record { entry = entry; there = there; own = refl; live = omega (arith, low, high, base, above) }, refl)

-- the LSN of a record that a step added isn't below the frontier
pub added_above : Laws → (told : Bool) (s : State) (client : ℕ) (call : Call) (happened : Happened) (reply : Reply) (t : State) (entry : LogEntry) → IsValid s
    → Step told s client call happened reply t → t.records ≡ s.records ++ entry ∷ [] → frontier s.place ≤ entry.lsn
added_above laws told s client call happened reply t entry valid step records =
    let more = laws.adds told s client call happened reply t valid step in
    let same : more.0 ≡ entry ∷ [] = append_cancel_left s.records more.0 (entry ∷ []) (sym more.1 ∙ records) in
    subst (λ (l : List LogEntry). All (λ (e : LogEntry). frontier s.place ≤ e.lsn) l) same more.2 0 entry (omega arith)
