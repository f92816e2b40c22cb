use Rattle.clfs_manager.proofs.Words.{◌≡◌, ℕ, ◌≤◌, refl, sym, ap, subst, arith, length, All-contains, find, ◌==◌, option_map, head_of, Head, LogEntry, State}
use Rattle.clfs_manager.proofs.Words.{flushed, IsSound, IsNeeded, Log}
use Rattle.std.proofs.Common.{Some}
use Rattle.clfs_lsn.specs.Size.{longest}
use Rattle.clfs_manager.proofs.Fetched.{waits_in_queue}
use Rattle.clfs_manager.proofs.fetching.waiting_entry.Goals as goal

-- the record of a head that waits is in the queue
in_queue : (log : Log) (head : Head) → IsSound log → flushed log.state.value ≤ head.lsn → (entry : LogEntry) → IsNeeded log.state.value entry → head_of entry ≡ head
    → find (λ (other : LogEntry). other.lsn == head.lsn) log.queue.records ≡ Some entry
in_queue log head sound waits entry needed is =
    let same : entry.lsn ≡ head.lsn = ap (λ (h : Head). h.lsn) is in
    subst (λ (lsn : ℕ). find (λ (other : LogEntry). other.lsn == lsn) log.queue.records ≡ Some entry) same
    (waits_in_queue log.state.value log.queue.records sound.valid sound.holds.records entry needed.there
    (subst (λ (lsn : ℕ). flushed log.state.value ≤ lsn) (sym same) waits))

pub read-requires : goal.read-requires
read-requires c =
    let there = c.requires.there in
    rw (in_queue c.args.log.now c.args.head c.requires.sound c.requires.waits there.entry there.needed there.head_is) refl

pub returns-clause-exact : goal.returns-clause-exact
returns-clause-exact c entry needed is =
    let there = ap (option_map (λ (e : LogEntry). e.bytes)) (in_queue c.args.log.now c.args.head c.requires.sound c.requires.waits entry needed is) in
    let same : entry.bytes ≡ c.in_ok-bytes.bytes = cc (there, c.in_ok-bytes.ensures) in
    c.entry_of.ensures.entry entry is same

pub returns-clause-small : goal.returns-clause-small
returns-clause-small c =
    let there = c.requires.there in
    let s : State = c.args.log.now.state.value in
    let same = ap (λ (e : LogEntry). length e.bytes) (returns-clause-exact c there.entry there.needed there.head_is) in
    let lengths = c.numbers_fit_their_types.ensures.lengths s c.requires.sound.valid c.requires.sound.storable in
    let few : length there.entry.bytes ≤ longest s.shape = All-contains (λ (e : LogEntry). length e.bytes ≤ longest s.shape) s.records there.entry lengths there.needed.there in
    omega (arith, same, few, c.requires.sound.valid.ranges.shape.largest_block)
