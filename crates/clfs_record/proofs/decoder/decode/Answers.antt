use Rattle.std.proofs.Common.{◌≡◌, ℕ, List, Result, Ok, Err, IfOk, arith, sym, subst, ◌∙◌, take}
use Rattle.clfs_lsn.specs.declared.entry.LogEntry.{LogEntry}
use Rattle.clfs_lsn.specs.Spelling.{FitsAt, record_bytes, record_at}
use Rattle.clfs_record.specs.Decoding.{Gives}
use Rattle.clfs_record.specs.declared.refusal.RecordRefusal.{RecordRefusal}
use Rattle.clfs_record.specs.declared.refusal.RecordRefusal.TheVariants as refusals
use Rattle.clfs_record.proofs.Headers.{IsBytes}
use Rattle.clfs_record.proofs.Laws.{found, only}
use Rattle.clfs_record.proofs.decoder.decode.Goals as goal

if_found : (r : Result (LogEntry × ℕ) RecordRefusal) (lsn streams : ℕ) (bytes : List ℕ) → IsBytes bytes → Gives r (record_at lsn streams bytes)
    → IfOk r (λ x. (take x.1 bytes ≡ record_bytes x.0) × FitsAt lsn streams x.0)
if_found (Ok x) lsn streams bytes fits is = found lsn streams bytes x fits is
if_found (Err e) lsn streams bytes fits is = tt

if_same : (r : Result (LogEntry × ℕ) RecordRefusal) (one other : Result (LogEntry × ℕ) ℕ) → one ≡ other → Gives r one → Gives r other
if_same (Ok x) one other same is = sym same ∙ is
if_same (Err refusals.NoMemory) one other same is = tt
if_same (Err (refusals.BadByte at)) one other same is = sym same ∙ is

pub returns-clause-exact : goal.returns-clause-exact
returns-clause-exact c = subst (λ (n : ℕ). Gives c.decode_at.result (record_at n c.args.streams c.args.bytes.now)) c.number.ensures c.decode_at.ensures

pub returns-clause-found : goal.returns-clause-found
returns-clause-found c =
    if_found c.decode_at.result c.args.lsn c.args.streams c.args.bytes.now (λ i. omega (arith, c.type_inv.bytes i)) (returns-clause-exact c)

pub returns-clause-only : goal.returns-clause-only
returns-clause-only c entry rest fits is =
    if_same c.decode_at.result _ _
    (only c.args.lsn c.args.streams entry rest c.args.bytes.now fits (omega (arith, c.number.type_inv, c.number.ensures)) (omega (arith, c.ranges.streams)) is)
    (returns-clause-exact c)
