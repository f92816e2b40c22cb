use Rattle.std.proofs.Common.{◌≡◌, ◌==◌, inl, inr, true, ℕ, ◌<◌, List, [], ◌∷◌, ◌++◌, length, refl, ap, sym, ◌∙◌, subst, arith, ltb}
use Rattle.std.specs.Prelude.{IsSome}
use Rattle.std.proofs.lemmas.Bool.{cases_Bool}
use Rattle.std.proofs.lemmas.Bool.Decides.{nat_tests}
use Rattle.clfs_lsn.specs.Place.{IsWithin}
use Rattle.clfs_lsn.specs.declared.entry.LogEntry.{LogEntry}
use Rattle.clfs_lsn.specs.declared.place.Place.{Place}
use Rattle.clfs_record.specs.Fields.{placed_record}
use Rattle.clfs_record.specs.declared.fields.Fields.{Fields}
use Rattle.clfs_queue.specs.Queued.{Queued, seal, data_at, next_lsn}
use Rattle.clfs_table_checks.proofs.queue.append.Goals as goal
use Rattle.clfs_table_checks.proofs.queue.append.Goals.{in-Joins, in-BeginsBlock}

-- one more record hides none
data_push : (lsn : ℕ) (records : List LogEntry) (entry : LogEntry) → IsSome (data_at lsn records) → IsSome (data_at lsn (records ++ entry ∷ []))
data_push lsn [] entry some = absurd (cc some)
data_push lsn (first ∷ records) entry some = elim (cases_Bool (first.lsn == lsn)) [
  | inl is ↦ rw is refl
  | inr apart ↦ rw apart (data_push lsn records entry (rw apart at some))
]

-- and is there
data_last : (records : List LogEntry) (entry : LogEntry) → IsSome (data_at entry.lsn (records ++ entry ∷ []))
data_last [] entry =
    let same : (entry.lsn == entry.lsn) ≡ true = grind (arith, nat_tests) in
    rw same refl
data_last (first ∷ records) entry = elim (cases_Bool (first.lsn == entry.lsn)) [
  | inl is ↦ rw is refl
  | inr apart ↦ rw apart (data_last records entry)
]

-- sealing leaves the records
sealed_records : (q : Queued) → (seal q).records ≡ q.records
sealed_records q = elim (cases_Bool (ltb 0 q.place.records)) [
  | inl is ↦ rw is refl
  | inr apart ↦ rw apart refl
]

pub returns-clause-there : goal.returns-clause-there
returns-clause-there c =
    let q : Queued = c.match-next.queue in
    let entry : LogEntry = placed_record (next_lsn q (length c.args.bytes.now)) c.plain.result c.args.bytes.now in
    let after : c.push.new.self.records ≡ q.records ++ entry ∷ [] = ap (λ (v : Queued). v.records) c.push.ensures.pushed in
    subst (λ (l : List LogEntry). IsSome (data_at c.push.result l)) (sym after)
    (subst (λ (n : ℕ). IsSome (data_at n (q.records ++ entry ∷ []))) (sym c.push.ensures.lsn) (data_last q.records entry))

pub returns-clause-kept : goal.returns-clause-kept
returns-clause-kept c = λ lsn some.
    let q : Queued = c.match-next.queue in
    let entry : LogEntry = placed_record (next_lsn q (length c.args.bytes.now)) c.plain.result c.args.bytes.now in
    let after : c.push.new.self.records ≡ q.records ++ entry ∷ [] = ap (λ (v : Queued). v.records) c.push.ensures.pushed in
    let before : q.records ≡ c.args.queue.now.records =
    elim c.match-next.branch [
      | in-Joins w ↦ ap (λ (v : Queued). v.records) w.queue-is
      | in-BeginsBlock w ↦ ap (λ (v : Queued). v.records) (w.queue-is ∙ w.seal.ensures.sealed) ∙ sealed_records c.args.queue.now
    ] in
    subst (λ (l : List LogEntry). IsSome (data_at lsn l)) (sym after)
    (data_push lsn q.records entry (subst (λ (l : List LogEntry). IsSome (data_at lsn l)) (sym before) some))

pub push-requires-clause-previous : goal.push-requires-clause-previous
push-requires-clause-previous c =
    let q : Queued = c.match-next.queue in
    let n = length c.args.bytes.now in
    let within : IsWithin q.shape q.place = subst (λ (p : Place). IsWithin q.shape p) c.place-within.ensures.place c.place-within.ensures.within in
    subst (λ (x : ℕ). x < next_lsn q n) (sym (ap (λ (f : Fields). f.previous) c.plain.ensures)) (c.the_next_lsn_is_above_all.ensures.null q.shape q.place n within)

pub push-requires-clause-undo_next : goal.push-requires-clause-undo_next
push-requires-clause-undo_next c =
    let q : Queued = c.match-next.queue in
    let n = length c.args.bytes.now in
    let within : IsWithin q.shape q.place = subst (λ (p : Place). IsWithin q.shape p) c.place-within.ensures.place c.place-within.ensures.within in
    subst (λ (x : ℕ). x < next_lsn q n) (sym (ap (λ (f : Fields). f.undo_next) c.plain.ensures)) (c.the_next_lsn_is_above_all.ensures.null q.shape q.place n within)
