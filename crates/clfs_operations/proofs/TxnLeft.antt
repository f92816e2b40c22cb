-- What a crash leaves of a table while its lines are answered, one after the other.
use Rattle.std.proofs.Common.{◌≡◌, ℕ, ◌⊎◌, Bool, true, false, List, ◌∷◌, refl, sym, ap, ◌∙◌, subst, inl, inr, arith, Result, Ok, Err}
use Rattle.std.specs.Prelude.{◌||◌, if◌then◌else◌, IsTrue}
use Rattle.clfs_disk.specs.State.{DiskState, Nature, IsHonest, Later}
use Rattle.clfs_model.specs.declared.state.State.{State}
use Rattle.clfs_cells.specs.declared.asked.TxnCall.{TxnCall}
use Rattle.clfs_cells.specs.declared.asked.TxnCall.TheVariants as asked
use Rattle.clfs_cells.specs.declared.told.TxnRefusal.{TxnRefusal}
use Rattle.clfs_cells.specs.declared.told.TxnReply.{TxnReply}
use Rattle.clfs_cells.specs.Calls.{Answered, TxnStep, unless}
use Rattle.clfs_cells.specs.Plans.{CarriesOut, Plan}
use Rattle.clfs_cells.specs.Stored.{Memory, Store}
use Rattle.clfs_cells.specs.Table.{table}
use Rattle.clfs_cells_laws.specs.Crashes.{IsSafe, is_answer}
use Rattle.clfs_operations.specs.TableAnswered.{AnswersAsked, IsUncalled, LeavesAsked, LineStep, asks_nothing, table_asked, under_asked}
use Rattle.clfs_operations.specs.Crashed.{Images}
use Rattle.clfs_operations.specs.TxnCrashed.{CrashLeavesLines, IsLeftByLines, IsLeftTable, Tables, alone, is_uncalled, tables_answered, tables_under_way}

-- ---- a broken log stays broken

unless_stays : (told : Bool) (client : ℕ) (log : State) (test : Bool) (refusal : TxnRefusal) (memory : Memory) (others : Plan Answered) (result : Answered) (t : State)
    → test ≡ true → CarriesOut told client log (unless test refusal memory others) result t → t ≡ log
unless_stays told client log true refusal memory others result t is did = did.1
unless_stays told client log false refusal memory others result t is did = absurd (cc is)

line_stays : (told : Bool) (s : Store) (asked : Result TxnCall ℕ) (reply : TxnReply) (t : Store) → s.log.broken ≡ true → LineStep told s asked reply t → t.log ≡ s.log
unfolding TxnStep
line_stays told s (Ok (asked.Begin changes)) reply t is step = unless_stays told _ s.log s.log.broken _ _ _ _ t.log is step
line_stays told s (Ok (asked.Set number cell value)) reply t is step = unless_stays told _ s.log s.log.broken _ _ _ _ t.log is step
line_stays told s (Ok (asked.Back number kept)) reply t is step = unless_stays told _ s.log s.log.broken _ _ _ _ t.log is step
line_stays told s (Ok (asked.Commit number)) reply t is step = unless_stays told _ s.log s.log.broken _ _ _ _ t.log is step
line_stays told s (Ok (asked.Rollback number)) reply t is step = unless_stays told _ s.log s.log.broken _ _ _ _ t.log is step
line_stays told s (Ok (asked.Get cell)) reply t is step = step.1
line_stays told s (Ok asked.Checkpoint) reply t is step = unless_stays told _ s.log s.log.broken _ _ _ _ t.log is step
line_stays told s (Err at) reply t is step = ap (λ (x : Store). x.log) step.1

-- ---- one of two pairs of tables

left_if : (images : Images) (from to : ℕ) (test : Bool) (one other : Tables) → (test ≡ true → IsLeftTable images from to one) → (test ≡ false → IsLeftTable images from to other)
    → IsLeftTable images from to (if test then one else other)
left_if images from to true one other left_one left_other = left_one refl
left_if images from to false one other left_one left_other = left_other refl

either_way : (b : Bool) → (b ≡ true) ⊎ (b ≡ false)
either_way true = inl refl
either_way false = inr refl

both_false : (a b : Bool) → (a || b) ≡ false → (a ≡ false) × (b ≡ false)
both_false true b e = absurd (cc e)
both_false false b e = (refl, e)

one_true : (a b : Bool) → (a || b) ≡ true → a ≡ false → b ≡ true
one_true true b e none = absurd (cc none)
one_true false b e none = e

-- ---- a line, and then the others

module _ (s : Store) (old : DiskState) (mid : Store) (between : DiskState) (t : Store) (new : DiskState) (line : Result TxnCall ℕ) (reply : TxnReply)
    (did : AnswersAsked s old line reply mid between) (time : Later between new) (safe : (s.log.broken ≡ true) ⊎ IsSafe s.log s.memory.stream) (honest : IsHonest old)
    (was : Tables) (left : IsLeftTable old.image_at old.clock old.clock was) where
  -- what is said of a line over a log that isn't broken
  leaves : s.log.broken ≡ false → LeavesAsked s old line reply mid between
  leaves whole = elim safe [
    | inl broken ↦ let no : true ≡ false = sym broken ∙ whole in absurd (cc no)
    | inr is ↦ did.crash whole is
  ]

  honest_between : IsHonest between
  honest_between = subst (λ (n : Nature). IsTrue n.tells_contents × IsTrue n.tells_images) (sym did.writes.time.nature) honest

  -- the disk wasn't called
  still : is_uncalled s line ≡ true → IsUncalled old between
  still e = elim (either_way s.log.broken) [
    | inl broken ↦ did.stopped broken
    | inr whole ↦ (leaves whole).nothing (one_true s.log.broken (asks_nothing line) e whole)
  ]

  under_way : IsLeftTable between.image_at old.clock between.clock (tables_under_way was s line)
  under_way = left_if between.image_at old.clock between.clock (is_uncalled s line) was (record { before = table s.log; after = table_asked s line; under = under_asked s line })
      (λ e moment image from until at. let no = still e in
      left moment image from (let same = no.clock in omega (arith, same, until)) (no.images moment image at))
      (λ e. let apart = both_false s.log.broken (asks_nothing line) e in ((leaves apart.0).moments apart.1 honest).each)

  answered : IsLeftTable between.image_at between.clock between.clock (tables_answered was s line reply)
  answered = left_if between.image_at between.clock between.clock (is_uncalled s line) was
      (if is_answer reply then alone (table_asked s line) (under_asked s line)
      else record { before = table s.log; after = table_asked s line; under = under_asked s line })
      (λ e moment image from until at. let no = still e in let same = no.clock in
      left moment image (omega (arith, same, from)) (omega (arith, same, until)) (no.images moment image at))
      (λ e. let apart = both_false s.log.broken (asks_nothing line) e in
      left_if between.image_at between.clock between.clock (is_answer reply) (alone (table_asked s line) (under_asked s line))
      (record { before = table s.log; after = table_asked s line; under = under_asked s line })
      (λ good. ((leaves apart.0).lasts apart.1 good honest_between).each)
      (λ bad moment image from until at. ((leaves apart.0).moments apart.1 honest).each moment image (let later = did.writes.time.later in omega (arith, from, later)) until at))

  safe_then : (mid.log.broken ≡ true) ⊎ IsSafe mid.log mid.memory.stream
  safe_then = elim (either_way s.log.broken) [
    | inl broken ↦ inl (ap (λ (x : State). x.broken) (line_stays old.nature.tells_contents s line reply mid broken did.step) ∙ broken)
    | inr whole ↦ elim ((leaves whole).kept honest.0) [ inl broken ↦ inl broken | inr ends ↦ inr ends.safe ]
  ]

  left_first : (lines : List (Result TxnCall ℕ)) (answers : List TxnReply) → CrashLeavesLines mid between lines answers t new
      → IsLeftByLines old.nature.tells_contents new.image_at old.clock new.clock was s (line ∷ lines) (reply ∷ answers) t
  left_first lines answers rest = (
    between.clock,
    (
      did.writes.time.later,
      (
        λ moment image from until at. under_way moment image from until (time.past moment image until at),
        (
          λ moment image from until at. answered moment image from until (time.past moment image until at),
          (
            mid,
            (
              did.step,
              subst (λ (n : Nature). IsLeftByLines n.tells_contents new.image_at between.clock new.clock (tables_answered was s line reply) mid lines answers t)
                  did.writes.time.nature (rest safe_then honest_between (tables_answered was s line reply) answered),
            ),
          ),
        ),
      ),
    ),
  )

pub first_left : (s : Store) (old : DiskState) (mid : Store) (between : DiskState) (t : Store) (new : DiskState) (line : Result TxnCall ℕ) (reply : TxnReply)
    (lines : List (Result TxnCall ℕ)) (answers : List TxnReply) → AnswersAsked s old line reply mid between → Later between new
    → CrashLeavesLines mid between lines answers t new → CrashLeavesLines s old (line ∷ lines) (reply ∷ answers) t new
first_left s old mid between t new line reply lines answers did time rest safe honest was left =
    left_first s old mid between t new line reply did time safe honest was left lines answers rest
