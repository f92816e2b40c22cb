-- The lines that a store of a table answered, one after the other.
use Rattle.std.proofs.Common.{◌≡◌, ℕ, ◌⊎◌, Bool, true, false, List, [], ◌∷◌, ◌++◌, length, take, drop, refl, sym, ap, ◌∙◌, length-append, subst, inl, inr, arith, Result, Ok, Err}
use Rattle.std.specs.Prelude.{◌||◌, map, IsTrue}
use Rattle.std.specs.List.{concat}
use Rattle.std.proofs.lemmas.List.{take-append-drop, length-drop, length-map}
use Rattle.clfs_disk.specs.State.{DiskState, Nature, TellsContents, IsSteady, Later, Rises}
use Rattle.clfs_model.specs.Lines.{without_return}
use Rattle.clfs_model.specs.declared.refusal.Refusal.TheVariants as log_refusals
use Rattle.clfs_recover.specs.Files.{AreWholeFiles}
use Rattle.clfs_cells.specs.declared.asked.TxnCall.{TxnCall}
use Rattle.clfs_cells.specs.declared.told.TxnRefusal.TheVariants as refusals
use Rattle.clfs_cells.specs.declared.told.TxnReply.{TxnReply}
use Rattle.clfs_cells.specs.declared.told.TxnReply.TheVariants as replies
use Rattle.clfs_cells.specs.Calls.{TxnStep}
use Rattle.clfs_cells.specs.Lines.{calls_of_lines, txn_reply_line, txn_call_in}
use Rattle.clfs_cells.specs.Stored.{Store}
use Rattle.clfs_cells_laws.specs.Breaking.{tells_break, tells_table_broken, tells_table_damage, tells_table_fault}
use Rattle.clfs_operations.specs.TableAnswered.{AnswersTable, LineStep, fault_reply}
use Rattle.clfs_lines.specs.Through as through
use Rattle.clfs_lines.specs.Through.{AnswersEach, AnswersThrough}
use Rattle.clfs_operations.specs.Txn.{TableRun, AnswersTableLines, IsFrontOfReplies, has_table_broken, has_table_damage, has_table_fault, table_text}
use Rattle.clfs_operations.specs.TxnCrashed.{CrashLeavesLines}
use Rattle.clfs_operations.proofs.SoFar.{later_then, stands_still}
use Rattle.clfs_operations.proofs.TxnLeft.{first_left}

-- ---- the replies as texts

-- they stand one after the other
texts_joined : (answers : List TxnReply) → table_text answers ≡ concat (map txn_reply_line answers)
texts_joined [] = refl
texts_joined (reply ∷ answers) = ap (λ (text : List ℕ). txn_reply_line reply ++ text) (texts_joined answers)

-- the front of them are the replies at the front
front_text : (answers : List TxnReply) (whole others : List (List ℕ)) → map txn_reply_line answers ≡ whole ++ others
    → table_text (take (length whole) answers) ≡ concat whole
front_text answers [] others is = refl
front_text [] (x ∷ whole) others is = absurd (cc is)
front_text (reply ∷ answers) (x ∷ whole) others is =
    let first : txn_reply_line reply ≡ x = cc is in
    let rest : map txn_reply_line answers ≡ whole ++ others = cc is in
    rw (first, front_text answers whole others rest) refl

-- ---- what replies tell

fault_is : (reply : TxnReply) → tells_table_fault reply ≡ true → reply ≡ fault_reply
fault_is (replies.Refused (refusals.Log log_refusals.DiskFault)) e = refl
fault_is _ e = absurd (cc e)

no_fault_is : (reply : TxnReply) → (reply ≡ fault_reply → ⊥) → tells_table_fault reply ≡ false
no_fault_is (replies.Refused (refusals.Log log_refusals.DiskFault)) never = absurd (never refl)
no_fault_is _ never = refl

never_is : (reply : TxnReply) → tells_table_fault reply ≡ false → reply ≡ fault_reply → ⊥
never_is reply none is = let told = rw is at none in cc told

no_break : (reply : TxnReply) → tells_table_fault reply ≡ false → tells_table_damage reply ≡ false → tells_break reply ≡ false
no_break (replies.Refused (refusals.Log log_refusals.DiskFault)) fault damage = absurd (cc fault)
no_break (replies.Refused (refusals.Log (log_refusals.Damaged container offset at))) fault damage = absurd (cc damage)
no_break _ fault damage = refl

either : (a b : Bool) → (a || b) ≡ true → (a ≡ true) ⊎ (b ≡ true)
either true b e = inl refl
either false b e = inr e

neither : (a b : Bool) → (a || b) ≡ false → (a ≡ false) × (b ≡ false)
neither true b e = absurd (cc e)
neither false b e = (refl, e)

-- only faults and damage break a store
abbrev pub BreakOnly : Type 0
BreakOnly = (told : Bool) (s : Store) (call : TxnCall) (reply : TxnReply) (t : Store) → s.log.broken ≡ false → TxnStep told s call reply t
    → tells_break reply ≡ false → (t.log.broken ≡ false) × (tells_table_broken reply ≡ false)

line_whole : BreakOnly → (told : Bool) (s : Store) (asked : Result TxnCall ℕ) (reply : TxnReply) (t : Store) → s.log.broken ≡ false → LineStep told s asked reply t
    → tells_break reply ≡ false → (t.log.broken ≡ false) × (tells_table_broken reply ≡ false)
line_whole only told s (Ok call) reply t was step calm = only told s call reply t was step calm
line_whole only told s (Err at) reply t was step calm = (ap (λ (x : Store). x.log.broken) step.1 ∙ was, ap tells_table_broken step.0)

-- ---- lines one after the other

-- lines that were answered, with the replies to them as texts
record IsRun (s : Store) (old : DiskState) (t : Store) (new : DiskState) (lines texts : List (List ℕ)) : Type 0 where
  answers : List TxnReply
  run : TableRun old.nature.tells_contents s (calls_of_lines lines) answers t
  are : map txn_reply_line answers ≡ texts
  time : Later old new
  cause : has_table_fault answers ≡ true → Rises old.faults new.faults
  damage : TellsContents old → has_table_damage answers ≡ false
  unbroken : TellsContents old → s.log.broken ≡ false → has_table_fault answers ≡ false → (t.log.broken ≡ false) × (has_table_broken answers ≡ false)
  whole : TellsContents old → has_table_fault answers ≡ false → AreWholeFiles old.files → AreWholeFiles new.files
  steady : IsSteady old → TellsContents old → AreWholeFiles old.files → has_table_fault answers ≡ false
  crash : CrashLeavesLines s old (calls_of_lines lines) answers t new

none_run : (s : Store) (disk : DiskState) → IsRun s disk s disk [] []
none_run s disk = record {
  answers = [];
  run = refl;
  are = refl;
  time = stands_still disk;
  cause = λ e. absurd (cc e);
  damage = λ told. refl;
  unbroken = λ told was none. (was, refl);
  whole = λ told none are. are;
  steady = λ steady told are. refl;
  crash = λ safe honest was left. (refl, refl);
}

first_run : BreakOnly → (s : Store) (old : DiskState) (mid : Store) (between : DiskState) (t : Store) (new : DiskState) (line text : List ℕ) (lines texts : List (List ℕ))
    → AnswersTable s old line text mid between → IsRun mid between t new lines texts → IsRun s old t new (line ∷ lines) (text ∷ texts)
first_run only s old mid between t new line text lines texts one rest =
    let did = one.answered in
    let nature : between.nature ≡ old.nature = did.writes.time.nature in
    let tells : TellsContents old → TellsContents between = λ told. subst (λ (n : Nature). IsTrue n.tells_contents) (sym nature) told in
    record {
      answers = one.reply ∷ rest.answers;
      run = (mid, (did.step, subst (λ (n : Nature). TableRun n.tells_contents mid (calls_of_lines lines) rest.answers t) nature rest.run));
      are = ap (λ (x : List ℕ). x ∷ map txn_reply_line rest.answers) (sym one.is) ∙ ap (λ (xs : List (List ℕ)). text ∷ xs) rest.are;
      time = later_then old between new did.writes.time rest.time;
      cause = λ some. elim (either (tells_table_fault one.reply) (has_table_fault rest.answers) some) [
        | inl here ↦ let rose = did.writes.cause (fault_is one.reply here) in omega (arith, rose, rest.time.faults)
        | inr there ↦ let rose = rest.cause there in omega (arith, rose, did.writes.time.faults)
      ];
      damage = λ told. rw (did.damage told, rest.damage (tells told)) refl;
      unbroken = λ told was none.
          let apart = neither (tells_table_fault one.reply) (has_table_fault rest.answers) none in
          let here = line_whole only old.nature.tells_contents s (txn_call_in (without_return line)) one.reply mid was did.step
          (no_break one.reply apart.0 (did.damage told)) in
          let after = rest.unbroken (tells told) here.0 apart.1 in
          (after.0, rw (here.1, after.1) refl);
      whole = λ told none are.
          let apart = neither (tells_table_fault one.reply) (has_table_fault rest.answers) none in
          rest.whole (tells told) apart.1 (did.writes.whole (never_is one.reply apart.0) told are);
      steady = λ steady told are.
          let fine = did.writes.steady steady told are in
          let here : tells_table_fault one.reply ≡ false = no_fault_is one.reply fine.0 in
          let there : has_table_fault rest.answers ≡ false =
          rest.steady (subst (λ (n : Nature). IsTrue n.steady) (sym nature) steady) (tells told) (did.writes.whole fine.0 told are) in
          rw (here, there) refl;
      crash = first_left s old mid between t new (txn_call_in (without_return line)) one.reply (calls_of_lines lines) rest.answers did rest.time rest.crash;
    }

-- lines that were answered, and what a crash leaves meanwhile
pub record AreTableLines (s : Store) (old : DiskState) (t : Store) (new : DiskState) (lines : List (List ℕ)) (text : List ℕ) : Type 0 where
  pub given : AnswersTableLines s old t new lines text
  pub crash : CrashLeavesLines s old (calls_of_lines lines) given.answers t new

-- what is said of replies that were written in part
pub record IsTablePart (s : Store) (old : DiskState) (t : Store) (new : DiskState) (torn : Bool) (lines : List (List ℕ)) (text : List ℕ) : Type 0 where
  pub output : List ℕ
  pub given : AreTableLines s old t new lines output
  pub front : IsFrontOfReplies torn given.given.answers text

module _ (A : Type 0) (store : A → Store) (disk : A → DiskState) where
  run_of : BreakOnly → (a b : A) (lines texts : List (List ℕ))
      → AnswersEach (λ (x : A) (line reply : List ℕ) (y : A). AnswersTable (store x) (disk x) line reply (store y) (disk y)) a lines texts b
      → IsRun (store a) (disk a) (store b) (disk b) lines texts
  run_of only a b [] [] each = subst (λ (x : A). IsRun (store a) (disk a) (store x) (disk x) [] []) (sym each) (none_run (store a) (disk a))
  run_of only a b [] (text ∷ texts) each = absurd each
  run_of only a b (line ∷ lines) [] each = absurd each
  run_of only a b (line ∷ lines) (text ∷ texts) each =
      let mid : A = each.0 in
      first_run only (store a) (disk a) (store mid) (disk mid) (store b) (disk b) line text lines texts each.1.0 (run_of only mid b lines texts each.1.1)

  -- all replies as one text
  pub table_lines : BreakOnly → (a b : A) (lines : List (List ℕ)) (text : List ℕ)
      → AnswersThrough (λ (x : A) (line reply : List ℕ) (y : A). AnswersTable (store x) (disk x) line reply (store y) (disk y)) a b lines text
      → AreTableLines (store a) (disk a) (store b) (disk b) lines text
  table_lines only a b lines text given =
      let run = run_of only a b lines given.replies given.each in record {
        given = record {
          answers = run.answers;
          run = run.run;
          is = given.is ∙ sym (texts_joined run.answers ∙ ap (λ (texts : List (List ℕ)). concat texts) run.are);
          time = run.time;
          cause = run.cause;
          damage = run.damage;
          unbroken = run.unbroken;
          whole = run.whole;
          steady = run.steady;
        };
        crash = run.crash;
      }

  -- or all but the last, and a front of it
  pub table_part : BreakOnly → (a b : A) (torn : Bool) (lines : List (List ℕ)) (text : List ℕ)
      → through.AnswersInPart (λ (x : A) (line reply : List ℕ) (y : A). AnswersTable (store x) (disk x) line reply (store y) (disk y)) a b torn lines text
      → IsTablePart (store a) (disk a) (store b) (disk b) torn lines text
  table_part only a b torn lines text part =
      let run = run_of only a b lines part.replies part.each in
      let count : ℕ = length part.whole in
      let split : map txn_reply_line run.answers ≡ part.whole ++ part.others = run.are ∙ sym part.all in
      let sum = ap length split in record {
        output = table_text run.answers;
        given = record {
          given = record {
            answers = run.answers;
            run = run.run;
            is = refl;
            time = run.time;
            cause = run.cause;
            damage = run.damage;
            unbroken = run.unbroken;
            whole = run.whole;
            steady = run.steady;
          };
          crash = run.crash;
        };
        front = record {
          whole = take count run.answers;
          others = drop count run.answers;
          all = take-append-drop count run.answers;
          at_most_one = omega (
            arith,
            length-drop count run.answers,
            length-map run.answers txn_reply_line,
            sum,
            length-append part.whole part.others,
            part.at_most_one,
          );
          front = part.front;
          untorn = part.untorn;
          rest = part.rest;
          is = part.is ∙ ap (λ (bytes : List ℕ). bytes ++ part.front) (sym (front_text run.answers part.whole part.others split));
          goes_on = part.goes_on ∙ sym (texts_joined run.answers ∙ ap (λ (texts : List (List ℕ)). concat texts) run.are);
        };
      }
