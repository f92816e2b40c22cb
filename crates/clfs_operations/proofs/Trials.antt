-- The lines of a trial, answered one after the other.
use Rattle.std.proofs.Common.{◌≡◌, ℕ, zero, suc, ◌+◌, ◌≤◌, List, [], ◌∷◌, ◌++◌, length, take, Bool, true, false, Option, Some, None, refl, sym, ap, subst, ◌∙◌, arith, inl, inr, add-one, length-append}
use Rattle.std.specs.Prelude.{◌⊎◌, not, ◌||◌, map, count_by, if◌then◌else◌, MatchBool, MatchOption, IsTrue}
use Rattle.std.proofs.lemmas.List.{take-append-le, map-append, length-map}
use Rattle.std.proofs.lemmas.List.Sums.{sum_by-append}
use Rattle.std.proofs.Math.Seq.{take-append_seam}
use Rattle.clfs_disk.specs.State.{DiskState, IsSteady}
use Rattle.clfs_model.specs.declared.call.Call.TheVariants as calls
use Rattle.clfs_model.specs.declared.info.LogInfo.{LogInfo}
use Rattle.clfs_model.specs.declared.refusal.Refusal.{Refusal}
use Rattle.clfs_model.specs.declared.refusal.Refusal.TheVariants as refusals
use Rattle.clfs_model.specs.declared.reply.Happened.{Happened}
use Rattle.clfs_model.specs.declared.reply.Happened.TheVariants.{Fine}
use Rattle.clfs_model.specs.declared.reply.Reply.{Reply}
use Rattle.clfs_model.specs.declared.reply.Reply.TheVariants as replies
use Rattle.clfs_model.specs.declared.state.State.{State}
use Rattle.clfs_model.specs.Answers.{answer, info_of}
use Rattle.clfs_model.specs.Flush.{flushed}
use Rattle.clfs_model.specs.Happened.{happened_of}
use Rattle.clfs_model.specs.Lines.{without_return}
use Rattle.clfs_model.specs.Refusals.{refusal}
use Rattle.clfs_model.specs.Run.{Request, RequestStep, Run, all_fine}
use Rattle.clfs_model.specs.Script.{line_request}
use Rattle.clfs_model.specs.Step.{Step, IsBroken, IsOutOfMemory, Goes, Comes, takes_memory}
use Rattle.clfs_recover.specs.Files.{AreWholeFiles}
use Rattle.clfs_trial.specs.Generated.{generated, line_at, opening_lines}
use Rattle.clfs_trial.specs.Stage.{Stage, stage_after}
use Rattle.clfs_operations.specs.Answered.{requests_of, AnswersOne, AnswersAll}
use Rattle.clfs_operations.specs.Told.{tells_fault, tells_damage, has_fault, has_damage}
use Rattle.clfs_operations.specs.Trial.{told_lsn, is_refusal, tally_of, counted, lines_of_trial, HasTried, trial_log, trial_text, IsTrialText}
use Rattle.clfs_operations.specs.declared.tally.Tally.{Tally}
use Rattle.clfs_operations.proofs.SoFar.{none_answered, one_answered}
use Rattle.clfs_operations.proofs.WholeSteps.{StayUnbroken}

-- ---- the lines so far

-- a line hangs on the replies before it alone
lines_stay : (number lines : ℕ) (told more : List (Option ℕ)) → lines ≤ length told → generated number lines (told ++ more) ≡ generated number lines told
lines_stay number zero told more within = refl
lines_stay number (suc i) told more within =
    let before = lines_stay number i told more (omega arith) in
    let front : take i (told ++ more) ≡ take i told = take-append-le i told more (omega arith) in
    rw (before, front) refl

line_more : (number : ℕ) (told : List (Option ℕ)) (lsn : Option ℕ)
    → generated number (length told + 1) (told ++ lsn ∷ []) ≡ generated number (length told) told ++ line_at number (length told) told ∷ []
line_more number told lsn =
    let before = lines_stay number (length told) told (lsn ∷ []) (omega arith) in
    let front : take (length told) (told ++ lsn ∷ []) ≡ told = take-append_seam told (lsn ∷ []) in
    rw add-one (rw (before, front) refl)

-- ---- the sums so far

count_more : (p : Reply → Bool) (answers : List Reply) (reply : Reply) → count_by p (answers ++ reply ∷ []) ≡ count_by p answers + count_by p (reply ∷ [])
count_more p answers reply = sum_by-append (λ x. if p x then 1 else 0) answers (reply ∷ [])

tally_more : (answers : List Reply) (reply : Reply) → tally_of (answers ++ reply ∷ []) ≡ counted (tally_of answers) reply
tally_more answers reply = by_kind (is_refusal reply) (count_more (λ x. not (is_refusal x)) answers reply) (count_more is_refusal answers reply)
  where
    both : (a b c d : ℕ) → a ≡ b → c ≡ d → (let x : Tally = record { answered = a; refused = c } in x) ≡ record { answered = b; refused = d }
    both a b c d e f = cc

    by_kind : (refused : Bool)
        → count_by (λ x. not (is_refusal x)) (answers ++ reply ∷ []) ≡ count_by (λ x. not (is_refusal x)) answers + (0 + (if not refused then 1 else 0))
        → count_by is_refusal (answers ++ reply ∷ []) ≡ count_by is_refusal answers + (0 + (if refused then 1 else 0))
        → tally_of (answers ++ reply ∷ [])
        ≡ (if refused then record { answered = (tally_of answers).answered; refused = (tally_of answers).refused + 1 }
        else record { answered = (tally_of answers).answered + 1; refused = (tally_of answers).refused })
    by_kind true e f = both _ _ _ _ (omega (arith, e)) (omega (arith, f))
    by_kind false e f = both _ _ _ _ (omega (arith, e)) (omega (arith, f))

-- each reply is a refusal or none
all_counted : (answers : List Reply) → (tally_of answers).answered + (tally_of answers).refused ≡ length answers
all_counted [] = refl
all_counted (reply ∷ answers) =
    by_kind (is_refusal reply) (all_counted answers) (sum_by-append (λ x. if not (is_refusal x) then 1 else 0) (reply ∷ []) answers)
    (sum_by-append (λ x. if is_refusal x then 1 else 0) (reply ∷ []) answers)
  where
    by_kind : (refused : Bool) → (tally_of answers).answered + (tally_of answers).refused ≡ length answers
        → (tally_of (reply ∷ answers)).answered ≡ 0 + (if not refused then 1 else 0) + (tally_of answers).answered
        → (tally_of (reply ∷ answers)).refused ≡ 0 + (if refused then 1 else 0) + (tally_of answers).refused
        → (tally_of (reply ∷ answers)).answered + (tally_of (reply ∷ answers)).refused ≡ suc (length answers)
    by_kind true e f h = omega (arith, e, f, h)
    by_kind false e f h = omega (arith, e, f, h)

-- ---- one line more

-- so many lines were answered, and the generator stands before the next one
pub record IsUnderWay (s : State) (old : DiskState) (number lines : ℕ) (tally : Tally) (generator : Stage) (t : State) (new : DiskState) : Type 0 where
  pub tried : HasTried s old number lines tally t new
  pub stage : generator ≡ stage_after number (map told_lsn tried.answers)
  pub few : tally.answered + tally.refused ≡ lines

pub none_tried : (s : State) (disk : DiskState) (number : ℕ) (generator : Stage) (tally : Tally) → generator ≡ stage_after number [] → tally ≡ tally_of []
    → IsUnderWay s disk number 0 tally generator s disk
none_tried s disk number generator tally stage sums = record {
  tried = record { answers = []; many = refl; answered = none_answered s disk; sums = sums };
  stage = stage;
  few = ap (λ (x : Tally). x.answered + x.refused) sums;
}

-- the next line is the definition's
pub next_line : (s : State) (old : DiskState) (number lines : ℕ) (tally : Tally) (generator : Stage) (mid : State) (between : DiskState) (line before : List ℕ)
    → (way : IsUnderWay s old number lines tally generator mid between) → before ≡ []
    → ((n : ℕ) (told : List (Option ℕ)) → generator ≡ stage_after n told → line ≡ before ++ line_at n (length told) told)
    → line ≡ line_at number lines (map told_lsn way.tried.answers)
next_line s old number lines tally generator mid between line before way empty is =
    let told = map told_lsn way.tried.answers in
    let many : length told ≡ lines = length-map way.tried.answers told_lsn ∙ way.tried.many in
    is number told way.stage ∙ ap (λ b. b ++ line_at number (length told) told) empty ∙ ap (λ k. line_at number k told) many

pub one_tried : StayUnbroken → (s : State) (old : DiskState) (number lines : ℕ) (tally : Tally) (generator : Stage) (mid : State) (between : DiskState)
    (way : IsUnderWay s old number lines tally generator mid between) (line : List ℕ) (reply : Reply) (t : State) (new : DiskState) (after : Stage) (more : Tally)
    → line ≡ line_at number lines (map told_lsn way.tried.answers) → AnswersOne mid between (line_request (without_return line)) reply t new
    → ((n : ℕ) (told : List (Option ℕ)) → generator ≡ stage_after n told → after ≡ stage_after n (told ++ told_lsn reply ∷ []))
    → more ≡ counted tally reply → IsUnderWay s old number (lines + 1) more after t new
one_tried stay s old number lines tally generator mid between way line reply t new after more is one moves counts =
    let answers = way.tried.answers in
    let told = map told_lsn answers in
    let many : length told ≡ lines = length-map answers told_lsn ∙ way.tried.many in
    let tells : map told_lsn (answers ++ reply ∷ []) ≡ told ++ told_lsn reply ∷ [] = map-append told_lsn answers (reply ∷ []) in
    let sums : more ≡ tally_of (answers ++ reply ∷ []) = counts ∙ ap (λ x. counted x reply) way.tried.sums ∙ sym (tally_more answers reply) in
    let all : length (answers ++ reply ∷ []) ≡ lines + 1 = length-append answers (reply ∷ []) ∙ ap (λ k. k + 1) way.tried.many in
    let lines_are : lines_of_trial number (lines + 1) (answers ++ reply ∷ []) ≡ lines_of_trial number lines answers ++ line ∷ [] =
    ap (generated number (lines + 1)) tells ∙ ap (λ k. generated number (k + 1) (told ++ told_lsn reply ∷ [])) (sym many) ∙ line_more number told (told_lsn reply)
    ∙ ap (λ k. generated number k told ++ line_at number k told ∷ []) many ∙ ap (λ l. generated number lines told ++ l ∷ []) (sym is) in
    let requests : requests_of (lines_of_trial number (lines + 1) (answers ++ reply ∷ [])) ≡ requests_of (lines_of_trial number lines answers) ++ line_request (without_return line) ∷ [] =
    ap requests_of lines_are ∙ map-append (λ (l : List ℕ). line_request (without_return l)) (lines_of_trial number lines answers) (line ∷ []) in
    record {
      tried = record {
        answers = answers ++ reply ∷ [];
        many = all;
        answered = subst (λ (rs : List Request). AnswersAll s old rs (answers ++ reply ∷ []) t new) (sym requests)
            (one_answered stay s old (requests_of (lines_of_trial number lines answers)) answers mid between (line_request (without_return line)) reply t new way.tried.answered one);
        sums = sums;
      };
      stage = moves number told way.stage ∙ ap (stage_after number) (sym tells);
      few = ap (λ (x : Tally). x.answered + x.refused) sums ∙ all_counted (answers ++ reply ∷ []) ∙ all;
    }

-- ---- the end

happened_fine : (reply : Reply) → tells_fault reply ≡ false → tells_damage reply ≡ false → happened_of reply ≡ Fine
happened_fine (replies.Refused refusals.DiskFault) e f = absurd (cc e)
happened_fine (replies.Refused (refusals.Damaged container offset at)) e f = absurd (cc f)
happened_fine _ e f = refl

neither : (a b : Bool) → (a || b) ≡ false → (a ≡ false) × (b ≡ false)
neither false b e = (refl, e)
neither true b e = absurd (cc e)

-- a run in which no reply tells a fault or damage is one in which nothing happened
run_fine : (told : Bool) (s : State) (requests : List Request) (answers : List Reply) (t : State) → Run told s requests (map happened_of answers) answers t
    → has_fault answers ≡ false → has_damage answers ≡ false → Run told s requests (all_fine requests) answers t
run_fine told s [] [] t run e f = run
run_fine told s [] (y ∷ answers) t run e f = absurd run
run_fine told s (x ∷ requests) [] t run e f = absurd run
run_fine told s (x ∷ requests) (y ∷ answers) t run e f =
    let faults = neither (tells_fault y) (has_fault answers) e in
    let damages = neither (tells_damage y) (has_damage answers) f in (
      run.0,
      (
        subst (λ (h : Happened). RequestStep told s x h y run.0) (happened_fine y faults.0 damages.0) run.1.0,
        run_fine told run.0 requests answers t run.1.1 faults.1 damages.1,
      ),
    )

pub summed : (number count : ℕ) (s : State) (old : DiskState) (tally : Tally) (t : State) (new : DiskState) (lsn : ℕ) (text : List ℕ) → s ≡ trial_log
    → IsTrue old.nature.tells_contents → IsSteady old → AreWholeFiles old.files → HasTried s old number (opening_lines + count) tally t new → lsn ≡ flushed t
    → text ≡ trial_text number count tally lsn → IsTrialText number count text
summed number count s old tally t new lsn text begins tells steady whole tried is_flushed is =
    let answered = tried.answered in
    let no_fault = answered.steady steady tells whole in
    let no_damage = answered.damage tells in
    let unbroken : s.broken ≡ false = ap (λ (x : State). x.broken) begins in
    let requests = requests_of (lines_of_trial number (opening_lines + count) tried.answers) in
    let told : old.nature.tells_contents ≡ true = tells in
    let run : Run old.nature.tells_contents s requests (all_fine requests) tried.answers t =
    run_fine old.nature.tells_contents s requests tried.answers t answered.run no_fault no_damage in
    let from : Run true s requests (all_fine requests) tried.answers t = subst (λ (b : Bool). Run b s requests (all_fine requests) tried.answers t) told run in
    let many = tried.many in
    record {
      answers = tried.answers;
      last = t;
      run = subst (λ (x : State). Run true x requests (all_fine requests) tried.answers t) begins from;
      no_fault = no_fault;
      no_damage = no_damage;
      no_broken = (answered.unbroken tells unbroken no_fault).1;
      all = let sum = all_counted tried.answers in omega (arith, sum, many);
      is = is ∙ ap (λ k. trial_text number count tally k) is_flushed ∙ ap (λ (x : Tally). trial_text number count x (flushed t)) tried.sums;
    }

-- ---- what a log tells of itself

tells_flushed : (s : State) (stream : ℕ) (info : LogInfo) (first : Option Refusal)
    → MatchOption first (Comes true (flushed s) (answer s 0 (calls.Info stream)) (replies.Info info) s) (λ given. (replies.Info info ≡ replies.Refused given) × (s ≡ s))
    → info.flushed ≡ flushed s
tells_flushed s stream info None comes = info_same info (info_of s stream) comes.0
  where
    info_same : (a b : LogInfo) → replies.Info a ≡ replies.Info b → a.flushed ≡ b.flushed
    info_same a b e = cc
tells_flushed s stream info (Some given) comes = absurd (let clash = comes.0 in cc clash)

pub info_flushed : (s : State) (stream : ℕ) (info : LogInfo) → Step true s 0 (calls.Info stream) Fine (replies.Info info) s → info.flushed ≡ flushed s
unfolding Step
info_flushed s stream info step = by_broken s.broken step
  where
    by_ways : ((IsTrue (takes_memory (calls.Info stream)) × IsOutOfMemory s (replies.Info info) s) ⊎ Goes true s 0 (calls.Info stream) Fine (replies.Info info) s)
        → info.flushed ≡ flushed s
    by_ways (inl memory) = absurd (let clash = memory.1.0 in cc clash)
    by_ways (inr goes) = tells_flushed s stream info (refusal s 0 (calls.Info stream)) goes

    by_broken : (broken : Bool) → MatchBool broken (IsBroken s (replies.Info info) s)
        ((IsTrue (takes_memory (calls.Info stream)) × IsOutOfMemory s (replies.Info info) s) ⊎ Goes true s 0 (calls.Info stream) Fine (replies.Info info) s)
        → info.flushed ≡ flushed s
    by_broken true is = absurd (let clash = is.0 in cc clash)
    by_broken false ways = by_ways ways
