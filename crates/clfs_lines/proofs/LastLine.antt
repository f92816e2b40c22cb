-- How the answering of a script ends after the lines that have their line feed: by the last line, where there is one.
use Rattle.std.proofs.Common.{◌≡◌, ℕ, ◌<◌, Bool, true, false, List, [], ◌∷◌, ◌++◌, length, take, drop, refl, sym, ap, ◌∙◌, subst, inl, inr, arith}
use Rattle.std.specs.Prelude.{◌==◌, Option}
use Rattle.std.proofs.lemmas.Bool.{eqb-true}
use Rattle.std.specs.Io.KnownBytes.{Appends}
use Rattle.std.proofs.lemmas.List.{append-nil, take_all, take-append-drop}
use Rattle.clfs_model.specs.Lines.{lines_of}
use Rattle.clfs_lines.specs.Through.{Answered, AnswersLine, AnswersThrough, AnswersUnwritten, AnswersInPart}
use Rattle.clfs_lines.specs.Ends.{AppendsFront}
use Rattle.clfs_lines.specs.Feeds.{with_feeds}
use Rattle.clfs_lines.specs.Reached.{HasAnsweredEnded}
use Rattle.clfs_lines.specs.Answering.{StopsShort, IsWholeAnswer, Writes}
use Rattle.clfs_lines.specs.Taken.{lines_in, script_limits, IsWholeScript}
use Rattle.clfs_lines.specs.declared.incomplete.IncompleteLine.{IncompleteLine}
use Rattle.clfs_lines.specs.declared.incomplete.IncompleteLine.TheVariants.{Counts, Dropped}
use Rattle.clfs_lines.proofs.ScriptLines.{known_are_front, script_ended, script_cut, ended_are, short_is_within, all_short_more}
use Rattle.clfs_lines.proofs.Through.{through_more, all_written, front_written}
use Rattle.clfs_lines.proofs.Written.{appends_more}

-- what it says that there are no bytes, or some
pub no_bytes : (bytes : List ℕ) (count : ℕ) (test : Bool) → length bytes ≡ count → test ≡ (count == 0) → test ≡ true → bytes ≡ []
no_bytes [] count test many is holds = refl
no_bytes (b ∷ bytes) count test many is holds = let never = eqb-true count 0 (sym is ∙ holds) in absurd (omega (arith, never, many))

pub some_bytes : (bytes : List ℕ) (count : ℕ) (test : Bool) → length bytes ≡ count → test ≡ (count == 0) → test ≡ false → 0 < length bytes
some_bytes [] count test many is fails =
    let tested : (count == 0) ≡ true = ap (λ (n : ℕ). n == 0) (sym many) in
    absurd (let never : true ≡ false = sym tested ∙ sym is ∙ fails in cc never)
some_bytes (b ∷ bytes) count test many is fails = omega arith

-- what isn't dropped counts
pub counts : (incomplete : IncompleteLine) → (incomplete ≡ Dropped → ⊥) → incomplete ≡ Counts
counts Counts other = refl
counts Dropped other = absurd (other refl)

module _ (most : ℕ) (A : Type 0) (answers : Answered A) (a : A) (left left_after written : Option (List ℕ)) where
  -- all lines of a script, the last one too
  all_lines : (line : List ℕ) (b : A) (w : Option (List ℕ)) (ended : HasAnsweredEnded answers most a left left_after written line b w)
      → 0 < length line → lines_of ended.script ≡ ended.so_far.lines ++ line ∷ []
  all_lines line b w ended some = script_cut ended.script ended.so_far.lines line ended.so_far.whole ended.so_far.split ended.one some

  is_whole : (line : List ℕ) (b : A) (w : Option (List ℕ)) (ended : HasAnsweredEnded answers most a left left_after written line b w)
      → 0 < length line → IsWholeScript (script_limits most) left left_after ended.script
  is_whole line b w ended some = record {
    given = ended.given;
    end = ended.end;
    within = short_is_within most ended.script (ended.so_far.lines ++ line ∷ []) ended.few (all_lines line b w ended some)
        (all_short_more ended.so_far.lines line ended.so_far.short ended.short);
  }

  -- the script ends with a line feed
  none_is_whole : (b : A) (w : Option (List ℕ)) (ended : HasAnsweredEnded answers most a left left_after written [] b w)
      → IsWholeScript (script_limits most) left left_after ended.script
  none_is_whole b w ended =
      let so_far = ended.so_far in record {
        given = ended.given;
        end = ended.end;
        within = short_is_within most ended.script so_far.lines ended.few (script_ended ended.script so_far.lines so_far.whole so_far.split) so_far.short;
      }

  rest_is_whole : (line : List ℕ) (b : A) (w : Option (List ℕ)) (ended : HasAnsweredEnded answers most a left left_after written line b w)
      → IsWholeScript (script_limits most) left left_after ended.script
  rest_is_whole [] b w ended = none_is_whole b w ended
  rest_is_whole (byte ∷ line) b w ended = is_whole (byte ∷ line) b w ended (omega arith)

  -- no line is left
  pub none_left : (line : List ℕ) (b : A) (w : Option (List ℕ)) → HasAnsweredEnded answers most a left left_after written line b w → line ≡ []
      → Writes (IsWholeAnswer (script_limits most) Counts (AnswersThrough answers a b) left left_after) written w
  none_left line b w ended none =
      let so_far = ended.so_far in
      let all : lines_of ended.script ≡ so_far.lines =
      script_ended ended.script so_far.lines so_far.whole (ap (λ (rest : List ℕ). with_feeds so_far.lines ++ rest) (sym none) ∙ so_far.split) in (
        so_far.text,
        record {
          script = ended.script;
          read = rest_is_whole line b w ended;
          answered = subst (λ (lines : List (List ℕ)). AnswersThrough answers a b lines so_far.text) (sym all) so_far.answered;
        },
        so_far.replies,
      )

  -- what is left is dropped
  pub rest_dropped : (line : List ℕ) (b : A) (w : Option (List ℕ)) → HasAnsweredEnded answers most a left left_after written line b w
      → Writes (IsWholeAnswer (script_limits most) Dropped (AnswersThrough answers a b) left left_after) written w
  rest_dropped line b w ended =
      let so_far = ended.so_far in
      let all : lines_in Dropped ended.script ≡ so_far.lines = ended_are ended.script so_far.lines line so_far.whole so_far.split ended.one in (
        so_far.text,
        record {
          script = ended.script;
          read = rest_is_whole line b w ended;
          answered = subst (λ (lines : List (List ℕ)). AnswersThrough answers a b lines so_far.text) (sym all) so_far.answered;
        },
        so_far.replies,
      )

  -- the last line was answered
  pub last_answered : (line : List ℕ) (mid : A) (before text : List ℕ) (b : A) (w1 w2 : Option (List ℕ))
      → HasAnsweredEnded answers most a left left_after written line mid w1 → 0 < length line → AnswersLine answers mid line before text b → before ≡ []
      → Appends w1 w2 text → Writes (IsWholeAnswer (script_limits most) Counts (AnswersThrough answers a b) left left_after) written w2
  last_answered line mid before text b w1 w2 ended some step none wrote =
      let so_far = ended.so_far in
      let reply : List ℕ = step.0 in
      let is : text ≡ reply = step.1.1 ∙ ap (λ (out : List ℕ). out ++ reply) none in (
        so_far.text ++ reply,
        record {
          script = ended.script;
          read = is_whole line mid w1 ended some;
          answered = subst (λ (lines : List (List ℕ)). AnswersThrough answers a b lines (so_far.text ++ reply)) (sym (all_lines line mid w1 ended some))
              (through_more A answers a mid b so_far.lines line so_far.text step.0 so_far.answered step.1.0);
        },
        appends_more written w1 w2 so_far.text text (so_far.text ++ reply) (ap (λ (r : List ℕ). so_far.text ++ r) (sym is)) so_far.replies wrote,
      )

  -- memory ran out before it
  pub last_unanswered : (line : List ℕ) (b : A) (w : Option (List ℕ)) → HasAnsweredEnded answers most a left left_after written line b w
      → StopsShort (script_limits most) Counts (AnswersInPart answers a b false) left left_after written w
  last_unanswered line b w ended =
      let so_far = ended.so_far in (
        so_far.lines,
        (
          inl (record {
            bytes = ended.script;
            given = ended.given;
            front = known_are_front most ended.script so_far.lines line so_far.whole so_far.short (so_far.split ∙ sym (take_all most ended.script ended.few));
          }),
          (so_far.text, all_written A answers a b false so_far.lines so_far.text so_far.answered, so_far.replies),
        ),
      )

  -- memory ran out after the answer to it
  pub last_unwritten : (line : List ℕ) (mid : A) (b : A) (w : Option (List ℕ))
      → HasAnsweredEnded answers most a left left_after written line mid w → 0 < length line → AnswersUnwritten answers mid line b
      → StopsShort (script_limits most) Counts (AnswersInPart answers a b false) left left_after written w
  last_unwritten line mid b w ended some step =
      let so_far = ended.so_far in (
        so_far.lines ++ line ∷ [],
        (
          inr (record {
            script = ended.script;
            read = is_whole line mid w ended some;
            all = all_lines line mid w ended some;
          }),
          (
            so_far.text ++ [],
            front_written A answers a mid b so_far.lines line so_far.text step.0 false [] step.0
                so_far.answered step.1 refl (λ e. refl),
            subst (λ (text : List ℕ). Appends written w text) (sym (append-nil so_far.text)) so_far.replies,
          ),
        ),
      )

  -- the sink failed in the reply to it
  pub last_cut : (line : List ℕ) (mid : A) (before text : List ℕ) (b : A) (w1 w2 : Option (List ℕ))
      → HasAnsweredEnded answers most a left left_after written line mid w1 → 0 < length line → AnswersLine answers mid line before text b → before ≡ []
      → AppendsFront w1 w2 text → StopsShort (script_limits most) Counts (AnswersInPart answers a b true) left left_after written w2
  last_cut line mid before text b w1 w2 ended some step none wrote =
      let so_far = ended.so_far in
      let reply : List ℕ = step.0 in
      let is : text ≡ reply = step.1.1 ∙ ap (λ (out : List ℕ). out ++ reply) none in (
        so_far.lines ++ line ∷ [],
        (
          inr (record {
            script = ended.script;
            read = is_whole line mid w1 ended some;
            all = all_lines line mid w1 ended some;
          }),
          (
            so_far.text ++ take wrote.count text,
            front_written A answers a mid b so_far.lines line so_far.text step.0 true (take wrote.count text) (drop wrote.count text)
                so_far.answered step.1.0 (take-append-drop wrote.count text ∙ is) (λ e. absurd (cc e)),
            appends_more written w1 w2 so_far.text (take wrote.count text) (so_far.text ++ take wrote.count text) refl so_far.replies wrote.front,
          ),
        ),
      )
