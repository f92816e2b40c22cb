-- How answering ends, by why no further line is answered.
use Rattle.std.proofs.Common.{◌≡◌, ℕ, ◌≤◌, ◌⊎◌, Bool, true, false, List, refl, sym, ◌∙◌, inl, inr, arith}
use Rattle.std.specs.Prelude.{Option}
use Rattle.std.specs.Io.KnownBytes.{Appends}
use Rattle.clfs_ports.specs.Cause.{Rises}
use Rattle.clfs_model.specs.Accepted.{Limits}
use Rattle.clfs_lines.specs.Ends.{AppendsFront}
use Rattle.clfs_lines.specs.Answering.{Answers, EndsAnswering, IsWholeAnswer, IsAnswerUpToFault, StopsShort, Writes, IsAnswerStatus, too_long_text}
use Rattle.clfs_lines.specs.Stopped.{IsAnswerBeforeLimit}
use Rattle.clfs_lines.specs.declared.incomplete.IncompleteLine.{IncompleteLine}
use Rattle.clfs_lines.proofs.Written.{appends_more}

module _ (limits : Limits) (incomplete : IncompleteLine) (Is : Answers) (InPart : Bool → Answers) (left left' written written' : Option (List ℕ)) (source source' sink sink' : ℕ) (later : source ≤ source') (sink_later : sink ≤ sink') where
  -- all lines are answered
  pub ends_done : Writes (IsWholeAnswer limits incomplete Is left left') written written' → EndsAnswering limits incomplete Is InPart 0 left left' written written' source source' sink sink'
  ends_done done = record {
    statuses = inl refl;
    done = λ e. done;
    source_fault = λ e. absurd (omega (arith, e));
    source_fault_answers = λ e. absurd (omega (arith, e));
    sink_fault = λ e. absurd (omega (arith, e));
    sink_fault_front = λ e. absurd (omega (arith, e));
    no_memory = λ e. absurd (omega (arith, e));
    too_long = λ e. absurd (omega (arith, e));
    source_count = later;
    sink_count = sink_later;
  }

  -- the source failed
  pub ends_at_source : Rises source source' → Writes (IsAnswerUpToFault limits Is left left') written written'
      → EndsAnswering limits incomplete Is InPart 2 left left' written written' source source' sink sink'
  ends_at_source cause answered = record {
    statuses = inr (inl refl);
    done = λ e. absurd (omega (arith, e));
    source_fault = λ e. cause;
    source_fault_answers = λ e. answered;
    sink_fault = λ e. absurd (omega (arith, e));
    sink_fault_front = λ e. absurd (omega (arith, e));
    no_memory = λ e. absurd (omega (arith, e));
    too_long = λ e. absurd (omega (arith, e));
    source_count = later;
    sink_count = sink_later;
  }

  -- the sink failed in the reply to a line
  pub ends_at_sink : Rises sink sink' → StopsShort limits incomplete (InPart true) left left' written written' → EndsAnswering limits incomplete Is InPart 3 left left' written written' source source' sink sink'
  ends_at_sink cause stops = record {
    statuses = inr (inr (inl refl));
    done = λ e. absurd (omega (arith, e));
    source_fault = λ e. absurd (omega (arith, e));
    source_fault_answers = λ e. absurd (omega (arith, e));
    sink_fault = λ e. cause;
    sink_fault_front = λ e. inl stops;
    no_memory = λ e. absurd (omega (arith, e));
    too_long = λ e. absurd (omega (arith, e));
    source_count = later;
    sink_count = sink_later;
  }

  -- memory ran out
  pub ends_without_memory : StopsShort limits incomplete (InPart false) left left' written written' → EndsAnswering limits incomplete Is InPart 5 left left' written written' source source' sink sink'
  ends_without_memory stops = record {
    statuses = inr (inr (inr (inl refl)));
    done = λ e. absurd (omega (arith, e));
    source_fault = λ e. absurd (omega (arith, e));
    source_fault_answers = λ e. absurd (omega (arith, e));
    sink_fault = λ e. absurd (omega (arith, e));
    sink_fault_front = λ e. absurd (omega (arith, e));
    no_memory = λ e. stops;
    too_long = λ e. absurd (omega (arith, e));
    source_count = later;
    sink_count = sink_later;
  }

-- a limit is passed, and the line that says so was written, or the sink failed in it
module _ (limits : Limits) (incomplete : IncompleteLine) (Is : Answers) (InPart : Bool → Answers) (left left' written between written' : Option (List ℕ)) (source source' sink mid sink' : ℕ) (later : source ≤ source') (sink_later : sink ≤ mid) where
  pub ends_at_limit : (result : ℕ) → Writes (IsAnswerBeforeLimit limits Is left left') written between → (result ≡ 7) ⊎ (result ≡ 3)
      → (result ≡ 7 → Appends between written' too_long_text) → (result ≡ 3 → AppendsFront between written' too_long_text) → (result ≡ 3 → Rises mid sink') → mid ≤ sink'
      → EndsAnswering limits incomplete Is InPart result left left' written written' source source' sink sink'
  ends_at_limit result before ends whole front cause rest_later = record {
    statuses = statuses ends;
    done = λ e. absurd (other ends 0 e (λ f. omega (arith, f)) (λ f. omega (arith, f)));
    source_fault = λ e. absurd (other ends 2 e (λ f. omega (arith, f)) (λ f. omega (arith, f)));
    source_fault_answers = λ e. absurd (other ends 2 e (λ f. omega (arith, f)) (λ f. omega (arith, f)));
    sink_fault = λ e. let rose = cause e in omega (arith, rose, sink_later);
    sink_fault_front = λ e. let cut = front e in inr (
      _,
      record {
        bytes = before.1.bytes;
        given = before.1.given;
        output = before.0;
        answered = before.1.answered;
        count = cut.count;
        front = refl;
      },
      appends_more written between written' before.0 _ _ refl before.2 cut.front,
    );
    no_memory = λ e. absurd (other ends 5 e (λ f. omega (arith, f)) (λ f. omega (arith, f)));
    too_long = λ e. (
      _,
      record {
        bytes = before.1.bytes;
        given = before.1.given;
        answered = record { output = before.0; answered = before.1.answered; line = refl };
      },
      appends_more written between written' before.0 too_long_text _ refl before.2 (whole e),
    );
    source_count = later;
    sink_count = omega (arith, sink_later, rest_later);
  }
    where
      statuses : (result ≡ 7) ⊎ (result ≡ 3) → IsAnswerStatus result
      statuses (inl e) = inr (inr (inr (inr e)))
      statuses (inr e) = inr (inr (inl e))

      other : (result ≡ 7) ⊎ (result ≡ 3) → (k : ℕ) → result ≡ k → (k ≡ 7 → ⊥) → (k ≡ 3 → ⊥) → ⊥
      other (inl e) k is not_seven not_three = not_seven (sym is ∙ e)
      other (inr e) k is not_seven not_three = not_three (sym is ∙ e)
