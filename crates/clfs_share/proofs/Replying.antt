-- A client's answers told by its calls.
use Rattle.std.proofs.Common.{◌≡◌, ℕ, Bool, true, false, refl, sym, ap, subst, ◌∙◌, inl, inr, List, [], ◌∷◌, ◌++◌, length}
use Rattle.std.specs.Prelude.{Option}
use Rattle.std.specs.List.{concat}
use Rattle.std.proofs.lemmas.List.{length-map}
use Rattle.clfs_model.specs.declared.journal.Entry.{Entry}
use Rattle.clfs_model.specs.Accepted.{Limits}
use Rattle.clfs_lines.specs.Answering.{Answers, EndsAnswering, IsWholeAnswer, IsAnswerUpToFault, IsAnswerUpToLimit, IsFrontUpToLimit, StopsShort, StopsAtFault}
use Rattle.clfs_lines.specs.declared.incomplete.IncompleteLine.{IncompleteLine}
use Rattle.clfs_lines.specs.Through.{AnswersThrough, AnswersInPart}
use Rattle.clfs_shared.specs.Sessions.{SessionState, own_entries}
use Rattle.clfs_share.specs.Answered.{AnswersLine}
use Rattle.clfs_share.specs.Lines.{own_requests}
use Rattle.clfs_share.specs.Made.{Made, all_made, calls_made, made_of, AreWanted}
use Rattle.clfs_share.specs.Taken.{IsAnswered, IsAnsweredBy, IsAnsweredByInPart, IsAnsweredInPart}
use Rattle.clfs_share.proofs.Answering.{LinesMade, lines_made}

-- ---- a session's lines

cancel : {A : Type 0} (front xs ys : List A) → front ++ xs ≡ front ++ ys → xs ≡ ys
cancel [] xs ys is = is
cancel (first ∷ front) xs ys is = cancel front xs ys (cc is)

-- where memory ran out, by the count of the calls made
wanted_by : (client : ℕ) (s t : SessionState) (lines texts : List (List ℕ)) (made : LinesMade client s t lines texts)
    → AreWanted (length (all_made (own_entries t))) (own_requests client lines) made.answers
wanted_by client s t lines texts made =
    let F : ℕ → Type 0 = λ n. AreWanted n (own_requests client lines) made.answers in
    subst F (sym (length-map (own_entries t) made_of)) made.wanted

-- the calls that came to a session's own entries with its lines
module _ (s t : SessionState) (calls : List Made) (grew : all_made (own_entries t) ≡ all_made (own_entries s) ++ calls) where
  pub answered_by : (lines : List (List ℕ)) (text : List ℕ) → AnswersThrough AnswersLine s t lines text
      → IsAnsweredBy (length (all_made (own_entries t))) s.client calls lines text
  answered_by lines text through = record {
    answers = made.answers;
    answered = made.answered;
    made = cancel (all_made (own_entries s)) (calls_made (own_requests s.client lines) made.answers) calls (sym made.entries ∙ grew);
    wanted = wanted_by s.client s t lines through.replies made;
    is = through.is ∙ ap (λ (z : List (List ℕ)). concat z) made.texts_are;
  }
    where
      made : LinesMade s.client s t lines through.replies
      made = lines_made s.client s t lines through.replies refl through.each

  pub in_part_by : (torn : Bool) (lines : List (List ℕ)) (text : List ℕ) → AnswersInPart AnswersLine s t torn lines text
      → IsAnsweredByInPart (length (all_made (own_entries t))) s.client calls torn lines text
  in_part_by torn lines text part = record {
    output = concat part.replies;
    answered = record {
      answers = made.answers;
      answered = made.answered;
      made = cancel (all_made (own_entries s)) (calls_made (own_requests s.client lines) made.answers) calls (sym made.entries ∙ grew);
      wanted = wanted_by s.client s t lines part.replies made;
      is = ap (λ (z : List (List ℕ)). concat z) made.texts_are;
    };
    whole = part.whole;
    others = part.others;
    all = part.all ∙ made.texts_are;
    at_most_one = part.at_most_one;
    front = part.front;
    untorn = part.untorn;
    rest = part.rest;
    is = part.is;
    goes_on = part.goes_on;
  }
    where
      made : LinesMade s.client s t lines part.replies
      made = lines_made s.client s t lines part.replies refl part.each

-- the same of a session that had no entries of its own
module _ (s t : SessionState) (none : own_entries s ≡ []) where
  alone : all_made (own_entries t) ≡ all_made (own_entries s) ++ all_made (own_entries t)
  alone = ap (λ (entries : List Entry). all_made entries ++ all_made (own_entries t)) (sym none)

  pub answered_alone : (lines : List (List ℕ)) (text : List ℕ) → AnswersThrough AnswersLine s t lines text
      → IsAnswered s.client (all_made (own_entries t)) lines text
  answered_alone = answered_by s t (all_made (own_entries t)) alone

  pub in_part_alone : (torn : Bool) (lines : List (List ℕ)) (text : List ℕ) → AnswersInPart AnswersLine s t torn lines text
      → IsAnsweredInPart s.client (all_made (own_entries t)) torn lines text
  in_part_alone = in_part_by s t (all_made (own_entries t)) alone

-- ---- other words for the same answers

module _ (limits : Limits) (Is Other : Answers) (also : (lines : List (List ℕ)) (text : List ℕ) → Is lines text → Other lines text) where
  whole_as : (incomplete : IncompleteLine) (left left' : Option (List ℕ)) (text : List ℕ) → IsWholeAnswer limits incomplete Is left left' text → IsWholeAnswer limits incomplete Other left left' text
  whole_as incomplete left left' text is = record { script = is.script; read = is.read; answered = also _ text is.answered }

  fault_as : (left left' : Option (List ℕ)) (text : List ℕ) → IsAnswerUpToFault limits Is left left' text → IsAnswerUpToFault limits Other left left' text
  fault_as left left' text is = record { bytes = is.bytes; given = is.given; answered = also _ text is.answered }

  limit_as : (left left' : Option (List ℕ)) (text : List ℕ) → IsAnswerUpToLimit limits Is left left' text → IsAnswerUpToLimit limits Other left left' text
  limit_as left left' text is = record {
    bytes = is.bytes;
    given = is.given;
    answered = record { output = is.answered.output; answered = also _ is.answered.output is.answered.answered; line = is.answered.line };
  }

  at_limit_as : (left left' : Option (List ℕ)) (text : List ℕ) → IsFrontUpToLimit limits Is left left' text → IsFrontUpToLimit limits Other left left' text
  at_limit_as left left' text is =
      record { bytes = is.bytes; given = is.given; output = is.output; answered = also _ is.output is.answered; count = is.count; front = is.front }

stops_as : (limits : Limits) (incomplete : IncompleteLine) (InPart Other : Answers) → ((lines : List (List ℕ)) (text : List ℕ) → InPart lines text → Other lines text) → (left left' written written' : Option (List ℕ))
    → StopsShort limits incomplete InPart left left' written written' → StopsShort limits incomplete Other left left' written written'
stops_as limits incomplete InPart Other also left left' written written' is = (is.0, (is.1.0, (is.1.1.0, also is.0 is.1.1.0 is.1.1.1, is.1.1.2)))

pub ends_as : (limits : Limits) (incomplete : IncompleteLine) (Is Other : Answers) (InPart OtherPart : Bool → Answers) (status : ℕ) (left left' written written' : Option (List ℕ)) (source source' sink sink' : ℕ)
    → ((lines : List (List ℕ)) (text : List ℕ) → Is lines text → Other lines text)
    → ((torn : Bool) (lines : List (List ℕ)) (text : List ℕ) → InPart torn lines text → OtherPart torn lines text)
    → EndsAnswering limits incomplete Is InPart status left left' written written' source source' sink sink'
    → EndsAnswering limits incomplete Other OtherPart status left left' written written' source source' sink sink'
ends_as limits incomplete Is Other InPart OtherPart status left left' written written' source source' sink sink' also also_part ends = record {
  statuses = ends.statuses;
  done = λ e. let found = ends.done e in (found.0, whole_as limits Is Other also incomplete left left' found.0 found.1, found.2);
  source_fault = ends.source_fault;
  source_fault_answers = λ e. let found = ends.source_fault_answers e in (found.0, fault_as limits Is Other also left left' found.0 found.1, found.2);
  sink_fault = ends.sink_fault;
  sink_fault_front = λ e. at_fault (ends.sink_fault_front e);
  no_memory = λ e. stops_as limits incomplete (InPart false) (OtherPart false) (also_part false) left left' written written' (ends.no_memory e);
  too_long = λ e. let found = ends.too_long e in (found.0, limit_as limits Is Other also left left' found.0 found.1, found.2);
  source_count = ends.source_count;
  sink_count = ends.sink_count;
}
  where
    at_fault : StopsAtFault limits incomplete Is InPart left left' written written' → StopsAtFault limits incomplete Other OtherPart left left' written written'
    at_fault (inl stops) = inl (stops_as limits incomplete (InPart true) (OtherPart true) (also_part true) left left' written written' stops)
    at_fault (inr cut) = inr (cut.0, at_limit_as limits Is Other also left left' cut.0 cut.1, cut.2)
