-- What the answers to a client's lines put into the journal.
use Rattle.std.proofs.Common.{◌≡◌, ℕ, Bool, true, false, refl, sym, ap, subst, ◌∙◌, inl, inr, List, [], ◌∷◌, ◌++◌, length, append_assoc, append-nil, le_trans}
use Rattle.std.specs.Prelude.{Option}
use Rattle.clfs_model.specs.declared.reply.Reply.{Reply}
use Rattle.clfs_model.specs.Accepted.{Limits, accepted}
use Rattle.clfs_model.specs.Lines.{without_return}
use Rattle.clfs_model.specs.Run.{Request}
use Rattle.clfs_model.specs.Text.{reply_line, client_of}
use Rattle.clfs_turn.specs.Seats.{IsSameSeat}
use Rattle.clfs_lines.specs.Answering.{EndsAnswering, IsAnswerStatus, StopsAtFault}
use Rattle.clfs_lines.specs.declared.incomplete.IncompleteLine.TheVariants.{Dropped}
use Rattle.clfs_lines.specs.Through.{AnswersEach, AnswersThrough, AnswersInPart}
use Rattle.clfs_turn.specs.Lists.{is_in}
use Rattle.clfs_shared.specs.Sessions.{SessionState, SharedState, IsOf, own_entries}
use Rattle.clfs_share.specs.Answered.{AnswersLine, AnswersRequest}
use Rattle.clfs_share.specs.Lines.{own_request, own_requests}
use Rattle.clfs_share.specs.Left.{HasLeft}
use Rattle.clfs_share.specs.Made.{Made, all_made, calls_made, AreReplies, AreWanted, reply_lines}
use Rattle.clfs_share.specs.Served.{IsServed, client_limits}
use Rattle.clfs_share.proofs.Making.{AreReplies-append, begins_with, calls_made-append, request_adds, request_replies, request_same, request_wanted, same_seat, same_seats}

-- ---- lines, one after the other

-- what lines that were answered one after the other made of a session
pub record LinesMade (client : ℕ) (s t : SessionState) (lines texts : List (List ℕ)) : Type 0 where
  pub answers : List Reply
  pub answered : AreReplies (own_requests client lines) answers
  pub texts_are : texts ≡ reply_lines (own_requests client lines) answers
  pub entries : all_made (own_entries t) ≡ all_made (own_entries s) ++ calls_made (own_requests client lines) answers
  pub wanted : AreWanted (length (own_entries t)) (own_requests client lines) answers
  pub same : IsSameSeat s t

none_made : (client : ℕ) (s : SessionState) → LinesMade client s s [] []
none_made client s = record {
  answers = [];
  answered = tt;
  texts_are = refl;
  entries = sym (append-nil (all_made (own_entries s)));
  wanted = tt;
  same = same_seat s;
}

one_made : (client : ℕ) (s mid t : SessionState) (line text : List ℕ) (lines texts : List (List ℕ)) → s.client ≡ client → AnswersLine s line text mid
    → LinesMade client mid t lines texts → LinesMade client s t (line ∷ lines) (text ∷ texts)
one_made client s mid t line text lines texts is one rest = record {
  answers = one.reply ∷ rest.answers;
  answered = AreReplies-append (request ∷ []) (own_requests client lines) (one.reply ∷ []) rest.answers (request_replies s request one.reply mid answered) rest.answered;
  texts_are = ap (λ (z : List ℕ). z ∷ texts) text_is ∙ ap (λ (z : List (List ℕ)). reply_line (client_of request) one.reply ∷ z) rest.texts_are;
  entries = rest.entries
      ∙ ap (λ (z : List Made). z ++ calls_made (own_requests client lines) rest.answers) (request_adds s request one.reply mid answered)
      ∙ append_assoc (all_made (own_entries s)) (calls_made (request ∷ []) (one.reply ∷ [])) (calls_made (own_requests client lines) rest.answers)
      ∙ ap (λ (z : List Made). all_made (own_entries s) ++ z)
      (sym (calls_made-append (request ∷ []) (own_requests client lines) (one.reply ∷ []) rest.answers (request_replies s request one.reply mid answered)));
  wanted = request_wanted s request one.reply mid (length (own_entries t)) (own_requests client lines) rest.answers answered
      (le_trans (begins_with (own_entries mid) (own_entries s) (calls_made (request ∷ []) (one.reply ∷ [])) (request_adds s request one.reply mid answered))
      (begins_with (own_entries t) (own_entries mid) (calls_made (own_requests client lines) rest.answers) rest.entries)) rest.wanted;
  same = same_seats s mid t (request_same s request one.reply mid answered) rest.same;
}
  where
    request : Request
    request = own_request client (without_return line)

    answered : AnswersRequest s request one.reply mid
    answered = let F : ℕ → Type 0 = λ c. AnswersRequest s (own_request c (without_return line)) one.reply mid in subst F is one.answered

    text_is : text ≡ reply_line (client_of request) one.reply
    text_is = one.is ∙ ap (λ (c : ℕ). reply_line (client_of (own_request c (without_return line))) one.reply) is

line_same : (s mid : SessionState) (line text : List ℕ) → AnswersLine s line text mid → IsSameSeat s mid
line_same s mid line text one = request_same s (own_request s.client (without_return line)) one.reply mid one.answered

pub lines_made : (client : ℕ) (s t : SessionState) (lines texts : List (List ℕ)) → s.client ≡ client → AnswersEach AnswersLine s lines texts t
    → LinesMade client s t lines texts
lines_made client s t [] [] is each = let F : SessionState → Type 0 = λ x. LinesMade client s x [] [] in subst F (sym each) (none_made client s)
lines_made client s t [] (text ∷ texts) is each = absurd each
lines_made client s t (line ∷ lines) [] is each = absurd each
lines_made client s t (line ∷ lines) (text ∷ texts) is each =
    let mid = each.0 in
    one_made client s mid t line text lines texts is each.1.0
    (lines_made client mid t lines texts ((line_same s mid line text each.1.0).client ∙ is) each.1.1)

-- ---- what lines made, however they ended

-- some lines were answered one after the other
record SomeMade (s t : SessionState) : Type 0 where
  pub lines : List (List ℕ)
  pub texts : List (List ℕ)
  pub made : LinesMade s.client s t lines texts

module _ (s t : SessionState) where
  through_made : (lines : List (List ℕ)) (text : List ℕ) → AnswersThrough AnswersLine s t lines text → SomeMade s t
  through_made lines text through =
      record { lines = lines; texts = through.replies; made = lines_made s.client s t lines through.replies refl through.each }

  part_made : (torn : Bool) (lines : List (List ℕ)) (text : List ℕ) → AnswersInPart AnswersLine s t torn lines text → SomeMade s t
  part_made torn lines text part =
      record { lines = lines; texts = part.replies; made = lines_made s.client s t lines part.replies refl part.each }

module _ (s t : SessionState) (limits : Limits) (status : ℕ) (left left' written written' : Option (List ℕ)) (source source' sink sink' : ℕ) where
  abbrev Ends : Type 0
  Ends = EndsAnswering limits Dropped (AnswersThrough AnswersLine s t) (AnswersInPart AnswersLine s t) status left left' written written' source source' sink sink'

  at_fault_made : StopsAtFault limits Dropped (AnswersThrough AnswersLine s t) (AnswersInPart AnswersLine s t) left left' written written' → SomeMade s t
  at_fault_made (inl stops) = part_made s t true stops.0 stops.1.1.0 stops.1.1.1
  at_fault_made (inr cut) = through_made s t (accepted limits cut.1.bytes) cut.1.output cut.1.answered

  by_status : Ends → IsAnswerStatus status → SomeMade s t
  by_status ends (inl e) = let found = ends.done e in through_made s t _ found.0 found.1.answered
  by_status ends (inr (inl e)) = let found = ends.source_fault_answers e in through_made s t _ found.0 found.1.answered
  by_status ends (inr (inr (inl e))) = at_fault_made (ends.sink_fault_front e)
  by_status ends (inr (inr (inr (inl e)))) = let stops = ends.no_memory e in part_made s t false stops.0 stops.1.1.0 stops.1.1.1
  by_status ends (inr (inr (inr (inr e)))) = let found = ends.too_long e in through_made s t _ found.1.answered.output found.1.answered.answered

  some_made : Ends → SomeMade s t
  some_made ends = by_status ends ends.statuses

  -- the session is the same however its lines ended
  pub ends_same : Ends → IsSameSeat s t
  ends_same ends = (some_made ends).made.same

  -- and its own entries became more by the calls that these lines gave
  pub ends_grew : Ends → (calls : List Made) × (all_made (own_entries t) ≡ all_made (own_entries s) ++ calls)
  ends_grew ends = let some = some_made ends in (calls_made (own_requests s.client some.lines) some.made.answers, some.made.entries)

-- ---- one client

-- the same seat is of the same log
pub same_log : (log : SharedState) (s t : SessionState) → IsSameSeat s t → IsOf log s → IsOf log t
same_log log s t same of = record {
  lock = same.lock ∙ of.lock;
  opening = same.opening ∙ of.opening;
  client = ap (λ (c : ℕ). is_in c log.clients) same.client ∙ of.client;
}

module _ (s s' between between' t : SessionState) (status : ℕ) (left left' written written' : Option (List ℕ)) (source source' sink sink' : ℕ)
    (begins : s' ≡ s) (leaves_as : between' ≡ between) (ends : Ends s' between client_limits status left left' written written' source source' sink sink') where
  ends_from : Ends s between client_limits status left left' written written' source source' sink sink'
  ends_from =
      let F : SessionState → Type 0 = λ x. Ends x between client_limits status left left' written written' source source' sink sink' in
      subst F begins ends

  -- a client that was answered and left was served
  pub served_by : HasLeft between' t → IsServed s t status left left' written written' source source' sink sink'
  served_by leaves = record {
    between = between;
    same = ends_same s between client_limits status left left' written written' source source' sink sink' ends_from;
    ends = ends_from;
    leaves = let F : SessionState → Type 0 = λ x. HasLeft x t in subst F leaves_as leaves;
  }

  -- when it was answered it is still of its log
  pub still_of : (log : SharedState) → IsOf log s → IsOf log between'
  still_of log of =
      let F : SessionState → Type 0 = λ x. IsOf log x in
      subst F (sym leaves_as) (same_log log s between (ends_same s between client_limits status left left' written written' source source' sink sink' ends_from) of)
