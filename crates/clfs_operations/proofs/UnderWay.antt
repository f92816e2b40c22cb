-- A script that is answered line by line.
use Rattle.std.proofs.Common.{◌≡◌, Bool, ℕ, List, [], ◌∷◌, ◌++◌, refl, sym, ap, ◌∙◌, append_assoc, subst}
use Rattle.std.specs.Prelude.{map}
use Rattle.std.proofs.lemmas.List.{append-nil, map-append}
use Rattle.clfs_disk.specs.State.{DiskState}
use Rattle.clfs_model.specs.declared.reply.Reply.{Reply}
use Rattle.clfs_model.specs.declared.state.State.{State}
use Rattle.clfs_model.specs.Happened.{happened_of}
use Rattle.clfs_model.specs.Lines.{without_return}
use Rattle.clfs_model.specs.Run.{Request, Run}
use Rattle.clfs_model.specs.Script.{line_request}
use Rattle.clfs_model.specs.Text.{output_of, reply_line, client_of}
use Rattle.clfs_operations.specs.Answered.{requests_of, AnswersOne, AnswersAll, AnswersLines}
use Rattle.clfs_operations.specs.Crashed.{CrashLeavesRun}
use Rattle.clfs_operations.proofs.SoFar.{none_answered, none_crashed, one_answered, one_crashed}
use Rattle.clfs_operations.proofs.WholeSteps.{StayUnbroken}

-- the text of a run goes on by one line
pub text_more : (told : Bool) (s : State) (requests : List Request) (answers : List Reply) (mid : State) (request : Request) (reply : Reply)
    → Run told s requests (map happened_of answers) answers mid
    → output_of (requests ++ request ∷ []) (answers ++ reply ∷ []) ≡ output_of requests answers ++ reply_line (client_of request) reply
text_more told s [] [] mid request reply run = append-nil (reply_line (client_of request) reply)
text_more told s [] (y ∷ answers) mid request reply run = absurd run
text_more told s (x ∷ requests) [] mid request reply run = absurd run
text_more told s (x ∷ requests) (y ∷ answers) mid request reply run =
    rw (text_more told run.0 requests answers mid request reply run.1.1)
    (sym (append_assoc (reply_line (client_of x) y) (output_of requests answers) (reply_line (client_of request) reply)))

-- no line is answered
pub none_lines : (s : State) (disk : DiskState) → AnswersLines s disk s disk [] []
none_lines s disk = record { answers = []; answered = none_answered s disk; is = refl; crash = none_crashed s disk }

-- one line more is answered
unfoldable pub line_more : StayUnbroken → (s : State) (old : DiskState) (done : List (List ℕ)) (line : List ℕ) (mid : State) (between : DiskState) (out : List ℕ) (t : State) (new : DiskState)
    (reply : Reply) → AnswersLines s old mid between done out → AnswersOne mid between (line_request (without_return line)) reply t new
    → AnswersLines s old t new (done ++ line ∷ []) (out ++ reply_line (client_of (line_request (without_return line))) reply)
line_more stay s old done line mid between out t new reply so_far one =
    let request : Request = line_request (without_return line) in
    let requests : requests_of (done ++ line ∷ []) ≡ requests_of done ++ request ∷ [] = map-append (λ (l : List ℕ). line_request (without_return l)) done (line ∷ []) in
    record {
      answers = so_far.answers ++ reply ∷ [];
      answered = subst (λ (rs : List Request). AnswersAll s old rs (so_far.answers ++ reply ∷ []) t new) (sym requests)
          (one_answered stay s old (requests_of done) so_far.answers mid between request reply t new so_far.answered one);
      is = ap (λ (o : List ℕ). o ++ reply_line (client_of request) reply) so_far.is
          ∙ sym (text_more old.nature.tells_contents s (requests_of done) so_far.answers mid request reply so_far.answered.run)
          ∙ ap (λ (rs : List Request). output_of rs (so_far.answers ++ reply ∷ [])) (sym requests);
      crash = subst (λ (rs : List Request). CrashLeavesRun s old rs (so_far.answers ++ reply ∷ []) t new) (sym requests)
          (one_crashed s old (requests_of done) so_far.answers mid between request reply t new so_far.answered one so_far.crash);
    }
