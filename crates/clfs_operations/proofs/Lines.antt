-- The lines that a script's log answered, one after the other, are answered as the log machine answers them.
use Rattle.std.proofs.Common.{◌≡◌, ℕ, Bool, List, [], ◌∷◌, ◌++◌, length, take, drop, refl, sym, ap, ◌∙◌, append_assoc, length-append, subst, arith}
use Rattle.std.specs.Prelude.{map}
use Rattle.std.specs.List.{concat}
use Rattle.std.proofs.lemmas.List.{append-nil, map-append, take-append-drop, length-drop}
use Rattle.std.proofs.lemmas.List.Folds.{concat-append}
use Rattle.clfs_disk.specs.State.{DiskState}
use Rattle.clfs_model.specs.declared.reply.Reply.{Reply}
use Rattle.clfs_model.specs.declared.state.State.{State}
use Rattle.clfs_model.specs.Happened.{happened_of}
use Rattle.clfs_model.specs.Lines.{without_return}
use Rattle.clfs_model.specs.Run.{Request, Run}
use Rattle.clfs_model.specs.Script.{line_request}
use Rattle.clfs_model.specs.Text.{output_of, reply_line, client_of}
use Rattle.clfs_lines.specs.Through as through
use Rattle.clfs_lines.specs.Through.{AnswersEach, AnswersThrough}
use Rattle.clfs_operations.specs.Answered.{requests_of, AnswersText, AnswersLines, AnswersInPart}
use Rattle.clfs_operations.proofs.UnderWay.{none_lines, line_more}
use Rattle.clfs_operations.proofs.WholeSteps.{StayUnbroken}

-- ---- the replies as texts

-- the replies to requests, a text each
abbrev texts_of : List Request → List Reply → List (List ℕ)
texts_of [] answers = []
texts_of (request ∷ requests) [] = []
texts_of (request ∷ requests) (reply ∷ answers) = reply_line (client_of request) reply ∷ texts_of requests answers

-- so many of them are the replies to all requests, the front of them the replies at the front
front_text : (requests : List Request) (answers : List Reply) (whole others : List (List ℕ)) → texts_of requests answers ≡ whole ++ others
    → output_of requests (take (length whole) answers) ≡ concat whole
front_text [] answers [] others is = refl
front_text [] answers (x ∷ whole) others is = absurd (cc is)
front_text (request ∷ requests) [] [] others is = refl
front_text (request ∷ requests) [] (x ∷ whole) others is = absurd (cc is)
front_text (request ∷ requests) (reply ∷ answers) [] others is = refl
front_text (request ∷ requests) (reply ∷ answers) (x ∷ whole) others is =
    let first : reply_line (client_of request) reply ≡ x = cc is in
    let rest : texts_of requests answers ≡ whole ++ others = cc is in
    rw (first, front_text requests answers whole others rest) refl

-- there are as many as there are replies
as_many : (told : Bool) (s : State) (requests : List Request) (answers : List Reply) (t : State) → Run told s requests (map happened_of answers) answers t
    → length (texts_of requests answers) ≡ length answers
as_many told s [] [] t run = refl
as_many told s [] (y ∷ answers) t run = absurd run
as_many told s (x ∷ requests) [] t run = absurd run
as_many told s (x ∷ requests) (y ∷ answers) t run = let more = as_many told run.0 requests answers t run.1.1 in omega (arith, more)

-- one more
texts_more : (told : Bool) (s : State) (requests : List Request) (answers : List Reply) (t : State) (request : Request) (reply : Reply)
    → Run told s requests (map happened_of answers) answers t
    → texts_of (requests ++ request ∷ []) (answers ++ reply ∷ []) ≡ texts_of requests answers ++ reply_line (client_of request) reply ∷ []
texts_more told s [] [] t request reply run = refl
texts_more told s [] (y ∷ answers) t request reply run = absurd run
texts_more told s (x ∷ requests) [] t request reply run = absurd run
texts_more told s (x ∷ requests) (y ∷ answers) t request reply run =
    ap (λ (texts : List (List ℕ)). reply_line (client_of x) y ∷ texts) (texts_more told run.0 requests answers t request reply run.1.1)

-- ---- lines that were answered one after the other

-- lines that were answered, with the replies to them as texts
record AreTold (s : State) (old : DiskState) (t : State) (new : DiskState) (lines replies : List (List ℕ)) : Type 0 where
  text : List ℕ
  given : AnswersLines s old t new lines text
  texts : texts_of (requests_of lines) given.answers ≡ replies
  all : text ≡ concat replies

none_told : (s : State) (old : DiskState) → AreTold s old s old [] []
none_told s old = record { text = []; given = none_lines s old; texts = refl; all = refl }

one_told : StayUnbroken → (s : State) (old : DiskState) (done before : List (List ℕ)) (line reply : List ℕ) (mid : State) (between : DiskState) (t : State) (new : DiskState)
    → AreTold s old mid between done before → AnswersText mid between line reply t new → AreTold s old t new (done ++ line ∷ []) (before ++ reply ∷ [])
unfolding line_more
one_told stay s old done before line reply mid between t new so_far one =
    let request : Request = line_request (without_return line) in
    let requests : requests_of (done ++ line ∷ []) ≡ requests_of done ++ request ∷ [] = map-append (λ (l : List ℕ). line_request (without_return l)) done (line ∷ []) in
    let given = so_far.given in record {
      text = so_far.text ++ reply_line (client_of request) one.reply;
      given = line_more stay s old done line mid between so_far.text t new one.reply given one.answered;
      texts = ap (λ (rs : List Request). texts_of rs (given.answers ++ one.reply ∷ [])) requests
          ∙ texts_more old.nature.tells_contents s (requests_of done) given.answers mid request one.reply given.answered.run
          ∙ ap (λ (texts : List (List ℕ)). texts ++ reply_line (client_of request) one.reply ∷ []) so_far.texts
          ∙ ap (λ (bytes : List ℕ). before ++ bytes ∷ []) (sym one.is);
      all = ap (λ (bytes : List ℕ). bytes ++ reply_line (client_of request) one.reply) so_far.all
          ∙ ap (λ (bytes : List ℕ). concat before ++ bytes) (sym one.is ∙ sym (append-nil reply))
          ∙ sym (concat-append before (reply ∷ []));
    }

module _ (A : Type 0) (state : A → State) (disk : A → DiskState) where
  -- lines more
  told_more : StayUnbroken → (s : State) (old : DiskState) (done before lines replies : List (List ℕ)) (a b : A) → AreTold s old (state a) (disk a) done before
      → AnswersEach (λ (x : A) (line reply : List ℕ) (y : A). AnswersText (state x) (disk x) line reply (state y) (disk y)) a lines replies b
      → AreTold s old (state b) (disk b) (done ++ lines) (before ++ replies)
  told_more stay s old done before [] [] a b so_far each =
      subst (λ (x : A). AreTold s old (state x) (disk x) (done ++ []) (before ++ [])) (sym each)
      (subst (λ (ls : List (List ℕ)). AreTold s old (state a) (disk a) ls (before ++ [])) (sym (append-nil done))
      (subst (λ (rs : List (List ℕ)). AreTold s old (state a) (disk a) done rs) (sym (append-nil before)) so_far))
  told_more stay s old done before [] (reply ∷ replies) a b so_far each = absurd each
  told_more stay s old done before (line ∷ lines) [] a b so_far each = absurd each
  told_more stay s old done before (line ∷ lines) (reply ∷ replies) a b so_far each =
      let mid : A = each.0 in
      let more = told_more stay s old (done ++ line ∷ []) (before ++ reply ∷ []) lines replies mid b
      (one_told stay s old done before line reply (state a) (disk a) (state mid) (disk mid) so_far each.1.0) each.1.1 in
      subst (λ (ls : List (List ℕ)). AreTold s old (state b) (disk b) ls (before ++ reply ∷ replies)) (append_assoc done (line ∷ []) lines)
      (subst (λ (rs : List (List ℕ)). AreTold s old (state b) (disk b) ((done ++ line ∷ []) ++ lines) rs) (append_assoc before (reply ∷ []) replies) more)

  -- all replies as one text
  pub answered_lines : StayUnbroken → (a b : A) (lines : List (List ℕ)) (text : List ℕ)
      → AnswersThrough (λ (x : A) (line reply : List ℕ) (y : A). AnswersText (state x) (disk x) line reply (state y) (disk y)) a b lines text
      → AnswersLines (state a) (disk a) (state b) (disk b) lines text
  answered_lines stay a b lines text given =
      let told = told_more stay (state a) (disk a) [] [] lines given.replies a b (none_told (state a) (disk a)) given.each in
      subst (λ (bytes : List ℕ). AnswersLines (state a) (disk a) (state b) (disk b) lines bytes) (told.all ∙ sym given.is) told.given

  -- or all but the last, and a front of it
  pub answered_in_part : StayUnbroken → (a b : A) (torn : Bool) (lines : List (List ℕ)) (text : List ℕ)
      → through.AnswersInPart (λ (x : A) (line reply : List ℕ) (y : A). AnswersText (state x) (disk x) line reply (state y) (disk y)) a b torn lines text
      → AnswersInPart (state a) (disk a) (state b) (disk b) torn lines text
  answered_in_part stay a b torn lines text part =
      let told = told_more stay (state a) (disk a) [] [] lines part.replies a b (none_told (state a) (disk a)) part.each in
      let answers = told.given.answers in
      let count : ℕ = length part.whole in
      let split : texts_of (requests_of lines) answers ≡ part.whole ++ part.others = told.texts ∙ sym part.all in
      let many = as_many (disk a).nature.tells_contents (state a) (requests_of lines) answers (state b) told.given.answered.run in
      let sum = ap length split in record {
        output = told.text;
        answered = told.given;
        front = record {
          whole = take count answers;
          others = drop count answers;
          all = take-append-drop count answers;
          at_most_one = omega (arith, length-drop count answers, many, sum, length-append part.whole part.others, part.at_most_one);
          front = part.front;
          untorn = part.untorn;
          rest = part.rest;
          is = part.is ∙ ap (λ (bytes : List ℕ). bytes ++ part.front) (sym (front_text (requests_of lines) answers part.whole part.others split));
          goes_on = part.goes_on ∙ sym told.all ∙ told.given.is;
        };
      }
