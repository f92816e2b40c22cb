-- Where the loop over the pieces of a script stands, and how it ends.
use Rattle.std.proofs.Common.{◌≡◌, ℕ, ◌+◌, ◌-◌, ◌≤◌, ◌<◌, ◌⊎◌, List, [], ◌∷◌, ◌++◌, length, take, drop, true, false, refl, sym, ap, ◌∙◌, subst, append_assoc, length-append, inl, inr, arith}
use Rattle.std.specs.Prelude.{Option, Result, Ok, Err, IfErr, IsErrAnd}
use Rattle.std.specs.Io.KnownBytes.{Consumes, Keeps, Appends, IsAtEnd}
use Rattle.std.proofs.KnownBytes.{Consumes-nil, Consumes-trans, Consumes-kept}
use Rattle.std.proofs.lemmas.Bool.{cases_lt}
use Rattle.std.proofs.lemmas.List.{append-nil, take_all, take-append-drop}
use Rattle.std.proofs.lemmas.List.Elements.{All-nil, All-push}
use Rattle.std.proofs.Math.Seq.{take-append-add}
use Rattle.clfs_model.specs.Accepted.{serve_limits, is_within, accepted}
use Rattle.clfs_lines.specs.Through.{Answered, AnswersLine, AnswersThrough, AnswersUnwritten, AnswersInPart}
use Rattle.clfs_lines.specs.Ends.{AppendsFront}
use Rattle.clfs_race.specs.Feeds.{HasNoFeed}
use Rattle.clfs_lines.specs.Feeds.{with_feeds}
use Rattle.clfs_lines.specs.Reached.{HasAnswered, HasAnsweredEnded}
use Rattle.clfs_lines.specs.Answering.{StopsShort, IsAnswerUpToFault, Writes}
use Rattle.clfs_lines.specs.Stopped.{IsAnswerBeforeLimit, StopsLine}
use Rattle.clfs_lines.specs.Taken.{script_limits, IsFrontOf}
use Rattle.clfs_lines.specs.declared.incomplete.IncompleteLine.{IncompleteLine}
use Rattle.clfs_lines.specs.declared.stop.Stop.{Stop}
use Rattle.clfs_lines.specs.declared.stop.Stop.TheVariants.{SourceFault, SinkFault, NoMemory, TooLong}
use Rattle.clfs_lines.proofs.ScriptLines.{known_are_front, known_are_all, known_are_before_long, past_is, long_is_past, all_short_more, with_feeds_more}
use Rattle.clfs_lines.proofs.Through.{none_through, through_more, all_written, front_written}
use Rattle.clfs_lines.proofs.Written.{appends_none, appends_more}

-- these bytes were taken, and of those that count, the first so many, the lines before the rest are answered
pub record IsReading {A : Type 0} (answers : Answered A) (most : ℕ) (a : A) (left left_now written : Option (List ℕ)) (rest : List ℕ) (given : ℕ) (b : A) (written_now : Option (List ℕ)) : Type 0 where
  pub bytes : List ℕ
  pub taken : Consumes left left_now bytes
  pub count : length bytes ≡ given
  pub so_far : HasAnswered answers a written (take most bytes) rest b written_now

-- a line that begins with what was carried on
pub line_in : (carried window line after : List ℕ) → window ≡ line ++ 10 ∷ after → carried ++ window ≡ (carried ++ line) ++ 10 ∷ after
line_in carried window line after split = ap (λ (w : List ℕ). carried ++ w) split ∙ sym (append_assoc carried line (10 ∷ after))

nothing : (bytes : List ℕ) → length bytes ≡ 0 → bytes ≡ []
nothing [] none = refl
nothing (b ∷ bytes) none = absurd (omega (arith, none))

-- of more bytes only those count that a script may have
taken_front : (most : ℕ) (bytes piece : List ℕ) → length bytes ≤ most → take most (bytes ++ piece) ≡ bytes ++ take (most - length bytes) piece
taken_front most bytes piece few =
    let sum : most ≡ length bytes + (most - length bytes) = omega arith in
    ap (λ (n : ℕ). take n (bytes ++ piece)) sum ∙ take-append-add bytes piece (most - length bytes)

-- a cause that is handed on
pub handed_on : {T : Type 0} (P : Stop → Type 0) (result : Result T Stop) (stop : Stop) → IsErrAnd result (λ e. e ≡ stop) → P stop → IfErr result P
handed_on P (Ok x) stop is holds = absurd is
handed_on P (Err e) stop is holds = subst P (sym is) holds

-- why a line isn't answered whole
pub line_stopped_by : (P : Stop → Type 0) (stop : Stop) (line : List ℕ) (Same Unwritten : Type 0) → StopsLine stop line Same Unwritten
    → (serve_limits.line < length line → Same → P TooLong) → (length line ≤ serve_limits.line → Same → P NoMemory)
    → (length line ≤ serve_limits.line → Unwritten → P NoMemory) → P stop
line_stopped_by P TooLong line Same Unwritten stops long short unwritten = long stops.0 stops.1
line_stopped_by P NoMemory line Same Unwritten stops long short unwritten = elim stops.1 [ inl same ↦ short stops.0 same | inr behind ↦ unwritten stops.0 behind ]
line_stopped_by P SourceFault line Same Unwritten stops long short unwritten = absurd stops
line_stopped_by P SinkFault line Same Unwritten stops long short unwritten = absurd stops

module _ (most : ℕ) (A : Type 0) (answers : Answered A) (a : A) (left written : Option (List ℕ)) where
  -- ---- the loop

  -- nothing was taken yet
  pub reading_begins : (rest : List ℕ) → rest ≡ [] → IsReading answers most a left left written rest 0 a written
  reading_begins rest none = record {
    bytes = [];
    taken = Consumes-nil left;
    count = refl;
    so_far = record {
      lines = [];
      split = none ∙ sym (take_all most [] (omega arith));
      whole = All-nil HasNoFeed;
      short = refl;
      text = [];
      answered = none_through A answers a;
      replies = appends_none written;
    };
  }

  -- one line more was answered, and its reply written
  line_read : (bytes line after : List ℕ) (mid : A) (before text : List ℕ) (b : A) (w1 w2 : Option (List ℕ))
      → HasAnswered answers a written bytes (line ++ 10 ∷ after) mid w1 → HasNoFeed line → length line ≤ serve_limits.line
      → AnswersLine answers mid line before text b → before ≡ [] → Appends w1 w2 text → HasAnswered answers a written bytes after b w2
  line_read bytes line after mid before text b w1 w2 so_far one few step none wrote = record {
    lines = so_far.lines ++ line ∷ [];
    split = with_feeds_more so_far.lines line after ∙ so_far.split;
    whole = All-push HasNoFeed so_far.lines line so_far.whole one;
    short = all_short_more so_far.lines line so_far.short few;
    text = so_far.text ++ step.0;
    answered = through_more A answers a mid b so_far.lines line so_far.text step.0 so_far.answered step.1.0;
    replies = appends_more written w1 w2 so_far.text text (so_far.text ++ step.0)
        (ap (λ (reply : List ℕ). so_far.text ++ reply) (sym (step.1.1 ∙ ap (λ (out : List ℕ). out ++ step.0) none)))
        so_far.replies wrote;
  }

  pub reading_line : (left_now : Option (List ℕ)) (carried window line carried_after window_after : List ℕ) (given : ℕ) (mid : A)
      (before text : List ℕ) (b : A) (w1 w2 : Option (List ℕ))
      → IsReading answers most a left left_now written (carried ++ window) given mid w1 → HasNoFeed (carried ++ line) → length (carried ++ line) ≤ serve_limits.line
      → window ≡ line ++ 10 ∷ window_after → AnswersLine answers mid (carried ++ line) before text b → before ≡ [] → Appends w1 w2 text → carried_after ≡ []
      → IsReading answers most a left left_now written (carried_after ++ window_after) given b w2
  reading_line left_now carried window line carried_after window_after given mid before text b w1 w2 reading one few split step none wrote empty = record {
    bytes = reading.bytes;
    taken = reading.taken;
    count = reading.count;
    so_far = subst (λ (rest : List ℕ). HasAnswered answers a written (take most reading.bytes) rest b w2) (ap (λ (c : List ℕ). c ++ window_after) (sym empty))
        (line_read (take most reading.bytes) (carried ++ line) window_after mid before text b w1 w2
        (subst (λ (rest : List ℕ). HasAnswered answers a written (take most reading.bytes) rest mid w1) (line_in carried window line window_after split) reading.so_far)
        one few step none wrote);
  }

  -- more bytes were taken
  pub reading_piece : (left_now left_next : Option (List ℕ)) (rest carried window piece : List ℕ) (given count : ℕ) (b : A) (w : Option (List ℕ))
      → IsReading answers most a left left_now written rest given b w → given ≤ most → carried ≡ rest → Consumes left_now left_next piece → length piece ≡ count
      → window ≡ take (most - given) piece → IsReading answers most a left left_next written (carried ++ window) (given + count) b w
  reading_piece left_now left_next rest carried window piece given count b w reading few same consumed many front =
      let so_far = reading.so_far in
      let small : length reading.bytes ≤ most = omega (arith, reading.count, few) in
      let all : take most reading.bytes ≡ reading.bytes = take_all most reading.bytes small in
      let cut : take most (reading.bytes ++ piece) ≡ reading.bytes ++ window =
      taken_front most reading.bytes piece small ∙ ap (λ (n : ℕ). reading.bytes ++ take (most - n) piece) reading.count
      ∙ ap (λ (f : List ℕ). reading.bytes ++ f) (sym front) in record {
        bytes = reading.bytes ++ piece;
        taken = Consumes-trans left left_now left_next reading.bytes piece reading.taken consumed;
        count = omega (arith, reading.count, many, length-append reading.bytes piece);
        so_far = record {
          lines = so_far.lines;
          split = ap (λ (c : List ℕ). with_feeds so_far.lines ++ (c ++ window)) same ∙ sym (append_assoc (with_feeds so_far.lines) rest window)
              ∙ ap (λ (b : List ℕ). b ++ window) (so_far.split ∙ all) ∙ sym cut;
          whole = so_far.whole;
          short = so_far.short;
          text = so_far.text;
          answered = so_far.answered;
          replies = so_far.replies;
        };
      }

  -- the rest in other words
  pub reading_at : (left_now : Option (List ℕ)) (rest rest' : List ℕ) (given : ℕ) (b : A) (w : Option (List ℕ))
      → IsReading answers most a left left_now written rest given b w → rest ≡ rest' → IsReading answers most a left left_now written rest' given b w
  reading_at left_now rest rest' given b w reading same = subst (λ (r : List ℕ). IsReading answers most a left left_now written r given b w) same reading

  -- nothing was taken
  pub reading_kept : (left_now left_next : Option (List ℕ)) (rest : List ℕ) (given : ℕ) (b : A) (w : Option (List ℕ))
      → IsReading answers most a left left_now written rest given b w → Keeps left_now left_next → IsReading answers most a left left_next written rest given b w
  reading_kept left_now left_next rest given b w reading kept =
      record { bytes = reading.bytes; taken = Consumes-kept left left_now left_next reading.bytes reading.taken kept; count = reading.count; so_far = reading.so_far }

  -- ---- how it ends

  -- the source is at its end
  pub reading_ends : (left_now left_end : Option (List ℕ)) (rest carried piece : List ℕ) (given : ℕ) (b : A) (w : Option (List ℕ))
      → IsReading answers most a left left_now written rest given b w → given ≤ most → carried ≡ rest → Consumes left_now left_end piece → length piece ≡ 0
      → IsAtEnd left_end → HasNoFeed carried → length carried ≤ serve_limits.line
      → HasAnsweredEnded answers most a left left_end written carried b w
  reading_ends left_now left_end rest carried piece given b w reading few same consumed none end one short =
      let empty : piece ≡ [] = nothing piece none in
      let small : length reading.bytes ≤ most = omega (arith, reading.count, few) in record {
        script = reading.bytes;
        given = subst (λ (b : List ℕ). Consumes left left_end b) (ap (λ (p : List ℕ). reading.bytes ++ p) empty ∙ append-nil reading.bytes)
            (Consumes-trans left left_now left_end reading.bytes piece reading.taken consumed);
        end = end;
        few = small;
        so_far = subst (λ (bytes : List ℕ). HasAnswered answers a written bytes carried b w) (take_all most reading.bytes small)
            (subst (λ (r : List ℕ). HasAnswered answers a written (take most reading.bytes) r b w) (sym same) reading.so_far);
        one = one;
        short = short;
      }

  -- the source failed
  pub source_stops : (left_now : Option (List ℕ)) (rest : List ℕ) (given : ℕ) (b : A) (w : Option (List ℕ))
      → IsReading answers most a left left_now written rest given b w → HasNoFeed rest → Writes (IsAnswerUpToFault (script_limits most) (AnswersThrough answers a b) left left_now) written w
  source_stops left_now rest given b w reading one =
      let so_far = reading.so_far in (
        so_far.text,
        record {
          bytes = reading.bytes;
          given = reading.taken;
          answered = subst (λ (lines : List (List ℕ)). AnswersThrough answers a b lines so_far.text)
              (sym (known_are_all most reading.bytes so_far.lines rest so_far.whole so_far.short so_far.split one)) so_far.answered;
        },
        so_far.replies,
      )

  -- the bytes are too many
  pub limit_stops : (left_now : Option (List ℕ)) (rest : List ℕ) (given : ℕ) (b : A) (w : Option (List ℕ))
      → IsReading answers most a left left_now written rest given b w → HasNoFeed rest → most < given
      → Writes (IsAnswerBeforeLimit (script_limits most) (AnswersThrough answers a b) left left_now) written w
  limit_stops left_now rest given b w reading one many =
      let so_far = reading.so_far in (
        so_far.text,
        record {
          bytes = reading.bytes;
          given = record { given = reading.taken; past = past_is most reading.bytes (omega (arith, many, reading.count)) };
          answered = subst (λ (lines : List (List ℕ)). AnswersThrough answers a b lines so_far.text)
              (sym (known_are_all most reading.bytes so_far.lines rest so_far.whole so_far.short so_far.split one)) so_far.answered;
        },
        so_far.replies,
      )

  -- the next line is too long
  pub line_stops : (left_now : Option (List ℕ)) (line more : List ℕ) (given : ℕ) (b : A) (w : Option (List ℕ))
      → IsReading answers most a left left_now written (line ++ more) given b w → HasNoFeed line → serve_limits.line < length line
      → Writes (IsAnswerBeforeLimit (script_limits most) (AnswersThrough answers a b) left left_now) written w
  line_stops left_now line more given b w reading one long =
      let so_far = reading.so_far in (
        so_far.text,
        record {
          bytes = reading.bytes;
          given = record { given = reading.taken; past = past so_far (cases_lt most (length reading.bytes)) };
          answered = subst (λ (lines : List (List ℕ)). AnswersThrough answers a b lines so_far.text)
              (sym (known_are_before_long most reading.bytes so_far.lines line more so_far.whole so_far.short so_far.split one long)) so_far.answered;
        },
        so_far.replies,
      )
    where
      past : HasAnswered answers a written (take most reading.bytes) (line ++ more) b w
          → (most < length reading.bytes) ⊎ (length reading.bytes ≤ most) → is_within (script_limits most) reading.bytes ≡ false
      past so_far (inl many) = past_is most reading.bytes many
      past so_far (inr few) = long_is_past most reading.bytes so_far.lines line more so_far.whole so_far.short (so_far.split ∙ take_all most reading.bytes few) few one long

  -- memory ran out before the next line
  pub memory_stops : (incomplete : IncompleteLine) (left_now : Option (List ℕ)) (rest : List ℕ) (given : ℕ) (b : A) (w : Option (List ℕ))
      → IsReading answers most a left left_now written rest given b w → StopsShort (script_limits most) incomplete (AnswersInPart answers a b false) left left_now written w
  memory_stops incomplete left_now rest given b w reading =
      let so_far = reading.so_far in (
        so_far.lines,
        (
          inl (record {
            bytes = reading.bytes;
            given = reading.taken;
            front = known_are_front most reading.bytes so_far.lines rest so_far.whole so_far.short so_far.split;
          }),
          (so_far.text, all_written A answers a b false so_far.lines so_far.text so_far.answered, so_far.replies),
        ),
      )

  -- the next line comes after those that were answered
  next_is_front : (bytes line after : List ℕ) (b : A) (w : Option (List ℕ))
      → (so_far : HasAnswered answers a written (take most bytes) (line ++ 10 ∷ after) b w) → HasNoFeed line → length line ≤ serve_limits.line
      → IsFrontOf (accepted (script_limits most) bytes) (so_far.lines ++ line ∷ [])
  next_is_front bytes line after b w so_far one few =
      known_are_front most bytes (so_far.lines ++ line ∷ []) after (All-push HasNoFeed so_far.lines line so_far.whole one) (all_short_more so_far.lines line so_far.short few)
      (with_feeds_more so_far.lines line after ∙ so_far.split)

  -- memory ran out after the answer to it
  pub unwritten_stops : (incomplete : IncompleteLine) (left_now : Option (List ℕ)) (line after : List ℕ) (given : ℕ) (mid : A) (b : A) (w : Option (List ℕ))
      → IsReading answers most a left left_now written (line ++ 10 ∷ after) given mid w → HasNoFeed line → length line ≤ serve_limits.line
      → AnswersUnwritten answers mid line b → StopsShort (script_limits most) incomplete (AnswersInPart answers a b false) left left_now written w
  unwritten_stops incomplete left_now line after given mid b w reading one few step =
      let so_far = reading.so_far in (
        so_far.lines ++ line ∷ [],
        (
          inl (record {
            bytes = reading.bytes;
            given = reading.taken;
            front = next_is_front reading.bytes line after mid w so_far one few;
          }),
          (
            so_far.text ++ [],
            front_written A answers a mid b so_far.lines line so_far.text step.0 false [] step.0
                so_far.answered step.1 refl (λ e. refl),
            subst (λ (text : List ℕ). Appends written w text) (sym (append-nil so_far.text)) so_far.replies,
          ),
        ),
      )

  -- the sink failed in the reply to it
  pub sink_stops : (incomplete : IncompleteLine) (left_now : Option (List ℕ)) (line after : List ℕ) (given : ℕ) (mid : A) (before text : List ℕ) (b : A)
      (w1 w2 : Option (List ℕ)) → IsReading answers most a left left_now written (line ++ 10 ∷ after) given mid w1 → HasNoFeed line → length line ≤ serve_limits.line
      → AnswersLine answers mid line before text b → before ≡ [] → AppendsFront w1 w2 text → StopsShort (script_limits most) incomplete (AnswersInPart answers a b true) left left_now written w2
  sink_stops incomplete left_now line after given mid before text b w1 w2 reading one few step none wrote =
      let so_far = reading.so_far in
      let reply : List ℕ = step.0 in
      let is : text ≡ reply = step.1.1 ∙ ap (λ (out : List ℕ). out ++ reply) none in (
        so_far.lines ++ line ∷ [],
        (
          inl (record {
            bytes = reading.bytes;
            given = reading.taken;
            front = next_is_front reading.bytes line after mid w1 so_far one few;
          }),
          (
            so_far.text ++ take wrote.count text,
            front_written A answers a mid b so_far.lines line so_far.text step.0 true (take wrote.count text) (drop wrote.count text)
                so_far.answered step.1.0 (take-append-drop wrote.count text ∙ is) (λ e. absurd (cc e)),
            appends_more written w1 w2 so_far.text (take wrote.count text) (so_far.text ++ take wrote.count text) refl so_far.replies wrote.front,
          ),
        ),
      )
