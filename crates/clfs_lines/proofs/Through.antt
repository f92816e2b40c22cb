-- Lines that were answered, and one more.
use Rattle.std.proofs.Common.{◌≡◌, ℕ, Bool, false, List, [], ◌∷◌, ◌++◌, refl, sym, ap, ◌∙◌, append_assoc, subst, arith}
use Rattle.std.specs.List.{concat}
use Rattle.std.proofs.lemmas.List.{append-nil}
use Rattle.clfs_lines.specs.Through.{Answered, AnswersEach, AnswersThrough, AnswersInPart}

-- the bytes of one more
concat_more : (replies : List (List ℕ)) (reply : List ℕ) → concat (replies ++ reply ∷ []) ≡ concat replies ++ reply
concat_more [] reply = append-nil reply
concat_more (first ∷ replies) reply =
    ap (λ (bytes : List ℕ). first ++ bytes) (concat_more replies reply) ∙ sym (append_assoc first (concat replies) reply)

-- one line more is answered
each_more : (A : Type 0) (answers : Answered A) (a mid b : A) (lines replies : List (List ℕ)) (line reply : List ℕ) → AnswersEach answers a lines replies mid
    → answers mid line reply b → AnswersEach answers a (lines ++ line ∷ []) (replies ++ reply ∷ []) b
each_more A answers a mid b [] [] line reply each one = (b, (subst (λ (from : A). answers from line reply b) each one, refl))
each_more A answers a mid b [] (y ∷ replies) line reply each one = absurd each
each_more A answers a mid b (x ∷ lines) [] line reply each one = absurd each
each_more A answers a mid b (x ∷ lines) (y ∷ replies) line reply each one =
    (each.0, (each.1.0, each_more A answers each.0 mid b lines replies line reply each.1.1 one))

-- no line is answered
pub none_through : (A : Type 0) (answers : Answered A) (a : A) → AnswersThrough answers a a [] []
none_through A answers a = record { replies = []; each = refl; is = refl }

-- one line more, and its reply
pub through_more : (A : Type 0) (answers : Answered A) (a mid b : A) (lines : List (List ℕ)) (line text reply : List ℕ) → AnswersThrough answers a mid lines text
    → answers mid line reply b → AnswersThrough answers a b (lines ++ line ∷ []) (text ++ reply)
through_more A answers a mid b lines line text reply so_far one = record {
  replies = so_far.replies ++ reply ∷ [];
  each = each_more A answers a mid b lines so_far.replies line reply so_far.each one;
  is = ap (λ (bytes : List ℕ). bytes ++ reply) so_far.is ∙ sym (concat_more so_far.replies reply);
}

-- all replies were written
pub all_written : (A : Type 0) (answers : Answered A) (a b : A) (torn : Bool) (lines : List (List ℕ)) (text : List ℕ) → AnswersThrough answers a b lines text
    → AnswersInPart answers a b torn lines text
all_written A answers a b torn lines text given = record {
  replies = given.replies;
  each = given.each;
  whole = given.replies;
  others = [];
  all = append-nil given.replies;
  at_most_one = omega arith;
  front = [];
  untorn = λ e. refl;
  rest = [];
  is = given.is ∙ sym (append-nil (concat given.replies));
  goes_on = append-nil text ∙ given.is;
}

-- one line more is answered, and a front of its reply was written
pub front_written : (A : Type 0) (answers : Answered A) (a mid b : A) (lines : List (List ℕ)) (line text reply : List ℕ) (torn : Bool) (front rest : List ℕ)
    → AnswersThrough answers a mid lines text → answers mid line reply b → front ++ rest ≡ reply → (torn ≡ false → front ≡ [])
    → AnswersInPart answers a b torn (lines ++ line ∷ []) (text ++ front)
front_written A answers a mid b lines line text reply torn front rest so_far one split untorn = record {
  replies = so_far.replies ++ reply ∷ [];
  each = each_more A answers a mid b lines so_far.replies line reply so_far.each one;
  whole = so_far.replies;
  others = reply ∷ [];
  all = refl;
  at_most_one = omega arith;
  front = front;
  untorn = untorn;
  rest = rest;
  is = ap (λ (bytes : List ℕ). bytes ++ front) so_far.is;
  goes_on = append_assoc text front rest ∙ ap (λ (bytes : List ℕ). text ++ bytes) split
      ∙ ap (λ (bytes : List ℕ). bytes ++ reply) so_far.is ∙ sym (concat_more so_far.replies reply);
}
