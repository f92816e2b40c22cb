-- Lines that are answered one after the other, by whatever answers one line.
use Rattle.std.specs.Prelude.{◌≡◌, ℕ, ◌≤◌, Bool, false, List, [], ◌∷◌, ◌++◌, length}
use Rattle.std.specs.List.{concat}

-- How one line is answered: from what answers, the line and its reply, to what answers then.
abbrev pub Answered : Type 0 → Type 1
Answered A = A → List ℕ → List ℕ → A → Type 0

-- one line was answered, and its reply stands after the output
abbrev pub AnswersLine : {A : Type 0} → Answered A → A → List ℕ → List ℕ → List ℕ → A → Type 0
AnswersLine answers a line before after b = (reply : List ℕ) × (answers a line reply b × (after ≡ before ++ reply))

-- one line was answered, and memory ran out after that
abbrev pub AnswersUnwritten : {A : Type 0} → Answered A → A → List ℕ → A → Type 0
AnswersUnwritten answers a line b = (reply : List ℕ) × answers a line reply b

-- lines were answered one after the other, each by its reply
abbrev pub AnswersEach : {A : Type 0} → Answered A → A → List (List ℕ) → List (List ℕ) → A → Type 0
AnswersEach answers a [] [] b = b ≡ a
AnswersEach answers a [] (reply ∷ replies) b = ⊥
AnswersEach answers a (line ∷ lines) [] b = ⊥
AnswersEach {A = A} answers a (line ∷ lines) (reply ∷ replies) b = (mid : A) × (answers a line reply mid × AnswersEach answers mid lines replies b)

-- Lines were answered, and this text is their replies.
pub record AnswersThrough {A : Type 0} (answers : Answered A) (a b : A) (lines : List (List ℕ)) (text : List ℕ) : Type 0 where
  pub replies : List (List ℕ)
  pub each : AnswersEach answers a lines replies b
  pub is : text ≡ concat replies

-- Lines were answered, and this text is their replies, or all but the last and, if it is torn, a front of that one.
pub record AnswersInPart {A : Type 0} (answers : Answered A) (a b : A) (torn : Bool) (lines : List (List ℕ)) (text : List ℕ) : Type 0 where
  pub replies : List (List ℕ)
  pub each : AnswersEach answers a lines replies b
  pub whole : List (List ℕ)
  pub others : List (List ℕ)
  pub all : whole ++ others ≡ replies
  pub at_most_one : length others ≤ 1
  pub front : List ℕ
  pub untorn : torn ≡ false → front ≡ []
  pub rest : List ℕ
  pub is : text ≡ concat whole ++ front
  pub goes_on : text ++ rest ≡ concat replies
