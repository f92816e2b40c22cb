-- Sizes read one after the other.
use Rattle.std.proofs.Common.{◌≡◌, ℕ, suc, List, [], ◌∷◌, ◌++◌, Result, Ok, Err, Option, Some, None, refl, sym, ◌∙◌, ap, append_assoc}
use Rattle.std.specs.Result.{IsErrAnd}
use Rattle.clfs_model.specs.Script.{words_from, ◌>>=◌, Word, Rest, Read, word_at, long_word, sizes_up_to}
use Rattle.clfs_script.specs.Asked.{rest_of, Answers, Reads}
use Rattle.clfs_text.specs.Left.{Left}
use Rattle.clfs_script.specs.declared.line.LineRefusal.{LineRefusal}
use Rattle.clfs_script.specs.declared.line.LineRefusal.TheVariants.{NoMemory, BadLine}

-- sizes after others
abbrev pub behind : List ℕ → Result (List ℕ) ℕ → Result (List ℕ) ℕ
behind lengths (Ok more) = Ok (lengths ++ more)
behind lengths (Err at) = Err at

behind_more : (lengths : List ℕ) (n : ℕ) (more : Result (List ℕ) ℕ) → behind (lengths ++ n ∷ []) more ≡ behind lengths (behind (n ∷ []) more)
behind_more lengths n (Ok more) = rw append_assoc refl
behind_more lengths n (Err at) = refl

onto : (n : ℕ) (more : Result (List ℕ) ℕ) → (more >>= (λ lengths. Ok (n ∷ lengths))) ≡ behind (n ∷ []) more
onto n (Ok more) = refl
onto n (Err at) = refl

value_of : Result (Read ℕ) ℕ → ℕ
value_of (Ok read) = read.value
value_of (Err at) = at

rest_behind : Rest → Result (Read ℕ) ℕ → Rest
rest_behind other (Ok read) = read.rest
rest_behind other (Err at) = other

same_number : (m n : ℕ) (left rest : Rest) → ◌≡◌ {A = Result (Read ℕ) ℕ} (Ok (record { value = m; rest = left })) (Ok (record {
  value = n;
  rest =
      rest;
})) → m ≡ n
unfolding value_of
same_number m n left rest e = ap value_of e

same_rest : (m n : ℕ) (left rest : Rest) → ◌≡◌ {A = Result (Read ℕ) ℕ} (Ok (record { value = m; rest = left })) (Ok (record {
  value = n;
  rest =
      rest;
})) → left ≡ rest
unfolding rest_behind
same_rest m n left rest e = ap (rest_behind left) e

same_place : (a b : ℕ) → ◌≡◌ {A = Result (Read ℕ) ℕ} (Err a) (Err b) → ◌≡◌ {A = Result (List ℕ) ℕ} (Err a) (Err b)
same_place a b e = let same : a ≡ b = cc in ap Err same

-- a size was read
read_value : (room n : ℕ) (w : Word) (words : List Word) (end : ℕ) (rest : Rest) (value : Option ℕ) → long_word w.bytes ≡ value
    → word_at long_word (w ∷ words) end ≡ Ok (record { value = n; rest = rest })
    → sizes_up_to (suc room) (w ∷ words) ≡ behind (n ∷ []) (sizes_up_to room rest.words)
read_value room n w words end rest None is read = absurd (let e = rw is at read in (cc e))
read_value room n w words end rest (Some m) is read =
    let e = rw is at read in
    let left : Rest = record { words = words; end = end } in
    rw (is, ← same_rest m n left rest e, ← same_number m n left rest e) (onto m (sizes_up_to room words))

pub size_more : (room n : ℕ) (words : List Word) (end : ℕ) (rest : Rest) → word_at long_word words end ≡ Ok (record { value = n; rest = rest })
    → sizes_up_to (suc room) words ≡ behind (n ∷ []) (sizes_up_to room rest.words)
size_more room n [] end rest read = absurd (cc)
size_more room n (w ∷ words) end rest read = read_value room n w words end rest (long_word w.bytes) refl read

-- a word is no size
bad_value : (room at : ℕ) (w : Word) (words : List Word) (end : ℕ) (value : Option ℕ) → long_word w.bytes ≡ value
    → word_at long_word (w ∷ words) end ≡ Err at → sizes_up_to (suc room) (w ∷ words) ≡ Err at
bad_value room at w words end None is read = let e = rw is at read in rw is (same_place w.at at e)
bad_value room at w words end (Some m) is read = absurd (let e = rw is at read in (cc e))

pub size_bad : (room at : ℕ) (words : List Word) (end : ℕ) → (words ≡ [] → ⊥) → word_at long_word words end ≡ Err at
    → sizes_up_to (suc room) words ≡ Err at
size_bad room at [] end some read = absurd (some refl)
size_bad room at (w ∷ words) end some read = bad_value room at w words end (long_word w.bytes) refl read

-- one size more after others
pub sizes_step : (whole : Result (List ℕ) ℕ) (lengths : List ℕ) (room n : ℕ) (words : List Word) (end : ℕ) (rest : Rest)
    → whole ≡ behind lengths (sizes_up_to (suc room) words) → word_at long_word words end ≡ Ok (record { value = n; rest = rest })
    → whole ≡ behind (lengths ++ n ∷ []) (sizes_up_to room rest.words)
sizes_step whole lengths room n words end rest so_far read =
    so_far ∙ ap (behind lengths) (size_more room n words end rest read) ∙ sym (behind_more lengths n (sizes_up_to room rest.words))

-- a word that is no size after sizes
pub sizes_stop : (result : Result (List ℕ) LineRefusal) (read : Result ℕ LineRefusal) (e : LineRefusal) (whole : Result (List ℕ) ℕ) (lengths :
    List ℕ) (room : ℕ)
    (left after : Left) → IsErrAnd result (λ x. x ≡ e) → read ≡ Err e → whole ≡ behind lengths (sizes_up_to (suc room) (rest_of left).words)
    → ((rest_of left).words ≡ [] → ⊥) → Reads long_word left read after → Answers result whole
sizes_stop (Ok x) read e whole lengths room left after is was so_far some reads = absurd is
sizes_stop (Err NoMemory) read e whole lengths room left after is was so_far some reads = tt
sizes_stop (Err (BadLine at)) read e whole lengths room left after is was so_far some reads =
    let bad = rw (was, ← is) at reads in so_far ∙ ap (behind lengths) (size_bad room at (rest_of left).words left.end some bad)

there : (at : ℕ) (words : List (List ℕ)) → (words ≡ [] → ⊥) → words_from at words ≡ [] → ⊥
there at [] some e = some refl
there at (w ∷ words) some e = absurd (cc)

-- where a word is left
pub word_there : (left : Left) → (left.words ≡ [] → ⊥) → (rest_of left).words ≡ [] → ⊥
word_there left some e = there left.at left.words some e
