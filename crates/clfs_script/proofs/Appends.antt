-- The line of an append, from its words.
use Rattle.std.proofs.Common.{◌≡◌, ℕ, List, [], ◌∷◌, Bool, Result, Ok, Err, codes, refl, inl, inr}
use Rattle.std.specs.Result.{IsErrAnd}
use Rattle.std.specs.Str.{bytes_eq}
use Rattle.std.proofs.lemmas.Bool.{cases_Bool}
use Rattle.clfs_lsn.specs.Words.{lsn_of_word, data_of_word}
use Rattle.clfs_model.specs.declared.call.Call.TheVariants as calls
use Rattle.clfs_model.specs.declared.call.Call.{Call}
use Rattle.clfs_model.specs.Script.{◌>>=◌, Options, word, area_word, append_line, option_word, held_sizes}
use Rattle.clfs_text.specs.Left.{Left, skipping}
use Rattle.clfs_script.specs.Asked.{rest_of, Answers, AnswersRequest, asked}
use Rattle.clfs_script.specs.declared.line.ScriptLine.{ScriptLine}
use Rattle.clfs_script.specs.declared.line.LineRefusal.{LineRefusal}
use Rattle.clfs_script.specs.declared.line.LineRefusal.TheVariants.{NoMemory, BadLine}

skip_words : (text : List ℕ) (at : ℕ) (words : List (List ℕ)) (end : ℕ)
    → option_word text (rest_of (record { at = at; words = words; end = end }))
    ≡ record {
      value = (skipping text (record { at = at; words = words; end = end })).0;
      rest = rest_of (skipping text (record {
        at = at;
        words =
            words;
        end = end;
      })).1;
    }
skip_words text at [] end = refl
skip_words text at (w ∷ words) end = elim (cases_Bool (bytes_eq w text)) [
  | inl t ↦ rw t refl
  | inr t ↦ rw t refl
]

-- an option that may come next
pub skip_is : (text : List ℕ) (old new : Left) (found : Bool) → found ≡ (skipping text old).0 → new ≡ (skipping text old).1
    → option_word text (rest_of old) ≡ record { value = found; rest = rest_of new }
skip_is text old new found is left = rw (is, left) (skip_words text old.at old.words old.end)

in_turn : (held : Result (List ℕ) ℕ) (f : List ℕ → Options) (g : Options → Call)
    → ((held >>= (λ lengths. Ok (f lengths))) >>= (λ options. Ok (g options))) ≡ (held >>= (λ lengths. Ok (g (f lengths))))
in_turn (Ok lengths) f g = refl
in_turn (Err at) f g = refl

-- an append of these
abbrev pub append_with : ℕ → List ℕ → ℕ → ℕ → Bool → Bool → Bool → List ℕ → Call
append_with area bytes previous undo_next reserved seal flush lengths =
    calls.Append area (record { bytes = bytes; previous = previous; undo_next = undo_next; seal = seal; flush = flush }) reserved lengths

pub append_is : (area previous undo_next : ℕ) (bytes : List ℕ) (reserved seal flush : Bool) (l0 l1 l2 l3 l4 l5 l6 l7 : Left)
    → word area_word (rest_of l0) ≡ Ok (record { value = area; rest = rest_of l1 })
    → word data_of_word (rest_of l1) ≡ Ok (record { value = bytes; rest = rest_of l2 })
    → word lsn_of_word (rest_of l2) ≡ Ok (record { value = previous; rest = rest_of l3 })
    → word lsn_of_word (rest_of l3) ≡ Ok (record { value = undo_next; rest = rest_of l4 })
    → option_word (codes "reserved") (rest_of l4) ≡ record { value = reserved; rest = rest_of l5 }
    → option_word (codes "seal") (rest_of l5) ≡ record { value = seal; rest = rest_of l6 }
    → option_word (codes "flush") (rest_of l6) ≡ record { value = flush; rest = rest_of l7 }
    → append_line (rest_of l0)
    ≡ (held_sizes (option_word (codes "hold") (rest_of l7)) >>= (λ lengths. Ok (append_with area bytes previous undo_next reserved seal flush
    lengths)))
append_is area previous undo_next bytes reserved seal flush l0 l1 l2 l3 l4 l5 l6 l7 a b c d e f g =
    rw (a, b, c, d, e, f, g)
    (in_turn (held_sizes (option_word (codes "hold") (rest_of l7)))
    (λ lengths. record { reserved = reserved; seal = seal; flush = flush; sizes = lengths })
    (λ options. calls.Append area (record { bytes = bytes; previous = previous; undo_next = undo_next; seal = options.seal; flush = options.flush })
    options.reserved options.sizes))

-- the sizes at the end go wrong, or memory lacks for them
pub append_stops : (client : ℕ) (result : Result ScriptLine LineRefusal) (read : Result (List ℕ) LineRefusal) (e : LineRefusal) (held : Result (List ℕ) ℕ)
    (whole : Result Call ℕ) (call : List ℕ → Call) → IsErrAnd result (λ x. x ≡ e) → read ≡ Err e → Answers read held
    → whole ≡ (held >>= (λ lengths. Ok (call lengths))) → AnswersRequest result (asked client whole)
append_stops client (Ok x) read e held whole call is was answers so_far = absurd is
append_stops client (Err NoMemory) read e held whole call is was answers so_far = tt
append_stops client (Err (BadLine at)) read e held whole call is was answers so_far =
    let bad = rw (was, ← is) at answers in rw (so_far, bad) refl
