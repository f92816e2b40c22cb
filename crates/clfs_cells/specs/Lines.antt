-- The text of a store's calls and replies. The words of a line are read from the left, as those of a script are: the first word that no form with the
-- words before it allows is wrong at its first byte, and a line that ends too early is wrong at its length. No line names a client.
use Rattle.std.specs.Prelude.{ℕ, List, [], ◌∷◌, ◌++◌, length, map, find, codes, Option, Result}
use Rattle.std.specs.Fmt.{decimal}
use Rattle.std.specs.Option.{option_map}
use Rattle.std.specs.Str.{bytes_eq}
use Rattle.clfs_model.specs.declared.refusal.Refusal.TheVariants as log_refusals
use Rattle.clfs_model.specs.Lines.{without_return, words_of}
use Rattle.clfs_model.specs.Script.{Rest, word, words_from, ends, number, ◌>>=◌}
use Rattle.clfs_model.specs.Text.{refusal_text}
use Rattle.clfs_cells.specs.declared.asked.TxnCall.{TxnCall}
use Rattle.clfs_cells.specs.declared.asked.TxnCall.TheVariants as asked
use Rattle.clfs_cells.specs.declared.told.TxnRefusal.{TxnRefusal}
use Rattle.clfs_cells.specs.declared.told.TxnRefusal.TheVariants as refusals
use Rattle.clfs_cells.specs.declared.told.TxnReply.{TxnReply}
use Rattle.clfs_cells.specs.declared.told.TxnReply.TheVariants as replies

-- the sets of a transaction, 1 to 7
abbrev pub changes_word : List ℕ → Option ℕ
changes_word bytes = number 1 7 bytes

-- a transaction, 1 to 4294967295
abbrev pub txn_word : List ℕ → Option ℕ
txn_word bytes = number 1 4294967295 bytes

-- a cell, 0 to 31
abbrev pub cell_word : List ℕ → Option ℕ
cell_word bytes = number 0 31 bytes

-- a value, any number of 64 bits
abbrev pub value_word : List ℕ → Option ℕ
value_word bytes = number 0 18446744073709551615 bytes

-- how many sets stay, 0 to 7
abbrev pub kept_word : List ℕ → Option ℕ
kept_word bytes = number 0 7 bytes

-- the verbs of a store's lines
pub data TxnVerb : Type 0 where
  begin_verb : TxnVerb
  set_verb : TxnVerb
  back_verb : TxnVerb
  commit_verb : TxnVerb
  rollback_verb : TxnVerb
  get_verb : TxnVerb
  checkpoint_verb : TxnVerb

-- the words of the verbs
abbrev pub txn_verbs : List (List ℕ × TxnVerb)
txn_verbs =
    (codes "begin", begin_verb) ∷ (codes "set", set_verb) ∷ (codes "back", back_verb) ∷ (codes "commit", commit_verb)
    ∷ (codes "rollback", rollback_verb) ∷ (codes "get", get_verb) ∷ (codes "checkpoint", checkpoint_verb) ∷ []

-- the verb that a word names
abbrev pub txn_verb : List ℕ → Option TxnVerb
txn_verb bytes = option_map (λ row. row.1) (find (λ (row : List ℕ × TxnVerb). bytes_eq row.0 bytes) txn_verbs)

-- a verb with one word
abbrev pub one_word : (List ℕ → Option ℕ) → (ℕ → TxnCall) → Rest → Result TxnCall ℕ
one_word read call rest = do
  x ← word read rest
  ends (call x.value) x.rest

-- `set T C V`
abbrev pub set_line : Rest → Result TxnCall ℕ
set_line rest = do
  txn ← word txn_word rest
  cell ← word cell_word txn.rest
  value ← word value_word cell.rest
  ends (asked.Set txn.value cell.value value.value) value.rest

-- `back T K`
abbrev pub back_line : Rest → Result TxnCall ℕ
back_line rest = do
  txn ← word txn_word rest
  kept ← word kept_word txn.rest
  ends (asked.Back txn.value kept.value) kept.rest

-- what stands after a verb
abbrev pub behind_verb : TxnVerb → Rest → Result TxnCall ℕ
behind_verb begin_verb rest = one_word changes_word (λ changes. asked.Begin changes) rest
behind_verb set_verb rest = set_line rest
behind_verb back_verb rest = back_line rest
behind_verb commit_verb rest = one_word txn_word (λ txn. asked.Commit txn) rest
behind_verb rollback_verb rest = one_word txn_word (λ txn. asked.Rollback txn) rest
behind_verb get_verb rest = one_word cell_word (λ cell. asked.Get cell) rest
behind_verb checkpoint_verb rest = ends asked.Checkpoint rest

-- a line without its carriage return: a verb, and what stands after it
abbrev pub verb_line : Rest → Result TxnCall ℕ
verb_line rest = do
  verb ← word txn_verb rest
  behind_verb verb.value verb.rest

-- what a line asks for, without a carriage return at its end, or the place where it goes wrong
unfoldable pub txn_call_in : List ℕ → Result TxnCall ℕ
txn_call_in line = verb_line (record { words = words_from 0 (words_of line); end = length line })

-- what lines ask for, each with its carriage return dropped
abbrev pub calls_of_lines : List (List ℕ) → List (Result TxnCall ℕ)
calls_of_lines lines = map (λ line. txn_call_in (without_return line)) lines

-- the number and the name of a refusal, and its fields in order
abbrev pub txn_refusal_text : TxnRefusal → List ℕ
txn_refusal_text (refusals.Log refusal) = refusal_text refusal
txn_refusal_text refusals.NoSuchTxn = codes "30 NoSuchTxn"
txn_refusal_text (refusals.TxnLimit open_now) = codes "31 TxnLimit " ++ decimal open_now
txn_refusal_text (refusals.CellHeld txn) = codes "32 CellHeld " ++ decimal txn
txn_refusal_text (refusals.ChangesSpent changes) = codes "33 ChangesSpent " ++ decimal changes
txn_refusal_text (refusals.KeptTooMany have) = codes "34 KeptTooMany " ++ decimal have
txn_refusal_text (refusals.TxnsOpen open_now) = codes "35 TxnsOpen " ++ decimal open_now
txn_refusal_text refusals.IdsSpent = codes "36 IdsSpent"

-- what was answered; numbers are decimal
abbrev pub txn_reply_text : TxnReply → List ℕ
txn_reply_text (replies.Begun txn) = codes "txn " ++ decimal txn
txn_reply_text replies.Done = codes "ok"
txn_reply_text (replies.Value value) = codes "value " ++ decimal value
txn_reply_text (replies.Refused refusal) = codes "refused " ++ txn_refusal_text refusal

-- the line of a reply, with its line feed
abbrev pub txn_reply_line : TxnReply → List ℕ
txn_reply_line reply = txn_reply_text reply ++ 10 ∷ []

-- the reply to a line that asks for nothing
abbrev pub bad_line_reply : ℕ → TxnReply
bad_line_reply at = replies.Refused (refusals.Log (log_refusals.BadLine at))
