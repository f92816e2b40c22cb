-- The deletion of one area more.
use Rattle.std.proofs.Common.{◌≡◌, ℕ, zero, suc, ◌+◌, Bool, true, false, refl, sym, ap, subst, ◌∙◌, inl, inr, List, [], ◌∷◌, ◌++◌, length, arith, length-append, le_trans, append_assoc, append-nil}
use Rattle.std.specs.Prelude.{◌⊎◌, ◌==◌, ◌&&◌, ◌≤◌, if◌then◌else◌, All, Option, None, slice_index_or}
use Rattle.std.specs.List.{list_all}
use Rattle.std.specs.Option.{option_map}
use Rattle.std.proofs.lemmas.Bool.{cases_lt, true≢false}
use Rattle.std.proofs.lemmas.Bool.Decides.{nat_tests}
use Rattle.std.proofs.lemmas.List.Elements.{All-append}
use Rattle.std.proofs.lemmas.List.Folds.{list_all-append}
use Rattle.clfs_model.specs.declared.call.Call.{Call}
use Rattle.clfs_model.specs.declared.call.Call.TheVariants as calls
use Rattle.clfs_model.specs.declared.journal.Entry.{Entry}
use Rattle.clfs_model.specs.declared.refusal.Refusal.{Refusal}
use Rattle.clfs_model.specs.declared.refusal.Refusal.TheVariants as refusals
use Rattle.clfs_model.specs.declared.reply.Happened.{Happened}
use Rattle.clfs_model.specs.declared.reply.Happened.TheVariants.{Fine}
use Rattle.clfs_model.specs.declared.reply.Reply.{Reply}
use Rattle.clfs_model.specs.declared.reply.Reply.TheVariants as replies
use Rattle.clfs_model.specs.declared.state.Area.{Area}
use Rattle.clfs_model.specs.declared.state.State.{State}
use Rattle.clfs_model.specs.Happened.{happened_of_refusal}
use Rattle.clfs_model.specs.Journals.{IsLegal, mine}
use Rattle.clfs_model.specs.Run.{asks}
use Rattle.clfs_model.specs.State.{area_of}
use Rattle.clfs_model.specs.Step.{Step, takes_memory}
use Rattle.clfs_laws.specs.Needs.{area_number}
use Rattle.clfs_laws.specs.ReplyKinds.{is_reply_of}
use Rattle.clfs_laws.specs.Rows.{AreaRow, row_of, row_in, row_after, row_through}
use Rattle.clfs_turn.specs.Seats.{IsSameSeat}
use Rattle.clfs_shared.specs.declared.opening.Opening.{Opening}
use Rattle.clfs_shared.specs.Counts.{most_calls}
use Rattle.clfs_shared.specs.Journal.{entry_of, is_out_of_memory}
use Rattle.clfs_shared.specs.Sessions.{SessionState, own_entries}
use Rattle.clfs_share.specs.Answered.{AnswersCall}
use Rattle.clfs_share.specs.Left.{deletions, is_gone, own_row, EndsArea, DeletesArea, HasDeleted}
use Rattle.clfs_share.specs.Made.{Made, made, all_made, calls_made}
use Rattle.clfs_share.proofs.Making.{AreReplies-append, by_memory, call_adds, calls_made-append, same_own, same_seat, same_seats}

-- what the log machine's definitions give
pub record DeletionLaws : Type 0 where
  pub kind : (told : Bool) (s : State) (client : ℕ) (call : Call) (happened : Happened) (reply : Reply) (t : State)
      → Step told s client call happened reply t → is_reply_of call reply ≡ true
  pub missing : (told : Bool) (s : State) (client : ℕ) (call : Call) (happened : Happened) (t : State)
      → Step told s client call happened (replies.Refused refusals.NoSuchArea) t → area_of s client (area_number call) ≡ None
  pub unchanged : (told : Bool) (s : State) (client : ℕ) (call : Call) (happened : Happened) (refusal : Refusal) (t : State)
      → Step told s client call happened (replies.Refused refusal) t → happened_of_refusal refusal ≡ Fine → t ≡ s
  pub rows : (told : Bool) (s t : State) (journal : List Entry) (client number : ℕ) → IsLegal told journal s t
      → row_in t client number ≡ row_through number (row_in s client number) (mine journal client)

-- ---- rows

row_through-append : (number : ℕ) (row : Option AreaRow) (entries more : List Entry)
    → row_through number row (entries ++ more) ≡ row_through number (row_through number row entries) more
row_through-append number row [] more = refl
row_through-append number row (entry ∷ entries) more = row_through-append number (row_after number row entry.call entry.reply) entries more

-- the row after an own entry more
row_more : (number : ℕ) (s t : SessionState) (entry : Entry) → IsSameSeat s t → own_entries t ≡ own_entries s ++ entry ∷ []
    → own_row number t ≡ row_after number (own_row number s) entry.call entry.reply
row_more number s t entry same grew =
    ap (λ (o : Opening). row_through number (row_in o.state t.client number) (own_entries t)) same.opening
    ∙ ap (λ (c : ℕ). row_through number (row_in s.opening.state c number) (own_entries t)) same.client
    ∙ ap (λ (entries : List Entry). row_through number (row_in s.opening.state s.client number) entries) grew
    ∙ row_through-append number (row_in s.opening.state s.client number) (own_entries s) (entry ∷ [])

-- the row of the same seat that has seen the same
row_same : (number : ℕ) (s t : SessionState) → IsSameSeat s t → own_entries t ≡ own_entries s → own_row number t ≡ own_row number s
row_same number s t same entries =
    ap (λ (o : Opening). row_through number (row_in o.state t.client number) (own_entries t)) same.opening
    ∙ ap (λ (c : ℕ). row_through number (row_in s.opening.state c number) (own_entries t)) same.client
    ∙ ap (λ (z : List Entry). row_through number (row_in s.opening.state s.client number) z) entries

none_or_none : (b : Bool) (row : Option AreaRow) → row ≡ None → (if b then None else row) ≡ None
none_or_none true row is = refl
none_or_none false row is = is

-- an area that isn't there doesn't come to be by a deletion
none_stays : (number given : ℕ) (reply : Reply) → row_after number None (calls.DeleteArea given) reply ≡ None
none_stays number given replies.Done = none_or_none (given == number) None refl
none_stays number given (replies.Refused _) = refl
none_stays number given _ = refl

none_after : (number given : ℕ) (s t : SessionState) (reply : Reply) → AnswersCall s (calls.DeleteArea given) reply t → own_row number s ≡ None → own_row number t ≡ None
none_after number given s t reply answered none =
    by_memory (is_out_of_memory reply) (λ _. own_row number t ≡ None)
    (λ lacks. row_same number s t answered.same (same_own s t answered.same (answered.none lacks)) ∙ none)
    (λ answers.
    row_more number s t (entry_of s.client (length (own_entries s) + 1) (calls.DeleteArea given) reply) answered.same (answered.step answers).grew
    ∙ ap (λ (row : Option AreaRow). row_after number row (calls.DeleteArea given) reply) none
    ∙ none_stays number given reply)

own_number : (n : ℕ) → (n == n) ≡ true
own_number n = grind (arith, nat_tests)

if_true : (b : Bool) (row : Option AreaRow) → b ≡ true → (if b then None else row) ≡ None
if_true true row is = refl
if_true false row is = absurd (true≢false (sym is))

-- an area is gone after a reply that says so
ended : DeletionLaws → (s t : SessionState) (number : ℕ) (reply : Reply) → AnswersCall s (calls.DeleteArea number) reply t → is_gone reply ≡ true
    → own_row number t ≡ None
ended laws s t number replies.Done answered is =
    row_more number s t (entry_of s.client (length (own_entries s) + 1) (calls.DeleteArea number) replies.Done) answered.same (answered.step refl).grew
    ∙ if_true (number == number) (own_row number s) (own_number number)
ended laws s t number (replies.Refused refusals.NoSuchArea) answered is =
    let step = answered.step refl in
    let F : Opening → Type 0 = λ o. IsLegal o.tells_contents t.seen o.state step.left in
    let legal : F t.opening = subst F (sym answered.same.opening) step.whole in
    let left : step.left ≡ step.found =
    laws.unchanged s.opening.tells_contents step.found s.client (calls.DeleteArea number) Fine refusals.NoSuchArea step.left step.step refl in
    let none : area_of step.found s.client number ≡ None =
    laws.missing s.opening.tells_contents step.found s.client (calls.DeleteArea number) Fine step.left step.step in
    sym (laws.rows t.opening.tells_contents t.opening.state step.left t.seen t.client number legal)
    ∙ ap (λ (c : ℕ). row_in step.left c number) answered.same.client
    ∙ ap (λ (x : State). row_in x s.client number) left
    ∙ ap (λ (found : Option Area). option_map row_of found) none
ended laws s t number (replies.Refused _) answered is = absurd (true≢false (sym is))
ended laws s t number _ answered is = absurd (true≢false (sym is))

-- a session's own entries don't become fewer
grown : (s t : SessionState) (call : Call) (reply : Reply) → AnswersCall s call reply t → length (own_entries s) ≤ length (own_entries t)
grown s t call reply answered = by_memory (is_out_of_memory reply) (λ _. length (own_entries s) ≤ length (own_entries t))
    (λ lacks. let same = ap length (same_own s t answered.same (answered.none lacks)) in omega (arith, same))
    (λ answers.
    let entry = entry_of s.client (length (own_entries s) + 1) call reply in
    let grew = ap length (answered.step answers).grew ∙ length-append (own_entries s) (entry ∷ []) in omega (arith, grew))

-- a deletion takes no memory, so that it lacks only for a client with as many entries as it may have
has_most : (s t : SessionState) (number : ℕ) (reply : Reply) → AnswersCall s (calls.DeleteArea number) reply t
    → (takes_memory (calls.DeleteArea number) ≡ true) ⊎ (most_calls ≤ length (own_entries s)) → most_calls ≤ length (own_entries t)
has_most s t number reply answered (inl takes) = absurd (true≢false (sym takes))
has_most s t number reply answered (inr most) = le_trans most (grown s t (calls.DeleteArea number) reply answered)

-- which replies a deletion can have
ends_by : (own number : ℕ) (reply : Reply) → (is_out_of_memory reply ≡ false → is_reply_of (calls.DeleteArea number) reply ≡ true)
    → (is_out_of_memory reply ≡ true → most_calls ≤ own) → EndsArea own reply
ends_by own number replies.Done kind lacks = inl refl
ends_by own number (replies.Refused refusals.NoSuchArea) kind lacks = inl refl
ends_by own number (replies.Refused refusals.Broken) kind lacks = inr (inl refl)
ends_by own number (replies.Refused refusals.NoMemory) kind lacks = inr (inr (refl, lacks refl))
ends_by own number (replies.Refused _) kind lacks = absurd (true≢false (sym (kind refl)))
ends_by own number _ kind lacks = absurd (true≢false (sym (kind refl)))

-- which replies are of a client with more entries too
ends_more : (own more : ℕ) (reply : Reply) → own ≤ more → EndsArea own reply → EndsArea more reply
ends_more own more reply less (inl gone) = inl gone
ends_more own more reply less (inr (inl broken)) = inr (inl broken)
ends_more own more reply less (inr (inr most)) = inr (inr (most.0, le_trans most.1 less))

-- one deletion
pub deletes : DeletionLaws → (s t : SessionState) (number : ℕ) (reply : Reply) → AnswersCall s (calls.DeleteArea number) reply t → DeletesArea s number t
deletes laws s t number reply answered = record {
  reply = reply;
  answered = answered;
  ends = ends_by (length (own_entries t)) number reply (λ answers. let step = answered.step answers in
      laws.kind s.opening.tells_contents step.found s.client (calls.DeleteArea number) _ reply step.left step.step)
      (λ lacking. has_most s t number reply answered (answered.wanted lacking));
  gone = ended laws s t number reply answered;
}

-- ---- several deletions

all_one : {A : Type 0} (P : A → Type 0) (x : A) → P x → All P (x ∷ [])
all_one P x is zero d below = is
all_one P x is (suc k) d below = absurd (omega (arith, below))

both : (a b : Bool) → (a && (b && true)) ≡ true → (a ≡ true) × (b ≡ true)
both true true e = (refl, refl)
both true false e = absurd (true≢false (sym e))
both false b e = absurd (true≢false (sym e))

-- nothing was deleted yet
pub none_deleted : (s : SessionState) → HasDeleted 0 s s
none_deleted s = record {
  same = same_seat s;
  answers = [];
  answered = tt;
  entries = sym (append-nil (all_made (own_entries s)));
  ends = λ k d below. absurd (omega (arith, below));
  gone = λ _ number least most. absurd (omega (arith, least, most));
}

deleted_more : (count : ℕ) (s t u : SessionState) → HasDeleted count s t → DeletesArea t (suc count) u → HasDeleted (suc count) s u
deleted_more count s t u has next = record {
  same = same_seats s t u has.same next.answered.same;
  answers = has.answers ++ next.reply ∷ [];
  answered = AreReplies-append (deletions s.client count) (asks s.client (calls.DeleteArea (suc count)) ∷ []) has.answers (next.reply ∷ []) has.answered tt;
  entries = call_adds t (calls.DeleteArea (suc count)) next.reply u next.answered
      ∙ ap (λ (z : List Made). z ++ one) has.entries
      ∙ append_assoc (all_made (own_entries s)) (calls_made (deletions s.client count) has.answers) one
      ∙ ap (λ (z : List Made). all_made (own_entries s) ++ z) (sym (calls_made-append (deletions s.client count) (asks s.client (calls.DeleteArea (suc count)) ∷ [])
      has.answers (next.reply ∷ []) has.answered));
  ends = All-append (EndsArea (length (own_entries u))) has.answers (next.reply ∷ [])
      (λ k d below. ends_more (length (own_entries t)) (length (own_entries u)) (slice_index_or has.answers k d)
      (grown t u (calls.DeleteArea (suc count)) next.reply next.answered) (has.ends k d below))
      (all_one (EndsArea (length (own_entries u))) next.reply next.ends);
  gone = λ all number least most.
      let two = both (list_all is_gone has.answers) (is_gone next.reply) (sym (list_all-append is_gone has.answers (next.reply ∷ [])) ∙ all) in
      elim (cases_lt count number) [
        | inl above ↦ last number (omega (arith, above, most)) (next.gone two.1)
        | inr not ↦ none_after number (suc count) t u next.reply next.answered (has.gone two.0 number least (omega (arith, not)))
      ];
}
  where
    one : List Made
    one = if is_out_of_memory next.reply then [] else made (calls.DeleteArea (suc count)) next.reply ∷ []

    last : (number : ℕ) → number ≡ suc count → own_row (suc count) u ≡ None → own_row number u ≡ None
    last number is gone = ap (λ (n : ℕ). own_row n u) is ∙ gone

-- the same with the next number written as a sum
pub deleted_next : (count : ℕ) (s t u : SessionState) → HasDeleted count s t → DeletesArea t (count + 1) u → HasDeleted (count + 1) s u
deleted_next count s t u has next =
    let e : count + 1 ≡ suc count = omega arith in
    let F : ℕ → Type 0 = λ n. DeletesArea t n u in
    let G : ℕ → Type 0 = λ n. HasDeleted n s u in
    subst G (sym e) (deleted_more count s t u has (subst F e next))
