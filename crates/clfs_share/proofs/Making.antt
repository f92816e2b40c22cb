-- The calls that one request more gives, and what they add to a session's own entries.
use Rattle.std.proofs.Common.{◌≡◌, ℕ, ◌+◌, Bool, true, false, refl, sym, ap, subst, ◌∙◌, inl, inr, List, [], ◌∷◌, ◌++◌, length, append-nil, arith, length-append, le_trans}
use Rattle.std.specs.Prelude.{◌⊎◌, ◌≤◌, if◌then◌else◌, IfOk, OnErr, Ok, Err, Result}
use Rattle.std.proofs.lemmas.List.{length-map, map-append}
use Rattle.clfs_model.specs.declared.call.Call.{Call}
use Rattle.clfs_model.specs.declared.journal.Entry.{Entry}
use Rattle.clfs_model.specs.declared.reply.Reply.{Reply}
use Rattle.clfs_model.specs.Journals.{mine}
use Rattle.clfs_model.specs.Run.{Request, asks, reopens, bad_line}
use Rattle.clfs_model.specs.Step.{takes_memory}
use Rattle.clfs_turn.specs.Seats.{IsSameSeat}
use Rattle.clfs_shared.specs.Counts.{most_calls}
use Rattle.clfs_shared.specs.Journal.{entry_of, is_out_of_memory}
use Rattle.clfs_shared.specs.Sessions.{SessionState, own_entries}
use Rattle.clfs_share.specs.Answered.{AnswersCall, AnswersRequest}
use Rattle.clfs_share.specs.Made.{Made, made, made_of, all_made, calls_made, AreReplies, AreWanted}

-- ---- requests and their replies

-- one made or not, and then others
or_made : (b : Bool) (one : Made) (xs ys : List Made) → (if b then xs ++ ys else one ∷ xs ++ ys) ≡ (if b then xs else one ∷ xs) ++ ys
or_made true one xs ys = refl
or_made false one xs ys = refl

-- requests and then others
pub calls_made-append : (requests others : List Request) (answers more : List Reply) → AreReplies requests answers
    → calls_made (requests ++ others) (answers ++ more) ≡ calls_made requests answers ++ calls_made others more
calls_made-append [] others [] more are = refl
calls_made-append [] others (reply ∷ answers) more are = absurd are
calls_made-append (request ∷ requests) others [] more are = absurd are
calls_made-append (asks client call ∷ requests) others (reply ∷ answers) more are =
    ap (λ (rest : List Made). if is_out_of_memory reply then rest else made call reply ∷ rest) (calls_made-append requests others answers more are)
    ∙ or_made (is_out_of_memory reply) (made call reply) (calls_made requests answers) (calls_made others more)
calls_made-append (reopens client ∷ requests) others (reply ∷ answers) more are = absurd are
calls_made-append (bad_line at ∷ requests) others (reply ∷ answers) more are = calls_made-append requests others answers more are.1

pub AreReplies-append : (requests others : List Request) (answers more : List Reply) → AreReplies requests answers → AreReplies others more
    → AreReplies (requests ++ others) (answers ++ more)
AreReplies-append [] others [] more are rest = rest
AreReplies-append [] others (reply ∷ answers) more are rest = absurd are
AreReplies-append (request ∷ requests) others [] more are rest = absurd are
AreReplies-append (asks client call ∷ requests) others (reply ∷ answers) more are rest = AreReplies-append requests others answers more are rest
AreReplies-append (reopens client ∷ requests) others (reply ∷ answers) more are rest = absurd are
AreReplies-append (bad_line at ∷ requests) others (reply ∷ answers) more are rest = (are.0, AreReplies-append requests others answers more are.1 rest)

-- ---- a session's own entries

pub by_memory : (b : Bool) (P : Bool → Type 0) → (b ≡ true → P true) → (b ≡ false → P false) → P b
by_memory true P on off = on refl
by_memory false P on off = off refl

-- the own entries of the same seat, which has seen the same
pub same_own : (s t : SessionState) → IsSameSeat s t → t.seen ≡ s.seen → own_entries t ≡ own_entries s
same_own s t same seen = ap (λ (c : ℕ). mine t.seen c) same.client ∙ ap (λ (z : List Entry). mine z s.client) seen

-- what a call that was answered so added
pub call_adds : (s : SessionState) (call : Call) (reply : Reply) (t : SessionState) → AnswersCall s call reply t
    → all_made (own_entries t) ≡ all_made (own_entries s) ++ (if is_out_of_memory reply then [] else made call reply ∷ [])
call_adds s call reply t answered =
    let F : Bool → Type 0 = λ b. all_made (own_entries t) ≡ all_made (own_entries s) ++ (if b then [] else made call reply ∷ []) in
    by_memory (is_out_of_memory reply) F
    (λ lacks. ap all_made (same_own s t answered.same (answered.none lacks)) ∙ sym (append-nil (all_made (own_entries s))))
    (λ answers. ap all_made (answered.step answers).grew ∙ map-append made_of (own_entries s) (entry_of s.client (length (own_entries s) + 1) call reply ∷ []))

pub same_seat : (s : SessionState) → IsSameSeat s s
same_seat s = record { lock = refl; client = refl; opening = refl }

pub same_seats : (s t u : SessionState) → IsSameSeat s t → IsSameSeat t u → IsSameSeat s u
same_seats s t u first second =
    record { lock = second.lock ∙ first.lock; client = second.client ∙ first.client; opening = second.opening ∙ first.opening }

-- what a request that was answered so added
pub request_adds : (s : SessionState) (request : Request) (reply : Reply) (t : SessionState) → AnswersRequest s request reply t
    → all_made (own_entries t) ≡ all_made (own_entries s) ++ calls_made (request ∷ []) (reply ∷ [])
request_adds s (asks client call) reply t answered = call_adds s call reply t answered.1
request_adds s (reopens client) reply t answered = absurd answered
request_adds s (bad_line at) reply t answered = ap (λ (x : SessionState). all_made (own_entries x)) answered.1 ∙ sym (append-nil (all_made (own_entries s)))

pub request_same : (s : SessionState) (request : Request) (reply : Reply) (t : SessionState) → AnswersRequest s request reply t → IsSameSeat s t
request_same s (asks client call) reply t answered = answered.1.same
request_same s (reopens client) reply t answered = absurd answered
request_same s (bad_line at) reply t answered = let F : SessionState → Type 0 = λ x. IsSameSeat s x in subst F (sym answered.1) (same_seat s)

pub request_replies : (s : SessionState) (request : Request) (reply : Reply) (t : SessionState) → AnswersRequest s request reply t
    → AreReplies (request ∷ []) (reply ∷ [])
request_replies s (asks client call) reply t answered = tt
request_replies s (reopens client) reply t answered = absurd answered
request_replies s (bad_line at) reply t answered = (answered.0, tt)

-- ---- calls that memory runs out for

-- with more entries memory may run out for as many calls
more_wanted : (own more : ℕ) (call : Call) → own ≤ more → (takes_memory call ≡ true) ⊎ (most_calls ≤ own) → (takes_memory call ≡ true) ⊎ (most_calls ≤ more)
more_wanted own more call less (inl takes) = inl takes
more_wanted own more call less (inr most) = inr (le_trans most less)

-- a request that was answered so, and then others
pub request_wanted : (s : SessionState) (request : Request) (reply : Reply) (t : SessionState) (own : ℕ) (requests : List Request) (answers : List Reply)
    → AnswersRequest s request reply t → length (own_entries s) ≤ own → AreWanted own requests answers → AreWanted own (request ∷ requests) (reply ∷ answers)
request_wanted s (asks client call) reply t own requests answers answered less rest =
    (λ lacking. more_wanted (length (own_entries s)) own call less (answered.1.wanted lacking), rest)
request_wanted s (reopens client) reply t own requests answers answered less rest = absurd answered
request_wanted s (bad_line at) reply t own requests answers answered less rest = rest

-- entries that begin with the calls of others are as many at least
pub begins_with : (entries others : List Entry) (more : List Made) → all_made entries ≡ all_made others ++ more → length others ≤ length entries
begins_with entries others more are =
    let many = ap length are in
    let both = length-append (all_made others) more in
    let here = length-map entries made_of in
    let there = length-map others made_of in
    omega (arith, many, both, here, there)

-- ---- an error

pub if_refused : {A E : Type 0} {P : Type 0} (r : Result A E) → P → OnErr r P
if_refused (Ok x) is = tt
if_refused (Err e) is = is

-- what two facts on a result give together
pub both_ok : {A E : Type 0} (r : Result A E) (P Q R : A → Type 0) → ((x : A) → P x → Q x → R x) → IfOk r P → IfOk r Q → IfOk r R
both_ok (Ok x) P Q R also first second = also x first second
both_ok (Err e) P Q R also first second = tt
