-- What an append of what an area holds leaves: the record, by its LSN and its link, and the cursors as they were.
use Rattle.clfs_txn.proofs.Words.{◌≡◌, ℕ, ◌<◌, ◌≤◌, Bool, true, false, refl, sym, ap, ◌∙◌, List, [], ◌∷◌, ◌++◌, length, arith, subst, IfOk, OnOk, All, find}
use Rattle.clfs_txn.proofs.Words.{◌==◌, nat_lt, AllByRecursion, option_map_or, eq-eqb, ne_eqb, recursion_from_All, frontier, own, Mode, LogEntry, Call, Draft}
use Rattle.clfs_txn.proofs.Words.{Refusal, Happened, Reply, Area, State, Outcome, answer, outcome, flushed, happened_of, Steps, appended, next_lsn}
use Rattle.clfs_txn.proofs.Words.{plain_record, with_less_held, record_cursor, refusal, refused_if, area_of, is_area, Step, Comes, IsValid, IsRecord, IsAt}
use Rattle.clfs_txn.proofs.Words.{HasLink}
use Rattle.std.specs.Prelude.{Option, Some, None, Result, Ok, Err}
use Rattle.std.specs.Option.{option_or}
use Rattle.std.proofs.lemmas.List.{append_cancel_left}
use Rattle.std.proofs.lemmas.List.Folds.{find-append}
use Rattle.clfs_model.specs.declared.call.Call.TheVariants as calls
use Rattle.clfs_model.specs.declared.refusal.Refusal.TheVariants as refusals
use Rattle.clfs_model.specs.declared.reply.Reply.TheVariants as replies
use Rattle.clfs_model.specs.Refusals.{append_refusal}
use Rattle.clfs_txn.proofs.Answered.{answered, area_there, placed_is}
use Rattle.clfs_txn.proofs.Cursors.{appended_areas, appended_records, changed_area}

-- what the laws say of the records that a step adds
abbrev pub OnlyAdds : Type 0
OnlyAdds = (told : Bool) (s : State) (client : ℕ) (call : Call) (happened : Happened) (reply : Reply) (t : State)
    → IsValid s → Step told s client call happened reply t
    → (more : List LogEntry) × (t.records ≡ s.records ++ more) × All (λ (entry : LogEntry). frontier s.place ≤ entry.lsn) more

passed_if : (test : Bool) (given : Refusal) (others : Option Refusal) → refused_if test given others ≡ None → others ≡ None
passed_if true given others none = absurd (cc none)
passed_if false given others none = none

-- the log is as the machine has it
pub appended_is : (told : Bool) (s : State) (client number : ℕ) (draft : Draft) (happened : Happened) (lsn : ℕ) (t : State) → s.broken ≡ false
    → Step told s client (calls.Append number draft true []) happened (replies.Placed lsn) t
    → (area : Area) × (area_of s client number ≡ Some area) × (t ≡ appended s area draft true []) × (lsn ≡ next_lsn s (length draft.bytes))
appended_is told s client number draft happened lsn t whole step =
    let parts = answered told s client (calls.Append number draft true []) happened (replies.Placed lsn) t whole refl step in
    let place = area_there (area_of s client number) (λ (area : Area). append_refusal s area draft true []) (passed_if (nat_lt s.containers 2) _ _ parts.0) in
    let area : Area = place.0 in
    let after : Outcome = outcome (replies.Placed (next_lsn s (length draft.bytes))) (appended s area draft true []) in
    let outcome_is : answer s client (calls.Append number draft true []) ≡ after
    = ap (λ (o : Option Area). option_map_or (λ (a : Area). outcome (replies.Placed (next_lsn s (length draft.bytes))) (appended s a draft true [])) o (outcome (replies.Refused refusals.NoSuchArea) s)) place.1 in
    let comes : Comes told (flushed s) after (replies.Placed lsn) t
    = subst (λ (o : Outcome). Comes told (flushed s) o (replies.Placed lsn) t) outcome_is parts.1 in
    (area, place.1, comes.1, placed_is told (flushed s) (next_lsn s (length draft.bytes)) lsn comes.0)

-- a cursor is where it was
pub append_keeps : (told : Bool) (s : State) (client number : ℕ) (draft : Draft) (happened : Happened) (lsn : ℕ) (t : State) → s.broken ≡ false → draft.seal ≡ false
    → Step told s client (calls.Append number draft true []) happened (replies.Placed lsn) t
    → (cursor last : ℕ) (mode : Mode) → IsAt s client number cursor mode last → IsAt t client number cursor mode last
append_keeps told s client number draft happened lsn t whole no_seal step cursor last mode at =
    let is = appended_is told s client number draft happened lsn t whole step in
    let area : Area = is.0 in
    let change : Area → Area = with_less_held (own (length draft.bytes)) in
    let same : at.area ≡ area = let both : Some at.area ≡ Some area = sym at.there ∙ is.1 in cc both in
    record {
      area = change area;
      there = ap (λ (x : State). area_of x client number) is.2
          ∙ ap (λ (l : List Area). find (is_area client number) l) (appended_areas s area draft no_seal)
          ∙ changed_area s.areas client number area change (record { client = λ a. refl; number = λ a. refl }) is.1;
      on = ap (λ (a : Area). record_cursor a cursor) (sym same) ∙ at.on;
    }

none_found : (lsn : ℕ) (entries : List LogEntry) → AllByRecursion (λ (entry : LogEntry). entry.lsn < lsn) entries → find (λ (entry : LogEntry). entry.lsn == lsn) entries ≡ None
none_found lsn [] below = refl
none_found lsn (entry ∷ entries) below =
    let less : entry.lsn < lsn = below.0 in rw (ne_eqb entry.lsn lsn (λ e. omega (arith, e, less))) (none_found lsn entries below.1)

below_all : (s : State) (bound : ℕ) (entries : List LogEntry) → frontier s.place ≤ bound → AllByRecursion (IsRecord s) entries
    → AllByRecursion (λ (entry : LogEntry). entry.lsn < bound) entries
below_all s bound [] le all = tt
below_all s bound (entry ∷ entries) le all = let below = all.0.below in (omega (arith, le, below), below_all s bound entries le all.1)

-- the record is in the log, with its link
pub append_links : OnlyAdds → (told : Bool) (s : State) (client number : ℕ) (draft : Draft) (happened : Happened) (lsn : ℕ) (t : State) → IsValid s → s.broken ≡ false
    → draft.seal ≡ false → Step told s client (calls.Append number draft true []) happened (replies.Placed lsn) t → HasLink t lsn draft.undo_next
append_links adds told s client number draft happened lsn t valid whole no_seal step =
    let is = appended_is told s client number draft happened lsn t whole step in
    let entry : LogEntry = record (plain_record is.0 draft) { lsn = next_lsn s (length draft.bytes) } in
    let records : t.records ≡ s.records ++ entry ∷ [] = ap (λ (x : State). x.records) is.2 ∙ appended_records s is.0 draft no_seal in
    let more = adds told s client (calls.Append number draft true []) happened (replies.Placed lsn) t valid step in
    let same : more.0 ≡ entry ∷ [] = append_cancel_left s.records more.0 (entry ∷ []) (sym more.1 ∙ records) in
    let above : frontier s.place ≤ entry.lsn
    = subst (λ (l : List LogEntry). All (λ (e : LogEntry). frontier s.place ≤ e.lsn) l) same more.2 0 entry (omega arith) in
    let le : frontier s.place ≤ lsn = omega (arith, above, is.3) in
    let none : find (λ (e : LogEntry). e.lsn == lsn) s.records ≡ None
    = none_found lsn s.records (below_all s lsn s.records le (recursion_from_All (IsRecord s) s.records valid.records.records)) in
    let here : (entry.lsn == lsn) ≡ true = eq-eqb entry.lsn lsn (sym is.3) in
    record {
      entry = entry;
      there = ap (λ (l : List LogEntry). find (λ (e : LogEntry). e.lsn == lsn) l) records
          ∙ find-append (λ (e : LogEntry). e.lsn == lsn) s.records (entry ∷ [])
          ∙ ap (λ (o : Option LogEntry). option_or o (find (λ (e : LogEntry). e.lsn == lsn) (entry ∷ []))) none ∙ rw here refl;
      linked = refl;
    }

-- a record that is in the log stays there
pub still_links : (s t : State) (more : List LogEntry) (lsn link : ℕ) → t.records ≡ s.records ++ more → HasLink s lsn link → HasLink t lsn link
still_links s t more lsn link records has = record {
  entry = has.entry;
  there = ap (λ (l : List LogEntry). find (λ (e : LogEntry). e.lsn == lsn) l) records
      ∙ find-append (λ (e : LogEntry). e.lsn == lsn) s.records more
      ∙ ap (λ (o : Option LogEntry). option_or o (find (λ (e : LogEntry). e.lsn == lsn) more)) has.there;
  linked = has.linked;
}

-- ---- by what an append is answered

pub links_reply : OnlyAdds → (told : Bool) (s : State) (client number : ℕ) (draft : Draft) (result : Result ℕ Refusal) (t : State) → IsValid s → s.broken ≡ false
    → draft.seal ≡ false → Steps told s client (calls.Append number draft true []) replies.Placed result t → IfOk result (λ lsn. HasLink t lsn draft.undo_next)
links_reply adds told s client number draft (Ok lsn) t valid whole no_seal steps =
    append_links adds told s client number draft (happened_of (replies.Placed lsn)) lsn t valid whole no_seal steps
links_reply adds told s client number draft (Err refusal) t valid whole no_seal steps = tt

pub cursors_reply : (told : Bool) (s : State) (client number : ℕ) (draft : Draft) (result : Result ℕ Refusal) (t : State) → s.broken ≡ false
    → draft.seal ≡ false → Steps told s client (calls.Append number draft true []) replies.Placed result t
    → OnOk result ((cursor last : ℕ) (mode : Mode) → IsAt s client number cursor mode last → IsAt t client number cursor mode last)
cursors_reply told s client number draft (Ok lsn) t whole no_seal steps =
    append_keeps told s client number draft (happened_of (replies.Placed lsn)) lsn t whole no_seal steps
cursors_reply told s client number draft (Err refusal) t whole no_seal steps = tt
