-- Taking back sets of a transaction, the newest that stands first.
use Rattle.clfs_cells_laws.proofs.Words.{◌≡◌, ◌⊎◌, ℕ, zero, suc, ◌+◌, ◌≤◌, Bool, true, false, refl, sym, subst, ap, ◌∙◌, inl, inr, arith, List, [], ◌∷◌, ◌++◌}
use Rattle.clfs_cells_laws.proofs.Words.{length, Option, Some, None, length-append, ◌==◌, find, slice_index, AllByRecursion, option_map_or, cases_Bool}
use Rattle.clfs_cells_laws.proofs.Words.{eqb-true, Cursor, LogEntry, Refusal, Happened, Reply, State, next_lsn, refusal, change_first, Step, Made, Action}
use Rattle.clfs_cells_laws.proofs.Words.{Answered, append_call, compensation, stops, undo_from, undo_set, with_read_ended, txn_bytes, txn_record, Plan, never}
use Rattle.clfs_cells_laws.proofs.Words.{CarriesOut, on_next, on_placed, Memory, Transaction, holds, is_at, is_numbered, standing, transaction}
use Rattle.clfs_cells_laws.proofs.Words.{with_one_undone, with_undone, from_outside, AreStacked, IsBrokenStore, IsInLog, IsKeptStore, IsOpen, IsStore}
use Rattle.clfs_cells_laws.proofs.Words.{IsStoreWith, newest_of, sectors_held, value_before}
use Rattle.std.proofs.Common.{append_assoc}
use Rattle.clfs_model.specs.declared.call.Call.TheVariants as calls
use Rattle.clfs_model.specs.declared.refusal.Refusal.TheVariants as refusals
use Rattle.clfs_model.specs.declared.reply.Reply.TheVariants as replies
use Rattle.clfs_cells.specs.declared.told.TxnRefusal.TheVariants as denials
use Rattle.clfs_cells.specs.declared.told.TxnReply.TheVariants as told_replies
use Rattle.clfs_cells.specs.Plans.{calls as asks}
use Rattle.clfs_cells_laws.proofs.Changes.{others_stay}
use Rattle.clfs_cells_laws.proofs.Grown.{Grows, in_log_on}
use Rattle.clfs_cells_laws.proofs.Links.{IsNullOrLive, append_passes, newest_live, some_held, some_left}
use Rattle.clfs_cells_laws.proofs.OneOf.{find_at, placed}
use Rattle.clfs_cells_laws.proofs.OwnCalls.{Laws, Went, broke, gave, kept, went}
use Rattle.clfs_cells_laws.proofs.Stacks.{each_held, found_newest, left_standing, standing_has, taken_before, taken_holds}
use Rattle.clfs_cells_laws.proofs.StoreCalls.{added, append_came, broken_store, entry_of, found_by_its, grows_by, number_found, open_found, undo_store}
use Rattle.clfs_cells_laws.proofs.UndoReads.{Stopped, WentOn, left_broken, left_whole, goes_on, next, not_next, read_ended, read_ended_broken, undo_cursor}
use Rattle.clfs_cells_laws.proofs.Ways.{way}

-- ---- how a call ends that the log refused

pub record Halted (tabled : Bool) (allowed : Refusal → Bool) (result : Answered) (t : State) : Type 0 where
  pub given : Refusal
  pub is : result.reply ≡ told_replies.Refused (denials.Log given)
  pub may : allowed given ≡ true
  pub left : IsKeptStore tabled t result.memory

pub halted_store : {tabled : Bool} → (allowed : Refusal → Bool) (told : Bool) (client : ℕ) (s : State) (memory : Memory) (given : Refusal) (result : Answered) (t : State)
    → allowed given ≡ true → IsStore tabled s memory → CarriesOut told client s (stops memory given) result t → Halted tabled allowed result t
halted_store {tabled = tabled} allowed told client s memory given result t may store ended = record {
  given = given;
  is = ap (λ (a : Answered). a.reply) ended.0;
  may = may;
  left = inr (subst (λ (x : State). IsStore tabled x result.memory) (sym ended.1) (subst (λ (a : Answered). IsStore tabled s a.memory) (sym ended.0) store));
}

pub halted_broken : {tabled : Bool} → (allowed : Refusal → Bool) (told : Bool) (client : ℕ) (s : State) (memory : Memory) (given : Refusal) (result : Answered) (t : State)
    → allowed given ≡ true → IsBrokenStore tabled s memory → CarriesOut told client s (stops memory given) result t → Halted tabled allowed result t
halted_broken {tabled = tabled} allowed told client s memory given result t may broken ended = record {
  given = given;
  is = ap (λ (a : Answered). a.reply) ended.0;
  may = may;
  left = inl (subst (λ (x : State). IsBrokenStore tabled x result.memory) (sym ended.1) (subst (λ (a : Answered). IsBrokenStore tabled s a.memory) (sym ended.0) broken));
}

-- a plan after a reply that is known
pub behind_reply : (told : Bool) (client : ℕ) (mid : State) (rest : Reply → Plan Answered) (reply other : Reply) (result : Answered) (t : State) → reply ≡ other
    → CarriesOut told client mid (rest reply) result t → CarriesOut told client mid (rest other) result t
behind_reply told client mid rest reply other result t same carries = subst (λ (r : Reply). CarriesOut told client mid (rest r) result t) same carries

pub same_log : (told : Bool) (client : ℕ) (mid s : State) (plan : Plan Answered) (result : Answered) (t : State) → mid ≡ s
    → CarriesOut told client mid plan result t → CarriesOut told client s plan result t
same_log told client mid s plan result t same carries = subst (λ (x : State). CarriesOut told client x plan result t) same carries

pub same_plan : (told : Bool) (client : ℕ) (s : State) (plan other : Plan Answered) (result : Answered) (t : State) → plan ≡ other
    → CarriesOut told client s plan result t → CarriesOut told client s other result t
same_plan told client s plan other result t same carries = subst (λ (p : Plan Answered). CarriesOut told client s p result t) same carries

-- ---- what is left of a transaction

-- the newest sets of those that stood were taken back, so many, and nothing else changed
pub record IsUndone (number : ℕ) (t : Transaction) (memory now : Memory) (x : Transaction) (count : ℕ) : Type 0 where
  pub there : transaction now number ≡ Some x
  pub gone : List Made
  pub many : length gone ≡ count
  pub stood : standing t ≡ gone ++ standing x
  pub before : (cell : ℕ) → value_before x.made cell ≡ value_before t.made cell
  pub held : (cell : ℕ) → holds cell x ≡ holds cell t
  pub others : (cell : ℕ) → holds cell t ≡ false → slice_index now.cells cell ≡ slice_index memory.cells cell

pub none_undone : (number : ℕ) (t : Transaction) (memory : Memory) → transaction memory number ≡ Some t → IsUndone number t memory memory t 0
none_undone number t memory is = record {
  there = is;
  gone = [];
  many = refl;
  stood = refl;
  before = λ cell. refl;
  held = λ cell. refl;
  others = λ cell free. refl;
}

pub undone_then : (number : ℕ) (t x y : Transaction) (memory mid now : Memory) (count more : ℕ) → IsUndone number t memory mid x count → IsUndone number x mid now y more
    → IsUndone number t memory now y (count + more)
undone_then number t x y memory mid now count more first later = record {
  there = later.there;
  gone = first.gone ++ later.gone;
  many = let long = length-append first.gone later.gone in let a = first.many in let b = later.many in omega (arith, long, a, b);
  stood = first.stood ∙ ap (λ (l : List Made). first.gone ++ l) later.stood ∙ sym (append_assoc first.gone later.gone (standing y));
  before = λ cell. later.before cell ∙ first.before cell;
  held = λ cell. later.held cell ∙ first.held cell;
  others = λ cell free. later.others cell (first.held cell ∙ free) ∙ first.others cell free;
}

-- ---- one set

-- what is known of the newest set that stands
pub record IsTop (s : State) (memory : Memory) (t : Transaction) (made : Made) (older : List Made) : Type 0 where
  pub logged : IsInLog s memory.stream made
  pub found : find (is_at made.lsn) t.made ≡ Some made
  pub held : holds made.change.cell t ≡ true
  pub link : made.undo_next ≡ newest_of older
  pub under : IsNullOrLive s memory.stream made.undo_next

pub top_is : (s : State) (memory : Memory) (t : Transaction) (made : Made) (older : List Made) → IsOpen s memory t → standing t ≡ made ∷ older
    → IsTop s memory t made older
top_is s memory t made older is_open is =
    let all : AllByRecursion (IsInLog s memory.stream) (made ∷ older)
    = subst (AllByRecursion (IsInLog s memory.stream)) is (standing_has (IsInLog s memory.stream) t is_open.logged) in
    let held = subst (AllByRecursion (λ (o : Made). holds o.change.cell t ≡ true)) is (standing_has (λ (o : Made). holds o.change.cell t ≡ true) t (each_held t.made)) in
    let stack : AreStacked (value_before t.made) (made ∷ older) = subst (AreStacked (value_before t.made)) is is_open.stacked in
    record {
      logged = all.0;
      found = found_newest t made older is_open.rise is;
      held = held.0;
      link = stack.0;
      under = subst (IsNullOrLive s memory.stream) (sym stack.0) (newest_live s memory.stream older all.1);
    }

pub changed_found : (memory : Memory) (number : ℕ) (t : Transaction) (f : Transaction → Transaction) → transaction memory number ≡ Some t → (f t).number ≡ t.number
    → find (is_numbered number) (change_first (is_numbered t.number) f memory.transactions) ≡ Some (f t)
changed_found memory number t f is keeps =
    let named = number_found memory number t is in
    let at = placed (is_numbered number) memory.transactions t is in
    ap (λ (n : ℕ). find (is_numbered number) (change_first (is_numbered n) f memory.transactions)) named
    ∙ ap (λ (l : List Transaction). find (is_numbered number) (change_first (is_numbered number) f l)) at.is
    ∙ ap (find (is_numbered number)) (changes at.before at.none at.here at.after)
    ∙ find_at (is_numbered number) at.before at.after (f t) at.none (ap (λ (n : ℕ). n == number) keeps ∙ at.here)
  where
    changes : (before : List Transaction) → AllByRecursion (λ (y : Transaction). is_numbered number y ≡ false) before → is_numbered number t ≡ true → (after : List Transaction)
        → change_first (is_numbered number) f (before ++ t ∷ after) ≡ before ++ f t ∷ after
    changes [] none here after = rw here refl
    changes (y ∷ before) none here after = rw none.0 (ap (λ (l : List Transaction). y ∷ l) (changes before none.1 here after))

pub one_undone : (s u : State) (memory : Memory) (number lsn : ℕ) (t : Transaction) (made : Made) (older : List Made) → IsOpen s memory t → transaction memory number ≡ Some t
    → standing t ≡ made ∷ older → holds made.change.cell t ≡ true
    → IsUndone number t memory (with_undone t made lsn memory) (with_one_undone made.lsn lsn t) 1
one_undone s u memory number lsn t made older is_open is stood held = record {
  there = changed_found memory number t (with_one_undone made.lsn lsn) is refl;
  gone = made ∷ [];
  many = refl;
  stood = stood ∙ ap (λ (l : List Made). made ∷ l) (sym (left_standing t made older is_open.rise stood));
  before = λ cell. taken_before made.lsn cell t.made;
  held = λ cell. taken_holds made.lsn cell t.made;
  others = λ cell free. others_stay memory.cells made.change.cell made.change.old cell (elim (cases_Bool (made.change.cell == cell)) [
    | inl own ↦
        let one : made.change.cell ≡ cell = eqb-true made.change.cell cell own in
        let both : true ≡ false = sym held ∙ ap (λ (c : ℕ). holds c t) one ∙ free in
        absurd (cc both)
    | inr differ ↦ differ
  ]);
}

-- how taking back ends
pub data Undoing (tabled : Bool) (told : Bool) (number : ℕ) (t : Transaction) (memory : Memory) (count : ℕ) (rest : Memory → Plan Answered) (result : Answered) (v : State) : Type 0 where
  halted : Halted tabled from_outside result v → Undoing tabled told number t memory count rest result v
  came_to : (u : State) (now : Memory) (x : Transaction) → IsStore tabled u now → IsUndone number t memory now x count → now.client ≡ memory.client
      → CarriesOut told now.client u (rest now) result v → Undoing tabled told number t memory count rest result v

-- how taking back one set ends, where a cursor stands at it
data OneUndo (tabled : Bool) (told : Bool) (s : State) (t : Transaction) (made : Made) (memory : Memory) (k : ℕ) (rest : Memory → Plan Answered) (result : Answered) (v : State) : Type 0 where
  no_more : Halted tabled from_outside result v → OneUndo tabled told s t made memory k rest result v
  taken : (u : State) (lsn : ℕ) → Grows s u → IsStoreWith tabled (undo_cursor k made.lsn ∷ []) u (with_undone t made lsn memory)
      → CarriesOut told memory.client u (rest (with_undone t made lsn memory)) result v → OneUndo tabled told s t made memory k rest result v

-- what comes of an append's reply
abbrev behind_append : Memory → Transaction → Made → ℕ → (Memory → Plan Answered) → Reply → Plan Answered
behind_append memory t made k rest = on_placed (λ refusal. with_read_ended memory k (stops memory refusal)) (λ at. rest (with_undone t made at memory))

module _ (tabled : Bool) (laws : Laws) (lengths : (txn : ℕ) (action : Action) → length (txn_bytes (txn_record txn action)) ≡ 24) (told : Bool) (s : State) (memory : Memory) (k number : ℕ)
    (t : Transaction) (made : Made) (older : List Made) (rest : Memory → Plan Answered) (result : Answered) (v : State)
    (store : IsStoreWith tabled (undo_cursor k made.lsn ∷ []) s memory) (there : transaction memory number ≡ Some t) (stood : standing t ≡ made ∷ older) where
  is_open : IsOpen s memory t
  is_open = open_found (undo_cursor k made.lsn ∷ []) s memory number t store there

  its_top : IsTop s memory t made older
  its_top = top_is s memory t made older is_open stood

  stop_with : (given : Refusal) → from_outside given ≡ true → CarriesOut told memory.client s (with_read_ended memory k (stops memory given)) result v → Halted tabled from_outside result v
  stop_with given may carries =
      let over = read_ended laws told s memory k made.lsn (stops memory given) result v store carries in
      halted_store from_outside told memory.client over.0 memory given result v may over.1 over.2

  stop_broken : (mid : State) (given : Refusal) → from_outside given ≡ true → IsBrokenStore tabled mid memory
      → CarriesOut told memory.client mid (with_read_ended memory k (stops memory given)) result v → Halted tabled from_outside result v
  stop_broken mid given may broken carries =
      let over = read_ended_broken told mid memory k (stops memory given) result v broken carries in
      halted_broken from_outside told memory.client over.0 memory given result v may over.1 over.2

  held_some : 1 ≤ sectors_held memory.transactions
  held_some =
      let at = placed (is_numbered t.number) memory.transactions t (found_by_its memory number t there) in
      subst (λ (l : List Transaction). 1 ≤ sectors_held l) (sym at.is) (some_held at.before at.after t (some_left t (is_open).few))

  passes : refusal s memory.client (append_call memory t (compensation made) made.undo_next false) ≡ None
  passes =
      append_passes tabled laws s memory (undo_cursor k made.lsn ∷ []) store t (compensation made) made.undo_next false is_open.newest its_top.under held_some
      (lengths t.number (compensation made))

  plan_is : undo_set memory number k made.lsn rest
      ≡ asks (append_call memory t (compensation made) made.undo_next false) (behind_append memory t made k rest)
  plan_is =
      let go : Transaction → Made → Plan Answered = λ x m. asks (append_call memory x (compensation m) m.undo_next false) (behind_append memory x m k rest) in
      ap (λ (o : Option Transaction). option_map_or (λ (x : Transaction). option_map_or (go x) (find (is_at made.lsn) x.made) never) o never) there
      ∙ ap (λ (o : Option Made). option_map_or (go t) o never) its_top.found

  by : (happened : Happened) (reply : Reply) (mid : State) → Step told s memory.client (append_call memory t (compensation made) made.undo_next false) happened reply mid
      → CarriesOut told memory.client mid (behind_append memory t made k rest reply) result v
      → Went told s memory.client (append_call memory t (compensation made) made.undo_next false) reply mid → OneUndo tabled told s t made memory k rest result v
  by happened reply mid step behind (kept takes is same) =
      no_more (stop_with refusals.NoMemory refl
      (same_log told memory.client mid s (with_read_ended memory k (stops memory refusals.NoMemory)) result v same
      (behind_reply told memory.client mid (behind_append memory t made k rest) reply (replies.Refused refusals.NoMemory) result v is behind)))
  by happened reply mid step behind (broke how given outside is same) =
      no_more (stop_broken mid given outside (broken_store s mid memory (undo_cursor k made.lsn ∷ []) store same)
      (behind_reply told memory.client mid (behind_append memory t made k rest) reply (replies.Refused given) result v is behind))
  by happened reply mid step behind (gave comes) =
      let cursors : List Cursor = undo_cursor k made.lsn ∷ [] in
      let lsn : ℕ = next_lsn s (length (txn_bytes (txn_record t.number (compensation made)))) in
      let came = append_came told s memory cursors t (compensation made) made.undo_next false reply mid store comes in
      let add = added laws told s memory cursors t (compensation made) made.undo_next false happened reply mid store (lengths t.number (compensation made)) step came.1 in
      taken mid lsn (grows_by s mid memory cursors (entry_of memory cursors t (compensation made) made.undo_next false lsn) add)
      (undo_store laws s mid memory cursors t made older number lsn false store there stood its_top.logged.cell its_top.held add)
      (behind_reply told memory.client mid (behind_append memory t made k rest) reply (replies.Placed lsn) result v came.0 behind)

  one_undo : CarriesOut told memory.client s (undo_set memory number k made.lsn rest) result v → OneUndo tabled told s t made memory k rest result v
  one_undo carries = start (same_plan told memory.client s _ _ result v plan_is carries)
    where
      start : CarriesOut told memory.client s (asks (append_call memory t (compensation made) made.undo_next false) (behind_append memory t made k rest)) result v
          → OneUndo tabled told s t made memory k rest result v
      start (happened, reply, mid, (step, behind)) =
          by happened reply mid step behind
          (went told s memory.client (append_call memory t (compensation made) made.undo_next false) reply mid passes
          (way told s memory.client (append_call memory t (compensation made) made.undo_next false) happened reply mid store.whole step))

-- ---- one set after the other

-- what comes of a reply to reading on
abbrev behind_next : ℕ → Memory → ℕ → ℕ → (Memory → Plan Answered) → Reply → Plan Answered
behind_next more now number k rest = on_next (λ refusal. with_read_ended now k (stops now refusal)) (λ (entry : LogEntry). undo_from more now number k entry.lsn rest)

more_undone : {tabled : Bool} → (told : Bool) (number : ℕ) (t x : Transaction) (memory mid : Memory) (more : ℕ) (rest : Memory → Plan Answered) (result : Answered) (v : State)
    → mid.client ≡ memory.client → IsUndone number t memory mid x 1 → Undoing tabled told number x mid (suc more) rest result v → Undoing tabled told number t memory (suc (suc more)) rest result v
more_undone {tabled = tabled} told number t x memory mid more rest result v same first (halted h) = halted h
more_undone {tabled = tabled} told number t x memory mid more rest result v same first (came_to u now y store undone client carries) =
    let sum : 1 + suc more ≡ suc (suc more) = omega arith in
    came_to u now y store (subst (λ (n : ℕ). IsUndone number t memory now y n) sum (undone_then number t x y memory mid now 1 (suc more) first undone)) (client ∙ same) carries

pub undoes : {tabled : Bool} → (more : ℕ) → Laws → ((txn : ℕ) (action : Action) → length (txn_bytes (txn_record txn action)) ≡ 24) → (told : Bool) (s : State) (memory : Memory) (k number : ℕ)
    (t : Transaction) (made : Made) (older : List Made) (rest : Memory → Plan Answered) (result : Answered) (v : State)
    → IsStoreWith tabled (undo_cursor k made.lsn ∷ []) s memory → transaction memory number ≡ Some t → standing t ≡ made ∷ older → more ≤ length older
    → CarriesOut told memory.client s (undo_from more memory number k made.lsn rest) result v → Undoing tabled told number t memory (suc more) rest result v
undoes {tabled = tabled} zero laws lengths told s memory k number t made older rest result v store there stood few carries =
    by (one_undo tabled laws lengths told s memory k number t made older (λ now. with_read_ended now k (rest now)) result v store there stood carries)
  where
    by : OneUndo tabled told s t made memory k (λ now. with_read_ended now k (rest now)) result v → Undoing tabled told number t memory 1 rest result v
    by (no_more h) = halted h
    by (taken u lsn grows after carried) =
        let is_open = open_found (undo_cursor k made.lsn ∷ []) s memory number t store there in
        let top = top_is s memory t made older is_open stood in
        let over = read_ended laws told u (with_undone t made lsn memory) k made.lsn (rest (with_undone t made lsn memory)) result v after carried in
        came_to over.0 (with_undone t made lsn memory) (with_one_undone made.lsn lsn t) over.1 (one_undone s u memory number lsn t made older is_open there stood top.held) refl over.2
undoes {tabled = tabled} (suc more) laws lengths told s memory k number t made [] rest result v store there stood few carries = absurd (omega (arith, few))
undoes {tabled = tabled} (suc more) laws lengths told s memory k number t made (second ∷ older) rest result v store there stood few carries =
    by (λ mid now x after there_x stood_x carried. undoes more laws lengths told mid now k number x second older rest result v after there_x stood_x (omega (arith, few)) carried)
    (one_undo tabled laws lengths told s memory k number t made (second ∷ older)
    (λ now. asks (calls.ReadNext now.area k) (behind_next more now number k rest)) result v store there stood carries)
  where
    -- the same from the next set on
    Again : Type 0
    Again = (mid : State) (now : Memory) (x : Transaction) → IsStoreWith tabled (undo_cursor k second.lsn ∷ []) mid now → transaction now number ≡ Some x → standing x ≡ second ∷ older
        → CarriesOut told now.client mid (undo_from more now number k second.lsn rest) result v → Undoing tabled told number x now (suc more) rest result v

    reading : Again → (u : State) (lsn : ℕ) → Grows s u → IsStoreWith tabled (undo_cursor k made.lsn ∷ []) u (with_undone t made lsn memory)
        → (happened : Happened) (reply : Reply) (mid : State) → Step told u memory.client (calls.ReadNext memory.area k) happened reply mid
        → CarriesOut told memory.client mid (behind_next more (with_undone t made lsn memory) number k rest reply) result v → Undoing tabled told number t memory (suc (suc more)) rest result v
    reading again u lsn grows after happened reply mid step behind =
        on (goes_on laws told u now k made.lsn second.lsn logged.at.entry happened reply mid after logged.at.there (logged.linked ∙ top.link) next_top.logged.at step)
      where
        now : Memory
        now = with_undone t made lsn memory

        x : Transaction
        x = with_one_undone made.lsn lsn t

        is_open : IsOpen s memory t
        is_open = open_found (undo_cursor k made.lsn ∷ []) s memory number t store there

        top : IsTop s memory t made (second ∷ older)
        top = top_is s memory t made (second ∷ older) is_open stood

        first : IsUndone number t memory (with_undone t made lsn memory) (with_one_undone made.lsn lsn t) 1
        first = one_undone s u memory number lsn t made (second ∷ older) is_open there stood top.held

        logged : IsInLog u memory.stream made
        logged = in_log_on s u memory.stream made grows top.logged

        stood_x : standing (with_one_undone made.lsn lsn t) ≡ second ∷ older
        stood_x = left_standing t made (second ∷ older) is_open.rise stood

        next_top : IsTop u (with_undone t made lsn memory) (with_one_undone made.lsn lsn t) second older
        next_top = top_is u (with_undone t made lsn memory) (with_one_undone made.lsn lsn t) second older
            (open_found (undo_cursor k made.lsn ∷ []) u (with_undone t made lsn memory) number (with_one_undone made.lsn lsn t) after first.there) stood_x

        stopping : (given : Refusal) → from_outside given ≡ true → mid ≡ u → CarriesOut told memory.client mid (with_read_ended (with_undone t made lsn memory) k (stops (with_undone t made lsn memory) given)) result v
            → Halted tabled from_outside result v
        stopping given may same carried =
            let over = read_ended laws told u (with_undone t made lsn memory) k made.lsn (stops (with_undone t made lsn memory) given) result v after
            (same_log told memory.client mid u (with_read_ended (with_undone t made lsn memory) k (stops (with_undone t made lsn memory) given)) result v same carried) in
            halted_store from_outside told memory.client over.0 (with_undone t made lsn memory) given result v may over.1 over.2

        breaking : (given : Refusal) → from_outside given ≡ true → IsBrokenStore tabled mid (with_undone t made lsn memory)
            → CarriesOut told memory.client mid (with_read_ended (with_undone t made lsn memory) k (stops (with_undone t made lsn memory) given)) result v
            → Halted tabled from_outside result v
        breaking given may broken carried =
            let over = read_ended_broken told mid (with_undone t made lsn memory) k (stops (with_undone t made lsn memory) given) result v broken carried in
            halted_broken from_outside told memory.client over.0 (with_undone t made lsn memory) given result v may over.1 over.2

        not_on : Stopped u reply mid → Undoing tabled told number t memory (suc (suc more)) rest result v
        not_on (left_whole is same) =
            halted (stopping refusals.NoMemory refl same
            (behind_reply told memory.client mid (behind_next more (with_undone t made lsn memory) number k rest) reply (replies.Refused refusals.NoMemory) result v is behind))
        not_on (left_broken given outside is same) =
            halted (breaking given outside (broken_store u mid (with_undone t made lsn memory) (undo_cursor k made.lsn ∷ []) after same)
            (behind_reply told memory.client mid (behind_next more (with_undone t made lsn memory) number k rest) reply (replies.Refused given) result v is behind))

        on : WentOn tabled told u (with_undone t made lsn memory) k second.lsn reply mid → Undoing tabled told number t memory (suc (suc more)) rest result v
        on (not_next how) = not_on how
        on (next read is at store_next) =
            more_undone told number t (with_one_undone made.lsn lsn t) memory (with_undone t made lsn memory) more rest result v refl first
            (again mid (with_undone t made lsn memory) (with_one_undone made.lsn lsn t) store_next first.there stood_x
            (subst (λ (n : ℕ). CarriesOut told memory.client mid (undo_from more (with_undone t made lsn memory) number k n rest) result v) at
            (behind_reply told memory.client mid (behind_next more (with_undone t made lsn memory) number k rest) reply (replies.Next read) result v is behind)))

    by : Again → OneUndo tabled told s t made memory k (λ now. asks (calls.ReadNext now.area k) (behind_next more now number k rest)) result v
        → Undoing tabled told number t memory (suc (suc more)) rest result v
    by again (no_more h) = halted h
    by again (taken u lsn grows after (happened, reply, mid, (step, behind))) = reading again u lsn grows after happened reply mid step behind
