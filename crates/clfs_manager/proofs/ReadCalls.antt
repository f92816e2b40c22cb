-- The calls that read, as a manager answers them.
use Rattle.clfs_manager.proofs.Words.{◌≡◌, ◌∙◌, ℕ, false, refl, sym, subst, List, Head, LogEntry, Unchanged, DiskState, Passes, MeetsCondition, refusal}
use Rattle.clfs_manager.proofs.Words.{Request, asks, bad_line, IsStorable, IsValid, Call, Refusal, Reply, Area, State, Steps, CrashSurvives, OnlyReads}
use Rattle.clfs_manager.proofs.Words.{Reaches, IsLeft, IsManaged, GetsRecord, Log}
use Rattle.std.proofs.Common.{Option, Some, Result, Err}
use Rattle.clfs_manager.specs.Reading.{AnswersRead, ReadLaws}
use Rattle.clfs_manager.proofs.Placed.{own_where, told_where}
use Rattle.clfs_manager.proofs.ReadKeeps.{none_called, quiet}
use Rattle.clfs_manager.proofs.ReadSteps.{own_is_fine, refused_step}

-- what a crash leaves of a call that changes no file, where a manager stands for this state and disk
abbrev pub Survives : {D : Type 0} → (D → DiskState) → Request → State × D → Type 0
Survives {D} state asked v = (disk : D) → Passes Unchanged (state v.1) (state disk) → CrashSurvives asked v.0 (state v.1) (state disk)

module _ {A D : Type 0} {state : D → DiskState} {client number : ℕ} {call : Call} {reply : A → Reply} {entry_in : A → LogEntry} {record_in : State → Area → Option LogEntry}
    {v w : State × D} (laws : ReadLaws) (view_is : v ≡ w) (whole : v.0.broken ≡ false) (survives : Survives state (asks client call) w)
    (flushed_part : Survives state (bad_line 0) w) where
  -- a call that is refused for what was asked changes nothing
  pub refuses : (first : Refusal) → refusal v.0 client call ≡ Some first → AnswersRead state client number call reply entry_in record_in (Err first) w w
  refuses first is =
      let own = laws.own v.0 client call first is in
      let reads : OnlyReads {A = A} (Err first) (state v.1) (state v.1) = quiet first (state v.1) (own_is_fine first own) in
      subst (λ (x : State × D). AnswersRead state client number call reply entry_in record_in (Err first) x x) view_is (record {
        step = refused_step laws.ways (state v.1).nature.tells_contents v.0 client call first whole is own;
        same = reads.same;
        time = reads.time;
        damage = reads.damage;
        place = own_where v.0 client number (record_in v.0) first own;
        cause = reads.cause;
        steady = reads.steady;
        small = tt;
        moments = subst (Survives state (asks client call)) (sym view_is) survives v.1 reads.time;
        flushed_part = subst (Survives state (bad_line 0)) (sym view_is) flushed_part v.1 reads.time;
        stopped = λ _. refl;
        refused = λ _. refl;
        waits = tt;
        calls_at_most = none_called (state v.1).calls;
      })

  -- any other call comes to its record
  pub comes : {areas : List Area} {place : ℕ} {head : Head} {after : Log} {new : D} (result : Result A Refusal) → Reaches v.0 areas client number place head (record_in v.0)
      → GetsRecord state entry_in v.0 head result after v.1 new → Steps (state v.1).nature.tells_contents v.0 client call reply result after.state.value
      → AnswersRead state client number call reply entry_in record_in result w (after.state.value, new)
  comes {areas} {place} {head} {after} {new} result reaches gets step =
      subst (λ (x : State × D). AnswersRead state client number call reply entry_in record_in result x (after.state.value, new)) view_is (record {
        step = step;
        same = gets.reads.same;
        time = gets.reads.time;
        damage = gets.reads.damage;
        place = told_where v.0 areas client number place head (record_in v.0) reaches result gets.place;
        cause = gets.reads.cause;
        steady = gets.reads.steady;
        small = gets.small;
        moments = subst (Survives state (asks client call)) (sym view_is) survives new gets.reads.time;
        flushed_part = subst (Survives state (bad_line 0)) (sym view_is) flushed_part new gets.reads.time;
        stopped = λ broken. let clash = sym whole ∙ broken in absurd (cc clash);
        refused = gets.refused;
        waits = gets.waits;
        calls_at_most = gets.calls_at_most;
      })

-- what a manager stands for then
pub managed : {A D : Type 0} {state : D → DiskState} {client number : ℕ} {call : Call} {reply : A → Reply} {entry_in : A → LogEntry} {record_in : State → Area → Option LogEntry}
    {result : Result A Refusal} {w : State × D} (after : Log) (new : D) → ReadLaws → MeetsCondition client call → IsValid w.0 → IsStorable w.0
    → AnswersRead state client number call reply entry_in record_in result w (after.state.value, new) → IsLeft (state new) after → IsManaged (state new) after
managed {client = client} {call = call} {w = w} after new laws meets valid storable answers left = record {
  valid = laws.valid _ w.0 client call _ _ after.state.value valid answers.step;
  storable = laws.storable _ w.0 client call _ _ after.state.value valid storable meets answers.step;
  broken = left.broken;
  whole = left.whole;
}
