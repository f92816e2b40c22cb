-- What a call of a store does with the log: it asks the log for one thing after the other, each by what was answered before, and ends with
-- a value. The log's part is the log machine's, so one relation says both what is answered and what becomes of the log.
use Rattle.std.specs.Prelude.{◌≡◌, ℕ, zero, suc, Bool, not, ◌&&◌, if◌then◌else◌, Option, Some, None}
use Rattle.clfs_lsn.specs.declared.entry.LogEntry.{LogEntry}
use Rattle.clfs_model.specs.declared.call.Call.{Call}
use Rattle.clfs_model.specs.declared.info.LogInfo.{LogInfo}
use Rattle.clfs_model.specs.declared.refusal.Refusal.{Refusal}
use Rattle.clfs_model.specs.declared.refusal.Refusal.TheVariants as refusals
use Rattle.clfs_model.specs.declared.reply.Reply.{Reply}
use Rattle.clfs_model.specs.declared.reply.Reply.TheVariants as replies
use Rattle.clfs_model.specs.declared.state.State.{State}
use Rattle.clfs_model.specs.declared.reply.Happened.{Happened}
use Rattle.clfs_model.specs.Step.{Step, takes_memory}
use Rattle.clfs_model.specs.Run.{asks, fine_outcome}

-- A plan ends with a value, or makes a call of the log and goes on by the reply. No log gives a reply by which it can't go on.
pub data Plan (A : Type 0) : Type 0 where
  ends : A → Plan A
  calls : Call → (Reply → Plan A) → Plan A
  never : Plan A

-- A client carries the plan out on a log: it ends with this value, and leaves the log so. Each call of the log has one thing that happened.
abbrev pub CarriesOut : {A : Type 0} → Bool → ℕ → State → Plan A → A → State → Type 0
CarriesOut told client log (ends value) result t = (result ≡ value) × (t ≡ log)
CarriesOut told client log (calls call rest) result t =
    (happened : Happened) × (reply : Reply) × (mid : State) × (Step told log client call happened reply mid × CarriesOut told client mid (rest reply) result t)
CarriesOut told client log never result t = ⊥

-- a value with which a plan ended, and the log that it left
pub record Ended (A : Type 0) : Type 0 where
  pub value : A
  pub log : State

-- how a plan ends where nothing happens and memory suffices
abbrev pub fine_end : {A : Type 0} → ℕ → State → Plan A → Option (Ended A)
fine_end client log (ends value) = Some (record { value = value; log = log })
fine_end client log (calls call rest) = let outcome = fine_outcome log (asks client call) in fine_end client outcome.state (rest outcome.reply)
fine_end client log never = None

-- the same where memory runs out once, in the call that so many others go before; it has to be one of a whole log, and to take memory
abbrev pub end_without_memory : {A : Type 0} → ℕ → ℕ → State → Plan A → Option (Ended A)
end_without_memory before client log (ends value) = None
end_without_memory zero client log (calls call rest) =
    if not log.broken && takes_memory call then fine_end client log (rest (replies.Refused refusals.NoMemory)) else None
end_without_memory (suc before) client log (calls call rest) =
    let outcome = fine_outcome log (asks client call) in end_without_memory before client outcome.state (rest outcome.reply)
end_without_memory before client log never = None

-- ---- how plans go on by a reply: a refusal stops them

-- after a record that was appended or a restart area that was written: by its LSN
abbrev pub on_placed : {A : Type 0} → (Refusal → Plan A) → (ℕ → Plan A) → Reply → Plan A
on_placed stop go (replies.Placed lsn) = go lsn
on_placed stop go (replies.Refused refusal) = stop refusal
on_placed stop go _ = never

-- after sectors that an area got or gave back: whatever it holds now
abbrev pub on_held : {A : Type 0} → (Refusal → Plan A) → Plan A → Reply → Plan A
on_held stop go (replies.Held sectors) = go
on_held stop go (replies.Refused refusal) = stop refusal
on_held stop go _ = never

-- after a read that began: by its cursor and the record at which it stands
abbrev pub on_found : {A : Type 0} → (Refusal → Plan A) → (ℕ → LogEntry → Plan A) → Reply → Plan A
on_found stop go (replies.Found cursor entry) = go cursor entry
on_found stop go (replies.Refused refusal) = stop refusal
on_found stop go _ = never

-- after a read that went on: by the record to which it came
abbrev pub on_next : {A : Type 0} → (Refusal → Plan A) → (LogEntry → Plan A) → Reply → Plan A
on_next stop go (replies.Next entry) = go entry
on_next stop go (replies.Refused refusal) = stop refusal
on_next stop go _ = never

-- after a question what a stream is like: by the answer
abbrev pub on_info : {A : Type 0} → (Refusal → Plan A) → (LogInfo → Plan A) → Reply → Plan A
on_info stop go (replies.Info info) = go info
on_info stop go (replies.Refused refusal) = stop refusal
on_info stop go _ = never

-- after a stream that was opened: by its number
abbrev pub on_stream : {A : Type 0} → (Refusal → Plan A) → (ℕ → Plan A) → Reply → Plan A
on_stream stop go (replies.Stream number) = go number
on_stream stop go (replies.Refused refusal) = stop refusal
on_stream stop go _ = never

-- after an area that was made: by its number
abbrev pub on_area : {A : Type 0} → (Refusal → Plan A) → (ℕ → Plan A) → Reply → Plan A
on_area stop go (replies.Area number) = go number
on_area stop go (replies.Refused refusal) = stop refusal
on_area stop go _ = never
