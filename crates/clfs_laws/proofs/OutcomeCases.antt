-- What holds of each outcome that a call can have holds of the one that it has.
use Rattle.clfs_laws.proofs.Words.{Option, Some, None, option_map_or, option_and_then, LogEntry, State, Area, Cursor, area_of, change_area, next_of_cursor}
use Rattle.clfs_laws.proofs.Words.{with_cursor_at, Outcome, outcome, over_area, moved_on}
use Rattle.std.specs.Prelude.{ℕ}
use Rattle.clfs_model.specs.declared.refusal.Refusal.TheVariants as refusals
use Rattle.clfs_model.specs.declared.reply.Reply.TheVariants as replies

-- an outcome of an option
pub of_option : {A : Type 0} (P : Outcome → Type 0) (found : Option A) (f : A → Outcome) (other : Outcome)
    → ((x : A) → P (f x)) → P other → P (option_map_or f found other)
of_option P None f other each none = none
of_option P (Some x) f other each none = each x

-- an outcome over an area, which may be missing
pub of_area : (P : Outcome → Type 0) (s : State) (client number : ℕ) (f : Area → Outcome) → ((area : Area) → P (f area))
    → P (outcome (replies.Refused refusals.NoSuchArea) s) → P (over_area s client number f)
of_area P s client number f each none = of_option P (area_of s client number) f (outcome (replies.Refused refusals.NoSuchArea) s) each none

-- an outcome over a cursor, which may be missing or at its end
pub of_cursor : (P : Outcome → Type 0) (s : State) (area : Area) (number : ℕ) (found : Option Cursor)
    → ((entry : LogEntry) → P (outcome (replies.Next entry) (change_area (with_cursor_at number entry.lsn) area.client area.number s)))
    → P (outcome (replies.Refused refusals.NoSuchCursor) s) → P (moved_on s area number found)
of_cursor P s area number found each none =
    of_option P (option_and_then (next_of_cursor s area) found)
    (λ (entry : LogEntry). outcome (replies.Next entry) (change_area (with_cursor_at number entry.lsn) area.client area.number s))
    (outcome (replies.Refused refusals.NoSuchCursor) s) each none
