-- The session's area in the state that its call found: it is there as the session's own entries say.
use Rattle.std.proofs.Common.{◌≡◌, ℕ, Bool, sym, ap, ◌∙◌, List, refl}
use Rattle.std.specs.Prelude.{Option, Some, None}
use Rattle.std.specs.Option.{option_map}
use Rattle.clfs_model.specs.declared.call.Call.{Call}
use Rattle.clfs_model.specs.declared.journal.Entry.{Entry}
use Rattle.clfs_model.specs.declared.reply.Reply.{Reply}
use Rattle.clfs_model.specs.declared.state.Area.{Area}
use Rattle.clfs_model.specs.declared.state.State.{State}
use Rattle.clfs_model.specs.State.{area_of}
use Rattle.clfs_model.specs.Journals.{IsLegal, mine}
use Rattle.clfs_laws.specs.Rows.{AreaRow, row_of, row_in, row_through}
use Rattle.clfs_shared.specs.Sessions.{SessionState, IsStepped}
use Rattle.clfs_area.specs.Areas.{row_by_own}

-- an area that is there with this row
pub record IsThere (s : State) (client number : ℕ) (row : AreaRow) : Type 0 where
  pub area : Area
  pub there : area_of s client number ≡ Some area
  pub largest : area.largest ≡ row.largest
  pub held : area.held ≡ row.held

-- what the laws say of rows in a legal journal
abbrev pub RowsAreOwn : Type 0
RowsAreOwn = (told : Bool) (s t : State) (journal : List Entry) (client number : ℕ) → IsLegal told journal s t
    → row_in t client number ≡ row_through number (row_in s client number) (mine journal client)

some_eq : {x y : AreaRow} → Some x ≡ Some y → x ≡ y
some_eq e = cc e

there_by : (s : State) (client number : ℕ) (row : AreaRow) (found : Option Area) → area_of s client number ≡ found → option_map row_of found ≡ Some row
    → IsThere s client number row
there_by s client number row (Some area) at is = record {
  area = area;
  there = at;
  largest = ap (λ (r : AreaRow). r.largest) (some_eq is);
  held = ap (λ (r : AreaRow). r.held) (some_eq is);
}
there_by s client number row None at is = absurd (cc is)

-- the state that a call found has the area of which the session's own entries tell
pub found_there : RowsAreOwn → (s t : SessionState) (call : Call) (reply : Reply) (number : ℕ) (row : AreaRow) (z : IsStepped s t call reply)
    → row_by_own s number ≡ Some row → IsThere z.found s.client number row
found_there rows s t call reply number row z is =
    there_by z.found s.client number row (area_of z.found s.client number) refl
    (rows s.opening.tells_contents s.opening.state z.found z.before s.client number z.legal
    ∙ (ap (λ (es : List Entry). row_through number (row_in s.opening.state s.client number) es) (sym z.others) ∙ is))
