-- Cursors of one kind, where no number stands twice.
use Rattle.clfs_cursor.proofs.Words.{◌≡◌, ℕ, ◌∙◌, Bool, List, cond, ap, Some, None, ◌==◌, cursor_in, Cursor, HaveDifferentNumbers}
use Rattle.std.proofs.Common.{not}
use Rattle.clfs_lsn.specs.Cursors.{is_over_restarts, record_cursor_in, restart_cursor_in}
use Rattle.clfs_cursor.proofs.Found.{found_with, none_found_with}

module _ (cursors : List Cursor) (number : ℕ) where
  -- where no cursor has the number, none of either kind has
  pub no_record_cursor : cursor_in cursors number ≡ None → record_cursor_in cursors number ≡ None
  no_record_cursor none = none_found_with (λ (cursor : Cursor). cursor.number == number) (λ (cursor : Cursor). not (is_over_restarts cursor.kind)) cursors none

  pub no_restart_cursor : cursor_in cursors number ≡ None → restart_cursor_in cursors number ≡ None
  no_restart_cursor none = none_found_with (λ (cursor : Cursor). cursor.number == number) (λ (cursor : Cursor). is_over_restarts cursor.kind) cursors none

  -- the cursor that has it is of the one kind or the other
  pub record_cursor_is : (cursor : Cursor) (is_over : Bool) → HaveDifferentNumbers cursors → cursor_in cursors number ≡ Some cursor
      → is_over_restarts cursor.kind ≡ is_over → record_cursor_in cursors number ≡ cond (not is_over) (Some cursor) None
  record_cursor_is cursor is_over different found is =
      found_with (λ (c : Cursor). c.number == number) (λ (c : Cursor). not (is_over_restarts c.kind)) cursors cursor (different number) found
      ∙ ap (λ (b : Bool). cond (not b) (Some cursor) None) is

  pub restart_cursor_is : (cursor : Cursor) (is_over : Bool) → HaveDifferentNumbers cursors → cursor_in cursors number ≡ Some cursor
      → is_over_restarts cursor.kind ≡ is_over → restart_cursor_in cursors number ≡ cond is_over (Some cursor) None
  restart_cursor_is cursor is_over different found is =
      found_with (λ (c : Cursor). c.number == number) (λ (c : Cursor). is_over_restarts c.kind) cursors cursor (different number) found
      ∙ ap (λ (b : Bool). cond b (Some cursor) None) is
