-- How much of a log is kept in memory.
use Rattle.std.specs.Prelude.{◌≡◌, ℕ, ◌*◌, ◌≤◌, Bool, true, false, Option, None, is_some, IfSome}
use Rattle.clfs_model.specs.declared.state.State.{State}

-- As many are kept as are needed, and at most as many more. There is a number where what is counted is there, and none where the log is broken.
pub record KeepsFew (s : State) (is_there : Bool) (needed : ℕ) (result : Option ℕ) : Type 0 where
  pub there : s.broken ≡ false → is_some result ≡ is_there
  pub all : IfSome result (λ count. needed ≤ count)
  pub few : IfSome result (λ count. count ≤ 2 * needed)
  pub broken : s.broken ≡ true → result ≡ None
