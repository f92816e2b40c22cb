-- The entries of a journal with each client's count.
use Rattle.std.specs.Prelude.{◌≡◌, ℕ, ◌<◌, ◌≤◌, ◌^◌, List, length, slice_index, All}
use Rattle.std.specs.List.{sum}
use Rattle.clfs_model.specs.declared.journal.Entry.{Entry}
use Rattle.clfs_model.specs.Journals.{mine}

-- each client's count is the number of its entries
abbrev pub AreCounts : List ℕ → List Entry → Type 0
AreCounts counts entries = (client : ℕ) → client < 65 → slice_index counts client ≡ length (mine entries client)

-- the most calls that a client makes of a log whose journal is told to contracts alone
abbrev pub most_calls : ℕ
most_calls = 2 ^ 57

-- The number of all entries, and each client's count, which is at most that.
pub record IsCounted (count : ℕ) (counts : List ℕ) (entries : List Entry) : Type 0 where
  pub all : count ≡ length entries
  pub each : AreCounts counts entries
  pub few : All (λ n. n ≤ most_calls) counts
  pub together : sum counts ≡ count
