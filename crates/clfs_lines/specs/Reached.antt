-- Where the answering of a script stands while its bytes come piece by piece.
use Rattle.std.specs.Prelude.{◌≡◌, ℕ, ◌≤◌, true, List, ◌++◌, length, Option}
use Rattle.std.specs.List.{All, list_all}
use Rattle.std.specs.Io.KnownBytes.{Consumes, Appends, IsAtEnd}
use Rattle.clfs_model.specs.Accepted.{serve_limits}
use Rattle.clfs_race.specs.Feeds.{HasNoFeed}
use Rattle.clfs_lines.specs.Feeds.{with_feeds}
use Rattle.clfs_lines.specs.Taken.{is_short}
use Rattle.clfs_lines.specs.Through.{Answered, AnswersThrough}

-- Of these bytes some lines come first, each with its line feed, and then the rest. The lines were answered, none of them was too long, and all
-- their replies were written.
pub record HasAnswered {A : Type 0} (answers : Answered A) (a : A) (written : Option (List ℕ)) (bytes rest : List ℕ) (b : A) (written_after : Option (List ℕ)) : Type 0 where
  pub lines : List (List ℕ)
  pub split : with_feeds lines ++ rest ≡ bytes
  pub whole : All HasNoFeed lines
  pub short : list_all is_short lines ≡ true
  pub text : List ℕ
  pub answered : AnswersThrough answers a b lines text
  pub replies : Appends written written_after text

-- A script with at most so many bytes was read to its end. All of its lines were answered but for the rest, which has no line feed and isn't too long.
pub record HasAnsweredEnded {A : Type 0} (answers : Answered A) (most : ℕ) (a : A) (left left_after written : Option (List ℕ)) (rest : List ℕ) (b : A) (written_after : Option (List ℕ)) : Type 0 where
  pub script : List ℕ
  pub given : Consumes left left_after script
  pub end : IsAtEnd left_after
  pub few : length script ≤ most
  pub so_far : HasAnswered answers a written script rest b written_after
  pub one : HasNoFeed rest
  pub short : length rest ≤ serve_limits.line
