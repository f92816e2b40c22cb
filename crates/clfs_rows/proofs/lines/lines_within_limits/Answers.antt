use Rattle.clfs_rows.proofs.Words.{refl}
use Rattle.clfs_rows.proofs.lines.lines_within_limits.Goals as goal

pub returns : goal.returns
returns c = record {
  up_to_a_line_that_is_too_long = refl;
  a_carriage_return_counts = refl;
  within_the_most_bytes = refl;
  one_byte_before_a_line_feed = refl;
  the_most_lines = refl;
  not_a_last_line_without_its_line_feed = refl;
  one_byte_more_than_a_line_may_have = refl;
  a_longest_line_and_a_carriage_return = refl;
  a_longest_line = refl;
  ten_thousand_lines = refl;
  ten_thousand_lines_and_one = refl;
  answered_of_them = refl;
  limits_of_serve = refl;
  limits_of_race = refl;
  within = refl;
  too_many_bytes = refl;
  too_many_lines = refl;
  a_last_line_that_is_too_long = refl;
  a_carriage_return_too_many = refl;
}
