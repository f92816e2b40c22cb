use Rattle.clfs_rows.proofs.Words.{arith}
use Rattle.clfs_rows.proofs.names_and_limits.arguments_of_calls.Goals as goal

pub returns : goal.returns
returns c = record {
  least_client = record { least = omega (arith); greatest = omega (arith) };
  greatest_client = record { least = omega (arith); greatest = omega (arith) };
  no_client = λ client. absurd (omega (arith, client.least));
  client_65 = λ client. absurd (omega (arith, client.greatest));
  sixteen_cursors = (omega (arith), omega (arith));
  no_cursor = λ arguments. absurd (omega (arith, arguments.0));
  seventeen_cursors = λ arguments. absurd (omega (arith, arguments.1));
}
