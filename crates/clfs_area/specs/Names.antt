-- The name of a log that a type parameter has until a call picks another.
use Rattle.std.specs.Prelude.{false, []}
use Rattle.clfs_turn.specs.Seats.{blank_lock}
use Rattle.clfs_model.specs.State.{log_of}
use Rattle.clfs_shared.specs.Sessions.{SharedState}

-- a log of no lock and of no clients
abbrev pub unnamed_log : SharedState
unnamed_log = record {
  lock = blank_lock;
  opening = record {
    state = log_of 1 2 1 1;
    tells_contents = false;
    tells_images = false;
    is_steady = false;
    is_whole = false;
    faults = 0;
    moment = 0;
  };
  clients = [];
}
