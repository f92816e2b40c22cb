-- The session that a type parameter names until a call picks another.
use Rattle.std.specs.Prelude.{false, []}
use Rattle.clfs_turn.specs.Seats.{blank_lock}
use Rattle.clfs_model.specs.State.{log_of}
use Rattle.clfs_shared.specs.Sessions.{SessionState}

-- a session of no lock and of no client, which has seen nothing
abbrev pub unnamed_session : SessionState
unnamed_session = record {
  lock = blank_lock;
  client = 0;
  opening = record {
    state = log_of 1 2 1 1;
    tells_contents = false;
    tells_images = false;
    is_steady = false;
    is_whole = false;
    faults = 0;
    moment = 0;
  };
  seen = [];
}
