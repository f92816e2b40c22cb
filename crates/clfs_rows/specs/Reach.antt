-- Which lines make a call on the disk, and which may be refused because memory ran out.
use Rattle.std.specs.Prelude.{ℕ, Bool, true, false, List}
use Rattle.clfs_model.specs.declared.state.State.{State}
use Rattle.clfs_model.specs.Step.{takes_memory, calls_disk}
use Rattle.clfs_model.specs.Run.{Request, asks, reopens, bad_line, state_after}
use Rattle.clfs_model.specs.Script.{line_request, script_requests}
use Rattle.clfs_rows.specs.Worked.{worked, Exchange, script_of}

-- whether a request makes a call on the disk
abbrev pub request_reaches_disk : State → Request → Bool
request_reaches_disk s (asks client call) = calls_disk s call
request_reaches_disk s (reopens client) = true
request_reaches_disk s (bad_line at) = false

-- whether a line makes a call on the disk, after these other lines of the log of the rows
abbrev pub reaches_disk : List Exchange → List ℕ → Bool
reaches_disk before line = request_reaches_disk (state_after worked (script_requests (script_of before))) (line_request line)

-- whether out of memory may refuse a request
abbrev pub request_takes_memory : Request → Bool
request_takes_memory (asks client call) = takes_memory call
request_takes_memory (reopens client) = true
request_takes_memory (bad_line at) = false

-- whether out of memory may refuse a line
abbrev pub line_takes_memory : List ℕ → Bool
line_takes_memory line = request_takes_memory (line_request line)
