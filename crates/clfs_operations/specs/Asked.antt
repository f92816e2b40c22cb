-- What a line that was read stands for.
use Rattle.clfs_model.specs.Run.{Request, asks, reopens, bad_line}
use Rattle.clfs_operations.specs.declared.asking.Asked.{Asked}
use Rattle.clfs_operations.specs.declared.asking.Asked.TheVariants.{Step, Reopen, Nothing}

-- what it asks for
abbrev pub request : Asked → Request
request (Step client call) = asks client call.now
request (Reopen client) = reopens client
request (Nothing at) = bad_line at
