-- What a line that was read stands for.
use Rattle.std.specs.Prelude.{ℕ}
use Rattle.clfs_model.specs.Conditions.{HasArguments}
use Rattle.clfs_model.specs.Run.{Request, asks, bad_line}
use Rattle.clfs_share.specs.declared.reading.Asked.{Asked}
use Rattle.clfs_share.specs.declared.reading.Asked.TheVariants.{Step, Nothing}

-- what a client asks for
abbrev pub request : ℕ → Asked → Request
request client (Step call) = asks client call
request client (Nothing at) = bad_line at

-- A call that is asked for meets its condition.
abbrev pub MeetsArguments : Asked → Type 0
MeetsArguments (Step call) = HasArguments call
MeetsArguments (Nothing at) = Unit {0}
