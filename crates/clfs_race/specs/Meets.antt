-- The conditions of what lines ask for.
use Rattle.clfs_model.specs.Conditions.{MeetsCondition}
use Rattle.clfs_model.specs.Run.{Request, asks}

-- A call that is asked for meets its condition.
abbrev pub Meets : Request → Type 0
Meets (asks client call) = MeetsCondition client call
Meets _ = Unit {0}
