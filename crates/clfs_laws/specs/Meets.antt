-- The conditions of requests.
use Rattle.clfs_model.specs.Conditions.{MeetsCondition}
use Rattle.clfs_model.specs.Run.{Request, asks}

-- a request that is a client's call meets the call's condition; no other request has one
abbrev pub RequestMeets : Request → Type 0
RequestMeets (asks client call) = MeetsCondition client call
RequestMeets request = Unit {0}
