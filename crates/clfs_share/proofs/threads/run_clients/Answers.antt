use denote.Exit.{no}
use denote.Param.Send.{arg_send, arg_sync, param_send, param_sync}
use Rattle.clfs_share.proofs.threads.run_clients.Goals as goal

-- the clients are of the log, and their types may go to threads
pub scoped-requires : goal.scoped-requires
scoped-requires g c = record {
  at = λ a. (
    c.requires,
    (
      param_send 1 _ (arg_send _ no _ c.type_bounds.send-D),
      param_send 2 _ (arg_send _ no _ c.type_bounds.send-C),
      param_sync 0 _ (arg_sync _ no _ c.type_bounds.sync-R),
    ),
  );
}
