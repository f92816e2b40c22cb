use Rattle.clfs_manager.proofs.Words.{ap, sym, subst, Err, IsErrOf, LoadRefusal}
use Rattle.clfs_recover.specs.declared.refusal.LoadRefusal.TheVariants as loads
use Rattle.clfs_manager.proofs.Settled.{honest_after}
use Rattle.clfs_manager.proofs.manager.Manager.load_with.Goals as goal

pub returns-in-Ok : goal.returns-in-Ok
returns-in-Ok g c = record {
  loaded = c.in-Ok.ensures.loaded;
  buffers = c.in-Ok.ensures.buffers;
  valid = c.in-Ok.ensures.managed.valid;
  storable = c.in-Ok.ensures.managed.storable;
  stable = c.in-Ok.ensures.stable;
  settled = λ honest. (c.in-Ok.ensures.managed.whole c.in-Ok.ensures.unbroken).settled
      (honest_after (g.D.Disk.state c.args.disk) (g.D.Disk.state c.read_log.new.disk) c.read_log.ensures.time.nature honest);
  refused = tt;
  place = tt;
  same = (c.read_log.ensures.same, c.read_log.ensures.time);
  same_refused = tt;
  cause = tt;
  steady = λ steady. tt;
}

pub returns-in-Err : goal.returns-in-Err
returns-in-Err g c = record {
  loaded = tt;
  buffers = tt;
  valid = tt;
  storable = tt;
  stable = tt;
  settled = tt;
  refused = c.in-Err.ensures.refused;
  place = c.in-Err.ensures.place;
  same = tt;
  same_refused = (c.read_log.ensures.same, c.read_log.ensures.time);
  cause = λ is. c.read_log.ensures.cause (subst (λ r. IsErrOf r loads.DiskFault) (sym c.in-Err.is) (ap (λ (e : LoadRefusal). Err e) is));
  steady = λ steady is. (c.read_log.ensures.steady steady).0 (subst (λ r. IsErrOf r loads.DiskFault) (sym c.in-Err.is) (ap (λ (e : LoadRefusal). Err e) is));
}
