-- How the calls of the disk went, as the answer of another function tells it.
use Rattle.clfs_manager.proofs.Words.{◌≡◌, refl, subst, Result, Ok, Err, IsOk, IsErr, BaseImage, DiskState, State, Newest, CallsDisk, Log}
use Rattle.clfs_manager.specs.Storing.{StoresState}

pub calls_fine : {A B E : Type 0} (first : Result A E) (value : B) (image : BaseImage) (old new : DiskState) → IsOk first → CallsDisk first image old new
    → CallsDisk {A = B} {E = E} (Ok value) image old new
calls_fine (Ok done) value image old new fine is =
    record { settled = is.settled; time = is.time; cause = tt; steady = λ calm made. (refl, (is.steady calm made).1) }
calls_fine (Err error) value image old new fine is = absurd (cc fine)

-- the newest copy by another name
pub calls_named : {A E : Type 0} (result : Result A E) (a b : Newest) (old new : DiskState) → a ≡ b → CallsDisk result a.image old new → CallsDisk result b.image old new
calls_named result a b old new same is = subst (λ (n : Newest). CallsDisk result n.image old new) same is

pub calls_failed : {A B E : Type 0} (first : Result A E) (result : Result B E) (image : BaseImage) (old new : DiskState) → IsErr first → IsErr result
    → CallsDisk first image old new → CallsDisk result image old new
calls_failed (Ok done) result image old new failed fails is = absurd (cc failed)
calls_failed {A} {B} {E} (Err error) (Ok done) image old new failed fails is = absurd (cc fails)
calls_failed {A} {B} {E} (Err error) (Err other) image old new failed fails is =
    record { settled = tt; time = is.time; cause = is.cause; steady = λ calm made. absurd (let wrong = (is.steady calm made).0 in cc wrong) }

-- a state that wasn't stored
pub stores_failed : {A B E : Type 0} (first : Result A E) (result : Result B E) (further : State) (old new : DiskState) (before after : Log) → IsErr first → IsErr result
    → StoresState first further old new before after → StoresState result further old new before after
stores_failed (Ok done) result further old new before after failed fails is = absurd (cc failed)
stores_failed {A} {B} {E} (Err error) (Ok done) further old new before after failed fails is = absurd (cc fails)
stores_failed {A} {B} {E} (Err error) (Err other) further old new before after failed fails is = record {
  state = tt;
  holds = tt;
  stored = tt;
  meanwhile = is.meanwhile;
  broken = is.broken;
  calls = calls_failed (Err error) (Err other) before.physical.image old new refl refl is.calls;
}
