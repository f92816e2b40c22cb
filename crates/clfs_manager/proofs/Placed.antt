-- Where damage is told.
use Rattle.clfs_manager.proofs.Words.{◌≡◌, ℕ, List, length, refl, ap, subst, true, Option, IfErr, Head, LogEntry, Shape, Refusal, Area, State, is_of_call}
use Rattle.clfs_manager.proofs.Words.{area_at, TellsByte, ReadRefusal, refused_as, Reaches, TellsOf}
use Rattle.std.proofs.Common.{Result, Ok, Err}
use Rattle.clfs_model.specs.declared.refusal.Refusal.TheVariants as refusals
use Rattle.clfs_buffers.specs.declared.refusal.ReadRefusal.TheVariants as reads
use Rattle.clfs_manager.specs.Fetching.{TellsWhere}

-- a block was judged by the log's own shape and number of streams
pub told_byte : (s : State) (shape : Shape) (streams lsn : ℕ) (result : Result LogEntry ReadRefusal) → shape ≡ s.shape → streams ≡ length s.streams
    → IfErr result (λ refusal. TellsByte shape streams lsn refusal) → IfErr result (λ refusal. TellsByte s.shape (length s.streams) lsn refusal)
told_byte s shape streams lsn result of_shape of_streams told =
    subst (λ (n : ℕ). IfErr result (λ refusal. TellsByte s.shape n lsn refusal)) of_streams
    (subst (λ (x : Shape). IfErr result (λ refusal. TellsByte x streams lsn refusal)) of_shape told)

-- a refusal to read the record at an LSN tells its block
pub told_block : (s : State) (lsn : ℕ) (refusal : ReadRefusal) → TellsByte s.shape (length s.streams) lsn refusal → TellsOf s lsn (refused_as lsn refusal)
told_block s lsn reads.DiskFault told = tt
told_block s lsn (reads.Damaged at) told = (refl, refl, told)
told_block s lsn reads.NoMemory told = tt

-- and where the call comes to that record, the record of the call
pub told_where : {A : Type 0} (s : State) (areas : List Area) (client number place : ℕ) (head : Head) (record_in : Area → Option LogEntry)
    → Reaches s areas client number place head record_in → (result : Result A Refusal) → IfErr result (λ refusal. TellsOf s head.lsn refusal)
    → IfErr result (λ refusal. TellsWhere s client number record_in refusal)
told_where s areas client number place head record_in reaches (Ok value) told = tt
told_where s areas client number place head record_in reaches (Err (refusals.Damaged container offset at)) told = (
  head.lsn,
  record {
    area = area_at place areas;
    there = reaches.area;
    entry = reaches.entry;
    reached = reaches.reached;
    lsn_is = ap (λ (h : Head). h.lsn) reaches.head_is;
  },
  told,
)
told_where s areas client number place head record_in reaches (Err _) told = tt

-- a refusal of a call's own list is no damage
pub own_where : (s : State) (client number : ℕ) (record_in : Area → Option LogEntry) (refusal : Refusal) → is_of_call refusal ≡ true
    → TellsWhere s client number record_in refusal
own_where s client number record_in (refusals.Damaged container offset at) own = absurd (cc own)
own_where s client number record_in _ own = tt
