-- Loading as a whole: a step of its definition, and what the law says of it.
use Rattle.clfs_txn.proofs.Words.{◌≡◌, ℕ, Bool, true, false, refl, sym, subst, ap, ◌∙◌, length, Result, Ok, Err, IfErr, IfOk, IsErrOf, DiskState, Refusal}
use Rattle.clfs_txn.proofs.Words.{State, WritesDisk, TxnLoadRefusal, Log, Loaded, LoadStep, in_table_area, load_area, ends, Memory, LeadsTo, unread}
use Rattle.clfs_model.specs.declared.refusal.Refusal.TheVariants as log_refusals
use Rattle.clfs_cells_laws.specs.Loads.{IsLoaded, IsNotLoaded}
use Rattle.clfs_txn.specs.Loading.{left_by, loaded_of}
use Rattle.clfs_txn.proofs.Leads.{leads_on}
use Rattle.clfs_txn.proofs.Written.{writes_as}

pub load_is : (told : Bool) (client : ℕ) (log t : State) (loaded : Loaded)
    → LeadsTo Loaded told client log (in_table_area (load_area (length log.records) client)) t (ends loaded) → LoadStep told log client loaded t
unfolding LoadStep
load_is told client log t loaded leads = leads.carried loaded t (refl, refl)

pub load_then : (told same : Bool) (client : ℕ) (log mid store t : State) (m n : Memory) (loaded : Loaded) → same ≡ told → m.client ≡ client → n ≡ m → store ≡ mid
    → mid.records ≡ log.records
    → LeadsTo Loaded told client log (in_table_area (load_area (length log.records) client)) mid (load_area (length log.records) client m.area m.stream)
    → LeadsTo Loaded same n.client store (load_area (length store.records) n.client n.area n.stream) t (ends loaded) → LoadStep told log client loaded t
load_then told same client log mid store t m n loaded p q r e records first second =
    let by_tell = subst (λ (b : Bool). LeadsTo Loaded b n.client store (load_area (length store.records) n.client n.area n.stream) t (ends loaded)) p second in
    let by_memory = subst (λ (x : Memory). LeadsTo Loaded told x.client store (load_area (length store.records) x.client x.area x.stream) t (ends loaded)) r by_tell in
    let by_log = subst (λ (x : State). LeadsTo Loaded told m.client x (load_area (length x.records) m.client m.area m.stream) t (ends loaded)) e by_memory in
    let by_count = subst (λ l. LeadsTo Loaded told m.client mid (load_area (length l) m.client m.area m.stream) t (ends loaded)) records by_log in
    let by_name = subst (λ (k : ℕ). LeadsTo Loaded told k mid (load_area (length log.records) k m.area m.stream) t (ends loaded)) q by_count in
    load_is told client log t loaded (leads_on told client log mid t _ _ _ first by_name)

pub so_loaded : {S R : Type 0} (result : Result S R) (memory : S → Memory) (cause : R → TxnLoadRefusal) (of_store : S → State) (of_refused : R → State)
    (told : Bool) (log : State) (client : ℕ) → ((m : Memory) (t : State) → LoadStep told log client (Ok m) t → IsLoaded told log client m t)
    → LoadStep told log client (loaded_of memory cause result) (left_by of_store of_refused result)
    → IfOk result (λ store. IsLoaded told log client (memory store) (of_store store))
so_loaded (Ok store) memory cause of_store of_refused told log client law step = law (memory store) (of_store store) step
so_loaded (Err refused) memory cause of_store of_refused told log client law step = tt

pub so_refused : {S R : Type 0} (result : Result S R) (memory : S → Memory) (cause : R → TxnLoadRefusal) (of_store : S → State) (of_refused : R → State)
    (told : Bool) (log : State) (client : ℕ) → ((c : TxnLoadRefusal) (t : State) → LoadStep told log client (Err c) t → IsNotLoaded told log client c t)
    → LoadStep told log client (loaded_of memory cause result) (left_by of_store of_refused result)
    → IfErr result (λ refused. IsNotLoaded told log client (cause refused) (of_refused refused))
so_refused (Ok store) memory cause of_store of_refused told log client law step = tt
so_refused (Err refused) memory cause of_store of_refused told log client law step = law (cause refused) (of_refused refused) step

-- a load refused as its part was
pub writes_refused : {A : Type 0} (a b : DiskState) (cause : TxnLoadRefusal) → WritesDisk (IsErrOf {T = A} (Err cause) (Log log_refusals.DiskFault)) a b
    → WritesDisk ((cause ≡ Log log_refusals.DiskFault) × (true ≡ true)) a b
writes_refused {A} a b cause writes =
    writes_as _ _ a b (λ f. (let same : cause ≡ Log log_refusals.DiskFault = cc f in same, refl)) (λ f. ap (λ (c : TxnLoadRefusal). Err c) f.0) writes

pub writes_loaded : {A : Type 0} (a b : DiskState) (value : A) → WritesDisk (IsErrOf (Ok value) (Log log_refusals.DiskFault)) a b → WritesDisk (Unit {0} × (false ≡ true)) a b
writes_loaded {A} a b value writes = writes_as _ _ a b (λ f. absurd (cc f)) (λ f. let other = f.1 in absurd (cc other)) writes

-- a load refused as the area's making was
pub writes_not_made : {A : Type 0} (a b : DiskState) (refusal : Refusal) → WritesDisk (IsErrOf {T = A} (Err refusal) log_refusals.DiskFault) a b
    → WritesDisk ((Log refusal ≡ Log log_refusals.DiskFault) × (true ≡ true)) a b
writes_not_made {A} a b refusal writes = writes_as _ _ a b
    (λ f. let same : refusal ≡ log_refusals.DiskFault = cc f in (ap (λ (r : Refusal). Log r) same, refl))
    (λ f. let whole : Log refusal ≡ Log log_refusals.DiskFault = f.0 in let same : refusal ≡ log_refusals.DiskFault = cc whole in ap (λ (r : Refusal). Err r) same) writes

pub unread_by : (client : ℕ) (m n : Memory) → m ≡ unread client m.area m.stream → n ≡ m → n ≡ unread n.client n.area n.stream
unread_by client m n is same =
    subst (λ (x : Memory). x ≡ unread x.client x.area x.stream) (sym same)
    (is ∙ ap (λ (k : ℕ). unread k m.area m.stream) (sym (ap (λ (x : Memory). x.client) is)))
