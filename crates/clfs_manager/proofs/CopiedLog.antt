-- A base copy that lists the containers from the hold's on: the log on the disk is the flushed part of the state still.
use Rattle.clfs_manager.proofs.Words.{◌≡◌, ℕ, ◌<◌, ◌≤◌, true, false, refl, ap, subst, ◌∙◌, inl, inr, List, [], ◌∷◌, ◌++◌, map, arith, ◌⊎◌, All, Contains}
use Rattle.clfs_manager.proofs.Words.{Option, Some, None, IfSome, filter, nat_le, nat_lt, unwrap_or, ◌==◌, nat_tests, option_to_list, cases_lt, lt-leb}
use Rattle.clfs_manager.proofs.Words.{le-leb, All-map, All-append, All-nil, All-cons, All-weaker, All-contains_itself, lsn_number, container_of, frontier}
use Rattle.clfs_manager.proofs.Words.{LogEntry, BaseImage, IsLaid, State, cut, flushed, IsSame, hold, is_live, live_lsns, least_or, IsValid, Blocks}
use Rattle.clfs_manager.proofs.Words.{AreAllowed, Policies, policy_of, IsLogWith, stored_state, records_from_container, from_container, IsStored, with_policies}
use Rattle.clfs_manager.proofs.Among.{contains_all, here}
use Rattle.clfs_manager.proofs.ClosedPlace.{is_start, starts_at}
use Rattle.clfs_manager.proofs.Holding.{least_from}
use Rattle.clfs_manager.proofs.Numbers.{hold_within, hold_in_place, hold_up_to_end}
use Rattle.clfs_manager.proofs.Reached.{hold_below_live, least_below}

tail_from : (low n other : ℕ) (archive : Option ℕ) (lsns : List ℕ) → n ≡ least_or other (option_to_list archive ++ lsns) → low ≤ n
    → All (λ m. low ≤ m) (option_to_list archive)
tail_from low n other None lsns is from = All-nil (λ m. low ≤ m)
tail_from low n other (Some tail) lsns is from =
    All-cons (λ m. low ≤ m) tail [] (omega (arith, from, is, least_below other tail (tail ∷ lsns) (here tail lsns))) (All-nil (λ m. low ≤ m))

-- the hold of what is on the disk lies in no container below the state's hold's
pub hold_stays : (t : State) (entries : List LogEntry) → container_of (hold t) ≤ container_of (flushed t)
    → ((entry : LogEntry) → Contains entries entry → Contains t.records entry)
    → container_of (hold t) ≤ container_of (hold (record (cut t) { records = entries }))
hold_stays t entries up among =
    let u : State = record (cut t) { records = entries } in
    let low : ℕ = lsn_number (container_of (hold t)) 0 0 in
    let live : All (λ (entry : LogEntry). low ≤ entry.lsn) (filter (is_live u) entries) =
    All-weaker (Contains (filter (is_live u) entries)) (λ (entry : LogEntry). low ≤ entry.lsn)
    (λ entry is. let has = contains_all (is_live u) entries entry is in omega (arith, hold_below_live t entry (among entry has.0) has.1))
    (filter (is_live u) entries) (All-contains_itself (filter (is_live u) entries)) in
    let from : low ≤ hold u = least_from low (frontier u.place) (option_to_list u.archive ++ live_lsns u) (omega (arith, up))
    (All-append (λ m. low ≤ m) (option_to_list u.archive) (live_lsns u)
    (tail_from low (hold t) (frontier t.place) t.archive (live_lsns t) refl (omega arith))
    (All-map (λ m. low ≤ m) (λ (entry : LogEntry). entry.lsn) (filter (is_live u) entries) live)) in
    omega (arith, from)

pub hold_kept : (t : State) (entries : List LogEntry) → IsValid t → ((entry : LogEntry) → Contains entries entry → Contains t.records entry)
    → container_of (hold t) ≤ container_of (hold (record (cut t) { records = entries }))
hold_kept t entries valid among = hold_stays t entries (omega (arith, hold_within t valid, (is_start t valid).container)) among

-- of the flushed part itself
pub hold_of_cut : (t : State) → container_of (hold t) ≤ container_of (flushed t) → container_of (hold t) ≤ container_of (hold (cut t))
hold_of_cut t up = hold_stays t (cut t).records up (λ entry among. (contains_all (λ (e : LogEntry). nat_lt e.lsn (flushed t)) t.records entry among).0)

pub valid_holds : (t : State) → IsValid t → container_of (hold t) ≤ container_of (hold (cut t))
valid_holds t valid = hold_of_cut t (omega (arith, hold_within t valid, (is_start t valid).container))

pub laid_holds : (t : State) → IsLaid t → container_of (hold t) ≤ container_of (hold (cut t))
laid_holds t laid = hold_of_cut t
    (omega (arith, hold_in_place t laid.ranges (hold_up_to_end t laid.records laid.waiting laid.tail), (starts_at t laid.ranges laid.waiting).container))

-- what a test keeps of what a weaker one kept
from_twice : (low high : ℕ) (entries : List LogEntry) → low ≤ high
    → filter (λ (entry : LogEntry). nat_le high entry.lsn) (filter (λ (entry : LogEntry). nat_le low entry.lsn) entries) ≡ filter (λ (entry : LogEntry). nat_le high entry.lsn) entries
from_twice low high [] le = refl
from_twice low high (entry ∷ entries) le =
    let rest = from_twice low high entries le in
    elim (cases_lt entry.lsn low) [
      | inl below ↦
          let isnt : nat_le low entry.lsn ≡ false = lt-leb low entry.lsn below in
          let neither : nat_le high entry.lsn ≡ false = lt-leb high entry.lsn (omega (arith, below, le)) in
          rw (isnt, neither) rest
      | inr from ↦ let is : nat_le low entry.lsn ≡ true = le-leb low entry.lsn from in rw is (first rest (cases_lt entry.lsn high))
    ]
  where
    first : filter (λ (e : LogEntry). nat_le high e.lsn) (filter (λ (e : LogEntry). nat_le low e.lsn) entries) ≡ filter (λ (e : LogEntry). nat_le high e.lsn) entries
        → (entry.lsn < high) ⊎ (high ≤ entry.lsn)
        → filter (λ (e : LogEntry). nat_le high e.lsn) (entry ∷ filter (λ (e : LogEntry). nat_le low e.lsn) entries) ≡ filter (λ (e : LogEntry). nat_le high e.lsn) (entry ∷ entries)
    first rest (inl below) = let isnt : nat_le high entry.lsn ≡ false = lt-leb high entry.lsn below in rw isnt rest
    first rest (inr from) = let is : nat_le high entry.lsn ≡ true = le-leb high entry.lsn from in rw is (ap (λ (es : List LogEntry). entry ∷ es) rest)

-- So a copy with the containers from the hold's on stores the state.
pub copy_stored : (t : State) (slot : ℕ) (image : BaseImage) (blocks : Blocks) (entries : List LogEntry) (first : ℕ)
    → stored_state image (map blocks image.files) entries t.buffers ≡ record (cut t) { records = entries }
    → entries ≡ records_from_container image.first (cut t).records → image.first ≤ first → first ≡ container_of (hold t)
    → IsLogWith (from_container first image) (map blocks (from_container first image).files) (records_from_container first entries)
    → IsSame (stored_state image (map blocks image.files) entries t.buffers)
    (stored_state (from_container first image) (map blocks (from_container first image).files) (records_from_container first entries) t.buffers)
    → IsStored t (record { slot = slot; image = from_container first image }) blocks
copy_stored t slot image blocks entries first state records low is_hold log same = record {
  entries = records_from_container first entries;
  log = log;
  records = ap (records_from_container first) records ∙ from_twice (lsn_number image.first 0 0) (lsn_number first 0 0) (cut t).records (omega (arith, low));
  state = same.others ∙ ap (λ (u : State). record u { records = records_from_container first entries }) state;
  needed = omega (arith, is_hold);
}

-- what is on the disk is among the state's records
pub stored_among : (s : State) (first : ℕ) (entries : List LogEntry) → entries ≡ records_from_container first (cut s).records
    → (entry : LogEntry) → Contains entries entry → Contains s.records entry
stored_among s first entries is entry among =
    let from = contains_all (λ (e : LogEntry). nat_le (lsn_number first 0 0) e.lsn) (cut s).records entry (subst (λ (es : List LogEntry). Contains es entry) is among) in
    (contains_all (λ (e : LogEntry). nat_lt e.lsn (flushed s)) s.records entry from.0).0

-- a copy with these policies, and another turn, of the version that is written
abbrev pub settled : Policies → ℕ → BaseImage → BaseImage
settled policies turn image = record image {
  version = 2;
  turn = turn;
  automatic = policies.automatic;
  maximum = unwrap_or policies.maximum 0;
  minimum = unwrap_or policies.minimum 0;
  growth = unwrap_or policies.growth 0;
}

-- a policy that is stored is read as it was
policy_back : (policy : Option ℕ) → IfSome policy (λ value. 1 ≤ value) → policy_of (unwrap_or policy 0) ≡ policy
policy_back None is = refl
policy_back (Some value) is = let isnt : (value == 0) ≡ false = grind (arith, nat_tests, is) in rw isnt refl

at_least_one : (policy : Option ℕ) (P : ℕ → Type 0) → ((value : ℕ) → P value → 1 ≤ value) → IfSome policy P → IfSome policy (λ value. 1 ≤ value)
at_least_one None P weaker is = tt
at_least_one (Some value) P weaker is = weaker value is

-- Of a state that is stored the policies are changed, in the copy too.
pub policies_stored : (s : State) (slot : ℕ) (image : BaseImage) (blocks : Blocks) (policies : Policies) (turn : ℕ) → image.containers ≡ s.containers → AreAllowed policies
    → (stored : IsStored s (record { slot = slot; image = image }) blocks)
    → IsLogWith (settled policies turn image) (map blocks image.files) stored.entries
    → stored_state (settled policies turn image) (map blocks image.files) stored.entries s.buffers
    ≡ record (stored_state image (map blocks image.files) stored.entries s.buffers) {
      containers = image.containers;
      automatic = policies.automatic;
      maximum = policy_of (unwrap_or policies.maximum 0);
      minimum = policy_of (unwrap_or policies.minimum 0);
      growth = policy_of (unwrap_or policies.growth 0);
    }
    → IsStored (with_policies policies s) (record { slot = slot; image = settled policies turn image }) blocks
policies_stored s slot image blocks policies turn containers allowed stored log state = record {
  entries = stored.entries;
  log = log;
  records = stored.records;
  state = state ∙ ap (λ (u : State). record u {
    containers = image.containers;
    automatic = policies.automatic;
    maximum = policy_of (unwrap_or policies.maximum 0);
    minimum = policy_of (unwrap_or policies.minimum 0);
    growth = policy_of (unwrap_or policies.growth 0);
  }) stored.state
      ∙ ap (λ (n : ℕ). let u : State = record (cut s) {
        records = stored.entries;
        containers = n;
        automatic = policies.automatic;
        maximum = policy_of (unwrap_or policies.maximum 0);
        minimum = policy_of (unwrap_or policies.minimum 0);
        growth = policy_of (unwrap_or policies.growth 0);
      } in u) containers
      ∙ ap (λ (value : Option ℕ). let u : State = record (cut s) {
        records = stored.entries;
        automatic = policies.automatic;
        maximum = value;
        minimum = policy_of (unwrap_or policies.minimum 0);
        growth = policy_of (unwrap_or policies.growth 0);
      } in u) (policy_back policies.maximum (at_least_one policies.maximum _ (λ value is. omega (arith, is.0)) allowed.maximum))
      ∙ ap (λ (value : Option ℕ). let u : State = record (cut s) {
        records = stored.entries;
        automatic = policies.automatic;
        maximum = policies.maximum;
        minimum = value;
        growth = policy_of (unwrap_or policies.growth 0);
      } in u) (policy_back policies.minimum (at_least_one policies.minimum _ (λ value is. omega (arith, is.0)) allowed.minimum))
      ∙ ap (λ (value : Option ℕ). let u : State = record (cut s) {
        records = stored.entries;
        automatic = policies.automatic;
        maximum = policies.maximum;
        minimum = policies.minimum;
        growth = value;
      } in u) (policy_back policies.growth (at_least_one policies.growth _ (λ value is. is.0) allowed.growth));
  needed = stored.needed;
}
