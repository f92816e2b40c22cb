-- A log that is made ready for a record: which case of the rule for places comes.
use Rattle.clfs_manager.proofs.Words.{◌≡◌, ℕ, true, false, refl, inl, inr, arith, nat_lt, cases_Bool, cases_lt, lt-ltb, le-ltb, container_of, IsClosed}
use Rattle.clfs_manager.proofs.Words.{IsWithin, joins, begins_here, Place, Shape, turned, State, flush, hold, IsStorable, IsValid, MayTurnTo}
use Rattle.clfs_laws.specs.Between.{MayTurn}
use Rattle.clfs_queue.specs.Queued.{placing}
use Rattle.clfs_queue.specs.declared.placing.Placing.TheVariants.{Joins, BeginsBlock, BeginsContainer}

-- the place after a flush has no open block
pub flushed_closed : (s : State) → IsWithin s.shape s.place → IsClosed (flush s).place
flushed_closed s within = elim (cases_lt 0 s.place.records) [
  | inl some ↦ let t : nat_lt 0 s.place.records ≡ true = lt-ltb 0 s.place.records some in rw t (refl, refl)
  | inr none ↦
      let t : nat_lt 0 s.place.records ≡ false = le-ltb 0 s.place.records none in
      let closed : IsClosed s.place = elim within.block [
        | inl is ↦ is
        | inr open_block ↦ absurd (omega (arith, none, open_block.some_records))
      ] in
      rw t closed
]

-- A log that may turn may do so once it is flushed.
pub may_turn : (s : State) → IsValid s → MayTurn s → IsValid (turned (flush s)) → IsStorable (turned (flush s)) → container_of (hold (flush s)) ≡ container_of (hold s)
    → (flush s).place.container ≡ s.place.container → (flush s).containers ≡ s.containers → MayTurnTo (flush s)
may_turn s valid may turned_valid turned_storable held container containers = record {
  valid = turned_valid;
  storable = turned_storable;
  waiting = refl;
  closed = flushed_closed s valid.ranges.place;
  id = omega (arith, may.id, container);
  unused = omega (arith, may.unused, held, container, containers);
  hold = omega (arith, may.hold, held);
}

pub it_joins : (shape : Shape) (place : Place) (n : ℕ) → placing shape place n ≡ Joins → joins shape place n ≡ true
it_joins shape place n is = elim (cases_Bool (joins shape place n)) [
  | inl join ↦ join
  | inr apart ↦ elim (cases_Bool (begins_here shape place n)) [
    | inl begin ↦ absurd (let wrong = rw (apart, begin) at is in cc wrong)
    | inr beyond ↦ absurd (let wrong = rw (apart, beyond) at is in cc wrong)
  ]
]

pub it_begins : (shape : Shape) (place : Place) (n : ℕ) → placing shape place n ≡ BeginsBlock → (joins shape place n ≡ false) × (begins_here shape place n ≡ true)
it_begins shape place n is = elim (cases_Bool (joins shape place n)) [
  | inl join ↦ absurd (let wrong = rw join at is in cc wrong)
  | inr apart ↦ elim (cases_Bool (begins_here shape place n)) [
    | inl begin ↦ (apart, begin)
    | inr beyond ↦ absurd (let wrong = rw (apart, beyond) at is in cc wrong)
  ]
]

pub it_turns : (shape : Shape) (place : Place) (n : ℕ) → placing shape place n ≡ BeginsContainer → (joins shape place n ≡ false) × (begins_here shape place n ≡ false)
it_turns shape place n is = elim (cases_Bool (joins shape place n)) [
  | inl join ↦ absurd (let wrong = rw join at is in cc wrong)
  | inr apart ↦ elim (cases_Bool (begins_here shape place n)) [
    | inl begin ↦ absurd (let wrong = rw (apart, begin) at is in cc wrong)
    | inr beyond ↦ (apart, beyond)
  ]
]
