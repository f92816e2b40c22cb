-- Whether two states, and the values that they have, are the same.
use Rattle.clfs_rows.proofs.Words.{◌≡◌, ℕ, Bool, true, false, refl, ap, List, Option, Decides, LogEntry, Kind, Plain, Restart, Place, Shape, Forward, State}
use Rattle.clfs_rows.proofs.Words.{Stream, Area, Cursor, CursorKind, Records, RestartAreas}
use Rattle.clfs_lsn.specs.declared.cursor.Mode.{Mode}
use Rattle.clfs_lsn.specs.declared.cursor.Mode.TheVariants.{Previous, UndoNext}
use Rattle.clfs_rows.proofs.Decisions.{Decision, like, both, equal, alike, same_lists, same_options, wrong}

abbrev pub same_numbers : (xs ys : List ℕ) → Decision (xs ≡ ys)
same_numbers xs ys = same_lists equal xs ys

abbrev pub same_number_options : (a b : Option ℕ) → Decision (a ≡ b)
same_number_options a b = same_options equal a b

pub apart_kinds : {P : Type 0} → Plain ≡ Restart → P
apart_kinds e = absurd (cc)

pub apart_kinds_back : {P : Type 0} → Restart ≡ Plain → P
apart_kinds_back e = absurd (cc)

abbrev pub same_kinds : (a b : Kind) → Decision (a ≡ b)
same_kinds Plain Plain = (true, (λ _. refl, λ _. refl))
same_kinds Plain Restart = (false, (λ e. wrong e, λ e. apart_kinds e))
same_kinds Restart Plain = (false, (λ e. wrong e, λ e. apart_kinds_back e))
same_kinds Restart Restart = (true, (λ _. refl, λ _. refl))

abbrev entry_with : ℕ → ℕ → Kind → ℕ → ℕ → ℕ → List ℕ → LogEntry
entry_with lsn stream kind previous undo_next new_base bytes = record
    { lsn = lsn; stream = stream; kind = kind; previous = previous; undo_next = undo_next; new_base = new_base; bytes = bytes }

abbrev pub EntryParts : LogEntry → LogEntry → Type 0
EntryParts a b = (a.lsn ≡ b.lsn) × ((a.stream ≡ b.stream) × ((a.kind ≡ b.kind) ×
    ((a.previous ≡ b.previous) × ((a.undo_next ≡ b.undo_next) × ((a.new_base ≡ b.new_base) × (a.bytes ≡ b.bytes))))))

pub entry_of_parts : (a b : LogEntry) → EntryParts a b → a ≡ b
entry_of_parts a b e =
    let whole : entry_with a.lsn a.stream a.kind a.previous a.undo_next a.new_base a.bytes
    ≡ entry_with b.lsn b.stream b.kind b.previous b.undo_next b.new_base b.bytes = cc in
    whole

pub parts_of_entry : (a b : LogEntry) → a ≡ b → EntryParts a b
parts_of_entry a b e = (
  ap (λ (one : LogEntry). one.lsn) e,
  (
    ap (λ (one : LogEntry). one.stream) e,
    (
      ap (λ (one : LogEntry). one.kind) e,
      (
        ap (λ (one : LogEntry). one.previous) e,
        (ap (λ (one : LogEntry). one.undo_next) e, (ap (λ (one : LogEntry). one.new_base) e, ap (λ (one : LogEntry). one.bytes) e)),
      ),
    ),
  ),
)

abbrev pub same_entry : (a b : LogEntry) → Decision (a ≡ b)
same_entry a b = like (entry_of_parts a b) (parts_of_entry a b) (both (equal a.lsn b.lsn)
    (both (equal a.stream b.stream) (both (same_kinds a.kind b.kind)
    (both (equal a.previous b.previous) (both (equal a.undo_next b.undo_next) (both (equal a.new_base b.new_base) (same_numbers a.bytes b.bytes)))))))

abbrev place_with : ℕ → ℕ → ℕ → ℕ → Place
place_with container offset used records = record { container = container; offset = offset; used = used; records = records }

abbrev pub PlaceParts : Place → Place → Type 0
PlaceParts a b = (a.container ≡ b.container) × ((a.offset ≡ b.offset) × ((a.used ≡ b.used) × (a.records ≡ b.records)))

pub place_of_parts : (a b : Place) → PlaceParts a b → a ≡ b
place_of_parts a b e =
    let whole : place_with a.container a.offset a.used a.records ≡ place_with b.container b.offset b.used b.records = cc in
    whole

pub parts_of_place : (a b : Place) → a ≡ b → PlaceParts a b
parts_of_place a b e = (
  ap (λ (one : Place). one.container) e,
  (
    ap (λ (one : Place). one.offset) e,
    (ap (λ (one : Place). one.used) e, ap (λ (one : Place). one.records) e),
  ),
)

abbrev pub same_place : (a b : Place) → Decision (a ≡ b)
same_place a b = like (place_of_parts a b) (parts_of_place a b) (both (equal a.container b.container)
    (both (equal a.offset b.offset) (both (equal a.used b.used) (equal a.records b.records))))

abbrev shape_with : ℕ → ℕ → Shape
shape_with block_sectors container_sectors = record { block_sectors = block_sectors; container_sectors = container_sectors }

abbrev pub ShapeParts : Shape → Shape → Type 0
ShapeParts a b = (a.block_sectors ≡ b.block_sectors) × (a.container_sectors ≡ b.container_sectors)

pub shape_of_parts : (a b : Shape) → ShapeParts a b → a ≡ b
shape_of_parts a b e =
    let whole : shape_with a.block_sectors a.container_sectors ≡ shape_with b.block_sectors b.container_sectors = cc in
    whole

pub parts_of_shape : (a b : Shape) → a ≡ b → ShapeParts a b
parts_of_shape a b e = (ap (λ (one : Shape). one.block_sectors) e, ap (λ (one : Shape). one.container_sectors) e)

abbrev pub same_shape : (a b : Shape) → Decision (a ≡ b)
same_shape a b = like (shape_of_parts a b) (parts_of_shape a b) (both (equal a.block_sectors b.block_sectors)
    (equal a.container_sectors b.container_sectors))

abbrev stream_with : List ℕ → ℕ → Stream
stream_with name base = record { name = name; base = base }

abbrev pub StreamParts : Stream → Stream → Type 0
StreamParts a b = (a.name ≡ b.name) × (a.base ≡ b.base)

pub stream_of_parts : (a b : Stream) → StreamParts a b → a ≡ b
stream_of_parts a b e =
    let whole : stream_with a.name a.base ≡ stream_with b.name b.base = cc in
    whole

pub parts_of_stream : (a b : Stream) → a ≡ b → StreamParts a b
parts_of_stream a b e = (ap (λ (one : Stream). one.name) e, ap (λ (one : Stream). one.base) e)

abbrev pub same_stream : (a b : Stream) → Decision (a ≡ b)
same_stream a b = like (stream_of_parts a b) (parts_of_stream a b) (both (same_numbers a.name b.name) (equal a.base b.base))

-- whether two modes are the same
abbrev pub is_same_mode : Mode → Mode → Bool
is_same_mode Previous Previous = true
is_same_mode UndoNext UndoNext = true
is_same_mode Forward Forward = true
is_same_mode _ _ = false

mode_is_itself : (a : Mode) → is_same_mode a a ≡ true
mode_is_itself Previous = refl
mode_is_itself UndoNext = refl
mode_is_itself Forward = refl

mode_of_test : (a b : Mode) → is_same_mode a b ≡ true → a ≡ b
mode_of_test Previous Previous e = refl
mode_of_test Previous UndoNext e = absurd (cc)
mode_of_test Previous Forward e = absurd (cc)
mode_of_test UndoNext Previous e = absurd (cc)
mode_of_test UndoNext UndoNext e = refl
mode_of_test UndoNext Forward e = absurd (cc)
mode_of_test Forward Previous e = absurd (cc)
mode_of_test Forward UndoNext e = absurd (cc)
mode_of_test Forward Forward e = refl

pub modes_decide : (a b : Mode) → Decides (is_same_mode a b) (a ≡ b)
modes_decide a b = (mode_of_test a b, λ e. rw e (mode_is_itself b))

-- whether two kinds of cursors are the same
abbrev pub is_same_cursor_kind : CursorKind → CursorKind → Bool
is_same_cursor_kind (Records a) (Records b) = is_same_mode a b
is_same_cursor_kind RestartAreas RestartAreas = true
is_same_cursor_kind _ _ = false

cursor_kind_is_itself : (a : CursorKind) → is_same_cursor_kind a a ≡ true
cursor_kind_is_itself (Records mode) = mode_is_itself mode
cursor_kind_is_itself RestartAreas = refl

cursor_kind_of_test : (a b : CursorKind) → is_same_cursor_kind a b ≡ true → a ≡ b
cursor_kind_of_test (Records a) (Records b) e = ap Records (mode_of_test a b e)
cursor_kind_of_test (Records a) RestartAreas e = absurd (cc)
cursor_kind_of_test RestartAreas (Records b) e = absurd (cc)
cursor_kind_of_test RestartAreas RestartAreas e = refl

pub cursor_kinds_decide : (a b : CursorKind) → Decides (is_same_cursor_kind a b) (a ≡ b)
cursor_kinds_decide a b = (cursor_kind_of_test a b, λ e. rw e (cursor_kind_is_itself b))

abbrev pub same_cursor_kind : (a b : CursorKind) → Decision (a ≡ b)
same_cursor_kind a b = (is_same_cursor_kind a b, cursor_kinds_decide a b)

abbrev cursor_with : ℕ → CursorKind → ℕ → Cursor
cursor_with number kind last = record { number = number; kind = kind; last = last }

abbrev pub CursorParts : Cursor → Cursor → Type 0
CursorParts a b = (a.number ≡ b.number) × ((a.kind ≡ b.kind) × (a.last ≡ b.last))

pub cursor_of_parts : (a b : Cursor) → CursorParts a b → a ≡ b
cursor_of_parts a b e =
    let whole : cursor_with a.number a.kind a.last ≡ cursor_with b.number b.kind b.last = cc in
    whole

pub parts_of_cursor : (a b : Cursor) → a ≡ b → CursorParts a b
parts_of_cursor a b e = (ap (λ (one : Cursor). one.number) e, (ap (λ (one : Cursor). one.kind) e, ap (λ (one : Cursor). one.last) e))

abbrev pub same_cursor : (a b : Cursor) → Decision (a ≡ b)
same_cursor a b = like (cursor_of_parts a b) (parts_of_cursor a b) (both (equal a.number b.number)
    (both (same_cursor_kind a.kind b.kind) (equal a.last b.last)))

abbrev area_with : ℕ → ℕ → ℕ → ℕ → ℕ → ℕ → List Cursor → Area
area_with client number stream largest reads held cursors = record {
  client = client;
  number = number;
  stream = stream;
  largest = largest;
  reads = reads;
  held = held;
  cursors = cursors;
}

abbrev pub AreaParts : Area → Area → Type 0
AreaParts a b = (a.client ≡ b.client) × ((a.number ≡ b.number) × ((a.stream ≡ b.stream) ×
    ((a.largest ≡ b.largest) × ((a.reads ≡ b.reads) × ((a.held ≡ b.held) × (a.cursors ≡ b.cursors))))))

pub area_of_parts : (a b : Area) → AreaParts a b → a ≡ b
area_of_parts a b e =
    let whole : area_with a.client a.number a.stream a.largest a.reads a.held a.cursors
    ≡ area_with b.client b.number b.stream b.largest b.reads b.held b.cursors = cc in
    whole

pub parts_of_area : (a b : Area) → a ≡ b → AreaParts a b
parts_of_area a b e = (
  ap (λ (one : Area). one.client) e,
  (
    ap (λ (one : Area). one.number) e,
    (
      ap (λ (one : Area). one.stream) e,
      (
        ap (λ (one : Area). one.largest) e,
        (ap (λ (one : Area). one.reads) e, (ap (λ (one : Area). one.held) e, ap (λ (one : Area). one.cursors) e)),
      ),
    ),
  ),
)

abbrev pub same_area : (a b : Area) → Decision (a ≡ b)
same_area a b = like (area_of_parts a b) (parts_of_area a b) (both (equal a.client b.client)
    (both (equal a.number b.number) (both (equal a.stream b.stream) (both (equal a.largest b.largest)
    (both (equal a.reads b.reads) (both (equal a.held b.held) (same_lists same_cursor a.cursors b.cursors)))))))

abbrev state_with : Shape → Bool → ℕ → ℕ → List Stream → List LogEntry → Place → List ℕ → List Area → Option ℕ → Option ℕ → Option ℕ → Option ℕ → Bool → Bool
    → State
state_with shape dedicated containers buffers streams records place waiting areas archive maximum minimum growth automatic broken = record {
  shape = shape;
  dedicated = dedicated;
  containers = containers;
  buffers = buffers;
  streams = streams;
  records = records;
  place = place;
  waiting = waiting;
  areas = areas;
  archive = archive;
  maximum = maximum;
  minimum = minimum;
  growth = growth;
  automatic = automatic;
  broken = broken;
}

abbrev pub StateParts : State → State → Type 0
StateParts a b = (a.shape ≡ b.shape) × ((a.dedicated ≡ b.dedicated) × ((a.containers ≡ b.containers) ×
    ((a.buffers ≡ b.buffers) × ((a.streams ≡ b.streams) × ((a.records ≡ b.records) ×
    ((a.place ≡ b.place) × ((a.waiting ≡ b.waiting) × ((a.areas ≡ b.areas) ×
    ((a.archive ≡ b.archive) × ((a.maximum ≡ b.maximum) × ((a.minimum ≡ b.minimum) ×
    ((a.growth ≡ b.growth) × ((a.automatic ≡ b.automatic) × (a.broken ≡ b.broken))))))))))))))

pub state_of_parts : (a b : State) → StateParts a b → a ≡ b
state_of_parts a b e =
    let whole : state_with a.shape a.dedicated a.containers a.buffers a.streams a.records a.place a.waiting a.areas a.archive a.maximum a.minimum a.growth a.automatic a.broken ≡ state_with b.shape b.dedicated b.containers b.buffers b.streams b.records b.place b.waiting b.areas b.archive b.maximum b.minimum b.growth b.automatic b.broken = cc in
    whole

pub parts_of_state : (a b : State) → a ≡ b → StateParts a b
parts_of_state a b e = (
  ap (λ (one : State). one.shape) e,
  (
    ap (λ (one : State). one.dedicated) e,
    (
      ap (λ (one : State). one.containers) e,
      (
        ap (λ (one : State). one.buffers) e,
        (
          ap (λ (one : State). one.streams) e,
          (
            ap (λ (one : State). one.records) e,
            (
              ap (λ (one : State). one.place) e,
              (
                ap (λ (one : State). one.waiting) e,
                (
                  ap (λ (one : State). one.areas) e,
                  (
                    ap (λ (one : State). one.archive) e,
                    (
                      ap (λ (one : State). one.maximum) e,
                      (
                        ap (λ (one : State). one.minimum) e,
                        (
                          ap (λ (one : State). one.growth) e,
                          (ap (λ (one : State). one.automatic) e, ap (λ (one : State). one.broken) e),
                        ),
                      ),
                    ),
                  ),
                ),
              ),
            ),
          ),
        ),
      ),
    ),
  ),
)

abbrev pub same_state : (a b : State) → Decision (a ≡ b)
same_state a b = like (state_of_parts a b) (parts_of_state a b) (both (same_shape a.shape b.shape) (both (alike a.dedicated b.dedicated)
    (both (equal a.containers b.containers) (both (equal a.buffers b.buffers)
    (both (same_lists same_stream a.streams b.streams) (both (same_lists same_entry a.records b.records)
    (both (same_place a.place b.place) (both (same_numbers a.waiting b.waiting)
    (both (same_lists same_area a.areas b.areas) (both (same_number_options a.archive b.archive)
    (both (same_number_options a.maximum b.maximum) (both (same_number_options a.minimum b.minimum)
    (both (same_number_options a.growth b.growth) (both (alike a.automatic b.automatic) (alike a.broken b.broken)))))))))))))))
