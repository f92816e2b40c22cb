use Rattle.clfs_areas.proofs.Words.{◌≡◌, ℕ, [], ◌∷◌, ◌++◌, ◌∙◌, ap, arith, List, count_by, least_unused, Reservation, without, is_client_row, is_used}
use Rattle.clfs_areas.proofs.Words.{name_in, Inside, AreaName, AreaRow}
use Rattle.clfs_areas.proofs.Clients.{count_of_client, unused_in_state}
use Rattle.clfs_areas.proofs.Made.{with_name, added_goes, ledger_has_none, told_again, joined_again, told_now, joined_now}
use Rattle.clfs_areas.proofs.Parts.{parts_seen}
use Rattle.clfs_areas.proofs.areas.Areas.create.Goals as goal

pub least_unused-number-requires : goal.least_unused-number-requires
least_unused-number-requires c =
    let parts = parts_seen c.self.inside c.args.self.now c.self.view_is c.self.invariant in
    let count = ap (λ (rows : List AreaRow). count_by (is_client_row c.args.client) rows) c.deref.ensures.value
    ∙ count_of_client c.args.self.now.areas c.self.inside.rows.items parts.rows_are c.args.client in
    omega (arith, count, c.requires)

pub add-requires : goal.add-requires
add-requires c =
    ledger_has_none c.self.inside c.args.self.now c.self.view_is c.self.invariant c.args.client c.least_unused-number.result c.deref.result.now c.deref.ensures.value
    c.least_unused-number.ensures

-- the parts where there is no memory for its cursors
abbrev back : goal.After-remove → Inside
back c = record { rows = c.reserve.new.self; names = c.reserve-2.new.self; cursors = c.add_area.new.self; reservations = c.remove.new.self }

gone_again : (c : goal.After-remove) → c.remove.new.self ≡ c.self.inside.reservations
gone_again c =
    c.remove.ensures.rows
    ∙ ap (λ (rows : List Reservation). without rows c.args.client c.least_unused-number.result) c.in_ok-add.ensures.ok
    ∙ added_goes c.self.inside.reservations c.args.client c.least_unused-number.result
    (ledger_has_none c.self.inside c.args.self.now c.self.view_is c.self.invariant c.args.client c.least_unused-number.result c.deref.result.now c.deref.ensures.value
    c.least_unused-number.ensures)

pub invariant_of-self-in-Err : goal.invariant_of-self-in-Err
invariant_of-self-in-Err c =
    joined_again c.self.inside c.args.self.now c.self.view_is c.self.invariant c.args.client (back c) c.reserve.ensures.items c.reserve-2.ensures.keys c.in-Err.ensures.err (gone_again c)

pub returns-in-Err-clause-err : goal.returns-in-Err-clause-err
returns-in-Err-clause-err c =
    told_again c.self.inside c.args.self.now c.self.view_is c.self.invariant c.args.client (back c) c.reserve.ensures.items c.reserve-2.ensures.keys c.in-Err.ensures.err (gone_again c)

-- the new row
abbrev added : goal.After-push_reserved → AreaRow
added c = record {
  client = c.args.client;
  number = c.least_unused-number.result;
  stream = c.args.stream;
  largest = c.args.largest;
  reads = c.args.reads;
}

-- the parts with the new area
abbrev now : goal.After-push_reserved → Inside
now c = record { rows = c.push_reserved.new.self; names = c.insert.new.self; cursors = c.add_area.new.self; reservations = c.add.new.self }

-- the names with that of the new area
names_now : (c : goal.After-push_reserved) → c.insert.new.self.keys ≡ with_name c.self.inside.names.keys (name_in (added c))
names_now c =
    let inserted = rw c.unwrap-added.ensures at c.insert.ensures.keys in
    inserted ∙ ap (λ (names : List AreaName). with_name names (name_in (added c))) c.reserve-2.ensures.keys

pub invariant_of-self-2 : goal.invariant_of-self-2
invariant_of-self-2 c =
    joined_now c.self.inside c.args.self.now c.self.view_is c.self.invariant c.args.client c.least_unused-number.result c.deref.result.now c.deref.ensures.value
    c.least_unused-number.ensures c.args.stream c.args.largest c.args.reads (now c)
    (c.push_reserved.ensures.items ∙ ap (λ (rows : List AreaRow). rows ++ added c ∷ []) c.reserve.ensures.items)
    (names_now c) c.in_default.ensures.areas c.in_ok-add.ensures.ok

pub returns-clause-number : goal.returns-clause-number
returns-clause-number c = λ s same.
    let parts = parts_seen c.self.inside c.args.self.now c.self.view_is c.self.invariant in
    c.least_unused-number.ensures
    ∙ ap (λ (rows : List AreaRow). least_unused (count_by (is_client_row c.args.client) rows) (is_used c.args.client rows)) c.deref.ensures.value
    ∙ unused_in_state c.args.self.now.areas c.self.inside.rows.items parts.rows_are c.args.client s same

pub returns-clause-areas : goal.returns-clause-areas
returns-clause-areas c = λ s same.
    told_now c.self.inside c.args.self.now c.self.view_is c.self.invariant c.args.client c.least_unused-number.result c.deref.result.now c.deref.ensures.value
    c.least_unused-number.ensures c.args.stream c.args.largest c.args.reads (now c)
    (c.push_reserved.ensures.items ∙ ap (λ (rows : List AreaRow). rows ++ added c ∷ []) c.reserve.ensures.items)
    (names_now c) c.in_default.ensures.areas c.in_ok-add.ensures.ok
    ∙ ap (λ (number : ℕ). c.args.self.now.areas ++ record { client = c.args.client; number = number; stream = c.args.stream; largest = c.args.largest; reads = c.args.reads; held = 0; cursors = [] } ∷ [])
    (returns-clause-number c s same)
