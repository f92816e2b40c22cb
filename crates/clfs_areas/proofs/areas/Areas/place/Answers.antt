use Rattle.clfs_areas.proofs.Words.{◌≡◌, ℕ, ◌<◌, ◌∙◌, ap, sym, refl, List, length, Option, Some, None, find, position, option_map, Area, is_area, no_area}
use Rattle.clfs_areas.proofs.Words.{area_at}
use Rattle.std.specs.Prelude.{IfSome}
use Rattle.clfs_areas.proofs.First.{found_first, find_at_place}
use Rattle.clfs_areas.proofs.Named.{place_named, different_areas, named_client, named_number}
use Rattle.clfs_areas.proofs.Parts.{parts_seen}
use Rattle.clfs_areas.proofs.areas.Areas.place.Goals as goal

-- the name stands where the area stands
first : (c : goal.After-place_of) → c.place_of.result ≡ position (is_area c.args.client c.args.number) c.args.self.now.areas
first c =
    let parts = parts_seen c.self.inside c.args.self.now c.self.view_is c.self.invariant in
    c.place_of.ensures
    ∙ place_named c.args.self.now.areas c.self.inside.rows.items c.self.inside.names.keys c.args.client c.args.number c.self.invariant.names_are parts.rows_are

pub returns-clause-first : goal.returns-clause-first
returns-clause-first c = first c

pub returns-clause-within : goal.returns-clause-within
returns-clause-within c = elim c.place_of.result as (λ place. c.place_of.result ≡ place → IfSome place (λ at. at < length c.args.self.now.areas)) [
  | None ↦ λ _. tt
  | Some place ↦ λ is. (found_first (is_area c.args.client c.args.number) c.args.self.now.areas place no_area (sym (first c) ∙ is)).within
] refl

pub returns-clause-area : goal.returns-clause-area
returns-clause-area c = λ s same.
    ap (λ (areas : List Area). find (is_area c.args.client c.args.number) areas) same
    ∙ find_at_place (is_area c.args.client c.args.number) c.args.self.now.areas no_area
    ∙ ap (λ (place : Option ℕ). option_map (λ (at : ℕ). area_at at c.args.self.now.areas) place) (sym (first c))

pub returns-clause-client : goal.returns-clause-client
returns-clause-client c = elim c.place_of.result as (λ place. c.place_of.result ≡ place → IfSome place (λ at. (area_at at c.args.self.now.areas).client ≡ c.args.client)) [
  | None ↦ λ _. tt
  | Some place ↦ λ is. named_client c.args.client c.args.number (area_at place c.args.self.now.areas)
      (found_first (is_area c.args.client c.args.number) c.args.self.now.areas place no_area (sym (first c) ∙ is)).passes
] refl

pub returns-clause-number : goal.returns-clause-number
returns-clause-number c = elim c.place_of.result as (λ place. c.place_of.result ≡ place → IfSome place (λ at. (area_at at c.args.self.now.areas).number ≡ c.args.number)) [
  | None ↦ λ _. tt
  | Some place ↦ λ is. named_number c.args.client c.args.number (area_at place c.args.self.now.areas)
      (found_first (is_area c.args.client c.args.number) c.args.self.now.areas place no_area (sym (first c) ∙ is)).passes
] refl

pub returns-clause-different : goal.returns-clause-different
returns-clause-different c =
    let parts = parts_seen c.self.inside c.args.self.now c.self.view_is c.self.invariant in
    different_areas c.args.self.now.areas c.self.inside.rows.items parts.rows_are c.self.invariant.different
