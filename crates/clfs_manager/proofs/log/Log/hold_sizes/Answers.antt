use Rattle.clfs_manager.proofs.Words.{◌≡◌, ℕ, true, false, refl, sym, ap, subst, ◌∙◌, List, length, arith, area_at, all_held, Area, State, hold, hold_sizes}
use Rattle.clfs_manager.proofs.Words.{with_more_held, own_sum, change_area, change_first, is_area, IsStorable, IsValid, ChangesAreas}
use Rattle.std.proofs.Common.{◌==◌}
use Rattle.clfs_manager.proofs.Numbers.{free_is_small}
use Rattle.clfs_manager.proofs.Reserved.{holds_more, sound_after}
use Rattle.clfs_manager.proofs.StillStorable.{storable_held}
use Rattle.clfs_manager.proofs.log.Log.hold_sizes.Goals as goal

pub hold-requires-clause-few : goal.hold-requires-clause-few
hold-requires-clause-few c =
    let s : State = c.args.self.now.state.value in
    let valid = c.requires.sound.valid in
    omega (
      arith,
      ap all_held c.requires.sound.holds.areas,
      valid.space.room,
      c.own_sum-sectors.ensures.few,
      free_is_small s.shape s.place (hold s) s.containers valid.ranges.shape valid.ranges.few_containers,
    )

pub returns-clause-sound : goal.returns-clause-sound
returns-clause-sound c =
    let old = c.args.self.now in
    let s : State = old.state.value in
    let sizes = c.args.sizes.now in
    let sound = c.requires.sound in
    let area : Area = area_at c.args.place old.areas.areas in
    let info = c.area-area.result in
    let sectors = c.own_sum-sectors.result in
    let told : State = c.next-self.result.value in
    let made : told ≡ change_area (with_more_held sectors) area.client area.number s = c.next-self.ensures
    ∙ ap (λ (n : ℕ). change_area (with_more_held sectors) n info.number s) c.area-area.ensures.client
    ∙ ap (λ (n : ℕ). change_area (with_more_held sectors) area.client n s) c.area-area.ensures.number in
    let sum : sectors ≡ own_sum sizes = c.own_sum-sectors.ensures.value ∙ ap own_sum c.as_slice-2.ensures.value in
    let is : told ≡ hold_sizes area sizes s = made ∙ ap (λ (n : ℕ). change_area (with_more_held n) area.client area.number s) sum
    ∙ sym (holds_more area sizes s (λ none.
    let wrong : false ≡ true = c.if-is_empty.ensures ∙ ap (λ (lengths : List ℕ). length lengths == 0) (c.as_slice.ensures.value ∙ none) in cc)) in
    let changes : ChangesAreas old (record old { areas = c.hold.new.self; state = c.next-self.result }) = record {
      state = made ∙ ap (λ (t : State). record s { areas = t.areas }) (sym made);
      areas = c.hold.ensures.areas ∙ ap (λ (areas : List Area). change_first (is_area area.client area.number) (with_more_held sectors) areas) sound.holds.areas
          ∙ sym (ap (λ (t : State). t.areas) made);
      tables = refl;
      archive = refl;
      policies = refl;
      physical = refl;
      queue = refl;
      buffers = refl;
      broken = refl;
    } in
    sound_after old _ sound changes (subst IsValid (sym is) c.requires.valid) (subst IsStorable (sym is) (storable_held s area sizes sound.storable))
