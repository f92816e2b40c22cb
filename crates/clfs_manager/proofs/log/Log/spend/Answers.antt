use Rattle.clfs_manager.proofs.Words.{◌≡◌, ℕ, Bool, true, refl, sym, ap, subst, ◌∙◌, List, area_at, own, Area, State, spend_if, with_less_held, change_area}
use Rattle.clfs_manager.proofs.Words.{change_first, is_area, IsStorable, IsValid, ChangesAreas}
use Rattle.clfs_manager.proofs.Reserved.{sound_after}
use Rattle.clfs_manager.proofs.log.Log.spend.Goals as goal

pub returns-clause-sound : goal.returns-clause-sound
returns-clause-sound c =
    let old = c.args.self.now in
    let s : State = old.state.value in
    let sound = c.requires.sound in
    let area : Area = area_at c.args.place old.areas.areas in
    let info = c.area-area.result in
    let n = c.args.len in
    let told : State = c.spent-self.result.value in
    let made : told ≡ change_area (with_less_held (own n)) area.client area.number s = c.spent-self.ensures
    ∙ ap (λ (k : ℕ). change_area (with_less_held (own n)) k info.number s) c.area-area.ensures.client
    ∙ ap (λ (k : ℕ). change_area (with_less_held (own n)) area.client k s) c.area-area.ensures.number in
    let taken : change_first (is_area area.client area.number) (with_less_held c.own.result) old.areas.areas
    ≡ change_first (is_area area.client area.number) (with_less_held (own n)) s.areas =
    ap (λ (k : ℕ). change_first (is_area area.client area.number) (with_less_held k) old.areas.areas) c.own.ensures
    ∙ ap (λ (areas : List Area). change_first (is_area area.client area.number) (with_less_held (own n)) areas) sound.holds.areas in
    let changes : ChangesAreas old (record old { areas = c.spend.new.self; state = c.spent-self.result }) = record {
      state = made ∙ ap (λ (t : State). record s { areas = t.areas }) (sym made);
      areas = c.spend.ensures.areas ∙ taken ∙ sym (ap (λ (t : State). t.areas) made);
      tables = refl;
      archive = refl;
      policies = refl;
      physical = refl;
      queue = refl;
      buffers = refl;
      broken = refl;
    } in
    let t : c.args.reserved ≡ true = c.if-not-reserved.false in
    sound_after old _ sound changes
    (subst IsValid (sym made) (subst (λ (b : Bool). IsValid (spend_if b area n s)) t c.requires.valid))
    (subst IsStorable (sym made) (subst (λ (b : Bool). IsStorable (spend_if b area n s)) t c.requires.storable))
