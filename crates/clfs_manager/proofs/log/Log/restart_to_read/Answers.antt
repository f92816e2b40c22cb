use Rattle.clfs_manager.proofs.Words.{ℕ, ap, sym, ◌∙◌, option_map, head_of, Area, newest_restart, area_at}
use Rattle.clfs_manager.proofs.Reached.{reaches, newest_is_live}
use Rattle.clfs_manager.proofs.log.Log.restart_to_read.Goals as goal

pub returns-in-None-clause-reaches : goal.returns-in-None-clause-reaches
returns-in-None-clause-reaches c = reaches c.args.self.now.state.value c.args.self.now.areas.areas c.args.client c.args.area c.in_ok-place.place c.in-Some.head
    (λ (here : Area). newest_restart c.args.self.now.state.value here.stream) c.in_ok-place.ensures.within
    c.in_ok-place.ensures.there
    (newest_is_live c.args.self.now.state.value (area_at c.in_ok-place.place c.args.self.now.areas.areas).stream)
    (ap (λ (stream : ℕ). option_map head_of (newest_restart c.args.self.now.state.value stream)) (sym c.area_stream-stream.ensures.value)
    ∙ sym (c.newest_restart.ensures.state c.args.self.now.state.value (sym c.requires.sound.holds.streams) (sym c.requires.sound.holds.heads)) ∙ c.in-Some.is)
