use Rattle.clfs_manager.proofs.Words.{ℕ, ap, sym, ◌∙◌, option_map, head_of, Area, live_at, area_at}
use Rattle.clfs_manager.proofs.Reached.{reaches, live_at_is_live}
use Rattle.clfs_manager.proofs.log.Log.record_to_read.Goals as goal

pub returns-in-None-clause-reaches : goal.returns-in-None-clause-reaches
returns-in-None-clause-reaches c = reaches c.args.self.now.state.value c.args.self.now.areas.areas c.args.client c.args.area c.in_ok-place.place c.in-Some.head
    (λ (here : Area). live_at c.args.self.now.state.value here.stream c.args.lsn) c.in_ok-place.ensures.within
    c.in_ok-place.ensures.there
    (live_at_is_live c.args.self.now.state.value (area_at c.in_ok-place.place c.args.self.now.areas.areas).stream c.args.lsn)
    (ap (λ (stream : ℕ). option_map head_of (live_at c.args.self.now.state.value stream c.args.lsn)) (sym c.area_stream-stream.ensures.value)
    ∙ sym (c.live_at.ensures.state c.args.self.now.state.value (sym c.requires.sound.holds.streams) (sym c.requires.sound.holds.heads)) ∙ c.in-Some.is)
