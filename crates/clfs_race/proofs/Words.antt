-- The words that the proofs here use, passed on from one place. Declares nothing.
pub use Rattle.std.proofs.Common.{[], ap, arith, Bool, drop, Err, false, inl, inr, length, List, None, Ok, refl, slice_set, Some, subst, suc, sym, take, true}
pub use Rattle.std.proofs.Common.{zero, ℕ, ◌++◌, ◌+◌, ◌-◌, ◌<◌, ◌∙◌, ◌∷◌, ◌≡◌, ◌≤◌}
pub use Rattle.std.proofs.lemmas.Bool.{cases_Bool, eqb-true, le-leb, ne_eqb}
pub use Rattle.std.proofs.lemmas.List.{append-nil}
pub use Rattle.std.specs.List.{list_all, onto_first, slice_split}
pub use Rattle.std.specs.Prelude.{IfSome, if◌then◌else◌, nat_le, Option, Result, ◌&&◌, ◌==◌}
pub use Rattle.clfs_model.specs.Accepted.{accepted, ended_lines, race_limits}
pub use Rattle.clfs_model.specs.Conditions.{HasArguments, IsClient}
pub use Rattle.clfs_model.specs.Journals.{ClientScript}
pub use Rattle.clfs_model.specs.Lines.{lines_of, words_of}
pub use Rattle.clfs_model.specs.Run.{reopens, Request}
unfoldable pub use Rattle.clfs_model.specs.Script.{request_in}
pub use Rattle.clfs_model.specs.Script.{allowed_verb, call_line, calls_alone, client_line, client_word, Read, request_behind, request_or_bad, Rest, value_or}
pub use Rattle.clfs_model.specs.Script.{Verb, Word, word, word_at, words_from, ◌>>=◌}
pub use Rattle.clfs_model.specs.declared.call.Call.{Call}
pub use Rattle.hex.specs.Hex.{decode_of}
pub use Rattle.hex.specs.declared.error.FromHexError.{FromHexError}
pub use Rattle.clfs_race.specs.Divided.{IsDivided, IsDividedFurther}
pub use Rattle.clfs_race.specs.Feeds.{HasNoFeed, is_feed}
pub use Rattle.clfs_race.specs.Meets.{Meets}
pub use Rattle.clfs_race.specs.declared.dividing.Division.{Division}
