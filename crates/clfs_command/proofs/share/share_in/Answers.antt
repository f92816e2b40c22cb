use Rattle.std.proofs.Common.{◌∙◌, ap, ap₂, sym, List}
use Rattle.std.specs.Prelude.{codes}
use Rattle.std.specs.Option.{option_map}
use Rattle.clap.specs.Matches.{found_of}
use Rattle.clap.proofs.WalkLemmas.{raw_values-rows}
use Rattle.clfs_command.specs.Share.{Asked, Paths, buffers_of, share_with}
use Rattle.clfs_command.proofs.share.share_in.Goals as goal

pub returns-in_default-get_strs-clause-usage : goal.returns-in_default-get_strs-clause-usage
returns-in_default-get_strs-clause-usage c = λ e.
    let found = found_of c.args.matches.now in
    ap₂ share_with (sym (c.in-Some.ensures.buffers ∙ ap buffers_of c.number_of.ensures)) (sym (c.in_default-get_strs.ensures ∙ raw_values-rows found (codes "PATHS")))

pub returns-in-Ok-clause-share : goal.returns-in-Ok-clause-share
returns-in-Ok-clause-share c =
    let found = found_of c.args.matches.now in
    ap₂ share_with (sym (c.in-Some.ensures.buffers ∙ ap buffers_of c.number_of.ensures)) (sym (c.in-Some-get_strs.ensures ∙ raw_values-rows found (codes "PATHS")))
    ∙ ap (option_map (λ (clients : List Paths). let asked : Asked = record { buffers = c.in-Some.write_buffers; clients = clients } in asked)) c.in-Ok.ensures.clients

pub returns-in-Err-clause-usage : goal.returns-in-Err-clause-usage
returns-in-Err-clause-usage c = λ e.
    let found = found_of c.args.matches.now in
    ap₂ share_with (sym (c.in-Some.ensures.buffers ∙ ap buffers_of c.number_of.ensures)) (sym (c.in-Some-get_strs.ensures ∙ raw_values-rows found (codes "PATHS")))
    ∙ ap (option_map (λ (clients : List Paths). let asked : Asked = record { buffers = c.in-Some.write_buffers; clients = clients } in asked)) (c.in-Err.ensures.usage e)
