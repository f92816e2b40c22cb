use Rattle.std.proofs.Common.{◌∙◌, ap}
use Rattle.clfs_lsn.specs.Heads.{next_head}
use Rattle.clfs_tables.specs.Tables.{base_in}
use Rattle.clfs_tables.proofs.Kept.{found_in_stream, known_head}
use Rattle.clfs_tables.proofs.tables.Tables.next.Goals as goal

pub returns-in_err-head : goal.returns-in_err-head
returns-in_err-head c =
    let known = c.requires.known in
    absurd (let none = c.in_err-head.ensures ∙ found_in_stream c.args.stream c.args.last c.args.self.now.heads known.0 known.1 known.2 in cc)

pub returns-in-At : goal.returns-in-At
returns-in-At c =
    let heads = c.args.self.now.heads in
    let base = base_in c.args.self.now.streams c.args.stream in
    let known = known_head c.args.stream c.args.last heads c.in_ok-head.head c.requires.known.0 c.in_ok-head.ensures c.requires.known.1 c.requires.known.2 in
    c.live_at.ensures.head ∙ c.in-At.ensures base c.args.stream heads known.1 ∙ ap (λ lsn. next_head base c.args.stream c.args.mode lsn heads) known.0

pub returns-in-Above : goal.returns-in-Above
returns-in-Above c =
    let heads = c.args.self.now.heads in
    let base = base_in c.args.self.now.streams c.args.stream in
    let known = known_head c.args.stream c.args.last heads c.in_ok-head.head c.requires.known.0 c.in_ok-head.ensures c.requires.known.1 c.requires.known.2 in
    c.above-in-Above.ensures ∙ c.in-Above.ensures base c.args.stream heads known.1 ∙ ap (λ lsn. next_head base c.args.stream c.args.mode lsn heads) known.0
