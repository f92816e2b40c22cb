use Rattle.clfs_recover.proofs.Words.{◌≡◌, ℕ, ◌++◌, ◌∷◌, [], List, Ok, sym, ◌∙◌, ap, subst, arith, take, drop, length, ◌+◌, ◌-◌, record_at, LogEntry}
use Rattle.clfs_recover.proofs.Words.{entry_with, bases_with, raised}
use Rattle.clfs_recover.proofs.Raising.{bases_more, length-bases_with}
use Rattle.clfs_recover.proofs.records.gather_record.Goals as goal

pub returns-clause-exact : goal.returns-clause-exact
returns-clause-exact g c rows before taken =
    let found = c.in_ok-head.ensures.found in
    let bytes = c.args.bytes.now in
    let head = c.in_ok-head.head in
    let streams : c.len-streams.result ≡ length rows = omega (arith, c.len-streams.ensures, ap length taken.moved, length-bases_with rows before) in
    let behind : List ℕ = drop 32 bytes in
    let len_is : 32 + head.len - 32 ≡ head.len = omega arith in
    let same : entry_with head (take (32 + head.len - 32) behind) ≡ found.entry =
    ap (λ (n : ℕ). entry_with head (take n behind)) len_is ∙ sym found.is in
    let stream : found.entry.stream ≡ head.stream = ap (λ (x : LogEntry). x.stream) found.is in
    let base : found.entry.new_base ≡ head.new_base = ap (λ (x : LogEntry). x.new_base) found.is in (
      found.entry,
      subst (λ (n : ℕ). record_at c.args.lsn n bytes ≡ Ok (found.entry, c.in_ok-head.size)) c.len-streams.ensures found.there,
      record {
        records = subst (λ (x : LogEntry). g.G.Gatherer.has c.gather.new.self (before ++ x ∷ [])) same (c.in_ok-gather.ensures before taken.records);
        moved = c.raise_base.ensures ∙ ap (λ (l : List ℕ). raised l head.stream head.new_base) taken.moved
            ∙ ap (λ (k : ℕ). raised (bases_with rows before) k head.new_base) (sym stream)
            ∙ ap (λ (k : ℕ). raised (bases_with rows before) found.entry.stream k) (sym base)
            ∙ bases_more rows before found.entry found.fits.some_stream (omega (arith, found.fits.stream, streams));
      },
    )
