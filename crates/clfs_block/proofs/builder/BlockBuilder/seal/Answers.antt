use Rattle.clfs_block.proofs.Words.{◌∷◌, [], ℕ, List, Some, length, drop, ap, sym, ◌∙◌, arith, subst, length-append, sectors, payload_of, SpellsBlock, Building}
use Rattle.clfs_block.proofs.Buildings.{content_size, same_building}
use Rattle.clfs_block.proofs.Gates.{regated}
use Rattle.clfs_block.proofs.builder.BlockBuilder.seal.Goals as goal

pub seal_buffer-requires-clause-container : goal.seal_buffer-requires-clause-container
seal_buffer-requires-clause-container c =
    let used_is = content_size c.self.inside.used c.self.inside.buffer.items c.args.self.now.content c.self.invariant.header (ap
    (λ (b : Building). b.content) c.self.view_is) in
    omega (arith, c.requires.container, ap sectors used_is, c.sectors_of-count.ensures)

pub invariant_of-self : goal.invariant_of-self
invariant_of-self c =
    let sealed = c.seal_buffer.ensures.sealed in
    let size = content_size c.self.inside.used c.self.inside.buffer.items
    (drop 16 (payload_of c.self.inside.used c.self.inside.buffer.items)) c.self.invariant.header
    (λ i. drop 16 (payload_of c.self.inside.used c.self.inside.buffer.items)) in
    record {
      memory = omega (arith, c.self.invariant.memory, c.seal_buffer.ensures.capacity);
      largest = c.self.invariant.largest;
      header = c.self.invariant.header;
      fits = c.self.invariant.fits;
      few = c.self.invariant.few;
      place = omega (arith, ap (λ (l : List ℕ). length l) sealed.1, length-append sealed.0 (0 ∷ []), sealed.2.whole, ap sectors size);
    }

pub returns-clause-sectors : goal.returns-clause-sectors
returns-clause-sectors c =
    let used_is = content_size c.self.inside.used c.self.inside.buffer.items c.args.self.now.content c.self.invariant.header (ap
    (λ (b : Building). b.content) c.self.view_is) in
    c.sectors_of-count.ensures ∙ ap sectors (sym used_is)

pub returns-clause-sealed : goal.returns-clause-sealed
returns-clause-sealed c =
    let sealed = c.seal_buffer.ensures.sealed in
    let content_is = ap (λ (b : Building). b.content) c.self.view_is in
    let records_is = ap (λ (b : Building). b.records) c.self.view_is in
    let spelled : SpellsBlock c.args.start 0 c.args.self.now.records c.args.self.now.content sealed.0 =
    subst (λ (l : List ℕ). SpellsBlock c.args.start 0 c.args.self.now.records l sealed.0) content_is
    (subst (λ (r : ℕ). SpellsBlock c.args.start 0 r (drop 16 (payload_of c.self.inside.used c.self.inside.buffer.items)) sealed.0) records_is sealed.2) in
    record {
      bytes = sealed.0;
      sealed = same_building _ _ (ap (λ (b : Building). b.room) c.self.view_is) records_is
          (c.seal_buffer.ensures.payload ∙ content_is) (ap (λ (l : List ℕ). Some l) sealed.1);
      spelled = spelled;
      opened = regated c.args.start 0 165 c.args.self.now.records c.args.self.now.content sealed.0 spelled;
    }
