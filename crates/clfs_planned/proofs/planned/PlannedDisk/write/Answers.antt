use Rattle.std.proofs.Common.{rules, ◌≡◌, ◌∙◌, ◌+◌, ◌<◌, ◌≤◌, ℕ, List, length, set, ap, sym, subst, refl, arith}
use Rattle.clfs_disk.specs.Files.{Unchanged, TornIn, overwritten}
use Rattle.clfs_planned.specs.Contents.{bytes_of, contents_of}
use Rattle.clfs_planned.specs.Moments.{noted}
use Rattle.clfs_planned.specs.Places.{torn_in_written}
use Rattle.clfs_planned.specs.declared.call.Call.TheVariants.{Write}
use Rattle.clfs_planned.proofs.Noted.{last, holds_after, passes_to, written_here}
use Rattle.clfs_planned.proofs.Tables.{change_in_file, change_in_no_file, file_at}
use Rattle.clfs_planned.proofs.planned.PlannedDisk.write.Goals as goal

pub invariant_of-self : goal.invariant_of-self
invariant_of-self c =
    let self = c.args.self.now in
    let same = change_in_no_file bytes_of self.files.items c.args.file c.plan_write.new.contents (omega (arith, self.count))
    c.index_mut-contents.result.now c.index_mut-contents.ensures.value c.plan_write.ensures.same in
    let past : c.plan_write.new.plan.past ≡ self.plan.past = search rules in
    record {
      count = search rules;
      holds = subst (λ p. Unchanged (last p.value).files (contents_of (set self.files.items c.args.file c.plan_write.new.contents))) (sym past)
          (λ file. same file ∙ self.holds file);
    }

pub invariant_of-self-2 : goal.invariant_of-self-2
invariant_of-self-2 c =
    let self = c.args.self.now in
    let call = Write c.args.file c.args.at c.args.bytes.now in
    let lt : c.args.file < length self.files.items = omega (arith, self.count) in
    let fits : c.args.at + length c.args.bytes.now ≤ length (bytes_of c.index_mut-contents.result.now) = search rules in
    let is : c.plan_write.new.plan.past.value ≡ noted call self.plan.past.value = search rules in
    let room = subst (λ (l : List ℕ). c.args.at + length c.args.bytes.now ≤ length l)
    (sym (file_at bytes_of self.files.items c.args.file c.index_mut-contents.result.now lt c.index_mut-contents.ensures.value)) fits in
    let written = change_in_file bytes_of self.files.items c.args.file c.overwrite.new.self lt
    (λ old new. new ≡ overwritten old c.args.at c.args.bytes.now) c.index_mut-contents.result.now c.index_mut-contents.ensures.value
    (c.overwrite.ensures ∙ ap (λ (l : List ℕ). overwritten l c.args.at c.args.bytes.now) c.plan_write.ensures.same) in
    record {
      count = search rules;
      holds = holds_after self.plan.past.value call c.plan_write.new.plan.past.value _ is
          (written_here self.plan.past.value c.args.file c.args.at c.args.bytes.now _ _ self.holds room written);
    }

pub returns-clause-call : goal.returns-clause-call
returns-clause-call c =
    let self = c.args.self.now in
    let call = Write c.args.file c.args.at c.args.bytes.now in
    let lt : c.args.file < length self.files.items = omega (arith, self.count) in
    let fits : c.args.at + length c.args.bytes.now ≤ length (bytes_of c.index_mut-contents.result.now) = search rules in
    let is : c.plan_write.new.plan.past.value ≡ noted call self.plan.past.value = search rules in
    let room = subst (λ (l : List ℕ). c.args.at + length c.args.bytes.now ≤ length l)
    (sym (file_at bytes_of self.files.items c.args.file c.index_mut-contents.result.now lt c.index_mut-contents.ensures.value)) fits in
    let written = change_in_file bytes_of self.files.items c.args.file c.overwrite.new.self lt
    (λ old new. new ≡ overwritten old c.args.at c.args.bytes.now) c.index_mut-contents.result.now c.index_mut-contents.ensures.value
    (c.overwrite.ensures ∙ ap (λ (l : List ℕ). overwritten l c.args.at c.args.bytes.now) c.plan_write.ensures.same) in
    record {
      written = λ told. (room, written);
      torn = torn_in_written c.args.file c.args.at c.args.bytes.now _ _ room written;
      time = passes_to self.plan.past.value call c.plan_write.new.plan.past.value (TornIn c.args.file c.args.at (length c.args.bytes.now)) _ _ _ _ _ _ is refl
          (λ image at. at);
      calls = search rules;
      cause = search rules;
      steady = search rules;
    }
