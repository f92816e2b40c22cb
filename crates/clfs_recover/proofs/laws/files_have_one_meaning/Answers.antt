use Rattle.clfs_recover.proofs.Meanings.{one_finding, some_finding, one_state, not_damaged, not_without_base, no_damage_without_base}
use Rattle.clfs_recover.proofs.laws.files_have_one_meaning.Goals as goal

pub returns : goal.returns
returns c =
    let one = c.open_blocks_are_one_list.ensures.one in record {
      some = some_finding;
      one = one_finding one;
      state = one_state one;
      no_damage = not_damaged one;
      no_base = not_without_base one;
      no_base_no_damage = no_damage_without_base one;
    }
