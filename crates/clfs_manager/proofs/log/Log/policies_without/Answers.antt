use Rattle.clfs_manager.proofs.Words.{◌≡◌, refl, sym, ap, ◌∙◌, inl, inr, cases_Bool, is_installed, Policies}
use Rattle.clfs_policy.specs.Ranges.{is_installed as has_policy}
use Rattle.clfs_manager.proofs.SettingsKeep.{installed_alike}
use Rattle.clfs_manager.proofs.log.Log.policies_without.Goals as goal

pub returns-in-Ok-clause-some : goal.returns-in-Ok-clause-some
returns-in-Ok-clause-some c =
    let s = c.args.self.now.state.value in
    let kind = c.args.kind in
    let alike : is_installed s kind ≡ has_policy c.args.self.now.policies kind =
    installed_alike s kind ∙ ap (λ (p : Policies). has_policy p kind) (sym c.requires.sound.holds.policies) in
    elim (cases_Bool (is_installed s kind)) [
      | inl there ↦ there
      | inr none ↦ absurd (let wrong = c.in-Ok.ensures.refused.1 (sym alike ∙ none) in cc wrong)
    ]

pub returns-in-Err-clause-none : goal.returns-in-Err-clause-none
returns-in-Err-clause-none c =
    let s = c.args.self.now.state.value in
    installed_alike s c.args.kind ∙ ap (λ (p : Policies). has_policy p c.args.kind) (sym c.requires.sound.holds.policies) ∙ c.in-Err.ensures.refused.0 refl
