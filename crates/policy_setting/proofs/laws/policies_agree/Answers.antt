use Rattle.policy_setting.specs.OfPolicies.{setting_of}
use Rattle.policy_setting.proofs.laws.policies_agree.Goals as goal

pub returns : goal.returns
returns c = λ p h exprs e tables up sized sound entries installed.
    let s = setting_of p exprs tables up in
    let r = c.policies_are_ready.ensures p h exprs e tables up sized in
    c.agreement.ensures s (c.settings_are_sound.ensures s r.topology sound r.some_hops r.sizes) entries installed
