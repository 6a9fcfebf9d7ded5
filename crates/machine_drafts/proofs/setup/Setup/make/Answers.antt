use Rattle.machine_drafts.proofs.setup.Setup.make.Goals as goal

pub invariant_of-setup : goal.invariant_of-setup
invariant_of-setup c = c.in_ok-found.ensures
