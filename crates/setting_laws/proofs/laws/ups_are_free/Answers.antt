use Rattle.setting_laws.proofs.Ups.{ups_free}
use Rattle.setting_laws.proofs.laws.ups_are_free.Goals as goal

pub returns : goal.returns
returns c = ups_free
