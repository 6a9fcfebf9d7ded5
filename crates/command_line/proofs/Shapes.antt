-- No argument of a command is global where the command is plain.
use Rattle.std.proofs.Common.{◌≡◌, Bool, true, false, refl}
use Rattle.std.specs.Prelude.{◌&&◌, not}
use Rattle.clap.specs.Words.{app_of}
use Rattle.clap.specs.Walk.{is_empty}
use Rattle.clap.specs.declared.builder.Command.{Command}
use Rattle.clap.specs.declared.builder.Command.TheViews.{out-Command}

third : (a b c d : Bool) → (a && (b && (not c && d))) ≡ true → c ≡ false
third true true false d e = refl
third true true true d e = absurd cc
third true false c d e = absurd cc
third false b c d e = absurd cc

pub own : (c : Command) → (app_of c).top.is_plain ≡ true → (out-Command c).has_globals ≡ false
own c e = third (is_empty (out-Command c).groups.items) (not (out-Command c).allow_external_subcommands)
    (out-Command c).has_globals _ e
