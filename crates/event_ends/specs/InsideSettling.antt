-- How doubts are decided in a draft.
use Rattle.machine_meaning.specs.Drafts.{Draft}
use Rattle.machine_meaning.specs.Settling.{decided}
use Rattle.waitings.specs.declared.state.Doubt.{Doubt}

-- a doubt is decided
abbrev pub decided_in : Draft → Doubt → Draft
decided_in d doubt = record d { state = decided d.state doubt }
