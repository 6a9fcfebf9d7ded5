use Rattle.match_index.proofs.Places.{place-is}
use Rattle.match_index.proofs.Tops.{top_same}
use Rattle.match_index.proofs.Rising.{ids_same}
use Rattle.match_index.proofs.laws.search_laws.Goals as goal

pub returns : goal.returns
returns c = record { place = place-is; first = top_same; ids = ids_same }
