-- The types of statistics, with their numbers.
use Rattle.std.specs.Prelude.{ℕ, List, [], ◌∷◌, Option, slice_get}
use Rattle.of10_stats.specs.declared.kind.StatsKind.{StatsKind}
use Rattle.of10_stats.specs.declared.kind.StatsKind.TheVariants.{Desc, Flow, Aggregate, Table, Port}
use Rattle.of10_stats.specs.declared.reply.ReplyBody.{ReplyBody}
use Rattle.of10_stats.specs.declared.reply.ReplyBody.TheVariants as bodies
use Rattle.of10_stats.specs.declared.request.StatsRequest.{StatsRequest}
use Rattle.of10_stats.specs.declared.request.StatsRequest.TheVariants as requests

-- the types, by their numbers from 0
abbrev pub kinds : List StatsKind
kinds = Desc ∷ Flow ∷ Aggregate ∷ Table ∷ Port ∷ []

-- the type of a number
abbrev pub kind_at : ℕ → Option StatsKind
kind_at number = slice_get kinds number

-- the number of a type
abbrev pub number_of : StatsKind → ℕ
number_of Desc = 0
number_of Flow = 1
number_of Aggregate = 2
number_of Table = 3
number_of Port = 4

-- how many bytes stand behind the flags of a request
abbrev pub request_length : StatsKind → ℕ
request_length Desc = 0
request_length Flow = 44
request_length Aggregate = 44
request_length Table = 0
request_length Port = 8

-- the type of a request, and of a reply
abbrev pub request_kind : StatsRequest → StatsKind
request_kind requests.Desc = Desc
request_kind (requests.Flow m table_id out_port) = Flow
request_kind (requests.Aggregate m table_id out_port) = Aggregate
request_kind requests.Table = Table
request_kind (requests.Port port_no) = Port

abbrev pub reply_kind : ReplyBody → StatsKind
reply_kind (bodies.Desc texts) = Desc
reply_kind (bodies.Flow entries) = Flow
reply_kind (bodies.Aggregate packets bytes flows) = Aggregate
reply_kind (bodies.Table table_id name wildcards max_entries active lookup matched) = Table
reply_kind (bodies.Port ports) = Port
