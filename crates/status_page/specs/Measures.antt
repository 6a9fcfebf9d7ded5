-- What is measured of each endpoint.
use Rattle.std.specs.Prelude.{ℕ, List, codes}
use Rattle.status_page.specs.declared.measures.Measure.{Measure}
use Rattle.status_page.specs.declared.measures.Measure.TheVariants.{Up, Lasts, Had, Left, Read, Written}
use Rattle.status_page.specs.declared.records.EndpointStatus.{EndpointStatus}
use Rattle.status_page.specs.declared.records.State.{State}
use Rattle.status_page.specs.declared.records.State.TheVariants as states

-- the metric's name
unfoldable pub name_of : Measure → List ℕ
name_of Up = codes "covisor_endpoint_up"
name_of Lasts = codes "covisor_endpoint_connection_seconds"
name_of Had = codes "covisor_endpoint_connections_total"
name_of Left = codes "covisor_endpoint_rounds_left"
name_of Read = codes "covisor_endpoint_read_bytes_total"
name_of Written = codes "covisor_endpoint_written_bytes_total"

-- what it is
unfoldable pub help_of : Measure → List ℕ
help_of Up = codes "Whether the endpoint has a connection (1) or none (0)."
help_of Lasts = codes "How long its present connection has lasted, in seconds."
help_of Had = codes "How many connections it had."
help_of Left = codes "How many more connections it may have."
help_of Read = codes "Bytes read of all its connections."
help_of Written = codes "Bytes written to all its connections."

-- a counter never falls, a gauge may
unfoldable pub kind_of : Measure → List ℕ
kind_of Up = codes "gauge"
kind_of Lasts = codes "gauge"
kind_of Had = codes "counter"
kind_of Left = codes "gauge"
kind_of Read = codes "counter"
kind_of Written = codes "counter"

-- whether there is a connection, 1 or 0
abbrev pub up_of : State → ℕ
up_of (states.Up peer seconds) = 1
up_of states.Waiting = 0
up_of states.Spent = 0

-- how long it has lasted; 0 of none
abbrev pub seconds_of : State → ℕ
seconds_of (states.Up peer seconds) = seconds
seconds_of states.Waiting = 0
seconds_of states.Spent = 0

-- the value at an endpoint
abbrev pub value_of : Measure → EndpointStatus → ℕ
value_of Up e = up_of e.state
value_of Lasts e = seconds_of e.state
value_of Had e = e.had
value_of Left e = e.left
value_of Read e = e.read
value_of Written e = e.written
