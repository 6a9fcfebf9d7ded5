-- The metrics, in Prometheus' text format: of each two lines that say what it is, and then its values.
use Rattle.std.specs.Prelude.{ℕ, List, ◌++◌, codes, decimal, flat_map}
use Rattle.status_page.specs.Escaping.{label_of}
use Rattle.status_page.specs.Measures.{help_of, kind_of, name_of, value_of}
use Rattle.status_page.specs.declared.measures.Measure.{Measure}
use Rattle.status_page.specs.declared.measures.Measure.TheVariants.{Up, Lasts, Had, Left, Read, Written}
use Rattle.status_page.specs.declared.records.EndpointStatus.{EndpointStatus}
use Rattle.status_page.specs.declared.records.Refused.{Refused}
use Rattle.status_page.specs.declared.records.Status.{Status}

-- the lines before a metric's values
unfoldable pub head_of : (name help kind : List ℕ) → List ℕ
head_of name help kind =
    codes "# HELP " ++ name ++ codes " " ++ help ++ codes "\n# TYPE " ++ name ++ codes " " ++ kind ++ codes "\n"

-- a value, behind a space
unfoldable pub value_line : ℕ → List ℕ
value_line value = codes " " ++ decimal value ++ codes "\n"

-- the value of an endpoint
unfoldable pub sample_of : Measure → EndpointStatus → List ℕ
sample_of measure e =
    name_of measure ++ codes "{endpoint=\"" ++ flat_map label_of e.name
    ++ codes "\",address=\"" ++ flat_map label_of e.address ++ codes "\"}" ++ value_line (value_of measure e)

-- a metric of all endpoints
abbrev pub family_of : Measure → List EndpointStatus → List ℕ
family_of measure endpoints =
    head_of (name_of measure) (help_of measure) (kind_of measure) ++ flat_map (sample_of measure) endpoints

-- how many were refused for a cause
unfoldable pub refused_of : Refused → List ℕ
refused_of refused =
    codes "covisor_refused_total{cause=\"" ++ flat_map label_of refused.cause ++ codes "\"}"
    ++ value_line refused.times

-- a metric that has one value
abbrev pub single_of : (name help : List ℕ) → ℕ → List ℕ
single_of name help value = head_of name help (codes "gauge") ++ name ++ value_line value

-- the metrics of all endpoints
unfoldable pub families_of : List EndpointStatus → List ℕ
families_of endpoints =
    family_of Up endpoints ++ family_of Lasts endpoints ++ family_of Had endpoints
    ++ family_of Left endpoints ++ family_of Read endpoints ++ family_of Written endpoints

-- all metrics
abbrev pub metrics_of : Status → List ℕ
metrics_of s =
    single_of (codes "covisor_start_time_seconds")
    (codes "When the proxy began to serve, in seconds since the start of 1970.") s.began
    ++ families_of s.endpoints
    ++ single_of (codes "covisor_strangers")
    (codes "Connections that have not said yet which switch they are.") s.strangers
    ++ head_of (codes "covisor_refused_total")
    (codes "Connections of strangers that were refused, by cause.") (codes "counter")
    ++ flat_map refused_of s.refused
