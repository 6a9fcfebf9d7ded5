-- What a request asks for.
use Rattle.std.specs.Prelude.{ℕ, List, codes, if◌then◌else◌}
use Rattle.std.specs.Str.{bytes_eq}
use Rattle.status_page.specs.declared.requests.Request.{Request}
use Rattle.status_page.specs.declared.requests.Request.TheVariants.{Page, Metrics, Absent, Unsuited}

-- by the method and the target of its head
abbrev pub request_of : (method target : List ℕ) → Request
request_of method target =
    if bytes_eq method (codes "GET")
    then (if bytes_eq target (codes "/") then Page
    else (if bytes_eq target (codes "/metrics") then Metrics else Absent))
    else Unsuited
