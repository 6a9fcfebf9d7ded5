-- The page for a person, in HTML.
use Rattle.std.specs.Prelude.{ℕ, List, ◌++◌, ◌/◌, ◌%◌, codes, decimal, flat_map, if◌then◌else◌, nat_lt}
use Rattle.status_page.specs.Escaping.{html_of}
use Rattle.status_page.specs.declared.records.EndpointStatus.{EndpointStatus}
use Rattle.status_page.specs.declared.records.Refused.{Refused}
use Rattle.status_page.specs.declared.records.State.{State}
use Rattle.status_page.specs.declared.records.State.TheVariants.{Up, Waiting, Spent}
use Rattle.status_page.specs.declared.records.Status.{Status}

-- a text in HTML
abbrev pub escaped : List ℕ → List ℕ
escaped text = flat_map html_of text

-- what stands before the first sentence
unfoldable pub beginning : List ℕ
beginning =
    codes "<!DOCTYPE html>\n<html lang=\"en\">\n<head>\n<meta charset=\"utf-8\">\n"
    ++ codes "<meta http-equiv=\"refresh\" content=\"5\">\n<title>CoVisor</title>\n"
    ++ codes "<style>\nbody{font:16px/1.4 sans-serif;margin:2em;color:#222}\n"
    ++ codes "table{border-collapse:collapse;margin:1em 0}\n"
    ++ codes "th,td{padding:.25em .75em;text-align:left;border-bottom:1px solid #ccc}\n"
    ++ codes "td.up{color:#06752f}td.waiting{color:#9a6700}td.spent{color:#b3261e}\n"
    ++ codes "</style>\n</head>\n<body>\n<h1>CoVisor</h1>\n"

-- the heads of the columns
unfoldable pub heads : List ℕ
heads =
    codes "<table>\n<tr><th>Endpoint</th><th>Address</th><th>State</th><th>Peer</th><th>For</th>"
    ++ codes "<th>Connections</th><th>Rounds left</th><th>Bytes read</th><th>Bytes written</th></tr>\n"

-- a number by two digits at least
abbrev pub two : ℕ → List ℕ
two n = if nat_lt n 10 then (codes "0" ++ decimal n) else decimal n

-- hours, minutes and seconds
abbrev pub duration : ℕ → List ℕ
duration seconds =
    decimal (seconds / 3600) ++ codes ":" ++ two (seconds / 60 % 60) ++ codes ":" ++ two (seconds % 60)

-- a cell of a table
abbrev pub cell : List ℕ → List ℕ
cell held = codes "<td>" ++ held ++ codes "</td>"

-- one with a number
abbrev pub number_cell : ℕ → List ℕ
number_cell n = cell (decimal n)

-- how an endpoint is: a word, with whom it is connected, and for how long
abbrev pub state_cells : State → List ℕ
state_cells (Up peer seconds) = codes "<td class=\"up\">up</td>" ++ cell (escaped peer) ++ cell (duration seconds)
state_cells Waiting = codes "<td class=\"waiting\">waiting</td><td></td><td></td>"
state_cells Spent = codes "<td class=\"spent\">spent</td><td></td><td></td>"

-- the row of an endpoint
abbrev pub row_of : EndpointStatus → List ℕ
row_of e =
    codes "<tr>" ++ cell (escaped e.name) ++ cell (escaped e.address) ++ state_cells e.state
    ++ number_cell e.had ++ number_cell e.left ++ number_cell e.read ++ number_cell e.written ++ codes "</tr>\n"

-- the row of those that were refused for a cause
abbrev pub reason_of : Refused → List ℕ
reason_of refused = codes "<tr>" ++ cell (escaped refused.cause) ++ number_cell refused.times ++ codes "</tr>\n"

-- the page
abbrev pub page_of : Status → List ℕ
page_of s =
    beginning ++ codes "<p>It has served for " ++ duration s.seconds ++ codes " (hours, minutes, seconds).</p>\n"
    ++ heads ++ flat_map row_of s.endpoints ++ codes "</table>\n<p>" ++ decimal s.strangers
    ++ codes " connections have not said yet which switch they are. Refused so far:</p>\n"
    ++ codes "<table>\n<tr><th>Cause</th><th>Connections</th></tr>\n"
    ++ flat_map reason_of s.refused ++ codes "</table>\n</body>\n</html>\n"
