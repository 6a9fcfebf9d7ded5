-- The answers over HTTP/1.0.
use Rattle.std.specs.Prelude.{ℕ, List, ◌++◌, codes, decimal, length}
use Rattle.status_page.specs.Metrics.{metrics_of}
use Rattle.status_page.specs.Page.{page_of}
use Rattle.status_page.specs.declared.requests.Request.{Request}
use Rattle.status_page.specs.declared.requests.Request.TheVariants.{Page, Metrics, Absent, Unsuited}
use Rattle.status_page.specs.declared.records.Status.{Status}

-- an answer of this status, with a body of this kind
abbrev pub answered : (status kind body : List ℕ) → List ℕ
answered status kind body =
    codes "HTTP/1.0 " ++ status ++ codes "\r\nContent-Type: " ++ kind ++ codes "\r\nContent-Length: "
    ++ decimal (length body) ++ codes "\r\nCache-Control: no-store\r\nConnection: close\r\n\r\n" ++ body

-- one whose body is a sentence
abbrev pub sentence_answer : (status sentence : List ℕ) → List ℕ
sentence_answer status sentence = answered status (codes "text/plain; charset=utf-8") sentence

-- the answer to what isn't a request
abbrev pub fault_answer : List ℕ
fault_answer = sentence_answer (codes "400 Bad Request") (codes "This is no request of HTTP.\n")

-- the answer to a request
abbrev pub answer_of : Request → Status → List ℕ
answer_of Page s = answered (codes "200 OK") (codes "text/html; charset=utf-8") (page_of s)
answer_of Metrics s = answered (codes "200 OK") (codes "text/plain; version=0.0.4; charset=utf-8") (metrics_of s)
answer_of Absent s = sentence_answer (codes "404 Not Found") (codes "There are / and /metrics here.\n")
answer_of Unsuited s =
    sentence_answer (codes "405 Method Not Allowed\r\nAllow: GET") (codes "Only GET is answered here.\n")
