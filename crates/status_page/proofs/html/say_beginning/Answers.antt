use Rattle.std.proofs.Common.{◌++◌}
use Rattle.std.specs.Prelude.{codes}
use Rattle.status_page.specs.Page.{beginning}
use Rattle.status_page.proofs.Chains.{join}
use Rattle.status_page.proofs.html.say_beginning.Goals as goal

pub returns : goal.returns
unfolding beginning
returns c =
    (join c.args.text.now ((codes "<!DOCTYPE html>\n<html lang=\"en\">\n<head>\n<meta charset=\"utf-8\">\n") ++ (codes "<meta http-equiv=\"refresh\" content=\"5\">\n<title>CoVisor</title>\n") ++ (codes "<style>\nbody{font:16px/1.4 sans-serif;margin:2em;color:#222}\n") ++ (codes "table{border-collapse:collapse;margin:1em 0}\n") ++ (codes "th,td{padding:.25em .75em;text-align:left;border-bottom:1px solid #ccc}\n") ++ (codes "td.up{color:#06752f}td.waiting{color:#9a6700}td.spent{color:#b3261e}\n")) (codes "</style>\n</head>\n<body>\n<h1>CoVisor</h1>\n")
    (join c.args.text.now ((codes "<!DOCTYPE html>\n<html lang=\"en\">\n<head>\n<meta charset=\"utf-8\">\n") ++ (codes "<meta http-equiv=\"refresh\" content=\"5\">\n<title>CoVisor</title>\n") ++ (codes "<style>\nbody{font:16px/1.4 sans-serif;margin:2em;color:#222}\n") ++ (codes "table{border-collapse:collapse;margin:1em 0}\n") ++ (codes "th,td{padding:.25em .75em;text-align:left;border-bottom:1px solid #ccc}\n")) (codes "td.up{color:#06752f}td.waiting{color:#9a6700}td.spent{color:#b3261e}\n")
    (join c.args.text.now ((codes "<!DOCTYPE html>\n<html lang=\"en\">\n<head>\n<meta charset=\"utf-8\">\n") ++ (codes "<meta http-equiv=\"refresh\" content=\"5\">\n<title>CoVisor</title>\n") ++ (codes "<style>\nbody{font:16px/1.4 sans-serif;margin:2em;color:#222}\n") ++ (codes "table{border-collapse:collapse;margin:1em 0}\n")) (codes "th,td{padding:.25em .75em;text-align:left;border-bottom:1px solid #ccc}\n")
    (join c.args.text.now ((codes "<!DOCTYPE html>\n<html lang=\"en\">\n<head>\n<meta charset=\"utf-8\">\n") ++ (codes "<meta http-equiv=\"refresh\" content=\"5\">\n<title>CoVisor</title>\n") ++ (codes "<style>\nbody{font:16px/1.4 sans-serif;margin:2em;color:#222}\n")) (codes "table{border-collapse:collapse;margin:1em 0}\n")
    (join c.args.text.now ((codes "<!DOCTYPE html>\n<html lang=\"en\">\n<head>\n<meta charset=\"utf-8\">\n") ++ (codes "<meta http-equiv=\"refresh\" content=\"5\">\n<title>CoVisor</title>\n")) (codes "<style>\nbody{font:16px/1.4 sans-serif;margin:2em;color:#222}\n")
    (join c.args.text.now ((codes "<!DOCTYPE html>\n<html lang=\"en\">\n<head>\n<meta charset=\"utf-8\">\n")) (codes "<meta http-equiv=\"refresh\" content=\"5\">\n<title>CoVisor</title>\n")
    c.in_ok-say.ensures
    c.in_ok-say-2.ensures)
    c.in_ok-say-3.ensures)
    c.in_ok-say-4.ensures)
    c.in_ok-say-5.ensures)
    c.in_ok-say-6.ensures)
    c.in_ok-say-7.ensures)
