-- What is said of an end in three parts: before its leaks, each leak, and behind them.
use Rattle.std.specs.Prelude.{◌≡◌, ℕ, Bool, true, false, List, [], ◌∷◌, ◌++◌, Option, codes, decimal}
use Rattle.hs_base.specs.declared.ends.Leak.{Leak}
use Rattle.bad_free_report.specs.declared.explanation.Freed.{Freed}
use Rattle.bad_free_report.specs.declared.form.Form.{Form}
use Rattle.bad_free_report.specs.declared.form.Form.TheVariants as form
use Rattle.bad_free_report.specs.Json.{Truth, comma_if, number_or_null, quoted, text_or_null, written}
use Rattle.bad_free_report.specs.Notice.{Ended, Ending, Facts, Limit, Place, end_lines, facts_of, freed_json, leak_json, limit_json, place_json, said}
use Rattle.bad_free_report.specs.Report.{leak_text}

-- the members of an object that say what happened and where, up to the first holder
abbrev pub members_before : Facts → List ℕ
members_before f =
    codes "{\"kind\":" ++ (quoted f.kind
    ++ (codes ",\"word\":" ++ (written (text_or_null f.word)
    ++ (codes ",\"status\":" ++ (decimal f.status
    ++ (codes ",\"own\":" ++ (written (Truth f.own)
    ++ (codes ",\"file\":" ++ (written (text_or_null f.file)
    ++ (codes ",\"line\":" ++ (written (number_or_null f.line)
    ++ (codes ",\"source\":" ++ (written (text_or_null f.source)
    ++ codes ",\"holder\":")))))))))))))

-- that holder, what was freed, what to mend, and the limit, each up to what follows
abbrev pub place_text : Option Place → List ℕ
place_text place = written (place_json place) ++ codes ",\"freed\":"

abbrev pub freed_text : Option Freed → List ℕ
freed_text freed = written (freed_json freed) ++ codes ",\"help\":"

abbrev pub help_text : Option (List ℕ) → List ℕ
help_text help = written (text_or_null help) ++ codes ",\"limit\":"

abbrev pub limit_text : Option Limit → List ℕ
limit_text limit = written (limit_json limit) ++ codes ",\"leaks\":["

-- an object up to its leaks
abbrev pub front : Facts → List ℕ
front f =
    members_before f ++ (place_text f.holder ++ (freed_text f.freed ++ (help_text f.help ++ limit_text f.limit)))

abbrev pub before_leaks : Form → Ending → ℕ → List ℕ
before_leaks form.Lines e status = end_lines e
before_leaks form.Json e status = front (facts_of e status)

-- a leak, which follows others or not
abbrev pub leak_said : Form → Bool → Leak → List ℕ
leak_said form.Lines later leak = leak_text leak
leak_said form.Json later leak = comma_if later ++ written (leak_json leak)

abbrev pub leaks_said : Form → Bool → List Leak → List ℕ
leaks_said f later [] = []
leaks_said f later (leak ∷ rest) = leak_said f later leak ++ leaks_said f true rest

abbrev pub behind_leaks : Form → List ℕ
behind_leaks form.Lines = []
behind_leaks form.Json = codes "]}\n"

-- all that is said of an end is these parts, one behind the other
abbrev pub AreParts : Type 0
AreParts =
    (f : Form) (e : Ending) (leaks : List Leak) (status : ℕ) →
    said f (Ended e leaks status) ≡ before_leaks f e status ++ (leaks_said f false leaks ++ behind_leaks f)
