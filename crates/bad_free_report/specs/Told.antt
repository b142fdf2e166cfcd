-- What the code hands to be said, as the definitions have it.
use Rattle.std.specs.Prelude.{option_copied, option_map}
use Rattle.bad_free_report.specs.Notice as notice
use Rattle.bad_free_report.specs.Notice.{Notice, Refused, refusal_facts}
use Rattle.bad_free_report.specs.declared.facts.Ending.{Ending}
use Rattle.bad_free_report.specs.declared.facts.Facts.{Facts}
use Rattle.bad_free_report.specs.declared.facts.Limit.{Limit}
use Rattle.bad_free_report.specs.declared.facts.Place.{Place}
use Rattle.bad_free_report.specs.declared.facts.Refused as code
use Rattle.bad_free_report.specs.declared.facts.Spot.{Spot}

abbrev pub told_spot : Spot → notice.Spot
told_spot spot = record { line = spot.line; text = spot.text.now }

abbrev pub ending_of : Ending → notice.Ending
ending_of e = record { core = e.core.now; name = e.name.now; text = e.text.now; known = e.known; how = e.how }

abbrev pub refused_of : code.Refused → Notice
refused_of r =
    Refused r.kind.now (option_copied r.word) (option_copied r.file) (option_map told_spot r.spot) r.status

abbrev pub told_refusal_facts : code.Refused → notice.Facts
told_refusal_facts r =
    refusal_facts r.kind.now (option_copied r.word) (option_copied r.file) (option_map told_spot r.spot) r.status

abbrev pub told_place : Place → notice.Place
told_place p = record { kind = p.kind.now; name = option_copied p.name; func = option_copied p.func; line = p.line; offset = p.offset }

abbrev pub told_limit : Limit → notice.Limit
told_limit l = record { value = l.value; unit = l.unit.now; option = l.option.now }

abbrev pub told_facts : Facts → notice.Facts
told_facts f = record {
  kind = f.kind.now;
  word = option_copied f.word;
  status = f.status;
  own = f.own;
  file = option_copied f.file;
  line = f.line;
  source = option_copied f.source;
  holder = option_map told_place f.holder;
  freed = f.freed;
  help = option_copied f.help;
  limit = option_map told_limit f.limit;
}
