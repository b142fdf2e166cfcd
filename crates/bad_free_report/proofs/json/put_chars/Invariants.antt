use Rattle.std.proofs.Common.{◌≡◌, ◌++◌, ℕ, List, Some}
use Rattle.std.specs.List.{flat_map}
use Rattle.bstr.specs.Utf8.{lossy_chars}
use Rattle.bad_free_report.specs.Json.{escaped}
use Rattle.bad_free_report.proofs.json.put_chars.Given as goal

-- no failure yet, and the characters before those that are left are taken
abbrev pub invariant-chars : goal.invariant-chars
invariant-chars g l = record {
  can_next : (goal.iterator-chars g).can_next l.chars;
  is_finite : (goal.iterator-chars g).is_finite l.chars;
  none_failed : g.E.Sink.faults l.err ≡ g.E.Sink.faults l.fn.err;
  begun : (taken : List ℕ) → g.E.Sink.taken l.fn.err ≡ Some taken →
      (put : List ℕ) × (g.E.Sink.taken l.err ≡ Some (taken ++ put)) × (put ++ flat_map escaped l.chars ≡ flat_map escaped (lossy_chars l.fn.text));
}
