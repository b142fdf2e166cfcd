use Rattle.std.proofs.Common.{◌≡◌, ◌≤◌, map, drop, length}
use Rattle.c_decls.specs.Typed.{plain_typed}
use Rattle.c_typing.proofs.FormatLemmas.{fits}
use Rattle.c_typing.proofs.formats.suits_format.Given as goal

-- what is left decides
abbrev pub invariant-loop-fuel : goal.invariant-loop-fuel
invariant-loop-fuel l = record {
  decides : fits l.fuel l.rest (map plain_typed (drop l.used l.arguments)) ≡ fits (length l.bytes) l.bytes (map plain_typed (drop 1 l.arguments));
  within : l.used ≤ length l.arguments;
}

abbrev pub decreases-loop-fuel : goal.decreases-loop-fuel
decreases-loop-fuel l = l.fuel
