use Rattle.std.proofs.Common.{◌≡◌, ◌≤◌, map, take}
use Rattle.c_types.specs.TagTable.{plain_member}
use Rattle.elab_statements.specs.PlainParts.{plain_part, member_part}
use Rattle.elab_statements.proofs.parts.member_parts.Given as goal

abbrev pub invariant-loop-place : goal.invariant-loop-place
invariant-loop-place l = record {
  parts : map plain_part l.parts.items ≡ map (member_part l.offset) (take l.place (map plain_member l.members));
  few : l.place ≤ l.most;
}
