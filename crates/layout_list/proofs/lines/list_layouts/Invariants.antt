use Rattle.std.proofs.Common.{◌≡◌, take, map}
use Rattle.std.specs.List.{flat_map}
use Rattle.layout_list.specs.Listing.{tag_line}
use Rattle.layout_list.proofs.lines.list_layouts.Given as goal

-- the lines of the tags so far are written
abbrev pub invariant-loop-tag : goal.invariant-loop-tag
invariant-loop-tag l = record {
  tags : l.completed ≡ map (λ done. done.tag) l.fn.tags.completed;
  written : l.text.items ≡ flat_map (tag_line l.fn.tags) (take l.tag-index l.completed);
}
