-- What is found by a name is a member of the list.
use Rattle.std.proofs.Common.{ap, ◌∙◌}
use Rattle.c_types.specs.Types.{plain}
use Rattle.elaboration.specs.Declarators.{has_member}
use Rattle.elab_types.proofs.MemberLists.{found_member}
use Rattle.elab_types.proofs.member_table.MemberTable.has.Goals as goal

pub returns : goal.returns
returns c =
    c.contains_key.ensures
    ∙ found_member (λ k. k.items) plain c.args.name.now c.self.inside.types.entries
    ∙ ap (has_member c.args.name.now) c.self.view_is
