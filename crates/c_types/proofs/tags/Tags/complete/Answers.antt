use Rattle.std.proofs.Common.{sym, ◌∙◌}
use Rattle.c_types.proofs.KeepLemmas.{made_below}
use Rattle.c_types.proofs.CompletionLemmas.{made_info, completes, refuses, as_kept}
use Rattle.c_types.proofs.tags.Tags.complete.Goals as goal
use Rattle.c_types.proofs.tags.Tags.complete.Goals.{else-is_union-via-then-is_union+in_ok-follows_union_rule+else-not-branch, else-is_union-via-else-is_union}

pub returns-then-not-branch-clause-refused : goal.returns-then-not-branch-clause-refused
returns-then-not-branch-clause-refused c =
    let within = made_below c.self.inside c.args.self.now c.args.tag c.self.view_is c.requires.made in
    let at = made_info c.self.inside c.args.self.now c.args.tag c.index.result.now c.self.view_is within c.index.ensures in
    λ other.
    refuses c.args.self.now c.in_ok-body.body c.args.tag c.index.result.now.info c.args.members at c.in_ok-body.ensures.body c.if-is_union.true
    (sym c.in_ok-follows_union_rule.ensures ∙ c.if-not-branch.true)

pub returns-clause-ok : goal.returns-clause-ok
returns-clause-ok c =
    let within = made_below c.self.inside c.args.self.now c.args.tag c.self.view_is c.requires.made in
    let at = made_info c.self.inside c.args.self.now c.args.tag c.index.result.now c.self.view_is within c.index.ensures in
    let done = completes c.args.self.now c.in_ok-body.body c.args.tag c.index.result.now.info c.args.members at c.in_ok-body.ensures.body c.in_ok-body.ensures.placed
    (elim c.else-is_union.branch [
      | else-is_union-via-then-is_union+in_ok-follows_union_rule+else-not-branch w ↦ λ u. sym w.in_ok-follows_union_rule.ensures ∙ w.if-not-branch.false
      | else-is_union-via-else-is_union w ↦ λ u. let no = w.if-is_union.false in cc
    ]) in
    as_kept c.keep.result _ c.keep.new.self _ done c.keep.ensures.ok
