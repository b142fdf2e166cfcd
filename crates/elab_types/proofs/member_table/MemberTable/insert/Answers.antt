-- A new member goes last.
use Rattle.std.proofs.Common.{ap, ◌∙◌, map, ◌++◌, ◌∷◌, [], List, ℕ}
use Rattle.std.specs.Prelude.{bytes_eq}
use Rattle.std.proofs.lemmas.List.{map-append}
use Rattle.indexmap.proofs.CallerLemmas.{insert_entry-new}
use Rattle.c_types.specs.Types.{plain}
use Rattle.elaboration.specs.Declarators.{has_member}
use Rattle.elab_types.proofs.MemberLists.{absent_member}
use Rattle.elab_types.proofs.member_table.MemberTable.insert.Goals as goal

pub returns : goal.returns
returns c =
    let types = c.self.inside.types in
    let name = c.in_ok-name.name in
    let ty = c.args.ty in
    let same = c.in_ok-name.ensures.items_if_clones_equal (λ x y e. e) in
    let new = ap (λ (n : List ℕ). has_member n (map (λ e. (e.0.items, plain e.1)) types.entries)) same ∙ ap (has_member c.args.name.now) c.self.view_is ∙ c.requires in
    let none = absent_member (λ k. k.items) plain name.items types.entries new in
    ap (map (λ e. (e.0.items, plain e.1))) (c.in_ok-insert.ensures.entries ∙ insert_entry-new (λ a b. bytes_eq a.items b.items) types name ty none)
    ∙ map-append (λ e. (e.0.items, plain e.1)) types.entries ((name, ty) ∷ [])
    ∙ (λ i. c.self.view_is i ++ (same i, plain ty) ∷ [])
