use Rattle.c_units.proofs.Words.Std.{ap, ap₂, refl, rules, values_o, values_o_at, with_items, with_value, ◌∙◌}
use Rattle.c_units.proofs.Words.Trees.{EnumBody, Pointer, RecordBody, declarator_tree, enumerator_tree, expr_view, member_view, out-Enumerator, out-roll-Enumerator, param_view, spec_tree, suffix_view}
use Rattle.c_units.proofs.Words.Units.{Defined, Tagged, binding_at, braced_name, mention, mention_any}
use Rattle.c_tree.specs.contracts.tree.TagKind.{enum as tag}
use Rattle.c_tree.specs.contracts.tree.Declarator.{enum as declarator}
use Rattle.c_units.proofs.ItemTurns.{item_next}
use Rattle.c_units.proofs.WalkSteps.{call_new, call_names, sizeof_new, sizeof_names, cast_new, cast_names, record_new, record_names, enum_new, enum_names, specs_new, member_new, pointer_new, direct_new, direct_names, array_new, params_new, enumerator_new, enumerator_names, items_in}
use Rattle.c_units.proofs.walk.Walk.+walk.Goals as goal

pub exprs-loop-e-preserved : goal.exprs-loop-e-preserved
exprs-loop-e-preserved t c =
    item_next expr_view c.args.list.now c.loop-e.list c.loop-e.e-index _ c.expr.new.e c.loop-e.self c.expr.new.self c.args.self.now
    c.loop-e-test.true c.loop-e.invariant.0 c.loop-e.invariant.1 c.in_ok-expr.ensures.tree c.in_ok-expr.ensures.names

pub words-loop-word-preserved : goal.words-loop-word-preserved
words-loop-word-preserved t c =
    item_next spec_tree c.args.list.now c.loop-word.list c.loop-word.word-index _ c.spec.new.spec c.loop-word.self c.spec.new.self c.args.self.now
    c.loop-word-test.true c.loop-word.invariant.0 c.loop-word.invariant.1 c.in_ok-spec.ensures.tree c.in_ok-spec.ensures.names

pub members-loop-one-preserved : goal.members-loop-one-preserved
members-loop-one-preserved t c =
    item_next member_view c.args.list.now c.loop-one.list c.loop-one.one-index _ c.member.new.member c.loop-one.self c.member.new.self c.args.self.now
    c.loop-one-test.true c.loop-one.invariant.0 c.loop-one.invariant.1 c.in_ok-member.ensures.tree c.in_ok-member.ensures.names

pub declarators-loop-one-preserved : goal.declarators-loop-one-preserved
declarators-loop-one-preserved t c =
    item_next declarator_tree c.args.list.now c.loop-one.list c.loop-one.one-index _ c.declarator.new.declarator c.loop-one.self c.declarator.new.self c.args.self.now
    c.loop-one-test.true c.loop-one.invariant.0 c.loop-one.invariant.1 c.in_ok-declarator.ensures.tree c.in_ok-declarator.ensures.names

pub enumerators-loop-one-preserved : goal.enumerators-loop-one-preserved
enumerators-loop-one-preserved t c =
    item_next enumerator_tree c.args.list.now c.loop-one.list c.loop-one.one-index _ c.enumerator.new.one c.loop-one.self c.enumerator.new.self c.args.self.now
    c.loop-one-test.true c.loop-one.invariant.0 c.loop-one.invariant.1 c.in_ok-enumerator.ensures.tree c.in_ok-enumerator.ensures.names

pub suffixes-loop-one-preserved : goal.suffixes-loop-one-preserved
suffixes-loop-one-preserved t c =
    item_next suffix_view c.args.list.now c.loop-one.list c.loop-one.one-index _ c.suffix.new.suffix c.loop-one.self c.suffix.new.self c.args.self.now
    c.loop-one-test.true c.loop-one.invariant.0 c.loop-one.invariant.1 c.in_ok-suffix.ensures.tree c.in_ok-suffix.ensures.names

pub params-loop-one-preserved : goal.params-loop-one-preserved
params-loop-one-preserved t c =
    item_next param_view c.args.list.now c.loop-one.list c.loop-one.one-index _ c.param.new.param c.loop-one.self c.param.new.self c.args.self.now
    c.loop-one-test.true c.loop-one.invariant.0 c.loop-one.invariant.1 c.in_ok-param.ensures.tree c.in_ok-param.ensures.names

pub expr_of-returns-in_ok-expr-in-Call-clause-tree : goal.expr_of-returns-in_ok-expr-in-Call-clause-tree
expr_of-returns-in_ok-expr-in-Call-clause-tree t c =
    call_new c.exprs.result c.args.self.now _ c.args.kind.now c.args.line c.expr-in-Call.new.self _ _ _ _ _ _ c.in-Call.is c.in-Call.callee-is c.in-Call.arguments-is
    c.deref_mut-in-Call.ensures.value c.deref_mut-in-Call-2.ensures.value c.in_ok-expr-in-Call.ensures.names _ c.exprs.new.list refl c.exprs.auto.list
    c.in_ok-expr-in-Call.ensures.tree c.exprs.ensures.trees

pub expr_of-returns-in_ok-expr-in-Call-clause-names : goal.expr_of-returns-in_ok-expr-in-Call-clause-names
expr_of-returns-in_ok-expr-in-Call-clause-names t c =
    call_names c.exprs.result c.args.self.now c.args.kind.now c.args.kind.now c.args.line c.expr-in-Call.new.self _ _ _ _ _ _ c.in-Call.is c.in-Call.callee-is c.in-Call.arguments-is
    c.deref_mut-in-Call.ensures.value c.deref_mut-in-Call-2.ensures.value c.in_ok-expr-in-Call.ensures.names c.exprs.new.self c.exprs.ensures.names

pub expr_of-returns-in-SizeofType-clause-tree : goal.expr_of-returns-in-SizeofType-clause-tree
expr_of-returns-in-SizeofType-clause-tree t c =
    sizeof_new c.typename.result c.args.self.now _ c.args.kind.now c.args.line _ c.in-SizeofType.typename _ c.in-SizeofType.is c.in-SizeofType.typename-is c.deref_mut-in-SizeofType.ensures.value
    (record c.in-SizeofType.typename { value = c.typename.new.typename }) (search rules) c.typename.ensures.tree

pub expr_of-returns-in-SizeofType-clause-names : goal.expr_of-returns-in-SizeofType-clause-names
expr_of-returns-in-SizeofType-clause-names t c =
    sizeof_names c.typename.result c.args.self.now c.args.kind.now c.args.kind.now c.args.line _ _ _ c.in-SizeofType.is c.in-SizeofType.typename-is c.deref_mut-in-SizeofType.ensures.value c.typename.new.self c.typename.ensures.names

pub expr_of-returns-in_ok-typename-in-Cast-clause-tree : goal.expr_of-returns-in_ok-typename-in-Cast-clause-tree
expr_of-returns-in_ok-typename-in-Cast-clause-tree t c =
    cast_new c.expr-in-Cast.result c.args.self.now _ c.args.kind.now c.args.line c.typename-in-Cast.new.self _ _ _ _ _ _ c.in-Cast.is c.in-Cast.typename-is c.in-Cast.operand-is
    c.deref_mut-in-Cast.ensures.value c.deref_mut-in-Cast-2.ensures.value c.in_ok-typename-in-Cast.ensures.names _ _ refl c.in_ok-typename-in-Cast.ensures.tree c.expr-in-Cast.ensures.tree

pub expr_of-returns-in_ok-typename-in-Cast-clause-names : goal.expr_of-returns-in_ok-typename-in-Cast-clause-names
expr_of-returns-in_ok-typename-in-Cast-clause-names t c =
    cast_names c.expr-in-Cast.result c.args.self.now c.args.kind.now c.args.kind.now c.args.line c.typename-in-Cast.new.self _ _ _ _ _ _ c.in-Cast.is c.in-Cast.typename-is c.in-Cast.operand-is
    c.deref_mut-in-Cast.ensures.value c.deref_mut-in-Cast-2.ensures.value c.in_ok-typename-in-Cast.ensures.names c.expr-in-Cast.new.self c.expr-in-Cast.ensures.names

pub specs-returns-clause-tree : goal.specs-returns-clause-tree
specs-returns-clause-tree t c =
    specs_new c.words.result c.args.self.now c.args.specs.now _ c.words.new.list c.deref_mut.ensures.value c.words.auto.list c.words.ensures.trees

pub member-returns-clause-tree : goal.member-returns-clause-tree
member-returns-clause-tree t c =
    member_new c.declarators.result c.args.self.now c.args.member.now c.specs.new.self c.specs.new.specs _ c.declarators.new.list
    c.in_ok-specs.ensures.names c.in_ok-specs.ensures.tree c.deref_mut.ensures.value c.declarators.auto.list c.declarators.ensures.trees

pub tag-returns-in-RecordBody-clause-tree : goal.tag-returns-in-RecordBody-clause-tree
tag-returns-in-RecordBody-clause-tree t c =
    record_new c.members.result c.args.self.now _ c.args.tag.now.kind c.args.tag.now.line c.tagged.new.self c.in-RecordBody.field-0 c.in-RecordBody.field-0 c.in-RecordBody.field-1 c.in-RecordBody.field-1 c.in-RecordBody.members c.in-RecordBody.members _
    c.in-RecordBody.is refl refl refl (items_in _ _ _ c.in-RecordBody.members-is c.deref_mut.ensures.value)
    (c.in_ok-tagged.ensures ∙ ap (λ n. mention_any (braced_name n) (binding_at c.args.self.now) Tagged c.args.tag.now.line c.args.self.now) c.in-RecordBody.is) c.members.new.list (let h = ap (values_o tag 1) c.in-RecordBody.is ∙ values_o_at tag 1 (c.in-RecordBody.field-0, (c.in-RecordBody.field-1, (c.in-RecordBody.members, tt))) in
    rw h (ap (λ v. RecordBody c.in-RecordBody.field-0 c.in-RecordBody.field-1 (with_items v c.members.new.list)) c.in-RecordBody.members-is)) c.members.auto.list c.members.ensures.trees

pub tag-returns-in-RecordBody-clause-names : goal.tag-returns-in-RecordBody-clause-names
tag-returns-in-RecordBody-clause-names t c =
    record_names c.members.result c.args.self.now c.args.tag.now.kind c.args.tag.now.kind c.args.tag.now.line c.tagged.new.self c.in-RecordBody.field-0 c.in-RecordBody.field-0 c.in-RecordBody.field-1 c.in-RecordBody.field-1 c.in-RecordBody.members c.in-RecordBody.members _
    c.in-RecordBody.is refl refl refl (items_in _ _ _ c.in-RecordBody.members-is c.deref_mut.ensures.value)
    (c.in_ok-tagged.ensures ∙ ap (λ n. mention_any (braced_name n) (binding_at c.args.self.now) Tagged c.args.tag.now.line c.args.self.now) c.in-RecordBody.is) c.members.new.self c.members.ensures.names

pub tag-returns-in-EnumBody-clause-tree : goal.tag-returns-in-EnumBody-clause-tree
tag-returns-in-EnumBody-clause-tree t c =
    enum_new c.enumerators.result c.args.self.now _ c.args.tag.now.kind c.args.tag.now.line c.tagged.new.self c.in-EnumBody.field-0 c.in-EnumBody.field-0 c.in-EnumBody.enumerators c.in-EnumBody.enumerators c.in-EnumBody.field-2 c.in-EnumBody.field-2 _
    c.in-EnumBody.is refl refl refl (items_in _ _ _ c.in-EnumBody.enumerators-is c.deref_mut-in-EnumBody.ensures.value)
    (c.in_ok-tagged.ensures ∙ ap (λ n. mention_any (braced_name n) (binding_at c.args.self.now) Tagged c.args.tag.now.line c.args.self.now) c.in-EnumBody.is) c.enumerators.new.list (let h = ap (values_o tag 3) c.in-EnumBody.is ∙ values_o_at tag 3 (c.in-EnumBody.field-0, (c.in-EnumBody.enumerators, (c.in-EnumBody.field-2, tt))) in
    rw h (ap (λ v. EnumBody c.in-EnumBody.field-0 (with_items v c.enumerators.new.list) c.in-EnumBody.field-2) c.in-EnumBody.enumerators-is)) c.enumerators.auto.list c.enumerators.ensures.trees

pub tag-returns-in-EnumBody-clause-names : goal.tag-returns-in-EnumBody-clause-names
tag-returns-in-EnumBody-clause-names t c =
    enum_names c.enumerators.result c.args.self.now c.args.tag.now.kind c.args.tag.now.kind c.args.tag.now.line c.tagged.new.self c.in-EnumBody.field-0 c.in-EnumBody.field-0 c.in-EnumBody.enumerators c.in-EnumBody.enumerators c.in-EnumBody.field-2 c.in-EnumBody.field-2 _
    c.in-EnumBody.is refl refl refl (items_in _ _ _ c.in-EnumBody.enumerators-is c.deref_mut-in-EnumBody.ensures.value)
    (c.in_ok-tagged.ensures ∙ ap (λ n. mention_any (braced_name n) (binding_at c.args.self.now) Tagged c.args.tag.now.line c.args.self.now) c.in-EnumBody.is) c.enumerators.new.self c.enumerators.ensures.names

pub declarator-returns-in-Pointer-clause-tree : goal.declarator-returns-in-Pointer-clause-tree
declarator-returns-in-Pointer-clause-tree t c =
    pointer_new c.declarator.result c.args.self.now _ c.args.declarator.now c.in-Pointer.field-0 c.in-Pointer.field-0 c.in-Pointer.field-1 c.in-Pointer.field-1 _ c.in-Pointer.target (record c.in-Pointer.target { value = c.declarator.new.declarator }) _ c.in-Pointer.is refl refl c.in-Pointer.target-is c.deref_mut.ensures.value
    (let h = ap (values_o declarator 0) c.in-Pointer.is ∙ values_o_at declarator 0 (c.in-Pointer.field-0, (c.in-Pointer.field-1, (c.in-Pointer.target, tt))) in
    rw h (ap (λ b. Pointer c.in-Pointer.field-0 c.in-Pointer.field-1 (with_value b c.declarator.new.declarator)) c.in-Pointer.target-is)) c.declarator.ensures.tree

pub declarator-returns-in_ok-base-in-Direct-clause-tree : goal.declarator-returns-in_ok-base-in-Direct-clause-tree
declarator-returns-in_ok-base-in-Direct-clause-tree t c =
    direct_new c.suffixes.result c.args.self.now _ c.args.declarator.now c.base.new.self _ _ _ _ _ c.in-Direct.is c.in-Direct.base-is c.in-Direct.suffixes-is
    c.deref_mut-in-Direct.ensures.value c.in_ok-base-in-Direct.ensures.names _ c.suffixes.new.list refl c.suffixes.auto.list c.in_ok-base-in-Direct.ensures.tree c.suffixes.ensures.trees

pub declarator-returns-in_ok-base-in-Direct-clause-names : goal.declarator-returns-in_ok-base-in-Direct-clause-names
declarator-returns-in_ok-base-in-Direct-clause-names t c =
    direct_names c.suffixes.result c.args.self.now c.args.declarator.now c.args.declarator.now c.base.new.self _ _ _ _ _ c.in-Direct.is c.in-Direct.base-is c.in-Direct.suffixes-is
    c.deref_mut-in-Direct.ensures.value c.in_ok-base-in-Direct.ensures.names c.suffixes.new.self c.suffixes.ensures.names

pub suffix-returns-in-Array-clause-tree : goal.suffix-returns-in-Array-clause-tree
suffix-returns-in-Array-clause-tree t c =
    array_new c.maybe_boxed.result c.args.self.now _ c.args.suffix.now.kind c.args.suffix.now.line _ c.in-Array.length c.maybe_boxed.new.e c.in-Array.is c.in-Array.length-is
    (search rules) c.maybe_boxed.ensures.tree

pub suffix-returns-in_ok-params-in-Params-clause-tree : goal.suffix-returns-in_ok-params-in-Params-clause-tree
suffix-returns-in_ok-params-in-Params-clause-tree t c =
    params_new c.leave.result c.args.self.now _ c.args.suffix.now.kind c.args.suffix.now.line c.enter.new.self c.in-Params.params c.in-Params.params _ c.params.new.list c.in-Params.is refl (items_in _ _ _ c.in-Params.params-is c.deref_mut.ensures.value) c.enter.ensures
    (search rules) c.params.auto.list c.in_ok-params-in-Params.ensures.trees

pub enumerator-returns-clause-tree : goal.enumerator-returns-clause-tree
enumerator-returns-clause-tree t c =
    enumerator_new c.declare.result c.args.self.now c.args.one.now c.mention.new.self
    (c.in_ok-mention.ensures ∙ ap₂ (λ b n. mention b Defined n (out-Enumerator c.args.one.now).line c.args.self.now) c.binding_here-binding.ensures c.as_slice.ensures) _ c.maybe_boxed.new.e refl c.in_ok-maybe_boxed.ensures.tree

pub enumerator-returns-clause-names : goal.enumerator-returns-clause-names
enumerator-returns-clause-names t c =
    enumerator_names c.declare.result c.args.self.now c.args.one.now c.mention.new.self
    (c.in_ok-mention.ensures ∙ ap₂ (λ b n. mention b Defined n (out-Enumerator c.args.one.now).line c.args.self.now) c.binding_here-binding.ensures c.as_slice.ensures) c.maybe_boxed.new.self c.declare.new.self c.binding_here-binding-2.result
    _ (ap (λ e. e.name) (out-roll-Enumerator _)) c.in_ok-maybe_boxed.ensures.names c.binding_here-binding-2.ensures c.declare.ensures
