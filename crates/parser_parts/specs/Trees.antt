-- What the code reads and makes, by the sort of its tree.
use Rattle.std.specs.Prelude.{◌≡◌, ℕ, ◌+◌, Option, Result, IfOk}
use Rattle.hs_base.specs.declared.items.NoMemory.{NoMemory}
use Rattle.c_tree.specs.Allowed.{Tally}
use Rattle.c_tree.specs.Forms as f
use Rattle.c_tree.specs.Forms.{Form}
use Rattle.c_tree.specs.Tree.{Tree, Trees, At, Node, none, ◌▹◌}
use Rattle.c_tree.specs.View.{spec_tree, declarator_tree, base_tree, enumerator_tree}
use Rattle.c_tree.specs.StatementView.{trees, expr_view, typename_view, specs_view, tag_view, member_view, suffix_view, param_view}
use Rattle.grammar_reading.specs.State.{State}
use Rattle.grammar_reading.specs.Reading.{snoc}
use Rattle.parser_parts.specs.Gives.{Reads}
use Rattle.parser_parts.specs.Tallies.{tally_of}
use Rattle.parser_parts.specs.declared.error.ReadError.{ReadError}
use Rattle.parser_parts.specs.declared.deep.DeepBase.{DeepBase}
use Rattle.parser_parts.specs.declared.deep.DeepDeclarator.{DeepDeclarator}
use Rattle.parser_parts.specs.declared.deep.DeepDeclarators.{DeepDeclarators}
use Rattle.parser_parts.specs.declared.deep.DeepEnumerator.{DeepEnumerator}
use Rattle.parser_parts.specs.declared.deep.DeepEnumerators.{DeepEnumerators}
use Rattle.parser_parts.specs.declared.deep.DeepExpr.{DeepExpr}
use Rattle.parser_parts.specs.declared.deep.DeepExprs.{DeepExprs}
use Rattle.parser_parts.specs.declared.deep.DeepMember.{DeepMember}
use Rattle.parser_parts.specs.declared.deep.DeepMembers.{DeepMembers}
use Rattle.parser_parts.specs.declared.deep.DeepParam.{DeepParam}
use Rattle.parser_parts.specs.declared.deep.DeepParams.{DeepParams}
use Rattle.parser_parts.specs.declared.deep.DeepSpecs.{DeepSpecs}
use Rattle.parser_parts.specs.declared.deep.DeepSuffix.{DeepSuffix}
use Rattle.parser_parts.specs.declared.deep.DeepSuffixes.{DeepSuffixes}
use Rattle.parser_parts.specs.declared.deep.DeepTag.{DeepTag}
use Rattle.parser_parts.specs.declared.deep.DeepTypename.{DeepTypename}
use Rattle.parser_parts.specs.declared.deep.DeepWords.{DeepWords}
use Rattle.parser_parts.specs.declared.tally.Tally.{Tally as Counted}

-- an expression is made: a node of a form at a line, with the parts behind it
abbrev pub MakesExpr : Result DeepExpr NoMemory → ℕ → Form → Trees → Type 0
MakesExpr result line form parts = IfOk result (λ (x : DeepExpr). expr_view x.tree ≡ Node form (At line ▹ parts))

-- two expressions as parts, and a type's name with an expression
abbrev pub operands : DeepExpr → DeepExpr → Trees
operands left right = expr_view left.tree ▹ expr_view right.tree ▹ none

abbrev pub cast_parts : DeepTypename → DeepExpr → Trees
cast_parts name operand = typename_view name.tree ▹ expr_view operand.tree ▹ none

-- the trees of a list of the code, by its sort
abbrev pub arguments_of : DeepExprs → Trees
arguments_of x = trees expr_view x.list.items

abbrev pub members_of : DeepMembers → Trees
members_of x = trees member_view x.list.items

abbrev pub declarators_of : DeepDeclarators → Trees
declarators_of x = trees declarator_tree x.list.items

abbrev pub enumerators_of : DeepEnumerators → Trees
enumerators_of x = trees enumerator_tree x.list.items

abbrev pub suffixes_of : DeepSuffixes → Trees
suffixes_of x = trees suffix_view x.list.items

abbrev pub parameters_of : DeepParams → Trees
parameters_of x = trees param_view x.list.items

abbrev pub spec_words_of : DeepWords → Trees
spec_words_of x = trees spec_tree x.list.items

-- a list is made of another with one tree behind it
abbrev pub Adds : {A : Type 0} → (A → Trees) → Result A NoMemory → A → Tree → Type 0
Adds trees_of result before tree = IfOk result (λ after. trees_of after ≡ snoc (trees_of before) tree)

-- how deep a declarator is with its layers
abbrev pub whole_depth : DeepDeclarator → ℕ
whole_depth declarator = declarator.layers + declarator.inside

-- the code reads one tree of a sort, and stands behind it
abbrev pub ReadsExpr : Result DeepExpr ReadError → State → Option (Tree × State) → Type 0
ReadsExpr = Reads (λ (x : DeepExpr). expr_view x.tree)

abbrev pub ReadsTypename : Result DeepTypename ReadError → State → Option (Tree × State) → Type 0
ReadsTypename = Reads (λ (x : DeepTypename). typename_view x.tree)

abbrev pub ReadsSpecs : Result DeepSpecs ReadError → State → Option (Tree × State) → Type 0
ReadsSpecs = Reads (λ (x : DeepSpecs). specs_view x.tree)

abbrev pub ReadsTag : Result DeepTag ReadError → State → Option (Tree × State) → Type 0
ReadsTag = Reads (λ (x : DeepTag). tag_view x.tree)

abbrev pub ReadsMember : Result DeepMember ReadError → State → Option (Tree × State) → Type 0
ReadsMember = Reads (λ (x : DeepMember). member_view x.tree)

abbrev pub ReadsEnumerator : Result DeepEnumerator ReadError → State → Option (Tree × State) → Type 0
ReadsEnumerator = Reads (λ (x : DeepEnumerator). enumerator_tree x.tree)

abbrev pub ReadsDeclarator : Result DeepDeclarator ReadError → State → Option (Tree × State) → Type 0
ReadsDeclarator = Reads (λ (x : DeepDeclarator). declarator_tree x.tree)

abbrev pub ReadsBase : Result DeepBase ReadError → State → Option (Tree × State) → Type 0
ReadsBase = Reads (λ (x : DeepBase). base_tree x.tree)

abbrev pub ReadsSuffix : Result DeepSuffix ReadError → State → Option (Tree × State) → Type 0
ReadsSuffix = Reads (λ (x : DeepSuffix). suffix_view x.tree)

abbrev pub ReadsParam : Result DeepParam ReadError → State → Option (Tree × State) → Type 0
ReadsParam = Reads (λ (x : DeepParam). param_view x.tree)

-- it reads a list of them, as a node
abbrev pub ReadsArguments : Result DeepExprs ReadError → State → Option (Tree × State) → Type 0
ReadsArguments = Reads (λ (x : DeepExprs). Node f.Arguments (trees expr_view x.list.items))

abbrev pub ReadsMembers : Result DeepMembers ReadError → State → Option (Tree × State) → Type 0
ReadsMembers = Reads (λ (x : DeepMembers). Node f.Members (trees member_view x.list.items))

abbrev pub ReadsMemberNames : Result DeepDeclarators ReadError → State → Option (Tree × State) → Type 0
ReadsMemberNames = Reads (λ (x : DeepDeclarators). Node f.MemberNames (trees declarator_tree x.list.items))

abbrev pub ReadsEnumerators : Result DeepEnumerators ReadError → State → Option (Tree × State) → Type 0
ReadsEnumerators = Reads (λ (x : DeepEnumerators). Node f.Enumerators (trees enumerator_tree x.list.items))

abbrev pub ReadsSuffixes : Result DeepSuffixes ReadError → State → Option (Tree × State) → Type 0
ReadsSuffixes = Reads (λ (x : DeepSuffixes). Node f.Suffixes (trees suffix_view x.list.items))

abbrev pub ReadsParams : Result DeepParams ReadError → State → Option (Tree × State) → Type 0
ReadsParams = Reads (λ (x : DeepParams). Node f.Params (trees param_view x.list.items))

-- it reads words of specs, with the tally of them
abbrev pub ReadsWords : Result (Counted × DeepWords) ReadError → State → Option ((Tally × Trees) × State) → Type 0
ReadsWords = Reads (λ (x : Counted × DeepWords). (tally_of x.0, trees spec_tree x.1.list.items))
