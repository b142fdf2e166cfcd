-- Words of c_tree, c_lexer, hs_base, indexmap, smallvec, itoa.
unfoldable pub use Rattle.c_lexer.specs.Bytes.{class_of, is_digit, is_letter, is_mark, is_name_byte, is_number_byte, is_space}
pub use Rattle.c_lexer.specs.Gaps.{is_on_line}
unfoldable pub use Rattle.c_lexer.specs.Gaps.{comment_end}
pub use Rattle.c_lexer.specs.Names.{keywords}
unfoldable pub use Rattle.c_lexer.specs.Names.{is_keyword}
pub use Rattle.c_lexer.specs.Numbers.{form_of, number_value}
unfoldable pub use Rattle.c_lexer.specs.Numbers.{base_of, is_held}
pub use Rattle.c_lexer.specs.Pieces.{IsToken, Longest, block_kind, ends_at, is_empty, kind_by, literal_end, literal_kind, number_kind, number_kind_by, quote_kind, slash_kind}
unfoldable pub use Rattle.c_lexer.specs.Pieces.{kind_of}
pub use Rattle.c_lexer.specs.PiecesEquations.{longest_one}
pub use Rattle.c_lexer.specs.Readers.{piece}
pub use Rattle.c_lexer.specs.Signs.{double_signs, is_sign, is_single_sign, triple_signs}
unfoldable pub use Rattle.c_lexer.specs.Signs.{is_double_sign, is_triple_sign}
pub use Rattle.c_lexer.specs.Written.{TokensAreLongest, is_separator}
pub use Rattle.c_lexer.specs.declared.bytes.ByteClass.{ByteClass}
pub use Rattle.c_lexer.specs.declared.bytes.ByteClass.TheVariants.{Digit, Hash, Letter, Mark, Other, Quote, Slash, Space}
pub use Rattle.c_lexer.specs.declared.piece.PieceKind.{PieceKind}
pub use Rattle.c_lexer.specs.declared.piece.PieceKind.TheVariants.{Gap, Refused, Token}
pub use Rattle.c_lexer.specs.declared.token.LexKind.TheVariants.{BadByte, LiteralTooWide}
pub use Rattle.c_lexer.specs.declared.token.TokenKind.{TokenKind}
pub use Rattle.c_tree.specs.Allowed.{Tally, is_integer_type, is_one_type}
unfoldable pub use Rattle.c_tree.specs.Allowed.{AllAllowed, Allowed, AreExternals, IsExternal, Takes, are_specs, obeys, tally, with_keyword}
pub use Rattle.c_tree.specs.Canonical.{separator}
unfoldable pub use Rattle.c_tree.specs.Canonical.{tree_text, words_text}
pub use Rattle.c_tree.specs.Forms.{Form}
pub use Rattle.c_tree.specs.Grammar.{Here, Item, Part, Says, behind_commas, commas, key, rows, some, some_commas}
unfoldable pub use Rattle.c_tree.specs.Grammar.{form_home, shape}
unfoldable pub use Rattle.c_tree.specs.Operators.{assign_sign, binary_sign, record_word, unary_sign}
pub use Rattle.c_tree.specs.Places.{Expression, Place}
pub use Rattle.c_tree.specs.Renaming.{IsDotted, IsRenamed, IsSuffixed}
unfoldable pub use Rattle.c_tree.specs.Renaming.{Renames, RenamesAll, RenamesSome}
pub use Rattle.c_tree.specs.Reread.{IsFormed, unit_words, word_spellings}
pub use Rattle.c_tree.specs.Scopes.{first_list, first_name, first_scope, places, word_is_typedef, word_name}
unfoldable pub use Rattle.c_tree.specs.Scopes.{has_typedef, is_scope, leads_to_name, name_among, name_of, params_among, params_of, suffix_params}
unfoldable pub use Rattle.c_tree.specs.SpecWords.{has_static}
pub use Rattle.c_tree.specs.Spelling.{Line, Piece, filled, words}
unfoldable pub use Rattle.c_tree.specs.Spelling.{spell, spell_all}
pub use Rattle.c_tree.specs.StatementView.{body_view, decl_view, entry_view, expr_view, if_view, init_view, maybe, maybe_expr, member_view, names_view, param_view, specs_view, start_view, stmt_view, suffix_view, trees, typename_view, unit_view}
unfoldable pub use Rattle.c_tree.specs.StatementView.{if_tree, init_tree, stmt_tree, stmt_trees}
pub use Rattle.c_tree.specs.StatementViewEquations.{block_tree, delay_tree, if_else_tree, init_list_tree}
pub use Rattle.c_tree.specs.Tree.{At, Leaf, Node, Tree, Trees, count, none, ◌▹◌}
pub use Rattle.c_tree.specs.View.{literal_leaves, maybe_name, name_leaf}
unfoldable pub use Rattle.c_tree.specs.View.{base_tree, declarator_tree, enumerator_tree, enumerator_trees, expr_tree, member_trees, spec_tree, suffix_tree, suffix_trees, tag_tree}
pub use Rattle.c_tree.specs.ViewEquations.{array_tree, call_tree, cast_tree, direct_tree, enum_body_tree, enumerator_value_tree, params_tree, record_body_tree, sizeof_type_tree}
pub use Rattle.c_tree.specs.Words.{Word, word_bytes, word_kind}
unfoldable pub use Rattle.c_tree.specs.Words.{keyword_bytes, sign_bytes}
pub use Rattle.c_tree.specs.declared.operator.AssignOp.{AssignOp}
pub use Rattle.c_tree.specs.declared.operator.BinaryOp.{BinaryOp}
pub use Rattle.c_tree.specs.declared.operator.RecordSort.{RecordSort}
pub use Rattle.c_tree.specs.declared.operator.UnaryOp.{UnaryOp}
pub use Rattle.c_tree.specs.declared.statement.Decl.{Decl}
pub use Rattle.c_tree.specs.declared.statement.Init.{Init}
pub use Rattle.c_tree.specs.declared.statement.InitKind.{InitKind}
pub use Rattle.c_tree.specs.declared.statement.Stmt.{Stmt, size-Stmt}
pub use Rattle.c_tree.specs.declared.statement.StmtKind.{None', Some', StmtKind, size-StmtKind}
pub use Rattle.c_tree.specs.declared.tree.Base.{Base}
pub use Rattle.c_tree.specs.declared.tree.Declarator.{Declarator, Row_of-Suffix, end_of-Suffix, more_of-Suffix}
pub use Rattle.c_tree.specs.declared.tree.Declarator.TheVariants.{Pointer}
pub use Rattle.c_tree.specs.declared.tree.Enumerator.{Enumerator, out-Enumerator, out-roll-Enumerator, roll-Enumerator, roll-out-Enumerator}
pub use Rattle.c_tree.specs.declared.tree.Expr.{Expr}
pub use Rattle.c_tree.specs.declared.tree.ExprKind.{ExprKind}
pub use Rattle.c_tree.specs.declared.tree.Member.{Member}
pub use Rattle.c_tree.specs.declared.tree.Param.{Param}
pub use Rattle.c_tree.specs.declared.tree.Spec.{Spec}
pub use Rattle.c_tree.specs.declared.tree.Specs.{Specs}
pub use Rattle.c_tree.specs.declared.tree.Suffix.{Suffix, roll-Suffix}
pub use Rattle.c_tree.specs.declared.tree.SuffixKind.{SuffixKind}
pub use Rattle.c_tree.specs.declared.tree.TagKind.{TagKind}
pub use Rattle.c_tree.specs.declared.tree.TagKind.TheVariants.{EnumBody, RecordBody}
pub use Rattle.c_tree.specs.declared.tree.TypeName.{TypeName}
pub use Rattle.c_tree.specs.declared.word.Keyword.{Keyword}
pub use Rattle.c_tree.specs.declared.word.Sign.{Sign}
pub use Rattle.indexmap.specs.IndexSet.{insert_key}
