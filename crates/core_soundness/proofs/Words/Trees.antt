-- Words of tokens and trees.
unfoldable pub use Rattle.c_lexer.specs.Bytes.{class_of, is_digit, is_letter, is_name_byte, is_space}
pub use Rattle.c_lexer.specs.Numbers.{number_value}
pub use Rattle.c_lexer.specs.Pieces.{IsToken}
unfoldable pub use Rattle.c_lexer.specs.Pieces.{kind_of}
pub use Rattle.c_lexer.specs.Tokens.{HasTokens, IsCut, IsLexed, answer_of, answer_with, behind, first_place}
pub use Rattle.c_lexer.specs.declared.piece.PieceKind.{PieceKind}
pub use Rattle.c_lexer.specs.declared.token.LexError.{LexError}
pub use Rattle.c_lexer.specs.declared.token.Token.{Token}
pub use Rattle.c_lexer.specs.declared.token.TokenKind.{TokenKind}
pub use Rattle.c_tree.specs.Allowed.{IsBase, IsDeclarator, Tally, is_integer_type, is_none, is_one_type, with_word}
unfoldable pub use Rattle.c_tree.specs.Allowed.{AllAllowed, Allowed, AreExternals, IsExternal, Takes, are_specs, obeys, tally, with_keyword}
pub use Rattle.c_tree.specs.Forms.{Form}
pub use Rattle.c_tree.specs.Grammar.{Here, Item, Part, Says, assign_level, behind_commas, commas, cond_level, expr, here_rows, home, key, rows, some, some_commas}
unfoldable pub use Rattle.c_tree.specs.Grammar.{form_home, keyword_home, shape}
pub use Rattle.c_tree.specs.HasTree.{HasTree}
pub use Rattle.c_tree.specs.Places.{Expression, Place}
pub use Rattle.c_tree.specs.Renaming.{IsDotted, IsRenamed, IsSuffixed}
unfoldable pub use Rattle.c_tree.specs.Renaming.{Renames, RenamesAll, RenamesSome}
pub use Rattle.c_tree.specs.Scopes.{Scope, first_list, first_name, first_scope, places, word_is_typedef, word_name}
unfoldable pub use Rattle.c_tree.specs.Scopes.{after, has_typedef, is_scope, leads_to_name, left, name_among, name_of, params_among, params_of, suffix_params}
pub use Rattle.c_tree.specs.Spelling.{IsWord, Line, Piece, Said, filled}
unfoldable pub use Rattle.c_tree.specs.Spelling.{Spells, spell, spell_all}
pub use Rattle.c_tree.specs.Tree.{At, Leaf, Node, Tree, Trees, count, none, ◌▹◌}
pub use Rattle.c_tree.specs.Words.{Word}
pub use Rattle.c_tree.specs.declared.operator.AssignOp.{AssignOp}
pub use Rattle.c_tree.specs.declared.operator.BinaryOp.{BinaryOp}
pub use Rattle.c_tree.specs.declared.operator.RecordSort.{RecordSort}
pub use Rattle.c_tree.specs.declared.operator.UnaryOp.{UnaryOp}
pub use Rattle.c_tree.specs.declared.word.Keyword.{Keyword}
