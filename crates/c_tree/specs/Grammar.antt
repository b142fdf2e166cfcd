-- The grammar (C99 6.5 to 6.9, narrowed): the words and parts of each form, in order, and where a tree of each form may
-- stand.
use Rattle.std.specs.Prelude.{ℕ, zero, suc, Bool, true, false, List, [], ◌∷◌, ◌++◌, replicate}
use Rattle.c_tree.specs.declared.word.Keyword.{Keyword}
use Rattle.c_tree.specs.declared.word.Keyword.TheVariants as k
use Rattle.c_tree.specs.declared.word.Sign.{Sign}
use Rattle.c_tree.specs.declared.word.Sign.TheVariants as s
use Rattle.c_tree.specs.Words.{Word, Key, Mark}
use Rattle.c_tree.specs.Words as w
use Rattle.c_tree.specs.Operators.{unary_sign, binary_sign, assign_sign, record_word, operand_level, binary_level}
use Rattle.c_tree.specs.Forms.{Form}
use Rattle.c_tree.specs.Forms as f
use Rattle.c_tree.specs.Places.{Place, Expression}
use Rattle.c_tree.specs.Places as p
use Rattle.c_tree.specs.Tree.{Tree, Leaf, At, Node}

-- one thing of a form: a word, the line of the word behind it, or a part
pub data Item : Type 0 where
  Says : (word : Word) → Item
  Here : Item
  Part : (place : Place) → Item

abbrev pub key : Keyword → Item
key keyword = Says (Key keyword)

abbrev pub mark : Sign → Item
mark sign = Says (Mark sign)

-- so many parts
abbrev pub rows : Place → ℕ → List Item
rows place n = replicate n (Part place)

-- at least one part
abbrev pub some : Place → ℕ → List Item
some place zero = Part place ∷ []
some place (suc n) = rows place (suc n)

-- at most one part, behind what introduces it
abbrev pub optional : List Item → Place → ℕ → List Item
optional before place zero = []
optional before place (suc n) = before ++ Part place ∷ []

-- parts behind commas
abbrev pub behind_commas : Place → ℕ → List Item
behind_commas place zero = []
behind_commas place (suc n) = mark s.Comma ∷ Part place ∷ behind_commas place n

-- parts with commas between them
abbrev pub commas : Place → ℕ → List Item
commas place zero = []
commas place (suc n) = Part place ∷ behind_commas place n

-- the same, at least one
abbrev pub some_commas : Place → ℕ → List Item
some_commas place zero = Part place ∷ []
some_commas place (suc n) = commas place (suc n)

-- a line, and so many parts less one
abbrev pub here_rows : Place → ℕ → List Item
here_rows place zero = Here ∷ []
here_rows place (suc n) = Here ∷ rows place n

-- `}`, behind a comma or not
abbrev pub closed : Bool → List Item
closed true = mark s.Comma ∷ mark s.RightBrace ∷ []
closed false = mark s.RightBrace ∷ []

-- the loosest level of an expression; of an assignment; of a condition, which a constant expression is; of what binds
-- tighter than `?:`; of a cast; of a unary expression; of a primary or postfix expression
abbrev pub comma_level : ℕ
comma_level = 15

abbrev pub assign_level : ℕ
assign_level = 14

abbrev pub cond_level : ℕ
cond_level = 13

abbrev pub or_level : ℕ
or_level = 12

abbrev pub cast_level : ℕ
cast_level = 2

abbrev pub unary_level : ℕ
unary_level = 1

abbrev pub postfix_level : ℕ
postfix_level = 0

abbrev pub expr : Place
expr = Expression comma_level

-- the words and parts of a form that has so many parts, in order
unfoldable pub shape : Form → ℕ → List Item
shape f.Unit n = rows p.External n
shape f.Function n = Here ∷ Part p.Specs ∷ Part p.Declared ∷ Part p.Body ∷ []
shape f.Body n = mark s.LeftBrace ∷ Part p.Items ∷ Here ∷ mark s.RightBrace ∷ []
shape f.Declaration n = Here ∷ Part p.Specs ∷ Part p.Names ∷ mark s.Semicolon ∷ []
-- declarations
shape f.Names n = commas p.Entry n
shape f.Entry n = Part p.Declared ∷ Part p.MaybeInit ∷ []
shape f.Declared n = Part p.Declarator ∷ []
shape f.MaybeInit n = optional (mark s.Equal ∷ []) p.Init n
shape f.Specs n = here_rows p.SpecWord n
shape f.TypedefName n = Part p.Name ∷ []
shape (f.RecordTag sort) n = Here ∷ key (record_word sort) ∷ Part p.Name ∷ []
shape (f.RecordBody sort) n =
    Here ∷ key (record_word sort) ∷ Part p.MaybeName ∷ mark s.LeftBrace ∷ Part p.Members ∷ mark s.RightBrace ∷ []
shape f.EnumTag n = Here ∷ key k.Enum ∷ Part p.Name ∷ []
shape (f.EnumBody trailing) n =
    Here ∷ key k.Enum ∷ Part p.MaybeName ∷ mark s.LeftBrace ∷ Part p.Enumerators ∷ closed trailing
shape f.MaybeName n = optional [] p.Name n
shape f.Members n = some p.Member n
shape f.Member n = Here ∷ Part p.PlainSpecs ∷ Part p.MemberNames ∷ mark s.Semicolon ∷ []
shape f.MemberNames n = some_commas p.Declarator n
shape f.Enumerators n = some_commas p.Enumerator n
shape f.Enumerator n = Here ∷ Part p.Name ∷ Part p.MaybeValue ∷ []
shape f.MaybeValue n = optional (mark s.Equal ∷ []) (Expression cond_level) n
-- declarators
shape (f.Pointer consts) n = Here ∷ mark s.Star ∷ (replicate consts (key k.Const) ++ Part p.AnyDeclarator ∷ [])
shape f.Direct n = Part p.Base ∷ Part p.Suffixes ∷ []
shape f.Nothing n = []
shape f.Parens n = Here ∷ mark s.LeftParen ∷ Part p.PointerLayer ∷ mark s.RightParen ∷ []
shape f.Suffixes n = rows p.Suffix n
shape f.ArraySuffix n = Here ∷ mark s.LeftBracket ∷ Part p.MaybeLength ∷ mark s.RightBracket ∷ []
shape f.MaybeLength n = optional [] (Expression cond_level) n
shape f.FunctionSuffix n = Here ∷ mark s.LeftParen ∷ Part p.Params ∷ mark s.RightParen ∷ []
shape f.VoidSuffix n = Here ∷ mark s.LeftParen ∷ key k.Void ∷ mark s.RightParen ∷ []
shape f.Params n = commas p.Param n
shape f.Param n = Here ∷ Part p.PlainSpecs ∷ Part p.AnyDeclarator ∷ []
shape f.Typename n = Here ∷ Part p.PlainSpecs ∷ Part p.Abstract ∷ []
-- initializers
shape f.InitExpr n = Here ∷ Part (Expression assign_level) ∷ []
shape (f.InitList trailing) n = Here ∷ mark s.LeftBrace ∷ Part p.Inits ∷ closed trailing
shape f.Inits n = some_commas p.Init n
-- statements
shape f.Items n = rows p.Item n
shape f.Empty n = Here ∷ mark s.Semicolon ∷ []
shape f.Expr n = Here ∷ Part expr ∷ mark s.Semicolon ∷ []
shape f.Block n = Here ∷ mark s.LeftBrace ∷ Part p.Items ∷ mark s.RightBrace ∷ []
shape f.Delay n =
    Here ∷ key k.DelayFrees ∷ mark s.LeftBrace ∷ Part p.Items ∷ mark s.RightBrace ∷ []
shape f.If n = Here ∷ key k.If ∷ mark s.LeftParen ∷ Part expr ∷ mark s.RightParen ∷ Part p.Branch ∷ []
shape f.IfElse n =
    Here ∷ key k.If ∷ mark s.LeftParen ∷ Part expr ∷ mark s.RightParen ∷ Part p.ClosedBranch ∷ key k.Else ∷
    Part p.Branch ∷ []
shape f.While n = Here ∷ key k.While ∷ mark s.LeftParen ∷ Part expr ∷ mark s.RightParen ∷ Part p.Branch ∷ []
shape f.Do n =
    Here ∷ key k.Do ∷ Part p.Branch ∷ key k.While ∷ mark s.LeftParen ∷ Part expr ∷ mark s.RightParen ∷
    mark s.Semicolon ∷ []
shape f.For n =
    Here ∷ key k.For ∷ mark s.LeftParen ∷ Part p.ForStart ∷ Part p.MaybeExpr ∷ mark s.Semicolon ∷ Part p.MaybeExpr ∷
    mark s.RightParen ∷ Part p.Branch ∷ []
shape f.ForNames n = Part p.Specs ∷ Part p.SomeNames ∷ mark s.Semicolon ∷ []
shape f.ForStart n = Part p.MaybeExpr ∷ mark s.Semicolon ∷ []
shape f.MaybeExpr n = optional [] expr n
shape f.Switch n = Here ∷ key k.Switch ∷ mark s.LeftParen ∷ Part expr ∷ mark s.RightParen ∷ Part p.Branch ∷ []
shape f.Case n = Here ∷ key k.Case ∷ Part (Expression cond_level) ∷ mark s.Colon ∷ Part p.Statement ∷ []
shape f.Default n = Here ∷ key k.Default ∷ mark s.Colon ∷ Part p.Statement ∷ []
shape f.Break n = Here ∷ key k.Break ∷ mark s.Semicolon ∷ []
shape f.Continue n = Here ∷ key k.Continue ∷ mark s.Semicolon ∷ []
shape f.Return n = Here ∷ key k.Return ∷ Part p.MaybeExpr ∷ mark s.Semicolon ∷ []
shape f.Local n = Here ∷ Part p.Specs ∷ Part p.Names ∷ mark s.Semicolon ∷ []
-- expressions
shape f.Name n = Here ∷ Part p.Name ∷ []
shape f.Int n = Here ∷ Part p.Int ∷ []
shape f.Char n = Here ∷ Part p.Char ∷ []
shape f.Str n = Here ∷ Part p.Strings ∷ []
shape f.Strings n = some p.Str n
shape f.Paren n = Here ∷ mark s.LeftParen ∷ Part expr ∷ mark s.RightParen ∷ []
shape f.Index n =
    Here ∷ Part (Expression postfix_level) ∷ mark s.LeftBracket ∷ Part expr ∷ mark s.RightBracket ∷ []
shape f.Call n =
    Here ∷ Part (Expression postfix_level) ∷ mark s.LeftParen ∷ Part p.Arguments ∷ mark s.RightParen ∷ []
shape f.Arguments n = commas (Expression assign_level) n
shape f.Dot n = Here ∷ Part (Expression postfix_level) ∷ mark s.Dot ∷ Part p.Name ∷ []
shape f.Arrow n = Here ∷ Part (Expression postfix_level) ∷ mark s.Arrow ∷ Part p.Name ∷ []
shape f.PostInc n = Here ∷ Part (Expression postfix_level) ∷ mark s.PlusPlus ∷ []
shape f.PostDec n = Here ∷ Part (Expression postfix_level) ∷ mark s.MinusMinus ∷ []
shape f.PreInc n = Here ∷ mark s.PlusPlus ∷ Part (Expression unary_level) ∷ []
shape f.PreDec n = Here ∷ mark s.MinusMinus ∷ Part (Expression unary_level) ∷ []
shape (f.Unary op) n = Here ∷ mark (unary_sign op) ∷ Part (Expression cast_level) ∷ []
shape f.SizeofExpr n = Here ∷ key k.Sizeof ∷ Part (Expression unary_level) ∷ []
shape f.SizeofType n =
    Here ∷ key k.Sizeof ∷ mark s.LeftParen ∷ Part p.Typename ∷ mark s.RightParen ∷ []
shape f.Cast n =
    Here ∷ mark s.LeftParen ∷ Part p.Typename ∷ mark s.RightParen ∷ Part (Expression cast_level) ∷ []
shape (f.Binary op) n =
    Here ∷ Part (Expression (binary_level op)) ∷ mark (binary_sign op) ∷ Part (Expression (operand_level op)) ∷ []
shape f.Cond n =
    Here ∷ Part (Expression or_level) ∷ mark s.Question ∷ Part expr ∷ mark s.Colon ∷ Part (Expression cond_level) ∷ []
shape (f.Assign op) n =
    Here ∷ Part (Expression unary_level) ∷ mark (assign_sign op) ∷ Part (Expression assign_level) ∷ []
shape f.Comma n = Here ∷ Part expr ∷ mark s.Comma ∷ Part (Expression assign_level) ∷ []

-- the place that a node of a form is made for
unfoldable pub form_home : Form → Place
form_home f.Unit = p.Nowhere
form_home f.Function = p.External
form_home f.Body = p.Body
form_home f.Declaration = p.External
form_home f.Names = p.Names
form_home f.Entry = p.Entry
form_home f.Declared = p.Declared
form_home f.MaybeInit = p.MaybeInit
form_home f.Specs = p.Specs
form_home f.TypedefName = p.SpecWord
form_home (f.RecordTag sort) = p.SpecWord
form_home (f.RecordBody sort) = p.SpecWord
form_home f.EnumTag = p.SpecWord
form_home (f.EnumBody trailing) = p.SpecWord
form_home f.MaybeName = p.MaybeName
form_home f.Members = p.Members
form_home f.Member = p.Member
form_home f.MemberNames = p.MemberNames
form_home f.Enumerators = p.Enumerators
form_home f.Enumerator = p.Enumerator
form_home f.MaybeValue = p.MaybeValue
form_home (f.Pointer consts) = p.PointerLayer
form_home f.Direct = p.AnyDeclarator
form_home f.Nothing = p.Base
form_home f.Parens = p.Base
form_home f.Suffixes = p.Suffixes
form_home f.ArraySuffix = p.Suffix
form_home f.MaybeLength = p.MaybeLength
form_home f.FunctionSuffix = p.Suffix
form_home f.VoidSuffix = p.Suffix
form_home f.Params = p.Params
form_home f.Param = p.Param
form_home f.Typename = p.Typename
form_home f.InitExpr = p.Init
form_home (f.InitList trailing) = p.Init
form_home f.Inits = p.Inits
form_home f.Items = p.Items
form_home f.Empty = p.Statement
form_home f.Expr = p.Statement
form_home f.Block = p.Statement
form_home f.Delay = p.Statement
form_home f.If = p.Statement
form_home f.IfElse = p.Statement
form_home f.While = p.Statement
form_home f.Do = p.Statement
form_home f.For = p.Statement
form_home f.ForNames = p.ForStart
form_home f.ForStart = p.ForStart
form_home f.MaybeExpr = p.MaybeExpr
form_home f.Switch = p.Statement
form_home f.Case = p.Statement
form_home f.Default = p.Statement
form_home f.Break = p.Statement
form_home f.Continue = p.Statement
form_home f.Return = p.Statement
form_home f.Local = p.Item
form_home f.Name = Expression postfix_level
form_home f.Int = Expression postfix_level
form_home f.Char = Expression postfix_level
form_home f.Str = Expression postfix_level
form_home f.Strings = p.Strings
form_home f.Paren = Expression postfix_level
form_home f.Index = Expression postfix_level
form_home f.Call = Expression postfix_level
form_home f.Arguments = p.Arguments
form_home f.Dot = Expression postfix_level
form_home f.Arrow = Expression postfix_level
form_home f.PostInc = Expression postfix_level
form_home f.PostDec = Expression postfix_level
form_home f.PreInc = Expression unary_level
form_home f.PreDec = Expression unary_level
form_home (f.Unary op) = Expression unary_level
form_home f.SizeofExpr = Expression unary_level
form_home f.SizeofType = Expression unary_level
form_home f.Cast = Expression cast_level
form_home (f.Binary op) = Expression (binary_level op)
form_home f.Cond = Expression cond_level
form_home (f.Assign op) = Expression assign_level
form_home f.Comma = expr

-- the keywords that are words of specs
unfoldable pub keyword_home : Keyword → Place
keyword_home k.Static = p.SpecWord
keyword_home k.Extern = p.SpecWord
keyword_home k.Typedef = p.SpecWord
keyword_home k.Const = p.SpecWord
keyword_home k.Void = p.SpecWord
keyword_home k.Char = p.SpecWord
keyword_home k.Short = p.SpecWord
keyword_home k.Int = p.SpecWord
keyword_home k.Long = p.SpecWord
keyword_home k.Signed = p.SpecWord
keyword_home k.Unsigned = p.SpecWord
keyword_home _ = p.Nowhere

-- the place that a word is made for as a part
abbrev pub word_home : Word → Place
word_home (Key keyword) = keyword_home keyword
word_home (Mark sign) = p.Nowhere
word_home (w.Name bytes) = p.Name
word_home (w.Int bytes) = p.Int
word_home (w.Char bytes) = p.Char
word_home (w.Str bytes) = p.Str
word_home (w.Other kind bytes) = p.Nowhere

-- the place that a tree is made for
abbrev pub home : Tree → Place
home (Leaf word) = word_home word
home (At line) = p.Line
home (Node form parts) = form_home form
