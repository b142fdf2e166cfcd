-- Where a tree may stand.
use Rattle.std.specs.Prelude.{ℕ}

pub data Place : Type 0 where
  -- an external declaration, and the body of a function
  External : Place
  Body : Place
  -- specs; the same without `static`, `extern` and `typedef`; one of their words
  Specs : Place
  PlainSpecs : Place
  SpecWord : Place
  -- the names of a declaration with their initializers; the same, at least one; one of them
  Names : Place
  SomeNames : Place
  Entry : Place
  -- a declarator whose name is declared here
  Declared : Place
  MaybeInit : Place
  -- what stands in a tag's braces
  MaybeName : Place
  Members : Place
  Member : Place
  MemberNames : Place
  Enumerators : Place
  Enumerator : Place
  MaybeValue : Place
  -- a declarator with a name, without a name, either; one whose first layer is a pointer
  Declarator : Place
  Abstract : Place
  AnyDeclarator : Place
  PointerLayer : Place
  -- what a declarator's suffixes stand behind: a name, nothing, or parentheses
  Base : Place
  Suffixes : Place
  Suffix : Place
  MaybeLength : Place
  Params : Place
  Param : Place
  Typename : Place
  -- an initializer, and those in braces
  Init : Place
  Inits : Place
  -- what stands in a block: declarations and statements
  Items : Place
  Item : Place
  -- a statement; one that is a scope of its own; the same before `else`
  Statement : Place
  Branch : Place
  ClosedBranch : Place
  -- what stands before the first `;` of a `for`
  ForStart : Place
  MaybeExpr : Place
  -- an expression of at most this level
  Expression : (level : ℕ) → Place
  Arguments : Place
  Strings : Place
  -- a token: a name, constants and a string literal
  Name : Place
  Int : Place
  Char : Place
  Str : Place
  -- the line of the word behind
  Line : Place
  -- what stands nowhere as a part
  Nowhere : Place
