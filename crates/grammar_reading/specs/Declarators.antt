-- Reading specs, tags, declarators and initializers (C99 6.7).
use Rattle.std.specs.Prelude.{ℕ, zero, suc, ◌+◌, Bool, true, false, ◌&&◌, ◌||◌, not, ◌==◌, nat_le, if◌then◌else◌, List, [], ◌∷◌, take, Option, Some, None}
use Rattle.c_lexer.specs.declared.token.Token.{Token}
use Rattle.c_tree.specs.declared.operator.RecordSort.{RecordSort}
use Rattle.c_tree.specs.declared.operator.RecordSort.TheVariants as r
use Rattle.c_tree.specs.declared.word.Keyword.{Keyword}
use Rattle.c_tree.specs.declared.word.Keyword.TheVariants as k
use Rattle.c_tree.specs.declared.word.Sign.TheVariants as s
use Rattle.c_tree.specs.Allowed.{Tally, no_words, with_keyword, are_specs}
use Rattle.c_tree.specs.Depth.{depth}
use Rattle.c_tree.specs.Forms.{Form}
use Rattle.c_tree.specs.Forms as f
use Rattle.c_tree.specs.Grammar.{shape}
use Rattle.c_tree.specs.Places.{Place, Expression}
use Rattle.c_tree.specs.Places as p
use Rattle.c_tree.specs.Scopes.{is_type, has_typedef, name_among}
use Rattle.c_tree.specs.Tree.{Tree, Trees, Leaf, At, Node, none, ◌▹◌}
use Rattle.grammar_reading.specs.declared.kind.Kind.{Kind}
use Rattle.grammar_reading.specs.declared.kind.Kind.TheVariants as kinds
use Rattle.grammar_reading.specs.declared.kind.SpecStart.{SpecStart}
use Rattle.grammar_reading.specs.declared.kind.SpecStart.TheVariants as starts
use Rattle.grammar_reading.specs.State.{State, first_kind, behind_first, kind_is_key, kind_at, line_at, word_at, bytes_at, left_at, at_mark, at_key, at_name, skip, with_flag, declaring, with_new_params, with_params_of}
use Rattle.grammar_reading.specs.Reading.{◌>>=◌, Reader, fixed, snoc, parts_of, optional_part, leaf, guarded, goes_on, goes_on_inside, commas_from, list_from, ending}
use Rattle.grammar_reading.specs.Expressions.{name_at, expression_at}

-- Specs

-- how a keyword goes on specs
unfoldable pub spec_key : Keyword → SpecStart
spec_key k.Void = starts.Word
spec_key k.Char = starts.Word
spec_key k.Short = starts.Word
spec_key k.Int = starts.Word
spec_key k.Long = starts.Word
spec_key k.Signed = starts.Word
spec_key k.Unsigned = starts.Word
spec_key k.Static = starts.Word
spec_key k.Extern = starts.Word
spec_key k.Typedef = starts.Word
spec_key k.Const = starts.Word
spec_key k.Struct = starts.Record r.Struct
spec_key k.Union = starts.Record r.Union
spec_key k.Enum = starts.Enum
spec_key _ = starts.End

-- whether there is a type word yet
abbrev pub has_type_word : Tally → Bool
has_type_word t = not (t.void + t.char + t.short + t.int + t.long + t.sign + t.whole == 0)

-- a name goes on specs where it is a type and no type word stands before it
abbrev pub spec_name : Bool → SpecStart
spec_name true = starts.TypedefName
spec_name false = starts.End

abbrev pub spec_by : Kind → Tally → State → SpecStart
spec_by (kinds.Key keyword) tally state = spec_key keyword
spec_by kinds.Name tally state = spec_name (is_type state.scope.names (bytes_at state) && not (has_type_word tally))
spec_by _ tally state = starts.End

abbrev pub spec_at : Tally → State → SpecStart
spec_at tally state = spec_by (kind_at state) tally state

-- with the keyword that stands here
abbrev pub with_key : Kind → Tally → Tally
with_key (kinds.Key keyword) tally = with_keyword keyword tally
with_key _ tally = tally

-- with a tag or a typedef name
abbrev pub with_whole : Tally → Tally
with_whole t = record t { whole = suc t.whole }

-- specs may stand here: they are words of one type, and have no `static`, `extern` and `typedef` where none may stand
abbrev pub may_stand : Bool → Tally → Bool
may_stand plain tally = are_specs tally && (not plain || tally.storage == 0)

-- a part that is a name
abbrev pub name_part : Place → Reader
name_part place = name_at

-- whether a declarator may have a name, whether it must have one
abbrev pub may_name : Place → Bool
may_name p.Abstract = false
may_name _ = true

abbrev pub must_name : Place → Bool
must_name p.Declarator = true
must_name _ = false

-- the words `const` in front, and the tokens behind them
abbrev pub leading_consts : List Token → ℕ
leading_consts [] = zero
leading_consts (token ∷ tokens) =
    if kind_is_key k.Const (first_kind (token ∷ tokens)) then suc (leading_consts tokens) else zero

abbrev pub behind_consts : List Token → List Token
behind_consts [] = []
behind_consts (token ∷ tokens) =
    if kind_is_key k.Const (first_kind (token ∷ tokens)) then behind_consts tokens else token ∷ tokens

abbrev pub past_consts : State → State
past_consts state = record { words = behind_consts state.words; scope = state.scope; params = state.params }

-- a base that has no words
abbrev pub no_base : Place → Reader
no_base sort state = if must_name sort then None else Some (Node f.Nothing none, state)

-- whether a parameter list is `(void)`
abbrev pub is_void_list : State → Bool
is_void_list state = at_key k.Void (skip state) && at_mark s.RightParen (skip (skip state))

-- the form of a suffix
abbrev pub suffix_by : Kind → Option Form
suffix_by (kinds.Mark s.LeftBracket) = Some f.ArraySuffix
suffix_by (kinds.Mark s.LeftParen) = Some f.FunctionSuffix
suffix_by _ = None

-- only the first suffix of a name says what the parameters next to the name are
abbrev pub keep_params : Bool → State → State → State
keep_params true before behind = behind
keep_params false before behind = with_params_of before behind

abbrev pub is_leaf : Tree → Bool
is_leaf (Leaf word) = true
is_leaf _ = false

-- inner reads a tree of a place with less room than there is here, and none where there is none
module _ (inner : Place → Reader) (room : ℕ) where
  -- Tags

  abbrev pub tag_names_only : State → Bool
  tag_names_only state = at_name (skip state) && not (at_mark s.LeftBrace (skip (skip state)))

  abbrev pub record_at : RecordSort → Reader
  record_at sort state =
      if tag_names_only state
      then fixed name_part (f.RecordTag sort) state
      else fixed inner (f.RecordBody sort) state

  abbrev pub enum_at : Reader
  enum_at state =
      if tag_names_only state
      then fixed name_part f.EnumTag state
      else ending f.EnumBody (parts_of inner (take 5 (shape (f.EnumBody false) zero)) state)

  -- the words of specs, with those that were read in front
  abbrev pub specs_by : (Tally → Trees → Reader) → Bool → Tally → Trees → SpecStart → Reader
  specs_by again plain tally parts starts.Word state =
      again (with_key (kind_at state) tally) (snoc parts (Leaf (word_at state))) (skip state)
  specs_by again plain tally parts starts.TypedefName state =
      again (with_whole tally) (snoc parts (Node f.TypedefName (Leaf (word_at state) ▹ none))) (skip state)
  specs_by again plain tally parts (starts.Record sort) state =
      record_at sort state >>= (λ x. again (with_whole tally) (snoc parts x.0) x.1)
  specs_by again plain tally parts starts.Enum state =
      enum_at state >>= (λ x. again (with_whole tally) (snoc parts x.0) x.1)
  specs_by again plain tally parts starts.End state =
      if may_stand plain tally then Some (Node f.Specs parts, state) else None

  abbrev pub specs_from : ℕ → Bool → Tally → Trees → Reader
  specs_from zero plain tally parts state = None
  specs_from (suc turns) plain tally parts state =
      specs_by (specs_from turns plain) plain tally parts (spec_at tally state) state

  abbrev pub plain_specs_at : Reader
  plain_specs_at state = specs_from (suc (left_at state)) true no_words (At (line_at state) ▹ none) state

  -- specs of a declaration, which with `typedef` say that its names are typedef names
  abbrev pub specs_flagged : Tree → State → State
  specs_flagged (Node made parts) state = with_flag (has_typedef parts || state.scope.typedef) state
  specs_flagged tree state = state

  abbrev pub specs_at : Reader
  specs_at state =
      specs_from (suc (left_at state)) false no_words (At (line_at state) ▹ none) state
      >>= (λ x. Some (x.0, specs_flagged x.0 x.1))

  -- Declarators

  -- a declarator inside is of the same sort
  abbrev pub same_sort : Place → Place → Reader
  same_sort sort place = inner sort

  abbrev pub pointer_at : Place → Reader
  pointer_at sort state =
      inner sort (past_consts (skip state))
      >>= (λ x. Some (Node (f.Pointer (leading_consts (behind_first state.words))) (At (line_at state) ▹ x.0 ▹ none), x.1))

  abbrev pub base_by : Place → Kind → Reader
  base_by sort kinds.Name state = if may_name sort then leaf state else no_base sort state
  base_by sort (kinds.Mark s.LeftParen) state =
      if at_mark s.Star (skip state) then fixed (same_sort sort) f.Parens state else no_base sort state
  base_by sort _ state = no_base sort state

  abbrev pub base_at : Place → Reader
  base_at sort state = base_by sort (kind_at state) state

  abbrev pub function_suffix_at : Reader
  function_suffix_at state =
      if is_void_list state
      then fixed inner f.VoidSuffix state >>= (λ x. Some (x.0, with_new_params state x.1))
      else fixed inner f.FunctionSuffix state >>= (λ x. Some (x.0, with_new_params state x.1))

  abbrev pub suffixes_by : (Bool → Trees → Reader) → Bool → Trees → Kind → Reader
  suffixes_by again first parts (kinds.Mark s.LeftBracket) state =
      fixed inner f.ArraySuffix state >>= (λ x. again false (snoc parts x.0) (keep_params first state x.1))
  suffixes_by again first parts (kinds.Mark s.LeftParen) state =
      function_suffix_at state >>= (λ x. again false (snoc parts x.0) (keep_params first state x.1))
  suffixes_by again first parts _ state = Some (Node f.Suffixes parts, state)

  abbrev pub suffixes_from : ℕ → Bool → Trees → Reader
  suffixes_from zero first parts state = None
  suffixes_from (suc turns) first parts state =
      suffixes_by (suffixes_from turns) first parts (kind_at state) state

  abbrev pub direct_at : Place → Reader
  direct_at sort state =
      base_at sort state
      >>= (λ base. suffixes_from (suc (left_at base.1)) (is_leaf base.0) none base.1
      >>= (λ x. Some (Node f.Direct (base.0 ▹ x.0 ▹ none), x.1)))

  abbrev pub layers_at : Place → Reader
  layers_at sort state = if at_mark s.Star state then pointer_at sort state else direct_at sort state

  -- all layers of a declarator lie on each path through it
  abbrev pub declarator_at : Place → Reader
  declarator_at sort state =
      layers_at sort state >>= (λ x. if nat_le (depth x.0) room then Some x else None)

  -- What counts nothing: its parts have the same room

  abbrev pub part_at : Place → Reader
  part_at p.PlainSpecs state = plain_specs_at state
  part_at p.Specs state = specs_at state
  part_at p.Declarator state = declarator_at p.Declarator state
  part_at p.Abstract state = declarator_at p.Abstract state
  part_at p.AnyDeclarator state = declarator_at p.AnyDeclarator state
  part_at p.Name state = name_at state
  part_at (Expression level) state = guarded room (expression_at inner room level) state
  part_at _ state = None

  abbrev pub typename_at : Reader
  typename_at state = fixed part_at f.Typename state

  -- with the name that a node declares
  abbrev pub declared : Bool → Form → Option (Trees × State) → Option (Tree × State)
  declared is_type made None = None
  declared is_type made (Some x) = Some (Node made x.0, declaring (name_among x.0) is_type x.1)

  abbrev pub param_at : Reader
  param_at state = declared false f.Param (parts_of part_at (shape f.Param zero) state)

  abbrev pub params_at : Reader
  params_at state =
      if at_mark s.RightParen state
      then Some (Node f.Params none, state)
      else commas_from param_at goes_on f.Params (left_at state) none state

  abbrev pub maybe_length_at : Reader
  maybe_length_at state = optional_part part_at f.MaybeLength (not (at_mark s.RightBracket state)) state

  -- Members and enumerators

  abbrev pub maybe_name_at : Reader
  maybe_name_at state = optional_part part_at f.MaybeName (at_name state) state

  abbrev pub member_names_at : Reader
  member_names_at state = commas_from (declarator_at p.Declarator) goes_on f.MemberNames (left_at state) none state

  abbrev pub member_part : Place → Reader
  member_part p.PlainSpecs state = plain_specs_at state
  member_part p.MemberNames state = member_names_at state
  member_part _ state = None

  abbrev pub member_at : Reader
  member_at state = fixed member_part f.Member state

  -- one member at least
  abbrev pub members_at : Reader
  members_at state =
      member_at state
      >>= (λ x. list_from member_at (at_mark s.RightBrace) f.Members (suc (left_at x.1)) (x.0 ▹ none) x.1)

  abbrev pub maybe_value_at : Reader
  maybe_value_at state = optional_part part_at f.MaybeValue (at_mark s.Equal state) state

  abbrev pub enumerator_part : Place → Reader
  enumerator_part p.Name state = name_at state
  enumerator_part p.MaybeValue state = maybe_value_at state
  enumerator_part _ state = None

  abbrev pub enumerator_at : Reader
  enumerator_at state = declared false f.Enumerator (parts_of enumerator_part (shape f.Enumerator zero) state)

  abbrev pub enumerators_at : Reader
  enumerators_at state = commas_from enumerator_at goes_on_inside f.Enumerators (left_at state) none state

  -- Initializers

  abbrev pub init_list_at : Reader
  init_list_at state = ending f.InitList (parts_of inner (take 3 (shape (f.InitList false) zero)) state)

  abbrev pub init_at : Reader
  init_at state = if at_mark s.LeftBrace state then init_list_at state else fixed part_at f.InitExpr state

  abbrev pub inits_at : Reader
  inits_at state = commas_from init_at goes_on_inside f.Inits (left_at state) none state

  -- Names of declarations

  abbrev pub declared_at : Reader
  declared_at state = declared state.scope.typedef f.Declared (parts_of part_at (shape f.Declared zero) state)

  abbrev pub init_part : Place → Reader
  init_part place = init_at

  -- a typedef name has no initializer
  abbrev pub maybe_init_at : Reader
  maybe_init_at state =
      optional_part init_part f.MaybeInit (at_mark s.Equal state && not state.scope.typedef) state

  -- the rest of an entry, behind its declarator
  abbrev pub entry_from : Tree → Reader
  entry_from declared state = maybe_init_at state >>= (λ x. Some (Node f.Entry (declared ▹ x.0 ▹ none), x.1))

  abbrev pub entry_at : Reader
  entry_at state = declared_at state >>= (λ x. entry_from x.0 x.1)

  abbrev pub some_names_at : Reader
  some_names_at state = commas_from entry_at goes_on f.Names (left_at state) none state

  abbrev pub names_at : Reader
  names_at state = if at_mark s.Semicolon state then Some (Node f.Names none, state) else some_names_at state
