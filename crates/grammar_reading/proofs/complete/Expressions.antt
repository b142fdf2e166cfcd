-- Expressions are read again, by what they are made of, level by level.
use Rattle.std.proofs.Common.{◌≡◌, ℕ, zero, suc, ◌+◌, ◌<◌, ◌≤◌, true, false, List, [], ◌∷◌, ◌++◌, drop, Some, None, refl, sym, ap, ◌∙◌, subst, arith, ⊎_elim}
use Rattle.std.specs.Prelude.{if◌then◌else◌, not, ◌-◌}
use Rattle.std.proofs.lemmas.Bool.{lt-ltb, true≢false, cases_lt, and_from, and_parts, le-leb, lt-leb}
use Rattle.c_lexer.specs.declared.token.Token.{Token}
use Rattle.c_tree.specs.Words.{Word, Name, Int, Char, Str, Mark, Key}
use Rattle.c_tree.specs.Forms.{Form}
use Rattle.c_tree.specs.Places.{Place, Expression}
use Rattle.c_tree.specs.Tree.{Tree, Trees, Leaf, At, Node, none, ◌▹◌, count}
use Rattle.c_tree.specs.Grammar.{rows, some, shape, form_home, Says, home, Part}
use Rattle.c_tree.specs.Spelling.{Said, spell, spell_all, filled, Spells, Piece}
use Rattle.c_tree.specs.Scopes.{Scope, is_scope, places, after}
use Rattle.c_tree.specs.Allowed.{Takes, Allowed, AllAllowed, IsExpression}
use Rattle.c_tree.specs.Depth.{depth, greatest_depth, weight}
use Rattle.c_tree.specs.declared.word.Sign.{Sign}
use Rattle.c_tree.specs.Operators.{binary_level, unary_sign, operand_level, binary_sign, assign_sign}
use Rattle.c_tree.specs.declared.operator.BinaryOp.{BinaryOp}
use Rattle.c_tree.specs.declared.operator.AssignOp.{AssignOp}
use Rattle.c_tree.specs.Forms as f
use Rattle.c_tree.specs.Places as p
use Rattle.c_tree.specs.declared.word.Sign.TheVariants as s
use Rattle.c_tree.specs.declared.word.Keyword.TheVariants as k
use Rattle.grammar_reading.specs.declared.kind.Kind.{Kind}
use Rattle.grammar_reading.specs.State.{State, kind_at, line_at, left_at, skip, first_kind, first_word, behind_first, kind_of_word, starts_by, kind_is_key, kind_is_mark, keyword_number, sign_number, at_mark, at_key, starts_type}
use Rattle.grammar_reading.specs.Reading.{◌>>=◌, Reader, parts_of, in_front, node, fixed, grown, token_node, snoc, joined, leaf}
use Rattle.grammar_reading.specs.Rooms.{read}
use Rattle.grammar_reading.specs.declared.kind.Kind.TheVariants as kinds
use Rattle.grammar_reading.specs.Expressions as e
use Rattle.grammar_reading.proofs.Words.{spells_split, IsNamed, word_back}
use Rattle.grammar_reading.proofs.Forms.{Took, Sound, all_sound, IsExprForm, IsGrownForm, Token_, expr_sort, is_name, is_token, only_node, plain, Grown, Outside, Prefix, Sort, expr_form, expr_weighs, grown_as, no_word_expr, none_not, one_not, outside_not, middle_prefix, is_assign, is_comma, is_cond, middle_binary, top_level}
use Rattle.grammar_reading.proofs.Nodes.{depth_flat, joined_none, joined_snoc, looser}
use Rattle.grammar_reading.proofs.complete.Reads.{Follows, all_complete, Reads, parts_again, fixed_again, said_kind, is_str, AllAgain, all_read, Follow, stops, sign_end, stops_tighter, said_first, word_allowed, no_postfix, no_str, stops_two, unary_sign_op, Complete, assign_sign_op, assign_sign_stops, binary_sign_stops, no_assign, no_binary, no_comma, no_question, yes_binary}
use Rattle.grammar_reading.proofs.complete.Firsts.{token_split, strings_kind, no_type, first, more_none, rows_long, GrownSplit, grown_split, is_expr, word_after_line, opens_none, at_once, begins, begins_primary, expr_inj}
use Rattle.grammar_reading.proofs.sound.Declarations.{goes}
use Rattle.grammar_reading.proofs.sound.Specs.{grows, primary_took, binary_took, assign_took, cond_took}

-- Tokens

pub said_word : (word : Word) → IsNamed word → (ws rest : List Token) → Spells (Said word ∷ []) ws rest → (first_word ws ≡ word) × (behind_first ws ≡ rest)
unfolding Spells
said_word word n [] rest h = absurd h
said_word word n (token ∷ tokens) rest h = (word_back word token n h.0, h.1)

token_reads : (form : Form) (word : Word) → IsNamed word → (state : State) (rest : List Token) → Spells (Said word ∷ []) state.words rest → Reads (token_node form) state (Node form (At (line_at state) ▹ Leaf word ▹ none)) rest
token_reads form word n state rest sp =
    let w = said_word word n state.words rest sp in
    (skip state, ap (λ x. Some (Node form (At (line_at state) ▹ Leaf x ▹ none), skip state)) w.0, w.1)

-- string literals are read up to what is none
strings_stop : (again : Trees → Reader) (parts : Trees) (kind : Kind) (state : State) → is_str kind ≡ false → e.strings_by again parts kind state ≡ Some (Node f.Strings parts, state)
strings_stop again parts kinds.Str state h = absurd (true≢false h)
strings_stop again parts _ state h = refl

strings_again : (more : Trees) (turns : ℕ) (done : Trees) (scope : Scope) (state : State) (rest : List Token) → AllAllowed more (places (rows p.Str (count more))) scope → Spells (filled (rows p.Str (count more)) (spell_all more)) state.words rest → is_str (first_kind rest) ≡ false → count more < turns → Reads (e.strings_from turns done) state (Node f.Strings (joined done more)) rest
unfolding AllAllowed spell_all Spells Takes is_scope after spell
strings_again more zero done scope state rest al sp end lt = absurd (omega (arith, lt))
strings_again none (suc turns) done scope state rest al sp end lt =
    (state, strings_stop (e.strings_from turns) done (kind_at state) state (ap (λ ws. is_str (first_kind ws)) sp ∙ end) ∙ ap (λ x. Some (Node f.Strings x, state)) (sym (joined_none done)), sp)
strings_again (first ▹ more) (suc turns) done scope state rest al sp end lt =
    let a = is_token p.Str first refl al.0 in
    let said = subst (λ t. Spells (spell t ++ filled (rows p.Str (count more)) (spell_all more)) state.words rest) a.1 sp in
    let kind = said_kind (Str a.0) tt (filled (rows p.Str (count more)) (spell_all more)) state.words rest said in
    let split = spells_split (Said (Str a.0) ∷ []) (filled (rows p.Str (count more)) (spell_all more)) state.words rest said in
    let word = said_word (Str a.0) tt state.words split.0 split.1 in
    let r = strings_again more turns (snoc done (Leaf (Str a.0))) (after first scope) (skip state) rest al.2 (subst (λ ws. Spells (filled (rows p.Str (count more)) (spell_all more)) ws rest) (sym word.1) split.2) end (omega (arith, lt)) in
    (r.0, ap (λ kind. e.strings_by (e.strings_from turns) done kind state) kind ∙ ap (λ w. e.strings_from turns (snoc done (Leaf w)) (skip state)) word.0 ∙ r.1 ∙ ap (λ x. Some (Node f.Strings x, r.0)) (joined_snoc done (Leaf (Str a.0)) more ∙ ap (λ t. joined done (t ▹ more)) (sym a.1)), r.2)

some_as_rows : (parts : Trees) (scope : Scope) → AllAllowed parts (places (some p.Str (count parts))) scope → some p.Str (count parts) ≡ rows p.Str (count parts)
unfolding AllAllowed
some_as_rows none scope al = absurd al
some_as_rows (first ▹ parts) scope al = refl

pub strings_reads : (state : State) (parts : Trees) (rest : List Token) → Allowed (Node f.Strings parts) state.scope → Spells (spell (Node f.Strings parts)) state.words rest → is_str (first_kind rest) ≡ false → Reads e.strings_at state (Node f.Strings parts) rest
unfolding Allowed spell shape
strings_reads state parts rest al sp end =
    let same = some_as_rows parts state.scope al.1 in
    let al2 = subst (λ l. AllAllowed parts (places l) state.scope) same al.1 in
    let sp2 = subst (λ l. Spells (filled l (spell_all parts)) state.words rest) same sp in
    let long = rows_long p.Str refl parts state.scope state.words rest al2 sp2 in
    strings_again parts (suc (left_at state)) none state.scope state rest al2 sp2 end (omega (arith, long))

-- Depth

pub expr_deep : (form : Form) (level room : ℕ) (parts : Trees) → IsExprForm form level → depth (Node form parts) < suc room → greatest_depth parts < room
expr_deep form level room parts facts h =
    let d = depth_flat form parts (plain form facts.plain).flat in
    let w = facts.weighs in
    omega (arith, d, w, h)

pub left_depth : (form : Form) (level : ℕ) (x a : Tree) (more : Trees) → IsExprForm form level → suc (depth a) ≤ depth (Node form (x ▹ a ▹ more))
unfolding greatest_depth
left_depth form level x a more facts =
    let d = depth_flat form (x ▹ a ▹ more) (plain form facts.plain).flat in
    let w = facts.weighs in
    omega (arith, d, w)

pub parts_depth : (x a : Tree) (more : Trees) (room : ℕ) → greatest_depth (x ▹ a ▹ more) < room → (depth a < room) × (greatest_depth more < room)
unfolding greatest_depth
parts_depth x a more room h = (omega (arith, h), omega (arith, h))

-- behind its first part an expression has parts that are read with less room
grown_read : (form : Form) (level : ℕ) → form_home form ≡ Expression level → all_read (drop 2 (shape form zero)) ≡ true
unfolding form_home shape
grown_read f.Unit level h = first_of (cc, search)
grown_read _ level h = first_of (cc, search)

module _ (inner : Place → Reader) (room : ℕ) (deeper : (place : Place) → Sound room place (inner place)) (again : AllAgain room inner) (room_left : 0 < room) where
  -- a form with its parts inside
  pub whole_again : (level : ℕ) (form : Form) → IsExprForm form level → all_read (shape form zero) ≡ true → (state : State) (parts : Trees) (rest : List Token) → Allowed (Node form parts) state.scope → depth (Node form parts) < suc room → Spells (spell (Node form parts)) state.words rest → Follows (shape form zero) parts rest → Reads (fixed inner form) state (Node form parts) rest
  whole_again level form facts inside state parts rest al deep sp fo =
      fixed_again room inner form facts.shaped (all_sound room inner deeper (shape form zero)) (all_complete room inner again (shape form zero) inside) state parts rest al (expr_deep form level room parts facts deep) sp fo

  -- a form that grows behind its left part
  pub grown_again : (form : Form) (front level line : ℕ) (middle : State) (a : Tree) (more : Trees) (rest : List Token) → IsGrownForm form front level → depth a < room → greatest_depth more < room → AllAllowed more (places (drop 2 (shape form zero))) middle.scope → Spells (filled (drop 2 (shape form zero)) (spell_all more)) middle.words rest → Follows (drop 2 (shape form zero)) more rest → (out : State) × (grown room inner form line a middle ≡ Some (Node form (At line ▹ a ▹ more), out)) × (out.words ≡ rest)
  grown_again form front level line middle a more rest facts da dm al sp fo =
      let items = drop 2 (shape form zero) in
      let r = parts_again room inner items (all_sound room inner deeper items) (all_complete room inner again items (grown_read form level facts.whole.home)) middle more rest al dm sp fo in
      (r.0, ap (λ b. if b then node form (in_front (At line) (in_front a (parts_of inner items middle))) else None) (lt-ltb (depth a) room da) ∙ ap (λ o. node form (in_front (At line) (in_front a o))) r.1, r.2)

  -- A chain: a tree was read as the left part of what may follow

  pub record Front (read : Reader) (from : ℕ → ℕ → Tree → Reader) (level : ℕ) (state : State) (tree : Tree) (rest : List Token) : Type 0 where
    pub out : State
    pub fuel : ℕ
    pub goes : read state ≡ from fuel (line_at state) tree out
    pub words : out.words ≡ rest
    pub enough : suc room ≤ fuel + depth tree
    pub took : Took (suc room) (Expression level) state tree out

  -- Primary expressions

  rebuilt : (line : ℕ) (x a : Tree) (more : Trees) (leaf : Tree) → x ≡ At line → a ≡ leaf → more ≡ none → (At line ▹ leaf ▹ none) ≡ (x ▹ a ▹ more)
  rebuilt line x a more leaf e h g = ap (λ y. y ▹ leaf ▹ none) (sym e) ∙ ap (λ y. x ▹ y ▹ none) (sym h) ∙ ap (λ y. x ▹ a ▹ y) (sym g)

  token_primary : (form : Form) (word : Word) → IsNamed word → (x a : Tree) (more : Trees) (state : State) (rest : List Token) → x ≡ At (line_at state) → more ≡ none → a ≡ Leaf word → Spells (spell a) state.words rest → e.primary_by inner room (kind_of_word word) state ≡ token_node form state → Reads (e.primary_at inner room) state (Node form (x ▹ a ▹ more)) rest
  unfolding spell
  token_primary form word n x a more state rest line last is sp here =
      let said = subst (λ y. Spells (spell y) state.words rest) is sp in
      let r = token_reads form word n state rest said in
      (r.0, ap (λ kind. e.primary_by inner room kind state) (said_kind word n [] state.words rest said) ∙ here ∙ r.1 ∙ ap (λ y. Some (Node form y, r.0)) (rebuilt (line_at state) x a more (Leaf word) line is last), r.2)

  pub token_form_reads : (form : Form) (x a : Tree) (more : Trees) (state : State) (rest : List Token) → expr_sort form ≡ Token_ → Allowed (Node form (x ▹ a ▹ more)) state.scope → Spells (spell (Node form (x ▹ a ▹ more))) state.words rest → is_str (first_kind rest) ≡ false → Reads (e.primary_at inner room) state (Node form (x ▹ a ▹ more)) rest
  unfolding Allowed spell shape Takes form_home
  token_form_reads f.Name x a more state rest h al sp end =
      let t = token_split p.Name x a more state rest al.1 sp in
      let n = is_name a t.2 in
      let kind = said_kind (Name n.0) tt [] state.words rest (subst (λ y. Spells (spell y) state.words rest) n.1 t.4) in
      let free = ap (λ q. starts_by q state) (sym kind) ∙ no_type 0 (Node f.Name (x ▹ a ▹ more)) [] state rest (omega arith) al (more_none (spell (Node f.Name (x ▹ a ▹ more))) state.words rest sp) in
      token_primary f.Name (Name n.0) tt x a more state rest t.0 t.1 n.1 t.4 (ap (λ b. e.named b state) free)
  token_form_reads f.Int x a more state rest h al sp end =
      let t = token_split p.Int x a more state rest al.1 sp in
      let n = is_token p.Int a refl t.2 in
      token_primary f.Int (Int n.0) tt x a more state rest t.0 t.1 n.1 t.4 refl
  token_form_reads f.Char x a more state rest h al sp end =
      let t = token_split p.Char x a more state rest al.1 sp in
      let n = is_token p.Char a refl t.2 in
      token_primary f.Char (Char n.0) tt x a more state rest t.0 t.1 n.1 t.4 refl
  token_form_reads f.Str x a more state rest h al sp end =
      let t = token_split p.Strings x a more state rest al.1 sp in
      let n = only_node p.Strings f.Strings a refl t.2 in
      let r = strings_reads state n.0 rest (subst (λ y. Allowed y state.scope) n.1 t.3) (subst (λ y. Spells (spell y) state.words rest) n.1 t.4) end in
      let parts : fixed e.strings_part f.Str state ≡ Some (Node f.Str (At (line_at state) ▹ Node f.Strings n.0 ▹ none), r.0) =
      ap (λ o. node f.Str (in_front (At (line_at state)) (o >>= (λ (y : Tree × State). Some (y.0 ▹ none, y.1))))) r.1 in
      (r.0, ap (λ kind. e.primary_by inner room kind state) (strings_kind a state rest t.2 t.3 t.4) ∙ parts ∙ ap (λ y. Some (Node f.Str y, r.0)) (rebuilt (line_at state) x a more (Node f.Strings n.0) t.0 n.1 t.1), r.2)
  token_form_reads _ x a more state rest h al sp end = absurd (cc)

-- Expressions are read again, level by level.

-- Behind a part stands a sign

pub close_stops : (level : ℕ) (sign : Sign) (pieces : List Piece) (middle rest : List Token) → stops level (kinds.Mark sign) ≡ true → Spells (Said (Mark sign) ∷ pieces) middle rest → stops level (first_kind middle) ≡ true
close_stops level sign pieces middle rest h sp = ap (stops level) (said_kind (Mark sign) tt pieces middle rest sp) ∙ h

-- nothing stands behind the last part
pub rest_stops : (level m : ℕ) (middle rest : List Token) → Spells [] middle rest → level ≤ m → stops m (first_kind rest) ≡ true → stops level (first_kind middle) ≡ true
unfolding Spells
rest_stops level m middle rest sp le h = ap (λ ws. stops level (first_kind ws)) sp ∙ stops_tighter level m (first_kind rest) le h

-- Postfix forms

no_binary_zero : (op : BinaryOp) → Grown (binary_level op) (binary_level op) ≡ Grown 0 0 → ⊥
no_binary_zero op g = grind arith

postfix_follows : (form : Form) (more : Trees) (rest : List Token) → expr_sort form ≡ Grown 0 0 → Follows (drop 2 (shape form zero)) more rest
unfolding shape Follow sign_end
postfix_follows f.Index none rest h = (tt, tt)
postfix_follows f.Index (a ▹ more) rest h = (tt, ((λ middle sp. close_stops 15 s.RightBracket [] middle rest refl sp), (tt, tt)))
postfix_follows f.Call none rest h = (tt, tt)
postfix_follows f.Call (a ▹ more) rest h = (tt, ((λ middle sp. said_kind (Mark s.RightParen) tt [] middle rest sp), (tt, tt)))
postfix_follows f.Dot none rest h = (tt, tt)
postfix_follows f.Dot (a ▹ more) rest h = (tt, ((λ middle sp. tt), tt))
postfix_follows f.Arrow none rest h = (tt, tt)
postfix_follows f.Arrow (a ▹ more) rest h = (tt, ((λ middle sp. tt), tt))
postfix_follows f.PostInc more rest h = (tt, tt)
postfix_follows f.PostDec more rest h = (tt, tt)
postfix_follows (f.Binary op) more rest h = absurd (no_binary_zero op h)
postfix_follows _ more rest h = absurd (cc)

postfix_sign : Form → Sign
postfix_sign f.Index = s.LeftBracket
postfix_sign f.Call = s.LeftParen
postfix_sign f.Dot = s.Dot
postfix_sign f.Arrow = s.Arrow
postfix_sign f.PostInc = s.PlusPlus
postfix_sign _ = s.MinusMinus

postfix_of : (form : Form) → expr_sort form ≡ Grown 0 0 → (e.postfix_op (postfix_sign form) ≡ Some form) × (drop 2 (shape form zero) ≡ Says (Mark (postfix_sign form)) ∷ drop 3 (shape form zero))
unfolding shape e.postfix_op postfix_sign
postfix_of (f.Binary op) h = absurd (no_binary_zero op h)
postfix_of _ h = first_of (cc, search)

postfix_is : (form : Form) (l : ℕ) (front level : ℕ) → expr_sort form ≡ Grown front level → form_home form ≡ Expression l → l ≤ 0 → expr_sort form ≡ Grown 0 0
unfolding form_home
postfix_is (f.Binary op) l front level h at le = grind arith
postfix_is _ l front level h at le = first_of (cc, grind arith)

not_paren : (form : Form) (l level : ℕ) → expr_sort form ≡ Prefix level → form_home form ≡ Expression l → l ≤ 0 → (form ≡ f.Paren → ⊥) → ⊥
unfolding form_home
not_paren f.Paren l level h at le other = other refl
not_paren _ l level h at le other = first_of (cc, grind arith)

module _ (inner : Place → Reader) (room : ℕ) (deeper : (place : Place) → Sound room place (inner place)) (again : AllAgain room inner) (room_left : 0 < room) where
  abbrev PostfixFront : State → Tree → List Token → Type 0
  PostfixFront state tree rest = Front inner room deeper again room_left (e.postfix_at inner room) (e.postfix_from inner room) 0 state tree rest

  -- a primary expression is the left part
  primary_front : (state : State) (tree : Tree) (rest : List Token) → (0 < depth tree) → Reads (e.primary_at inner room) state tree rest → PostfixFront state tree rest
  primary_front state tree rest deep r =
      record {
        out = r.0;
        fuel = room;
        goes = ap (λ o. o >>= (λ (x : Tree × State). e.postfix_from inner room room (line_at state) x.0 x.1)) r.1;
        words = r.2;
        enough = omega (arith, deep);
        took = primary_took inner room deeper room_left state (tree, r.0) r.1;
      }

  -- a left part grows once more
  abbrev FrontAt : (Reader) → (ℕ → ℕ → Tree → Reader) → ℕ → State → Tree → List Token → Type 0
  FrontAt read from level state tree rest = Front inner room deeper again room_left read from level state tree rest

  pub grown_step : (read : Reader) (from : ℕ → ℕ → Tree → Reader) (form : Form) (level : ℕ) (x a : Tree) (more : Trees) (state : State) (rest : List Token) → IsGrownForm form level level → (split : GrownSplit form level x a more state rest) → depth (Node form (x ▹ a ▹ more)) < suc room → (f0 : FrontAt read from level state a split.middle) → ((k : ℕ) → from (suc k) (line_at state) a f0.out ≡ (grown room inner form (line_at state) a f0.out >>= (λ (y : Tree × State). from k (line_at state) y.0 y.1))) → Follows (drop 2 (shape form zero)) more rest → FrontAt read from level state (Node form (x ▹ a ▹ more)) rest
  unfolding is_scope
  grown_step read from form level x a more state rest facts split deep f0 next fo = by f0.fuel f0.goes f0.enough where
    inside : greatest_depth (x ▹ a ▹ more) < room
    inside = expr_deep form level room (x ▹ a ▹ more) facts.whole deep

    both : (depth a < room) × (greatest_depth more < room)
    both = parts_depth x a more room inside

    r : (out : State) × (grown room inner form (line_at state) a f0.out ≡ Some (Node form (At (line_at state) ▹ a ▹ more), out)) × (out.words ≡ rest)
    r = grown_again inner room deeper again room_left form level level (line_at state) f0.out a more rest facts both.0 both.1 (subst (λ sc. AllAllowed more (places (drop 2 (shape form zero))) sc) (sym f0.took.scope) split.behind) (subst (λ ws. Spells (filled (drop 2 (shape form zero)) (spell_all more)) ws rest) (sym f0.words) split.last) fo

    by : (fuel : ℕ) → read state ≡ from fuel (line_at state) a f0.out → suc room ≤ fuel + depth a → FrontAt read from level state (Node form (x ▹ a ▹ more)) rest
    by zero goes enough = let d = both.0 in absurd (omega (arith, enough, d))
    by (suc k) goes enough =
        let long = left_depth form level x a more facts.whole in
        let long2 = left_depth form level (At (line_at state)) a more facts.whole in
        subst (λ y. FrontAt read from level state (Node form (y ▹ a ▹ more)) rest) (sym split.is) (record {
          out = r.0;
          fuel = k;
          goes = goes ∙ next k ∙ ap (λ o. o >>= (λ (y : Tree × State). from k (line_at state) y.0 y.1)) r.1;
          words = r.2;
          enough = omega (arith, enough, long2);
          took = grows inner room deeper room_left level level level form facts (omega arith) state f0.out a f0.took (Node form (At (line_at state) ▹ a ▹ more), r.0) r.1;
        })

  -- Postfix expressions

  -- its sign stands behind the left part
  postfix_kind : (form : Form) (more : Trees) (middle rest : List Token) → expr_sort form ≡ Grown 0 0 → Spells (filled (drop 2 (shape form zero)) (spell_all more)) middle rest → first_kind middle ≡ kinds.Mark (postfix_sign form)
  postfix_kind form more middle rest post sp =
      said_kind (Mark (postfix_sign form)) tt (filled (drop 3 (shape form zero)) (spell_all more)) middle rest (subst (λ l. Spells (filled l (spell_all more)) middle rest) (postfix_of form post).1 sp)

  postfix_grown : (form : Form) (x a : Tree) (more : Trees) (state : State) (rest : List Token) → expr_sort form ≡ Grown 0 0 → Allowed (Node form (x ▹ a ▹ more)) state.scope → depth (Node form (x ▹ a ▹ more)) < suc room → Spells (spell (Node form (x ▹ a ▹ more))) state.words rest → ((mid : List Token) → Takes (Expression 0) a → Allowed a state.scope → depth a < suc room → Spells (spell a) state.words mid → is_str (first_kind mid) ≡ false → PostfixFront state a mid) → PostfixFront state (Node form (x ▹ a ▹ more)) rest
  postfix_grown form x a more state rest post al deep sp ih =
      let facts = grown_as form 0 0 post in
      let split = grown_split form 0 0 x a more state rest facts al sp in
      let long = left_depth form 0 x a more facts.whole in
      let f0 = ih split.middle split.stands split.allowed (omega (arith, deep, long)) split.spelled (ap is_str (postfix_kind form more split.middle rest post split.last)) in
      let kind = ap first_kind f0.words ∙ postfix_kind form more split.middle rest post split.last in
      grown_step (e.postfix_at inner room) (e.postfix_from inner room) form 0 x a more state rest facts split deep f0 (λ k. ap (λ q. e.postfix_by inner room (e.postfix_from inner room k (line_at state)) (line_at state) a (e.of_mark e.postfix_op q) f0.out) kind ∙ ap (λ o. e.postfix_by inner room (e.postfix_from inner room k (line_at state)) (line_at state) a o f0.out) (postfix_of form post).0) (postfix_follows form more rest post)

  paren_reads : (x a : Tree) (more : Trees) (state : State) (rest : List Token) → Allowed (Node f.Paren (x ▹ a ▹ more)) state.scope → depth (Node f.Paren (x ▹ a ▹ more)) < suc room → Spells (spell (Node f.Paren (x ▹ a ▹ more))) state.words rest → Reads (e.primary_at inner room) state (Node f.Paren (x ▹ a ▹ more)) rest
  unfolding shape Follow sign_end spell Allowed AllAllowed
  paren_reads x a more state rest al deep sp =
      let r = whole_again inner room deeper again room_left 0 f.Paren (expr_form f.Paren refl refl) refl state (x ▹ a ▹ more) rest al deep sp (tt, ((λ middle g. close_stops 15 s.RightParen [] middle rest refl g), (tt, tt))) in
      let w = word_after_line (Mark s.LeftParen) x (spell a ++ filled (Says (Mark s.RightParen) ∷ []) (spell_all more)) state rest al.1.0 tt sp in
      (r.0, ap (λ kind. e.primary_by inner room kind state) w.0 ∙ r.1, r.2)

  node_depth : (form : Form) (l : ℕ) (parts : Trees) → form_home form ≡ Expression l → 0 < depth (Node form parts)
  node_depth form l parts at =
      let w = expr_weighs form l at in
      let one = w.1 in
      let d = depth_flat form parts w.0 in
      omega (arith, d, one)

  prefix_front : (form : Form) (x a : Tree) (more : Trees) (l level : ℕ) (state : State) (rest : List Token) → expr_sort form ≡ Prefix level → form_home form ≡ Expression l → l ≤ 0 → Allowed (Node form (x ▹ a ▹ more)) state.scope → depth (Node form (x ▹ a ▹ more)) < suc room → Spells (spell (Node form (x ▹ a ▹ more))) state.words rest → PostfixFront state (Node form (x ▹ a ▹ more)) rest
  prefix_front f.Paren x a more l level state rest h at le al deep sp = primary_front state (Node f.Paren (x ▹ a ▹ more)) rest (node_depth f.Paren l (x ▹ a ▹ more) at) (paren_reads x a more state rest al deep sp)
  prefix_front form x a more l level state rest h at le al deep sp = absurd (not_paren form l level h at le (λ e. cc))

  postfix_by_sort : (sort : Sort) (form : Form) (x a : Tree) (more : Trees) (l : ℕ) (state : State) (rest : List Token) → expr_sort form ≡ sort → form_home form ≡ Expression l → l ≤ 0 → Allowed (Node form (x ▹ a ▹ more)) state.scope → depth (Node form (x ▹ a ▹ more)) < suc room → Spells (spell (Node form (x ▹ a ▹ more))) state.words rest → is_str (first_kind rest) ≡ false → ((mid : List Token) → Takes (Expression 0) a → Allowed a state.scope → depth a < suc room → Spells (spell a) state.words mid → is_str (first_kind mid) ≡ false → PostfixFront state a mid) → PostfixFront state (Node form (x ▹ a ▹ more)) rest
  postfix_by_sort Outside form x a more l state rest h at le al deep sp end ih = absurd (outside_not form l h at)
  postfix_by_sort Token_ form x a more l state rest h at le al deep sp end ih = primary_front state (Node form (x ▹ a ▹ more)) rest (node_depth form l (x ▹ a ▹ more) at) (token_form_reads inner room deeper again room_left form x a more state rest h al sp end)
  postfix_by_sort (Prefix level) form x a more l state rest h at le al deep sp end ih = prefix_front form x a more l level state rest h at le al deep sp
  postfix_by_sort (Grown front level) form x a more l state rest h at le al deep sp end ih = postfix_grown form x a more state rest (postfix_is form l front level h at le) al deep sp ih

  pub postfix_front : (tree : Tree) (state : State) (rest : List Token) → Takes (Expression 0) tree → Allowed tree state.scope → depth tree < suc room → Spells (spell tree) state.words rest → is_str (first_kind rest) ≡ false → PostfixFront state tree rest
  unfolding Allowed Takes
  postfix_front (Leaf word) state rest h al deep sp end = let a = is_expr 0 (home (Leaf word)) h in absurd (no_word_expr word a.0 a.1)
  postfix_front (At line) state rest h al deep sp end = absurd h
  postfix_front (Node form none) state rest h al deep sp end = let a = is_expr 0 (form_home form) h in absurd (none_not form a.0 state.scope a.1 al.1)
  postfix_front (Node form (x ▹ none)) state rest h al deep sp end = let a = is_expr 0 (form_home form) h in absurd (one_not form a.0 x state.scope a.1 al.1)
  postfix_front (Node form (x ▹ a ▹ more)) state rest h al deep sp end =
      let b = is_expr 0 (form_home form) h in
      postfix_by_sort (expr_sort form) form x a more b.0 state rest refl b.1 b.2 al deep sp end (λ mid g al2 d2 sp2 end2. postfix_front a state mid g al2 d2 sp2 end2)

-- Unary expressions and casts are read again.

-- the level of a tree, and its begin
pub expr_level : (level : ℕ) (tree : Tree) → Takes (Expression level) tree → (l : ℕ) × (home tree ≡ Expression l) × (l ≤ level)
unfolding Takes
expr_level level tree h = is_expr level (home tree) h

pub level_takes : (level l : ℕ) (tree : Tree) → home tree ≡ Expression l → l ≤ level → Takes (Expression level) tree
unfolding Takes
level_takes level l tree e le = subst (IsExpression level) (sym e) le

rest_two : (l : ℕ) (middle rest : List Token) → Spells [] middle rest → stops l (first_kind rest) ≡ true → stops 2 (first_kind middle) ≡ true
unfolding Spells
rest_two l middle rest sp h = ap (λ ws. stops 2 (first_kind ws)) sp ∙ stops_two l (first_kind rest) h

rest_one : (l : ℕ) (middle rest : List Token) → Spells [] middle rest → stops l (first_kind rest) ≡ true → stops 1 (first_kind middle) ≡ true
rest_one l middle rest sp h = stops_tighter 1 2 (first_kind middle) (omega arith) (rest_two l middle rest sp h)

at_key_kind : (state : State) → kind_at state ≡ kinds.Key k.Sizeof → at_key k.Sizeof state ≡ true
unfolding keyword_number
at_key_kind state h = ap (kind_is_key k.Sizeof) h

open_kind : (state : State) → kind_at state ≡ kinds.Mark s.LeftParen → at_mark s.LeftParen state ≡ true
unfolding sign_number
open_kind state h = ap (kind_is_mark s.LeftParen) h

pub no_line_expr : (l : ℕ) → home (At 0) ≡ Expression l → ⊥
no_line_expr l h = cc

pub tree_depth : (tree : Tree) (l : ℕ) → home tree ≡ Expression l → 0 < depth tree
tree_depth (Leaf word) l e = absurd (no_word_expr word l e)
tree_depth (At line) l e = absurd (cc)
tree_depth (Node form parts) l e =
    let w = expr_weighs form l e in
    let d = depth_flat form parts w.0 in
    let one = w.1 in
    omega (arith, d, one)

-- a primary expression begins with no operator
primary_no_unary : (kind : Kind) → begins_primary kind ≡ true → (e.of_mark e.unary_op kind ≡ None) × (kind_is_key k.Sizeof kind ≡ false)
unfolding begins_primary e.unary_op
primary_no_unary (kinds.Mark s.LeftParen) h = (refl, refl)
primary_no_unary kinds.Name h = (refl, refl)
primary_no_unary kinds.Int h = (refl, refl)
primary_no_unary kinds.Char h = (refl, refl)
primary_no_unary kinds.Str h = (refl, refl)
primary_no_unary _ h = absurd (cc)

no_unary : (tree : Tree) (state : State) (rest : List Token) → Takes (Expression 0) tree → Allowed tree state.scope → Spells (spell tree) state.words rest → (e.of_mark e.unary_op (kind_at state) ≡ None) × (at_key k.Sizeof state ≡ false)
unfolding first
no_unary tree state rest h al sp = primary_no_unary (kind_at state) (and_parts (begins_primary (kind_at state)) (not (starts_type state)) (at_once (Expression 0) tree state rest refl h al sp)).0

module _ (inner : Place → Reader) (room : ℕ) (deeper : (place : Place) → Sound room place (inner place)) (again : AllAgain room inner) (room_left : 0 < room) where
  -- Postfix

  pub postfix_reads : (l : ℕ) (tree : Tree) (state : State) (rest : List Token) → Takes (Expression 0) tree → Allowed tree state.scope → depth tree < suc room → Spells (spell tree) state.words rest → stops l (first_kind rest) ≡ true → Reads (e.postfix_at inner room) state tree rest
  postfix_reads l tree state rest h al deep sp stop =
      let f = postfix_front inner room deeper again room_left tree state rest h al deep sp (no_str l (first_kind rest) stop) in
      by f.out f.fuel f.goes f.words f.enough
    where
      by : (out : State) (fuel : ℕ) → e.postfix_at inner room state ≡ e.postfix_from inner room fuel (line_at state) tree out → out.words ≡ rest → suc room ≤ fuel + depth tree → Reads (e.postfix_at inner room) state tree rest
      by out zero goes same enough = absurd (omega (arith, enough, deep))
      by out (suc n) goes same enough =
          (out, goes ∙ ap (λ o. e.postfix_by inner room (e.postfix_from inner room n (line_at state)) (line_at state) tree o out) (ap (λ ws. e.of_mark e.postfix_op (first_kind ws)) same ∙ no_postfix l (first_kind rest) stop), same)

  -- Unary

  low_unary : (l : ℕ) (tree : Tree) (state : State) (rest : List Token) → Takes (Expression 0) tree → Allowed tree state.scope → depth tree < suc room → Spells (spell tree) state.words rest → stops l (first_kind rest) ≡ true → Reads (e.unary_at inner room) state tree rest
  low_unary l tree state rest h al deep sp stop =
      let z = no_unary tree state rest h al sp in
      let r = postfix_reads l tree state rest h al deep sp stop in
      (r.0, ap (λ o. e.unary_by inner room o state) z.0 ∙ ap (λ b. if b then e.sizeof_at inner room state else e.postfix_at inner room state) z.1 ∙ r.1, r.2)

  high_unary : (form : Form) (x a : Tree) (more : Trees) (m : ℕ) (state : State) (rest : List Token) → expr_sort form ≡ Prefix 1 → Allowed (Node form (x ▹ a ▹ more)) state.scope → depth (Node form (x ▹ a ▹ more)) < suc room → Spells (spell (Node form (x ▹ a ▹ more))) state.words rest → stops m (first_kind rest) ≡ true → Reads (e.unary_at inner room) state (Node form (x ▹ a ▹ more)) rest
  unfolding form_home shape Allowed AllAllowed spell spell_all e.unary_op Follow Takes weight sign_end first
  high_unary f.PreInc x a more m state rest h al deep sp stop =
      let w = word_after_line (Mark s.PlusPlus) x (spell a ++ []) state rest al.1.0 tt sp in
      let r = whole_again inner room deeper again room_left 1 f.PreInc (expr_form f.PreInc refl refl) refl state (x ▹ a ▹ more) rest al deep sp (tt, ((λ middle g. rest_one m middle rest g stop), tt)) in
      (r.0, ap (λ kind. e.unary_by inner room (e.of_mark e.unary_op kind) state) w.0 ∙ r.1, r.2)
  high_unary f.PreDec x a more m state rest h al deep sp stop =
      let w = word_after_line (Mark s.MinusMinus) x (spell a ++ []) state rest al.1.0 tt sp in
      let r = whole_again inner room deeper again room_left 1 f.PreDec (expr_form f.PreDec refl refl) refl state (x ▹ a ▹ more) rest al deep sp (tt, ((λ middle g. rest_one m middle rest g stop), tt)) in
      (r.0, ap (λ kind. e.unary_by inner room (e.of_mark e.unary_op kind) state) w.0 ∙ r.1, r.2)
  high_unary (f.Unary op) x a more m state rest h al deep sp stop =
      let w = word_after_line (Mark (unary_sign op)) x (spell a ++ []) state rest al.1.0 tt sp in
      let r = whole_again inner room deeper again room_left 1 (f.Unary op) (expr_form (f.Unary op) refl refl) refl state (x ▹ a ▹ more) rest al deep sp (tt, ((λ middle g. rest_two m middle rest g stop), tt)) in
      (r.0, ap (λ kind. e.unary_by inner room (e.of_mark e.unary_op kind) state) w.0 ∙ ap (λ o. e.unary_by inner room o state) (unary_sign_op op) ∙ r.1, r.2)
  high_unary f.SizeofExpr x a more m state rest h al deep sp stop =
      let w = word_after_line (Key k.Sizeof) x (spell a ++ []) state rest al.1.0 tt sp in
      let inside = said_first (Key k.Sizeof) tt (spell a ++ []) state rest w.1 in
      let split = spells_split (spell a) [] (skip state).words rest inside.1 in
      let v = expr_level 1 a al.1.2.0 in
      let start = opens_none a v.0 (skip state) split.0 v.1 v.2 (word_allowed x a state.scope al.1.0 al.1.2.1) split.1 in
      let r = whole_again inner room deeper again room_left 1 f.SizeofExpr (expr_form f.SizeofExpr refl refl) refl state (x ▹ a ▹ more) rest al deep sp (tt, ((λ middle g. rest_one m middle rest g stop), tt)) in
      (r.0, ap (λ kind. e.unary_by inner room (e.of_mark e.unary_op kind) state) w.0 ∙ ap (λ b. if b then e.sizeof_at inner room state else e.postfix_at inner room state) (at_key_kind state w.0) ∙ ap (λ b. if b then fixed inner f.SizeofType state else fixed inner f.SizeofExpr state) start ∙ r.1, r.2)
  high_unary f.SizeofType x a more m state rest h al deep sp stop =
      let tail = filled (Says (Mark s.RightParen) ∷ []) (spell_all more) in
      let w = word_after_line (Key k.Sizeof) x (Said (Mark s.LeftParen) ∷ (spell a ++ tail)) state rest al.1.0 tt sp in
      let inside = said_first (Key k.Sizeof) tt (Said (Mark s.LeftParen) ∷ (spell a ++ tail)) state rest w.1 in
      let opened = said_first (Mark s.LeftParen) tt (spell a ++ tail) (skip state) rest inside.1 in
      let typed = begins p.Typename a tail (skip (skip state)) rest refl al.1.2.0 (word_allowed x a state.scope al.1.0 al.1.2.1) opened.1 in
      let start = and_from (at_mark s.LeftParen (skip state)) (starts_type (skip (skip state))) (open_kind (skip state) (said_kind (Mark s.LeftParen) tt (spell a ++ tail) (skip state).words rest inside.1)) typed in
      let r = whole_again inner room deeper again room_left 1 f.SizeofType (expr_form f.SizeofType refl refl) refl state (x ▹ a ▹ more) rest al deep sp (tt, (tt, ((λ middle g. said_kind (Mark s.RightParen) tt [] middle rest g), (tt, tt)))) in
      (r.0, ap (λ kind. e.unary_by inner room (e.of_mark e.unary_op kind) state) w.0 ∙ ap (λ b. if b then e.sizeof_at inner room state else e.postfix_at inner room state) (at_key_kind state w.0) ∙ ap (λ b. if b then fixed inner f.SizeofType state else fixed inner f.SizeofExpr state) start ∙ r.1, r.2)
  high_unary _ x a more m state rest h al deep sp stop = absurd (cc)

  pub unary_reads : (m : ℕ) (tree : Tree) (state : State) (rest : List Token) → Takes (Expression 1) tree → Allowed tree state.scope → depth tree < suc room → Spells (spell tree) state.words rest → stops m (first_kind rest) ≡ true → Reads (e.unary_at inner room) state tree rest
  unfolding Allowed
  unary_reads m tree state rest h al deep sp stop = let v = expr_level 1 tree h in by tree v.0 v.1 v.2 al deep sp where
    by : (tree : Tree) (l : ℕ) → home tree ≡ Expression l → l ≤ 1 → Allowed tree state.scope → depth tree < suc room → Spells (spell tree) state.words rest → Reads (e.unary_at inner room) state tree rest
    by tree zero e le al deep sp = low_unary m tree state rest (level_takes 0 0 tree e (omega arith)) al deep sp stop
    by (Leaf word) (suc l) e le al deep sp = absurd (no_word_expr word (suc l) e)
    by (At line) (suc l) e le al deep sp = absurd (cc)
    by (Node form none) (suc l) e le al deep sp = absurd (none_not form (suc l) state.scope e al.1)
    by (Node form (x ▹ none)) (suc l) e le al deep sp = absurd (one_not form (suc l) x state.scope e al.1)
    by (Node form (x ▹ a ▹ more)) (suc l) e le al deep sp =
        let one : suc l ≡ 1 = omega (arith, le) in
        high_unary form x a more m state rest (middle_prefix form (suc l) e (omega arith) (omega (arith, le)) ∙ ap Prefix one) al deep sp stop

  -- Casts

  cast_form_reads : (form : Form) (x a : Tree) (more : Trees) (m : ℕ) (state : State) (rest : List Token) → expr_sort form ≡ Prefix 2 → Allowed (Node form (x ▹ a ▹ more)) state.scope → depth (Node form (x ▹ a ▹ more)) < suc room → Spells (spell (Node form (x ▹ a ▹ more))) state.words rest → stops m (first_kind rest) ≡ true → Reads (e.cast_at inner room) state (Node form (x ▹ a ▹ more)) rest
  unfolding form_home shape Allowed AllAllowed spell spell_all Follow Takes first
  cast_form_reads f.Cast x a none m state rest h al deep sp stop = absurd al.1.2.2
  cast_form_reads f.Cast x a (b ▹ more) m state rest h al deep sp stop =
      let tail = filled (Says (Mark s.RightParen) ∷ Part (Expression 2) ∷ []) (spell_all (b ▹ more)) in
      let w = word_after_line (Mark s.LeftParen) x (spell a ++ tail) state rest al.1.0 tt sp in
      let opened = said_first (Mark s.LeftParen) tt (spell a ++ tail) state rest w.1 in
      let typed = begins p.Typename a tail (skip state) rest refl al.1.2.0 (word_allowed x a state.scope al.1.0 al.1.2.1) opened.1 in
      let start = and_from (at_mark s.LeftParen state) (starts_type (skip state)) (open_kind state w.0) typed in
      let r = whole_again inner room deeper again room_left 2 f.Cast (expr_form f.Cast refl refl) refl state (x ▹ a ▹ b ▹ more) rest al deep sp (tt, ((λ middle g. said_kind (Mark s.RightParen) tt (spell b ++ []) middle rest g), (tt, ((λ middle g. rest_two m middle rest g stop), tt)))) in
      (r.0, ap (λ t. if t then fixed inner f.Cast state else e.unary_at inner room state) start ∙ r.1, r.2)
  cast_form_reads _ x a more m state rest h al deep sp stop = absurd (cc)

  pub cast_reads : (m : ℕ) (tree : Tree) (state : State) (rest : List Token) → Takes (Expression 2) tree → Allowed tree state.scope → depth tree < suc room → Spells (spell tree) state.words rest → stops m (first_kind rest) ≡ true → Reads (e.cast_at inner room) state tree rest
  unfolding Allowed
  cast_reads m tree state rest h al deep sp stop = let v = expr_level 2 tree h in ⊎_elim (high tree v.0 v.1 v.2 al deep sp) (low v.0 v.1) (cases_lt 1 v.0) where
    low : (l : ℕ) → home tree ≡ Expression l → l ≤ 1 → Reads (e.cast_at inner room) state tree rest
    low l g le =
        let r = unary_reads m tree state rest (level_takes 1 l tree g le) al deep sp stop in
        (r.0, ap (λ t. if t then fixed inner f.Cast state else e.unary_at inner room state) (opens_none tree l state rest g le al sp) ∙ r.1, r.2)

    high : (tree : Tree) (l : ℕ) → home tree ≡ Expression l → l ≤ 2 → Allowed tree state.scope → depth tree < suc room → Spells (spell tree) state.words rest → 1 < l → Reads (e.cast_at inner room) state tree rest
    high (Leaf word) l e le al deep sp lt = absurd (no_word_expr word l e)
    high (At line) l e le al deep sp lt = absurd (cc)
    high (Node form none) l e le al deep sp lt = absurd (none_not form l state.scope e al.1)
    high (Node form (x ▹ none)) l e le al deep sp lt = absurd (one_not form l x state.scope e al.1)
    high (Node form (x ▹ a ▹ more)) l e le al deep sp lt =
        let two : l ≡ 2 = omega (arith, le, lt) in
        cast_form_reads form x a more m state rest (middle_prefix form l e (omega (arith, lt)) le ∙ ap Prefix two) al deep sp stop

-- Operators, conditions, assignments and commas are read again.

zero_two : zero + 2 ≡ 2
zero_two = omega arith

suc_two : (n : ℕ) → suc n + 2 ≡ suc (n + 2)
suc_two n = omega arith

op_level : (op : BinaryOp) (l : ℕ) → form_home (f.Binary op) ≡ Expression l → binary_level op ≡ l
unfolding form_home
op_level op l h = expr_inj (binary_level op) l h

-- the sign of an operator of this level stops what is tighter
sign_next : (op : BinaryOp) (n : ℕ) (more : Trees) (middle rest : List Token) → operand_level op ≡ n + 2 → Spells (filled (drop 2 (shape (f.Binary op) zero)) (spell_all more)) middle rest → stops (n + 2) (first_kind middle) ≡ true
unfolding shape
sign_next op n more middle rest same sp =
    ap (stops (n + 2)) (said_kind (Mark (binary_sign op)) tt (filled (Part (Expression (operand_level op)) ∷ []) (spell_all more)) middle rest sp) ∙ binary_sign_stops op (n + 2) (omega (arith, same))

twelve : 12 ≡ 10 + 2
twelve = refl

question_kind : (more : Trees) (middle rest : List Token) → Spells (filled (drop 2 (shape f.Cond zero)) (spell_all more)) middle rest → first_kind middle ≡ kinds.Mark s.Question
unfolding shape
question_kind more middle rest sp = said_kind (Mark s.Question) tt (filled (Part (Expression 15) ∷ Says (Mark s.Colon) ∷ Part (Expression 13) ∷ []) (spell_all more)) middle rest sp

question_stops : stops (10 + 2) (kinds.Mark s.Question) ≡ true
unfolding sign_end
question_stops = refl

question_mark : (kind : Kind) → kind ≡ kinds.Mark s.Question → kind_is_mark s.Question kind ≡ true
unfolding sign_number
question_mark kind h = ap (kind_is_mark s.Question) h

cond_follows : (more : Trees) (rest : List Token) → stops 13 (first_kind rest) ≡ true → Follows (drop 2 (shape f.Cond zero)) more rest
unfolding shape Follow sign_end spell_all
cond_follows none rest stop = (tt, tt)
cond_follows (a ▹ none) rest stop = (tt, ((λ middle g. close_stops 15 s.Colon [] middle rest refl g), (tt, tt)))
cond_follows (a ▹ b ▹ more) rest stop = (tt, ((λ middle g. close_stops 15 s.Colon (spell b ++ []) middle rest refl g), (tt, ((λ middle g. rest_stops 13 13 middle rest g (omega arith) stop), tt))))

assign_kind : (op : AssignOp) (more : Trees) (middle rest : List Token) → Spells (filled (drop 2 (shape (f.Assign op) zero)) (spell_all more)) middle rest → first_kind middle ≡ kinds.Mark (assign_sign op)
unfolding shape
assign_kind op more middle rest sp = said_kind (Mark (assign_sign op)) tt (filled (Part (Expression 14) ∷ []) (spell_all more)) middle rest sp

assign_follows : (op : AssignOp) (more : Trees) (rest : List Token) → stops 14 (first_kind rest) ≡ true → Follows (drop 2 (shape (f.Assign op) zero)) more rest
unfolding shape Follow
assign_follows op none rest stop = (tt, tt)
assign_follows op (a ▹ more) rest stop = (tt, ((λ middle g. rest_stops 14 14 middle rest g (omega arith) stop), tt))

unary_tree : (tree : Tree) (l : ℕ) → home tree ≡ Expression l → l ≤ 1 → e.is_unary tree ≡ true
unary_tree (Leaf word) l h le = absurd (no_word_expr word l h)
unary_tree (At line) l h le = absurd (cc)
unary_tree (Node form parts) l h le = ap e.is_unary_place h ∙ le-leb l 1 le

comma_kind : (more : Trees) (middle rest : List Token) → Spells (filled (drop 2 (shape f.Comma zero)) (spell_all more)) middle rest → first_kind middle ≡ kinds.Mark s.Comma
unfolding shape
comma_kind more middle rest sp = said_kind (Mark s.Comma) tt (filled (Part (Expression 14) ∷ []) (spell_all more)) middle rest sp

comma_stops : (more : Trees) (middle rest : List Token) → Spells (filled (drop 2 (shape f.Comma zero)) (spell_all more)) middle rest → stops 14 (first_kind middle) ≡ true
unfolding sign_end
comma_stops more middle rest sp = ap (stops 14) (comma_kind more middle rest sp)

comma_mark : (more : Trees) (middle rest : List Token) → Spells (filled (drop 2 (shape f.Comma zero)) (spell_all more)) middle rest → kind_is_mark s.Comma (first_kind middle) ≡ true
unfolding sign_number
comma_mark more middle rest sp = ap (kind_is_mark s.Comma) (comma_kind more middle rest sp)

comma_follows : (more : Trees) (rest : List Token) → stops 14 (first_kind rest) ≡ true → Follows (drop 2 (shape f.Comma zero)) more rest
unfolding shape Follow
comma_follows none rest stop = (tt, tt)
comma_follows (a ▹ more) rest stop = (tt, ((λ middle g. rest_stops 14 14 middle rest g (omega arith) stop), tt))

top_tree : (tree : Tree) (l : ℕ) → home tree ≡ Expression l → l ≤ 15
top_tree (Leaf word) l h = absurd (no_word_expr word l h)
top_tree (At line) l h = absurd (cc)
top_tree (Node form parts) l h = top_level form l h

module _ (inner : Place → Reader) (room : ℕ) (deeper : (place : Place) → Sound room place (inner place)) (again : AllAgain room inner) (room_left : 0 < room) where
  -- Operators

  abbrev BinaryFront : ℕ → State → Tree → List Token → Type 0
  BinaryFront n state tree rest = Front inner room deeper again room_left (e.binary_at inner room (suc n)) (λ fuel. e.binary_from inner room fuel (n + 2)) (suc (n + 2)) state tree rest

  abbrev BinaryReads : ℕ → Type 0
  BinaryReads n = (tree : Tree) (state : State) (rest : List Token) → Takes (Expression (n + 2)) tree → Allowed tree state.scope → depth tree < suc room → Spells (spell tree) state.words rest → stops (n + 2) (first_kind rest) ≡ true → Reads (e.binary_at inner room n) state tree rest

  binary_below : (n : ℕ) → BinaryReads n → (tree : Tree) (l : ℕ) (state : State) (rest : List Token) → home tree ≡ Expression l → l ≤ n + 2 → Allowed tree state.scope → depth tree < suc room → Spells (spell tree) state.words rest → stops (n + 2) (first_kind rest) ≡ true → BinaryFront n state tree rest
  binary_below n reads tree l state rest g le al deep sp stop =
      let r = reads tree state rest (level_takes (n + 2) l tree g le) al deep sp stop in
      let some = tree_depth tree l g in
      let took = binary_took inner room deeper room_left n state (tree, r.0) r.1 in
      record {
        out = r.0;
        fuel = room;
        goes = ap (λ o. o >>= (λ (x : Tree × State). e.binary_from inner room room (n + 2) (line_at state) x.0 x.1)) r.1;
        words = r.2;
        enough = omega (arith, some);
        took = looser (suc room) (suc room) (n + 2) (suc (n + 2)) state tree r.0 took took.deep (omega arith);
      }

  binary_next : (op : BinaryOp) (n : ℕ) (more : Trees) (state out : State) (a : Tree) (rest : List Token) → operand_level op ≡ n + 2 → Spells (filled (drop 2 (shape (f.Binary op) zero)) (spell_all more)) out.words rest → (k : ℕ) → e.binary_from inner room (suc k) (n + 2) (line_at state) a out ≡ (grown room inner (f.Binary op) (line_at state) a out >>= (λ (y : Tree × State). e.binary_from inner room k (n + 2) (line_at state) y.0 y.1))
  unfolding shape
  binary_next op n more state out a rest same sp k =
      let kind = said_kind (Mark (binary_sign op)) tt (filled (Part (Expression (operand_level op)) ∷ []) (spell_all more)) out.words rest sp in
      ap (λ kind. e.binary_by inner room (e.binary_from inner room k (n + 2) (line_at state)) (line_at state) a (e.at_level (n + 2) (e.of_mark e.binary_op kind)) out) kind
      ∙ ap (λ o. e.binary_by inner room (e.binary_from inner room k (n + 2) (line_at state)) (line_at state) a o out) (yes_binary op (n + 2) same)

  binary_follows : (op : BinaryOp) (n : ℕ) (more : Trees) (rest : List Token) → operand_level op ≡ n + 2 → stops (n + 2) (first_kind rest) ≡ true → Follows (drop 2 (shape (f.Binary op) zero)) more rest
  unfolding shape Follow
  binary_follows op n none rest same stop = (tt, tt)
  binary_follows op n (b ▹ more) rest same stop = (tt, ((λ middle g. rest_stops (operand_level op) (n + 2) middle rest g (omega (arith, same)) stop), tt))

  binary_grown : (n : ℕ) (op : BinaryOp) (x a : Tree) (more : Trees) (state : State) (rest : List Token) → operand_level op ≡ n + 2 → ((mid : List Token) → Takes (Expression (suc (n + 2))) a → Allowed a state.scope → depth a < suc room → Spells (spell a) state.words mid → stops (n + 2) (first_kind mid) ≡ true → BinaryFront n state a mid) → stops (n + 2) (first_kind rest) ≡ true → Allowed (Node (f.Binary op) (x ▹ a ▹ more)) state.scope → depth (Node (f.Binary op) (x ▹ a ▹ more)) < suc room → Spells (spell (Node (f.Binary op) (x ▹ a ▹ more))) state.words rest → BinaryFront n state (Node (f.Binary op) (x ▹ a ▹ more)) rest
  binary_grown n op x a more state rest same ih stop al deep sp =
      let facts = subst (λ l. IsGrownForm (f.Binary op) l l) (ap suc same) (grown_as (f.Binary op) (binary_level op) (binary_level op) refl) in
      let split = grown_split (f.Binary op) (suc (n + 2)) (suc (n + 2)) x a more state rest facts al sp in
      let long = left_depth (f.Binary op) (suc (n + 2)) x a more facts.whole in
      let f0 = ih split.middle split.stands split.allowed (omega (arith, deep, long)) split.spelled (sign_next op n more split.middle rest same split.last) in
      grown_step inner room deeper again room_left (e.binary_at inner room (suc n)) (λ fuel. e.binary_from inner room fuel (n + 2)) (f.Binary op) (suc (n + 2)) x a more state rest facts split deep f0 (binary_next op n more state f0.out a rest same (subst (λ ws. Spells (filled (drop 2 (shape (f.Binary op) zero)) (spell_all more)) ws rest) (sym f0.words) split.last)) (binary_follows op n more rest same stop)

  binary_front : (n : ℕ) → n ≤ 9 → BinaryReads n → (tree : Tree) (state : State) (rest : List Token) → Takes (Expression (suc (n + 2))) tree → Allowed tree state.scope → depth tree < suc room → Spells (spell tree) state.words rest → stops (n + 2) (first_kind rest) ≡ true → BinaryFront n state tree rest
  unfolding Allowed
  binary_front n few reads (Leaf word) state rest h al deep sp stop = let v = expr_level (suc (n + 2)) (Leaf word) h in absurd (no_word_expr word v.0 v.1)
  binary_front n few reads (At line) state rest h al deep sp stop = let v = expr_level (suc (n + 2)) (At line) h in absurd (no_line_expr v.0 v.1)
  binary_front n few reads (Node form none) state rest h al deep sp stop = let v = expr_level (suc (n + 2)) (Node form none) h in absurd (none_not form v.0 state.scope v.1 al.1)
  binary_front n few reads (Node form (x ▹ none)) state rest h al deep sp stop = let v = expr_level (suc (n + 2)) (Node form (x ▹ none)) h in absurd (one_not form v.0 x state.scope v.1 al.1)
  binary_front n few reads (Node form (x ▹ a ▹ more)) state rest h al deep sp stop =
      let v = expr_level (suc (n + 2)) (Node form (x ▹ a ▹ more)) h in
      ⊎_elim (here (λ mid g al2 d2 sp2 stop2. binary_front n few reads a state mid g al2 d2 sp2 stop2) v.0 v.1 v.2) (λ le. binary_below n reads (Node form (x ▹ a ▹ more)) v.0 state rest v.1 le al deep sp stop) (cases_lt (n + 2) v.0)
    where
      here : ((mid : List Token) → Takes (Expression (suc (n + 2))) a → Allowed a state.scope → depth a < suc room → Spells (spell a) state.words mid → stops (n + 2) (first_kind mid) ≡ true → BinaryFront n state a mid) → (l : ℕ) → form_home form ≡ Expression l → l ≤ suc (n + 2) → n + 2 < l → BinaryFront n state (Node form (x ▹ a ▹ more)) rest
      here ih l e le lt =
          let op = middle_binary form l e (omega (arith, lt)) (omega (arith, le, few)) in
          let P : Form → Type 0 = λ g. Allowed (Node g (x ▹ a ▹ more)) state.scope → depth (Node g (x ▹ a ▹ more)) < suc room → Spells (spell (Node g (x ▹ a ▹ more))) state.words rest → BinaryFront n state (Node g (x ▹ a ▹ more)) rest in
          let same = op_level op.0 l (sym (ap form_home op.1) ∙ e) in
          subst P (sym op.1) (binary_grown n op.0 x a more state rest (omega (arith, same, le, lt)) ih stop) al deep sp

  binary_reads : (n : ℕ) → n ≤ 10 → BinaryReads n
  binary_reads zero few tree state rest h al deep sp stop = cast_reads inner room deeper again room_left (zero + 2) tree state rest (subst (λ l. Takes (Expression l) tree) zero_two h) al deep sp stop
  binary_reads (suc n) few tree state rest h al deep sp stop =
      let front = binary_front n (omega (arith, few)) (binary_reads n (omega (arith, few))) tree state rest (subst (λ l. Takes (Expression l) tree) (suc_two n) h) al deep sp (stops_tighter (n + 2) (suc n + 2) (first_kind rest) (omega arith) stop) in
      by front.out front.fuel front.goes front.words front.enough
    where
      by : (out : State) (fuel : ℕ) → e.binary_at inner room (suc n) state ≡ e.binary_from inner room fuel (n + 2) (line_at state) tree out → out.words ≡ rest → suc room ≤ fuel + depth tree → Reads (e.binary_at inner room (suc n)) state tree rest
      by out zero goes same enough = absurd (omega (arith, enough, deep))
      by out (suc k) goes same enough =
          (out, goes ∙ ap (λ o. e.binary_by inner room (e.binary_from inner room k (n + 2) (line_at state)) (line_at state) tree o out) (ap (λ ws. e.at_level (n + 2) (e.of_mark e.binary_op (first_kind ws))) same ∙ no_binary (n + 2) (first_kind rest) (subst (λ l. stops l (first_kind rest) ≡ true) (suc_two n) stop)), same)

  -- Conditions

  cond_node : (x a : Tree) (more : Trees) (state : State) (rest : List Token) → Allowed (Node f.Cond (x ▹ a ▹ more)) state.scope → depth (Node f.Cond (x ▹ a ▹ more)) < suc room → Spells (spell (Node f.Cond (x ▹ a ▹ more))) state.words rest → stops 13 (first_kind rest) ≡ true → Reads (e.cond_at inner room) state (Node f.Cond (x ▹ a ▹ more)) rest
  unfolding is_scope
  cond_node x a more state rest al deep sp stop =
      let split = grown_split f.Cond 12 13 x a more state rest (grown_as f.Cond 12 13 refl) al sp in
      let long = left_depth f.Cond 13 x a more (grown_as f.Cond 12 13 refl).whole in
      let inside = parts_depth x a more room (expr_deep f.Cond 13 room (x ▹ a ▹ more) (grown_as f.Cond 12 13 refl).whole deep) in
      let question = question_kind more split.middle rest split.last in
      let first = binary_reads 10 (omega arith) a state split.middle (subst (λ l. Takes (Expression l) a) twelve split.stands) split.allowed (omega (arith, deep, long)) split.spelled (ap (λ kind. stops (10 + 2) kind) question ∙ question_stops) in
      let took = binary_took inner room deeper room_left 10 state (a, first.0) first.1 in
      let r = grown_again inner room deeper again room_left f.Cond 12 13 (line_at state) first.0 a more rest (grown_as f.Cond 12 13 refl) inside.0 inside.1 (subst (λ sc. AllAllowed more (places (drop 2 (shape f.Cond zero))) sc) (sym took.scope) split.behind) (subst (λ ws. Spells (filled (drop 2 (shape f.Cond zero)) (spell_all more)) ws rest) (sym first.2) split.last) (cond_follows more rest stop) in
      let whole : e.cond_at inner room state ≡ Some (Node f.Cond (At (line_at state) ▹ a ▹ more), r.0) =
      ap (λ o. o >>= (λ (y : Tree × State). if at_mark s.Question y.1 then grown room inner f.Cond (line_at state) y.0 y.1 else Some y)) first.1
      ∙ ap (λ b. if b then grown room inner f.Cond (line_at state) a first.0 else Some (a, first.0)) (ap (λ ws. kind_is_mark s.Question (first_kind ws)) first.2 ∙ question_mark (first_kind split.middle) question)
      ∙ r.1 in
      (r.0, whole ∙ ap (λ y. Some (Node f.Cond (y ▹ a ▹ more), r.0)) (sym split.is), r.2)

  cond_reads : (tree : Tree) (state : State) (rest : List Token) → Takes (Expression 13) tree → Allowed tree state.scope → depth tree < suc room → Spells (spell tree) state.words rest → stops 13 (first_kind rest) ≡ true → Reads (e.cond_at inner room) state tree rest
  unfolding Allowed
  cond_reads tree state rest h al deep sp stop = let v = expr_level 13 tree h in ⊎_elim (high tree v.0 v.1 v.2 al deep sp) (low v.0 v.1) (cases_lt 12 v.0) where
    low : (l : ℕ) → home tree ≡ Expression l → l ≤ 12 → Reads (e.cond_at inner room) state tree rest
    low l g le =
        let r = binary_reads 10 (omega arith) tree state rest (level_takes (10 + 2) l tree g (omega (arith, le))) al deep sp (stops_tighter (10 + 2) 13 (first_kind rest) (omega arith) stop) in
        (r.0, ap (λ o. o >>= (λ (y : Tree × State). if at_mark s.Question y.1 then grown room inner f.Cond (line_at state) y.0 y.1 else Some y)) r.1 ∙ ap (λ b. if b then grown room inner f.Cond (line_at state) tree r.0 else Some (tree, r.0)) (ap (λ ws. kind_is_mark s.Question (first_kind ws)) r.2 ∙ no_question (first_kind rest) stop), r.2)

    high : (tree : Tree) (l : ℕ) → home tree ≡ Expression l → l ≤ 13 → Allowed tree state.scope → depth tree < suc room → Spells (spell tree) state.words rest → 12 < l → Reads (e.cond_at inner room) state tree rest
    high (Leaf word) l g le al deep sp lt = absurd (no_word_expr word l g)
    high (At line) l g le al deep sp lt = absurd (cc)
    high (Node form none) l g le al deep sp lt = absurd (none_not form l state.scope g al.1)
    high (Node form (x ▹ none)) l g le al deep sp lt = absurd (one_not form l x state.scope g al.1)
    high (Node form (x ▹ a ▹ more)) l g le al deep sp lt =
        let P : Form → Type 0 = λ q. Allowed (Node q (x ▹ a ▹ more)) state.scope → depth (Node q (x ▹ a ▹ more)) < suc room → Spells (spell (Node q (x ▹ a ▹ more))) state.words rest → Reads (e.cond_at inner room) state (Node q (x ▹ a ▹ more)) rest in
        subst P (sym (is_cond form l g (omega (arith, le, lt)))) (λ al2 d2 sp2. cond_node x a more state rest al2 d2 sp2 stop) al deep sp

  -- Assignments

  assign_node : (op : AssignOp) (x a : Tree) (more : Trees) (state : State) (rest : List Token) → Allowed (Node (f.Assign op) (x ▹ a ▹ more)) state.scope → depth (Node (f.Assign op) (x ▹ a ▹ more)) < suc room → Spells (spell (Node (f.Assign op) (x ▹ a ▹ more))) state.words rest → stops 14 (first_kind rest) ≡ true → Reads (e.assign_at inner room) state (Node (f.Assign op) (x ▹ a ▹ more)) rest
  unfolding is_scope
  assign_node op x a more state rest al deep sp stop =
      let facts = grown_as (f.Assign op) 1 14 refl in
      let split = grown_split (f.Assign op) 1 14 x a more state rest facts al sp in
      let long = left_depth (f.Assign op) 14 x a more facts.whole in
      let inside = parts_depth x a more room (expr_deep (f.Assign op) 14 room (x ▹ a ▹ more) facts.whole deep) in
      let sign = assign_kind op more split.middle rest split.last in
      let v = expr_level 1 a split.stands in
      let first = cond_reads a state split.middle (level_takes 13 v.0 a v.1 (let le = v.2 in omega (arith, le))) split.allowed (omega (arith, deep, long)) split.spelled (ap (stops 13) sign ∙ assign_sign_stops op) in
      let took = cond_took inner room deeper room_left state (a, first.0) first.1 in
      let r = grown_again inner room deeper again room_left (f.Assign op) 1 14 (line_at state) first.0 a more rest facts inside.0 inside.1 (subst (λ sc. AllAllowed more (places (drop 2 (shape (f.Assign op) zero))) sc) (sym took.scope) split.behind) (subst (λ ws. Spells (filled (drop 2 (shape (f.Assign op) zero)) (spell_all more)) ws rest) (sym first.2) split.last) (assign_follows op more rest stop) in
      let whole : e.assign_at inner room state ≡ Some (Node (f.Assign op) (At (line_at state) ▹ a ▹ more), r.0) =
      ap (λ o. o >>= (λ (y : Tree × State). e.assign_by inner room (line_at state) y.0 (e.of_mark e.assign_op (kind_at y.1)) y.1)) first.1
      ∙ ap (λ kind. e.assign_by inner room (line_at state) a (e.of_mark e.assign_op kind) first.0) (ap first_kind first.2 ∙ sign)
      ∙ ap (λ o. e.assign_by inner room (line_at state) a o first.0) (assign_sign_op op)
      ∙ ap (λ b. if b then grown room inner (f.Assign op) (line_at state) a first.0 else None) (unary_tree a v.0 v.1 v.2)
      ∙ r.1 in
      (r.0, whole ∙ ap (λ y. Some (Node (f.Assign op) (y ▹ a ▹ more), r.0)) (sym split.is), r.2)

  assign_reads : (tree : Tree) (state : State) (rest : List Token) → Takes (Expression 14) tree → Allowed tree state.scope → depth tree < suc room → Spells (spell tree) state.words rest → stops 14 (first_kind rest) ≡ true → Reads (e.assign_at inner room) state tree rest
  unfolding Allowed
  assign_reads tree state rest h al deep sp stop = let v = expr_level 14 tree h in ⊎_elim (high tree v.0 v.1 v.2 al deep sp) (low v.0 v.1) (cases_lt 13 v.0) where
    low : (l : ℕ) → home tree ≡ Expression l → l ≤ 13 → Reads (e.assign_at inner room) state tree rest
    low l g le =
        let r = cond_reads tree state rest (level_takes 13 l tree g le) al deep sp (stops_tighter 13 14 (first_kind rest) (omega arith) stop) in
        (r.0, ap (λ o. o >>= (λ (y : Tree × State). e.assign_by inner room (line_at state) y.0 (e.of_mark e.assign_op (kind_at y.1)) y.1)) r.1 ∙ ap (λ o. e.assign_by inner room (line_at state) tree o r.0) (ap (λ ws. e.of_mark e.assign_op (first_kind ws)) r.2 ∙ no_assign (first_kind rest) stop), r.2)

    high : (tree : Tree) (l : ℕ) → home tree ≡ Expression l → l ≤ 14 → Allowed tree state.scope → depth tree < suc room → Spells (spell tree) state.words rest → 13 < l → Reads (e.assign_at inner room) state tree rest
    high (Leaf word) l g le al deep sp lt = absurd (no_word_expr word l g)
    high (At line) l g le al deep sp lt = absurd (cc)
    high (Node form none) l g le al deep sp lt = absurd (none_not form l state.scope g al.1)
    high (Node form (x ▹ none)) l g le al deep sp lt = absurd (one_not form l x state.scope g al.1)
    high (Node form (x ▹ a ▹ more)) l g le al deep sp lt =
        let P : Form → Type 0 = λ q. Allowed (Node q (x ▹ a ▹ more)) state.scope → depth (Node q (x ▹ a ▹ more)) < suc room → Spells (spell (Node q (x ▹ a ▹ more))) state.words rest → Reads (e.assign_at inner room) state (Node q (x ▹ a ▹ more)) rest in
        let op = is_assign form l g (omega (arith, le, lt)) in
        subst P (sym op.1) (λ al2 d2 sp2. assign_node op.0 x a more state rest al2 d2 sp2 stop) al deep sp

  -- Commas

  abbrev CommaFront : State → Tree → List Token → Type 0
  CommaFront state tree rest = Front inner room deeper again room_left (e.comma_at inner room) (e.comma_from inner room) 15 state tree rest

  comma_below : (tree : Tree) (l : ℕ) (state : State) (rest : List Token) → home tree ≡ Expression l → l ≤ 14 → Allowed tree state.scope → depth tree < suc room → Spells (spell tree) state.words rest → stops 14 (first_kind rest) ≡ true → CommaFront state tree rest
  comma_below tree l state rest g le al deep sp stop =
      let r = assign_reads tree state rest (level_takes 14 l tree g le) al deep sp stop in
      let some = tree_depth tree l g in
      let took = assign_took inner room deeper room_left state (tree, r.0) r.1 in
      record {
        out = r.0;
        fuel = room;
        goes = ap (λ o. o >>= (λ (x : Tree × State). e.comma_from inner room room (line_at state) x.0 x.1)) r.1;
        words = r.2;
        enough = omega (arith, some);
        took = looser (suc room) (suc room) 14 15 state tree r.0 took took.deep (omega arith);
      }

  comma_next : (more : Trees) (state out : State) (a : Tree) (rest : List Token) → Spells (filled (drop 2 (shape f.Comma zero)) (spell_all more)) out.words rest → (k : ℕ) → e.comma_from inner room (suc k) (line_at state) a out ≡ (grown room inner f.Comma (line_at state) a out >>= (λ (y : Tree × State). e.comma_from inner room k (line_at state) y.0 y.1))
  comma_next more state out a rest sp k =
      ap (λ b. e.comma_by inner room (e.comma_from inner room k (line_at state)) (line_at state) a b out) (comma_mark more out.words rest sp)

  comma_grown : (x a : Tree) (more : Trees) (state : State) (rest : List Token) → ((mid : List Token) → Takes (Expression 15) a → Allowed a state.scope → depth a < suc room → Spells (spell a) state.words mid → stops 14 (first_kind mid) ≡ true → CommaFront state a mid) → stops 14 (first_kind rest) ≡ true → Allowed (Node f.Comma (x ▹ a ▹ more)) state.scope → depth (Node f.Comma (x ▹ a ▹ more)) < suc room → Spells (spell (Node f.Comma (x ▹ a ▹ more))) state.words rest → CommaFront state (Node f.Comma (x ▹ a ▹ more)) rest
  comma_grown x a more state rest ih stop al deep sp =
      let split = grown_split f.Comma 15 15 x a more state rest (grown_as f.Comma 15 15 refl) al sp in
      let long = left_depth f.Comma 15 x a more (grown_as f.Comma 15 15 refl).whole in
      let f0 = ih split.middle split.stands split.allowed (omega (arith, deep, long)) split.spelled (comma_stops more split.middle rest split.last) in
      grown_step inner room deeper again room_left (e.comma_at inner room) (e.comma_from inner room) f.Comma 15 x a more state rest (grown_as f.Comma 15 15 refl) split deep f0 (comma_next more state f0.out a rest (subst (λ ws. Spells (filled (drop 2 (shape f.Comma zero)) (spell_all more)) ws rest) (sym f0.words) split.last)) (comma_follows more rest stop)

  comma_front : (tree : Tree) (state : State) (rest : List Token) → Takes (Expression 15) tree → Allowed tree state.scope → depth tree < suc room → Spells (spell tree) state.words rest → stops 14 (first_kind rest) ≡ true → CommaFront state tree rest
  unfolding Allowed
  comma_front (Leaf word) state rest h al deep sp stop = let v = expr_level 15 (Leaf word) h in absurd (no_word_expr word v.0 v.1)
  comma_front (At line) state rest h al deep sp stop = let v = expr_level 15 (At line) h in absurd (no_line_expr v.0 v.1)
  comma_front (Node form none) state rest h al deep sp stop = let v = expr_level 15 (Node form none) h in absurd (none_not form v.0 state.scope v.1 al.1)
  comma_front (Node form (x ▹ none)) state rest h al deep sp stop = let v = expr_level 15 (Node form (x ▹ none)) h in absurd (one_not form v.0 x state.scope v.1 al.1)
  comma_front (Node form (x ▹ a ▹ more)) state rest h al deep sp stop =
      let v = expr_level 15 (Node form (x ▹ a ▹ more)) h in
      ⊎_elim (here (λ mid g al2 d2 sp2 stop2. comma_front a state mid g al2 d2 sp2 stop2) v.0 v.1 v.2) (λ le. comma_below (Node form (x ▹ a ▹ more)) v.0 state rest v.1 le al deep sp stop) (cases_lt 14 v.0)
    where
      here : ((mid : List Token) → Takes (Expression 15) a → Allowed a state.scope → depth a < suc room → Spells (spell a) state.words mid → stops 14 (first_kind mid) ≡ true → CommaFront state a mid) → (l : ℕ) → form_home form ≡ Expression l → l ≤ 15 → 14 < l → CommaFront state (Node form (x ▹ a ▹ more)) rest
      here ih l g le lt =
          let P : Form → Type 0 = λ q. Allowed (Node q (x ▹ a ▹ more)) state.scope → depth (Node q (x ▹ a ▹ more)) < suc room → Spells (spell (Node q (x ▹ a ▹ more))) state.words rest → CommaFront state (Node q (x ▹ a ▹ more)) rest in
          subst P (sym (is_comma form l g (omega (arith, le, lt)))) (comma_grown x a more state rest ih stop) al deep sp

  comma_reads : (tree : Tree) (state : State) (rest : List Token) → Takes (Expression 15) tree → Allowed tree state.scope → depth tree < suc room → Spells (spell tree) state.words rest → stops 15 (first_kind rest) ≡ true → Reads (e.comma_at inner room) state tree rest
  comma_reads tree state rest h al deep sp stop =
      let front = comma_front tree state rest h al deep sp (stops_tighter 14 15 (first_kind rest) (omega arith) stop) in
      by front.out front.fuel front.goes front.words front.enough
    where
      by : (out : State) (fuel : ℕ) → e.comma_at inner room state ≡ e.comma_from inner room fuel (line_at state) tree out → out.words ≡ rest → suc room ≤ fuel + depth tree → Reads (e.comma_at inner room) state tree rest
      by out zero goes same enough = absurd (omega (arith, enough, deep))
      by out (suc n) goes same enough =
          (out, goes ∙ ap (λ b. e.comma_by inner room (e.comma_from inner room n (line_at state)) (line_at state) tree b out) (ap (λ ws. kind_is_mark s.Comma (first_kind ws)) same ∙ no_comma (first_kind rest) stop), same)

  -- All levels

  loose_reads : (n level : ℕ) (tree : Tree) (state : State) (rest : List Token) → level ≡ n + 13 → Takes (Expression level) tree → Allowed tree state.scope → depth tree < suc room → Spells (spell tree) state.words rest → stops level (first_kind rest) ≡ true → Reads (e.loose_at inner room n) state tree rest
  loose_reads zero level tree state rest same h al deep sp stop = let v = expr_level level tree h in cond_reads tree state rest (level_takes 13 v.0 tree v.1 (let le = v.2 in omega (arith, le, same))) al deep sp (stops_tighter 13 level (first_kind rest) (omega (arith, same)) stop)
  loose_reads (suc zero) level tree state rest same h al deep sp stop = let v = expr_level level tree h in assign_reads tree state rest (level_takes 14 v.0 tree v.1 (let le = v.2 in omega (arith, le, same))) al deep sp (stops_tighter 14 level (first_kind rest) (omega (arith, same)) stop)
  loose_reads (suc (suc n)) level tree state rest same h al deep sp stop = let v = expr_level level tree h in comma_reads tree state rest (level_takes 15 v.0 tree v.1 (top_tree tree v.0 v.1)) al deep sp (stops_tighter 15 level (first_kind rest) (omega (arith, same)) stop)

  pub expression_reads : (level : ℕ) → Complete (suc room) (Expression level) (e.expression_at inner room level)
  unfolding Follow
  expression_reads zero state tree rest h al deep sp stop = postfix_reads inner room deeper again room_left 0 tree state rest h al deep sp stop
  expression_reads (suc zero) state tree rest h al deep sp stop = unary_reads inner room deeper again room_left 1 tree state rest h al deep sp stop
  expression_reads (suc (suc n)) state tree rest h al deep sp stop = ⊎_elim high low (cases_lt 10 n) where
    high : 10 < n → Reads (e.expression_at inner room (suc (suc n))) state tree rest
    high lt =
        let r = loose_reads (n - 11) (suc (suc n)) tree state rest (omega (arith, lt)) h al deep sp stop in
        (r.0, ap (λ b. if b then e.binary_at inner room n state else e.loose_at inner room (n - 11) state) (lt-leb n 10 lt) ∙ r.1, r.2)

    low : n ≤ 10 → Reads (e.expression_at inner room (suc (suc n))) state tree rest
    low le =
        let v = expr_level (suc (suc n)) tree h in
        let r = binary_reads n le tree state rest (level_takes (n + 2) v.0 tree v.1 (let k2 = v.2 in omega (arith, k2))) al deep sp (stops_tighter (n + 2) (suc (suc n)) (first_kind rest) (omega arith) stop) in
        (r.0, ap (λ b. if b then e.binary_at inner room n state else e.loose_at inner room (n - 11) state) (le-leb n 10 le) ∙ r.1, r.2)
