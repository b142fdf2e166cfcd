-- Lists, trees of a place that one form is made for, expressions where there is room, tags and specs are read again.
use Rattle.std.proofs.Common.{◌≡◌, ℕ, zero, suc, ◌+◌, ◌<◌, ◌≤◌, Bool, true, false, List, [], ◌∷◌, ◌++◌, length, Some, sym, ap, ◌∙◌, subst, arith, refl, ⊎_elim, take, None}
use Rattle.std.specs.Prelude.{if◌then◌else◌, ◌&&◌, ◌||◌, not, ◌==◌, nat_le}
use Rattle.std.proofs.lemmas.Bool.{and_right, false≢true, cases_lt, and_parts, eqb-true, leb-true, eq-eqb, ne_eqb, and_from}
use Rattle.c_lexer.specs.declared.token.Token.{Token}
use Rattle.c_tree.specs.Words.{Mark, Key, Name, Word}
use Rattle.c_tree.specs.Forms.{Form}
use Rattle.c_tree.specs.Places.{Place, Expression}
use Rattle.c_tree.specs.Tree.{Tree, Trees, Node, none, ◌▹◌, count, Leaf, At}
use Rattle.c_tree.specs.Grammar.{rows, behind_commas, commas, some, Item, shape, home, form_home, Here, Part, key, closed, mark, word_home, keyword_home}
use Rattle.c_tree.specs.Spelling.{Piece, Said, spell, spell_all, filled, Spells, words}
use Rattle.c_tree.specs.Scopes.{Scope, is_scope, places, after, left, is_type, name_of, name_among}
use Rattle.c_tree.specs.Allowed.{Takes, Allowed, AllAllowed, Tally, are_specs, is_one_type, is_integer_type, tally, no_words, with_keyword, with_part, storage_of, obeys, is_type_name}
use Rattle.c_tree.specs.Depth.{greatest_depth, depth, weight, is_of_declarator}
use Rattle.c_tree.specs.declared.word.Sign.{Sign}
use Rattle.c_tree.specs.declared.operator.RecordSort.{RecordSort}
use Rattle.c_tree.specs.declared.word.Keyword.{Keyword}
use Rattle.c_tree.specs.Operators.{record_word}
use Rattle.c_tree.specs.declared.word.Sign.TheVariants as s
use Rattle.c_tree.specs.Places as p
use Rattle.c_tree.specs.Forms as f
use Rattle.c_tree.specs.declared.word.Keyword.TheVariants as k
use Rattle.c_tree.specs.declared.operator.RecordSort.TheVariants as r
use Rattle.grammar_reading.specs.State.{State, first_kind, skip, behind_first, kind_is_mark, at_mark, sign_number, left_at, past, kind_is_name, at_name, kind_at, word_at, bytes_at, line_at, is_spec_key}
use Rattle.grammar_reading.specs.Reading.{◌>>=◌, Reader, snoc, joined, commas_by, commas_from, list_by, list_from, parts_of, node, optional_part, goes_on_inside, guarded, goes_on, fixed, ending_by, ending}
use Rattle.grammar_reading.specs.declared.kind.Kind.{Kind}
use Rattle.grammar_reading.specs.Rooms.{read}
use Rattle.grammar_reading.specs.Laws.{behind}
use Rattle.grammar_reading.specs.declared.kind.Kind.TheVariants as kinds
use Rattle.grammar_reading.specs.Expressions as e
use Rattle.grammar_reading.specs.Declarators as d
use Rattle.grammar_reading.specs.declared.kind.SpecStart.TheVariants as starts
use Rattle.grammar_reading.proofs.Words.{spells_split}
use Rattle.grammar_reading.proofs.Forms.{Sound, AllSound, of_word, only_form, only_node, only_takes, tree_node, all_sound, filled_both, is_name, plain}
use Rattle.grammar_reading.proofs.complete.Reads.{Follow, Complete, Reads, said_kind, said_first, greatest_first, spells_shorter, stops, Follows, AllComplete, parts_again, ends_list, sign_end, AllAgain, all_complete, fixed_again, word_allowed, line_first, specs_stop, line_scope, said_bytes}
use Rattle.grammar_reading.proofs.sound.Declarations.{argument_sound}
use Rattle.grammar_reading.proofs.Nodes.{joined_none, joined_snoc, depth_flat}
use Rattle.grammar_reading.proofs.complete.Firsts.{nullable, rows_long, expr_kind, begins_expr, word_after_line, start_no_mark, begins, first}
use Rattle.grammar_reading.proofs.complete.Expressions.{expression_reads, expr_level, tree_depth, said_word}
use Rattle.grammar_reading.proofs.sound.Specs.{Within, within_self, part_within, within_both, tally_snoc, record_took, enum_took, name_took}

-- as many words as commas
pub behind_long : (place : Place) (trees : Trees) (scope : Scope) (ws rest : List Token) → AllAllowed trees (places (behind_commas place (count trees))) scope → Spells (filled (behind_commas place (count trees)) (spell_all trees)) ws rest → count trees + length rest ≤ length ws
unfolding Spells spell_all AllAllowed
behind_long place none scope ws rest al sp = let e = ap length sp in omega (arith, e)
behind_long place (tree ▹ trees) scope [] rest al sp = absurd sp
behind_long place (tree ▹ trees) scope (token ∷ ws) rest al sp =
    let a = spells_split (spell tree) (filled (behind_commas place (count trees)) (spell_all trees)) ws rest sp.1 in
    let b = behind_long place trees (if is_scope place then scope else after tree scope) a.0 rest al.2 a.2 in
    let c = spells_shorter (spell tree) ws a.0 a.1 in
    omega (arith, b, c)

-- A list with commas, before what ends it

module _ (bound : ℕ) (place : Place) (item : Reader) (more : State → Bool) (form : Form) (rest : List Token)
    (sound : Sound bound place item) (again : Complete bound place item)
    (after_comma : (tree : Tree) (ws : List Token) → first_kind ws ≡ kinds.Mark s.Comma → Follow place tree ws)
    (at_end : (tree : Tree) → Follow place tree rest)
    (stops_here : (state : State) → state.words ≡ rest → more state ≡ false)
    (goes : (state : State) (tree : Tree) (pieces : List Piece) (scope : Scope) → Takes place tree → Allowed tree scope → Spells (Said (Mark s.Comma) ∷ (spell tree ++ pieces)) state.words rest → more state ≡ true) where
  pub commas_again : (trees : Trees) (tree : Tree) (turns : ℕ) (done : Trees) (state : State) → Takes place tree → Allowed tree state.scope → AllAllowed trees (places (behind_commas place (count trees))) (if is_scope place then state.scope else after tree state.scope) → greatest_depth (tree ▹ trees) < bound → Spells (spell tree ++ filled (behind_commas place (count trees)) (spell_all trees)) state.words rest → count trees < turns → Reads (commas_from item more form turns done) state (Node form (joined done (tree ▹ trees))) rest
  unfolding AllAllowed spell_all Spells
  commas_again trees tree zero done state takes al all deep sp lt = absurd (omega (arith, lt))
  commas_again none tree (suc turns) done state takes al all deep sp lt =
      let a = spells_split (spell tree) [] state.words rest sp in
      let d = greatest_first tree none bound deep in
      let one = again state tree rest takes al d.0 (subst (λ ws. Spells (spell tree) state.words ws) a.2 a.1) (at_end tree) in
      (one.0, ap (λ o. o >>= (λ (y : Tree × State). commas_by item more form (commas_from item more form turns) (snoc done y.0) (more y.1) y.1)) one.1 ∙ ap (λ b. commas_by item more form (commas_from item more form turns) (snoc done tree) b one.0) (stops_here one.0 one.2) ∙ ap (λ x. Some (Node form x, one.0)) (sym (joined_none (snoc done tree)) ∙ joined_snoc done tree none), one.2)
  commas_again (next ▹ trees) tree (suc turns) done state takes al all deep sp lt =
      let tail = filled (behind_commas place (count trees)) (spell_all trees) in
      let a = spells_split (spell tree) (Said (Mark s.Comma) ∷ (spell next ++ tail)) state.words rest sp in
      let d = greatest_first tree (next ▹ trees) bound deep in
      let comma = said_kind (Mark s.Comma) tt (spell next ++ tail) a.0 rest a.2 in
      let one = again state tree a.0 takes al d.0 a.1 (after_comma tree a.0 comma) in
      let took = sound state (tree, one.0) one.1 in
      let there = subst (λ ws. Spells (Said (Mark s.Comma) ∷ (spell next ++ tail)) ws rest) (sym one.2) a.2 in
      let passed = said_first (Mark s.Comma) tt (spell next ++ tail) one.0 rest there in
      let scope = if is_scope place then state.scope else after tree state.scope in
      let same = sym took.scope in
      let r = commas_again trees next turns (snoc done tree) (skip one.0) all.0 (subst (λ sc. Allowed next sc) same all.1) (subst (λ sc. AllAllowed trees (places (behind_commas place (count trees))) (if is_scope place then sc else after next sc)) same all.2) d.1 passed.1 (omega (arith, lt)) in
      (r.0, ap (λ o. o >>= (λ (y : Tree × State). commas_by item more form (commas_from item more form turns) (snoc done y.0) (more y.1) y.1)) one.1 ∙ ap (λ b. commas_by item more form (commas_from item more form turns) (snoc done tree) b one.0) (goes one.0 next tail scope all.0 all.1 there) ∙ r.1 ∙ ap (λ x. Some (Node form x, r.0)) (joined_snoc done tree (next ▹ trees)), r.2)

  -- from its start
  pub commas_reads : (trees : Trees) (state : State) → 0 < length rest → AllAllowed trees (places (commas place (count trees))) state.scope → (0 < count trees) → greatest_depth trees < bound → Spells (filled (commas place (count trees)) (spell_all trees)) state.words rest → Reads (commas_from item more form (length state.words) none) state (Node form trees) rest
  unfolding AllAllowed spell_all
  commas_reads none state full al some deep sp = absurd (omega (arith, some))
  commas_reads (tree ▹ trees) state full al some deep sp =
      let a = spells_split (spell tree) (filled (behind_commas place (count trees)) (spell_all trees)) state.words rest sp in
      let b = behind_long place trees (if is_scope place then state.scope else after tree state.scope) a.0 rest al.2 a.2 in
      let c = spells_shorter (spell tree) state.words a.0 a.1 in
      commas_again trees tree (length state.words) none state al.0 al.1 al.2 deep sp (omega (arith, b, c, full))

-- A list up to a sign

module _ (bound : ℕ) (place : Place) (item : Reader) (stops : State → Bool) (form : Form) (rest : List Token)
    (sound : Sound bound place item) (again : Complete bound place item)
    (follows : (tree : Tree) (trees : Trees) (scope : Scope) (ws : List Token) → AllAllowed trees (places (rows place (count trees))) scope → Spells (filled (rows place (count trees)) (spell_all trees)) ws rest → Follow place tree ws)
    (stops_here : (state : State) → state.words ≡ rest → stops state ≡ true)
    (goes : (state : State) (tree : Tree) (pieces : List Piece) → Takes place tree → Allowed tree state.scope → Spells (spell tree ++ pieces) state.words rest → (stops state ≡ false))
    (full : nullable place ≡ false) where
  pub list_again : (trees : Trees) (turns : ℕ) (done : Trees) (state : State) → AllAllowed trees (places (rows place (count trees))) state.scope → greatest_depth trees < bound → Spells (filled (rows place (count trees)) (spell_all trees)) state.words rest → count trees < turns → Reads (list_from item stops form turns done) state (Node form (joined done trees)) rest
  unfolding AllAllowed spell_all Spells
  list_again trees zero done state al deep sp lt = absurd (omega (arith, lt))
  list_again none (suc turns) done state al deep sp lt =
      (state, ap (λ b. list_by item stops form (list_from item stops form turns) done b state) (stops_here state sp) ∙ ap (λ x. Some (Node form x, state)) (sym (joined_none done)), sp)
  list_again (tree ▹ trees) (suc turns) done state al deep sp lt =
      let tail = filled (rows place (count trees)) (spell_all trees) in
      let a = spells_split (spell tree) tail state.words rest sp in
      let d = greatest_first tree trees bound deep in
      let one = again state tree a.0 al.0 al.1 d.0 a.1 (follows tree trees (if is_scope place then state.scope else after tree state.scope) a.0 al.2 a.2) in
      let took = sound state (tree, one.0) one.1 in
      let r = list_again trees turns (snoc done tree) one.0 (subst (λ sc. AllAllowed trees (places (rows place (count trees))) sc) (sym took.scope) al.2) d.1 (subst (λ ws. Spells tail ws rest) (sym one.2) a.2) (omega (arith, lt)) in
      (r.0, ap (λ b. list_by item stops form (list_from item stops form turns) done b state) (goes state tree tail al.0 al.1 sp) ∙ ap (λ o. o >>= (λ (y : Tree × State). list_from item stops form turns (snoc done y.0) y.1)) one.1 ∙ r.1 ∙ ap (λ x. Some (Node form x, r.0)) (joined_snoc done tree trees), r.2)

  pub list_reads : (trees : Trees) (state : State) → AllAllowed trees (places (rows place (count trees))) state.scope → greatest_depth trees < bound → Spells (filled (rows place (count trees)) (spell_all trees)) state.words rest → Reads (list_from item stops form (suc (length state.words)) none) state (Node form trees) rest
  list_reads trees state al deep sp =
      let l = rows_long place full trees state.scope state.words rest al sp in
      list_again trees (suc (length state.words)) none state al deep sp (omega (arith, l))

-- Trees of a place that one form is made for, forms with one part or none, and forms that count nothing.

-- nodes of a form are read again
abbrev pub AgainAt : ℕ → Place → Form → Reader → Type 0
AgainAt bound place form read = (state : State) (parts : Trees) (rest : List Token) → Allowed (Node form parts) state.scope → depth (Node form parts) < bound → Spells (spell (Node form parts)) state.words rest → Follow place (Node form parts) rest → Reads read state (Node form parts) rest

pub of_form : (bound : ℕ) (place : Place) (form : Form) (read : Reader) → only_form place ≡ Some form → AgainAt bound place form read → Complete bound place read
of_form bound place form read only body state tree rest h al deep sp fo =
    let a = only_node place form tree only (only_takes place form tree only h) in
    let P : Tree → Type 0 = λ t. Allowed t state.scope → depth t < bound → Spells (spell t) state.words rest → Follow place t rest → Reads read state t rest in
    subst P (sym a.1) (body state a.0 rest) al deep sp fo

-- the same where several forms are made for the place
pub of_forms : (bound : ℕ) (place : Place) (read : Reader) → of_word place ≡ false → (place ≡ p.Line → ⊥) → ((tree : Tree) → Takes place tree → home tree ≡ place) → ((form : Form) → form_home form ≡ place → AgainAt bound place form read) → Complete bound place read
of_forms bound place read node line stands body state tree rest h al deep sp fo =
    let a = tree_node place tree (stands tree h) node line in
    let P : Tree → Type 0 = λ t. Allowed t state.scope → depth t < bound → Spells (spell t) state.words rest → Follow place t rest → Reads read state t rest in
    subst P (sym a.2) (body a.0 a.3 state a.1 rest) al deep sp fo

-- A form that counts nothing has parts of the same room

pub light_depth : (form : Form) (parts : Trees) (bound : ℕ) → is_of_declarator form ≡ false → weight form ≡ 0 → depth (Node form parts) < bound → greatest_depth parts < bound
light_depth form parts bound flat light deep = let n = depth_flat form parts flat in omega (arith, n, light, deep)

-- One part or none

pub optional_again : (bound : ℕ) (part : Place → Reader) (form : Form) (items : List Item) → shape form zero ≡ [] → ((n : ℕ) → shape form (suc n) ≡ items) → AllSound bound part items → AllComplete bound part items → (b : Bool) (state : State) (parts : Trees) (rest : List Token) → Allowed (Node form parts) state.scope → greatest_depth parts < bound → Spells (spell (Node form parts)) state.words rest → Follows items parts rest → (parts ≡ none → state.words ≡ rest → b ≡ false) → ((x : Tree) (more : Trees) → parts ≡ x ▹ more → AllAllowed parts (places items) state.scope → Spells (filled items (spell_all parts)) state.words rest → b ≡ true) → Reads (optional_part part form b) state (Node form parts) rest
unfolding Allowed spell Spells
optional_again bound part form items empty shaped sound again b state none rest al deep sp fo left one =
    let same : state.words ≡ rest = subst (λ l. Spells (filled l (spell_all none)) state.words rest) empty sp in
    (state, ap (λ t. optional_part part form t state) (left refl same), same)
optional_again bound part form items empty shaped sound again b state (x ▹ more) rest al deep sp fo left one =
    let al2 = subst (λ l. AllAllowed (x ▹ more) (places l) state.scope) (shaped (count more)) al.1 in
    let sp2 = subst (λ l. Spells (filled l (spell_all (x ▹ more))) state.words rest) (shaped (count more)) sp in
    let r = parts_again bound part items sound again state (x ▹ more) rest al2 deep sp2 fo in
    (r.0, ap (λ t. optional_part part form t state) (one x more refl al2 sp2) ∙ ap (λ l. node form (parts_of part l state)) (shaped zero) ∙ ap (node form) r.1, r.2)

-- What ends a list

pub comma_seen : (state : State) (pieces : List Piece) (rest : List Token) → Spells (Said (Mark s.Comma) ∷ pieces) state.words rest → at_mark s.Comma state ≡ true
unfolding sign_number
comma_seen state pieces rest sp = ap (kind_is_mark s.Comma) (said_kind (Mark s.Comma) tt pieces state.words rest sp)

-- a word stands behind other pieces
pub tail_shorter : (a b : List Piece) (ws rest : List Token) → ((us : List Token) → Spells b us rest → length rest < length us) → Spells (a ++ b) ws rest → length rest < length ws
tail_shorter a b ws rest short sp =
    let m = spells_split a b ws rest sp in
    let x = spells_shorter a ws m.0 m.1 in
    let y = short m.0 m.2 in
    omega (arith, x, y)

-- the end of a list in braces stops it
pub inside_stops : (state : State) (rest : List Token) → ends_list rest ≡ true → state.words ≡ rest → goes_on_inside state ≡ false
unfolding sign_number
inside_stops state rest h e =
    ap (λ ws. kind_is_mark s.Comma (first_kind ws) && not (kind_is_mark s.RightBrace (first_kind (behind_first ws)))) e
    ∙ by (first_kind rest) (kind_is_mark s.RightBrace (first_kind (behind_first rest))) h
  where
    by : (kind : Kind) (b : Bool) → (kind_is_mark s.RightBrace kind || (kind_is_mark s.Comma kind && b)) ≡ true → (kind_is_mark s.Comma kind && not b) ≡ false
    by (kinds.Mark s.Comma) true g = refl
    by (kinds.Mark s.Comma) false g = absurd (false≢true g)
    by (kinds.Mark s.RightBrace) b g = refl
    by (kinds.Mark sign) true g = and_right (kind_is_mark s.Comma (kinds.Mark sign)) false refl
    by (kinds.Mark _) false g = absurd (false≢true g)
    by _ b g = refl

-- Expressions where there is room, and arguments, are read again.

-- an end that begins with a sign has a token
pub end_some : (sign : Sign) (ws : List Token) → first_kind ws ≡ kinds.Mark sign → 0 < length ws
end_some sign [] h = absurd (cc)
end_some sign (token ∷ ws) h = omega arith

pub guarded_is : (room : ℕ) (read : Reader) (state : State) → 0 < room → guarded room read state ≡ read state
guarded_is zero read state h = absurd (omega (arith, h))
guarded_is (suc room) read state h = refl

no_close : (kind : Kind) → begins_expr kind ≡ true → kind_is_mark s.RightParen kind ≡ false
unfolding begins_expr sign_number
no_close (kinds.Mark s.RightParen) h = absurd (false≢true h)
no_close _ h = refl

module _ (inner : Place → Reader) (room : ℕ) (deeper : (place : Place) → Sound room place (inner place)) (again : AllAgain room inner) where
  -- an expression where there is room
  pub expr_reads : (level : ℕ) → Complete (suc room) (Expression level) (guarded room (e.expression_at inner room level))
  expr_reads level state tree rest h al deep sp fo = ⊎_elim some none_left (cases_lt 0 room) where
    some : 0 < room → Reads (guarded room (e.expression_at inner room level)) state tree rest
    some lt =
        let r = expression_reads inner room deeper again lt level state tree rest h al deep sp fo in
        (r.0, guarded_is room (e.expression_at inner room level) state lt ∙ r.1, r.2)

    none_left : room ≤ 0 → Reads (guarded room (e.expression_at inner room level)) state tree rest
    none_left le = let v = expr_level level tree h in let n = tree_depth tree v.0 v.1 in absurd (omega (arith, le, deep, n))

  -- Arguments

  arguments_parts : (parts : Trees) (state : State) (rest : List Token) → Allowed (Node f.Arguments parts) state.scope → greatest_depth parts < suc room → Spells (spell (Node f.Arguments parts)) state.words rest → first_kind rest ≡ kinds.Mark s.RightParen → Reads (e.arguments_at inner room) state (Node f.Arguments parts) rest
  unfolding Allowed AllAllowed shape spell spell_all Spells sign_number Follow sign_end
  arguments_parts none state rest al deep sp fo =
      (state, ap (λ b. if b then Some (Node f.Arguments none, state) else commas_from (e.argument_at inner room) goes_on f.Arguments (left_at state) none state) (ap (λ ws. kind_is_mark s.RightParen (first_kind ws)) sp ∙ ap (kind_is_mark s.RightParen) fo), sp)
  arguments_parts (tree ▹ trees) state rest al deep sp fo =
      let r = commas_reads (suc room) (Expression 14) (e.argument_at inner room) goes_on f.Arguments rest (argument_sound inner room deeper) (expr_reads 14) (λ t ws h. ap (stops 14) h) (λ t. ap (stops 14) fo) (λ st h. ap (λ ws. kind_is_mark s.Comma (first_kind ws)) h ∙ ap (kind_is_mark s.Comma) fo) (λ st t pieces sc takes al2 g. comma_seen st (spell t ++ pieces) rest g) (tree ▹ trees) state (end_some s.RightParen rest fo) al.1 (omega arith) deep sp in
      (r.0, ap (λ b. if b then Some (Node f.Arguments none, state) else commas_from (e.argument_at inner room) goes_on f.Arguments (left_at state) none state) (no_close (first_kind state.words) (expr_kind 14 tree (filled (behind_commas (Expression 14) (count trees)) (spell_all trees)) state rest al.1.0 al.1.1 sp)) ∙ r.1, r.2)

  pub arguments_node : AgainAt (suc room) p.Arguments f.Arguments (e.arguments_at inner room)
  unfolding Follow is_of_declarator weight form_home
  arguments_node state parts rest al deep sp fo = arguments_parts parts state rest al (light_depth f.Arguments parts (suc room) refl refl deep) sp fo

-- Specs that are words of one type have no type word before a typedef name, and some at their end.

-- what was counted stays counted
pub joined_within : (more done : Trees) → Within (tally done) (tally (joined done more))
joined_within none done = subst (λ x. Within (tally done) (tally x)) (sym (joined_none done)) (within_self (tally done))
joined_within (tree ▹ more) done =
    within_both (tally done) (tally (snoc done tree)) (tally (joined done (tree ▹ more))) (subst (Within (tally done)) (sym (tally_snoc done tree)) (part_within tree (tally done))) (subst (λ x. Within (tally (snoc done tree)) (tally x)) (joined_snoc done tree more) (joined_within more (snoc done tree)))

one_type : (t : Tally) → are_specs t ≡ true → is_one_type t ≡ true
unfolding are_specs
one_type t h = (and_parts (is_one_type t) (nat_le t.storage 1) h).0

-- a type that is whole stands alone
whole_alone : (t : Tally) (b : Bool) → (t.void + t.whole == 0) ≡ b → (if b then is_integer_type t else (t.void + t.whole == 1) && (t.char + t.short + t.long + t.int + t.sign == 0)) ≡ true → 0 < t.whole → (t.void + t.whole ≡ 1) × (t.char + t.short + t.long + t.int + t.sign ≡ 0)
whole_alone t true e h some = let z = eqb-true (t.void + t.whole) 0 e in absurd (omega (arith, z, some))
whole_alone t false e h some =
    let a = and_parts (t.void + t.whole == 1) (t.char + t.short + t.long + t.int + t.sign == 0) h in
    (eqb-true (t.void + t.whole) 1 a.0, eqb-true (t.char + t.short + t.long + t.int + t.sign) 0 a.1)

-- no type word yet
pub none_before : (t total : Tally) → Within (d.with_whole t) total → are_specs total ≡ true → d.has_type_word t ≡ false
none_before t total h ok =
    let w = h.whole in let v = h.void in let ch = h.char in let sh = h.short in let i = h.int in let l = h.long in let n = h.sign in
    let a = whole_alone total (total.void + total.whole == 0) refl (one_type total ok) (omega (arith, w)) in
    let one = a.0 in let zero_ = a.1 in
    let none : t.void + t.char + t.short + t.int + t.long + t.sign + t.whole ≡ 0 = omega (arith, w, v, ch, sh, i, l, n, one, zero_) in
    ap not (eq-eqb (t.void + t.char + t.short + t.int + t.long + t.sign + t.whole) 0 none)

integer_words : (t : Tally) (b : Bool) → (t.char == 0) ≡ b → (nat_le t.sign 1 && (if b then nat_le t.int 1 && nat_le t.short 1 && nat_le t.long 2 && (t.short == 0 || t.long == 0) && nat_le 1 (t.sign + t.short + t.long + t.int) else (t.char == 1) && (t.short + t.long + t.int == 0))) ≡ true → 0 < t.char + t.sign + t.short + t.long + t.int
integer_words t true e h =
    let a = (and_parts (nat_le t.sign 1) (nat_le t.int 1 && nat_le t.short 1 && nat_le t.long 2 && (t.short == 0 || t.long == 0) && nat_le 1 (t.sign + t.short + t.long + t.int)) h).1 in
    let c = (and_parts (nat_le t.int 1 && nat_le t.short 1 && nat_le t.long 2 && (t.short == 0 || t.long == 0)) (nat_le 1 (t.sign + t.short + t.long + t.int)) a).1 in
    let le = leb-true 1 (t.sign + t.short + t.long + t.int) c in
    omega (arith, le)
integer_words t false e h =
    let a = (and_parts (nat_le t.sign 1) ((t.char == 1) && (t.short + t.long + t.int == 0)) h).1 in
    let c = eqb-true t.char 1 ((and_parts (t.char == 1) (t.short + t.long + t.int == 0) a).0) in
    omega (arith, c)

some_words : (t : Tally) (b : Bool) → (t.void + t.whole == 0) ≡ b → (if b then is_integer_type t else (t.void + t.whole == 1) && (t.char + t.short + t.long + t.int + t.sign == 0)) ≡ true → 0 < t.void + t.char + t.short + t.int + t.long + t.sign + t.whole
some_words t true e h = let i = integer_words t (t.char == 0) refl h in omega (arith, i)
some_words t false e h = let a = eqb-true (t.void + t.whole) 1 ((and_parts (t.void + t.whole == 1) (t.char + t.short + t.long + t.int + t.sign == 0) h).0) in omega (arith, a)

-- a type word at the end
pub some_at_end : (t : Tally) → are_specs t ≡ true → d.has_type_word t ≡ true
some_at_end t ok =
    let some = some_words t (t.void + t.whole == 0) refl (one_type t ok) in
    ap not (ne_eqb (t.void + t.char + t.short + t.int + t.long + t.sign + t.whole) 0 (λ z. omega (arith, z, some)))

-- Tags are read again.

-- a name as a part
pub name_again : (bound : ℕ) → Complete bound p.Name e.name_at
unfolding Takes spell Follow
name_again bound state tree rest h al deep sp fo =
    let n = is_name tree h in
    let said = subst (λ t. Spells (spell t) state.words rest) n.1 sp in
    let w = said_word (Name n.0) tt state.words rest said in
    (skip state, ap (λ kind. e.name_by kind state) (said_kind (Name n.0) tt [] state.words rest said) ∙ ap (λ x. Some (Leaf x, skip state)) w.0 ∙ ap (λ t. Some (t, skip state)) (sym n.1), w.1)

-- the sign behind a name
brace_there : (pieces : List Piece) (ws rest : List Token) → Spells (Said (Mark s.LeftBrace) ∷ pieces) ws rest → kind_is_mark s.LeftBrace (first_kind ws) ≡ true
unfolding sign_number
brace_there pieces ws rest sp = ap (kind_is_mark s.LeftBrace) (said_kind (Mark s.LeftBrace) tt pieces ws rest sp)

-- behind a name that is said
behind_name : (bytes : List ℕ) (pieces : List Piece) (ws rest : List Token) → Spells (Said (Name bytes) ∷ pieces) ws rest → Spells pieces (behind_first ws) rest
unfolding Spells
behind_name bytes pieces [] rest h = absurd h
behind_name bytes pieces (token ∷ ws) rest h = h.1

-- a tag's braces are seen, behind a name or not
braces_seen : (m : Trees) (scope : Scope) (pieces : List Piece) (state : State) (rest : List Token) → Allowed (Node f.MaybeName m) scope → Spells (spell (Node f.MaybeName m) ++ Said (Mark s.LeftBrace) ∷ pieces) state.words rest → (at_name state && not (at_mark s.LeftBrace (skip state))) ≡ false
unfolding Allowed AllAllowed spell shape spell_all Takes
braces_seen none scope pieces state rest al sp = ap (λ kind. kind_is_name kind && not (at_mark s.LeftBrace (skip state))) (said_kind (Mark s.LeftBrace) tt pieces state.words rest sp)
braces_seen (a ▹ none) scope pieces state rest al sp =
    let n = is_name a al.1.0 in
    let said = subst (λ t. Spells ((spell t ++ []) ++ Said (Mark s.LeftBrace) ∷ pieces) state.words rest) n.1 sp in
    let next = behind_name n.0 (Said (Mark s.LeftBrace) ∷ pieces) state.words rest said in
    and_right (at_name state) (not (at_mark s.LeftBrace (skip state))) (ap not (brace_there pieces (skip state).words rest next))
braces_seen (a ▹ b ▹ more) scope pieces state rest al sp = absurd al.1.2

maybe_seen : (m : Tree) (scope : Scope) (pieces : List Piece) (state : State) (rest : List Token) → home m ≡ p.MaybeName → Allowed m scope → Spells (spell m ++ Said (Mark s.LeftBrace) ∷ pieces) state.words rest → (at_name state && not (at_mark s.LeftBrace (skip state))) ≡ false
maybe_seen m scope pieces state rest h al sp =
    let a = only_node p.MaybeName f.MaybeName m refl h in
    braces_seen a.0 scope pieces state rest (subst (λ t. Allowed t scope) a.1 al) (subst (λ t. Spells (spell t ++ Said (Mark s.LeftBrace) ∷ pieces) state.words rest) a.1 sp)

pub too_many : (trailing : Bool) (c : Tree) (more : Trees) (scope : Scope) → AllAllowed (c ▹ more) (places (closed trailing)) scope → ⊥
unfolding AllAllowed
too_many true c more scope al = al
too_many false c more scope al = al

enum_places : (trailing : Bool) (x m b : Tree) (scope : Scope) → AllAllowed (x ▹ m ▹ b ▹ none) (places (shape (f.EnumBody trailing) 3)) scope → AllAllowed (x ▹ m ▹ b ▹ none) (places (take 5 (shape (f.EnumBody false) zero))) scope
unfolding shape
enum_places true x m b scope al = al
enum_places false x m b scope al = al

-- the end of a list in braces
pub closed_ends : (trailing : Bool) (ws rest : List Token) → Spells (filled (closed trailing) []) ws rest → ends_list ws ≡ true
unfolding Spells sign_number
closed_ends true [] rest h = absurd h
closed_ends true (a ∷ []) rest h = absurd h.1
closed_ends true (a ∷ b ∷ ws) rest h =
    ap (λ kind. kind_is_mark s.RightBrace kind || (kind_is_mark s.Comma kind && kind_is_mark s.RightBrace (first_kind (b ∷ ws)))) (said_kind (Mark s.Comma) tt (Said (Mark s.RightBrace) ∷ []) (a ∷ b ∷ ws) rest h)
    ∙ ap (kind_is_mark s.RightBrace) (said_kind (Mark s.RightBrace) tt [] (b ∷ ws) rest h.1)
closed_ends false ws rest h =
    ap (λ kind. kind_is_mark s.RightBrace kind || (kind_is_mark s.Comma kind && kind_is_mark s.RightBrace (first_kind (behind_first ws)))) (said_kind (Mark s.RightBrace) tt [] ws rest h)

pub closing : (form : Bool → Form) (parts : Trees) (trailing : Bool) (state : State) (rest : List Token) → Spells (filled (closed trailing) []) state.words rest → Reads (λ st. ending_by form parts (at_mark s.Comma st) st) state (Node (form trailing) parts) rest
unfolding Spells sign_number
closing form parts true state rest h =
    let a = said_first (Mark s.Comma) tt (Said (Mark s.RightBrace) ∷ []) state rest h in
    let b = said_first (Mark s.RightBrace) tt [] (skip state) rest a.1 in
    (skip (skip state), ap (λ t. ending_by form parts t state) (ap (kind_is_mark s.Comma) (said_kind (Mark s.Comma) tt (Said (Mark s.RightBrace) ∷ []) state.words rest h)) ∙ ap (λ o. (o >>= (λ next. past (Mark s.RightBrace) next >>= (λ last. Some (none, last)))) >>= (λ (y : Trees × State). Some (Node (form true) parts, y.1))) a.0 ∙ ap (λ o. (o >>= (λ last. Some (none, last))) >>= (λ (y : Trees × State). Some (Node (form true) parts, y.1))) b.0, b.1)
closing form parts false state rest h =
    let b = said_first (Mark s.RightBrace) tt [] state rest h in
    (skip state, ap (λ t. ending_by form parts t state) (ap (kind_is_mark s.Comma) (said_kind (Mark s.RightBrace) tt [] state.words rest h)) ∙ ap (λ o. (o >>= (λ last. Some (none, last))) >>= (λ (y : Trees × State). Some (Node (form false) parts, y.1))) b.0, b.1)

module _ (inner : Place → Reader) (room : ℕ) (deeper : (place : Place) → Sound room place (inner place)) (again : AllAgain room inner) where
  -- `struct s` or `enum e` alone
  pub tag_only : (form : Form) (keyword : Keyword) (x a : Tree) (state : State) (rest : List Token) → ((n : ℕ) → shape form n ≡ Here ∷ key keyword ∷ Part p.Name ∷ []) → Allowed (Node form (x ▹ a ▹ none)) state.scope → greatest_depth (x ▹ a ▹ none) < suc room → Spells (spell (Node form (x ▹ a ▹ none))) state.words rest → kind_is_mark s.LeftBrace (first_kind rest) ≡ false → (d.tag_names_only inner room state ≡ true) × Reads (fixed d.name_part form) state (Node form (x ▹ a ▹ none)) rest
  unfolding Allowed AllAllowed spell spell_all Takes Follow
  tag_only form keyword x a state rest shaped al deep sp no_brace =
      let al2 = subst (λ l. AllAllowed (x ▹ a ▹ none) (places l) state.scope) (shaped 2) al.1 in
      let sp2 = subst (λ l. Spells (filled l (spell_all (x ▹ a ▹ none))) state.words rest) (shaped 2) sp in
      let w = word_after_line (Key keyword) x (spell a ++ []) state rest al2.0 tt sp2 in
      let next = said_first (Key keyword) tt (spell a ++ []) state rest w.1 in
      let n = is_name a al2.2.0 in
      let said = subst (λ t. Spells (spell t ++ []) (skip state).words rest) n.1 next.1 in
      let word = said_word (Name n.0) tt (skip state).words rest said in
      let named = ap kind_is_name (said_kind (Name n.0) tt [] (skip state).words rest said) in
      let free = ap (λ ws. kind_is_mark s.LeftBrace (first_kind ws)) word.1 ∙ no_brace in (
        and_from (at_name (skip state)) (not (at_mark s.LeftBrace (skip (skip state)))) named (ap not free),
        fixed_again (suc room) d.name_part form (λ m. shaped m ∙ sym (shaped zero)) (subst (λ l. AllSound (suc room) d.name_part l) (sym (shaped zero)) (name_took (suc room) (omega arith), tt)) (subst (λ l. AllComplete (suc room) d.name_part l) (sym (shaped zero)) (name_again (suc room), tt)) state (x ▹ a ▹ none) rest al deep sp (subst (λ l. Follows l (x ▹ a ▹ none) rest) (sym (shaped zero)) (tt, ((λ middle g. tt), tt))),
      )

  pub record_body : (sort : RecordSort) (parts : Trees) (state : State) (rest : List Token) → Allowed (Node (f.RecordBody sort) parts) state.scope → depth (Node (f.RecordBody sort) parts) < suc room → Spells (spell (Node (f.RecordBody sort) parts)) state.words rest → (d.tag_names_only inner room state ≡ false) × Reads (fixed inner (f.RecordBody sort)) state (Node (f.RecordBody sort) parts) rest
  unfolding Allowed AllAllowed shape spell spell_all Takes Follow is_of_declarator weight
  record_body sort (x ▹ m ▹ b ▹ none) state rest al deep sp =
      let tail = spell b ++ Said (Mark s.RightBrace) ∷ [] in
      let w = word_after_line (Key (record_word sort)) x (spell m ++ Said (Mark s.LeftBrace) ∷ tail) state rest al.1.0 tt sp in
      let next = said_first (Key (record_word sort)) tt (spell m ++ Said (Mark s.LeftBrace) ∷ tail) state rest w.1 in
      let seen = maybe_seen m state.scope tail (skip state) rest al.1.2.0 (word_allowed x m state.scope al.1.0 al.1.2.1) next.1 in
      let n = depth_flat (f.RecordBody sort) (x ▹ m ▹ b ▹ none) refl in
      (seen, fixed_again room inner (f.RecordBody sort) (λ n. refl) (all_sound room inner deeper (shape (f.RecordBody sort) zero)) (all_complete room inner again (shape (f.RecordBody sort) zero) refl) state (x ▹ m ▹ b ▹ none) rest al (omega (arith, n, deep)) sp (tt, ((λ middle g. said_kind (Mark s.LeftBrace) tt tail middle rest g), (tt, ((λ middle g. said_kind (Mark s.RightBrace) tt [] middle rest g), (tt, tt))))))
  record_body sort _ state rest al deep sp = absurd assumption

  pub enum_body : (trailing : Bool) (parts : Trees) (state : State) (rest : List Token) → Allowed (Node (f.EnumBody trailing) parts) state.scope → depth (Node (f.EnumBody trailing) parts) < suc room → Spells (spell (Node (f.EnumBody trailing) parts)) state.words rest → (d.tag_names_only inner room state ≡ false) × Reads (λ st. ending f.EnumBody (parts_of inner (take 5 (shape (f.EnumBody false) zero)) st)) state (Node (f.EnumBody trailing) parts) rest
  unfolding Allowed AllAllowed shape spell spell_all Takes Follow is_of_declarator weight Spells
  enum_body trailing (x ▹ m ▹ b ▹ c ▹ more) state rest al deep sp = absurd (too_many trailing c more _ al.1.2.2.2)
  enum_body trailing (x ▹ m ▹ b ▹ none) state rest al deep sp =
      let last = filled (closed trailing) [] in
      let tail = spell b ++ last in
      let items = take 5 (shape (f.EnumBody false) zero) in
      let w = word_after_line (Key k.Enum) x (spell m ++ Said (Mark s.LeftBrace) ∷ tail) state rest al.1.0 tt sp in
      let next = said_first (Key k.Enum) tt (spell m ++ Said (Mark s.LeftBrace) ∷ tail) state rest w.1 in
      let seen = maybe_seen m state.scope tail (skip state) rest al.1.2.0 (word_allowed x m state.scope al.1.0 al.1.2.1) next.1 in
      let n = depth_flat (f.EnumBody trailing) (x ▹ m ▹ b ▹ none) refl in
      let places_are = enum_places trailing x m b state.scope al.1 in
      let joins = filled_both items (closed trailing) (x ▹ m ▹ b ▹ none) none state.scope places_are in
      let split = spells_split (filled items (spell_all (x ▹ m ▹ b ▹ none))) last state.words rest (subst (λ l. Spells l state.words rest) joins sp) in
      let front = parts_again room inner items (all_sound room inner deeper items) (all_complete room inner again items refl) state (x ▹ m ▹ b ▹ none) split.0 places_are (omega (arith, n, deep)) split.1 (tt, ((λ middle g. said_kind (Mark s.LeftBrace) tt (spell b ++ []) middle split.0 g), (tt, ((λ middle g. subst (λ ws. ends_list ws ≡ true) (sym g) (closed_ends trailing split.0 rest split.2)), tt)))) in
      let close = closing f.EnumBody (x ▹ m ▹ b ▹ none) trailing front.0 rest (subst (λ ws. Spells last ws rest) (sym front.2) split.2) in
      (seen, (close.0, ap (ending f.EnumBody) front.1 ∙ close.1, close.2))
  enum_body trailing _ state rest al deep sp = absurd assumption

-- Specs are read again.

key_word : (keyword : Keyword) → keyword_home keyword ≡ p.SpecWord → d.spec_key keyword ≡ starts.Word
unfolding keyword_home d.spec_key
key_word k.Static h = refl
key_word _ h = first_of (cc, search)

key_stops : (keyword : Keyword) → not (is_spec_key keyword) ≡ true → d.spec_key keyword ≡ starts.End
unfolding is_spec_key d.spec_key
key_stops k.Void h = cc
key_stops _ h = first_of (cc, search)

spec_name_none : (b : Bool) → d.spec_name (b && false) ≡ starts.End
spec_name_none true = refl
spec_name_none false = refl

-- specs end there
spec_ends : (kind : Kind) (t : Tally) (state : State) → specs_stop kind ≡ true → d.has_type_word t ≡ true → d.spec_by kind t state ≡ starts.End
unfolding specs_stop
spec_ends (kinds.Key keyword) t state h some = key_stops keyword h
spec_ends kinds.Name t state h some = ap (λ b. d.spec_name (is_type state.scope.names (bytes_at state) && not b)) some ∙ spec_name_none (is_type state.scope.names (bytes_at state))
spec_ends _ t state h some = refl

record_start : (sort : RecordSort) → d.spec_key (record_word sort) ≡ starts.Record sort
unfolding d.spec_key record_word
record_start r.Struct = refl
record_start r.Union = refl

enum_start : d.spec_key k.Enum ≡ starts.Enum
unfolding d.spec_key
enum_start = refl

stop_no_brace : (kind : Kind) → specs_stop kind ≡ true → kind_is_mark s.LeftBrace kind ≡ false
unfolding specs_stop sign_number
stop_no_brace (kinds.Mark s.LeftBrace) h = absurd (false≢true h)
stop_no_brace _ h = refl

-- no brace stands behind a word of specs
next_no_brace : (more : Trees) (scope : Scope) (ws rest : List Token) → AllAllowed more (places (rows p.SpecWord (count more))) scope → Spells (filled (rows p.SpecWord (count more)) (spell_all more)) ws rest → specs_stop (first_kind rest) ≡ true → kind_is_mark s.LeftBrace (first_kind ws) ≡ false
unfolding Spells AllAllowed spell_all first
next_no_brace none scope ws rest al sp stop = ap (λ x. kind_is_mark s.LeftBrace (first_kind x)) sp ∙ stop_no_brace (first_kind rest) stop
next_no_brace (w ▹ more) scope ws rest al sp stop =
    let state : State = record { words = ws; scope = scope; params = [] } in
    start_no_mark s.LeftBrace (first_kind ws) state (begins p.SpecWord w (filled (rows p.SpecWord (count more)) (spell_all more)) state rest refl al.0 al.1 sp)

word_behind : (tree : Tree) (scope : Scope) → behind p.SpecWord tree scope ≡ after tree scope
unfolding is_scope
word_behind tree scope = refl

named_scope : (a : Tree) (scope : Scope) → home a ≡ p.Name → scope ≡ after (Node f.TypedefName (a ▹ none)) scope
unfolding after shape left is_scope
named_scope a scope h = let n = is_name a h in ap (λ y. after (Node f.TypedefName (y ▹ none)) scope) (sym n.1)

module _ (inner : Place → Reader) (room : ℕ) (deeper : (place : Place) → Sound room place (inner place)) (again : AllAgain room inner) where
  -- one word more: what is read with it in front
  abbrev Step : ℕ → Bool → Tally → Trees → Tree → State → List Token → Type 0
  Step turns plain t parts w state middle = (out : State) × (d.specs_from inner room (suc turns) plain t parts state ≡ d.specs_from inner room turns plain (with_part w t) (snoc parts w) out) × (out.words ≡ middle) × (out.scope ≡ after w state.scope)

  key_step : (turns : ℕ) (plain : Bool) (t : Tally) (parts : Trees) (word : Word) (state : State) (middle : List Token) → word_home word ≡ p.SpecWord → Spells (Said word ∷ []) state.words middle → Step turns plain t parts (Leaf word) state middle
  unfolding after
  key_step turns plain t parts (Key keyword) state middle h sp =
      let kind = said_kind (Key keyword) tt [] state.words middle sp in
      let w = said_word (Key keyword) tt state.words middle sp in
      (skip state, ap (λ kind. d.specs_by inner room (d.specs_from inner room turns plain) plain t parts (d.spec_by kind t state) state) kind ∙ ap (λ st. d.specs_by inner room (d.specs_from inner room turns plain) plain t parts st state) (key_word keyword h) ∙ ap (λ kind. d.specs_from inner room turns plain (d.with_key kind t) (snoc parts (Leaf (word_at state))) (skip state)) kind ∙ ap (λ x. d.specs_from inner room turns plain (with_keyword keyword t) (snoc parts (Leaf x)) (skip state)) w.0, w.1, refl)
  key_step turns plain t parts _ state middle h sp = absurd (cc)

  named_step : (turns : ℕ) (plain : Bool) (t : Tally) (parts : Trees) (a : Tree) (state : State) (middle : List Token) → Allowed (Node f.TypedefName (a ▹ none)) state.scope → Spells (spell (Node f.TypedefName (a ▹ none))) state.words middle → d.has_type_word t ≡ false → Step turns plain t parts (Node f.TypedefName (a ▹ none)) state middle
  unfolding Allowed AllAllowed shape Takes obeys name_of spell spell_all
  named_step turns plain t parts a state middle al sp free =
      let n = is_name a al.1.0 in
      let said = subst (λ y. Spells (spell y ++ []) state.words middle) n.1 sp in
      let known = subst (λ y. is_type_name (name_among (y ▹ none)) state.scope ≡ true) n.1 al.0 in
      let kind = said_kind (Name n.0) tt [] state.words middle said in
      let bytes = said_bytes (Name n.0) [] state.words middle said in
      let w = said_word (Name n.0) tt state.words middle said in
      let tree = Node f.TypedefName (a ▹ none) in (
        skip state,
        ap (λ kind. d.specs_by inner room (d.specs_from inner room turns plain) plain t parts (d.spec_by kind t state) state) kind
            ∙ ap (λ b. d.specs_by inner room (d.specs_from inner room turns plain) plain t parts (d.spec_name (b && not (d.has_type_word t))) state) (ap (is_type state.scope.names) bytes ∙ known)
            ∙ ap (λ b. d.specs_by inner room (d.specs_from inner room turns plain) plain t parts (d.spec_name (not b)) state) free
            ∙ ap (λ x. d.specs_from inner room turns plain (d.with_whole t) (snoc parts (Node f.TypedefName (Leaf x ▹ none))) (skip state)) w.0
            ∙ ap (λ y. d.specs_from inner room turns plain (d.with_whole t) (snoc parts (Node f.TypedefName (y ▹ none))) (skip state)) (sym n.1),
        w.1,
        named_scope a state.scope al.1.0,
      )

  record_step : (turns : ℕ) (plain : Bool) (t : Tally) (parts : Trees) (sort : RecordSort) (form : Form) (more : Trees) (state : State) (middle : List Token) → kind_at state ≡ kinds.Key (record_word sort) → Reads (d.record_at inner room sort) state (Node form more) middle → Step turns plain t parts (Node form more) state middle
  record_step turns plain t parts sort form more state middle kind reads =
      let took = (record_took inner room deeper sort state (Node form more, reads.0) reads.1).0 in
      (reads.0, ap (λ kind. d.specs_by inner room (d.specs_from inner room turns plain) plain t parts (d.spec_by kind t state) state) kind ∙ ap (λ st. d.specs_by inner room (d.specs_from inner room turns plain) plain t parts st state) (record_start sort) ∙ ap (λ o. o >>= (λ (y : Tree × State). d.specs_from inner room turns plain (d.with_whole t) (snoc parts y.0) y.1)) reads.1, reads.2, took.scope ∙ word_behind (Node form more) state.scope)

  enum_step : (turns : ℕ) (plain : Bool) (t : Tally) (parts : Trees) (form : Form) (more : Trees) (state : State) (middle : List Token) → kind_at state ≡ kinds.Key k.Enum → Reads (d.enum_at inner room) state (Node form more) middle → Step turns plain t parts (Node form more) state middle
  enum_step turns plain t parts form more state middle kind reads =
      let took = (enum_took inner room deeper state (Node form more, reads.0) reads.1).0 in
      (reads.0, ap (λ kind. d.specs_by inner room (d.specs_from inner room turns plain) plain t parts (d.spec_by kind t state) state) kind ∙ ap (λ st. d.specs_by inner room (d.specs_from inner room turns plain) plain t parts st state) enum_start ∙ ap (λ o. o >>= (λ (y : Tree × State). d.specs_from inner room turns plain (d.with_whole t) (snoc parts y.0) y.1)) reads.1, reads.2, took.scope ∙ word_behind (Node form more) state.scope)

  form_step : (turns : ℕ) (plain : Bool) (t : Tally) (done : Trees) (form : Form) (parts : Trees) (state : State) (middle : List Token) → form_home form ≡ p.SpecWord → Allowed (Node form parts) state.scope → depth (Node form parts) < suc room → Spells (spell (Node form parts)) state.words middle → kind_is_mark s.LeftBrace (first_kind middle) ≡ false → d.has_type_word t ≡ false → Step turns plain t done (Node form parts) state middle
  unfolding form_home Allowed AllAllowed shape Takes spell spell_all weight is_of_declarator
  form_step turns plain t done f.TypedefName (a ▹ none) state middle h al deep sp no_brace free = named_step turns plain t done a state middle al sp free
  form_step turns plain t done f.TypedefName _ state middle h al deep sp no_brace free = absurd assumption
  form_step turns plain t done (f.RecordTag sort) (x ▹ a ▹ none) state middle h al deep sp no_brace free =
      let n = depth_flat (f.RecordTag sort) (x ▹ a ▹ none) refl in
      let only = tag_only inner room deeper again (f.RecordTag sort) (record_word sort) x a state middle (λ n. refl) al (omega (arith, n, deep)) sp no_brace in
      let kind = (word_after_line (Key (record_word sort)) x (spell a ++ []) state middle al.1.0 tt sp).0 in
      record_step turns plain t done sort (f.RecordTag sort) (x ▹ a ▹ none) state middle kind (only.1.0, ap (λ b. if b then fixed d.name_part (f.RecordTag sort) state else fixed inner (f.RecordBody sort) state) only.0 ∙ only.1.1, only.1.2)
  form_step turns plain t done (f.RecordTag sort) _ state middle h al deep sp no_brace free = absurd assumption
  form_step turns plain t done (f.RecordBody sort) none state middle h al deep sp no_brace free = absurd al.1
  form_step turns plain t done (f.RecordBody sort) (x ▹ parts) state middle h al deep sp no_brace free =
      let body = record_body inner room deeper again sort (x ▹ parts) state middle al deep sp in
      let kind = (word_after_line (Key (record_word sort)) x (filled (Part p.MaybeName ∷ mark s.LeftBrace ∷ Part p.Members ∷ mark s.RightBrace ∷ []) (spell_all parts)) state middle al.1.0 tt sp).0 in
      record_step turns plain t done sort (f.RecordBody sort) (x ▹ parts) state middle kind (body.1.0, ap (λ b. if b then fixed d.name_part (f.RecordTag sort) state else fixed inner (f.RecordBody sort) state) body.0 ∙ body.1.1, body.1.2)
  form_step turns plain t done f.EnumTag (x ▹ a ▹ none) state middle h al deep sp no_brace free =
      let n = depth_flat f.EnumTag (x ▹ a ▹ none) refl in
      let only = tag_only inner room deeper again f.EnumTag k.Enum x a state middle (λ n. refl) al (omega (arith, n, deep)) sp no_brace in
      let kind = (word_after_line (Key k.Enum) x (spell a ++ []) state middle al.1.0 tt sp).0 in
      enum_step turns plain t done f.EnumTag (x ▹ a ▹ none) state middle kind (only.1.0, ap (λ b. if b then fixed d.name_part f.EnumTag state else ending f.EnumBody (parts_of inner (take 5 (shape (f.EnumBody false) zero)) state)) only.0 ∙ only.1.1, only.1.2)
  form_step turns plain t done f.EnumTag _ state middle h al deep sp no_brace free = absurd assumption
  form_step turns plain t done (f.EnumBody trailing) none state middle h al deep sp no_brace free = absurd al.1
  form_step turns plain t done (f.EnumBody trailing) (x ▹ parts) state middle h al deep sp no_brace free =
      let body = enum_body inner room deeper again trailing (x ▹ parts) state middle al deep sp in
      let kind = (word_after_line (Key k.Enum) x (filled (Part p.MaybeName ∷ mark s.LeftBrace ∷ Part p.Enumerators ∷ closed trailing) (spell_all parts)) state middle al.1.0 tt sp).0 in
      enum_step turns plain t done (f.EnumBody trailing) (x ▹ parts) state middle kind (body.1.0, ap (λ b. if b then fixed d.name_part f.EnumTag state else ending f.EnumBody (parts_of inner (take 5 (shape (f.EnumBody false) zero)) state)) body.0 ∙ body.1.1, body.1.2)
  form_step turns plain t done _ parts state middle h al deep sp no_brace free = absurd (cc)

  word_step : (turns : ℕ) (plain : Bool) (t : Tally) (done : Trees) (w : Tree) (state : State) (middle : List Token) → home w ≡ p.SpecWord → Allowed w state.scope → depth w < suc room → Spells (spell w) state.words middle → kind_is_mark s.LeftBrace (first_kind middle) ≡ false → ((form : Form) (parts : Trees) → w ≡ Node form parts → d.has_type_word t ≡ false) → Step turns plain t done w state middle
  unfolding spell
  word_step turns plain t done (Leaf word) state middle h al deep sp no_brace free = key_step turns plain t done word state middle h sp
  word_step turns plain t done (At line) state middle h al deep sp no_brace free = absurd (cc)
  word_step turns plain t done (Node form parts) state middle h al deep sp no_brace free = form_step turns plain t done form parts state middle h al deep sp no_brace (free form parts refl)

  specs_again : (more : Trees) (turns : ℕ) (plain : Bool) (t : Tally) (line : ℕ) (done : Trees) (state : State) (rest : List Token) → t ≡ tally done → AllAllowed more (places (rows p.SpecWord (count more))) state.scope → greatest_depth more < suc room → Spells (filled (rows p.SpecWord (count more)) (spell_all more)) state.words rest → specs_stop (first_kind rest) ≡ true → d.may_stand plain (tally (joined done more)) ≡ true → are_specs (tally (joined done more)) ≡ true → count more < turns → Reads (d.specs_from inner room turns plain t (At line ▹ done)) state (Node f.Specs (At line ▹ joined done more)) rest
  unfolding AllAllowed spell_all Spells Takes is_scope
  specs_again more zero plain t line done state rest e al deep sp stop stand ok lt = absurd (omega (arith, lt))
  specs_again none (suc turns) plain t line done state rest e al deep sp stop stand ok lt =
      let same = joined_none done in
      let some = some_at_end t (subst (λ x. are_specs x ≡ true) (ap tally same ∙ sym e) ok) in
      let ends = spec_ends (kind_at state) t state (ap (λ ws. specs_stop (first_kind ws)) sp ∙ stop) some in
      (state, ap (λ st. d.specs_by inner room (d.specs_from inner room turns plain) plain t (At line ▹ done) st state) ends ∙ ap (λ b. if b then Some (Node f.Specs (At line ▹ done), state) else None) (ap (d.may_stand plain) (e ∙ ap tally (sym same)) ∙ stand) ∙ ap (λ x. Some (Node f.Specs (At line ▹ x), state)) (sym same), sp)
  specs_again (w ▹ more) (suc turns) plain t line done state rest e al deep sp stop stand ok lt =
      let tail = filled (rows p.SpecWord (count more)) (spell_all more) in
      let a = spells_split (spell w) tail state.words rest sp in
      let depths = greatest_first w more (suc room) deep in
      let same = joined_snoc done w more in
      let total : Within (with_part w t) (tally (joined done (w ▹ more))) = subst (λ x. Within (with_part w t) (tally x)) same (subst (λ x. Within x (tally (joined (snoc done w) more))) (tally_snoc done w ∙ ap (with_part w) (sym e)) (joined_within more (snoc done w))) in
      let step = word_step turns plain t (At line ▹ done) w state a.0 al.0 al.1 depths.0 a.1 (next_no_brace more (after w state.scope) a.0 rest al.2 a.2 stop) (λ form parts is. none_before t (tally (joined done (w ▹ more))) (subst (λ y. Within (with_part y t) (tally (joined done (w ▹ more)))) is total) ok) in
      let r = specs_again more turns plain (with_part w t) line (snoc done w) step.0 rest (ap (with_part w) e ∙ sym (tally_snoc done w)) (subst (λ sc. AllAllowed more (places (rows p.SpecWord (count more))) sc) (sym step.3) al.2) depths.1 (subst (λ ws. Spells tail ws rest) (sym step.2) a.2) stop (subst (λ x. d.may_stand plain (tally x) ≡ true) (sym same) stand) (subst (λ x. are_specs (tally x) ≡ true) (sym same) ok) (omega (arith, lt)) in
      (r.0, step.1 ∙ r.1 ∙ ap (λ x. Some (Node f.Specs (At line ▹ x), r.0)) same, r.2)

  line_and_words : (plain : Bool) (parts : Trees) (state : State) (rest : List Token) → Allowed (Node f.Specs parts) state.scope → depth (Node f.Specs parts) < suc room → Spells (spell (Node f.Specs parts)) state.words rest → specs_stop (first_kind rest) ≡ true → (not plain || (tally parts).storage == 0) ≡ true → Reads (λ st. d.specs_from inner room (suc (left_at st)) plain no_words (At (line_at st) ▹ none) st) state (Node f.Specs parts) rest
  unfolding Allowed AllAllowed shape spell spell_all obeys tally Takes is_scope weight form_home is_of_declarator
  line_and_words plain none state rest al deep sp stop stored = absurd al.1
  line_and_words plain (x ▹ words) state rest al deep sp stop stored =
      let tail = filled (rows p.SpecWord (count words)) (spell_all words) in
      let a = line_first x al.1.0 tail state rest sp in
      let inside = subst (λ sc. AllAllowed words (places (rows p.SpecWord (count words))) sc) (line_scope x al.1.0 state.scope) al.1.2 in
      let n = depth_flat f.Specs (x ▹ words) refl in
      let g = greatest_first x words (suc room) (omega (arith, n, deep)) in
      let ok = subst (λ y. are_specs (tally (y ▹ words)) ≡ true) a.0 al.0 in
      let kept = subst (λ y. (not plain || (tally (y ▹ words)).storage == 0) ≡ true) a.0 stored in
      let long = rows_long p.SpecWord refl words state.scope state.words rest inside a.1 in
      let r = specs_again words (suc (left_at state)) plain no_words (line_at state) none state rest refl inside g.1 a.1 stop (and_from (are_specs (tally words)) (not plain || (tally words).storage == 0) ok kept) ok (omega (arith, long)) in
      (r.0, r.1 ∙ ap (λ y. Some (Node f.Specs (y ▹ words), r.0)) (sym a.0), r.2)

  pub plain_specs_reads : Complete (suc room) p.PlainSpecs (d.plain_specs_at inner room)
  unfolding Takes Follow
  plain_specs_reads state tree rest h al deep sp stop =
      let a = only_node p.Specs f.Specs tree refl h.0 in
      let stored = subst (λ t. storage_of t ≡ 0) a.1 h.1 in
      let r = line_and_words true a.0 state rest (subst (λ t. Allowed t state.scope) a.1 al) (subst (λ t. depth t < suc room) a.1 deep) (subst (λ t. Spells (spell t) state.words rest) a.1 sp) stop (eq-eqb (tally a.0).storage 0 stored) in
      (r.0, r.1 ∙ ap (λ t. Some (t, r.0)) (sym a.1), r.2)

  pub specs_reads : Complete (suc room) p.Specs (d.specs_at inner room)
  unfolding Takes Follow
  specs_reads state tree rest h al deep sp stop =
      let a = only_node p.Specs f.Specs tree refl h in
      let r = line_and_words false a.0 state rest (subst (λ t. Allowed t state.scope) a.1 al) (subst (λ t. depth t < suc room) a.1 deep) (subst (λ t. Spells (spell t) state.words rest) a.1 sp) stop refl in
      (d.specs_flagged inner room (Node f.Specs a.0) r.0, ap (λ o. o >>= (λ (y : Tree × State). Some (y.0, d.specs_flagged inner room y.0 y.1))) r.1 ∙ ap (λ t. Some (t, d.specs_flagged inner room (Node f.Specs a.0) r.0)) (sym a.1), r.2)
