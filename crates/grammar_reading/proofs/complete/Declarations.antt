-- Type names, parameters, lengths, members, enumerators, initializers, names of declarations, statements and blocks are read
-- again.
use Rattle.std.proofs.Common.{◌≡◌, ℕ, zero, suc, Bool, true, false, List, [], ◌∷◌, ◌++◌, Option, Some, refl, ap, ◌∙◌, subst, arith, ◌<◌, length, sym, take}
use Rattle.std.specs.Prelude.{if◌then◌else◌, not, ◌&&◌, ◌||◌}
use Rattle.std.proofs.lemmas.Bool.{false≢true, and_from, and_left, and_right, and_parts, not-true}
use Rattle.c_lexer.specs.declared.token.Token.{Token}
use Rattle.c_tree.specs.Forms.{Form}
use Rattle.c_tree.specs.Places.{Place, Expression}
use Rattle.c_tree.specs.Tree.{Tree, Trees, Node, none, ◌▹◌, count, Leaf, At}
use Rattle.c_tree.specs.Grammar.{Item, Part, behind_commas, shape, home, form_home, rows, closed, key, mark}
use Rattle.c_tree.specs.Spelling.{spell, spell_all, filled, Spells, Piece, Said}
use Rattle.c_tree.specs.Scopes.{Scope, is_scope, after, name_among, is_type, places, after_all}
use Rattle.c_tree.specs.Allowed.{Takes, IsDeclarator, Allowed, AllAllowed, obeys, is_none, has_parts, is_open, ends_in_statement, ends_open, IsItem}
use Rattle.c_tree.specs.Depth.{weight, is_of_declarator, depth, greatest_depth}
use Rattle.c_tree.specs.Words.{Mark, Key}
use Rattle.c_tree.specs.declared.word.Keyword.{Keyword}
use Rattle.c_tree.specs.declared.word.Sign.{Sign}
use Rattle.c_tree.specs.declared.word.Sign.TheVariants as s
use Rattle.c_tree.specs.Forms as f
use Rattle.c_tree.specs.Places as p
use Rattle.c_tree.specs.declared.word.Keyword.TheVariants as k
use Rattle.grammar_reading.specs.declared.kind.Kind.{Kind}
use Rattle.grammar_reading.specs.State.{State, left_at, first_kind, at_mark, kind_is_mark, sign_number, declaring, skip, behind_first, at_name, kind_is_name, at_key, kind_is_key, keyword_number, back_to, is_spec_key, starts_by, starts_type, with_flag, kind_at}
use Rattle.grammar_reading.specs.Reading.{Reader, parts_of, goes_on, commas_from, ◌>>=◌, goes_on_inside, list_from, fixed, ending, guarded, scoped, joined, unflagged}
use Rattle.grammar_reading.specs.Rooms.{read}
use Rattle.grammar_reading.specs.declared.kind.Kind.TheVariants as kinds
use Rattle.grammar_reading.specs.Declarators as d
use Rattle.grammar_reading.specs.Statements as t
use Rattle.grammar_reading.proofs.Words.{spells_split, mark_is}
use Rattle.grammar_reading.proofs.Forms.{Sound, AllSound, all_sound, made, filled_both, only_node, parts_took, word_of_word, tree_node}
use Rattle.grammar_reading.proofs.complete.Reads.{one_of, Follow, Follows, Complete, AllAgain, parts_again, fixed_again, stops, sign_end, specs_stop, after_declarator, after_param, said_kind, said_first, after_inside, ends_list, greatest_first, all_complete, line_first, after_init, word_allowed, Reads, after_entry, after_expr, all_read}
use Rattle.grammar_reading.proofs.complete.Specs.{plain_specs_reads, end_some, expr_reads, of_form, light_depth, optional_again, comma_seen, AgainAt, commas_reads, name_again, inside_stops, list_again, closed_ends, closing, too_many, of_forms, guarded_is, specs_reads, list_reads}
use Rattle.grammar_reading.proofs.complete.Declarators.{declarator_reads}
use Rattle.grammar_reading.proofs.complete.Firsts.{begins_expr, first, begins, begins_or_end, declarator_stops, expr_kind, start_no_mark, rows_long, name_no_mark, word_after_line, begins_or, at_once, begins_stmt}
use Rattle.grammar_reading.proofs.sound.Declarations.{param_took, part_took, enumerator_took, maybe_value_took, member_names_took, member_took, init_took, declared_took, entry_took, item_took, for_names_took}
use Rattle.grammar_reading.proofs.sound.Specs.{name_took, plain_specs_took}
use Rattle.grammar_reading.proofs.sound.Declarators.{declarator_took}
use Rattle.grammar_reading.proofs.Nodes.{depth_flat}
use Rattle.grammar_reading.proofs.complete.Expressions.{close_stops}

-- Specs end before a declarator

specs_end : (tree : Tree) (scope : Scope) (ws rest : List Token) → IsDeclarator (home tree) → Allowed tree scope → Spells (spell tree) ws rest → specs_stop (first_kind rest) ≡ true → specs_stop (first_kind ws) ≡ true
unfolding first Takes
specs_end tree scope ws rest h al sp end =
    begins_or_end (λ kind. specs_stop kind ≡ true) p.AnyDeclarator tree (record { words = ws; scope = scope; params = [] }) rest h al sp (λ e. (declarator_stops (first_kind ws) e).0) end

param_declarator : (kind : Kind) → after_param kind ≡ true → after_declarator kind ≡ true
unfolding after_param after_declarator sign_number
param_declarator kind h = one_of (λ kind. after_declarator kind ≡ true) (s.Comma ∷ s.RightParen ∷ []) kind (refl, (refl, tt)) h

param_specs : (kind : Kind) → after_param kind ≡ true → specs_stop kind ≡ true
unfolding after_param specs_stop sign_number
param_specs kind h = one_of (λ kind. specs_stop kind ≡ true) (s.Comma ∷ s.RightParen ∷ []) kind (refl, (refl, tt)) h

no_bracket : (kind : Kind) → begins_expr kind ≡ true → kind_is_mark s.RightBracket kind ≡ false
unfolding begins_expr sign_number
no_bracket (kinds.Mark s.RightBracket) h = absurd (false≢true h)
no_bracket _ h = refl

pub spells_none : (ws rest : List Token) → Spells [] ws rest → ws ≡ rest
unfolding Spells
spells_none ws rest h = h

module _ (inner : Place → Reader) (room : ℕ) (deeper : (place : Place) → Sound room place (inner place)) (again : AllAgain room inner) where
  pub parts_sound : (items : List Item) → AllSound (suc room) (d.part_at inner room) items
  parts_sound items = all_sound (suc room) (d.part_at inner room) (part_took inner room deeper) items

  -- Type names

  pub typename_node : AgainAt (suc room) p.Typename f.Typename (d.typename_at inner room)
  unfolding Allowed AllAllowed shape spell spell_all Takes Follow is_of_declarator weight form_home Spells specs_stop after_declarator is_scope sign_number
  typename_node state (x ▹ a ▹ b ▹ none) rest al deep sp fo =
      let scope = after a (after x state.scope) in
      fixed_again (suc room) (d.part_at inner room) f.Typename (λ n. refl) (parts_sound (shape f.Typename zero)) (plain_specs_reads inner room deeper again, (declarator_reads inner room deeper again p.Abstract tt, tt)) state (x ▹ a ▹ b ▹ none) rest al (light_depth f.Typename (x ▹ a ▹ b ▹ none) (suc room) refl refl deep) sp ((λ middle g. before middle g), ((λ middle g. ap (λ ws. after_declarator (first_kind ws)) g ∙ ap after_declarator fo), tt))
    where
      before : (middle : List Token) → Spells (spell b ++ []) middle rest → specs_stop (first_kind middle) ≡ true
      before middle g =
          let m = spells_split (spell b) [] middle rest g in
          specs_end b (after a (after x state.scope)) middle rest al.1.2.2.0.0 al.1.2.2.1 (subst (λ ws. Spells (spell b) middle ws) m.2 m.1) (ap specs_stop fo)
  typename_node state _ rest al deep sp fo = absurd assumption

  -- Parameters

  pub declared_reads : (is_type : Bool) (form : Form) (made : Option (Trees × State)) (parts : Trees) (out : State) → made ≡ Some (parts, out) → d.declared inner room is_type form made ≡ Some (Node form parts, declaring (name_among parts) is_type out)
  declared_reads is_type form made parts out h = ap (d.declared inner room is_type form) h

  param_node : AgainAt (suc room) p.Param f.Param (d.param_at inner room)
  unfolding Allowed AllAllowed shape spell spell_all Takes Follow is_of_declarator weight form_home Spells is_scope
  param_node state (x ▹ a ▹ b ▹ none) rest al deep sp fo =
      let parts = x ▹ a ▹ b ▹ none in
      let r = parts_again (suc room) (d.part_at inner room) (shape f.Param zero) (parts_sound (shape f.Param zero)) (plain_specs_reads inner room deeper again, (declarator_reads inner room deeper again p.AnyDeclarator tt, tt)) state parts rest al.1 (light_depth f.Param parts (suc room) refl refl deep) sp ((λ middle g. before middle g), ((λ middle g. ap (λ ws. after_declarator (first_kind ws)) g ∙ param_declarator (first_kind rest) fo), tt)) in
      (declaring (name_among parts) false r.0, declared_reads false f.Param (parts_of (d.part_at inner room) (shape f.Param zero) state) parts r.0 r.1, r.2)
    where
      before : (middle : List Token) → Spells (spell b ++ []) middle rest → specs_stop (first_kind middle) ≡ true
      before middle g =
          let m = spells_split (spell b) [] middle rest g in
          specs_end b (after a (after x state.scope)) middle rest al.1.2.2.0 al.1.2.2.1 (subst (λ ws. Spells (spell b) middle ws) m.2 m.1) (param_specs (first_kind rest) fo)
  param_node state _ rest al deep sp fo = absurd assumption

  param_reads : Complete (suc room) p.Param (d.param_at inner room)
  param_reads = of_form (suc room) p.Param f.Param (d.param_at inner room) refl param_node

  pub params_node : AgainAt (suc room) p.Params f.Params (d.params_at inner room)
  unfolding Allowed AllAllowed shape spell spell_all Follow is_of_declarator weight form_home Spells sign_number after_param Takes first
  params_node state none rest al deep sp fo =
      (state, ap (λ b. if b then Some (Node f.Params none, state) else commas_from (d.param_at inner room) goes_on f.Params (left_at state) none state) (ap (λ ws. kind_is_mark s.RightParen (first_kind ws)) sp ∙ ap (kind_is_mark s.RightParen) fo), sp)
  params_node state (tree ▹ trees) rest al deep sp fo =
      let begin = start_no_mark s.RightParen (first_kind state.words) state (begins p.Param tree (filled (behind_commas p.Param (count trees)) (spell_all trees)) state rest refl al.1.0 al.1.1 sp) in
      let r = commas_reads (suc room) p.Param (d.param_at inner room) goes_on f.Params rest (param_took inner room deeper) param_reads (λ t ws h. ap after_param h) (λ t. ap after_param fo) (λ st h. ap (λ ws. kind_is_mark s.Comma (first_kind ws)) h ∙ ap (kind_is_mark s.Comma) fo) (λ st t pieces sc takes al2 g. comma_seen st (spell t ++ pieces) rest g) (tree ▹ trees) state (end_some s.RightParen rest fo) al.1 (omega arith) (light_depth f.Params (tree ▹ trees) (suc room) refl refl deep) sp in
      (r.0, ap (λ b. if b then Some (Node f.Params none, state) else commas_from (d.param_at inner room) goes_on f.Params (left_at state) none state) begin ∙ r.1, r.2)

  -- Lengths

  pub length_node : AgainAt (suc room) p.MaybeLength f.MaybeLength (d.maybe_length_at inner room)
  unfolding shape spell_all Follow is_of_declarator weight form_home AllAllowed sign_end sign_number
  length_node state parts rest al deep sp fo =
      optional_again (suc room) (d.part_at inner room) f.MaybeLength (shape f.MaybeLength (suc zero)) refl (λ n. refl) (parts_sound (shape f.MaybeLength (suc zero))) (expr_reads inner room deeper again 13, tt) (not (at_mark s.RightBracket state)) state parts rest al (light_depth f.MaybeLength parts (suc room) refl refl deep) sp (follows parts) (λ is same. ap (λ ws. not (kind_is_mark s.RightBracket (first_kind ws))) same ∙ ap (λ kind. not (kind_is_mark s.RightBracket kind)) fo) (λ x more is al2 sp2. by x more (subst (λ ps. AllAllowed ps (Expression 13 ∷ []) state.scope) is al2) (subst (λ ps. Spells (filled (Part (Expression 13) ∷ []) (spell_all ps)) state.words rest) is sp2))
    where
      follows : (parts : Trees) → Follows (shape f.MaybeLength (suc zero)) parts rest
      follows none = tt
      follows (x ▹ more) = ((λ middle g. stop middle g), tt) where
        stop : (middle : List Token) → Spells [] middle rest → stops 13 (first_kind middle) ≡ true
        stop middle g = ap (λ ws. stops 13 (first_kind ws)) (spells_none middle rest g) ∙ ap (stops 13) fo

      by : (x : Tree) (more : Trees) → AllAllowed (x ▹ more) (Expression 13 ∷ []) state.scope → Spells (filled (Part (Expression 13) ∷ []) (spell_all (x ▹ more))) state.words rest → not (at_mark s.RightBracket state) ≡ true
      by x more al2 sp2 =
          ap not (no_bracket (first_kind state.words) (expr_kind 13 x [] state rest al2.0 al2.1 sp2))

-- Members and enumerators are read again.

-- What ends an enumerator

inside_expr : (kind : Kind) → after_inside kind ≡ true → stops 13 kind ≡ true
unfolding after_inside sign_end sign_number
inside_expr kind h = one_of (λ kind. stops 13 kind ≡ true) (s.Comma ∷ s.RightBrace ∷ []) kind (refl, (refl, tt)) h

inside_no_value : (kind : Kind) → after_inside kind ≡ true → kind_is_mark s.Equal kind ≡ false
unfolding after_inside sign_number
inside_no_value kind h = one_of (λ kind. kind_is_mark s.Equal kind ≡ false) (s.Comma ∷ s.RightBrace ∷ []) kind (refl, (refl, tt)) h

pub ends_inside : (rest : List Token) → ends_list rest ≡ true → after_inside (first_kind rest) ≡ true
unfolding after_inside sign_number
ends_inside rest h = by (first_kind rest) (kind_is_mark s.RightBrace (first_kind (behind_first rest))) h where
  by : (kind : Kind) (b : Bool) → (kind_is_mark s.RightBrace kind || (kind_is_mark s.Comma kind && b)) ≡ true → after_inside kind ≡ true
  by (kinds.Mark s.Comma) b g = refl
  by (kinds.Mark s.RightBrace) b g = refl
  by (kinds.Mark _) b g = absurd (false≢true g)
  by _ b g = absurd (false≢true g)

pub ends_some : (rest : List Token) → ends_list rest ≡ true → 0 < length rest
ends_some [] h = absurd (false≢true h)
ends_some (token ∷ rest) h = omega arith

enumerator_goes : (state : State) (tree : Tree) (pieces : List Piece) (scope : Scope) (rest : List Token) → Takes p.Enumerator tree → Allowed tree scope → Spells (Said (Mark s.Comma) ∷ (spell tree ++ pieces)) state.words rest → goes_on_inside state ≡ true
unfolding first
enumerator_goes state tree pieces scope rest h al sp =
    let next = said_first (Mark s.Comma) tt (spell tree ++ pieces) state rest sp in
    let named = begins p.Enumerator tree pieces (record { words = (skip state).words; scope = scope; params = [] }) rest refl h al next.1 in
    and_from (at_mark s.Comma state) (not (at_mark s.RightBrace (skip state))) (comma_seen state (spell tree ++ pieces) rest sp) (ap not (name_no_mark s.RightBrace (first_kind (skip state).words) named))

module _ (inner : Place → Reader) (room : ℕ) (deeper : (place : Place) → Sound room place (inner place)) (again : AllAgain room inner) where
  -- Names of tags

  pub maybe_name_node : AgainAt (suc room) p.MaybeName f.MaybeName (d.maybe_name_at inner room)
  unfolding shape spell_all Follow is_of_declarator weight form_home AllAllowed first
  maybe_name_node state parts rest al deep sp fo =
      optional_again (suc room) (d.part_at inner room) f.MaybeName (shape f.MaybeName (suc zero)) refl (λ n. refl) (parts_sound inner room deeper again (shape f.MaybeName (suc zero))) (name_again (suc room), tt) (at_name state) state parts rest al (light_depth f.MaybeName parts (suc room) refl refl deep) sp (follows parts) (λ is same. ap (λ ws. kind_is_name (first_kind ws)) same ∙ ap kind_is_name fo) (λ x more is al2 sp2. by x more (subst (λ ps. AllAllowed ps (p.Name ∷ []) state.scope) is al2) (subst (λ ps. Spells (filled (Part p.Name ∷ []) (spell_all ps)) state.words rest) is sp2))
    where
      follows : (parts : Trees) → Follows (shape f.MaybeName (suc zero)) parts rest
      follows none = tt
      follows (x ▹ more) = ((λ middle g. tt), tt)

      by : (x : Tree) (more : Trees) → AllAllowed (x ▹ more) (p.Name ∷ []) state.scope → Spells (filled (Part p.Name ∷ []) (spell_all (x ▹ more))) state.words rest → at_name state ≡ true
      by x more al2 sp2 = begins p.Name x [] state rest refl al2.0 al2.1 sp2

  -- Members

  member_names_node : AgainAt (suc room) p.MemberNames f.MemberNames (d.member_names_at inner room)
  unfolding Allowed AllAllowed shape spell spell_all Follow is_of_declarator weight form_home Spells sign_number after_declarator
  member_names_node state none rest al deep sp fo = absurd al.1
  member_names_node state (tree ▹ trees) rest al deep sp fo =
      commas_reads (suc room) p.Declarator (d.declarator_at inner room p.Declarator) goes_on f.MemberNames rest (declarator_took inner room deeper p.Declarator tt) (declarator_reads inner room deeper again p.Declarator tt) (λ t ws h. ap after_declarator h) (λ t. ap after_declarator fo) (λ st h. ap (λ ws. kind_is_mark s.Comma (first_kind ws)) h ∙ ap (kind_is_mark s.Comma) fo) (λ st t pieces sc takes al2 g. comma_seen st (spell t ++ pieces) rest g) (tree ▹ trees) state (end_some s.Semicolon rest fo) al.1 (omega arith) (light_depth f.MemberNames (tree ▹ trees) (suc room) refl refl deep) sp

  member_names_reads : Complete (suc room) p.MemberNames (d.member_names_at inner room)
  member_names_reads = of_form (suc room) p.MemberNames f.MemberNames (d.member_names_at inner room) refl member_names_node

  member_node : AgainAt (suc room) p.Member f.Member (d.member_at inner room)
  unfolding Allowed AllAllowed shape spell spell_all Takes Follow is_of_declarator weight form_home Spells is_scope first
  member_node state (x ▹ a ▹ b ▹ none) rest al deep sp fo =
      let parts = x ▹ a ▹ b ▹ none in
      let end = Said (Mark s.Semicolon) ∷ [] in
      fixed_again (suc room) (d.member_part inner room) f.Member (λ n. refl) (plain_specs_took inner room deeper, (member_names_took inner room deeper, tt)) (plain_specs_reads inner room deeper again, (member_names_reads, tt)) state parts rest al (light_depth f.Member parts (suc room) refl refl deep) sp ((λ middle g. (declarator_stops (first_kind middle) (begins p.MemberNames b end (record { words = middle; scope = after a (after x state.scope); params = [] }) rest refl al.1.2.2.0 al.1.2.2.1 g)).0), ((λ middle g. said_kind (Mark s.Semicolon) tt [] middle rest g), (tt, tt)))
  member_node state _ rest al deep sp fo = absurd assumption

  member_reads : Complete (suc room) p.Member (d.member_at inner room)
  member_reads = of_form (suc room) p.Member f.Member (d.member_at inner room) refl member_node

  pub members_node : AgainAt (suc room) p.Members f.Members (d.members_at inner room)
  unfolding Allowed AllAllowed shape spell spell_all Takes Follow is_of_declarator weight form_home sign_number is_scope first
  members_node state none rest al deep sp fo = absurd al.1
  members_node state (tree ▹ trees) rest al deep sp fo =
      let tail = filled (rows p.Member (count trees)) (spell_all trees) in
      let g = greatest_first tree trees (suc room) (light_depth f.Members (tree ▹ trees) (suc room) refl refl deep) in
      let a = spells_split (spell tree) tail state.words rest sp in
      let one = member_reads state tree a.0 al.1.0 al.1.1 g.0 a.1 tt in
      let took = member_took inner room deeper state (tree, one.0) one.1 in
      let al2 = subst (λ sc. AllAllowed trees (places (rows p.Member (count trees))) sc) (sym took.scope) al.1.2 in
      let sp2 = subst (λ ws. Spells tail ws rest) (sym one.2) a.2 in
      let long = rows_long p.Member refl trees one.0.scope one.0.words rest al2 sp2 in
      let r = list_again (suc room) p.Member (d.member_at inner room) (at_mark s.RightBrace) f.Members rest (member_took inner room deeper) member_reads (λ t ts sc ws h k. tt) (λ st h. ap (λ ws. kind_is_mark s.RightBrace (first_kind ws)) h ∙ ap (kind_is_mark s.RightBrace) fo) (λ st t pieces h k j. start_no_mark s.RightBrace (first_kind st.words) st (begins p.Member t pieces st rest refl h k j)) refl trees (suc (left_at one.0)) (tree ▹ none) one.0 al2 g.1 sp2 (omega (arith, long)) in
      (r.0, ap (λ o. o >>= (λ (y : Tree × State). list_from (d.member_at inner room) (at_mark s.RightBrace) f.Members (suc (left_at y.1)) (y.0 ▹ none) y.1)) one.1 ∙ r.1, r.2)

  -- Enumerators

  value_node : AgainAt (suc room) p.MaybeValue f.MaybeValue (d.maybe_value_at inner room)
  unfolding shape spell_all Follow is_of_declarator weight form_home AllAllowed sign_number
  value_node state parts rest al deep sp fo =
      optional_again (suc room) (d.part_at inner room) f.MaybeValue (shape f.MaybeValue (suc zero)) refl (λ n. refl) (parts_sound inner room deeper again (shape f.MaybeValue (suc zero))) (expr_reads inner room deeper again 13, tt) (at_mark s.Equal state) state parts rest al (light_depth f.MaybeValue parts (suc room) refl refl deep) sp (follows parts) (λ is same. ap (λ ws. kind_is_mark s.Equal (first_kind ws)) same ∙ inside_no_value (first_kind rest) fo) (λ x more is al2 sp2. ap (kind_is_mark s.Equal) (said_kind (Mark s.Equal) tt (filled (Part (Expression 13) ∷ []) (spell_all parts)) state.words rest sp2))
    where
      follows : (parts : Trees) → Follows (shape f.MaybeValue (suc zero)) parts rest
      follows none = (tt, tt)
      follows (x ▹ more) = (tt, ((λ middle g. ap (λ ws. stops 13 (first_kind ws)) (spells_none middle rest g) ∙ inside_expr (first_kind rest) fo), tt))

  value_reads : Complete (suc room) p.MaybeValue (d.maybe_value_at inner room)
  value_reads = of_form (suc room) p.MaybeValue f.MaybeValue (d.maybe_value_at inner room) refl value_node

  enumerator_node : AgainAt (suc room) p.Enumerator f.Enumerator (d.enumerator_at inner room)
  unfolding Allowed AllAllowed shape spell spell_all Follow is_of_declarator weight form_home Spells
  enumerator_node state (x ▹ a ▹ b ▹ more) rest al deep sp fo =
      let parts = x ▹ a ▹ b ▹ more in
      let r = parts_again (suc room) (d.enumerator_part inner room) (shape f.Enumerator zero) (name_took (suc room) (omega arith), (maybe_value_took inner room deeper, tt)) (name_again (suc room), (value_reads, tt)) state parts rest al.1 (light_depth f.Enumerator parts (suc room) refl refl deep) sp ((λ middle g. tt), ((λ middle g. ap (λ ws. after_inside (first_kind ws)) g ∙ fo), tt)) in
      (declaring (name_among parts) false r.0, declared_reads inner room deeper again false f.Enumerator (parts_of (d.enumerator_part inner room) (shape f.Enumerator zero) state) parts r.0 r.1, r.2)
  enumerator_node state _ rest al deep sp fo = absurd assumption

  enumerator_reads : Complete (suc room) p.Enumerator (d.enumerator_at inner room)
  enumerator_reads = of_form (suc room) p.Enumerator f.Enumerator (d.enumerator_at inner room) refl enumerator_node

  pub enumerators_node : AgainAt (suc room) p.Enumerators f.Enumerators (d.enumerators_at inner room)
  unfolding Allowed AllAllowed shape spell spell_all Follow is_of_declarator weight form_home Takes after_inside sign_number
  enumerators_node state none rest al deep sp fo = absurd al.1
  enumerators_node state (tree ▹ trees) rest al deep sp fo =
      commas_reads (suc room) p.Enumerator (d.enumerator_at inner room) goes_on_inside f.Enumerators rest (enumerator_took inner room deeper) enumerator_reads (λ t ws h. ap after_inside h) (λ t. ends_inside rest fo) (λ st h. inside_stops st rest fo h) (λ st t pieces sc takes al2 g. enumerator_goes st t pieces sc rest takes al2 g) (tree ▹ trees) state (ends_some rest fo) al.1 (omega arith) (light_depth f.Enumerators (tree ▹ trees) (suc room) refl refl deep) sp

-- Initializers are read again.

init_expr : (kind : Kind) → after_init kind ≡ true → stops 14 kind ≡ true
unfolding after_init sign_end sign_number
init_expr kind h = one_of (λ kind. stops 14 kind ≡ true) (s.Comma ∷ s.RightBrace ∷ s.Semicolon ∷ []) kind (refl, (refl, (refl, tt))) h

inside_init : (kind : Kind) → after_inside kind ≡ true → after_init kind ≡ true
unfolding after_init after_inside sign_number
inside_init kind h = one_of (λ kind. after_init kind ≡ true) (s.Comma ∷ s.RightBrace ∷ []) kind (refl, (refl, tt)) h

no_open : (kind : Kind) → begins_expr kind ≡ true → kind_is_mark s.LeftBrace kind ≡ false
unfolding begins_expr sign_number
no_open (kinds.Mark s.LeftBrace) h = absurd (false≢true h)
no_open _ h = refl

list_places : (trailing : Bool) (x b : Tree) (scope : Scope) → AllAllowed (x ▹ b ▹ none) (places (shape (f.InitList trailing) 2)) scope → AllAllowed (x ▹ b ▹ none) (places (take 3 (shape (f.InitList false) zero))) scope
unfolding shape
list_places true x b scope al = al
list_places false x b scope al = al

-- no initializer begins with `}`
init_goes : (state : State) (tree : Tree) (pieces : List Piece) (scope : Scope) (rest : List Token) → Takes p.Init tree → Allowed tree scope → Spells (Said (Mark s.Comma) ∷ (spell tree ++ pieces)) state.words rest → goes_on_inside state ≡ true
unfolding first
init_goes state tree pieces scope rest h al sp =
    let next = said_first (Mark s.Comma) tt (spell tree ++ pieces) state rest sp in
    let no_brace = begins p.Init tree pieces (record { words = (skip state).words; scope = scope; params = [] }) rest refl h al next.1 in
    and_from (at_mark s.Comma state) (not (at_mark s.RightBrace (skip state))) (comma_seen state (spell tree ++ pieces) rest sp) no_brace

module _ (inner : Place → Reader) (room : ℕ) (deeper : (place : Place) → Sound room place (inner place)) (again : AllAgain room inner) where
  expr_node : AgainAt (suc room) p.Init f.InitExpr (d.init_at inner room)
  unfolding Allowed AllAllowed shape spell spell_all Follow is_of_declarator weight form_home
  expr_node state (x ▹ a ▹ more) rest al deep sp fo =
      let parts = x ▹ a ▹ more in
      let begin = expr_kind 14 a [] state rest al.1.2.0 (word_allowed x a state.scope al.1.0 al.1.2.1) (line_first x al.1.0 (spell a ++ []) state rest sp).1 in
      let r = fixed_again (suc room) (d.part_at inner room) f.InitExpr (λ n. refl) (parts_sound inner room deeper again (shape f.InitExpr zero)) (expr_reads inner room deeper again 14, tt) state parts rest al (light_depth f.InitExpr parts (suc room) refl refl deep) sp ((λ middle g. ap (λ ws. stops 14 (first_kind ws)) (spells_none middle rest g) ∙ init_expr (first_kind rest) fo), tt) in
      (r.0, ap (λ b. if b then d.init_list_at inner room state else fixed (d.part_at inner room) f.InitExpr state) (no_open (first_kind state.words) begin) ∙ r.1, r.2)
  expr_node state _ rest al deep sp fo = absurd assumption

  list_node : (trailing : Bool) → AgainAt (suc room) p.Init (f.InitList trailing) (d.init_at inner room)
  unfolding Allowed AllAllowed shape spell spell_all Follow is_of_declarator weight form_home sign_number Takes Spells
  list_node trailing state (x ▹ b ▹ c ▹ more) rest al deep sp fo = absurd (too_many trailing c more _ al.1.2.2)
  list_node trailing state (x ▹ b ▹ none) rest al deep sp fo =
      let last = filled (closed trailing) [] in
      let items = take 3 (shape (f.InitList false) zero) in
      let parts = x ▹ b ▹ none in
      let w = word_after_line (Mark s.LeftBrace) x (spell b ++ last) state rest al.1.0 tt sp in
      let n = depth_flat (f.InitList trailing) parts refl in
      let places_are = list_places trailing x b state.scope al.1 in
      let joins = filled_both items (closed trailing) parts none state.scope places_are in
      let split = spells_split (filled items (spell_all parts)) last state.words rest (subst (λ l. Spells l state.words rest) joins sp) in
      let front = parts_again room inner items (all_sound room inner deeper items) (all_complete room inner again items refl) state parts split.0 places_are (omega (arith, n, deep)) split.1 (tt, ((λ middle g. subst (λ ws. ends_list ws ≡ true) (sym g) (closed_ends trailing split.0 rest split.2)), tt)) in
      let close = closing f.InitList parts trailing front.0 rest (subst (λ ws. Spells last ws rest) (sym front.2) split.2) in
      (close.0, ap (λ b. if b then d.init_list_at inner room state else fixed (d.part_at inner room) f.InitExpr state) (ap (kind_is_mark s.LeftBrace) w.0) ∙ ap (ending f.InitList) front.1 ∙ close.1, close.2)
  list_node trailing state _ rest al deep sp fo = absurd assumption

  init_form : (form : Form) → form_home form ≡ p.Init → AgainAt (suc room) p.Init form (d.init_at inner room)
  unfolding form_home
  init_form f.InitExpr h = expr_node
  init_form (f.InitList trailing) h = list_node trailing
  init_form _ h = absurd (cc)

  pub init_reads : Complete (suc room) p.Init (d.init_at inner room)
  unfolding Takes
  init_reads = of_forms (suc room) p.Init (d.init_at inner room) refl (λ e. cc) (λ t h. h) init_form

  pub inits_node : AgainAt (suc room) p.Inits f.Inits (d.inits_at inner room)
  unfolding Allowed AllAllowed shape spell spell_all Follow is_of_declarator weight form_home Takes after_init sign_number
  inits_node state none rest al deep sp fo = absurd al.1
  inits_node state (tree ▹ trees) rest al deep sp fo =
      commas_reads (suc room) p.Init (d.init_at inner room) goes_on_inside f.Inits rest (init_took inner room deeper) init_reads (λ t ws h. ap after_init h) (λ t. inside_init (first_kind rest) (ends_inside rest fo)) (λ st h. inside_stops st rest fo h) (λ st t pieces sc takes al2 g. init_goes st t pieces sc rest takes al2 g) (tree ▹ trees) state (ends_some rest fo) al.1 (omega arith) (light_depth f.Inits (tree ▹ trees) (suc room) refl refl deep) sp

-- Names of declarations are read again.

-- What ends an entry

entry_init : (kind : Kind) → after_entry kind ≡ true → after_init kind ≡ true
unfolding after_entry after_init sign_number
entry_init kind h = one_of (λ kind. after_init kind ≡ true) (s.Comma ∷ s.Semicolon ∷ []) kind (refl, (refl, tt)) h

entry_no_init : (kind : Kind) → after_entry kind ≡ true → kind_is_mark s.Equal kind ≡ false
unfolding after_entry sign_number
entry_no_init kind h = one_of (λ kind. kind_is_mark s.Equal kind ≡ false) (s.Comma ∷ s.Semicolon ∷ []) kind (refl, (refl, tt)) h

entry_declarator : (kind : Kind) → after_entry kind ≡ true → after_declarator kind ≡ true
unfolding after_entry after_declarator sign_number
entry_declarator kind h = one_of (λ kind. after_declarator kind ≡ true) (s.Comma ∷ s.Semicolon ∷ []) kind (refl, (refl, tt)) h

-- a declarator ends before an initializer, also before none
pub any_init : (Is : Kind → Type 0) (tree : Tree) (scope : Scope) (ws rest : List Token) → Takes p.MaybeInit tree → Allowed tree scope → Spells (spell tree ++ []) ws rest → Is (kinds.Mark s.Equal) → Is (first_kind rest) → Is (first_kind ws)
unfolding first Spells
any_init Is tree scope ws rest h al sp equal end =
    begins_or Is p.MaybeInit tree [] (record { words = ws; scope = scope; params = [] }) rest h al sp (λ e. subst Is (sym (mark_is s.Equal (first_kind ws) e)) equal) (λ middle g. subst (λ us. Is (first_kind us)) (sym g) end)

pub any_init_declarator : (tree : Tree) (scope : Scope) (ws rest : List Token) → Takes p.MaybeInit tree → Allowed tree scope → Spells (spell tree ++ []) ws rest → after_entry (first_kind rest) ≡ true → after_declarator (first_kind ws) ≡ true
unfolding after_declarator sign_number
any_init_declarator tree scope ws rest h al sp end =
    any_init (λ kind. after_declarator kind ≡ true) tree scope ws rest h al sp refl (entry_declarator (first_kind rest) end)

-- no name of a declaration begins with `;`
pub entry_no_semicolon : (tree : Tree) (scope : Scope) (pieces : List Piece) (ws rest : List Token) → Takes p.Entry tree → Allowed tree scope → Spells (spell tree ++ pieces) ws rest → kind_is_mark s.Semicolon (first_kind ws) ≡ false
unfolding first
entry_no_semicolon tree scope pieces ws rest h al sp =
    (declarator_stops (first_kind ws) (begins p.Entry tree pieces (record { words = ws; scope = scope; params = [] }) rest refl h al sp)).1

module _ (inner : Place → Reader) (room : ℕ) (deeper : (place : Place) → Sound room place (inner place)) (again : AllAgain room inner) where
  declared_node : AgainAt (suc room) p.Declared f.Declared (d.declared_at inner room)
  unfolding Allowed AllAllowed shape spell spell_all Follow is_of_declarator weight form_home
  declared_node state parts rest al deep sp fo =
      let r = parts_again (suc room) (d.part_at inner room) (Part p.Declarator ∷ []) (declarator_took inner room deeper p.Declarator tt, tt) (declarator_reads inner room deeper again p.Declarator tt, tt) state parts rest al.1 (light_depth f.Declared parts (suc room) refl refl deep) sp (follows parts) in
      (declaring (name_among parts) state.scope.typedef r.0, declared_reads inner room deeper again state.scope.typedef f.Declared (parts_of (d.part_at inner room) (Part p.Declarator ∷ []) state) parts r.0 r.1, r.2)
    where
      follows : (parts : Trees) → Follows (Part p.Declarator ∷ []) parts rest
      follows none = tt
      follows (x ▹ more) = ((λ middle g. ap (λ ws. after_declarator (first_kind ws)) (spells_none middle rest g) ∙ fo), tt)

  pub declared_reads_again : Complete (suc room) p.Declared (d.declared_at inner room)
  declared_reads_again = of_form (suc room) p.Declared f.Declared (d.declared_at inner room) refl declared_node

  -- Initializers that may be left out

  maybe_init_node : AgainAt (suc room) p.MaybeInit f.MaybeInit (d.maybe_init_at inner room)
  unfolding shape spell_all Follow is_of_declarator weight form_home AllAllowed sign_number Allowed obeys
  maybe_init_node state parts rest al deep sp fo =
      optional_again (suc room) (d.init_part inner room) f.MaybeInit (shape f.MaybeInit (suc zero)) refl (λ n. refl) (init_took inner room deeper, tt) (init_reads inner room deeper again, tt) (at_mark s.Equal state && not state.scope.typedef) state parts rest al (light_depth f.MaybeInit parts (suc room) refl refl deep) sp (follows parts) (λ is same. and_left (at_mark s.Equal state) (not state.scope.typedef) (ap (λ ws. kind_is_mark s.Equal (first_kind ws)) same ∙ entry_no_init (first_kind rest) fo)) (λ x more is al2 sp2. and_from (at_mark s.Equal state) (not state.scope.typedef) (ap (kind_is_mark s.Equal) (said_kind (Mark s.Equal) tt (filled (Part p.Init ∷ []) (spell_all parts)) state.words rest sp2)) (or_none (not state.scope.typedef) (subst (λ ps. (not state.scope.typedef || is_none ps) ≡ true) is al.0)))
    where
      follows : (parts : Trees) → Follows (shape f.MaybeInit (suc zero)) parts rest
      follows none = (tt, tt)
      follows (x ▹ more) = (tt, ((λ middle g. ap (λ ws. after_init (first_kind ws)) (spells_none middle rest g) ∙ entry_init (first_kind rest) fo), tt))

      or_none : (b : Bool) → (b || false) ≡ true → b ≡ true
      or_none true h = refl
      or_none false h = absurd (false≢true h)

  maybe_init_reads : Complete (suc room) p.MaybeInit (d.maybe_init_at inner room)
  maybe_init_reads = of_form (suc room) p.MaybeInit f.MaybeInit (d.maybe_init_at inner room) refl maybe_init_node

  -- Entries

  -- behind its declarator
  pub entry_rest : (declared i : Tree) (state : State) (rest : List Token) → home i ≡ p.MaybeInit → Allowed i state.scope → depth i < suc room → Spells (spell i ++ []) state.words rest → after_entry (first_kind rest) ≡ true → Reads (d.entry_from inner room declared) state (Node f.Entry (declared ▹ i ▹ none)) rest
  unfolding Takes Follow Spells
  entry_rest declared i state rest h al deep sp end =
      let m = spells_split (spell i) [] state.words rest sp in
      let r = maybe_init_reads state i rest h al deep (subst (λ ws. Spells (spell i) state.words ws) m.2 m.1) end in
      (r.0, ap (λ o. o >>= (λ (y : Tree × State). Some (Node f.Entry (declared ▹ y.0 ▹ none), y.1))) r.1, r.2)

  entry_node : AgainAt (suc room) p.Entry f.Entry (d.entry_at inner room)
  unfolding Allowed AllAllowed shape spell spell_all Follow is_of_declarator weight form_home Takes is_scope
  entry_node state (a ▹ i ▹ none) rest al deep sp fo =
      let n = light_depth f.Entry (a ▹ i ▹ none) (suc room) refl refl deep in
      let g = greatest_first a (i ▹ none) (suc room) n in
      let g2 = greatest_first i none (suc room) g.1 in
      let m = spells_split (spell a) (spell i ++ []) state.words rest sp in
      let end = any_init_declarator i (after a state.scope) m.0 rest al.1.2.0 al.1.2.1 m.2 fo in
      let one = declared_reads_again state a m.0 al.1.0 al.1.1 g.0 m.1 end in
      let took = declared_took inner room deeper state (a, one.0) one.1 in
      let r = entry_rest a i one.0 rest al.1.2.0 (subst (λ sc. Allowed i sc) (sym took.scope) al.1.2.1) g2.0 (subst (λ ws. Spells (spell i ++ []) ws rest) (sym one.2) m.2) fo in
      (r.0, ap (λ o. o >>= (λ (y : Tree × State). d.entry_from inner room y.0 y.1)) one.1 ∙ r.1, r.2)
  entry_node state _ rest al deep sp fo = absurd assumption

  pub entry_reads : Complete (suc room) p.Entry (d.entry_at inner room)
  entry_reads = of_form (suc room) p.Entry f.Entry (d.entry_at inner room) refl entry_node

  -- Lists of names

  some_names_node : (tree : Tree) (trees : Trees) (state : State) (rest : List Token) → Allowed (Node f.Names (tree ▹ trees)) state.scope → depth (Node f.Names (tree ▹ trees)) < suc room → Spells (spell (Node f.Names (tree ▹ trees))) state.words rest → first_kind rest ≡ kinds.Mark s.Semicolon → Reads (d.some_names_at inner room) state (Node f.Names (tree ▹ trees)) rest
  unfolding Allowed AllAllowed shape spell spell_all Follow is_of_declarator weight form_home Takes after_entry sign_number
  some_names_node tree trees state rest al deep sp fo =
      commas_reads (suc room) p.Entry (d.entry_at inner room) goes_on f.Names rest (entry_took inner room deeper) entry_reads (λ t ws h. ap after_entry h) (λ t. ap after_entry fo) (λ st h. ap (λ ws. kind_is_mark s.Comma (first_kind ws)) h ∙ ap (kind_is_mark s.Comma) fo) (λ st t pieces sc takes al2 g. comma_seen st (spell t ++ pieces) rest g) (tree ▹ trees) state (end_some s.Semicolon rest fo) al.1 (omega arith) (light_depth f.Names (tree ▹ trees) (suc room) refl refl deep) sp

  pub names_node : AgainAt (suc room) p.Names f.Names (d.names_at inner room)
  unfolding Allowed AllAllowed shape spell spell_all Follow is_of_declarator weight form_home Takes sign_number Spells
  names_node state none rest al deep sp fo =
      (state, ap (λ b. if b then Some (Node f.Names none, state) else d.some_names_at inner room state) (ap (λ ws. kind_is_mark s.Semicolon (first_kind ws)) sp ∙ ap (kind_is_mark s.Semicolon) fo), sp)
  names_node state (tree ▹ trees) rest al deep sp fo =
      let r = some_names_node tree trees state rest al deep sp fo in
      (r.0, ap (λ b. if b then Some (Node f.Names none, state) else d.some_names_at inner room state) (entry_no_semicolon tree state.scope (filled (behind_commas p.Entry (count trees)) (spell_all trees)) state.words rest al.1.0 al.1.1 sp) ∙ r.1, r.2)

  some_by : (parts : Trees) (state : State) (rest : List Token) → has_parts (Node f.Names parts) ≡ true → Allowed (Node f.Names parts) state.scope → depth (Node f.Names parts) < suc room → Spells (spell (Node f.Names parts)) state.words rest → first_kind rest ≡ kinds.Mark s.Semicolon → Reads (d.some_names_at inner room) state (Node f.Names parts) rest
  some_by none state rest h al deep sp fo = absurd (false≢true h)
  some_by (tree ▹ trees) state rest h al deep sp fo = some_names_node tree trees state rest al deep sp fo

  pub some_names_reads : Complete (suc room) p.SomeNames (d.some_names_at inner room)
  unfolding Takes Follow
  some_names_reads state tree rest h al deep sp fo =
      let a = only_node p.Names f.Names tree refl h.0 in
      let P : Tree → Type 0 = λ t. has_parts t ≡ true → Allowed t state.scope → depth t < suc room → Spells (spell t) state.words rest → Reads (d.some_names_at inner room) state t rest in
      subst P (sym a.1) (λ h2 al2 d2 sp2. some_by a.0 state rest h2 al2 d2 sp2 fo) h.1 al deep sp

-- Statements and blocks are read again.

-- what begins as an expression is evaluated
key_statement : (keyword : Keyword) → begins_expr (kinds.Key keyword) ≡ true → t.statement_key keyword ≡ f.Expr
unfolding begins_expr t.statement_key
key_statement k.Sizeof h = refl
key_statement _ h = absurd (false≢true h)

mark_statement : (inner : Place → Reader) (room : ℕ) (sign : Sign) (state : State) → begins_expr (kinds.Mark sign) ≡ true → t.statement_by inner room (kinds.Mark sign) state ≡ fixed inner f.Expr state
unfolding begins_expr
mark_statement inner room s.Semicolon state h = absurd (false≢true h)
mark_statement inner room s.LeftBrace state h = absurd (false≢true h)
mark_statement inner room _ state h = refl

expr_statement : (inner : Place → Reader) (room : ℕ) (kind : Kind) (state : State) → begins_expr kind ≡ true → t.statement_by inner room kind state ≡ fixed inner f.Expr state
expr_statement inner room (kinds.Key keyword) state h = ap (λ form. t.formed inner room form state) (key_statement keyword h)
expr_statement inner room (kinds.Mark sign) state h = mark_statement inner room sign state h
expr_statement inner room _ state h = refl

no_else : (keyword : Keyword) (b : Bool) → kind_is_key k.Else (kinds.Key keyword) ≡ false → (kind : Kind) → kind ≡ kinds.Key keyword → (b && kind_is_key k.Else kind) ≡ false
no_else keyword b h kind e = and_right b (kind_is_key k.Else kind) (ap (kind_is_key k.Else) e ∙ h)

is_else : (kind : Kind) → kind ≡ kinds.Key k.Else → kind_is_key k.Else kind ≡ true
unfolding keyword_number
is_else kind h = ap (kind_is_key k.Else) h

while_no_else : kind_is_key k.Else (kinds.Key k.While) ≡ false
unfolding keyword_number
while_no_else = refl

semi_expr : (kind : Kind) → kind ≡ kinds.Mark s.Semicolon → after_expr kind ≡ true
unfolding after_expr sign_number
semi_expr kind h = ap after_expr h

paren_expr : (kind : Kind) → kind ≡ kinds.Mark s.RightParen → after_expr kind ≡ true
unfolding after_expr sign_number
paren_expr kind h = ap after_expr h

-- behind the last part stands the rest
same_else : (b : Bool) (middle rest : List Token) → Spells [] middle rest → (b && kind_is_key k.Else (first_kind rest)) ≡ false → (b && kind_is_key k.Else (first_kind middle)) ≡ false
unfolding Spells
same_else b middle rest sp h = ap (λ ws. b && kind_is_key k.Else (first_kind ws)) sp ∙ h

closed_no_else : (b c : Bool) → b ≡ false → (b && c) ≡ false
closed_no_else b c h = ap (λ t. t && c) h

stmt_weighs : (form : Form) → form_home form ≡ p.Statement → (is_of_declarator form ≡ false) × (weight form ≡ 1)
unfolding form_home weight is_of_declarator
stmt_weighs f.Unit h = first_of (cc, search)
stmt_weighs _ h = first_of (cc, search)

module _ (inner : Place → Reader) (room : ℕ) (deeper : (place : Place) → Sound room place (inner place)) (again : AllAgain room inner) where
  whole : (form : Form) (parts : Trees) (state : State) (rest : List Token) → ((n : ℕ) → shape form n ≡ shape form zero) → is_of_declarator form ≡ false → weight form ≡ 1 → all_read (shape form zero) ≡ true → Allowed (Node form parts) state.scope → depth (Node form parts) < suc room → Spells (spell (Node form parts)) state.words rest → Follows (shape form zero) parts rest → Reads (fixed inner form) state (Node form parts) rest
  whole form parts state rest shaped flat w inside al deep sp fo =
      let n = depth_flat form parts flat in
      fixed_again room inner form shaped (all_sound room inner deeper (shape form zero)) (all_complete room inner again (shape form zero) inside) state parts rest al (omega (arith, n, w, deep)) sp fo

  -- by the kind of its first word
  by_kind : (kind : Kind) (read : Reader) (state : State) (tree : Tree) (rest : List Token) → first_kind state.words ≡ kind → ((st : State) → t.statement_by inner room kind st ≡ read st) → Reads read state tree rest → Reads (t.statement_at inner room) state tree rest
  by_kind kind read state tree rest h same r = (r.0, ap (λ q. t.statement_by inner room q state) h ∙ same state ∙ r.1, r.2)

  close_scope : (read : Reader) (state : State) (tree : Tree) (rest : List Token) → Reads read state tree rest → Reads (scoped read) state tree rest
  close_scope read state tree rest r = (back_to state r.0, ap (λ o. o >>= (λ (x : Tree × State). Some (x.0, back_to state x.1))) r.1, r.2)

  abbrev Again : Form → Trees → Type 0
  Again form parts = (state : State) (rest : List Token) → Allowed (Node form parts) state.scope → depth (Node form parts) < suc room → Spells (spell (Node form parts)) state.words rest → Follow p.Statement (Node form parts) rest → Reads (t.statement_at inner room) state (Node form parts) rest

  empty_again : (parts : Trees) → Again f.Empty parts
  unfolding Allowed AllAllowed shape spell spell_all weight form_home is_of_declarator Follow
  empty_again none state rest al deep sp fo = absurd al.1
  empty_again (x ▹ parts) state rest al deep sp fo =
      by_kind (kinds.Mark s.Semicolon) (fixed inner f.Empty) state (Node f.Empty (x ▹ parts)) rest (word_after_line (Mark s.Semicolon) x [] state rest al.1.0 tt sp).0 (λ st. refl) (whole f.Empty (x ▹ parts) state rest (λ n. refl) refl refl refl al deep sp (tt, tt))

  expr_again : (parts : Trees) → Again f.Expr parts
  unfolding Allowed AllAllowed shape spell spell_all weight form_home is_of_declarator Follow sign_end is_scope
  expr_again (x ▹ a ▹ more) state rest al deep sp fo =
      let tail = Said (Mark s.Semicolon) ∷ [] in
      let b = line_first x al.1.0 (spell a ++ tail) state rest sp in
      let begin = expr_kind 15 a tail state rest al.1.2.0 (word_allowed x a state.scope al.1.0 al.1.2.1) b.1 in
      let r = whole f.Expr (x ▹ a ▹ more) state rest (λ n. refl) refl refl refl al deep sp ((λ middle g. close_stops 15 s.Semicolon [] middle rest refl g), (tt, tt)) in
      (r.0, expr_statement inner room (first_kind state.words) state begin ∙ r.1, r.2)
  expr_again _ state rest al deep sp fo = absurd assumption

  block_again : (parts : Trees) → Again f.Block parts
  unfolding Allowed AllAllowed shape spell spell_all weight form_home is_of_declarator Follow
  block_again (x ▹ a ▹ more) state rest al deep sp fo =
      by_kind (kinds.Mark s.LeftBrace) (scoped (fixed inner f.Block)) state (Node f.Block (x ▹ a ▹ more)) rest (word_after_line (Mark s.LeftBrace) x (spell a ++ Said (Mark s.RightBrace) ∷ []) state rest al.1.0 tt sp).0 (λ st. refl) (close_scope (fixed inner f.Block) state (Node f.Block (x ▹ a ▹ more)) rest (whole f.Block (x ▹ a ▹ more) state rest (λ n. refl) refl refl refl al deep sp (tt, ((λ middle g. said_kind (Mark s.RightBrace) tt [] middle rest g), (tt, tt)))))
  block_again _ state rest al deep sp fo = absurd assumption

  delay_again : (parts : Trees) → Again f.Delay parts
  unfolding Allowed AllAllowed shape spell spell_all weight form_home is_of_declarator Follow t.statement_key
  delay_again (x ▹ a ▹ more) state rest al deep sp fo =
      by_kind (kinds.Key k.DelayFrees) (scoped (fixed inner f.Delay)) state (Node f.Delay (x ▹ a ▹ more)) rest (word_after_line (Key k.DelayFrees) x (Said (Mark s.LeftBrace) ∷ (spell a ++ Said (Mark s.RightBrace) ∷ [])) state rest al.1.0 tt sp).0 (λ st. refl) (close_scope (fixed inner f.Delay) state (Node f.Delay (x ▹ a ▹ more)) rest (whole f.Delay (x ▹ a ▹ more) state rest (λ n. refl) refl refl refl al deep sp (tt, (tt, ((λ middle g. said_kind (Mark s.RightBrace) tt [] middle rest g), (tt, tt))))))
  delay_again _ state rest al deep sp fo = absurd assumption

  while_again : (parts : Trees) → Again f.While parts
  unfolding Allowed AllAllowed shape spell spell_all weight form_home is_of_declarator Follow t.statement_key sign_end ends_open is_open ends_in_statement
  while_again (x ▹ a ▹ b ▹ none) state rest al deep sp fo =
      by_kind (kinds.Key k.While) (scoped (fixed inner f.While)) state (Node f.While (x ▹ a ▹ b ▹ none)) rest (word_after_line (Key k.While) x (Said (Mark s.LeftParen) ∷ (spell a ++ Said (Mark s.RightParen) ∷ (spell b ++ []))) state rest al.1.0 tt sp).0 (λ st. refl) (close_scope (fixed inner f.While) state (Node f.While (x ▹ a ▹ b ▹ none)) rest (whole f.While (x ▹ a ▹ b ▹ none) state rest (λ n. refl) refl refl refl al deep sp (tt, (tt, ((λ middle g. close_stops 15 s.RightParen (spell b ++ []) middle rest refl g), (tt, ((λ middle g. same_else (ends_open b) middle rest g fo), tt)))))))
  while_again _ state rest al deep sp fo = absurd assumption

  switch_again : (parts : Trees) → Again f.Switch parts
  unfolding Allowed AllAllowed shape spell spell_all weight form_home is_of_declarator Follow t.statement_key sign_end ends_open is_open ends_in_statement
  switch_again (x ▹ a ▹ b ▹ none) state rest al deep sp fo =
      by_kind (kinds.Key k.Switch) (scoped (fixed inner f.Switch)) state (Node f.Switch (x ▹ a ▹ b ▹ none)) rest (word_after_line (Key k.Switch) x (Said (Mark s.LeftParen) ∷ (spell a ++ Said (Mark s.RightParen) ∷ (spell b ++ []))) state rest al.1.0 tt sp).0 (λ st. refl) (close_scope (fixed inner f.Switch) state (Node f.Switch (x ▹ a ▹ b ▹ none)) rest (whole f.Switch (x ▹ a ▹ b ▹ none) state rest (λ n. refl) refl refl refl al deep sp (tt, (tt, ((λ middle g. close_stops 15 s.RightParen (spell b ++ []) middle rest refl g), (tt, ((λ middle g. same_else (ends_open b) middle rest g fo), tt)))))))
  switch_again _ state rest al deep sp fo = absurd assumption

  do_again : (parts : Trees) → Again f.Do parts
  unfolding Allowed AllAllowed shape spell spell_all weight form_home is_of_declarator Follow t.statement_key sign_end
  do_again (x ▹ b ▹ a ▹ more) state rest al deep sp fo =
      let tail = Said (Mark s.LeftParen) ∷ (spell a ++ Said (Mark s.RightParen) ∷ Said (Mark s.Semicolon) ∷ []) in
      by_kind (kinds.Key k.Do) (scoped (fixed inner f.Do)) state (Node f.Do (x ▹ b ▹ a ▹ more)) rest (word_after_line (Key k.Do) x (spell b ++ Said (Key k.While) ∷ tail) state rest al.1.0 tt sp).0 (λ st. refl) (close_scope (fixed inner f.Do) state (Node f.Do (x ▹ b ▹ a ▹ more)) rest (whole f.Do (x ▹ b ▹ a ▹ more) state rest (λ n. refl) refl refl refl al deep sp (tt, ((λ middle g. no_else k.While (ends_open b) while_no_else (first_kind middle) (said_kind (Key k.While) tt tail middle rest g)), (tt, (tt, ((λ middle g. close_stops 15 s.RightParen (Said (Mark s.Semicolon) ∷ []) middle rest refl g), (tt, (tt, tt)))))))))
  do_again _ state rest al deep sp fo = absurd assumption

  case_again : (parts : Trees) → Again f.Case parts
  unfolding Allowed AllAllowed shape spell spell_all weight form_home is_of_declarator Follow t.statement_key sign_end ends_open is_open ends_in_statement
  case_again (x ▹ a ▹ b ▹ none) state rest al deep sp fo =
      by_kind (kinds.Key k.Case) (fixed inner f.Case) state (Node f.Case (x ▹ a ▹ b ▹ none)) rest (word_after_line (Key k.Case) x (spell a ++ Said (Mark s.Colon) ∷ (spell b ++ [])) state rest al.1.0 tt sp).0 (λ st. refl) (whole f.Case (x ▹ a ▹ b ▹ none) state rest (λ n. refl) refl refl refl al deep sp (tt, ((λ middle g. close_stops 13 s.Colon (spell b ++ []) middle rest refl g), (tt, ((λ middle g. same_else (ends_open b) middle rest g fo), tt)))))
  case_again _ state rest al deep sp fo = absurd assumption

  default_again : (parts : Trees) → Again f.Default parts
  unfolding Allowed AllAllowed shape spell spell_all weight form_home is_of_declarator Follow t.statement_key ends_open is_open ends_in_statement
  default_again (x ▹ b ▹ none) state rest al deep sp fo =
      by_kind (kinds.Key k.Default) (fixed inner f.Default) state (Node f.Default (x ▹ b ▹ none)) rest (word_after_line (Key k.Default) x (Said (Mark s.Colon) ∷ (spell b ++ [])) state rest al.1.0 tt sp).0 (λ st. refl) (whole f.Default (x ▹ b ▹ none) state rest (λ n. refl) refl refl refl al deep sp (tt, (tt, ((λ middle g. same_else (ends_open b) middle rest g fo), tt))))
  default_again _ state rest al deep sp fo = absurd assumption

  break_again : (parts : Trees) → Again f.Break parts
  unfolding Allowed AllAllowed shape spell spell_all weight form_home is_of_declarator Follow t.statement_key
  break_again none state rest al deep sp fo = absurd al.1
  break_again (x ▹ parts) state rest al deep sp fo =
      by_kind (kinds.Key k.Break) (fixed inner f.Break) state (Node f.Break (x ▹ parts)) rest (word_after_line (Key k.Break) x (Said (Mark s.Semicolon) ∷ []) state rest al.1.0 tt sp).0 (λ st. refl) (whole f.Break (x ▹ parts) state rest (λ n. refl) refl refl refl al deep sp (tt, (tt, tt)))

  continue_again : (parts : Trees) → Again f.Continue parts
  unfolding Allowed AllAllowed shape spell spell_all weight form_home is_of_declarator Follow t.statement_key
  continue_again none state rest al deep sp fo = absurd al.1
  continue_again (x ▹ parts) state rest al deep sp fo =
      by_kind (kinds.Key k.Continue) (fixed inner f.Continue) state (Node f.Continue (x ▹ parts)) rest (word_after_line (Key k.Continue) x (Said (Mark s.Semicolon) ∷ []) state rest al.1.0 tt sp).0 (λ st. refl) (whole f.Continue (x ▹ parts) state rest (λ n. refl) refl refl refl al deep sp (tt, (tt, tt)))

  return_again : (parts : Trees) → Again f.Return parts
  unfolding Allowed AllAllowed shape spell spell_all weight form_home is_of_declarator Follow t.statement_key
  return_again (x ▹ a ▹ more) state rest al deep sp fo =
      by_kind (kinds.Key k.Return) (fixed inner f.Return) state (Node f.Return (x ▹ a ▹ more)) rest (word_after_line (Key k.Return) x (spell a ++ Said (Mark s.Semicolon) ∷ []) state rest al.1.0 tt sp).0 (λ st. refl) (whole f.Return (x ▹ a ▹ more) state rest (λ n. refl) refl refl refl al deep sp (tt, ((λ middle g. semi_expr (first_kind middle) (said_kind (Mark s.Semicolon) tt [] middle rest g)), (tt, tt))))
  return_again _ state rest al deep sp fo = absurd assumption

  for_again : (parts : Trees) → Again f.For parts
  unfolding Allowed AllAllowed shape spell spell_all weight form_home is_of_declarator Follow t.statement_key ends_open is_open ends_in_statement
  for_again (x ▹ a ▹ b ▹ c ▹ d ▹ none) state rest al deep sp fo =
      let last = spell d ++ [] in
      let three = spell c ++ Said (Mark s.RightParen) ∷ last in
      by_kind (kinds.Key k.For) (scoped (fixed inner f.For)) state (Node f.For (x ▹ a ▹ b ▹ c ▹ d ▹ none)) rest (word_after_line (Key k.For) x (Said (Mark s.LeftParen) ∷ (spell a ++ (spell b ++ Said (Mark s.Semicolon) ∷ three))) state rest al.1.0 tt sp).0 (λ st. refl) (close_scope (fixed inner f.For) state (Node f.For (x ▹ a ▹ b ▹ c ▹ d ▹ none)) rest (whole f.For (x ▹ a ▹ b ▹ c ▹ d ▹ none) state rest (λ n. refl) refl refl refl al deep sp (tt, (tt, ((λ middle g. tt), ((λ middle g. semi_expr (first_kind middle) (said_kind (Mark s.Semicolon) tt three middle rest g)), (tt, ((λ middle g. paren_expr (first_kind middle) (said_kind (Mark s.RightParen) tt last middle rest g)), (tt, ((λ middle g. same_else (ends_open d) middle rest g fo), tt))))))))))
  for_again _ state rest al deep sp fo = absurd assumption

  if_again : (parts : Trees) → Again f.If parts
  unfolding Allowed AllAllowed shape spell spell_all weight form_home is_of_declarator Follow t.statement_key sign_end ends_open is_open
  if_again (x ▹ a ▹ b ▹ none) state rest al deep sp fo =
      let parts = x ▹ a ▹ b ▹ none in
      let n = depth_flat f.If parts refl in
      let r = parts_again room inner (shape f.If zero) (all_sound room inner deeper (shape f.If zero)) (all_complete room inner again (shape f.If zero) refl) state parts rest al.1 (omega (arith, n, deep)) sp (tt, (tt, ((λ middle g. close_stops 15 s.RightParen (spell b ++ []) middle rest refl g), (tt, ((λ middle g. same_else (ends_open b) middle rest g (and_right (ends_open b) (kind_is_key k.Else (first_kind rest)) fo)), tt))))) in
      let read : Reads (t.if_at inner room) state (Node f.If parts) rest = (r.0, ap (λ o. o >>= (λ (y : Trees × State). t.else_by inner room y.0 (at_key k.Else y.1) y.1)) r.1 ∙ ap (λ q. t.else_by inner room parts q r.0) (ap (λ ws. kind_is_key k.Else (first_kind ws)) r.2 ∙ fo), r.2) in
      by_kind (kinds.Key k.If) (scoped (t.if_at inner room)) state (Node f.If parts) rest (word_after_line (Key k.If) x (Said (Mark s.LeftParen) ∷ (spell a ++ Said (Mark s.RightParen) ∷ (spell b ++ []))) state rest al.1.0 tt sp).0 (λ st. refl) (close_scope (t.if_at inner room) state (Node f.If parts) rest read)
  if_again _ state rest al deep sp fo = absurd assumption

  if_else_again : (parts : Trees) → Again f.IfElse parts
  unfolding Allowed AllAllowed shape spell spell_all weight form_home is_of_declarator Follow t.statement_key sign_end ends_open is_open ends_in_statement Takes is_scope after_all greatest_depth
  if_else_again (x ▹ a ▹ b ▹ c ▹ none) state rest al deep sp fo =
      let parts = x ▹ a ▹ b ▹ none in
      let n = depth_flat f.IfElse (x ▹ a ▹ b ▹ c ▹ none) refl in
      let items = shape f.If zero in
      let tail = key k.Else ∷ Part p.Branch ∷ [] in
      let front : AllAllowed parts (places items) state.scope = (al.1.0, al.1.1, (al.1.2.0, al.1.2.1, (al.1.2.2.0.0, al.1.2.2.1, tt))) in
      let joins = filled_both items tail parts (c ▹ none) state.scope front in
      let split = spells_split (filled items (spell_all parts)) (filled tail (spell_all (c ▹ none))) state.words rest (subst (λ l. Spells l state.words rest) joins sp) in
      let else_kind = said_kind (Key k.Else) tt (spell c ++ []) split.0 rest split.2 in
      let r = parts_again room inner items (all_sound room inner deeper items) (all_complete room inner again items refl) state parts split.0 front (omega (arith, n, deep)) split.1 (tt, (tt, ((λ middle g. close_stops 15 s.RightParen (spell b ++ []) middle split.0 refl g), (tt, ((λ middle g. closed_no_else (ends_open b) (kind_is_key k.Else (first_kind middle)) al.1.2.2.0.1), tt))))) in
      let took = (parts_took room inner items (all_sound room inner deeper items) refl state (parts, r.0) r.1).0 in
      let behind = parts_again room inner tail (all_sound room inner deeper tail) (all_complete room inner again tail refl) r.0 (c ▹ none) rest (subst (λ sc. AllAllowed (c ▹ none) (places tail) sc) (sym took.scope) al.1.2.2.2) (omega (arith, n, deep)) (subst (λ ws. Spells (filled tail (spell_all (c ▹ none))) ws rest) (sym r.2) split.2) (tt, ((λ middle g. same_else (ends_open c) middle rest g fo), tt)) in
      let read : Reads (t.if_at inner room) state (Node f.IfElse (x ▹ a ▹ b ▹ c ▹ none)) rest =
      (behind.0, ap (λ o. o >>= (λ (y : Trees × State). t.else_by inner room y.0 (at_key k.Else y.1) y.1)) r.1 ∙ ap (λ q. t.else_by inner room parts q r.0) (ap (λ ws. kind_is_key k.Else (first_kind ws)) r.2 ∙ is_else (first_kind split.0) else_kind) ∙ ap (λ o. o >>= (λ (y : Trees × State). Some (Node f.IfElse (joined parts y.0), y.1))) behind.1, behind.2) in
      by_kind (kinds.Key k.If) (scoped (t.if_at inner room)) state (Node f.IfElse (x ▹ a ▹ b ▹ c ▹ none)) rest (word_after_line (Key k.If) x (Said (Mark s.LeftParen) ∷ (spell a ++ Said (Mark s.RightParen) ∷ (spell b ++ Said (Key k.Else) ∷ (spell c ++ [])))) state rest al.1.0 tt sp).0 (λ st. refl) (close_scope (t.if_at inner room) state (Node f.IfElse (x ▹ a ▹ b ▹ c ▹ none)) rest read)
  if_else_again _ state rest al deep sp fo = absurd assumption

  statement_form : (form : Form) (parts : Trees) → form_home form ≡ p.Statement → Again form parts
  unfolding form_home
  statement_form f.Empty parts h = empty_again parts
  statement_form f.Expr parts h = expr_again parts
  statement_form f.Block parts h = block_again parts
  statement_form f.Delay parts h = delay_again parts
  statement_form f.If parts h = if_again parts
  statement_form f.IfElse parts h = if_else_again parts
  statement_form f.While parts h = while_again parts
  statement_form f.Do parts h = do_again parts
  statement_form f.For parts h = for_again parts
  statement_form f.Switch parts h = switch_again parts
  statement_form f.Case parts h = case_again parts
  statement_form f.Default parts h = default_again parts
  statement_form f.Break parts h = break_again parts
  statement_form f.Continue parts h = continue_again parts
  statement_form f.Return parts h = return_again parts
  statement_form _ parts h = absurd (cc)

  stmt_depth : (form : Form) (parts : Trees) → form_home form ≡ p.Statement → 0 < depth (Node form parts)
  stmt_depth form parts h =
      let w = stmt_weighs form h in
      let n = depth_flat form parts w.0 in
      let one = w.1 in
      omega (arith, n, one)

  pub statement_reads : Complete (suc room) p.Statement (guarded room (t.statement_at inner room))
  unfolding Takes
  statement_reads state (Leaf word) rest h al deep sp fo = absurd (cc (word_of_word word))
  statement_reads state (At line) rest h al deep sp fo = absurd (cc)
  statement_reads state (Node form parts) rest h al deep sp fo =
      let r = statement_form form parts h state rest al deep sp fo in
      let d = stmt_depth form parts h in
      (r.0, guarded_is room (t.statement_at inner room) state (omega (arith, d, deep)) ∙ r.1, r.2)

  pub branch_reads : Complete (suc room) p.Branch (t.branch_at inner room)
  unfolding Takes Follow
  branch_reads state tree rest h al deep sp fo =
      let r = statement_reads state tree rest h al deep sp fo in
      (back_to state r.0, ap (λ o. o >>= (λ (x : Tree × State). Some (x.0, back_to state x.1))) r.1, r.2)

-- Blocks, and what stands before the first `;` of a `for`, are read again.

-- An expression that may be left out

expr_ends : (kind : Kind) → after_expr kind ≡ true → stops 15 kind ≡ true
unfolding after_expr sign_end sign_number
expr_ends kind h = one_of (λ kind. stops 15 kind ≡ true) (s.Semicolon ∷ s.RightParen ∷ []) kind (refl, (refl, tt)) h

expr_left_out : (kind : Kind) → after_expr kind ≡ true → (not (kind_is_mark s.Semicolon kind) && not (kind_is_mark s.RightParen kind)) ≡ false
unfolding after_expr sign_number
expr_left_out kind h = one_of (λ kind. (not (kind_is_mark s.Semicolon kind) && not (kind_is_mark s.RightParen kind)) ≡ false) (s.Semicolon ∷ s.RightParen ∷ []) kind (refl, (refl, tt)) h

expr_there : (kind : Kind) → begins_expr kind ≡ true → (not (kind_is_mark s.Semicolon kind) && not (kind_is_mark s.RightParen kind)) ≡ true
unfolding begins_expr sign_number
expr_there (kinds.Mark s.Semicolon) h = cc
expr_there _ h = first_of (cc, search)

-- what may be an expression is no declaration
maybe_expr_type : (a : Tree) (state : State) (rest : List Token) → Takes p.MaybeExpr a → Allowed a state.scope → Spells (spell a ++ Said (Mark s.Semicolon) ∷ []) state.words rest → starts_type state ≡ false
unfolding first
maybe_expr_type a state rest h al sp =
    begins_or (λ kind. starts_by kind state ≡ false) p.MaybeExpr a (Said (Mark s.Semicolon) ∷ []) state rest h al sp (λ e. not-true (starts_type state) (and_parts (begins_expr (kind_at state)) (not (starts_type state)) e).1) (λ middle g. ap (λ kind. starts_by kind state) (said_kind (Mark s.Semicolon) tt [] middle rest g))

-- What stands in a block

-- no item begins with `}` or `else`
item_kind : (kind : Kind) (state : State) → (starts_by kind state || (begins_stmt kind || begins_expr kind)) ≡ true → (kind_is_mark s.RightBrace kind ≡ false) × (kind_is_key k.Else kind ≡ false)
unfolding begins_stmt begins_expr is_spec_key sign_number keyword_number
item_kind (kinds.Mark s.RightBrace) state h = cc
item_kind (kinds.Key k.Else) state h = cc
item_kind _ state h = (refl, refl)

-- no statement begins a type
stmt_type : (tree : Tree) (state : State) (rest : List Token) → Takes p.Statement tree → Allowed tree state.scope → Spells (spell tree) state.words rest → starts_type state ≡ false
unfolding first
stmt_type tree state rest h al sp =
    not-true (starts_type state) (and_parts (begins_stmt (kind_at state) || begins_expr (kind_at state)) (not (starts_type state)) (at_once p.Statement tree state rest refl h al sp)).1

only_local : (form : Form) → form_home form ≡ p.Item → form ≡ f.Local
unfolding form_home
only_local f.Unit h = cc
only_local _ h = cc

-- no `else` stands behind an item
rest_no_else : (trees : Trees) (scope : Scope) (ws rest : List Token) → AllAllowed trees (places (rows p.Item (count trees))) scope → Spells (filled (rows p.Item (count trees)) (spell_all trees)) ws rest → first_kind rest ≡ kinds.Mark s.RightBrace → kind_is_key k.Else (first_kind ws) ≡ false
unfolding AllAllowed spell_all Spells first
rest_no_else none scope ws rest al sp end = ap (λ us. kind_is_key k.Else (first_kind us)) sp ∙ ap (kind_is_key k.Else) end
rest_no_else (tree ▹ trees) scope ws rest al sp end =
    let state : State = record { words = ws; scope = scope; params = [] } in
    (item_kind (first_kind ws) state (begins p.Item tree (filled (rows p.Item (count trees)) (spell_all trees)) state rest refl al.0 al.1 sp)).1

module _ (inner : Place → Reader) (room : ℕ) (deeper : (place : Place) → Sound room place (inner place)) (again : AllAgain room inner) where
  maybe_expr_node : AgainAt (suc room) p.MaybeExpr f.MaybeExpr (t.maybe_expr_at inner room)
  unfolding shape spell_all Follow is_of_declarator weight form_home AllAllowed
  maybe_expr_node state parts rest al deep sp fo =
      optional_again (suc room) (t.expr_part inner room) f.MaybeExpr (shape f.MaybeExpr (suc zero)) refl (λ n. refl) (parts_sound inner room deeper again (shape f.MaybeExpr (suc zero))) (expr_reads inner room deeper again 15, tt) (t.has_expr state) state parts rest al (light_depth f.MaybeExpr parts (suc room) refl refl deep) sp (follows parts) (λ is same. ap (λ ws. not (kind_is_mark s.Semicolon (first_kind ws)) && not (kind_is_mark s.RightParen (first_kind ws))) same ∙ expr_left_out (first_kind rest) fo) (λ x more is al2 sp2. by x more (subst (λ ps. AllAllowed ps (Expression 15 ∷ []) state.scope) is al2) (subst (λ ps. Spells (filled (Part (Expression 15) ∷ []) (spell_all ps)) state.words rest) is sp2))
    where
      follows : (parts : Trees) → Follows (shape f.MaybeExpr (suc zero)) parts rest
      follows none = tt
      follows (x ▹ more) = ((λ middle g. ap (λ ws. stops 15 (first_kind ws)) (spells_none middle rest g) ∙ expr_ends (first_kind rest) fo), tt)

      by : (x : Tree) (more : Trees) → AllAllowed (x ▹ more) (Expression 15 ∷ []) state.scope → Spells (filled (Part (Expression 15) ∷ []) (spell_all (x ▹ more))) state.words rest → t.has_expr state ≡ true
      by x more al2 sp2 =
          expr_there (first_kind state.words) (expr_kind 15 x [] state rest al2.0 al2.1 sp2)

  pub maybe_expr_reads : Complete (suc room) p.MaybeExpr (t.maybe_expr_at inner room)
  maybe_expr_reads = of_form (suc room) p.MaybeExpr f.MaybeExpr (t.maybe_expr_at inner room) refl maybe_expr_node

  -- Declarations in blocks

  unflag : (read : Reader) (state : State) (tree : Tree) (rest : List Token) → Reads read state tree rest → Reads (unflagged read) state tree rest
  unflag read state tree rest r = (with_flag state.scope.typedef r.0, ap (λ o. o >>= (λ (y : Tree × State). Some (y.0, with_flag state.scope.typedef y.1))) r.1, r.2)

  -- names of a declaration, before its `;`, end its specs
  pub names_stop : (names : Tree) (scope : Scope) (middle rest : List Token) → home names ≡ p.Names → Allowed names scope → Spells (spell names ++ Said (Mark s.Semicolon) ∷ []) middle rest → specs_stop (first_kind middle) ≡ true
  unfolding first specs_stop Takes
  names_stop names scope middle rest h al sp =
      begins_or (λ kind. specs_stop kind ≡ true) p.Names names (Said (Mark s.Semicolon) ∷ []) (record { words = middle; scope = scope; params = [] }) rest h al sp (λ e. (declarator_stops (first_kind middle) e).0) (λ us g. ap specs_stop (said_kind (Mark s.Semicolon) tt [] us rest g))

  local_node : (state : State) (parts : Trees) (rest : List Token) → Allowed (Node f.Local parts) state.scope → depth (Node f.Local parts) < suc room → Spells (spell (Node f.Local parts)) state.words rest → Reads (t.item_at inner room) state (Node f.Local parts) rest
  unfolding Allowed AllAllowed shape spell spell_all Follow is_of_declarator weight form_home Takes is_scope first
  local_node state (x ▹ a ▹ b ▹ more) rest al deep sp =
      let parts = x ▹ a ▹ b ▹ more in
      let n = depth_flat f.Local parts refl in
      let tail = filled (Part p.Names ∷ mark s.Semicolon ∷ []) (spell_all (b ▹ more)) in
      let start = begins p.Specs a tail state rest refl al.1.2.0 (word_allowed x a state.scope al.1.0 al.1.2.1) (line_first x al.1.0 (spell a ++ tail) state rest sp).1 in
      let r = unflag (fixed inner f.Local) state (Node f.Local parts) rest (fixed_again room inner f.Local (λ n. refl) (all_sound room inner deeper (shape f.Local zero)) (all_complete room inner again (shape f.Local zero) refl) state parts rest al (omega (arith, n, deep)) sp ((λ middle g. names_stop b (after a (after x state.scope)) middle rest al.1.2.2.0 al.1.2.2.1 g), ((λ middle g. said_kind (Mark s.Semicolon) tt [] middle rest g), (tt, tt)))) in
      (r.0, ap (λ c. if c then guarded room (t.local_at inner room) state else guarded room (t.statement_at inner room) state) start ∙ guarded_is room (t.local_at inner room) state (omega (arith, n, deep)) ∙ r.1, r.2)
  local_node state _ rest al deep sp = absurd assumption

  item_reads : Complete (suc room) p.Item (t.item_at inner room)
  unfolding Takes Follow
  item_reads state tree rest h al deep sp fo = by (home tree) refl h where
    by : (place : Place) → home tree ≡ place → IsItem place → Reads (t.item_at inner room) state tree rest
    by p.Item e g =
        let a = tree_node p.Item tree e refl (λ x. cc) in
        let is : tree ≡ Node f.Local a.1 = a.2 ∙ ap (λ (x : Form). Node x a.1) (only_local a.0 a.3) in
        let P : Tree → Type 0 = λ q. Allowed q state.scope → depth q < suc room → Spells (spell q) state.words rest → Reads (t.item_at inner room) state q rest in
        subst P (sym is) (λ al2 d2 sp2. local_node state a.1 rest al2 d2 sp2) al deep sp
    by p.Statement e g =
        let r = statement_reads inner room deeper again state tree rest e al deep sp fo in
        (r.0, ap (λ c. if c then guarded room (t.local_at inner room) state else guarded room (t.statement_at inner room) state) (stmt_type tree state rest e al sp) ∙ r.1, r.2)
    by _ e g = absurd g

  pub items_node : AgainAt (suc room) p.Items f.Items (t.items_at inner room)
  unfolding Allowed shape spell Follow is_of_declarator weight form_home sign_number first
  items_node state parts rest al deep sp fo =
      list_reads (suc room) p.Item (t.item_at inner room) (at_mark s.RightBrace) f.Items rest (item_took inner room deeper) item_reads (λ tree trees scope ws h g. and_right (ends_open tree) (kind_is_key k.Else (first_kind ws)) (rest_no_else trees scope ws rest h g fo)) (λ st h. ap (λ ws. kind_is_mark s.RightBrace (first_kind ws)) h ∙ ap (kind_is_mark s.RightBrace) fo) (λ st tree pieces h k j. (item_kind (first_kind st.words) st (begins p.Item tree pieces st rest refl h k j)).0) refl parts state al.1 (light_depth f.Items parts (suc room) refl refl deep) sp

  -- What stands before the first `;` of a `for`

  for_names_node : AgainAt (suc room) p.ForStart f.ForNames (t.for_start_at inner room)
  unfolding Allowed AllAllowed shape spell spell_all Follow is_of_declarator weight form_home Takes is_scope first
  for_names_node state (a ▹ b ▹ more) rest al deep sp fo =
      let parts = a ▹ b ▹ more in
      let start = begins p.Specs a (spell b ++ Said (Mark s.Semicolon) ∷ []) state rest refl al.1.0 al.1.1 sp in
      let r = unflag (fixed (t.for_names_part inner room) f.ForNames) state (Node f.ForNames parts) rest (fixed_again (suc room) (t.for_names_part inner room) f.ForNames (λ n. refl) (all_sound (suc room) (t.for_names_part inner room) (for_names_took inner room deeper) (shape f.ForNames zero)) (specs_reads inner room deeper again, (some_names_reads inner room deeper again, tt)) state parts rest al (light_depth f.ForNames parts (suc room) refl refl deep) sp ((λ middle g. names_stop b (after a state.scope) middle rest al.1.2.0.0 al.1.2.1 g), ((λ middle g. said_kind (Mark s.Semicolon) tt [] middle rest g), (tt, tt)))) in
      (r.0, ap (λ c. if c then unflagged (fixed (t.for_names_part inner room) f.ForNames) state else fixed (t.for_names_part inner room) f.ForStart state) start ∙ r.1, r.2)
  for_names_node state _ rest al deep sp fo = absurd assumption

  for_expr_node : AgainAt (suc room) p.ForStart f.ForStart (t.for_start_at inner room)
  unfolding Allowed AllAllowed shape spell spell_all Follow is_of_declarator weight form_home Takes after_expr sign_number
  for_expr_node state none rest al deep sp fo = absurd al.1
  for_expr_node state (a ▹ more) rest al deep sp fo =
      let parts = a ▹ more in
      let start = maybe_expr_type a state rest al.1.0 al.1.1 sp in
      let r = fixed_again (suc room) (t.for_names_part inner room) f.ForStart (λ n. refl) (all_sound (suc room) (t.for_names_part inner room) (for_names_took inner room deeper) (shape f.ForStart zero)) (maybe_expr_reads, tt) state parts rest al (light_depth f.ForStart parts (suc room) refl refl deep) sp ((λ middle g. ap after_expr (said_kind (Mark s.Semicolon) tt [] middle rest g)), (tt, tt)) in
      (r.0, ap (λ c. if c then unflagged (fixed (t.for_names_part inner room) f.ForNames) state else fixed (t.for_names_part inner room) f.ForStart state) start ∙ r.1, r.2)

  for_form : (form : Form) → form_home form ≡ p.ForStart → AgainAt (suc room) p.ForStart form (t.for_start_at inner room)
  unfolding form_home
  for_form f.ForNames h = for_names_node
  for_form f.ForStart h = for_expr_node
  for_form _ h = absurd (cc)

  pub for_start_reads : Complete (suc room) p.ForStart (t.for_start_at inner room)
  unfolding Takes
  for_start_reads = of_forms (suc room) p.ForStart (t.for_start_at inner room) refl (λ e. cc) (λ t h. h) for_form
