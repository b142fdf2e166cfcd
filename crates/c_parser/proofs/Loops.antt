-- One turn of the loops over string literals, suffixes and the words of specs.
use Rattle.std.proofs.Common.{◌≡◌, ℕ, suc, ◌-◌, ◌<◌, Bool, true, false, if◌then◌else◌, List, Option, Some, None, refl, ap, sym, ◌∙◌}
use Rattle.c_tree.specs.Allowed.{Tally, no_words}
use Rattle.c_tree.specs.Forms as f
use Rattle.c_tree.specs.Places.{Place}
use Rattle.c_tree.specs.Tree.{Tree, Trees, Leaf, At, Node, none, ◌▹◌}
use Rattle.c_tree.specs.Words as w
use Rattle.c_tree.specs.declared.word.Keyword.{Keyword}
use Rattle.c_tree.specs.declared.word.Keyword.TheVariants as k
use Rattle.c_tree.specs.declared.word.Sign.TheVariants as s
use Rattle.grammar_reading.specs.declared.kind.Kind.{Kind}
use Rattle.grammar_reading.specs.declared.kind.Kind.TheVariants as kinds
use Rattle.grammar_reading.specs.declared.kind.SpecStart.{SpecStart}
use Rattle.grammar_reading.specs.declared.kind.SpecStart.TheVariants as starts
use Rattle.grammar_reading.specs.State.{State, kind_at, word_at, bytes_at, left_at, line_at, at_mark, skip}
use Rattle.grammar_reading.specs.Reading.{◌>>=◌, Reader, snoc, list_from}
use Rattle.grammar_reading.specs.Expressions.{strings_from, strings_by}
use Rattle.grammar_reading.specs.Declarators.{specs_from, specs_by, spec_at, spec_by, spec_key, may_stand, with_key, with_whole, record_at, enum_at, member_at, members_at, suffixes_from, suffixes_by, keep_params}
use Rattle.c_parser.specs.Pieces.{is_literal, begins_suffix, is_end, suffix_by, kept_suffix_at, one_word_at}
use Rattle.c_parser.proofs.Steps.{strings_step, suffixes_step, specs_step}
use Rattle.parser_parts.specs.WordEquations.{str_word, name_word}

-- what is read, and then changed, and what goes on from there
bind_on : {A B C : Type 0} (r : Option A) (f : A → B) (k : B → Option C) (y : B) → r >>= (λ x. Some (f x)) ≡ Some y → r >>= (λ x. k (f x)) ≡ k y
bind_on None f k y h = cc
bind_on (Some x) f k y h = let same : f x ≡ y = cc in ap k same

bind_off : {A B C : Type 0} (r : Option A) (f : A → B) (k : B → Option C) → r >>= (λ x. Some (f x)) ≡ None → r >>= (λ x. k (f x)) ≡ None
bind_off None f k h = refl
bind_off (Some x) f k h = cc

on_some : {A C : Type 0} (a b : A) (k : A → Option C) → Some a ≡ Some b → k a ≡ k b
on_some a b k h = let same : a ≡ b = cc in ap k same

-- with the parameters that are kept
abbrev kept_by : Bool → State → Tree × State → Tree × State
kept_by first state x = (x.0, keep_params first state x.1)

differ : {A : Type 0} → true ≡ false → A
differ h = cc

-- String literals

strings_on : (again : Trees → Reader) (parts : Trees) (kind : Kind) (state : State) → is_literal kind ≡ true → strings_by again parts kind state ≡ again (snoc parts (Leaf (word_at state))) (skip state)
strings_on again parts kinds.Str state h = refl
strings_on again parts _ state h = differ (sym h)

literal_kind : (kind : Kind) → is_literal kind ≡ true → kind ≡ kinds.Str
literal_kind kinds.Str h = refl
literal_kind _ h = differ (sym h)

pub strings_go_on : (turns : ℕ) (parts : Trees) (state : State) (bytes : List ℕ) → 0 < turns → is_literal (kind_at state) ≡ true → bytes ≡ bytes_at state → strings_from turns parts state ≡ strings_from (turns - 1) (snoc parts (Leaf (w.Str bytes))) (skip state)
strings_go_on turns parts state bytes h literal same =
    strings_step turns parts state h ∙ strings_on (strings_from (turns - 1)) parts (kind_at state) state literal
    ∙ ap (λ word. strings_from (turns - 1) (snoc parts (Leaf word)) (skip state)) (str_word state (literal_kind (kind_at state) literal) ∙ ap w.Str (sym same))

strings_off : (again : Trees → Reader) (parts : Trees) (kind : Kind) (state : State) → is_literal kind ≡ false → strings_by again parts kind state ≡ Some (Node f.Strings parts, state)
strings_off again parts kinds.Str state h = differ h
strings_off again parts _ state h = refl

pub strings_end : (turns : ℕ) (parts : Trees) (state : State) → 0 < turns → is_literal (kind_at state) ≡ false → strings_from turns parts state ≡ Some (Node f.Strings parts, state)
strings_end turns parts state h literal = strings_step turns parts state h ∙ strings_off (strings_from (turns - 1)) parts (kind_at state) state literal

module _ (inner : Place → Reader) (room : ℕ) where
  -- Suffixes

  suffixes_on : (again : Bool → Trees → Reader) (first : Bool) (parts : Trees) (kind : Kind) (state behind : State) (tree : Tree) → begins_suffix kind ≡ true →
      suffix_by inner room kind state >>= (λ x. Some (kept_by first state x)) ≡ Some (tree, behind) →
      suffixes_by inner room again first parts kind state ≡ again false (snoc parts tree) behind
  suffixes_on again first parts (kinds.Mark s.LeftBracket) state behind tree h r =
      bind_on (suffix_by inner room (kinds.Mark s.LeftBracket) state) (kept_by first state) (λ y. again false (snoc parts y.0) y.1) (tree, behind) r
  suffixes_on again first parts (kinds.Mark s.LeftParen) state behind tree h r =
      bind_on (suffix_by inner room (kinds.Mark s.LeftParen) state) (kept_by first state) (λ y. again false (snoc parts y.0) y.1) (tree, behind) r
  suffixes_on again first parts _ state behind tree h r = differ (sym h)

  pub suffixes_go_on : (turns : ℕ) (first : Bool) (parts : Trees) (state behind : State) (tree : Tree) → 0 < turns → begins_suffix (kind_at state) ≡ true → kept_suffix_at inner room first state ≡ Some (tree, behind) →
      suffixes_from inner room turns first parts state ≡ suffixes_from inner room (turns - 1) false (snoc parts tree) behind
  suffixes_go_on turns first parts state behind tree h begins r =
      suffixes_step inner room turns first parts state h
      ∙ suffixes_on (suffixes_from inner room (turns - 1)) first parts (kind_at state) state behind tree begins r

  suffixes_no : (again : Bool → Trees → Reader) (first : Bool) (parts : Trees) (kind : Kind) (state : State) → begins_suffix kind ≡ true →
      suffix_by inner room kind state >>= (λ x. Some (kept_by first state x)) ≡ None →
      suffixes_by inner room again first parts kind state ≡ None
  suffixes_no again first parts (kinds.Mark s.LeftBracket) state h r =
      bind_off (suffix_by inner room (kinds.Mark s.LeftBracket) state) (kept_by first state) (λ y. again false (snoc parts y.0) y.1) r
  suffixes_no again first parts (kinds.Mark s.LeftParen) state h r =
      bind_off (suffix_by inner room (kinds.Mark s.LeftParen) state) (kept_by first state) (λ y. again false (snoc parts y.0) y.1) r
  suffixes_no again first parts _ state h r = differ (sym h)

  pub suffixes_fail : (turns : ℕ) (first : Bool) (parts : Trees) (state : State) → 0 < turns → begins_suffix (kind_at state) ≡ true → kept_suffix_at inner room first state ≡ None →
      suffixes_from inner room turns first parts state ≡ None
  suffixes_fail turns first parts state h begins r =
      suffixes_step inner room turns first parts state h
      ∙ suffixes_no (suffixes_from inner room (turns - 1)) first parts (kind_at state) state begins r

  suffixes_off : (again : Bool → Trees → Reader) (first : Bool) (parts : Trees) (kind : Kind) (state : State) → begins_suffix kind ≡ false →
      suffixes_by inner room again first parts kind state ≡ Some (Node f.Suffixes parts, state)
  suffixes_off again first parts (kinds.Mark s.LeftBracket) state h = differ h
  suffixes_off again first parts (kinds.Mark s.LeftParen) state h = differ h
  suffixes_off again first parts _ state h = refl

  pub suffixes_end : (turns : ℕ) (first : Bool) (parts : Trees) (state : State) → 0 < turns → begins_suffix (kind_at state) ≡ false →
      suffixes_from inner room turns first parts state ≡ Some (Node f.Suffixes parts, state)
  suffixes_end turns first parts state h begins =
      suffixes_step inner room turns first parts state h
      ∙ suffixes_off (suffixes_from inner room (turns - 1)) first parts (kind_at state) state begins

  -- Specs

  specs_on : (again : Tally → Trees → Reader) (plain : Bool) (tally more : Tally) (line : ℕ) (parts all : Trees) (start : SpecStart) (state behind : State) →
      one_word_at inner room tally parts start state ≡ Some ((more, all), behind) →
      specs_by inner room again plain tally (At line ▹ parts) start state ≡ again more (At line ▹ all) behind
  specs_on again plain tally more line parts all starts.Word state behind r =
      on_some ((with_key (kind_at state) tally, snoc parts (Leaf (word_at state))), skip state) ((more, all), behind) (λ y. again y.0.0 (At line ▹ y.0.1) y.1) r
  specs_on again plain tally more line parts all starts.TypedefName state behind r =
      on_some ((with_whole tally, snoc parts (Node f.TypedefName (Leaf (word_at state) ▹ none))), skip state) ((more, all), behind) (λ y. again y.0.0 (At line ▹ y.0.1) y.1) r
  specs_on again plain tally more line parts all (starts.Record sort) state behind r =
      bind_on (record_at inner room sort state) (λ x. ((with_whole tally, snoc parts x.0), x.1)) (λ y. again y.0.0 (At line ▹ y.0.1) y.1) ((more, all), behind) r
  specs_on again plain tally more line parts all starts.Enum state behind r =
      bind_on (enum_at inner room state) (λ x. ((with_whole tally, snoc parts x.0), x.1)) (λ y. again y.0.0 (At line ▹ y.0.1) y.1) ((more, all), behind) r
  specs_on again plain tally more line parts all starts.End state behind r = cc

  pub specs_go_on : (turns : ℕ) (plain : Bool) (tally more : Tally) (line : ℕ) (parts all : Trees) (state behind : State) → 0 < turns →
      one_word_at inner room tally parts (spec_at tally state) state ≡ Some ((more, all), behind) →
      specs_from inner room turns plain tally (At line ▹ parts) state ≡ specs_from inner room (turns - 1) plain more (At line ▹ all) behind
  specs_go_on turns plain tally more line parts all state behind h r =
      specs_step inner room turns plain tally (At line ▹ parts) state h
      ∙ specs_on (specs_from inner room (turns - 1) plain) plain tally more line parts all (spec_at tally state) state behind r

  pub specs_begin : (turns : ℕ) (plain : Bool) (tally : Tally) (line : ℕ) (parts : Trees) (state : State) → turns ≡ suc (left_at state) → tally ≡ no_words → line ≡ line_at state → parts ≡ none →
      specs_from inner room turns plain tally (At line ▹ parts) state ≡ specs_from inner room (suc (left_at state)) plain no_words (At (line_at state) ▹ none) state
  specs_begin turns plain tally line parts state a b c d =
      ap (λ (n : ℕ). specs_from inner room n plain tally (At line ▹ parts) state) a
      ∙ ap (λ (t : Tally). specs_from inner room (suc (left_at state)) plain t (At line ▹ parts) state) b
      ∙ ap (λ (l : ℕ). specs_from inner room (suc (left_at state)) plain no_words (At l ▹ parts) state) c
      ∙ ap (λ (p : Trees). specs_from inner room (suc (left_at state)) plain no_words (At (line_at state) ▹ p) state) d

  specs_no : (again : Tally → Trees → Reader) (plain : Bool) (tally : Tally) (line : ℕ) (parts : Trees) (start : SpecStart) (state : State) → is_end start ≡ false →
      one_word_at inner room tally parts start state ≡ None →
      specs_by inner room again plain tally (At line ▹ parts) start state ≡ None
  specs_no again plain tally line parts starts.Word state h r = cc
  specs_no again plain tally line parts starts.TypedefName state h r = cc
  specs_no again plain tally line parts (starts.Record sort) state h r =
      bind_off (record_at inner room sort state) (λ x. ((with_whole tally, snoc parts x.0), x.1)) (λ y. again y.0.0 (At line ▹ y.0.1) y.1) r
  specs_no again plain tally line parts starts.Enum state h r =
      bind_off (enum_at inner room state) (λ x. ((with_whole tally, snoc parts x.0), x.1)) (λ y. again y.0.0 (At line ▹ y.0.1) y.1) r
  specs_no again plain tally line parts starts.End state h r = differ h

  pub specs_fail : (turns : ℕ) (plain : Bool) (tally : Tally) (line : ℕ) (parts : Trees) (state : State) → 0 < turns → is_end (spec_at tally state) ≡ false →
      one_word_at inner room tally parts (spec_at tally state) state ≡ None →
      specs_from inner room turns plain tally (At line ▹ parts) state ≡ None
  specs_fail turns plain tally line parts state h more r =
      specs_step inner room turns plain tally (At line ▹ parts) state h
      ∙ specs_no (specs_from inner room (turns - 1) plain) plain tally line parts (spec_at tally state) state more r

  specs_off : (again : Tally → Trees → Reader) (plain : Bool) (tally : Tally) (parts : Trees) (start : SpecStart) (state : State) → is_end start ≡ true →
      specs_by inner room again plain tally parts start state ≡ (if may_stand plain tally then Some (Node f.Specs parts, state) else None)
  specs_off again plain tally parts starts.Word state h = differ (sym h)
  specs_off again plain tally parts starts.TypedefName state h = differ (sym h)
  specs_off again plain tally parts (starts.Record sort) state h = differ (sym h)
  specs_off again plain tally parts starts.Enum state h = differ (sym h)
  specs_off again plain tally parts starts.End state h = refl

  pub specs_end : (turns : ℕ) (plain : Bool) (tally : Tally) (parts : Trees) (state : State) → 0 < turns → is_end (spec_at tally state) ≡ true →
      specs_from inner room turns plain tally parts state ≡ (if may_stand plain tally then Some (Node f.Specs parts, state) else None)
  specs_end turns plain tally parts state h more =
      specs_step inner room turns plain tally parts state h
      ∙ specs_off (specs_from inner room (turns - 1) plain) plain tally parts (spec_at tally state) state more

  -- Members

  pub members_begin : (turns : ℕ) (parts : Trees) (state next : State) (tree : Tree) → member_at inner room state ≡ Some (tree, next) → turns ≡ suc (left_at next) → parts ≡ tree ▹ none →
      list_from (member_at inner room) (at_mark s.RightBrace) f.Members turns parts next ≡ members_at inner room state
  members_begin turns parts state next tree h a b =
      ap (λ (n : ℕ). list_from (member_at inner room) (at_mark s.RightBrace) f.Members n parts next) a
      ∙ ap (λ (p : Trees). list_from (member_at inner room) (at_mark s.RightBrace) f.Members (suc (left_at next)) p next) b
      ∙ sym (ap (λ (r : Option (Tree × State)). r >>= (λ x. list_from (member_at inner room) (at_mark s.RightBrace) f.Members (suc (left_at x.1)) (x.0 ▹ none) x.1)) h)

-- A typedef name is a name

no_typedef : (keyword : Keyword) → spec_key keyword ≡ starts.TypedefName → ⊥
unfolding spec_key
no_typedef k.Void h = cc
no_typedef _ h = cc

typedef_kind : (kind : Kind) (tally : Tally) (state : State) → spec_by kind tally state ≡ starts.TypedefName → kind ≡ kinds.Name
typedef_kind (kinds.Key keyword) tally state h = absurd (no_typedef keyword h)
typedef_kind kinds.Name tally state h = refl
typedef_kind _ tally state h = cc

pub typedef_word : (tally : Tally) (state : State) → spec_at tally state ≡ starts.TypedefName → word_at state ≡ w.Name (bytes_at state)
typedef_word tally state h = name_word state (typedef_kind (kind_at state) tally state h)
