-- Layers whose array next to the name takes its length from an initializer.
use Rattle.std.proofs.Common.{◌≡◌, ◌==◌, ◌+◌, eqb-true, ◌<◌, ◌≤◌, ◌*◌, ℕ, Bool, true, false, cond, nat_lt, length, get_or, arith, List, [], ◌∷◌, ◌++◌, Option, Some, None, Ok, Err, map, reverse, refl, ap, sym, ◌∙◌}
use Rattle.std.specs.Prelude.{slice_set}
use Rattle.std.proofs.lemmas.List.{reverse-append}
use Rattle.c_types.specs.Types.{PlainType, Void, Pointer, Array}
use Rattle.c_types.specs.TagTable.{TagTable, size_in}
use Rattle.c_tree.specs.Forms as f
use Rattle.c_tree.specs.Tree.{Trees, At, Node, none, ◌▹◌}
use Rattle.c_decls.specs.declared.refusal.TypeKind.{TypeKind}
use Rattle.c_decls.specs.declared.refusal.TypeKind.TheVariants.{TypeTooLarge, LeftOut}
use Rattle.c_decls.specs.Typed.{is_function}
use Rattle.c_decls.specs.Refusals.{Checked, refused, then, unless}
use Rattle.c_decls.specs.TypeNames.{Layer, PointerTo, ArrayOf, FunctionOf, array_of, layered, with_layers}
use Rattle.c_typing.specs.declared.layers.Layer.{Layer as CodeLayer}
use Rattle.c_typing.specs.Layers.{plain_layer, plain_layers}
use Rattle.elaboration.specs.Initializers.{is_character, text, text_length, given_length, with_init_layers}
use Rattle.elab_statements.specs.GivenLengths.{given_behind, with_given}

then_ok : {A : Type 0} (answer : Checked A) → answer ≡ then answer (λ a. Ok a)
then_ok (Ok a) = refl
then_ok (Err refusal) = refl

-- what comes next may ask what the answer was
then_same : {A B : Type 0} (answer : Checked A) (f g : A → Checked B) → ((a : A) → answer ≡ Ok a → f a ≡ g a) → then answer f ≡ then answer g
then_same (Ok a) f g k = k a refl
then_same (Err refusal) f g k = refl

-- an element that has a layer is no character
made_plain : (test : Bool) (kind : TypeKind) (line : ℕ) (made inner : PlainType) → is_character made ≡ false → unless test kind line (Ok made) ≡ Ok inner → is_character inner ≡ false
made_plain true kind line made inner h e = cc
made_plain false kind line made inner h e = let same : made ≡ inner = cc in ap is_character (sym same) ∙ h

array_plain : (line : ℕ) (type inner : PlainType) (size length' : Option ℕ) → array_of line type size length' ≡ Ok inner → is_character inner ≡ false
array_plain line type inner None length' e = cc
array_plain line type inner (Some size) None e = cc
array_plain line type inner (Some size) (Some n) e = made_plain (nat_lt 268435456 (n * size)) TypeTooLarge line (Array type n) inner refl e

behind_check : (test : Bool) (line : ℕ) (answer : Checked PlainType) (inner : PlainType) → unless test LeftOut line answer ≡ Ok inner → answer ≡ Ok inner
behind_check true line answer inner e = cc
behind_check false line answer inner e = e

pointer_layer : (tags : TagTable) (line : ℕ) (type inner : PlainType) → layered tags (PointerTo line) type ≡ Ok inner → is_character inner ≡ false
pointer_layer tags line type inner e = made_plain (is_function type) LeftOut line (Pointer type) inner refl e

array_layer : (tags : TagTable) (line : ℕ) (n : Option ℕ) (type inner : PlainType) → layered tags (ArrayOf line n) type ≡ Ok inner → is_character inner ≡ false
array_layer tags line n type inner e =
    array_plain line type inner (size_in tags type) n (behind_check (is_function type) line (array_of line type (size_in tags type) n) inner e)

-- the length that is given to an array whose elements are no characters
text_plain : (element : PlainType) (o : Option (List ℕ)) → is_character element ≡ false → text_length element o ≡ text_length Void o
text_plain element None h = refl
text_plain element (Some bytes) h = ap (λ (t : Bool). cond t (length bytes + 1) 1) h

given_plain : (element : PlainType) (inits : Trees) → is_character element ≡ false → given_length element inits ≡ given_length Void inits
given_plain element (Node f.InitExpr (At line ▹ e ▹ none) ▹ none) h = ap Some (text_plain element (text e) h)
given_plain element inits h = refl

not_one : (k : ℕ) → 2 ≤ k → (k == 1) ≡ false
not_one k h = by (k == 1) refl
  where
    by : (b : Bool) → (k == 1) ≡ b → b ≡ false
    by true e = absurd (omega (arith, h, eqb-true k 1 e))
    by false e = refl

no_end : (xs : List Layer) (last : Layer) → xs ++ last ∷ [] ≡ [] → ⊥
no_end [] last e = cc
no_end (x ∷ xs) last e = cc

module _ (tags : TagTable) (inits : Trees) where
  -- a layer in front of others
  in_front : (x y z : Layer) (ys zs : List Layer) (type : PlainType) →
      ((inner : PlainType) → is_character inner ≡ false → with_init_layers tags (y ∷ ys) inits inner ≡ with_layers tags (z ∷ zs) inner) →
      with_init_layers tags (x ∷ y ∷ ys) inits type ≡ with_layers tags (x ∷ z ∷ zs) type
  in_front (PointerTo line) y z ys zs type k =
      then_same (layered tags (PointerTo line) type) _ _ (λ inner e. k inner (pointer_layer tags line type inner e))
  in_front (ArrayOf line None) y z ys zs type k =
      then_same (layered tags (ArrayOf line None) type) _ _ (λ inner e. k inner (array_layer tags line None type inner e))
  in_front (ArrayOf line (Some n)) y z ys zs type k =
      then_same (layered tags (ArrayOf line (Some n)) type) _ _ (λ inner e. k inner (array_layer tags line (Some n) type inner e))
  in_front (FunctionOf line params) y z ys zs type k = by (layered tags (FunctionOf line params) type)
    where
      by : (answer : Checked PlainType) →
          then (then answer (λ (t : PlainType). let none : Checked PlainType = refused LeftOut line in none)) (λ inner. with_init_layers tags (y ∷ ys) inits inner)
          ≡ then (then answer (λ (t : PlainType). let none : Checked PlainType = refused LeftOut line in none)) (λ inner. with_layers tags (z ∷ zs) inner)
      by (Ok t) = refl
      by (Err refusal) = refl

  next_to_name : (layer : Layer) (type : PlainType) →
      with_init_layers tags (layer ∷ []) inits type ≡ with_layers tags (with_given (given_length type inits) layer ∷ []) type
  next_to_name (PointerTo line) type = refl
  next_to_name (ArrayOf line None) type = then_ok (layered tags (ArrayOf line (given_length type inits)) type)
  next_to_name (ArrayOf line (Some n)) type = refl
  next_to_name (FunctionOf line params) type = refl

  behind : (x : Layer) (xs : List Layer) (last : Layer) (type : PlainType) →
      with_init_layers tags (x ∷ xs ++ last ∷ []) inits type ≡ with_layers tags (x ∷ xs ++ with_given (given_length Void inits) last ∷ []) type
  behind x [] last type =
      in_front x last (with_given (given_length Void inits) last) [] [] type
      (λ inner h. next_to_name last inner ∙ ap (λ (g : Option ℕ). with_layers tags (with_given g last ∷ []) inner) (given_plain inner inits h))
  behind x (y ∷ ys) last type =
      in_front x y y (ys ++ last ∷ []) (ys ++ with_given (given_length Void inits) last ∷ []) type (λ inner h. behind y ys last inner)

  given_behind_some : (xs : List Layer) (last : Layer) (type : PlainType) → (xs ≡ [] → ⊥) →
      with_init_layers tags (xs ++ last ∷ []) inits type ≡ with_layers tags (xs ++ with_given (given_length Void inits) last ∷ []) type
  given_behind_some [] last type h = absurd (h refl)
  given_behind_some (x ∷ xs) last type h = behind x xs last type

  given_last : (xs : List CodeLayer) (last : Layer) (type : PlainType) →
      with_init_layers tags (reverse (map plain_layer xs) ++ last ∷ []) inits type
      ≡ with_layers tags (reverse (map plain_layer xs) ++ with_given (given_behind (1 + length xs) type inits) last ∷ []) type
  given_last [] last type = next_to_name last type
  given_last (z ∷ zs) last type =
      given_behind_some (reverse (map plain_layer (z ∷ zs))) last type
      (λ e. no_end (reverse (map plain_layer zs)) (plain_layer z) (sym (reverse-append (plain_layer z ∷ []) (map plain_layer zs)) ∙ e))
      ∙ ap (λ (b : Bool). with_layers tags (reverse (map plain_layer (z ∷ zs)) ++ with_given (given_length (cond b type Void) inits) last ∷ []) type) (sym (not_one (1 + length (z ∷ zs)) (omega arith)))

  -- the layers of the code, of which the first stands next to the name
  pub given_first : (x y : CodeLayer) (xs : List CodeLayer) (type : PlainType) → plain_layer y ≡ with_given (given_behind (1 + length xs) type inits) (plain_layer x) →
      with_init_layers tags (plain_layers (x ∷ xs)) inits type ≡ with_layers tags (plain_layers (y ∷ xs)) type
  given_first x y xs type h =
      ap (λ (ls : List Layer). with_init_layers tags ls inits type) (reverse-append (plain_layer x ∷ []) (map plain_layer xs))
      ∙ given_last xs (plain_layer x) type
      ∙ ap (λ (l : Layer). with_layers tags (reverse (map plain_layer xs) ++ l ∷ []) type) (sym h)
      ∙ sym (ap (λ (ls : List Layer). with_layers tags ls type) (reverse-append (plain_layer y ∷ []) (map plain_layer xs)))

  pub given_set : (layers : List CodeLayer) (x y : CodeLayer) (type : PlainType) → 0 < length layers → x ≡ get_or layers 0 x → plain_layer y ≡ with_given (given_behind (length layers) type inits) (plain_layer x) →
      with_init_layers tags (plain_layers layers) inits type ≡ with_layers tags (plain_layers (slice_set layers 0 y)) type
  given_set [] x y type some is h = absurd (omega (arith, some))
  given_set (z ∷ zs) x y type some is h =
      let count : length (z ∷ zs) ≡ 1 + length zs = omega arith in
      given_first z y zs type
      (h ∙ ap (λ (n : ℕ). with_given (given_behind n type inits) (plain_layer x)) count ∙ ap (λ (l : CodeLayer). with_given (given_behind (1 + length zs) type inits) (plain_layer l)) is)

  pub no_layers : (layers : List CodeLayer) (type : PlainType) → length layers ≤ 0 →
      with_init_layers tags (plain_layers layers) inits type ≡ with_layers tags (plain_layers layers) type
  no_layers [] type h = refl
  no_layers (z ∷ zs) type h = absurd (omega (arith, h))
