-- A member by its name is the one at the place of the name.
use Rattle.std.proofs.Common.{◌≡◌, ◌++◌, ◌∷◌, ◌+◌, ◌<◌, ◌≤◌, [], ℕ, suc, Bool, true, false, cond, List, Option, Some, None, option_map, length, take, get_or, refl, ap, sym, subst, ◌∙◌, arith, add-one}
use Rattle.std.specs.Prelude.{bytes_eq, find, is_some, slice_get, option_and_then}
use Rattle.std.specs.Option.{option_or}
use Rattle.std.specs.Map.{lookup}
use Rattle.std.proofs.Math.Seq.{take-suc}
use Rattle.std.proofs.lemmas.List.{length-take-le}
use Rattle.std.proofs.lemmas.Slice.Eq.{bytes_eq-Decides}
use Rattle.c_types.specs.declared.bodies.Member.{Member}
use Rattle.c_types.specs.MemberPlaces.{place_of}

-- Finding

first_or : (b : Bool) (m : Member) (rest : List Member) (place : Option ℕ) (found : Option Member) → found ≡ option_and_then (slice_get rest) place →
    cond b (Some m) found ≡ option_and_then (slice_get (m ∷ rest)) (cond b (Some 0) (option_map suc place))
first_or true m rest place found h = refl
first_or false m rest None found h = h
first_or false m rest (Some n) found h = h

find_is : (name : List ℕ) (ms : List Member) → find (λ (m : Member). bytes_eq name m.name) ms ≡ option_and_then (slice_get ms) (place_of name ms)
find_is name [] = refl
find_is name (m ∷ rest) = first_or (bytes_eq name m.name) m rest (place_of name rest) _ (find_is name rest)

-- what the place that is kept leads to
pub found_by : (name : List ℕ) (list now : List Member) (kept : Option ℕ) (got : Option Member) → kept ≡ place_of name list → list ≡ now →
    got ≡ option_and_then (slice_get list) kept → got ≡ find (λ (m : Member). bytes_eq name m.name) now
found_by name list now kept got place view h =
    h ∙ (ap (option_and_then (slice_get list)) place ∙ (sym (find_is name list) ∙ ap (find (λ (m : Member). bytes_eq name m.name)) view))

-- One member more

behind : (b : Bool) {X : Type 0} (v : X) (rest whole last : Option X) → whole ≡ option_or rest last → cond b (Some v) whole ≡ option_or (cond b (Some v) rest) last
behind true v rest whole last h = refl
behind false v rest whole last h = h

lookup_more : {K X : Type 0} (test : K → Bool) (es : List (K × X)) (e : K × X) → lookup test (es ++ e ∷ []) ≡ option_or (lookup test es) (cond (test e.0) (Some e.1) None)
lookup_more test [] e = refl
lookup_more test (x ∷ es) e = behind (test x.0) x.1 (lookup test es) _ _ (lookup_more test es e)

shifted : (place : Option ℕ) (b : Bool) (n : ℕ) → option_map suc (option_or place (cond b (Some n) None)) ≡ option_or (option_map suc place) (cond b (Some (suc n)) None)
shifted None true n = refl
shifted None false n = refl
shifted (Some m) b n = refl

place_more : (name : List ℕ) (ms : List Member) (m : Member) → place_of name (ms ++ m ∷ []) ≡ option_or (place_of name ms) (cond (bytes_eq name m.name) (Some (length ms)) None)
place_more name [] m = refl
place_more name (x ∷ ms) m =
    behind (bytes_eq name x.name) 0 (option_map suc (place_of name ms)) _ _
    (ap (option_map suc) (place_more name ms m) ∙ shifted (place_of name ms) (bytes_eq name m.name) (length ms))

none_more : (o : Option ℕ) → o ≡ option_or o None
none_more None = refl
none_more (Some n) = refl

some_more : (o more : Option ℕ) → is_some o ≡ true → o ≡ option_or o more
some_more None more h = cc
some_more (Some n) more h = refl

-- a name that is there keeps its place
stays : (name : List ℕ) (ms : List Member) (m : Member) (b : Bool) → bytes_eq name m.name ≡ b → is_some (place_of m.name ms) ≡ true →
    place_of name ms ≡ option_or (place_of name ms) (cond b (Some (length ms)) None)
stays name ms m false e h = none_more (place_of name ms)
stays name ms m true e h =
    some_more (place_of name ms) _ (subst (λ (x : List ℕ). is_some (place_of x ms) ≡ true) (sym ((bytes_eq-Decides name m.name).0 e)) h)

one_more : (list : List Member) (i : ℕ) (m : Member) → i < length list → m ≡ get_or list i m → take (i + 1) list ≡ take i list ++ m ∷ []
one_more list i m within at = rw add-one (take-suc list i m within ∙ ap (λ (x : Member). take i list ++ x ∷ []) (sym at))

module _ {K : Type 0} (bytes : K → List ℕ) (name : List ℕ) (list : List Member) (i : ℕ) (m : Member) (old : List (K × ℕ)) where
  pub placed_new : (new : List (K × ℕ)) (key : K) → i < length list → m ≡ get_or list i m → new ≡ old ++ (key, i) ∷ [] → bytes key ≡ m.name →
      lookup (λ k. bytes_eq name (bytes k)) old ≡ place_of name (take i list) → lookup (λ k. bytes_eq name (bytes k)) new ≡ place_of name (take (i + 1) list)
  placed_new new key within at entries same before =
      let i_le : i ≤ length list = omega arith in
      ap (lookup (λ (k : K). bytes_eq name (bytes k))) entries
      ∙ (lookup_more (λ (k : K). bytes_eq name (bytes k)) old (key, i)
      ∙ (ap (λ (o : Option ℕ). option_or o (cond (bytes_eq name (bytes key)) (Some i) None)) before
      ∙ (ap (λ (w : List ℕ). option_or (place_of name (take i list)) (cond (bytes_eq name w) (Some i) None)) same
      ∙ (ap (λ (n : ℕ). option_or (place_of name (take i list)) (cond (bytes_eq name m.name) (Some n) None)) (sym (length-take-le i list i_le))
      ∙ (sym (place_more name (take i list) m) ∙ ap (place_of name) (sym (one_more list i m within at)))))))

  pub placed_again : i < length list → m ≡ get_or list i m → is_some (place_of m.name (take i list)) ≡ true →
      lookup (λ k. bytes_eq name (bytes k)) old ≡ place_of name (take i list) → lookup (λ k. bytes_eq name (bytes k)) old ≡ place_of name (take (i + 1) list)
  placed_again within at there before =
      before
      ∙ (stays name (take i list) m (bytes_eq name m.name) refl there
      ∙ (sym (place_more name (take i list) m) ∙ ap (place_of name) (sym (one_more list i m within at))))
