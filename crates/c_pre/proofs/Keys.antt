-- The names that a map or a set has as keys.
use Rattle.std.proofs.Common.{◌≡◌, ◌∙◌, ℕ, ◌+◌, Bool, true, false, cond, not, ◌||◌, ◌&&◌, bytes_eq, nat_lt, List, [], ◌∷◌, ◌++◌, map, length, Option, Some, None, refl, ap, arith}
use Rattle.std.specs.List.{list_any, prefix_len}
use Rattle.std.specs.Cmp.Lexicographic.{pointwise}
use Rattle.std.specs.Prelude.{position}
use Rattle.std.specs.Map.{lookup}
use Rattle.std.proofs.lemmas.Bool.{lt-ltb, ltb-true}
use Rattle.std.proofs.lemmas.List.{map-append}
use Rattle.indexmap.specs.IndexMap.{insert_entry}
use Rattle.indexmap.specs.IndexSet.{insert_key}
use Rattle.c_pre.specs.Directives.{is_among}
use Rattle.c_pre.specs.Expansion.{place_from, place_of}
use Rattle.c_pre.specs.Macros.{same_words, found_in, with_entry}
use Rattle.c_pre.specs.Table.{Table}
use Rattle.c_pre.specs.declared.macros.Defined.{Defined}
use Rattle.c_pre.proofs.Trees.{alike}

-- what is held, where something is
abbrev pub held : Option (Option Defined) → Option Defined
held None = None
held (Some o) = o

abbrev pub table : ℕ → List (List ℕ × Option Defined) → Table
table count names = record { count = count; names = names }

module _ {K : Type 0} (bytes : K → List ℕ) (word : List ℕ) where
  -- a word is among the names where it is among the keys
  pub among_keys : (keys : List K) → list_any (λ k. bytes_eq word (bytes k)) keys ≡ is_among (map bytes keys) word
  among_keys [] = refl
  among_keys (k ∷ keys) = ap (λ b. bytes_eq word (bytes k) || b) (among_keys keys)

  place_by : (place : ℕ) (keys : List K) → cond (nat_lt (prefix_len (λ k. not (bytes_eq word (bytes k))) keys) (length keys)) (Some (place + prefix_len (λ k. not (bytes_eq word (bytes k))) keys)) None ≡ place_from place (map bytes keys) word
  place_by place [] = refl
  place_by place (k ∷ keys) = by (bytes_eq word (bytes k)) (place_by (place + 1) keys)
    where
      rest : ℕ
      rest = prefix_len (λ k. not (bytes_eq word (bytes k))) keys

      one_more : (n : ℕ) → nat_lt (1 + n) (length (k ∷ keys)) ≡ nat_lt n (length keys)
      one_more n =
          alike (nat_lt (1 + n) (length (k ∷ keys))) (nat_lt n (length keys))
          (λ is. lt-ltb n (length keys) (omega (arith, ltb-true (1 + n) (length (k ∷ keys)) is)))
          (λ is. lt-ltb (1 + n) (length (k ∷ keys)) (omega (arith, ltb-true n (length keys) is)))

      by : (b : Bool) → cond (nat_lt rest (length keys)) (Some (place + 1 + rest)) None ≡ place_from (place + 1) (map bytes keys) word
          → cond (nat_lt (cond (not b) (1 + rest) 0) (length (k ∷ keys))) (Some (place + cond (not b) (1 + rest) 0)) None ≡ cond b (Some place) (place_from (place + 1) (map bytes keys) word)
      by true more =
          let e : place + 0 ≡ place = omega arith in
          let first : nat_lt 0 (length (k ∷ keys)) ≡ true = lt-ltb 0 (length (k ∷ keys)) (omega arith) in
          λ i. cond (first i) (Some (e i)) None
      by false more =
          let e : place + (1 + rest) ≡ place + 1 + rest = omega arith in
          (λ i. cond (one_more rest i) (Some (e i)) None) ∙ more

  -- a word has the place of its key
  pub place_keys : (keys : List K) → position (λ k. bytes_eq word (bytes k)) keys ≡ place_of (map bytes keys) word
  place_keys keys =
      let misses = prefix_len (λ k. not (bytes_eq word (bytes k))) keys in
      let e : misses ≡ 0 + misses = omega arith in
      ap (λ n. cond (nat_lt misses (length keys)) (Some n) None) e ∙ place_by 0 keys

  -- the macro of a name is what its key has
  pub found_keys : (entries : List (K × Option Defined)) → held (lookup (λ k. bytes_eq word (bytes k)) entries) ≡ found_in word (map (λ e. (bytes e.0, e.1)) entries)
  found_keys [] = refl
  found_keys (e ∷ entries) = by (bytes_eq word (bytes e.0)) (found_keys entries)
    where
      by : (b : Bool) → held (lookup (λ k. bytes_eq word (bytes k)) entries) ≡ found_in word (map (λ e. (bytes e.0, e.1)) entries)
          → held (cond b (Some e.1) (lookup (λ k. bytes_eq word (bytes k)) entries)) ≡ cond b e.1 (found_in word (map (λ e. (bytes e.0, e.1)) entries))
      by true rest = refl
      by false rest = rest

-- a key that is inserted is a name that gets its macro
pub entry_keys : {K : Type 0} (bytes : K → List ℕ) (key : K) (o : Option Defined) (entries : List (K × Option Defined)) → map (λ e. (bytes e.0, e.1)) (insert_entry (λ a b. bytes_eq (bytes a) (bytes b)) entries key o) ≡ with_entry (bytes key) o (map (λ e. (bytes e.0, e.1)) entries)
entry_keys bytes key o [] = refl
entry_keys {K} bytes key o (e ∷ entries) = by (bytes_eq (bytes key) (bytes e.0)) (entry_keys bytes key o entries)
  where
    named : List (K × Option Defined) → List (List ℕ × Option Defined)
    named es = map (λ e. (bytes e.0, e.1)) es

    by : (b : Bool) → named (insert_entry (λ a b. bytes_eq (bytes a) (bytes b)) entries key o) ≡ with_entry (bytes key) o (named entries)
        → named (cond b ((e.0, o) ∷ entries) (e ∷ insert_entry (λ a b. bytes_eq (bytes a) (bytes b)) entries key o)) ≡ cond b ((bytes e.0, o) ∷ named entries) ((bytes e.0, e.1) ∷ with_entry (bytes key) o (named entries))
    by true rest = refl
    by false rest = ap (λ es. (bytes e.0, e.1) ∷ es) rest

pub put_keys : {K : Type 0} (bytes : K → List ℕ) (key : K) (o : Option Defined) (old new : List (K × Option Defined)) (name : List ℕ) → new ≡ insert_entry (λ a b. bytes_eq (bytes a) (bytes b)) old key o → bytes key ≡ name → map (λ e. (bytes e.0, e.1)) new ≡ with_entry name o (map (λ e. (bytes e.0, e.1)) old)
put_keys bytes key o old new name is named =
    ap (map (λ e. (bytes e.0, e.1))) is ∙ entry_keys bytes key o old
    ∙ ap (λ (word : List ℕ). with_entry word o (map (λ e. (bytes e.0, e.1)) old)) named

-- a key that is new is a name behind the others
pub new_key : {K : Type 0} (bytes : K → List ℕ) (keys : List K) (key : K) → is_among (map bytes keys) (bytes key) ≡ false → map bytes (insert_key (λ a b. bytes_eq (bytes a) (bytes b)) keys key) ≡ map bytes keys ++ bytes key ∷ []
new_key bytes keys key absent =
    ap (λ b. map bytes (cond b keys (keys ++ key ∷ []))) (among_keys bytes (bytes key) keys ∙ absent) ∙ map-append bytes keys (key ∷ [])

-- lists of the same keys are lists of the same names
pub same_keys : {K : Type 0} (bytes : K → List ℕ) (xs ys : List K) → pointwise (λ x y. bytes_eq (bytes x) (bytes y)) xs ys ≡ same_words (map bytes xs) (map bytes ys)
same_keys bytes [] [] = refl
same_keys bytes [] (y ∷ ys) = refl
same_keys bytes (x ∷ xs) [] = refl
same_keys bytes (x ∷ xs) (y ∷ ys) = ap (λ b. bytes_eq (bytes x) (bytes y) && b) (same_keys bytes xs ys)
