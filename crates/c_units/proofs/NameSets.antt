-- Keys of a set as names without repeats.
use Rattle.c_units.proofs.Words.Std.{Bool, List, [], ap, bytes_eq, false, if◌then◌else◌, list_any, map, map-append, refl, true, ℕ, ◌++◌, ◌||◌, ◌∙◌, ◌∷◌, ◌≡◌}
use Rattle.c_units.proofs.Words.Trees.{insert_key}
use Rattle.c_units.proofs.Words.Units.{is_among, noted}

module _ {K : Type 0} (bytes : K → List ℕ) where
  -- a name among keys
  pub among_keys : (name : List ℕ) (keys : List K) → list_any (λ key. bytes_eq name (bytes key)) keys ≡ is_among (map bytes keys) name
  among_keys name [] = refl
  among_keys name (key ∷ keys) = ap (λ b. bytes_eq name (bytes key) || b) (among_keys name keys)

  one_more : (found : Bool) (keys : List K) (key : K) → map bytes (if found then keys else keys ++ key ∷ []) ≡ (if found then map bytes keys else map bytes keys ++ bytes key ∷ [])
  one_more true keys key = refl
  one_more false keys key = map-append bytes keys (key ∷ [])

  -- a name is noted where its key is inserted
  pub noted_key : (keys : List K) (key : K) → map bytes (insert_key (λ x y. bytes_eq (bytes x) (bytes y)) keys key) ≡ noted (map bytes keys) (bytes key)
  noted_key keys key =
      one_more (list_any (λ other. bytes_eq (bytes key) (bytes other)) keys) keys key
      ∙ ap (λ b. if b then map bytes keys else map bytes keys ++ bytes key ∷ []) (among_keys (bytes key) keys)
