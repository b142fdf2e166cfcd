-- Trees, and the trees of their halves.
use Rattle.std.proofs.Common.{◌≡◌, ◌≢◌, ◌≤◌, ◌<◌, ◌+◌, ◌-◌, ◌*◌, ◌/◌, ◌^◌, ◌⊎◌, inl, inr, ℕ, zero, suc, min, Bool, false, List, [], ◌∷◌, ◌++◌, length, get_or, set, take, drop, replicate, Some, refl, sym, ap, subst, ◌∙◌, arith}
use Rattle.std.specs.Prelude.{slice_get}
use Rattle.std.proofs.Math.Nat.{pow-suc}
use Rattle.std.proofs.lemmas.Bool.{cases_lt}
use Rattle.std.proofs.lemmas.List.{take_at, drop_at, take_all, take_min, drop_min, take-replicate, drop-replicate, length-replicate, length-take, length-drop}
use Rattle.std.proofs.lemmas.Option.{slice_get_past, get_or_from_slice_get}
use Rattle.hole_tree.specs.declared.node.Node.{Node}
use Rattle.hole_tree.specs.Runs.{summary}
use Rattle.hole_tree.specs.Granules.{IsSameOutside}
use Rattle.hole_tree.specs.Tree.{IsTree, node_count}
use Rattle.hole_tree.specs.RowEquations.{same_rows}
use Rattle.hole_tree.proofs.Pieces.{slice_get-take, slice_get-take_past, slice_get-drop}

-- what a tree that is higher than 0 is made of
pub record IsJoined (below : ℕ) (row : List Bool) (nodes : List Node) : Type 0 where
  pub root : slice_get nodes 0 ≡ Some (summary row)
  pub left : IsTree below (take (32 * 2 ^ below) row) (take (node_count below) (drop 1 nodes))
  pub right : IsTree below (drop (32 * 2 ^ below) row) (drop (node_count below) (drop 1 nodes))

pub root_is : (height : ℕ) (row : List Bool) (nodes : List Node) → IsTree height row nodes → slice_get nodes 0 ≡ Some (summary row)
root_is zero row nodes tree = tree
root_is (suc height) row nodes tree = tree.0

pub opened : (height below : ℕ) (row : List Bool) (nodes : List Node) → height ≡ below + 1 → IsTree height row nodes → IsJoined below row nodes
opened height below row nodes is tree =
    let same : height ≡ suc below = omega arith in
    let parts : IsTree (suc below) row nodes = subst (λ h. IsTree h row nodes) same tree in
    record { root = parts.0; left = parts.1; right = parts.2 }

pub closed : (height below : ℕ) (row : List Bool) (nodes : List Node) → height ≡ below + 1 → IsJoined below row nodes → IsTree height row nodes
closed height below row nodes is parts =
    let same : suc below ≡ height = omega arith in
    let tree : IsTree (suc below) row nodes = (parts.root, parts.left, parts.right) in
    subst (λ h. IsTree h row nodes) same tree

pub joined_tree : (below : ℕ) (row : List Bool) (root : Node) (left right : List Node) → root ≡ summary row → length left ≡ node_count below → IsTree below (take (32 * 2 ^ below) row) left → IsTree below (drop (32 * 2 ^ below) row) right
    → IsJoined below row (root ∷ (left ++ right))
joined_tree below row root left right root_ok long left_ok right_ok = record {
  root = ap Some root_ok;
  left = subst (IsTree below (take (32 * 2 ^ below) row)) (sym (take_at left right (node_count below) long)) left_ok;
  right = subst (IsTree below (drop (32 * 2 ^ below) row)) (sym (drop_at left right (node_count below) long)) right_ok;
}

pub node_count_more : (height below : ℕ) → height ≡ below + 1 → node_count height ≡ 1 + 2 * node_count below
node_count_more height below is =
    let same : height ≡ suc below = omega arith in
    ap node_count same

pub node_count_is : (height : ℕ) → node_count height + 1 ≡ 2 * 2 ^ height
node_count_is zero = refl
node_count_is (suc height) = omega (arith, node_count_is height, pow-suc 2 height)

pub node_count_some : (height : ℕ) → 0 < node_count height
node_count_some zero = omega arith
node_count_some (suc height) = omega arith

-- The halves of a row that is free

pub take_open : (half n : ℕ) → take half (replicate n false) ≡ replicate (min n half) false
take_open half n =
    elim (cases_lt n half) [
      | inl h ↦ let m : n ≡ min n half = omega arith in
          take_all half (replicate n false) (omega (arith, length-replicate n false)) ∙ ap (λ k. replicate k false) m
      | inr h ↦ let m : half ≡ min n half = omega arith in
          take-replicate half n false h ∙ ap (λ k. replicate k false) m
    ]

pub drop_open : (half n : ℕ) → drop half (replicate n false) ≡ replicate (n - min n half) false
drop_open half n =
    let m : n - half ≡ n - min n half = omega arith in
    drop-replicate half n false ∙ ap (λ k. replicate k false) m

-- The halves of a row that has changed

pub same_take : (before after : List Bool) (from to half : ℕ) → IsSameOutside before after from to → IsSameOutside (take half before) (take half after) from (min to half)
same_take before after from to half same = record {
  long = omega (arith, same.long, length-take half before, length-take half after);
  below = λ k low. elim (cases_lt k half) [
    | inl h ↦ slice_get-take half after k h ∙ same.below k low ∙ sym (slice_get-take half before k h)
    | inr h ↦ slice_get-take_past half after k h ∙ sym (slice_get-take_past half before k h)
  ];
  above = λ k high. elim (cases_lt k half) [
    | inl h ↦ slice_get-take half after k h ∙ same.above k (omega arith) ∙ sym (slice_get-take half before k h)
    | inr h ↦ slice_get-take_past half after k h ∙ sym (slice_get-take_past half before k h)
  ];
}

pub same_drop : (before after : List Bool) (from to half : ℕ) → IsSameOutside before after from to → IsSameOutside (drop half before) (drop half after) (from - half) (to - half)
same_drop before after from to half same = record {
  long = omega (arith, same.long, length-drop half before, length-drop half after);
  below = λ k low. slice_get-drop half after k ∙ same.below (half + k) (omega arith) ∙ sym (slice_get-drop half before k);
  above = λ k high. slice_get-drop half after k ∙ same.above (half + k) (omega arith) ∙ sym (slice_get-drop half before k);
}

-- a row of which no granule has changed
pub same_row : (before after : List Bool) (from to : ℕ) → IsSameOutside before after from to → (to ≤ from) ⊎ (length after ≤ from) → before ≡ after
same_row before after from to same (inl empty) =
    same_rows before after (λ k. elim (cases_lt k from) [
      | inl h ↦ sym (same.below k h)
      | inr h ↦ sym (same.above k (omega arith))
    ])
same_row before after from to same (inr past) =
    same_rows before after (λ k. elim (cases_lt k from) [
      | inl h ↦ sym (same.below k h)
      | inr h ↦ slice_get_past before k (omega (arith, same.long)) ∙ sym (slice_get_past after k (omega arith))
    ])

-- The trees of the halves, as code takes them apart and puts them together

pub root_node : (height : ℕ) (row : List Bool) (nodes : List Node) (d : Node) → IsTree height row nodes → get_or nodes 0 d ≡ summary row
root_node height row nodes d tree =
    get_or_from_slice_get nodes 0 (summary row) d (root_is height row nodes tree)

set_one : (xs : List Node) (x : Node) → length xs ≡ 1 → set xs 0 x ≡ x ∷ []
set_one [] x long = absurd (omega arith)
set_one (y ∷ []) x long = refl
set_one (y ∷ (z ∷ xs)) x long = absurd (omega arith)

module _ (height half : ℕ) (above : height ≢ 0) (half_is : half ≡ 32 * 2 ^ (height - 1)) where
  pub count_below : (nodes below : List Node) → length nodes ≡ node_count height → below ≡ drop 1 nodes → length below ≡ 2 * node_count (height - 1)
  count_below nodes below long below_is =
      let more = node_count_more height (height - 1) (omega arith) in
      let parts = ap length below_is in
      omega (arith, length-drop 1 nodes)

  module _ (row : List Bool) (nodes below : List Node) (middle : ℕ) (tree : IsTree height row nodes) (long : length nodes ≡ node_count height) (below_is : below ≡ drop 1 nodes) (middle_is : middle ≡ length below / 2) where
    middle_at : middle ≡ node_count (height - 1)
    middle_at = let two = count_below nodes below long below_is in omega arith

    pub left_tree : (left : List Node) → left ≡ take middle below → IsTree (height - 1) (take half row) left
    left_tree left left_is =
        let parts = opened height (height - 1) row nodes (omega arith) tree in
        let same : take (node_count (height - 1)) (drop 1 nodes) ≡ left = ap (λ n. take n (drop 1 nodes)) (sym middle_at) ∙ ap (take middle) (sym below_is) ∙ sym left_is in
        subst (IsTree (height - 1) (take half row)) same (subst (λ n. IsTree (height - 1) (take n row) (take (node_count (height - 1)) (drop 1 nodes))) (sym half_is) parts.left)

    pub right_tree : (right : List Node) → right ≡ drop middle below → IsTree (height - 1) (drop half row) right
    right_tree right right_is =
        let parts = opened height (height - 1) row nodes (omega arith) tree in
        let same : drop (node_count (height - 1)) (drop 1 nodes) ≡ right = ap (λ n. drop n (drop 1 nodes)) (sym middle_at) ∙ ap (drop middle) (sym below_is) ∙ sym right_is in
        subst (IsTree (height - 1) (drop half row)) same (subst (λ n. IsTree (height - 1) (drop n row) (drop (node_count (height - 1)) (drop 1 nodes))) (sym half_is) parts.right)

    pub left_part_tree : (left : List Node) (part : List Bool) → left ≡ take middle below → part ≡ take half row → IsTree (height - 1) part left
    left_part_tree left part left_is part_is =
        subst (λ xs. IsTree (height - 1) xs left) (sym part_is) (left_tree left left_is)

    pub right_part_tree : (right : List Node) (part : List Bool) → right ≡ drop middle below → part ≡ drop half row → IsTree (height - 1) part right
    right_part_tree right part right_is part_is =
        subst (λ xs. IsTree (height - 1) xs right) (sym part_is) (right_tree right right_is)

  pub tree_closed : (row : List Bool) (root left right : List Node) (node : Node) → length root ≡ 1 → node ≡ summary row → length left ≡ node_count (height - 1) → IsTree (height - 1) (take half row) left → IsTree (height - 1) (drop half row) right
      → IsTree height row (set root 0 node ++ (left ++ right))
  tree_closed row root left right node one node_is long left_ok right_ok =
      let made = joined_tree (height - 1) row node left right node_is long (subst (λ n. IsTree (height - 1) (take n row) left) half_is left_ok) (subst (λ n. IsTree (height - 1) (drop n row) right) half_is right_ok) in
      let front : node ∷ (left ++ right) ≡ set root 0 node ++ (left ++ right) = ap (λ l. l ++ (left ++ right)) (sym (set_one root node one)) in
      subst (IsTree height row) front (closed height (height - 1) row (node ∷ (left ++ right)) (omega arith) made)

  pub tree_opened : (granules first : ℕ) (root left right : List Node) (node : Node) → first ≡ min granules half → length root ≡ 1 → node ≡ summary (replicate granules false) → length left ≡ node_count (height - 1)
      → IsTree (height - 1) (replicate first false) left → IsTree (height - 1) (replicate (granules - first) false) right → IsTree height (replicate granules false) (set root 0 node ++ (left ++ right))
  tree_opened granules first root left right node first_is one node_is long left_ok right_ok =
      let left_row : replicate first false ≡ take half (replicate granules false) = ap (λ n. replicate n false) first_is ∙ sym (take_open half granules) in
      let right_row : replicate (granules - first) false ≡ drop half (replicate granules false) = ap (λ n. replicate (granules - n) false) first_is ∙ sym (drop_open half granules) in
      tree_closed (replicate granules false) root left right node one node_is long
      (subst (λ row. IsTree (height - 1) row left) left_row left_ok) (subst (λ row. IsTree (height - 1) row right) right_row right_ok)

pub left_row : (row part : List Bool) (half cut : ℕ) → part ≡ take cut row → cut ≡ min half (length row) → part ≡ take half row
left_row row part half cut part_is cut_is =
    part_is ∙ ap (λ n. take n row) cut_is ∙ take_min half row

pub right_row : (row part : List Bool) (half cut : ℕ) → part ≡ drop cut row → cut ≡ min half (length row) → part ≡ drop half row
right_row row part half cut part_is cut_is =
    part_is ∙ ap (λ n. drop n row) cut_is ∙ drop_min half row
