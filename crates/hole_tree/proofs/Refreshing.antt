-- The halves of a tree some of whose granules have changed.
use Rattle.std.proofs.Common.{◌≡◌, ◌≢◌, ◌≤◌, ◌-◌, ◌*◌, ◌/◌, ◌^◌, inl, ℕ, min, max, Bool, List, length, take, drop, sym, subst, refl, ◌∙◌, arith}
use Rattle.hole_tree.specs.declared.node.Node.{Node}
use Rattle.hole_tree.specs.Granules.{IsSameOutside}
use Rattle.hole_tree.specs.Tree.{IsTree, WasTree, node_count}
use Rattle.hole_tree.proofs.Trees.{left_row, right_row, left_tree, right_tree, same_row, same_take, same_drop}

module _ (height half : ℕ) (above : height ≢ 0) (half_is : half ≡ 32 * 2 ^ (height - 1)) (row : List Bool) (nodes below : List Node) (from to cut : ℕ) (was : WasTree height row nodes from to) (long : length nodes ≡ node_count height) (below_is : below ≡ drop 1 nodes)
    (cut_is : cut ≡ min half (length row)) where
  pub left_was : (part : List Bool) (left : List Node) (to' : ℕ) → part ≡ take cut row → left ≡ take (length below / 2) below → to' ≡ min to half → WasTree (height - 1) part left from to'
  left_was part left to' part_is left_is to_is =
      let before = was.0 in
      let tree = left_tree height half above half_is before nodes below (length below / 2) was.1 long below_is refl left left_is in
      let same = same_take before row from to half was.2 in
      let at : IsSameOutside (take half before) (take half row) from to' = subst (IsSameOutside (take half before) (take half row) from) (sym to_is) same in
      (take half before, tree, subst (λ xs. IsSameOutside (take half before) xs from to') (sym (left_row row part half cut part_is cut_is)) at)

  pub right_was : (part : List Bool) (right : List Node) (from' to' : ℕ) → part ≡ drop cut row → right ≡ drop (length below / 2) below → from' ≡ from - half → to' ≡ to - half → WasTree (height - 1) part right from' to'
  right_was part right from' to' part_is right_is from_is to_is =
      let before = was.0 in
      let tree = right_tree height half above half_is before nodes below (length below / 2) was.1 long below_is refl right right_is in
      let same = same_drop before row from to half was.2 in
      let at : IsSameOutside (drop half before) (drop half row) from' to' = subst (λ n. IsSameOutside (drop half before) (drop half row) n to') (sym from_is) (subst (IsSameOutside (drop half before) (drop half row) (from - half)) (sym to_is) same) in
      (drop half before, tree, subst (λ xs. IsSameOutside (drop half before) xs from' to') (sym (right_row row part half cut part_is cut_is)) at)

  -- a half no granule of which has changed
  pub left_is_tree : (part : List Bool) (left : List Node) → part ≡ take cut row → left ≡ take (length below / 2) below → half ≤ from → IsTree (height - 1) part left
  left_is_tree part left part_is left_is past =
      let half_was = left_was part left (min to half) part_is left_is refl in
      subst (λ xs. IsTree (height - 1) xs left) (same_row half_was.0 part from (min to half) half_was.2 (inl (omega arith))) half_was.1

  pub right_is_tree : (part : List Bool) (right : List Node) → part ≡ drop cut row → right ≡ drop (length below / 2) below → to ≤ half → IsTree (height - 1) part right
  right_is_tree part right part_is right_is before_half =
      let half_was = right_was part right (from - half) (to - half) part_is right_is refl refl in
      subst (λ xs. IsTree (height - 1) xs right) (same_row half_was.0 part (from - half) (to - half) half_was.2 (inl (omega arith))) half_was.1

-- A tree of which nothing has changed yet, and of which more has

pub is_still_tree : (height : ℕ) (row : List Bool) (nodes : List Node) (from to : ℕ) → IsTree height row nodes → WasTree height row nodes from to
is_still_tree height row nodes from to tree = (row, tree, record { long = refl; below = λ k h. refl; above = λ k h. refl })

pub nothing_changed : (height : ℕ) (row : List Bool) (nodes : List Node) (from to : ℕ) → WasTree height row nodes from to → to ≤ from → IsTree height row nodes
nothing_changed height row nodes from to was none =
    subst (λ r. IsTree height r nodes) (same_row was.0 row from to was.2 (inl none)) was.1

pub more_changed : (height : ℕ) (row after : List Bool) (nodes : List Node) (from to place end : ℕ) → WasTree height row nodes from to → IsSameOutside row after place end → WasTree height after nodes (min from place) (max to end)
more_changed height row after nodes from to place end was same = (
  was.0,
  was.1,
  record {
    long = same.long ∙ was.2.long;
    below = λ k h. same.below k (omega arith) ∙ was.2.below k (omega arith);
    above = λ k h. same.above k (omega arith) ∙ was.2.above k (omega arith);
  },
)
