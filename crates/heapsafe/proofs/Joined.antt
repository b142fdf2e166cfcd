-- What was written before, and then a further piece.
use Rattle.std.proofs.Common.{◌≡◌, ◌∙◌, ℕ, List, ◌++◌, Option, Some, Result, Ok, Err, IsErr, ap, sym}
use Rattle.std.proofs.lemmas.List.{append_assoc}
use Rattle.hs_base.specs.PutAll.{PutsAll}
use Rattle.hs_base.specs.declared.outside.Failed.{Failed}

-- a first piece failed, so nothing behind it is written
pub failed_first : {T U : Type 0} (before after : Option (List ℕ)) (xs ys : List ℕ) (part : Result T Failed) (result : Result U Failed) → IsErr part → IsErr result → PutsAll before after xs part → PutsAll before after (xs ++ ys) result
failed_first before after xs ys (Ok value) result is_err failed h = absurd cc
failed_first before after xs ys (Err d) (Ok value) is_err failed h = absurd cc
failed_first before after xs ys (Err d) (Err d') is_err failed h = λ taken told.
    let p = h taken told in
    (p.0, p.1 ++ ys, sym (append_assoc p.0 p.1 ys) ∙ ap (λ l. l ++ ys) p.2, p.3)

-- the first piece was taken, and then the second is written
pub joined : {T : Type 0} (before middle after : Option (List ℕ)) (xs ys : List ℕ) (result : Result T Failed) → ((taken : List ℕ) → before ≡ Some taken → middle ≡ Some (taken ++ xs)) → PutsAll middle after ys result → PutsAll before after (xs ++ ys) result
joined before middle after xs ys (Ok value) begun h = λ taken told.
    h (taken ++ xs) (begun taken told) ∙ ap Some (append_assoc taken xs ys)
joined before middle after xs ys (Err e) begun h = λ taken told.
    let p = h (taken ++ xs) (begun taken told) in
    (xs ++ p.0, p.1, append_assoc xs p.0 p.1 ∙ ap (λ l. xs ++ l) p.2, p.3 ∙ ap Some (append_assoc taken xs p.0))
