-- The walk from scopes and tags as they are given.
use Rattle.std.proofs.Common.{◌≡◌, ℕ, List, [], ◌++◌, Result, Ok, Err, sym, ap, ◌∙◌}
use Rattle.std.proofs.lemmas.List.{append-nil}
use Rattle.c_types.specs.declared.tags.TagInfo.{TagInfo}
use Rattle.c_types.specs.TagTable.{TagTable}
use Rattle.c_decls.specs.declared.refusal.TypeError.{TypeError}
use Rattle.c_decls.specs.declared.refusal.TypeError.TheVariants as e
use Rattle.c_decls.specs.ScopeList.{ScopeList}
use Rattle.c_decls.specs.Refusals.{Checked, Meets, then}
use Rattle.c_decls.specs.TypeNames.{Context}
use Rattle.c_typing.specs.Walks.{Walks, here, with_new}

-- where no tag is new
begun : (scopes s : ScopeList) (tags : TagTable) (new : List TagInfo) → s ≡ scopes → new ≡ [] → here s (with_new tags new) ≡ here scopes tags
begun scopes s tags new p q =
    ap (λ x. here x (with_new tags new)) p
    ∙ ap (λ n. here scopes (with_new tags n)) q
    ∙ ap (λ made. here scopes (let kept : TagTable = record { made = made; completed = tags.completed } in kept)) (append-nil tags.made)

module _ {A B : Type 0} (view : A → B) (walk : Context → Checked (Context × B)) (scopes s : ScopeList) (tags : TagTable) (new : List TagInfo)
    (p : s ≡ scopes) (q : new ≡ []) where
  -- what is declared in the end is put into the scopes and tags
  pub walked : (after z : ScopeList) (t : TagTable) (more : List TagInfo) (b : B) →
      walk (here s (with_new tags new)) ≡ Ok (here after (with_new tags more), b) → z ≡ after → t ≡ with_new tags more →
      walk (here scopes tags) ≡ Ok (here z t, b)
  walked after z t more b h same made =
      ap walk (sym (begun scopes s tags new p q)) ∙ h
      ∙ ap (λ (c : Context). let all : Checked (Context × B) = Ok (c, b) in all) (sym (ap (λ x. here x t) same ∙ ap (λ y. here after y) made))

  pub walk_refused : (d c : Context) (error : TypeError) → Walks view d (Err error) (walk (here s (with_new tags new))) →
      Walks view c (Err error) (walk (here scopes tags))
  walk_refused d c (e.Bad kind line) h = ap walk (sym (begun scopes s tags new p q)) ∙ h
  walk_refused d c e.NoMemory h = tt

  -- what is declared is forgotten
  pub answered_alone : (d : Context) (r : Result A TypeError) → Walks view d r (walk (here s (with_new tags new))) →
      Meets view r (then (walk (here scopes tags)) (λ d. Ok d.1))
  answered_alone d (Ok a) h = ap (λ w. then w (λ d. Ok d.1)) (ap walk (sym (begun scopes s tags new p q)) ∙ h)
  answered_alone d (Err (e.Bad kind line)) h = ap (λ w. then w (λ d. Ok d.1)) (ap walk (sym (begun scopes s tags new p q)) ∙ h)
  answered_alone d (Err e.NoMemory) h = tt
