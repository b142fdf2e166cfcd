-- Names that are free.
use Rattle.std.proofs.Common.{◌≡◌, ℕ, false, true≢false, List, Option, Some, None, refl}
use Rattle.std.specs.Prelude.{is_some}
use Rattle.c_decls.specs.Named.{PlainNamed}
use Rattle.c_decls.specs.ScopeList.{named_in, innermost}
use Rattle.elaboration.specs.Context.{Context}
use Rattle.elaboration.specs.Declarators.{is_declared}
use Rattle.elab_base.specs.MaybeNames.{IsFree}

none_found : (found : Option PlainNamed) → is_some found ≡ false → found ≡ None
none_found None h = refl
none_found (Some named) h = absurd (true≢false h)

pub free_name : (name : Option (List ℕ)) (c : Context) → is_declared name c ≡ false → IsFree name c.scopes
free_name None c h = tt
free_name (Some name) c h = none_found (named_in name (innermost c.scopes)) h
