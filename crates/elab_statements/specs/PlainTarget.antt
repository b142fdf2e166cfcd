-- What is initialized, as the definition has it.
use Rattle.elab_statements.specs.declared.targets.Target.{Target}
use Rattle.elab_statements.specs.declared.targets.Target.TheVariants as t
use Rattle.std.specs.Prelude.{Result}
use Rattle.c_decls.specs.declared.refusal.TypeError.{TypeError}
use Rattle.c_decls.specs.Refusals.{Meets}
use Rattle.elaboration.specs.Context.{Context}
use Rattle.elaboration.specs.Initializers as plain

abbrev pub plain_target : Target → plain.Target
plain_target (t.Register line register) = plain.InRegister line register
plain_target (t.Memory line mem) = plain.InMemory line mem
plain_target (t.Static start) = plain.InStatic start

-- a step that the definition may refuse: the context behind it and what is initialized are those that are wanted
abbrev pub Fills : Context → Result Target TypeError → plain.Filled → Type 0
Fills c result wanted = Meets (λ filled. (c, plain_target filled)) result wanted
