use Rattle.std.proofs.Common.{◌≡◌, ◌≤◌, ◌+◌, ◌*◌, length, subst}
use Rattle.std.specs.List.{sum_by}
use Rattle.core_tree.specs.declared.program.Core.{Core}
use Rattle.core_tree.specs.Sound.{code_size}
use Rattle.object_meaning.specs.compiled.Compiled.{IsCompiled}
use Rattle.compiled_file.proofs.Writable.{writable}
use Rattle.compiled_file.proofs.making.compile_file.Goals as goal

pub returns : goal.returns
returns c =
    let core = c.args.core.now in
    let pins = c.in_ok-counted.counted.pins in
    let code = c.in_ok-code.code in
    let compiled = subst (λ (core : Core). IsCompiled core pins code) c.in_ok-counted.ensures.core c.in_ok-code.ensures.compiled in
    record {
      pins = pins;
      exact = c.in_ok-counted.ensures.pins;
      ascending = c.listed_pins_are_exact.ensures.ascending core pins c.in_ok-counted.ensures.listed;
      compiled = compiled;
      formed = c.in_ok-code.ensures.formed;
      few = subst (λ (core : Core). length code.instrs ≤ 14 * sum_by code_size core.funcs + length core.funcs + 1) c.in_ok-counted.ensures.core c.in_ok-code.ensures.few;
      named = c.in_ok-names.ensures.names;
      writable = writable core pins code compiled c.in_ok-names.names c.in_ok-names.ensures.names (c.has_short_lists.ensures.0 c.if-not-has_short_lists.false) c.in_ok-names.ensures.short;
    }
