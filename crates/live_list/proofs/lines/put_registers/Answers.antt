use Rattle.std.proofs.Common.{◌≡◌, ◌<◌, ◌*◌, ◌++◌, ℕ, Vec, Global, length, sym, ap, ◌∙◌, arith}
use Rattle.core_tree.specs.Lives.{is_live}
use Rattle.local_liveness.specs.Sets.{has}
use Rattle.live_list.proofs.Growing.{same_answer, words_below, live_more, dead_more}
use Rattle.live_list.proofs.lines.put_registers.Goals as goal
use Rattle.live_list.proofs.lines.put_registers.Goals.{then-contains+in_ok-put_register, else-contains}

pub loop-register-preserved : goal.loop-register-preserved
loop-register-preserved c =
    let body = c.args.func.now.body in
    let below : c.loop-register.register < 64 * length c.args.live.now =
    let room = c.requires.room in let long = c.len.ensures in let fits = c.in_ok-registers.ensures in omega arith in
    let told : c.contains.result ≡ is_live body c.args.point c.loop-register.register =
    c.contains.ensures
    ∙ same_answer c.live_by_paths.ensures body c.args.point c.loop-register.register (has c.args.live.now c.loop-register.register)
    (c.requires.exact c.loop-register.register below) in
    elim c.if-contains.branch [
      | then-contains+in_ok-put_register w ↦
          ap (λ (t : Vec ℕ Global). t.items) w.text-is
          ∙ live_more body c.args.point c.loop-register.register c.args.text.now.items c.loop-register.text.items w.put_register.new.text.items
          c.loop-register.invariant (sym told ∙ w.if-contains.true) w.in_ok-put_register.ensures
      | else-contains w ↦
          ap (λ (t : Vec ℕ Global). t.items) w.text-is
          ∙ dead_more body c.args.point c.loop-register.register c.args.text.now.items c.loop-register.text.items c.loop-register.invariant (sym told ∙ w.if-contains.false)
    ]

pub returns : goal.returns
returns c =
    let all : c.loop-register.register ≡ length c.args.func.now.regs =
    let long = c.len.ensures in let fits = c.in_ok-registers.ensures in omega (arith, long, fits) in
    c.loop-register.invariant ∙ ap (λ n. c.args.text.now.items ++ words_below c.args.func.now.body c.args.point n) all
