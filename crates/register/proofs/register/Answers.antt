use Rattle.std.proofs.Common.{sym, ◌∙◌, eqb-true}
use Rattle.standard.proofs.RefusalLaws.{taken}
use Rattle.standard.proofs.RegisterLaws.{begins_anew}
use Rattle.standard.specs.Register.{register_call}
use Rattle.register.proofs.register.Goals as goal

pub returns : goal.returns
unfolding register_call
returns c =
    let key = c.args.key.now in
    let t = taken 16 key (sym c.in_ok-key.was ∙ c.exactly.ensures) in
    rw (c.turned.ensures, t.1, t.0, begins_anew key c.args.steps (eqb-true _ _ t.0))
