use Rattle.register.proofs.RegisterStateLaws.{turned_on, turned_back}
use Rattle.register.proofs.turn.Goals as goal

pub returns-in-Encrypting : goal.returns-in-Encrypting
returns-in-Encrypting c = rw c.in-Encrypting.is (turned_on c.args.i c.args.s _ _ c.step.ensures c.round-halves.ensures)

pub returns-in-Decrypting : goal.returns-in-Decrypting
returns-in-Decrypting c = rw c.in-Decrypting.is (turned_back c.args.i c.args.s _ _ c.step_back-q.ensures c.round.ensures)
