use Rattle.insn_table.proofs.Apart.{forms-apart}
use Rattle.insn_table.proofs.table.forms_are_apart.Goals as goal

pub returns : goal.returns
returns c = λ op vex w args. forms-apart op vex w args
