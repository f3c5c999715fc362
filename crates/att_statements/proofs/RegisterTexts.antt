-- What the code reads of registers' names as operands, against the table of names.
use Rattle.std.proofs.Common.{◌≡◌, ℕ, List, Some, refl, sym}
use Rattle.insn_table.specs.declared.insn.Operand.{Operand}
use Rattle.register_names.specs.Names.{IsRegisterName}
use Rattle.register_names.specs.Reading.{register_named}
use Rattle.text_parts.proofs.Options.{map_some}
use Rattle.register_names.proofs.NameTexts as names
use Rattle.att_statements.specs.Operands.{register_operand}
use Rattle.att_statements.specs.ReadingOperands.{operand_named}

-- a name that stands in a table is read
pub operand-only : (w : ℕ) (name : List ℕ) (n : ℕ) → IsRegisterName name w n → operand_named name ≡ Some (register_operand w n)
unfolding operand_named
operand-only w name n there = let e = names.register-only w name n there in rw e refl

-- a name that is read stands in a table
pub operand-known : (name : List ℕ) (o : Operand) → operand_named name ≡ Some o → (n : ℕ) × (w : ℕ) × IsRegisterName name w n × (o ≡ register_operand w n)
unfolding operand_named
operand-known name o h =
    let p = map_some (register_named name) (λ (r : ℕ × ℕ). register_operand r.0 r.1) o h in
    (p.0.1, p.0.0, names.register-known name p.0.0 p.0.1 p.1, sym p.2)
