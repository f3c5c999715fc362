-- Which refusal a full sheet is.
use Rattle.terms.specs.declared.sheet.SheetFull.{SheetFull}
use Rattle.terms.specs.declared.sheet.SheetFull.TheVariants as sheets
use Rattle.sym_general.specs.declared.types.SymRefusal.{SymRefusal}
use Rattle.sym_general.specs.declared.types.SymRefusal.TheVariants as refusals

-- the refusal of an instruction whose sheet refuses a node
abbrev pub refusal_of : SheetFull → SymRefusal
refusal_of sheets.Full = refusals.SheetFull
refusal_of sheets.Memory = refusals.Memory
