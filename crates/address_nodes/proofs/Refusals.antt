-- What a refusal of a part says of the whole.
use Rattle.std.proofs.Common.{◌≡◌, sym, ◌∙◌, Result, Ok, Err}
use Rattle.std.specs.Result.{IsErrAnd, IsErrOf}
use Rattle.terms.specs.declared.sheet.SheetFull.{SheetFull}
use Rattle.terms.specs.declared.sheet.SheetFull.TheVariants.{Full}

-- what a part's error says, where it is handed on
pub handed_on : {T : Type 0} (P : Type 0) (r : Result T SheetFull) (why : SheetFull) → IsErrAnd r (λ e. e ≡ why) → (why ≡ Full → P) → IsErrOf r Full → P
handed_on P (Ok x) why is told full = cc
handed_on P (Err e) why is told full = let same : e ≡ Full = cc in told (sym is ∙ same)
