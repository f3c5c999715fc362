-- Forms as the code gives them: a list of atoms with their coefficients, and a constant.
use Rattle.std.specs.Prelude.{◌≡◌, ℕ, ◌<◌, List, Option, Some, None, if◌then◌else◌}
use Rattle.std.specs.List.{AllByRecursion}
use Rattle.insn_semantics.specs.Words.{minus}
use Rattle.node_values.specs.declared.node.Node.{Node}
use Rattle.node_forms.specs.declared.form.Form.{Form}
use Rattle.node_forms.specs.Forms.{LinearForm, differ_by_constant, form_at}
use Rattle.node_forms.specs.Sums.{AreFalling, listed_coefficient}

-- the list of a form at w over n nodes: each atom once, by falling numbers, with its coefficient where that is not 0
pub record IsListed (n w : ℕ) (form : LinearForm) (listed : Form) : Type 0 where
  pub width : listed.w ≡ w
  pub falling : AreFalling n listed.atoms
  pub some : AllByRecursion (λ p. 0 < p.1) listed.atoms
  pub coefficients : (atom : ℕ) → listed_coefficient listed.atoms atom ≡ form.coefficient atom
  pub constant : listed.c ≡ form.constant

-- the number by which the form of a at w is above that of b, where they differ by a constant
abbrev pub difference_of_forms : List Node → ℕ → ℕ → ℕ → Option ℕ
difference_of_forms ns w a b =
    if differ_by_constant ns w a b then Some (minus w (form_at ns w a).constant (form_at ns w b).constant) else None
