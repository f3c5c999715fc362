-- The linear form of a node at a width: its low w bits as a sum of coefficient times atom and a constant, modulo 2^w.
use Rattle.std.specs.Prelude.{ℕ, zero, suc, ◌+◌, ◌*◌, ◌%◌, ◌^◌, ◌==◌, Bool, true, ◌&&◌, List, length, if◌then◌else◌}
use Rattle.insn_semantics.specs.Words.{plus, minus, times}
use Rattle.node_values.specs.declared.node.Node.{Node}
use Rattle.node_values.specs.Sheets.{from_lower, node_at, width_at}
use Rattle.node_forms.specs.declared.linear.Linear.{Linear}
use Rattle.node_forms.specs.declared.linear.Linear.TheVariants.{Atom, Number, Times, Plus, Minus}
use Rattle.node_forms.specs.Linearity.{linearity}

-- a coefficient for each atom, by its number, and a constant
pub record LinearForm : Type 0 where
  pub coefficient : ℕ → ℕ
  pub constant : ℕ

-- the form of nothing: no atom, and the constant 0
abbrev pub no_form : LinearForm
no_form = record { coefficient = λ atom. 0; constant = 0 }

-- the form of node i from the forms of the nodes before it
abbrev pub form_by : ℕ → (ℕ → LinearForm) → ℕ → Linear → LinearForm
form_by w forms i Atom = record { coefficient = λ atom. if atom == i then 1 else 0; constant = 0 }
form_by w forms i (Number v) = record { coefficient = λ atom. 0; constant = v % 2 ^ w }
form_by w forms i (Times a k) = record {
  coefficient = λ atom. times w k ((forms a.0).coefficient atom);
  constant = times w k (forms a.0).constant;
}
form_by w forms i (Plus a b) = record {
  coefficient = λ atom. plus w ((forms a.0).coefficient atom) ((forms b.0).coefficient atom);
  constant = plus w (forms a.0).constant (forms b.0).constant;
}
form_by w forms i (Minus a b) = record {
  coefficient = λ atom. minus w ((forms a.0).coefficient atom) ((forms b.0).coefficient atom);
  constant = minus w (forms a.0).constant (forms b.0).constant;
}

-- the form of node i at w
unfoldable pub form_at : List Node → ℕ → ℕ → LinearForm
form_at ns w i = from_lower no_form (λ forms j. form_by w forms j (linearity ns (width_at ns) w (node_at ns j))) i

-- whether a test holds at each number below n
abbrev pub holds_below : (ℕ → Bool) → ℕ → Bool
holds_below test zero = true
holds_below test (suc n) = test n && holds_below test n

-- whether the forms of two nodes at w differ by a constant: their coefficients are the same at every atom
abbrev pub differ_by_constant : List Node → ℕ → ℕ → ℕ → Bool
differ_by_constant ns w a b = holds_below (λ atom. (form_at ns w a).coefficient atom == (form_at ns w b).coefficient atom) (length ns)

-- the sum of f at each number below n
abbrev pub sum_to : (ℕ → ℕ) → ℕ → ℕ
sum_to f zero = 0
sum_to f (suc n) = sum_to f n + f n

-- the value of a form over the first n nodes, whose values are given by number
abbrev pub form_value : LinearForm → (ℕ → ℕ) → ℕ → ℕ
form_value form values n = sum_to (λ atom. form.coefficient atom * values atom) n + form.constant
