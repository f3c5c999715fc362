-- Forms that were made, and totals by atom.
use Rattle.std.specs.Prelude.{◌≡◌, ℕ, ◌^◌, ◌<◌, List, Some, length, slice_get, slice_index}
use Rattle.node_values.specs.declared.node.Node.{Node}
use Rattle.node_values.specs.declared.node.NodeId.{NodeId}
use Rattle.node_forms.specs.declared.form.Form.{Form}
use Rattle.node_forms.specs.Forms.{form_at}
use Rattle.node_forms.specs.Listed.{IsListed}

-- the forms that were made, each in the place of its node and width
pub record MadeForms : Type 0 where
  pub keys : List (NodeId × ℕ)
  pub forms : List Form

-- the form in a place is that of a node at w
pub record HasForm (ns : List Node) (made : MadeForms) (w i place : ℕ) : Type 0 where
  pub form : Form
  pub there : slice_get made.forms place ≡ Some form
  pub is : IsListed (length ns) w (form_at ns w i) form

-- each form is that of its node at its width
abbrev pub AreForms : List Node → MadeForms → Type 0
AreForms ns made = (place : ℕ) (key : NodeId × ℕ) → slice_get made.keys place ≡ Some key → HasForm ns made key.1 key.0.0 place

-- no total is other than 0
abbrev pub AreClear : List ℕ → Type 0
AreClear totals = (atom : ℕ) → slice_index totals atom ≡ 0

-- each total is below 2^w
abbrev pub AreBelow : ℕ → List ℕ → Type 0
AreBelow w totals = (atom : ℕ) → slice_index totals atom < 2 ^ w
