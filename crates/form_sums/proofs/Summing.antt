-- A weighted sum, part by part.
use Rattle.std.proofs.Common.{◌≡◌, ℕ, ◌+◌, ◌*◌, ◌%◌, ◌^◌, ◌<◌, List, ◌∷◌, refl, sym, ◌∙◌, ap, arith}
use Rattle.std.proofs.Math.Nat.{mod-eq_of_lt, zero-mod}
use Rattle.node_values.specs.declared.node.NodeId.{NodeId}
use Rattle.node_forms.specs.Sums.{SameWord}
use Rattle.node_forms.proofs.Residues.{same_add}
use Rattle.form_sums.specs.Sums.{sum_of}

-- what there is after a part, with the rest, is what there was before with the part and the rest
pub part_added : (w : ℕ) (f : ℕ → ℕ) (p : ℕ × NodeId) (rest : List (ℕ × NodeId)) (before after : ℕ)
    → SameWord w after (before + p.0 * f p.1.0) → SameWord w (after + sum_of f rest) (before + sum_of f (p ∷ rest))
part_added w f p rest before after h =
    same_add w after (before + p.0 * f p.1.0) (sum_of f rest) (sum_of f rest) h refl
    ∙ ap (λ (t : ℕ). t % 2 ^ w) (let e : before + p.0 * f p.1.0 + sum_of f rest ≡ before + (p.0 * f p.1.0 + sum_of f rest) = omega arith in e)

-- a total below 2^w is 0 where its sum is 0 modulo 2^w
pub clear_of_cancel : (w total sum : ℕ) → total < 2 ^ w → SameWord w total sum → SameWord w sum 0 → total ≡ 0
clear_of_cancel w total sum b h zero = sym (mod-eq_of_lt b) ∙ h ∙ zero ∙ zero-mod (2 ^ w)
