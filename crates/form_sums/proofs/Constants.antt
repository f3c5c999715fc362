-- A weighted sum of values is that of the forms, atom by atom; where the atoms cancel, its constant is left.
use Rattle.std.proofs.Common.{◌≡◌, ℕ, zero, suc, ◌+◌, ◌*◌, ◌%◌, ◌^◌, ◌<◌, ◌≤◌, List, [], ◌∷◌, refl, ◌∙◌, ap, arith, length}
use Rattle.node_values.specs.declared.node.Node.{Node}
use Rattle.node_values.specs.declared.node.NodeId.{NodeId}
use Rattle.node_values.specs.Sheets.{IsSheet, value_at, width_at}
use Rattle.node_values.specs.Values.{Environment}
use Rattle.node_forms.specs.Forms.{form_at, form_value, sum_to}
use Rattle.node_forms.specs.Sums.{SameWord}
use Rattle.node_forms.proofs.FormValues.{value_of_form}
use Rattle.node_forms.proofs.Residues.{same_add, same_times}
use Rattle.form_sums.specs.Sums.{AreWide, AtomsCancel, sum_coefficient, sum_constant, sum_of}

no_sum : (v : ℕ → ℕ) (n : ℕ) → sum_to (λ a. 0 * v a) n ≡ 0
no_sum v zero = refl
no_sum v (suc n) = omega (arith, no_sum v n)

-- k times one sum over the atoms and another one
sums_joined : (k : ℕ) (c r v : ℕ → ℕ) (n : ℕ)
    → sum_to (λ a. (k * c a + r a) * v a) n ≡ k * sum_to (λ a. c a * v a) n + sum_to (λ a. r a * v a) n
sums_joined k c r v zero = omega arith
sums_joined k c r v (suc n) =
    distribute k (c n) (r n) (v n) (sum_to (λ a. (k * c a + r a) * v a) n) (sum_to (λ a. c a * v a) n) (sum_to (λ a. r a * v a) n) (sums_joined k c r v n)
  where
    distribute : (k x y z all s t : ℕ) → all ≡ k * s + t → all + (k * x + y) * z ≡ k * (s + x * z) + (t + y * z)
    distribute k x y z all s t h = ap (λ (m : ℕ). m + (k * x + y) * z) h ∙ omega arith

-- a weighted sum of forms' values, by atoms
by_atoms : (c : ℕ → ℕ → ℕ) (d v : ℕ → ℕ) (n : ℕ) (ts : List (ℕ × NodeId))
    → sum_of (λ i. sum_to (λ a. c i a * v a) n + d i) ts ≡ sum_to (λ a. sum_of (λ i. c i a) ts * v a) n + sum_of d ts
by_atoms c d v n [] = omega (arith, no_sum v n)
by_atoms c d v n (t ∷ ts) =
    gather t.0 (sum_to (λ a. c t.1.0 a * v a) n) (d t.1.0) (sum_of (λ i. sum_to (λ a. c i a * v a) n + d i) ts)
    (sum_to (λ a. sum_of (λ i. c i a) ts * v a) n) (sum_of d ts) (sum_to (λ a. sum_of (λ i. c i a) (t ∷ ts) * v a) n)
    (by_atoms c d v n ts) (sums_joined t.0 (c t.1.0) (λ a. sum_of (λ i. c i a) ts) v n)
  where
    gather : (k s x rest r q all : ℕ) → rest ≡ r + q → all ≡ k * s + r → k * (s + x) + rest ≡ all + (k * x + q)
    gather k s x rest r q all h j = rw (h, j) (omega arith)

-- atoms that cancel add nothing
cancelled : (w : ℕ) (s v : ℕ → ℕ) (n : ℕ) → ((a : ℕ) → SameWord w (s a) 0) → SameWord w (sum_to (λ a. s a * v a) n) 0
cancelled w s v zero h = refl
cancelled w s v (suc n) h =
    same_add w (sum_to (λ a. s a * v a) n) 0 (s n * v n) (0 * v n) (cancelled w s v n h) (same_times w (s n) 0 (v n) (v n) (h n) refl)
    ∙ ap (λ (t : ℕ). t % 2 ^ w) (let e : 0 + 0 * v n ≡ 0 = omega arith in e)

-- nodes that are the same modulo 2^w have the same sums
same_sums : (w : ℕ) (f g : ℕ → ℕ) (ns : List Node) (ts : List (ℕ × NodeId)) → AreWide ns w ts
    → ((i : ℕ) → i < length ns → w ≤ width_at ns i → SameWord w (f i) (g i)) → SameWord w (sum_of f ts) (sum_of g ts)
same_sums w f g ns [] wide h = refl
same_sums w f g ns (t ∷ ts) wide h =
    same_add w (t.0 * f t.1.0) (t.0 * g t.1.0) (sum_of f ts) (sum_of g ts)
    (same_times w t.0 t.0 (f t.1.0) (g t.1.0) refl (h t.1.0 wide.0.0 wide.0.1)) (same_sums w f g ns ts wide.1 h)

pub constant_of_sum : (e : Environment) (ns : List Node) (w : ℕ) (ts : List (ℕ × NodeId)) → IsSheet ns → 0 < w → AreWide ns w ts
    → AtomsCancel ns w ts → SameWord w (sum_of (value_at e ns) ts) (sum_constant ns w ts)
constant_of_sum e ns w ts sheet positive wide cancel =
    same_sums w (value_at e ns) (λ i. form_value (form_at ns w i) (value_at e ns) (length ns)) ns ts wide (value_of_form w positive ns sheet e)
    ∙ ap (λ (t : ℕ). t % 2 ^ w) (by_atoms (λ i. (form_at ns w i).coefficient) (λ i. (form_at ns w i).constant) (value_at e ns) (length ns) ts)
    ∙ same_add w (sum_to (λ a. sum_coefficient ns w ts a * value_at e ns a) (length ns)) 0 (sum_constant ns w ts) (sum_constant ns w ts)
    (cancelled w (sum_coefficient ns w ts) (value_at e ns) (length ns) cancel) refl
    ∙ ap (λ (t : ℕ). t % 2 ^ w) (let z : 0 + sum_constant ns w ts ≡ sum_constant ns w ts = omega arith in z)
