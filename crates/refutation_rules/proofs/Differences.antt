-- Multiples of differences, modulo 2^w, and odd multiples.
use Rattle.std.proofs.Common.{◌≡◌, ℕ, zero, suc, ◌+◌, ◌-◌, ◌*◌, ◌%◌, ◌^◌, ◌<◌, ◌≤◌, List, [], ◌∷◌, ◌++◌, refl, sym, ◌∙◌, ap, arith}
use Rattle.std.proofs.Math.Nat.{add-mul-mod_self_left}
use Rattle.node_values.specs.declared.node.Node.{Node}
use Rattle.node_values.specs.declared.node.NodeId.{NodeId}
use Rattle.node_forms.specs.Sums.{SameWord}
use Rattle.node_forms.proofs.Residues.{same_add, same_low, same_number, same_times}
use Rattle.linear_forms.proofs.Powers.{same_narrow, square_one}
use Rattle.form_sums.specs.Sums.{AreWide, sum_of}
use Rattle.refutation_rules.specs.Sums.{less}

-- a weight and its less are nothing together
less_turns : (c : ℕ) → SameWord 64 (less c + c) 0
less_turns c =
    same_add 64 (less c) (c * (2 ^ 64 - 1)) c c (same_low 64 (c * (2 ^ 64 - 1))) refl
    ∙ same_number 64 (c * (2 ^ 64 - 1) + c) (0 + 2 ^ 64 * c) (omega arith)
    ∙ add-mul-mod_self_left 0 (2 ^ 64) c

module _ (w : ℕ) (narrow : w ≤ 64) where
  -- a number, so many times less and as many times more
  pub vanishes : (c x : ℕ) → SameWord w (less c * x + c * x) 0
  vanishes c x =
      same_number w (less c * x + c * x) ((less c + c) * x) (omega arith)
      ∙ same_times w (less c + c) 0 x x (same_narrow 64 w (less c + c) 0 narrow (less_turns c)) refl
      ∙ same_number w (0 * x) 0 (omega arith)

  -- what a multiple of a difference is, the other number makes up
  pub made_up : (c x y d : ℕ) → SameWord w (c * x + less c * y) d → SameWord w (c * x) (d + c * y)
  made_up c x y d h =
      same_number w (c * x) (c * x + 0) (omega arith)
      ∙ same_add w (c * x) (c * x) 0 (less c * y + c * y) refl (sym (vanishes c y))
      ∙ same_number w (c * x + (less c * y + c * y)) (c * x + less c * y + c * y) (omega arith)
      ∙ same_add w (c * x + less c * y) d (c * y) (c * y) h refl

  -- a multiple of a difference that is taken away
  pub taken_away : (c x y : ℕ) → SameWord w (less c * x + c * y) 0 → SameWord w (c * x) (c * y)
  taken_away c x y h =
      same_number w (c * x) (c * x + 0) (omega arith)
      ∙ same_add w (c * x) (c * x) 0 (less c * x + c * y) refl (sym h)
      ∙ same_number w (c * x + (less c * x + c * y)) (less c * x + c * x + c * y) (omega arith)
      ∙ same_add w (less c * x + c * x) 0 (c * y) (c * y) (vanishes c x) refl
      ∙ same_number w (0 + c * y) (c * y) (omega arith)

  -- a difference of equal numbers is nothing, in either way of writing it
  pub nothing : (c x y : ℕ) → x ≡ y → SameWord w (c * x + (less c * y + 0)) 0
  nothing c x y h = same_number w (c * x + (less c * y + 0)) (less c * x + c * x) (gather c (less c) x y h) ∙ vanishes c x
    where
      gather : (c d x y : ℕ) → x ≡ y → c * x + (d * y + 0) ≡ d * x + c * x
      gather c d x y h = ap (λ (z : ℕ). c * x + (d * z + 0)) (sym h) ∙ omega arith

  pub nothing_less : (c x y : ℕ) → x ≡ y → SameWord w (less c * x + (c * y + 0)) 0
  nothing_less c x y h = same_number w (less c * x + (c * y + 0)) (less c * x + c * x) (gather c (less c) x y h) ∙ vanishes c x
    where
      gather : (c d x y : ℕ) → x ≡ y → d * x + (c * y + 0) ≡ d * x + c * x
      gather c d x y h = ap (λ (z : ℕ). d * x + (c * z + 0)) (sym h) ∙ omega arith

  -- of two numbers that are nothing together each is where the other is
  pub rest_is_nothing : (a b : ℕ) → SameWord w (a + b) 0 → SameWord w a 0 → SameWord w b 0
  rest_is_nothing a b h k = same_number w b (0 + b) (omega arith) ∙ same_add w 0 a b b (sym k) refl ∙ h

  pub first_is_nothing : (a b : ℕ) → SameWord w (a + b) 0 → SameWord w b 0 → SameWord w a 0
  first_is_nothing a b h k = same_number w a (a + 0) (omega arith) ∙ same_add w a a 0 b refl (sym k) ∙ h

-- an odd number has an inverse
inverse_of : (u : ℕ) → u % 2 ≡ 1 → (k : ℕ) → (v : ℕ) × SameWord (suc k) (v * u) 1
inverse_of u odd zero = (1, same_number 1 (1 * u) u (omega arith) ∙ odd)
inverse_of u odd (suc k) =
    let h = inverse_of u odd k in
    (h.0 * u * h.0, same_number (suc (suc k)) (h.0 * u * h.0 * u) ((h.0 * u) * (h.0 * u)) (omega arith) ∙ square_one k (h.0 * u) h.1)

-- odd multiples of numbers are the same only where the numbers are
pub odd_cancel : (w u x y : ℕ) → 0 < w → u % 2 ≡ 1 → SameWord w (u * x) (u * y) → SameWord w x y
odd_cancel zero u x y positive odd h = absurd (omega arith)
odd_cancel (suc k) u x y positive odd h =
    let v = inverse_of u odd k in
    sym (back v.0 v.1 x) ∙ same_times (suc k) v.0 v.0 (u * x) (u * y) refl h ∙ back v.0 v.1 y
  where
    back : (v : ℕ) → SameWord (suc k) (v * u) 1 → (z : ℕ) → SameWord (suc k) (v * (u * z)) z
    back v one z =
        same_number (suc k) (v * (u * z)) (v * u * z) (omega arith)
        ∙ same_times (suc k) (v * u) 1 z z one refl
        ∙ same_number (suc k) (1 * z) z (omega arith)

-- weighted sums one behind the other
pub sum_append : (f : ℕ → ℕ) (ts us : List (ℕ × NodeId)) → sum_of f (ts ++ us) ≡ sum_of f ts + sum_of f us
sum_append f [] us = omega arith
sum_append f (t ∷ ts) us = more (t.0 * f t.1.0) (sum_of f (ts ++ us)) (sum_of f ts) (sum_of f us) (sum_append f ts us)
  where
    more : (x a b c : ℕ) → a ≡ b + c → x + a ≡ x + b + c
    more x a b c h = omega arith

pub wide_append : (ns : List Node) (w : ℕ) (ts us : List (ℕ × NodeId)) → AreWide ns w ts → AreWide ns w us → AreWide ns w (ts ++ us)
wide_append ns w [] us h k = k
wide_append ns w (t ∷ ts) us h k = (h.0, wide_append ns w ts us h.1 k)
