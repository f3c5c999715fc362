use Rattle.std.proofs.Common.{◌≡◌, ℕ, zero, suc, ◌*◌, ◌+◌, ◌%◌, ◌^◌, ◌<◌, refl, sym, ◌∙◌, subst, arith}
use Rattle.node_forms.specs.Sums.{SameWord}
use Rattle.node_forms.proofs.Residues.{same_low, same_number, same_times}
use Rattle.linear_forms.proofs.Powers.{same_narrow, square_one}
use Rattle.linear_forms.proofs.inverse.inverse.Goals as goal

-- one step: the product and the power are multiplied by the power
product_step : (p q odd : ℕ) → SameWord 64 (p * odd) q → SameWord 64 (p * q % 2 ^ 64 * odd) (q * q % 2 ^ 64)
product_step p q odd h =
    same_times 64 (p * q % 2 ^ 64) (p * q) odd odd (same_low 64 (p * q)) refl
    ∙ same_number 64 (p * q * odd) (p * odd * q) (omega arith)
    ∙ same_times 64 (p * odd) q q q h refl
    ∙ sym (same_low 64 (q * q))

one_step : (k q : ℕ) → 0 < k → k < 64 → SameWord k q 1 → SameWord (k + 1) (q * q % 2 ^ 64) 1
one_step zero q some h e = absurd (omega arith)
one_step (suc k) q some h e =
    let next : suc k + 1 ≡ suc (suc k) = omega arith in
    subst (λ n. SameWord n (q * q % 2 ^ 64) 1) (sym next)
    (same_narrow 64 (suc (suc k)) (q * q % 2 ^ 64) (q * q) (omega arith) (same_low 64 (q * q)) ∙ square_one k q e)

pub loop-bits-preserved : goal.loop-bits-preserved
loop-bits-preserved c = record {
  product = product_step c.loop-bits.product c.loop-bits.power c.args.odd c.loop-bits.invariant.product;
  one = one_step c.loop-bits._bits c.loop-bits.power (omega arith) (omega arith) c.loop-bits.invariant.one;
}

pub returns : goal.returns
returns c =
    let end : c.loop-bits._bits ≡ 64 = omega arith in
    c.loop-bits.invariant.product ∙ subst (λ n. SameWord n c.loop-bits.power 1) end c.loop-bits.invariant.one
