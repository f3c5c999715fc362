use Rattle.std.proofs.Common.{◌≡◌, ℕ, zero, suc, ◌%◌, ◌^◌, ◌<◌, ◌≤◌, List, [], ◌∷◌, refl, sym, ◌∙◌, ap, subst, arith, inl}
use Rattle.std.proofs.lemmas.Bool.{eq-eqb}
use Rattle.insn_semantics.specs.Words as words
use Rattle.insn_ops.specs.declared.side.Side.{Side}
use Rattle.insn_ops.specs.declared.side.Side.TheVariants.{Left, Right}
use Rattle.node_values.specs.Sheets.{through, value_at, width_at}
use Rattle.node_values.specs.Values.{Environment}
use Rattle.duty_claims.specs.Truth.{Breaks, HasOneByteAt, IsOne, IsOutsideLines, IsTrueDuty, IsZero}
use Rattle.duty_claims.specs.Examples.{IsBytesDuty, bytes_sheet, id}
use Rattle.duty_claims.specs.declared.duty.Duty.{Duty}
use Rattle.node_values.specs.declared.node.Node.{Node}
use Rattle.node_values.specs.declared.node.NodeId.{NodeId}
use Rattle.std.specs.List.{AllByRecursion}
use Rattle.duty_claims.proofs.laws.bytes_at_one_address.Goals as goal

-- the value of the goal
goal_value : (e : Environment) → value_at e bytes_sheet 4
    ≡ words.equal (e.memory Left (e.probe % 2 ^ 64) % 2 ^ 8) (e.memory Right (e.probe % 2 ^ 64) % 2 ^ 8)
unfolding value_at width_at through
goal_value e = refl

-- where no scratch line is, the bytes are equal
equal_outside : (d : Duty) → IsBytesDuty d [] → IsTrueDuty d
equal_outside d h e m =
    let address : ℕ = e.probe % 2 ^ 64 in
    let same : HasOneByteAt e address =
    m.memories address (mod_lt e.probe) (subst (λ (ls : List (NodeId × NodeId)). IsOutsideLines e d.sheet.now ls address) (sym h.scratch) tt) in
    let value : value_at e bytes_sheet 4 ≡ 1 = goal_value e ∙ ap words.bit (eq-eqb (e.memory Left address % 2 ^ 8) (e.memory Right address % 2 ^ 8) same) in
    inl (subst (λ (n : NodeId). value_at e d.sheet.now n.0 ≡ 1) (sym h.goal) (subst (λ (ns : List Node). value_at e ns 4 ≡ 1) (sym h.sheet) value))
  where
    mod_lt : (n : ℕ) → n % 2 ^ 64 < 2 ^ 64
    mod_lt n = omega arith

-- a left memory with one byte that is 1
one_byte : Side → ℕ → ℕ
one_byte Left zero = 1
one_byte Left (suc n) = 0
one_byte Right n = 0

left_byte : Environment
left_byte = record { regs = λ side n. 0; entry = λ n. 0; vecs = λ side n i. 0; memory = one_byte; probe = 0 }

memories_agree : (address : ℕ) → 1 ≤ words.minus 64 address 0 → HasOneByteAt left_byte address
unfolding left_byte one_byte
memories_agree zero h = absurd (omega arith)
memories_agree (suc n) h = refl

broken_inside : (d : Duty) → IsBytesDuty d ((id 1, id 0) ∷ []) → Breaks left_byte d
unfolding left_byte one_byte value_at width_at through
broken_inside d h = record {
  meets = record {
    hypotheses = subst (λ (xs : List NodeId). AllByRecursion (IsOne left_byte d.sheet.now) xs) (sym h.hyps) tt;
    memories = λ address below outside.
        let all : IsOutsideLines left_byte bytes_sheet ((id 1, id 0) ∷ []) address =
        subst (λ (ns : List Node). IsOutsideLines left_byte ns ((id 1, id 0) ∷ []) address) h.sheet
        (subst (λ (ls : List (NodeId × NodeId)). IsOutsideLines left_byte d.sheet.now ls address) h.scratch outside) in
        memories_agree address all.0;
  };
  goal = subst (λ (n : NodeId). value_at left_byte d.sheet.now n.0 ≡ 0) (sym h.goal) (subst (λ (ns : List Node). value_at left_byte ns 4 ≡ 0) (sym h.sheet) refl);
  more = subst (λ (xs : List NodeId). AllByRecursion (IsZero left_byte d.sheet.now) xs) (sym h.more) tt;
}

pub returns : goal.returns
returns c = record { outside = equal_outside; scratch = λ d h. (left_byte, broken_inside d h) }
