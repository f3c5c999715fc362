-- The difference of two addresses, and that they are equal, built from the linear forms of both.
use Rattle.std.specs.Prelude.{ℕ, zero, suc, ◌^◌, ◌==◌, Bool, false, List, [], ◌∷◌, Option, Some, None, length, if◌then◌else◌, nat_lt}
use Rattle.insn_semantics.specs.Words.{bit, minus}
use Rattle.node_values.specs.declared.node.Node.{Node}
use Rattle.node_values.specs.declared.node.Node.TheVariants.{Const, Add, Eq}
use Rattle.node_values.specs.declared.node.NodeId.{NodeId}
use Rattle.node_forms.specs.Forms.{LinearForm, form_at}
use Rattle.terms.specs.Made.{Made, made}
use Rattle.address_nodes.specs.Multiples.{Term, sum_of}

-- the form of the difference of two addresses: the difference of their forms
abbrev pub difference_form : List Node → NodeId → NodeId → LinearForm
difference_form ns a b = record {
  coefficient = λ atom. minus 64 ((form_at ns 64 a.0).coefficient atom) ((form_at ns 64 b.0).coefficient atom);
  constant = minus 64 (form_at ns 64 a.0).constant (form_at ns 64 b.0).constant;
}

-- the terms of a form: its atoms below n by falling numbers, each with its coefficient, which is not 0
unfoldable pub terms_below : (ℕ → ℕ) → ℕ → List Term
terms_below coefficient zero = []
terms_below coefficient (suc n) =
    if coefficient n == 0 then terms_below coefficient n
    else (record { 0 = n }, coefficient n) ∷ terms_below coefficient n

-- the terms of the difference of two addresses
abbrev pub difference_terms : List Node → NodeId → NodeId → List Term
difference_terms ns a b = terms_below (difference_form ns a b).coefficient (length ns)

-- a sum and a constant, which is left out where it is 0 and there is a term
abbrev pub with_constant : List Node → ℕ → Option NodeId → Made
with_constant ns c None = made ns (Const 64 c)
with_constant ns c (Some sum) =
    if c == 0 then record { nodes = ns; id = sum }
    else (let number = made ns (Const 64 c) in made number.nodes (Add sum number.id))

-- the sum and the constant of the difference of two addresses
abbrev pub summed_difference : List Node → NodeId → NodeId → Made
summed_difference ns a b =
    let sum = sum_of ns (difference_terms ns a b) in with_constant sum.nodes (difference_form ns a b).constant sum.node

-- the difference of two addresses
unfoldable pub difference : List Node → NodeId → NodeId → Made
difference ns a b = summed_difference ns a b

-- a sum equals what it is to be together with a constant: where there is no term, whether the constant is 0
abbrev pub equation : List Node → ℕ → Option NodeId → Made
equation ns c None = made ns (Const 1 (bit (c == 0)))
equation ns c (Some sum) = let number = made ns (Const 64 (minus 64 0 c)) in made number.nodes (Eq sum number.id)

-- of terms by falling numbers the one with the least number is subtracted
abbrev pub is_least_subtracted : List Term → Bool
is_least_subtracted [] = false
is_least_subtracted (p ∷ []) = nat_lt (2 ^ 63) p.1
is_least_subtracted (p ∷ q ∷ ps) = is_least_subtracted (q ∷ ps)

-- that the difference of two addresses is 0
abbrev pub no_difference : List Node → NodeId → NodeId → Made
no_difference ns a b =
    let sum = sum_of ns (difference_terms ns a b) in equation sum.nodes (difference_form ns a b).constant sum.node

-- that two addresses are equal: of both differences the one that adds the atom of the least number is 0
unfoldable pub equality : List Node → NodeId → NodeId → Made
equality ns a b = if is_least_subtracted (difference_terms ns a b) then no_difference ns b a else no_difference ns a b
