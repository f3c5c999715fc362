-- Laws of sheets: a node has its operator's width and value, from 1 to 64 bits and below 2^w, and keeps them when
-- more nodes come behind.
use Rattle.std.proofs.Common.{◌≡◌, ℕ, zero, suc, ◌+◌, ◌^◌, ◌<◌, ◌≤◌, List, [], ◌∷◌, ◌++◌, length, get_or, refl, sym, ◌∙◌, ap, subst, arith, inl, inr, length-append}
use Rattle.std.proofs.lemmas.Bool.{cases_lt}
use Rattle.std.proofs.Math.ListN.{get_or-append}
use Rattle.std.proofs.Math.Seq.{get_or-append_seam}
use Rattle.node_values.specs.declared.node.Node.{Node}
use Rattle.node_values.specs.declared.node.Node.TheVariants.{Const, Reg, Entry, VecByte, Start, Probe, Add, Sub, Mul, And, Or, Xor, Not, Shl, Shr, Sar, Cat, Cut, Sx, Eq, Ult, Slt, If}
use Rattle.node_values.specs.Nodes.{IsNode, node_width}
use Rattle.node_values.specs.Values.{Environment, node_value}
use Rattle.node_values.specs.Sheets.{IsSheet, from_lower, node_at, value_at, width_at}
use Rattle.node_values.proofs.Lower.{IsLocal, from_lower-is, from_lower_same}
use Rattle.node_values.proofs.NodeLaws.{AllArguments, IsWordWidth, SameAt, arguments_lower, node_value_below, node_value_same, node_width_ranged, node_width_same}

module _ (ns : List Node) (sheet : IsSheet ns) where
  -- a fact of all lower numbers holds of the arguments of node i
  pub at_arguments : (P : ℕ → Type 0) (i : ℕ) → i < length ns → ((j : ℕ) → j < i → P j) → AllArguments P (node_at ns i)
  at_arguments P i b lower = arguments_lower P (width_at ns) i (node_at ns i) (sheet i b) lower

  abbrev width_made : (ℕ → ℕ) → ℕ → ℕ
  width_made widths j = node_width widths (node_at ns j)

  width_local : IsLocal width_made (length ns)
  width_local f g i b same = node_width_same f g (node_at ns i) (at_arguments (λ j. f j ≡ g j) i b same)

  pub width_at-is : (i : ℕ) → i < length ns → width_at ns i ≡ node_width (width_at ns) (node_at ns i)
  unfolding width_at
  width_at-is i b = from_lower-is 0 width_made (length ns) width_local i b

  ranged_below : (m i : ℕ) → i < m → i < length ns → IsWordWidth (width_at ns i)
  ranged_below zero i a b = absurd (omega arith)
  ranged_below (suc m) i a b =
      subst IsWordWidth (sym (width_at-is i b))
      (node_width_ranged (width_at ns) i (node_at ns i) (sheet i b)
      (at_arguments (λ j. IsWordWidth (width_at ns j)) i b (λ j h. ranged_below m j (omega arith) (omega arith))))

  pub width_ranged : (i : ℕ) → i < length ns → IsWordWidth (width_at ns i)
  width_ranged i b = ranged_below (suc i) i (omega arith) b

  module _ (e : Environment) where
    abbrev value_made : (ℕ → ℕ) → ℕ → ℕ
    value_made values j = node_value e (width_at ns) values (node_at ns j)

    value_local : IsLocal value_made (length ns)
    value_local f g i b same =
        node_value_same e (width_at ns) (width_at ns) f g (node_at ns i)
        (at_arguments (SameAt e (width_at ns) (width_at ns) f g) i b (λ j h. (refl, same j h)))

    pub value_at-is : (i : ℕ) → i < length ns → value_at e ns i ≡ node_value e (width_at ns) (value_at e ns) (node_at ns i)
    unfolding value_at
    value_at-is i b = from_lower-is 0 value_made (length ns) value_local i b

    abbrev IsWord : ℕ → Type 0
    IsWord j = value_at e ns j < 2 ^ width_at ns j

    value_below : (m i : ℕ) → i < m → i < length ns → IsWord i
    value_below zero i a b = absurd (omega arith)
    value_below (suc m) i a b =
        let below : node_value e (width_at ns) (value_at e ns) (node_at ns i) < 2 ^ node_width (width_at ns) (node_at ns i) =
        node_value_below e (width_at ns) (value_at e ns) i (node_at ns i) (sheet i b)
        (at_arguments IsWord i b (λ j h. value_below m j (omega arith) (omega arith))) in
        rw (value_at-is i b, width_at-is i b) below

    pub value_at-below : (i : ℕ) → i < length ns → value_at e ns i < 2 ^ width_at ns i
    value_at-below i b = value_below (suc i) i (omega arith) b

  -- more nodes behind
  module _ (more : List Node) where
    pub node_at-append : (i : ℕ) → i < length ns → node_at ns i ≡ node_at (ns ++ more) i
    node_at-append i b = sym (get_or-append ns more (Const 0 0) i b)

    pub width_at-append : (i : ℕ) → i < length ns → width_at ns i ≡ width_at (ns ++ more) i
    unfolding width_at
    width_at-append i b =
        from_lower_same 0 width_made (λ widths j. node_width widths (node_at (ns ++ more) j)) (length ns) width_local
        (λ f j h. ap (node_width f) (node_at-append j h)) i b

    pub value_at-append : (e : Environment) (i : ℕ) → i < length ns → value_at e ns i ≡ value_at e (ns ++ more) i
    unfolding value_at
    value_at-append e i b =
        from_lower_same 0 (value_made e) (λ values j. node_value e (width_at (ns ++ more)) values (node_at (ns ++ more) j)) (length ns) (value_local e)
        (λ f j h. node_value_same e (width_at ns) (width_at (ns ++ more)) f f (node_at ns j)
        (at_arguments (SameAt e (width_at ns) (width_at (ns ++ more)) f f) j h (λ k l. (width_at-append k (omega arith), refl)))
        ∙ ap (node_value e (width_at (ns ++ more)) f) (node_at-append j h)) i b

-- whether a node may stand there depends on the widths of its arguments alone
pub IsNode_same : (f g : ℕ → ℕ) (n : ℕ) (node : Node) → AllArguments (λ j. f j ≡ g j) node → IsNode f n node → IsNode g n node
IsNode_same f g n (Const w v) p h = h
IsNode_same f g n (Reg side r) p h = h
IsNode_same f g n (Entry r) p h = h
IsNode_same f g n (VecByte side r i) p h = h
IsNode_same f g n (Start side at) p h = (h.0, sym p.0 ∙ h.1)
IsNode_same f g n Probe p h = h
IsNode_same f g n (Add a b) p h = (h.0, h.1, sym p.0 ∙ h.2 ∙ p.1.0)
IsNode_same f g n (Sub a b) p h = (h.0, h.1, sym p.0 ∙ h.2 ∙ p.1.0)
IsNode_same f g n (Mul a b) p h = (h.0, h.1, sym p.0 ∙ h.2 ∙ p.1.0)
IsNode_same f g n (And a b) p h = (h.0, h.1, sym p.0 ∙ h.2 ∙ p.1.0)
IsNode_same f g n (Or a b) p h = (h.0, h.1, sym p.0 ∙ h.2 ∙ p.1.0)
IsNode_same f g n (Xor a b) p h = (h.0, h.1, sym p.0 ∙ h.2 ∙ p.1.0)
IsNode_same f g n (Not a) p h = h
IsNode_same f g n (Shl a k) p h = (h.0, h.1, omega (arith, p.0, h.2))
IsNode_same f g n (Shr a k) p h = (h.0, h.1, omega (arith, p.0, h.2))
IsNode_same f g n (Sar a k) p h = (h.0, h.1, omega (arith, p.0, h.2))
IsNode_same f g n (Cat a b) p h = (h.0, h.1, omega (arith, p.0, p.1.0, h.2))
IsNode_same f g n (Cut a k m) p h = (h.0, h.1, omega (arith, p.0, h.2))
IsNode_same f g n (Sx m a) p h = (h.0, omega (arith, p.0, h.1), h.2)
IsNode_same f g n (Eq a b) p h = (h.0, h.1, sym p.0 ∙ h.2 ∙ p.1.0)
IsNode_same f g n (Ult a b) p h = (h.0, h.1, sym p.0 ∙ h.2 ∙ p.1.0)
IsNode_same f g n (Slt a b) p h = (h.0, h.1, sym p.0 ∙ h.2 ∙ p.1.0)
IsNode_same f g n (If c a b) p h = (h.0, sym p.0 ∙ h.1, (h.2.0, h.2.1, sym p.1.0 ∙ h.2.2 ∙ p.1.1.0))

-- one more node
module _ (ns : List Node) (sheet : IsSheet ns) (n : Node) (node : IsNode (width_at ns) (length ns) n) where
  node_at-last : (i : ℕ) → i ≡ length ns → node_at (ns ++ n ∷ []) i ≡ n
  node_at-last i e = ap (node_at (ns ++ n ∷ [])) e ∙ get_or-append_seam ns n [] (Const 0 0)

  pub IsSheet-push : IsSheet (ns ++ n ∷ [])
  IsSheet-push i b = elim (cases_lt i (length ns)) [
    | inl lower ↦
        subst (IsNode (width_at (ns ++ n ∷ [])) i) (node_at-append ns sheet (n ∷ []) i lower)
        (IsNode_same (width_at ns) (width_at (ns ++ n ∷ [])) i (node_at ns i)
        (at_arguments ns sheet (λ j. width_at ns j ≡ width_at (ns ++ n ∷ []) j) i lower
        (λ j h. width_at-append ns sheet (n ∷ []) j (omega arith)))
        (sheet i lower))
    | inr upper ↦
        let last : i ≡ length ns = omega (arith, length-append ns (n ∷ [])) in
        let there : IsNode (width_at (ns ++ n ∷ [])) (length ns) n =
        IsNode_same (width_at ns) (width_at (ns ++ n ∷ [])) (length ns) n
        (arguments_lower (λ j. width_at ns j ≡ width_at (ns ++ n ∷ []) j) (width_at ns) (length ns) n node
        (λ j h. width_at-append ns sheet (n ∷ []) j h))
        node in
        rw (node_at-last i last, last) there
  ]

  pub width_at-push : width_at (ns ++ n ∷ []) (length ns) ≡ node_width (width_at ns) n
  width_at-push =
      width_at-is (ns ++ n ∷ []) IsSheet-push (length ns) (omega (arith, length-append ns (n ∷ [])))
      ∙ ap (node_width (width_at (ns ++ n ∷ []))) (node_at-last (length ns) refl)
      ∙ sym (node_width_same (width_at ns) (width_at (ns ++ n ∷ [])) n
      (arguments_lower (λ j. width_at ns j ≡ width_at (ns ++ n ∷ []) j) (width_at ns) (length ns) n node
      (λ j h. width_at-append ns sheet (n ∷ []) j h)))

  pub value_at-push : (e : Environment) → value_at e (ns ++ n ∷ []) (length ns) ≡ node_value e (width_at ns) (value_at e ns) n
  value_at-push e =
      value_at-is (ns ++ n ∷ []) IsSheet-push e (length ns) (omega (arith, length-append ns (n ∷ [])))
      ∙ ap (node_value e (width_at (ns ++ n ∷ [])) (value_at e (ns ++ n ∷ []))) (node_at-last (length ns) refl)
      ∙ sym (node_value_same e (width_at ns) (width_at (ns ++ n ∷ [])) (value_at e ns) (value_at e (ns ++ n ∷ [])) n
      (arguments_lower (SameAt e (width_at ns) (width_at (ns ++ n ∷ [])) (value_at e ns) (value_at e (ns ++ n ∷ []))) (width_at ns) (length ns) n node
      (λ j h. (width_at-append ns sheet (n ∷ []) j h, value_at-append ns sheet (n ∷ []) e j h))))
