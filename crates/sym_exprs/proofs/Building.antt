-- The parts of an expression that is built: what is built for them stays, and is worth what they are.
use Rattle.std.proofs.Common.{◌≡◌, ℕ, ◌<◌, List, length, refl, sym, ◌∙◌, ap, subst, arith, inl, inr, Result, Ok, Err, IfOk}
use Rattle.std.specs.Prelude.{slice_set}
use Rattle.std.proofs.lemmas.Bool.{cases_eq, eq-eqb, ne_eqb}
use Rattle.std.proofs.lemmas.List.{get_or-set_other, get_or-set_same}
use Rattle.insn_semantics.specs.Exprs as exprs
use Rattle.insn_semantics.specs.Formed.{IsFormed, expr_width}
use Rattle.node_values.specs.declared.node.Node.{Node}
use Rattle.node_values.specs.declared.node.Node.TheVariants as nodes
use Rattle.node_values.specs.declared.node.NodeId.{NodeId}
use Rattle.node_values.specs.Sheets.{Extends, IsSheet, width_at}
use Rattle.terms.specs.declared.sheet.SheetFull.{SheetFull}
use Rattle.terms.specs.Building.{HasValue, built, operator_node, shift_node, with_node_leaf}
use Rattle.terms.specs.Made.{Made, made}
use Rattle.terms.proofs.Built.{has_value}
use Rattle.address_nodes.proofs.Growing.{extends_length, extends_trans, later_width, made_extends, same_extends, stays, still_longer}
use Rattle.address_nodes.specs.Multiples.{IsOfWidth}
use Rattle.node_values.specs.Nodes.{AreAlike, IsNode}
use Rattle.sym_exprs.specs.Trees.{leaf_node}

-- building adds nodes only
pub built_extends : (ns : List Node) (leaves : ℕ → NodeId) (x : exprs.Expr) → Extends ns (built ns leaves x).nodes
unfolding built
built_extends ns leaves (exprs.Leaf i) = same_extends ns
built_extends ns leaves (exprs.Number w v) = made_extends ns (nodes.Const w v)
built_extends ns leaves (exprs.Two operator w x y) =
    let a : Made = built ns leaves x in
    let b : Made = built a.nodes leaves y in
    let n : Node = operator_node operator a.id b.id in
    extends_trans ns b.nodes (made b.nodes n).nodes
    (extends_trans ns a.nodes b.nodes (built_extends ns leaves x) (built_extends a.nodes leaves y)) (made_extends b.nodes n)
built_extends ns leaves (exprs.Not w x) =
    let a : Made = built ns leaves x in
    extends_trans ns a.nodes (made a.nodes (nodes.Not a.id)).nodes (built_extends ns leaves x) (made_extends a.nodes (nodes.Not a.id))
built_extends ns leaves (exprs.Shifted shift w x k) =
    let a : Made = built ns leaves x in
    extends_trans ns a.nodes (made a.nodes (shift_node shift a.id k)).nodes (built_extends ns leaves x) (made_extends a.nodes (shift_node shift a.id k))
built_extends ns leaves (exprs.Joined n x y) =
    let a : Made = built ns leaves x in
    let b : Made = built a.nodes leaves y in
    extends_trans ns b.nodes (made b.nodes (nodes.Cat a.id b.id)).nodes
    (extends_trans ns a.nodes b.nodes (built_extends ns leaves x) (built_extends a.nodes leaves y)) (made_extends b.nodes (nodes.Cat a.id b.id))
built_extends ns leaves (exprs.Cut x k n) =
    let a : Made = built ns leaves x in
    extends_trans ns a.nodes (made a.nodes (nodes.Cut a.id k n)).nodes (built_extends ns leaves x) (made_extends a.nodes (nodes.Cut a.id k n))
built_extends ns leaves (exprs.Extended m n x) =
    let a : Made = built ns leaves x in
    extends_trans ns a.nodes (made a.nodes (nodes.Sx n a.id)).nodes (built_extends ns leaves x) (made_extends a.nodes (nodes.Sx n a.id))
built_extends ns leaves (exprs.Choice c x y) =
    let t : Made = built ns leaves c in
    let a : Made = built t.nodes leaves x in
    let b : Made = built a.nodes leaves y in
    let n : Node = nodes.If t.id a.id b.id in
    extends_trans ns b.nodes (made b.nodes n).nodes
    (extends_trans ns a.nodes b.nodes (extends_trans ns t.nodes a.nodes (built_extends ns leaves c) (built_extends t.nodes leaves x)) (built_extends a.nodes leaves y))
    (made_extends b.nodes n)
built_extends ns leaves (exprs.Let i x y) =
    let a : Made = built ns leaves x in
    let b : Made = built a.nodes (with_node_leaf leaves i a.id) y in
    extends_trans ns a.nodes b.nodes (built_extends ns leaves x) (built_extends a.nodes (with_node_leaf leaves i a.id) y)

-- what was too long still is
pub built_still : (ns : List Node) (leaves : ℕ → NodeId) (x : exprs.Expr) → 65536 < length ns → 65536 < length (built ns leaves x).nodes
built_still ns leaves x h = still_longer ns (built ns leaves x).nodes (built_extends ns leaves x) h

pub made_still : (ns : List Node) (n : Node) → 65536 < length ns → 65536 < length (made ns n).nodes
made_still ns n h = still_longer ns (made ns n).nodes (made_extends ns n) h

-- leaves in a later sheet
module _ (ns mid : List Node) (leaves : ℕ → NodeId) (sheet : IsSheet ns) (inside : (i : ℕ) → (leaves i).0 < length ns) (ext : Extends ns mid) where
  pub inside_later : (i : ℕ) → (leaves i).0 < length mid
  inside_later i = omega (arith, inside i, extends_length ns mid ext)

  pub widths_later : ◌≡◌ {A = ℕ → ℕ} (λ i. width_at ns (leaves i).0) (λ i. width_at mid (leaves i).0)
  widths_later = λ t. λ i. sym (later_width ns sheet mid ext (leaves i).0 (inside i)) t

  pub formed_later : (y : exprs.Expr) → IsFormed (λ i. width_at ns (leaves i).0) y → IsFormed (λ i. width_at mid (leaves i).0) y
  formed_later y h = subst (λ l. IsFormed l y) widths_later h

-- what was built has its value
pub built_value : (ns later : List Node) (leaves : ℕ → NodeId) (x : exprs.Expr) (id : NodeId) → IsSheet ns → ((i : ℕ) → (leaves i).0 < length ns)
    → IsFormed (λ i. width_at ns (leaves i).0) x → built ns leaves x ≡ record { nodes = later; id = id }
    → HasValue ns leaves x (record { nodes = later; id = id })
built_value ns later leaves x id sheet inside formed e = subst (HasValue ns leaves x) e (has_value ns leaves x sheet inside formed)

pub ok_value : (ns later : List Node) (leaves : ℕ → NodeId) (x : exprs.Expr) (r : Result NodeId SheetFull) → IsSheet ns
    → ((i : ℕ) → (leaves i).0 < length ns) → IsFormed (λ i. width_at ns (leaves i).0) x
    → IfOk r (λ id. built ns leaves x ≡ record { nodes = later; id = id }) → IfOk r (λ id. HasValue ns leaves x (record { nodes = later; id = id }))
ok_value ns later leaves x (Ok id) sheet inside formed e = built_value ns later leaves x id sheet inside formed e
ok_value ns later leaves x (Err why) sheet inside formed e = tt

-- a part that was built, and one built behind it
module _ (ns ma : List Node) (f : ℕ → NodeId) (sheet : IsSheet ns) (inside : (i : ℕ) → (f i).0 < length ns) (x : exprs.Expr) (a : NodeId)
    (fx : IsFormed (λ i. width_at ns (f i).0) x) (X : built ns f x ≡ record { nodes = ma; id = a }) where
  pub part : HasValue ns f x (record { nodes = ma; id = a })
  part = built_value ns ma f x a sheet inside fx X

  pub part_wide : IsOfWidth ma (expr_width (λ i. width_at ns (f i).0) x) a
  part_wide = (part.inside, part.width)

  module _ (y : exprs.Expr) (fy : IsFormed (λ i. width_at ns (f i).0) y) where
    pub inside_behind : (i : ℕ) → (f i).0 < length ma
    inside_behind = inside_later ns ma f sheet inside part.extends

    pub formed_behind : IsFormed (λ i. width_at ma (f i).0) y
    formed_behind = formed_later ns ma f sheet inside part.extends y fy

    module _ (mb : List Node) (b : NodeId) (Y : built ma f y ≡ record { nodes = mb; id = b }) where
      pub behind : HasValue ma f y (record { nodes = mb; id = b })
      behind = built_value ma mb f y b part.sheet inside_behind formed_behind Y

      pub first_wide : IsOfWidth mb (expr_width (λ i. width_at ns (f i).0) x) a
      first_wide = stays ma part.sheet mb behind.extends (expr_width (λ i. width_at ns (f i).0) x) a part_wide

      pub second_wide : IsOfWidth mb (expr_width (λ i. width_at ns (f i).0) y) b
      second_wide = (behind.inside, behind.width ∙ ap (λ l. expr_width l y) (sym (widths_later ns ma f sheet inside part.extends)))

      pub far : Extends ns mb
      far = extends_trans ns ma mb part.extends behind.extends

      module _ (z : exprs.Expr) (fz : IsFormed (λ i. width_at ns (f i).0) z) where
        pub inside_far : (i : ℕ) → (f i).0 < length mb
        inside_far = inside_later ns mb f sheet inside far

        pub formed_far : IsFormed (λ i. width_at mb (f i).0) z
        formed_far = formed_later ns mb f sheet inside far z fz

        module _ (mc : List Node) (c : NodeId) (Z : built mb f z ≡ record { nodes = mc; id = c }) where
          third : HasValue mb f z (record { nodes = mc; id = c })
          third = built_value mb mc f z c behind.sheet inside_far formed_far Z

          pub first_far : IsOfWidth mc (expr_width (λ i. width_at ns (f i).0) x) a
          first_far = stays mb behind.sheet mc third.extends (expr_width (λ i. width_at ns (f i).0) x) a first_wide

          pub second_far : IsOfWidth mc (expr_width (λ i. width_at ns (f i).0) y) b
          second_far = stays mb behind.sheet mc third.extends (expr_width (λ i. width_at ns (f i).0) y) b second_wide

          pub third_wide : IsOfWidth mc (expr_width (λ i. width_at ns (f i).0) z) c
          third_wide = (third.inside, third.width ∙ ap (λ l. expr_width l z) (sym (widths_later ns mb f sheet inside far)))

-- the nodes of operators and shifts
pub operator_is : (W : ℕ → ℕ) (n : ℕ) (operator : exprs.Operator) (a b : NodeId) → AreAlike W n a.0 b.0 → IsNode W n (operator_node operator a b)
operator_is W n exprs.Plus a b h = h
operator_is W n _ a b h = h

pub shift_is : (W : ℕ → ℕ) (n : ℕ) (shift : exprs.Shift) (a : NodeId) (k : ℕ) → (a.0 < n) × (0 < k) × (k < W a.0) → IsNode W n (shift_node shift a k)
shift_is W n exprs.Left a k h = h
shift_is W n _ a k h = h

-- leaves with one more name
pub leaf_named : (ids : List NodeId) (i : ℕ) (a : NodeId) → i < length ids → leaf_node (slice_set ids i a) ≡ with_node_leaf (leaf_node ids) i a
leaf_named ids i a b = λ t. λ j. at j t
  where
    at : (j : ℕ) → leaf_node (slice_set ids i a) j ≡ with_node_leaf (leaf_node ids) i a j
    at j = elim (cases_eq j i) [
      | inl e ↦ ap (leaf_node (slice_set ids i a)) e ∙ get_or-set_same ids i a (record { 0 = 0 }) b ∙ rw (eq-eqb j i e) refl
      | inr ne ↦ get_or-set_other ids i j a (record { 0 = 0 }) ne ∙ rw (ne_eqb j i ne) refl
    ]

-- the leaves that a named part is built behind
module _ (ns : List Node) (ids : List NodeId) (i : ℕ) (a : NodeId) (b : i < length ids) where
  pub named_inside : ((j : ℕ) → (leaf_node ids j).0 < length ns) → a.0 < length ns → (j : ℕ) → (leaf_node (slice_set ids i a) j).0 < length ns
  named_inside inside here j = elim (cases_eq j i) [
    | inl e ↦ subst (λ (id : NodeId). id.0 < length ns) (sym (ap (leaf_node (slice_set ids i a)) e ∙ get_or-set_same ids i a (record { 0 = 0 }) b)) here
    | inr ne ↦ subst (λ (id : NodeId). id.0 < length ns) (sym (get_or-set_other ids i j a (record { 0 = 0 }) ne)) (inside j)
  ]

  named_width : (n : ℕ) → width_at ns a.0 ≡ n
      → ◌≡◌ {A = ℕ → ℕ} (exprs.with_leaf (λ j. width_at ns (leaf_node ids j).0) i n) (λ j. width_at ns (leaf_node (slice_set ids i a) j).0)
  named_width n wide = λ t. λ j. at j t
    where
      at : (j : ℕ) → exprs.with_leaf (λ j. width_at ns (leaf_node ids j).0) i n j ≡ width_at ns (leaf_node (slice_set ids i a) j).0
      at j = elim (cases_eq j i) [
        | inl e ↦
            rw (eq-eqb j i e) (sym wide ∙ ap (λ (id : NodeId). width_at ns id.0) (sym (ap (leaf_node (slice_set ids i a)) e ∙ get_or-set_same ids i a (record { 0 = 0 }) b)))
        | inr ne ↦ rw (ne_eqb j i ne) (ap (λ (id : NodeId). width_at ns id.0) (sym (get_or-set_other ids i j a (record { 0 = 0 }) ne)))
      ]

  pub named_formed : (n : ℕ) (y : exprs.Expr) → width_at ns a.0 ≡ n → IsFormed (exprs.with_leaf (λ j. width_at ns (leaf_node ids j).0) i n) y
      → IsFormed (λ j. width_at ns (leaf_node (slice_set ids i a) j).0) y
  named_formed n y wide h = subst (λ l. IsFormed l y) (named_width n wide) h

pub let_built : (ns : List Node) (f : ℕ → NodeId) (i : ℕ) (x y : exprs.Expr) (ma : List Node) (a : NodeId) → built ns f x ≡ record { nodes = ma; id = a }
    → built ns f (exprs.Let i x y) ≡ built ma (with_node_leaf f i a) y
unfolding built
let_built ns f i x y ma a X = ap (λ (m : Made). built m.nodes (with_node_leaf f i m.id) y) X
