-- What is built over a sheet keeps the older nodes.
use Rattle.std.proofs.Common.{◌≡◌, ℕ, ◌-◌, ◌^◌, ◌<◌, ◌≤◌, ◌==◌, List, [], ◌∷◌, ◌++◌, Option, Some, None, length, refl, sym, ◌∙◌, ap, subst, arith, inl, inr, append_assoc, length-append}
use Rattle.std.specs.List.{list_any}
use Rattle.std.proofs.lemmas.Bool.{cases_Bool}
use Rattle.std.proofs.lemmas.List.{append-nil}
use Rattle.insn_semantics.specs.Words.{bit, minus}
use Rattle.node_values.specs.declared.node.Node.{Node}
use Rattle.node_values.specs.declared.node.Node.TheVariants.{Const, Add, Sub, Mul, Shl, Eq}
use Rattle.node_values.specs.declared.node.NodeId.{NodeId}
use Rattle.node_values.specs.Sheets.{Extends, IsSheet, value_at, width_at}
use Rattle.node_values.specs.Values.{Environment}
use Rattle.node_values.proofs.SheetLaws.{value_at-append, width_at-append}
use Rattle.terms.specs.declared.rules.Reduced.{Reduced}
use Rattle.terms.specs.declared.rules.Reduced.TheVariants.{Old, New}
use Rattle.terms.specs.Rules.{reduced}
use Rattle.terms.specs.Made.{Made, is_same_node, made, placed}
use Rattle.address_nodes.specs.Multiples.{AreTerms, IsOfWidth, IsSumSoFar, Sum, Term, added, begun, exponent, is_added, minus_term, multiple, multiple_by, plus_term, subtracted, sum_of}
use Rattle.address_nodes.specs.Differences.{difference_form, difference_terms, equality, is_least_subtracted, no_difference, equation, with_constant}

pub same_extends : (ns : List Node) → Extends ns ns
same_extends ns = ([], sym (append-nil ns))

pub extends_trans : (ns ms ls : List Node) → Extends ns ms → Extends ms ls → Extends ns ls
extends_trans ns ms ls h k = (h.0 ++ k.0, k.1 ∙ ap (λ l. l ++ k.0) h.1 ∙ append_assoc ns h.0 k.0)

pub extends_length : (ns later : List Node) → Extends ns later → length ns ≤ length later
extends_length ns later ext = omega (arith, ap length ext.1, length-append ns ext.0)

-- what was too long still is
pub still_longer : (ns later : List Node) → Extends ns later → 65536 < length ns → 65536 < length later
still_longer ns later ext h = omega (arith, extends_length ns later ext, h)

-- nodes of a sheet in a later one
module _ (ns : List Node) (sheet : IsSheet ns) (later : List Node) (ext : Extends ns later) where
  pub later_width : (i : ℕ) → i < length ns → width_at later i ≡ width_at ns i
  later_width i b = ap (λ l. width_at l i) ext.1 ∙ sym (width_at-append ns sheet ext.0 i b)

  pub later_value : (e : Environment) (i : ℕ) → i < length ns → value_at e later i ≡ value_at e ns i
  later_value e i b = ap (λ l. value_at e l i) ext.1 ∙ sym (value_at-append ns sheet ext.0 e i b)

  pub stays : (w : ℕ) (a : NodeId) → IsOfWidth ns w a → IsOfWidth later w a
  stays w a h = (omega (arith, h.0, extends_length ns later ext), later_width a.0 h.0 ∙ h.1)

  pub sum_stays : (sum : Option NodeId) → IsSumSoFar ns sum → IsSumSoFar later sum
  sum_stays None h = tt
  sum_stays (Some sum) h = stays 64 sum h

  pub terms_stay : (ps : List Term) → AreTerms ns ps → AreTerms later ps
  terms_stay [] h = tt
  terms_stay (p ∷ ps) h = ((stays 64 p.0 h.0.0, h.0.1), terms_stay ps h.1)

pub made_extends : (ns : List Node) (n : Node) → Extends ns (made ns n).nodes
unfolding made
made_extends ns n = by_reduced (reduced ns n)
  where
    by_reduced : (r : Reduced) → Extends ns (placed ns r).nodes
    by_reduced (Old a) = same_extends ns
    by_reduced (New m) = elim (cases_Bool (list_any (is_same_node m) ns)) [
      | inl there ↦ rw there (same_extends ns)
      | inr new ↦ rw new (m ∷ [], refl)
    ]

-- two nodes, one after the other
pub made_twice : (ns ms : List Node) (m : Node) → Extends ns ms → Extends ns (made ms m).nodes
made_twice ns ms m h = extends_trans ns ms (made ms m).nodes h (made_extends ms m)

pub multiple_extends : (ns : List Node) (w q : ℕ) (a : NodeId) → Extends ns (multiple ns w q a).nodes
unfolding multiple
multiple_extends ns w q a = by_exponent (exponent 64 q)
  where
    by_exponent : (k : Option ℕ) → Extends ns (multiple_by ns w q a k).nodes
    by_exponent (Some k) = elim (cases_Bool (k == 0)) [ inl t ↦ rw t (same_extends ns) | inr f ↦ rw f (made_extends ns (Shl a k)) ]
    by_exponent None =
        let number : Made = made ns (Const w q) in
        made_twice ns number.nodes (Mul number.id a) (made_extends ns (Const w q))

pub plus_extends : (ns : List Node) (sum : Option NodeId) (p : Term) → Extends ns (plus_term ns sum p).nodes
plus_extends ns None p = multiple_extends ns 64 p.1 p.0
plus_extends ns (Some sum) p =
    let term : Made = multiple ns 64 p.1 p.0 in
    made_twice ns term.nodes (Add sum term.id) (multiple_extends ns 64 p.1 p.0)

pub begun_extends : (ns : List Node) (sum : Option NodeId) → Extends ns (begun ns sum).nodes
begun_extends ns None = made_extends ns (Const 64 0)
begun_extends ns (Some sum) = same_extends ns

pub minus_extends : (ns : List Node) (sum : Option NodeId) (p : Term) → Extends ns (minus_term ns sum p).nodes
minus_extends ns sum p =
    let first : Made = begun ns sum in
    let term : Made = multiple first.nodes 64 (2 ^ 64 - p.1) p.0 in
    made_twice ns term.nodes (Sub first.id term.id)
    (extends_trans ns first.nodes term.nodes (begun_extends ns sum) (multiple_extends first.nodes 64 (2 ^ 64 - p.1) p.0))

pub added_extends : (ns : List Node) (ps : List Term) → Extends ns (added ns ps).nodes
unfolding added
added_extends ns [] = same_extends ns
added_extends ns (p ∷ ps) =
    let before : Sum = added ns ps in
    elim (cases_Bool (is_added p)) [
      | inl t ↦ rw t (extends_trans ns before.nodes (plus_term before.nodes before.node p).nodes (added_extends ns ps) (plus_extends before.nodes before.node p))
      | inr f ↦ rw f (added_extends ns ps)
    ]

pub subtracted_extends : (s : Sum) (ps : List Term) → Extends s.nodes (subtracted s ps).nodes
unfolding subtracted
subtracted_extends s [] = same_extends s.nodes
subtracted_extends s (p ∷ ps) =
    let before : Sum = subtracted s ps in
    elim (cases_Bool (is_added p)) [
      | inl t ↦ rw t (subtracted_extends s ps)
      | inr f ↦ rw f (extends_trans s.nodes before.nodes (minus_term before.nodes before.node p).nodes (subtracted_extends s ps) (minus_extends before.nodes before.node p))
    ]

pub sum_extends : (ns : List Node) (ps : List Term) → Extends ns (sum_of ns ps).nodes
sum_extends ns ps = extends_trans ns (added ns ps).nodes (sum_of ns ps).nodes (added_extends ns ps) (subtracted_extends (added ns ps) ps)

pub constant_extends : (ns : List Node) (c : ℕ) (sum : Option NodeId) → Extends ns (with_constant ns c sum).nodes
constant_extends ns c None = made_extends ns (Const 64 c)
constant_extends ns c (Some sum) =
    let number : Made = made ns (Const 64 c) in
    elim (cases_Bool (c == 0)) [
      | inl t ↦ rw t (same_extends ns)
      | inr f ↦ rw f (made_twice ns number.nodes (Add sum number.id) (made_extends ns (Const 64 c)))
    ]

pub equation_extends : (ns : List Node) (c : ℕ) (sum : Option NodeId) → Extends ns (equation ns c sum).nodes
equation_extends ns c None = made_extends ns (Const 1 (bit (c == 0)))
equation_extends ns c (Some sum) =
    let number : Made = made ns (Const 64 (minus 64 0 c)) in
    made_twice ns number.nodes (Eq sum number.id) (made_extends ns (Const 64 (minus 64 0 c)))

-- what was too long still is
module _ (ns : List Node) (long : 65536 < length ns) where
  pub made_longer : (n : Node) → 65536 < length (made ns n).nodes
  made_longer n = still_longer ns (made ns n).nodes (made_extends ns n) long

  pub multiple_longer : (w q : ℕ) (a : NodeId) → 65536 < length (multiple ns w q a).nodes
  multiple_longer w q a = still_longer ns (multiple ns w q a).nodes (multiple_extends ns w q a) long

  pub subtracted_longer : (sum : Option NodeId) (ps : List Term) → 65536 < length (subtracted (record { nodes = ns; node = sum }) ps).nodes
  subtracted_longer sum ps =
      still_longer ns (subtracted (record { nodes = ns; node = sum }) ps).nodes (subtracted_extends (record { nodes = ns; node = sum }) ps) long

  pub constant_longer : (c : ℕ) (sum : Option NodeId) → 65536 < length (with_constant ns c sum).nodes
  constant_longer c sum = still_longer ns (with_constant ns c sum).nodes (constant_extends ns c sum) long

  pub equation_longer : (c : ℕ) (sum : Option NodeId) → 65536 < length (equation ns c sum).nodes
  equation_longer c sum = still_longer ns (equation ns c sum).nodes (equation_extends ns c sum) long

-- a multiple is as long as by its exponent
pub multiple_by_longer : (ns : List Node) (w q : ℕ) (a : NodeId) (k : Option ℕ) → k ≡ exponent 64 q
    → 65536 < length (multiple_by ns w q a k).nodes → 65536 < length (multiple ns w q a).nodes
unfolding multiple
multiple_by_longer ns w q a k is h = subst (λ j. 65536 < length (multiple_by ns w q a j).nodes) is h

-- the sum is as long as the part of it that is added
pub sum_longer : (ns : List Node) (ps : List Term) → 65536 < length (added ns ps).nodes → 65536 < length (sum_of ns ps).nodes
sum_longer ns ps h = still_longer (added ns ps).nodes (sum_of ns ps).nodes (subtracted_extends (added ns ps) ps) h

pub equality_extends : (ns : List Node) (a b : NodeId) → Extends ns (equality ns a b).nodes
unfolding equality
equality_extends ns a b = elim (cases_Bool (is_least_subtracted (difference_terms ns a b))) [
  | inl t ↦ rw t (one_way b a)
  | inr f ↦ rw f (one_way a b)
]
  where
    one_way : (c d : NodeId) → Extends ns (no_difference ns c d).nodes
    one_way c d =
        let sum : Sum = sum_of ns (difference_terms ns c d) in
        extends_trans ns sum.nodes (equation sum.nodes (difference_form ns c d).constant sum.node).nodes (sum_extends ns (difference_terms ns c d))
        (equation_extends sum.nodes (difference_form ns c d).constant sum.node)
