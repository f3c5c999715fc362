-- What a sheet's list of widths says of its nodes, in the forms in which the rules ask for it.
use Rattle.std.proofs.Common.{◌≡◌, ℕ, zero, suc, ◌+◌, ◌<◌, ◌≤◌, ◌^◌, List, [], ◌∷◌, ◌++◌, false, length, length-append, get_or, refl, sym, ◌∙◌, ap, subst, arith, inl, inr}
use Rattle.std.specs.Prelude.{slice_index, unwrap_or}
use Rattle.std.specs.List.{AllByRecursion, list_any}
use Rattle.node_values.specs.declared.node.Node.{Node}
use Rattle.node_values.specs.declared.node.Node.TheVariants.{Const}
use Rattle.node_values.specs.Nodes.{AreWordWidths, IsNode, arguments, node_width}
use Rattle.node_forms.specs.Linearity.{constant_of}
use Rattle.terms.specs.Rules.{number_at}
use Rattle.node_values.specs.Sheets.{node_at, value_at, width_at}
use Rattle.node_values.specs.Values.{Environment, node_value}
use Rattle.node_values.proofs.NodeLaws.{SameAt, arguments_lower, node_value_same}
use Rattle.node_values.proofs.SheetLaws.{IsSheet-push, at_arguments, value_at-below, value_at-is, width_at-append, width_at-is, width_at-push}
use Rattle.terms.proofs.DistinctNodes.{distinct_push}
use Rattle.terms.proofs.GrowingNodes.{IsNode_grows}
use Rattle.std.proofs.lemmas.Bool.{cases_lt}
use Rattle.std.proofs.lemmas.List.{get_or_past}
use Rattle.std.proofs.lemmas.Nat.{pow_pos}
use Rattle.node_forms.proofs.WidthLists.{node_by_widths, same_widths, word_widths}
use Rattle.std.proofs.Math.ListN.{get_or-append}
use Rattle.std.proofs.Math.Seq.{get_or-append_seam}
use Rattle.terms.specs.Kept.{IsKeptSheet}
use Rattle.terms.specs.Made.{is_same_node}
use Rattle.terms.specs.Sheet.{IsWidthList}

module _ (ns : List Node) (widths : List ℕ) (list : IsWidthList ns widths) where
  pub list_words : AreWordWidths widths
  list_words = word_widths ns widths list.1 list.0

  pub list_node : (i : ℕ) → i < length ns → IsNode (slice_index widths) i (node_at ns i)
  list_node i b = node_by_widths ns widths list.1 list.0 i b

  pub list_widths : slice_index widths ≡ width_at ns
  list_widths = same_widths ns widths list.1

  -- a node by the widths of the sheet, and by the list
  pub node_by_list : (n : Node) → IsNode (width_at ns) (length ns) n → IsNode (slice_index widths) (length ns) n
  node_by_list n h = subst (λ f. IsNode f (length ns) n) (sym list_widths) h

-- the arguments of a node are among the nodes before it
pub arguments_inside : (widths : ℕ → ℕ) (n : ℕ) (node : Node) → IsNode widths n node → AllByRecursion (λ i. i < n) (arguments node)
arguments_inside widths n node h = arguments_lower (λ i. i < n) widths n node h (λ j b. b)

-- a node of the sheet, as one over all its nodes
module _ (ns : List Node) (widths : List ℕ) (list : IsWidthList ns widths) where
  pub node_over_all : (i : ℕ) → i < length ns → IsNode (slice_index widths) (length widths) (node_at ns i)
  node_over_all i b =
      IsNode_grows (slice_index widths) i (length widths) (node_at ns i) (omega (arith, list.1.0, b)) (list_node ns widths list i b)

-- the values so far are those of the sheet, and words
module _ (ns : List Node) (widths values : List ℕ) (list : IsWidthList ns widths) (e : Environment) (n : ℕ) (inside : n ≤ length ns) (len : length values ≡ n)
    (are : (i : ℕ) → i < n → slice_index values i ≡ value_at e ns i) where
  pub value_words : (i : ℕ) → slice_index values i < 2 ^ slice_index widths i
  value_words i = elim (cases_lt i n) [
    | inl lower ↦
        let same : slice_index widths i ≡ width_at ns i = ap (λ f. f i) (list_widths ns widths list) in
        rw (are i lower, same) (value_at-below ns list.0 e i (omega (arith, lower)))
    | inr upper ↦
        let none : slice_index values i ≡ 0 = get_or_past values i 0 (omega (arith, len)) in
        rw none (pow_pos (slice_index widths i))
  ]

  pub next_value : n < length ns → node_value e (slice_index widths) (slice_index values) (node_at ns n) ≡ value_at e ns n
  next_value b =
      node_value_same e (slice_index widths) (width_at ns) (slice_index values) (value_at e ns) (node_at ns n)
      (at_arguments ns list.0 (SameAt e (slice_index widths) (width_at ns) (slice_index values) (value_at e ns)) n b
      (λ j h. (ap (λ f. f j) (list_widths ns widths list), are j h)))
      ∙ sym (value_at-is ns list.0 e n b)

-- the number of a constant is a word of the width that is listed
module _ (ns : List Node) (widths : List ℕ) (list : IsWidthList ns widths) where
  constant_word : (i : ℕ) (n : Node) → i < length ns → IsNode (width_at ns) i n → width_at ns i ≡ node_width (width_at ns) n
      → unwrap_or (constant_of n) 0 < 2 ^ width_at ns i
  constant_word i (Const w v) b h e = rw e h.2
  constant_word i _ b h e = pow_pos (width_at ns i)

  pub number_word : (i : ℕ) → number_at ns i < 2 ^ slice_index widths i
  number_word i = elim (cases_lt i (length ns)) [
    | inl inside ↦
        let same : slice_index widths i ≡ width_at ns i = ap (λ f. f i) (list_widths ns widths list) in
        rw same (constant_word i (node_at ns i) inside (list.0 i inside) (width_at-is ns list.0 i inside))
    | inr past ↦
        let none : number_at ns i ≡ 0 = ap (λ n. unwrap_or (constant_of n) 0) (get_or_past ns i (Const 0 0) past) in
        rw none (pow_pos (slice_index widths i))
  ]

  pub list_ranged : (i : ℕ) → i < length ns → (0 < slice_index widths i) × (slice_index widths i ≤ 64)
  list_ranged i b = list_words ns widths list i (omega (arith, list.1.0, b))

-- one more node and its width
pub kept_push : (ns : List Node) (bits : List ℕ) (n : Node) (b : ℕ) → IsKeptSheet ns bits → IsNode (width_at ns) (length ns) n → length ns < 65536
    → b ≡ node_width (width_at ns) n → list_any (is_same_node n) ns ≡ false → IsKeptSheet (ns ++ n ∷ []) (bits ++ b ∷ [])
kept_push ns bits n b kept node room same absent = record {
  sheet = IsSheet-push ns kept.sheet n node;
  distinct = distinct_push ns n absent kept.distinct;
  widths = (omega (arith, length-append ns (n ∷ []), length-append bits (b ∷ []), kept.widths.0), each);
  room = omega (arith, length-append ns (n ∷ []));
}
  where
    each : (i : ℕ) → i < length (ns ++ n ∷ []) → slice_index (bits ++ b ∷ []) i ≡ width_at (ns ++ n ∷ []) i
    each i h = elim (cases_lt i (length ns)) [
      | inl lower ↦
          get_or-append bits (b ∷ []) 0 i (omega (arith, kept.widths.0)) ∙ kept.widths.1 i lower ∙ width_at-append ns kept.sheet (n ∷ []) i lower
      | inr upper ↦
          let last : i ≡ length ns = omega (arith, length-append ns (n ∷ [])) in
          let end : i ≡ length bits = omega (arith, kept.widths.0) in
          ap (slice_index (bits ++ b ∷ [])) end ∙ get_or-append_seam bits b [] 0 ∙ same ∙ sym (width_at-push ns kept.sheet n node) ∙ ap (width_at (ns ++ n ∷ [])) (sym last)
    ]

-- the default of a look-up within a list does not matter
pub same_at : (ns : List Node) (i : ℕ) (c d : Node) → i < length ns → get_or ns i c ≡ get_or ns i d
same_at [] i c d b = absurd (omega arith)
same_at (n ∷ ns) zero c d b = refl
same_at (n ∷ ns) (suc i) c d b = same_at ns i c d (omega arith)

module _ (ns : List Node) (widths : List ℕ) (list : IsWidthList ns widths) where
  -- the listed width of a node is its operator's
  pub list_width : (i : ℕ) → i < length ns → slice_index widths i ≡ node_width (slice_index widths) (node_at ns i)
  list_width i b = subst (λ f. f i ≡ node_width f (node_at ns i)) (sym (list_widths ns widths list)) (width_at-is ns list.0 i b)

  -- one more value
  pub pushed_values : (e : Environment) (n : ℕ) (values : List ℕ) (v : ℕ) (more : List ℕ) → n < length ns → length values ≡ n
      → ((i : ℕ) → i < n → slice_index values i ≡ value_at e ns i)
      → v ≡ node_value e (slice_index widths) (slice_index values) (node_at ns n) → more ≡ values ++ v ∷ []
      → (i : ℕ) → i < n + 1 → slice_index more i ≡ value_at e ns i
  pushed_values e n values v more b len each is e_more i h = elim (cases_lt i n) [
    | inl lower ↦ ap (λ vs. slice_index vs i) e_more ∙ get_or-append values (v ∷ []) 0 i (omega (arith, len)) ∙ each i lower
    | inr upper ↦
        let last : i ≡ n = omega arith in
        let end : i ≡ length values = omega (arith, len) in
        ap (λ vs. slice_index vs i) e_more ∙ ap (slice_index (values ++ v ∷ [])) end ∙ get_or-append_seam values v [] 0
        ∙ is ∙ next_value ns widths values list e n (omega arith) len each b ∙ ap (value_at e ns) (sym last)
  ]
