-- Trees and whole certificates are read rightly.
use Rattle.std.proofs.Common.{◌≡◌, inl, inr, ℕ, suc, zero, ◌^◌, List, [], ◌∷◌, ◌++◌, length, map, refl, sym, ap, ◌∙◌, subst, append_assoc, arith}
use Rattle.std.specs.Prelude.{codes, ℤ, pos, negsuc}
use Rattle.std.specs.List.{AllByRecursion}
use Rattle.duty_claims.specs.declared.duty.Relation.{Relation}
use Rattle.duty_claims.specs.declared.duty.Relation.TheVariants.{Apart, Offset}
use Rattle.product_automaton.specs.declared.product.PEdge.{PEdge}
use Rattle.product_automaton.specs.declared.product.PNode.{PNode}
use Rattle.refutations.specs.declared.step.Step.{Step}
use Rattle.refutations.specs.declared.tree.Tree.{Tree}
use Rattle.refutations.specs.declared.tree.Tree.TheOpen.{Tree-F, Leaf, Split}
use Rattle.refutations.specs.declared.tree.Tree.TheViews.{roll-Tree, out-Tree, out-roll-Tree, roll-out-Tree}
use Rattle.refutations.specs.declared.tree.Tree.TheFolds.{fold-roll-Tree}
use Rattle.text_codes.specs.Codes.{Reads}
use Rattle.text_codes.specs.Endings.{may_end}
use Rattle.text_codes.specs.Lists.{texts_of, AreListed, EachNumbered, numbered_of}
use Rattle.text_codes.specs.Numbers.{IsWithin, settled_at}
use Rattle.text_codes.specs.Readers.{behind, made_at, numbered_at, times_at, word_at}
use Rattle.text_codes.specs.declared.numbers.Ending.TheVariants.{By}
use Rattle.text_codes.proofs.Choices.{IsLetter, letters_reads}
use Rattle.text_codes.proofs.Combined.{Anything, made_reads, behind_reads, pair_reads, then_reads, times_reads, word_reads, counted_reads, numbered_reads}
use Rattle.text_codes.proofs.Ranges.{by_reads}
use Rattle.certificate_file.specs.declared.certificate.Certificate.{Certificate}
use Rattle.certificate_file.specs.Numbers.{space, newline, number_text, integer_text, IsI8, IsU32, IsU64, lines_text, AreCounted}
use Rattle.certificate_file.specs.Products.{node_text, NodeFits, edge_text, EdgeFits}
use Rattle.certificate_file.specs.Steps.{step_text, StepFits}
use Rattle.certificate_file.specs.Texts.{certificate_text, CertificateFits}
use Rattle.certificate_file.specs.Trees.{relation_text, RelationFits, joined, split_text, layer_text, tree_text, LayerFits, TreeFits}
use Rattle.certificate_file.specs.ProductReading.{u32_at, u64_at, lines_at, node_at, edge_at}
use Rattle.certificate_file.specs.StepReading.{integer_at, step_at}
use Rattle.certificate_file.specs.TreeReading.{relation_at, leaf_at, Front, front_at, split_at, tree_at, nodes_at, certificate_at}
use Rattle.certificate_file.proofs.FieldTexts.{u32_reads, u64_reads, lines_reads}
use Rattle.certificate_file.proofs.ProductTexts.{node_reads, edge_reads}
use Rattle.certificate_file.proofs.StepTexts.{IsBetween, integer_reads, step_reads}

-- relations

abbrev relation_letter : Relation → ℕ
relation_letter Apart = 97
relation_letter (Offset d) = 111

abbrev relation_body : Relation → List ℕ
relation_body Apart = codes "part "
relation_body (Offset d) = codes "ff " ++ integer_text space d

relation_reads : Reads relation_text RelationFits relation_at
relation_reads =
    letters_reads relation_text RelationFits relation_letter relation_body text_is Apart tt
    (97, made_at (λ (u : Unit {0}). Apart) (word_at (codes "part "))) ((111, made_at (λ (d : ℤ). Offset d) (behind (codes "ff ") (integer_at 128 127 space))) ∷ []) (
      made_reads relation_body (λ r. RelationFits r × (relation_letter r ≡ 97)) (λ (u : Unit {0}). codes "part ") Anything (λ (u : Unit {0}). Apart) (word_at (codes "part "))
          (record { text = λ u h. refl; fits = λ u h. (tt, refl); from = from_apart }) (word_reads (codes "part ")),
      (
        made_reads relation_body (λ r. RelationFits r × (relation_letter r ≡ 111)) (λ d. codes "ff " ++ integer_text space d) (IsBetween 128 127) (λ (d : ℤ). Offset d) _
            (record { text = λ u h. refl; fits = λ u h. (back u h, refl); from = from_offset })
            (behind_reads (codes "ff ") (integer_text space) (IsBetween 128 127) (integer_at 128 127 space)
            (integer_reads 128 127 space (omega arith) (omega arith) (omega arith) (omega arith) (omega arith))),
        tt,
      ),
    )
    among
  where
    text_is : (r : Relation) → RelationFits r → relation_text r ≡ relation_letter r ∷ relation_body r
    text_is Apart h = refl
    text_is (Offset d) h = refl

    among : (r : Relation) → RelationFits r → IsLetter (relation_letter r)
        ((97, made_at (λ (u : Unit {0}). Apart) (word_at (codes "part "))) ∷ (111, made_at (λ (d : ℤ). Offset d) (behind (codes "ff ") (integer_at 128 127 space))) ∷ [])
    among Apart h = inl refl
    among (Offset d) h = inr (inl refl)

    from_apart : (r : Relation) → RelationFits r × (relation_letter r ≡ 97) → (u : Unit {0}) × (Unit {0} × (Apart ≡ r))
    from_apart Apart h = (tt, (tt, refl))
    from_apart (Offset d) h = absurd (omega (arith, h.1))

    back : (z : ℤ) → IsBetween 128 127 z → IsI8 z
    back (pos n) h = h
    back (negsuc n) h = h

    there : (z : ℤ) → IsI8 z → IsBetween 128 127 z
    there (pos n) h = h
    there (negsuc n) h = h

    from_offset : (r : Relation) → RelationFits r × (relation_letter r ≡ 111) → (d : ℤ) × (IsBetween 128 127 d × (Offset d ≡ r))
    from_offset (Offset d) h = (d, (there d h.0, refl))
    from_offset Apart h = absurd (omega (arith, h.1))

-- trees

abbrev layer_letter : Tree-F Tree → ℕ
layer_letter (Leaf shown) = 108
layer_letter (Split i j rels proof kids) = 115

abbrev front_text : Front → List ℕ
front_text p = number_text space p.0 ++ (number_text space p.1.0 ++ ((number_text space (length p.1.1.0) ++ texts_of relation_text p.1.1.0) ++ lines_text step_text p.1.1.1))

abbrev FrontFits : Front → Type 0
FrontFits p = IsU32 p.0 × (IsU32 p.1.0 × ((IsWithin (2 ^ 64) 1 (length p.1.1.0) × AllByRecursion RelationFits p.1.1.0) × AreCounted StepFits p.1.1.1))

-- what is behind the letter of a tree
abbrev layer_body : Tree-F Tree → List ℕ
layer_body (Leaf shown) = codes "eaf " ++ lines_text step_text shown.steps
layer_body (Split i j rels proof kids) = codes "plit " ++ (front_text (i, (j, (rels, proof.steps))) ++ texts_of tree_text kids)

pub joined-map : (kids : List Tree) → joined (map tree_text kids) ≡ texts_of tree_text kids
unfolding texts_of
joined-map [] = refl
joined-map (kid ∷ kids) = ap (λ (t : List ℕ). tree_text kid ++ t) (joined-map kids)

regrouped : (w a b c d e f : List ℕ) → (w ++ (a ++ (b ++ (c ++ (d ++ e))))) ++ f ≡ w ++ ((a ++ (b ++ ((c ++ d) ++ e))) ++ f)
regrouped w a b c d e f = simp append_assoc

layer_is : (x : Tree-F Tree) → tree_text (roll-Tree x) ≡ layer_letter x ∷ layer_body x
layer_is (Leaf shown) = fold-roll-Tree (List ℕ) layer_text (Leaf shown)
layer_is (Split i j rels proof kids) =
    fold-roll-Tree (List ℕ) layer_text (Split i j rels proof kids)
    ∙ (ap (λ (t : List ℕ). split_text i j rels proof.steps ++ t) (joined-map kids)
    ∙ regrouped (codes "split ") (number_text space i) (number_text space j) (number_text space (length rels)) (texts_of relation_text rels) (lines_text step_text proof.steps) (texts_of tree_text kids))

abbrev tree_letter : Tree → ℕ
tree_letter t = layer_letter (out-Tree t)

abbrev tree_body : Tree → List ℕ
tree_body t = layer_body (out-Tree t)

text_is : (t : Tree) → tree_text t ≡ tree_letter t ∷ tree_body t
text_is t = ap tree_text (sym (roll-out-Tree t)) ∙ layer_is (out-Tree t)

front_reads : Reads front_text FrontFits front_at
front_reads =
    pair_reads (number_text space) IsU32 _ _ (u32_at space) _ (u32_reads space (omega arith))
    (pair_reads (number_text space) IsU32 _ _ (u32_at space) _ (u32_reads space (omega arith))
    (pair_reads (λ rels. number_text space (length rels) ++ texts_of relation_text rels) (λ rels. IsWithin (2 ^ 64) 1 (length rels) × AllByRecursion RelationFits rels)
    (lines_text step_text) (AreCounted StepFits) _ (lines_at step_at)
    (counted_reads (number_text space) (IsWithin (2 ^ 64) 1) (settled_at (2 ^ 64) 1 (may_end (By space))) relation_text RelationFits relation_at
    (by_reads (2 ^ 64) 1 space (omega arith) (omega arith) (omega arith) (omega arith)) relation_reads)
    (lines_reads step_text StepFits step_at step_reads)))

leaf_reads : (K : Tree → Type 0) → Reads tree_body (λ t. LayerFits K (out-Tree t) × (tree_letter t ≡ 108)) leaf_at
leaf_reads K =
    made_reads tree_body (λ t. LayerFits K (out-Tree t) × (tree_letter t ≡ 108)) (λ steps. codes "eaf " ++ lines_text step_text steps) (AreCounted StepFits)
    (λ (steps : List Step). roll-Tree (Leaf (record { steps = steps }))) _
    (record {
      text = λ u h. ap layer_body (out-roll-Tree (Leaf (record { steps = u })));
      fits = λ u h. subst (λ (x : Tree-F Tree). LayerFits K x × (layer_letter x ≡ 108)) (sym (out-roll-Tree (Leaf (record { steps = u })))) (h, refl);
      from = λ t h. from t (out-Tree t) refl h;
    })
    (behind_reads (codes "eaf ") (lines_text step_text) (AreCounted StepFits) (lines_at step_at) (lines_reads step_text StepFits step_at step_reads))
  where
    from : (t : Tree) (x : Tree-F Tree) → out-Tree t ≡ x → LayerFits K x × (layer_letter x ≡ 108)
        → (steps : List Step) × (AreCounted StepFits steps × (roll-Tree (Leaf (record { steps = steps })) ≡ t))
    from t (Leaf shown) e h = (shown.steps, (h.0, ap (λ (x : Tree-F Tree). roll-Tree x) (sym e) ∙ roll-out-Tree t))
    from t (Split i j rels proof kids) e h = absurd (omega (arith, h.1))

abbrev Parted : Type 0
Parted = Front × List Tree

abbrev split_layer : Parted → Tree-F Tree
split_layer p = Split p.0.0 p.0.1.0 p.0.1.1.0 (record { steps = p.0.1.1.1 }) p.1

abbrev PartsFit : ℕ → Parted → Type 0
PartsFit depth p = FrontFits p.0 × AreListed (TreeFits depth) (length p.0.1.1.0) p.1

split_reads : (depth : ℕ) → Reads tree_text (TreeFits depth) (tree_at depth)
    → Reads tree_body (λ t. TreeFits (suc depth) t × (tree_letter t ≡ 115)) (split_at (tree_at depth))
split_reads depth rd =
    made_reads tree_body (λ t. TreeFits (suc depth) t × (tree_letter t ≡ 115)) (λ (p : Parted). codes "plit " ++ (front_text p.0 ++ texts_of tree_text p.1)) (PartsFit depth)
    (λ (p : Parted). roll-Tree (split_layer p)) _
    (record {
      text = λ u h. ap layer_body (out-roll-Tree (split_layer u));
      fits = λ u h. subst (λ (x : Tree-F Tree). LayerFits (TreeFits depth) x × (layer_letter x ≡ 115)) (sym (out-roll-Tree (split_layer u))) (layer_fits u h, refl);
      from = λ t h. from t (out-Tree t) refl h;
    })
    (behind_reads (codes "plit ") (λ (p : Parted). front_text p.0 ++ texts_of tree_text p.1) (PartsFit depth) _
    (then_reads front_text FrontFits (λ front. texts_of tree_text) (λ front. AreListed (TreeFits depth) (length front.1.1.0)) front_at
    (λ front. times_at (tree_at depth) (length front.1.1.0)) front_reads
    (λ front h. times_reads tree_text (TreeFits depth) (tree_at depth) rd (length front.1.1.0))))
  where
    layer_fits : (u : Parted) → PartsFit depth u → LayerFits (TreeFits depth) (split_layer u)
    layer_fits u h = (h.0.0, (h.0.1.0, (h.0.1.1.0.0.0, ((h.0.1.1.0.0.1, h.0.1.1.0.1), (h.0.1.1.1, h.1)))))

    from : (t : Tree) (x : Tree-F Tree) → out-Tree t ≡ x → LayerFits (TreeFits depth) x × (layer_letter x ≡ 115)
        → (u : Parted) × (PartsFit depth u × (roll-Tree (split_layer u) ≡ t))
    from t (Leaf shown) e h = absurd (omega (arith, h.1))
    from t (Split i j rels proof kids) e h = (
      ((i, (j, (rels, proof.steps))), kids),
      (
        ((h.0.0, (h.0.1.0, (((h.0.1.1.0, h.0.1.1.1.0.0), h.0.1.1.1.0.1), h.0.1.1.1.1.0))), h.0.1.1.1.1.1),
        ap (λ (x : Tree-F Tree). roll-Tree x) (sym e) ∙ roll-out-Tree t,
      ),
    )

-- a leaf with no step
abbrev bare_layer : Tree-F Tree
bare_layer = Leaf (record { steps = [] })

bare_fits : (K : Tree → Type 0) → LayerFits K (out-Tree (roll-Tree bare_layer))
bare_fits K = subst (λ (x : Tree-F Tree). LayerFits K x) (sym (out-roll-Tree bare_layer)) (omega arith, tt)

no_split : (t : Tree) → TreeFits 0 t → IsLetter (tree_letter t) ((108, leaf_at) ∷ [])
no_split t h = along (out-Tree t) h
  where
    none : (kids : List Tree) → AllByRecursion (λ (kid : Tree). ⊥) kids → length kids ≡ 0
    none [] all = refl
    none (kid ∷ kids) all = absurd all.0

    along : (x : Tree-F Tree) → LayerFits (λ (kid : Tree). ⊥) x → IsLetter (layer_letter x) ((108, leaf_at) ∷ [])
    along (Leaf shown) h = inl refl
    along (Split i j rels proof kids) h = absurd (omega (arith, h.1.1.0, h.1.1.1.1.1.1, none kids h.1.1.1.1.1.0))

either_kind : (depth : ℕ) (t : Tree) → IsLetter (tree_letter t) ((108, leaf_at) ∷ (115, split_at (tree_at depth)) ∷ [])
either_kind depth t = along (out-Tree t)
  where
    along : (x : Tree-F Tree) → IsLetter (layer_letter x) ((108, leaf_at) ∷ (115, split_at (tree_at depth)) ∷ [])
    along (Leaf shown) = inl refl
    along (Split i j rels proof kids) = inr (inl refl)

pub tree_reads : (depth : ℕ) → Reads tree_text (TreeFits depth) (tree_at depth)
tree_reads zero =
    letters_reads tree_text (TreeFits 0) tree_letter tree_body (λ t h. text_is t) (roll-Tree bare_layer) (bare_fits (λ (kid : Tree). ⊥)) (108, leaf_at) []
    (leaf_reads (λ (kid : Tree). ⊥), tt) no_split
tree_reads (suc depth) =
    letters_reads tree_text (TreeFits (suc depth)) tree_letter tree_body (λ t h. text_is t) (roll-Tree bare_layer) (bare_fits (TreeFits depth))
    (108, leaf_at) ((115, split_at (tree_at depth)) ∷ [])
    (leaf_reads (TreeFits depth), (split_reads depth (tree_reads depth), tt)) (λ t h. either_kind depth t)

-- certificates

nodes_reads : Reads (λ ns. number_text newline (length ns) ++ numbered_of node_text 0 ns) (λ ns. IsU64 (length ns) × EachNumbered NodeFits 0 ns) nodes_at
nodes_reads =
    made_reads (λ ns. number_text newline (length ns) ++ numbered_of node_text 0 ns) (λ ns. IsU64 (length ns) × EachNumbered NodeFits 0 ns)
    (λ (p : ℕ × List PNode). number_text newline p.0 ++ numbered_of node_text 0 p.1)
    (λ (p : ℕ × List PNode). IsU64 p.0 × (EachNumbered NodeFits 0 p.1 × (length p.1 ≡ p.0))) (λ (p : ℕ × List PNode). p.1) _
    (record {
      text = λ u h. ap (λ (n : ℕ). number_text newline n ++ numbered_of node_text 0 u.1) h.1.1;
      fits = λ u h. (omega (arith, h.0, h.1.1), h.1.0);
      from = λ ns h. ((length ns, ns), ((h.0, (h.1, refl)), refl));
    })
    (then_reads (number_text newline) IsU64 (λ n. numbered_of node_text 0) (λ n ns. EachNumbered NodeFits 0 ns × (length ns ≡ n)) (u64_at newline) (numbered_at node_at 0)
    (u64_reads newline (omega arith)) (λ n h. numbered_reads node_text NodeFits node_at (λ i l. node_reads i) 0 n (omega (arith, h))))

abbrev Lists : Type 0
Lists = List PNode × (List PEdge × (List Tree × Unit {0}))

abbrev certificate_of : Lists → Certificate
certificate_of p = record { product = record { nodes = p.0; edges = p.1.0 }; trees = p.1.1.0 }

-- a certificate is read rightly
pub certificate_reads : Reads certificate_text CertificateFits certificate_at
certificate_reads =
    made_reads certificate_text CertificateFits _ _ certificate_of _
    (record {
      text = λ u h. refl;
      fits = λ u h. (h.0, (h.1.0, h.1.1.0));
      from = λ c h. ((c.product.nodes, (c.product.edges, (c.trees, tt))), ((h.0, (h.1.0, (h.1.1, tt))), refl));
    })
    (behind_reads (codes "align-certificate 1\nnodes ") _ _ _ (pair_reads _ _ _ _ nodes_at _ nodes_reads
    (behind_reads (codes "edges ") _ _ _ (pair_reads (lines_text edge_text) (AreCounted EdgeFits) _ _ (lines_at edge_at) _ (lines_reads edge_text EdgeFits edge_at edge_reads)
    (behind_reads (codes "duties ") _ _ _ (pair_reads (lines_text tree_text) (AreCounted (TreeFits 16)) (λ (u : Unit {0}). codes "end\n") Anything (lines_at (tree_at 16)) (word_at (codes "end\n"))
    (lines_reads tree_text (TreeFits 16) (tree_at 16) (tree_reads 16)) (word_reads (codes "end\n"))))))))
