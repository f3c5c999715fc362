-- The lines of a tree, and the ranges of what stands in them.
use Rattle.std.specs.Prelude.{◌≡◌, ℕ, zero, suc, ◌≤◌, List, [], ◌∷◌, ◌++◌, length, codes}
use Rattle.std.specs.List.{AllByRecursion}
use Rattle.duty_claims.specs.declared.duty.Relation.{Relation}
use Rattle.duty_claims.specs.declared.duty.Relation.TheVariants.{Apart, Offset}
use Rattle.refutations.specs.declared.step.Step.{Step}
use Rattle.refutations.specs.declared.tree.Tree.{Tree}
use Rattle.refutations.specs.declared.tree.Tree.TheOpen.{Tree-F, Leaf, Split}
use Rattle.refutations.specs.declared.tree.Tree.TheViews.{out-Tree}
use Rattle.refutations.specs.declared.tree.Tree.TheFolds.{fold-Tree}
use Rattle.text_codes.specs.Lists.{texts_of}
use Rattle.certificate_file.specs.Numbers.{space, number_text, integer_text, IsI8, IsU32, lines_text, AreCounted}
use Rattle.certificate_file.specs.Steps.{step_text, StepFits}

-- a relation of two accesses
abbrev pub relation_text : Relation → List ℕ
relation_text Apart = codes "apart "
relation_text (Offset d) = codes "off " ++ integer_text space d

-- a relation in its range
abbrev pub RelationFits : Relation → Type 0
RelationFits Apart = Unit {0}
RelationFits (Offset d) = IsI8 d

-- the texts of trees, one behind another
abbrev pub joined : List (List ℕ) → List ℕ
joined [] = []
joined (text ∷ texts) = text ++ joined texts

-- what stands in a split before its children
abbrev pub split_text : ℕ → ℕ → List Relation → List Step → List ℕ
split_text i j rels steps =
    codes "split " ++ (number_text space i ++ (number_text space j ++ (number_text space (length rels) ++ (texts_of relation_text rels
    ++ lines_text step_text steps))))

-- a leaf or a split, with the text of each child in its place
abbrev pub layer_text : Tree-F (List ℕ) → List ℕ
layer_text (Leaf shown) = codes "leaf " ++ lines_text step_text shown.steps
layer_text (Split i j rels proof kids) = split_text i j rels proof.steps ++ joined kids

-- the lines of a tree
abbrev pub tree_text : Tree → List ℕ
tree_text = fold-Tree (List ℕ) layer_text

-- a leaf, or a split by at least one relation with a child of this kind for each
abbrev pub LayerFits : {A : Type 0} → (A → Type 0) → Tree-F A → Type 0
LayerFits K (Leaf shown) = AreCounted StepFits shown.steps
LayerFits K (Split i j rels proof kids) =
    IsU32 i × (IsU32 j × ((1 ≤ length rels) × (AreCounted RelationFits rels × (AreCounted StepFits proof.steps
    × (AllByRecursion K kids × (length kids ≡ length rels))))))

-- a tree with at most so many splits above any leaf
abbrev pub TreeFits : ℕ → Tree → Type 0
TreeFits zero t = LayerFits (λ (kid : Tree). ⊥) (out-Tree t)
TreeFits (suc depth) t = LayerFits (TreeFits depth) (out-Tree t)
